-- `replay::keys` hands out a half: the key block has 128 bytes, and so it is not refused. Assumes nothing.
use Rattle.std.specs.Prelude.{Result, Ok, List, ℕ, length}
use Rattle.std.proofs.Common.{◌≡◌, refl, ◌∙◌}
use Rattle.answers.specs.declared.Refusal.{Refusal}
use Rattle.record.specs.declared.RecordKeysCbc.{RecordKeysCbc}
use Rattle.record.specs.KeyBlock.{half_by, halved_by, keys_of}
use Rattle.record.proofs.OneOutcome.{half_by-one_outcome}
use Rattle.replay.proofs.keys.Goals as goal

-- a key block of 128 bytes has both halves
half : (keys : List ℕ → RecordKeysCbc) (b : List ℕ) (r : Result RecordKeysCbc Refusal) → length b ≡ 128
    → half_by r ≡ halved_by keys b → r ≡ Ok (keys b)
unfolding halved_by
half keys b r long e = half_by-one_outcome r (Ok (keys b)) (e ∙ rw long refl)

-- and so the role's
pub unwrap-requires : goal.unwrap-requires
unwrap-requires c =
    let made : c.from_key_block.result ≡ Ok (keys_of c.role.result c.array.result) =
    half _ _ _ c.array.ensures c.from_key_block.ensures in
    rw made refl
