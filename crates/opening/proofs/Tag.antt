-- What the chaining words mean: the kept ones are the inner hash of the MAC, and the value compared at the end is the MAC of RFC
-- 2104 over header and text cut to the length held, so the verdict is the record's exact acceptance. Assumes nothing.
use mathlib.Core.Bool.{Bool, true, false, cond}
use mathlib.Core.List.{List, ◌++◌}
use mathlib.Core.Path.{◌≡◌, refl, sym, ap, ◌∙◌}
use Prim.Native.Nat.{ℕ, suc, ◌-◌}
use native.Mathlib.Nat.{sub-zero}
use lib.ListN.{take, replicate}
use Rattle.answers.specs.Answers.{Done, BadRecord}
use Rattle.sm3.specs.Standard.{SM3, bytes_of}
use Rattle.hmac.specs.Rfc2104.{HMAC}
use Rattle.record.specs.Opened.{good_pad, held, text_in, mac_in, accepts}
use Rattle.record.specs.Standard.{header, tag_of}
use Rattle.mac_blocks.specs.Schedule.{ended, final, absorbed, inner_key, outer_key, outer_digest}
use Rattle.mac_blocks.proofs.Schedule.{absorbed-iteration, tag-blocks}
use Rattle.verdict.specs.declared.Verdict.{Verdict}
use Rattle.verdict.specs.Verdict.{verdict_of, cleared_from}
use Rattle.opening.specs.Closed.{inner_hash, compared}
use Rattle.opening.specs.Deprotected.{body_after}
use Rattle.opening.specs.Given.{Given, size, decrypted, tag_in, accepted, covered, answer_in, length_in}
use Rattle.opening.proofs.Fits.{Fits, length-decrypted, length-text}

-- the inner hash is the words after the final block
pub kept_is_inner-hash : (g : Given) → absorbed (inner_key g.keys.mac_key) (covered g) (suc (final (covered g))) ≡ inner_hash g
unfolding inner_hash ended
kept_is_inner-hash g = absorbed-iteration (inner_key g.keys.mac_key) (covered g)

-- the value that the last step compares with the MAC in the body is HMAC of RFC 2104 over header and text cut to the length held
pub hmac_at-end : (g : Given) → compared g ≡ HMAC SM3 g.keys.mac_key (covered g)
hmac_at-end g =
    let K = g.keys.mac_key in
    ap (λ (w : List ℕ). bytes_of (outer_digest (outer_key K) w)) (sym (kept_is_inner-hash g)) ∙ sym (tag-blocks K (covered g))

module _ (g : Given) {o : List ℕ} (f : Fits g o) where
  -- the decryption
  abbrev d : List ℕ
  d = decrypted g

  -- which is the record's MAC of that text
  pub tag-at-end : compared g ≡ tag_in g (text_in d)
  unfolding tag_of covered
  tag-at-end =
      hmac_at-end g
      ∙ ap (λ (l : ℕ). HMAC SM3 g.keys.mac_key (header g.seq g.type g.version l ++ text_in d)) (sym (length-text g f))

  -- the verdict on it and on the MAC in the body: answer 0 with the text's length exactly where the decryption is accepted
  pub verdict-at-end : verdict_of (good_pad d) (mac_in d) (compared g) (held d) ≡ record { answer = answer_in g; length = length_in g }
  unfolding verdict_of accepted accepts answer_in length_in
  verdict-at-end = rw tag-at-end (by (accepted g))
    where
      by : (t : Bool) → cond {A = Verdict} t (record { answer = Done; length = held d }) (record { answer = BadRecord; length = 0 })
          ≡ record { answer = cond t Done BadRecord; length = cond t (held d) 0 }
      by true = refl
      by false = refl

  -- the body cleared behind that length
  pub cleared-at-end : cleared_from (length_in g) d ≡ body_after g
  unfolding length_in body_after cleared_from text_in
  cleared-at-end = rw (length-decrypted g f) (by (accepted g))
    where
      by : (t : Bool) → take (cond t (held d) 0) d ++ replicate (size g - cond t (held d) 0) 0
          ≡ cond t (take (held d) d ++ replicate (size g - held d) 0) (replicate (size g) 0)
      by true = refl
      by false = rw (sub-zero (size g))
