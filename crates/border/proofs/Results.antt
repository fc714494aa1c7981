-- What a result's number and value at the border are. Assumes nothing.
use Rattle.std.specs.Prelude.{Result, Ok, Err, ℕ, ◌≡◌}
use Rattle.std.specs.Result.{result_unwrap_or}
use Rattle.std.proofs.Common.{refl}
use Rattle.answers.specs.declared.Refusal.{Refusal}
use Rattle.answers.specs.Answers.{number_of}
use Rattle.record.specs.Sealing.{reported}

-- the number that sealing is answered with
pub answered : (r : Result ℕ Refusal) → number_of r ≡ (reported r).answer
answered (Ok n) = refl
answered (Err why) = refl

-- the record's length, or none
pub length-or-none : (r : Result ℕ Refusal) → result_unwrap_or r 0 ≡ (reported r).length
length-or-none (Ok n) = refl
length-or-none (Err why) = refl
