-- No two refusals have one number, and none has the number of an answer that is none. Assumes nothing.
use Rattle.std.specs.Prelude.{ℕ, zero, suc, Result, Ok, Err, ◌≡◌, IsOk}
use Rattle.std.proofs.Common.{refl, sym, ap, ◌∙◌, arith}
use Rattle.answers.specs.declared.Refusal.{Refusal}
use Rattle.answers.specs.Answers.{Done, number, number_of}

-- the refusal of a number
at : ℕ → Refusal
at zero = Refusal.WrongSize
at (suc zero) = Refusal.TooLong
at (suc (suc zero)) = Refusal.NoRoom
at (suc (suc (suc zero))) = Refusal.Short
at (suc (suc (suc (suc zero)))) = Refusal.Ragged
at (suc (suc (suc (suc (suc zero))))) = Refusal.TooBig
at (suc (suc (suc (suc (suc (suc zero)))))) = Refusal.BadRecord
at (suc (suc (suc (suc (suc (suc (suc zero))))))) = Refusal.BadState
at (suc (suc (suc (suc (suc (suc (suc (suc zero)))))))) = Refusal.Ended
at (suc (suc (suc (suc (suc (suc (suc (suc (suc n))))))))) = Refusal.WrongSize

-- it is the one that has it
at-number : (why : Refusal) → at (number why) ≡ why
unfolding at
at-number Refusal.TooLong = refl
at-number Refusal.NoRoom = refl
at-number Refusal.Short = refl
at-number Refusal.Ragged = refl
at-number Refusal.TooBig = refl
at-number Refusal.BadRecord = refl
at-number Refusal.BadState = refl
at-number Refusal.Ended = refl
at-number Refusal.WrongSize = refl

-- two refusals of one number are one
pub number-one : (why other : Refusal) → number why ≡ number other → why ≡ other
number-one why other e = sym (at-number why) ∙ ap at e ∙ at-number other

-- no refusal has the number of an answer that is none
pub number-some : (why : Refusal) → number why ≡ Done → ⊥
number-some Refusal.TooLong e = omega (arith, e)
number-some Refusal.NoRoom e = omega (arith, e)
number-some Refusal.Short e = omega (arith, e)
number-some Refusal.Ragged e = omega (arith, e)
number-some Refusal.TooBig e = omega (arith, e)
number-some Refusal.BadRecord e = omega (arith, e)
number-some Refusal.BadState e = omega (arith, e)
number-some Refusal.Ended e = omega (arith, e)
number-some Refusal.WrongSize e = omega (arith, e)

-- two results without a value that answer with one number are one
pub number_of-one_outcome : (r s : Result Unit Refusal) → number_of r ≡ number_of s → r ≡ s
number_of-one_outcome (Ok x) (Ok y) e = refl
number_of-one_outcome (Ok x) (Err why) e = absurd (number-some why (sym e))
number_of-one_outcome (Err why) (Ok x) e = absurd (number-some why e)
number_of-one_outcome (Err why) (Err other) e = ap Err (number-one why other e)

-- a result that answers with that number is no refusal
pub number_of-ok : {A : Type 0} (r : Result A Refusal) → number_of r ≡ Done → IsOk r
number_of-ok (Ok x) e = refl
number_of-ok (Err why) e = absurd (number-some why e)
