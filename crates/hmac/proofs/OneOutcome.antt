-- What a result says in the scope's numbers and values, it alone says; and what those of a MAC in range are. Assumes nothing.
use Rattle.std.specs.Prelude.{Result, Ok, Err, ℕ, ◌≡◌, Bool, true, List}
use Rattle.std.proofs.Common.{refl, sym, ap, ◌∙◌}
use Rattle.answers.specs.declared.Refusal.{Refusal}
use Rattle.answers.proofs.Numbers.{number-one, number-some}
use Rattle.sm3.specs.State.{fresh, taken, digest_by}
use Rattle.sm3.proofs.OneOutcome.{digest_by-one_outcome}
use Rattle.sm3.proofs.Taken.{taken-fits}
use Rattle.hmac.specs.declared.HmacSm3.{HmacSm3}
use Rattle.hmac.specs.State.{Keyed, Verified, in_range, started, updated, finalized, verified, keyed_of, verified_by}
use Rattle.hmac.proofs.Range.{in_range_lem, outer_in}

-- of an update
pub keyed_of-one_outcome : (m : HmacSm3) (r s : Result HmacSm3 Refusal) → keyed_of m r ≡ keyed_of m s → r ≡ s
keyed_of-one_outcome m (Ok x) (Ok y) e = ap (λ (k : Keyed). Ok k.mac) e
keyed_of-one_outcome m (Ok x) (Err why) e = absurd (number-some why (sym (ap (λ (k : Keyed). k.answer) e)))
keyed_of-one_outcome m (Err why) (Ok y) e = absurd (number-some why (ap (λ (k : Keyed). k.answer) e))
keyed_of-one_outcome m (Err why) (Err other) e = ap Err (number-one why other (ap (λ (k : Keyed). k.answer) e))

-- of a verification
pub verified_by-one_outcome : (r s : Result Bool Refusal) → verified_by r ≡ verified_by s → r ≡ s
verified_by-one_outcome (Ok x) (Ok y) e = ap (λ (v : Verified). Ok v.matches) e
verified_by-one_outcome (Ok x) (Err why) e = absurd (number-some why (sym (ap (λ (v : Verified). v.answer) e)))
verified_by-one_outcome (Err why) (Ok y) e = absurd (number-some why (ap (λ (v : Verified). v.answer) e))
verified_by-one_outcome (Err why) (Err other) e = ap Err (number-one why other (ap (λ (v : Verified). v.answer) e))

-- ---- a MAC in range

-- a fresh one is
pub started-in_range : (K : List ℕ) → in_range (started K).mac ≡ true
unfolding started
started-in_range K = in_range_lem (started K).mac (taken-fits fresh _) (taken-fits fresh _)

-- it stays so, and its update is not refused
pub update-ok : (m : HmacSm3) (d : List ℕ) (r : Result HmacSm3 Refusal) → in_range m ≡ true → keyed_of m r ≡ updated m d
    → r ≡ Ok (updated m d).mac
unfolding updated
update-ok m d r k e = keyed_of-one_outcome m r (Ok (updated m d).mac) (e ∙ rw k refl)

pub updated-in_range : (m : HmacSm3) (d : List ℕ) → in_range m ≡ true → in_range (updated m d).mac ≡ true
unfolding updated
updated-in_range m d k =
    rw k (in_range_lem (record { inner = taken m.inner d; outer = m.outer }) (taken-fits m.inner d) (outer_in m k))

-- nor is its digest
pub digest-ok : (m : HmacSm3) (r : Result (List ℕ) Refusal) → in_range m ≡ true → digest_by r ≡ finalized m → r ≡ Ok (finalized m).bytes
unfolding finalized
digest-ok m r k e = digest_by-one_outcome r (Ok (finalized m).bytes) (e ∙ rw k refl)

-- nor a verification
pub verify-ok : (m : HmacSm3) (e : List ℕ) (r : Result Bool Refusal) → in_range m ≡ true → verified_by r ≡ verified m e
    → r ≡ Ok (verified m e).matches
unfolding verified finalized
verify-ok m e r k f = verified_by-one_outcome r (Ok (verified m e).matches) (f ∙ rw k refl)
