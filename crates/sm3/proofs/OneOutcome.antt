-- What a result says in the scope's numbers and values, it alone says; and what those of a call that is not refused are. Assumes nothing.
use Rattle.std.specs.Prelude.{Result, Ok, Err, ℕ, ◌<◌, ◌≤◌, ◌≡◌, Bool, true, false, cond, nat_lt, List}
use Rattle.std.proofs.Common.{refl, sym, ap, ◌∙◌}
use borrow.Author.Tests.{ltb-true, ltb-false}
use Rattle.answers.specs.declared.Refusal.{Refusal}
use Rattle.answers.specs.Answers.{Done, BadState, number}
use Rattle.answers.proofs.Numbers.{number-one, number-some}
use Rattle.sm3.specs.declared.Sm3.{Sm3}
use Rattle.sm3.specs.State.{Updated, Digest, taken, updated, finalized, update_of, digest_by}
use Rattle.sm3.proofs.Ending.{digest_done}
use Rattle.sm3.proofs.Taken.{accepted}

-- of an update
pub update_of-one_outcome : (h : Sm3) (r s : Result Sm3 Refusal) → update_of h r ≡ update_of h s → r ≡ s
update_of-one_outcome h (Ok x) (Ok y) e = ap (λ (u : Updated). Ok u.hasher) e
update_of-one_outcome h (Ok x) (Err why) e = absurd (number-some why (sym (ap (λ (u : Updated). u.answer) e)))
update_of-one_outcome h (Err why) (Ok y) e = absurd (number-some why (ap (λ (u : Updated). u.answer) e))
update_of-one_outcome h (Err why) (Err other) e = ap Err (number-one why other (ap (λ (u : Updated). u.answer) e))

-- of a digest
pub digest_by-one_outcome : (r s : Result (List ℕ) Refusal) → digest_by r ≡ digest_by s → r ≡ s
digest_by-one_outcome (Ok x) (Ok y) e = ap (λ (d : Digest). Ok d.bytes) e
digest_by-one_outcome (Ok x) (Err why) e = absurd (number-some why (sym (ap (λ (d : Digest). d.answer) e)))
digest_by-one_outcome (Err why) (Ok y) e = absurd (number-some why (ap (λ (d : Digest). d.answer) e))
digest_by-one_outcome (Err why) (Err other) e = ap Err (number-one why other (ap (λ (d : Digest). d.answer) e))

-- a state that is not refused takes the part in
pub update-ok : (h : Sm3) (d : List ℕ) (r : Result Sm3 Refusal) → h.buffer_len < 64 → update_of h r ≡ updated h d → r ≡ Ok (taken h d)
update-ok h d r k e = update_of-one_outcome h r (Ok (taken h d)) (e ∙ sym (accepted h (taken h d) d k refl))

-- and it has a digest
pub digest-ok : (h : Sm3) (r : Result (List ℕ) Refusal) → h.buffer_len < 64 → digest_by r ≡ finalized h → r ≡ Ok (finalized h).bytes
digest-ok h r k e = digest_by-one_outcome r (Ok (finalized h).bytes) (e ∙ digest_done h k)

-- an update that is not refused was one of a state in range, and took the part in
pub update-fits : (h next : Sm3) (d : List ℕ) → update_of h (Ok next) ≡ updated h d → (h.buffer_len < 64) × (next ≡ taken h d)
unfolding updated
update-fits h next d = by (nat_lt h.buffer_len 64) refl
  where
    by : (t : Bool) → nat_lt h.buffer_len 64 ≡ t
        → update_of h (Ok next) ≡ cond t (update_of h (Ok (taken h d))) (record { answer = BadState; hasher = h })
        → (h.buffer_len < 64) × (next ≡ taken h d)
    by true k e = (ltb-true h.buffer_len 64 k, ap (λ (u : Updated). u.hasher) e)
    by false k e = absurd (number-some Refusal.BadState (sym (ap (λ (u : Updated). u.answer) e)))

-- one that is refused was not, and has the number of a broken state
pub update-broken : (h : Sm3) (d : List ℕ) (why : Refusal) → update_of h (Err why) ≡ updated h d
    → (64 ≤ h.buffer_len) × (number why ≡ BadState)
unfolding updated
update-broken h d why = by (nat_lt h.buffer_len 64) refl
  where
    by : (t : Bool) → nat_lt h.buffer_len 64 ≡ t
        → update_of h (Err why) ≡ cond t (update_of h (Ok (taken h d))) (record { answer = BadState; hasher = h })
        → (64 ≤ h.buffer_len) × (number why ≡ BadState)
    by true k e = absurd (number-some why (ap (λ (u : Updated). u.answer) e))
    by false k e = (ltb-false h.buffer_len 64 k, ap (λ (u : Updated). u.answer) e)

-- and so it is with a digest
pub digest-fits : (h : Sm3) (x : List ℕ) → digest_by (Ok x) ≡ finalized h → (h.buffer_len < 64) × (x ≡ (finalized h).bytes)
unfolding finalized
digest-fits h x e = (by (nat_lt h.buffer_len 64) refl (ap (λ (d : Digest). d.answer) e), ap (λ (d : Digest). d.bytes) e)
  where
    by : (t : Bool) → nat_lt h.buffer_len 64 ≡ t → Done ≡ (finalized h).answer → h.buffer_len < 64
    by true k e = ltb-true h.buffer_len 64 k
    by false k e = absurd (number-some Refusal.BadState (sym (rw k at e)))

pub digest-broken : (h : Sm3) (why : Refusal) → digest_by (Err why) ≡ finalized h → (64 ≤ h.buffer_len) × (number why ≡ BadState)
unfolding finalized
digest-broken h why e = by (nat_lt h.buffer_len 64) refl (ap (λ (d : Digest). d.answer) e)
  where
    by : (t : Bool) → nat_lt h.buffer_len 64 ≡ t → number why ≡ (finalized h).answer → (64 ≤ h.buffer_len) × (number why ≡ BadState)
    by true k e = absurd (number-some why (rw k at e))
    by false k e = (ltb-false h.buffer_len 64 k, rw k at e)
