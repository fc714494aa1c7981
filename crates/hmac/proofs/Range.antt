-- States in range and out of it. Assumes nothing.
use mathlib.Core.Bool.{Bool, true, false, ◌&&◌}
use mathlib.Core.List.{List}
use mathlib.Core.Path.{◌≡◌, sym, ap, ◌∙◌}
use Prim.Native.Nat.{ℕ, ◌≤◌, ◌<◌}
use borrow.Author.Tests.{ltb-true, lt-ltb, le-ltb, ne_eqb}
use lib.Dec.{eqb, ltb}
use Rattle.std.proofs.lemmas.Bool.{and_parts, and_right}
use lib.ListN.{replicate}
use Rattle.std.specs.Prelude.{Err}
use Rattle.answers.specs.declared.Refusal.{Refusal}
use Rattle.answers.specs.Answers.{Done, number}
use Rattle.answers.proofs.Numbers.{number-some}
use Rattle.words.specs.Choice.{bit}
use Rattle.words.specs.Lists.{agree}
use Rattle.words.proofs.Choice.{bit-one}
use Rattle.sm3.specs.State.{Digest, digest_by}
use Rattle.hmac.specs.declared.HmacSm3.{HmacSm3}
use Rattle.hmac.specs.State.{in_range, finalized, verified}

module _ (m : HmacSm3) where
  -- both fills are below 64
  pub in_range_lem : m.inner.buffer_len < 64 → m.outer.buffer_len < 64 → in_range m ≡ true
  unfolding in_range
  in_range_lem h k = rw (lt-ltb m.inner.buffer_len 64 h, lt-ltb m.outer.buffer_len 64 k)

  -- the inner fill is not
  pub inner_out : 64 ≤ m.inner.buffer_len → in_range m ≡ false
  unfolding in_range
  inner_out h = rw (le-ltb m.inner.buffer_len 64 h)

  -- the outer fill is not
  pub outer_out : 64 ≤ m.outer.buffer_len → in_range m ≡ false
  unfolding in_range
  outer_out k = and_right (ltb m.inner.buffer_len 64) (ltb m.outer.buffer_len 64) (le-ltb m.outer.buffer_len 64 k)

  -- a state in range has an outer fill that is
  pub outer_in : in_range m ≡ true → m.outer.buffer_len < 64
  unfolding in_range
  outer_in k = ltb-true m.outer.buffer_len 64 (and_parts (ltb m.inner.buffer_len 64) (ltb m.outer.buffer_len 64) k).1

-- `verify` of a digest that is not refused
pub verified_done : (m : HmacSm3) (x e : List ℕ) → record { answer = Done; bytes = x } ≡ finalized m
    → verified m e ≡ record { answer = Done; matches = agree x e }
unfolding verified
verified_done m x e d = sym (ap (λ (y : Digest). record { answer = y.answer; matches = eqb y.answer Done && agree y.bytes e }) d)

-- and of one that is
pub verified-broken : (m : HmacSm3) (e : List ℕ) (why : Refusal) → digest_by (Err why) ≡ finalized m
    → verified m e ≡ record { answer = number why; matches = false }
unfolding verified
verified-broken m e why d =
    sym (ap (λ (y : Digest). record { answer = y.answer; matches = eqb y.answer Done && agree y.bytes e }) d)
    ∙ ap (λ (t : Bool). record { answer = number why; matches = t && agree (replicate 32 0) e }) (ne_eqb (number why) Done (number-some why))

-- one or zero as a test
pub yes_is_one : (t : Bool) {p : ℕ} → p ≡ bit t → eqb p 1 ≡ t
yes_is_one t e = ap (λ (n : ℕ). eqb n 1) e ∙ bit-one t
