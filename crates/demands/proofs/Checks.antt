-- The checks of numbers alone and the answers of the definitions agree, and one of the checks always applies. Assumes nothing.
use mathlib.Core.Bool.{Bool, true, false}
use mathlib.Core.Path.{◌≡◌, refl}
use Prim.Native.Nat.{ℕ, ◌-◌, ◌%◌}
use native.Mathlib.Omega.{arith}
use borrow.Author.Tests.{ltb-true, ltb-false, eqb-true, eqb-false, lt-ltb, le-ltb, eq-eqb, ne_eqb}
use lib.Dec.{eqb, ltb}
use Rattle.answers.specs.Answers.{Done}
use Rattle.record.specs.Limits.{max_plaintext, iv_len}
use Rattle.record.specs.Sealing.{answer_of}
use Rattle.record.specs.Standard.{sealed_length}
use Rattle.record.proofs.Answers.{answer_long, answer_room}
use Rattle.sizes.specs.Sizes.{min_record, max_body, size_answer}
use Rattle.steps.specs.State.{start_answer}
use Rattle.demands.specs.Checks.{Sealable, NotSealed, Openable, NotOpened}

-- ---- sealing

-- a text that is not sealed is answered by its number
pub not-sealed : {L room a : ℕ} → NotSealed L room a → answer_of L room ≡ a
not-sealed {L} {room} (NotSealed.too_long h) = answer_long L room h
not-sealed {L} {room} (NotSealed.no_room h k) = answer_room L room h k

-- which is not 0
pub not-sealed_answer : {L room a : ℕ} → NotSealed L room a → a ≡ Done → ⊥
not-sealed_answer (NotSealed.too_long h) e = omega arith
not-sealed_answer (NotSealed.no_room h k) e = omega arith

-- a text is sealed or it is not
pub data SealCase (L room : ℕ) : Type 0 where
  sealable : Sealable L room → SealCase L room
  refused : (a : ℕ) → NotSealed L room a → SealCase L room

pub seal_case : (L room : ℕ) → SealCase L room
seal_case L room = by (ltb max_plaintext L) refl (ltb room (sealed_length L)) refl
  where
    by : (a : Bool) → ltb max_plaintext L ≡ a → (b : Bool) → ltb room (sealed_length L) ≡ b → SealCase L room
    by true e b f = SealCase.refused _ (NotSealed.too_long (ltb-true max_plaintext L e))
    by false e true f = SealCase.refused _ (NotSealed.no_room (ltb-false max_plaintext L e) (ltb-true room (sealed_length L) f))
    by false e false f = SealCase.sealable (record { most = ltb-false max_plaintext L e; fits = ltb-false room (sealed_length L) f })

-- ---- opening

-- a record that is opened passes
pub passes-checks : {r room : ℕ} → Openable r room → start_answer r room ≡ Done
unfolding start_answer size_answer
passes-checks {r} {room} h =
    rw (le-ltb r min_record h.least, eq-eqb ((r - iv_len) % 16) 0 h.whole, le-ltb max_body (r - iv_len) h.most, le-ltb room (r - iv_len) h.fits)

-- one that is not is answered by its number
pub not_opened : {r room a : ℕ} → NotOpened r room a → start_answer r room ≡ a
unfolding start_answer size_answer
not_opened {r} {room} (NotOpened.short h) = rw (lt-ltb r min_record h)
not_opened {r} {room} (NotOpened.ragged h k) = rw (le-ltb r min_record h, ne_eqb ((r - iv_len) % 16) 0 k)
not_opened {r} {room} (NotOpened.too_big h k l) = rw (le-ltb r min_record h, eq-eqb ((r - iv_len) % 16) 0 k, lt-ltb max_body (r - iv_len) l)
not_opened {r} {room} (NotOpened.no_room h k l m) =
    rw (le-ltb r min_record h, eq-eqb ((r - iv_len) % 16) 0 k, le-ltb max_body (r - iv_len) l, lt-ltb room (r - iv_len) m)

-- which is not 0
pub not-opened_answer : {r room a : ℕ} → NotOpened r room a → a ≡ Done → ⊥
not-opened_answer (NotOpened.short h) e = omega arith
not-opened_answer (NotOpened.ragged h k) e = omega arith
not-opened_answer (NotOpened.too_big h k l) e = omega arith
not-opened_answer (NotOpened.no_room h k l m) e = omega arith

-- a record is opened or it is not
pub data OpenCase (r room : ℕ) : Type 0 where
  openable : Openable r room → OpenCase r room
  refused : (a : ℕ) → NotOpened r room a → OpenCase r room

pub open_case : (r room : ℕ) → OpenCase r room
open_case r room =
    by (ltb r min_record) refl (eqb ((r - iv_len) % 16) 0) refl (ltb max_body (r - iv_len)) refl (ltb room (r - iv_len)) refl
  where
    by : (a : Bool) → ltb r min_record ≡ a → (b : Bool) → eqb ((r - iv_len) % 16) 0 ≡ b → (c : Bool) → ltb max_body (r - iv_len) ≡ c
        → (d : Bool) → ltb room (r - iv_len) ≡ d → OpenCase r room
    by true e b f c g d h = OpenCase.refused _ (NotOpened.short (ltb-true r min_record e))
    by false e false f c g d h = OpenCase.refused _ (NotOpened.ragged (ltb-false r min_record e) (eqb-false ((r - iv_len) % 16) 0 f))
    by false e true f true g d h =
        OpenCase.refused _ (NotOpened.too_big (ltb-false r min_record e) (eqb-true ((r - iv_len) % 16) 0 f) (ltb-true max_body (r - iv_len) g))
    by false e true f false g true h =
        OpenCase.refused _
        (NotOpened.no_room (ltb-false r min_record e) (eqb-true ((r - iv_len) % 16) 0 f) (ltb-false max_body (r - iv_len) g) (ltb-true room (r - iv_len) h))
    by false e true f false g false h =
        OpenCase.openable
        (record {
          least = ltb-false r min_record e;
          whole = eqb-true ((r - iv_len) % 16) 0 f;
          most = ltb-false max_body (r - iv_len) g;
          fits = ltb-false room (r - iv_len) h;
        })
