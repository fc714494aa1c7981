-- The figures at the edges, each beside the definition that it is a figure of. Assumes nothing.
use Rattle.std.specs.Prelude.{Bool, true, false, List, [], ◌∷◌, ◌++◌, ◌≡◌, ℕ, length, replicate}
use Rattle.answers.specs.Answers.{Done, TooLong, NoRoom, Short, Ragged, TooBig, BadRecord, BadState, Ended, WrongSize}
use Rattle.sm4.specs.Standard.{CK}
use Rattle.record.specs.Limits.{max_plaintext}
use Rattle.record.specs.Opened.{good_pad, held}
use Rattle.record.specs.Standard.{sealed_length}
use Rattle.sizes.specs.Sizes.{min_record, max_body, total_steps}

-- a number that is worked out and its figure; or, of every body of so many bytes and then k bytes of value p, whether its padding is
-- good, and the length held; or, of every body of so many bytes, a zero and only p bytes of value p, which is bad, the length held
pub data Figure : Type 0 where
  worked : ℕ → ℕ → Figure
  ending : ℕ → ℕ → ℕ → Bool → ℕ → Figure
  spoiled : ℕ → ℕ → ℕ → Figure

abbrev pub figures : List Figure
figures =
    -- sealed lengths
    worked (sealed_length 0) 64
    ∷ worked (sealed_length 15) 64
    ∷ worked (sealed_length 16) 80
    ∷ worked (sealed_length 16384) 16448
    -- T
    ∷ worked (total_steps 48) 8
    ∷ worked (total_steps 80) 11
    ∷ worked (total_steps 288) 27
    ∷ worked (total_steps 16432) 1288
    -- padding: body 48 ending in sixteen 0x0f; in 0x10, be it seventeen of them; body 288 ending in 256 bytes 0xff; body 272 ending in
    -- 0xff, be it 256 of them; body 16,432 ending in 0x00
    ∷ ending 32 16 0x0f true 0
    ∷ ending 47 1 0x10 false 15
    ∷ ending 31 17 0x10 false 15
    ∷ ending 32 256 0xff true 0
    ∷ ending 271 1 0xff false 239
    ∷ ending 16 256 0xff false 239
    ∷ ending 16431 1 0x00 true 16399
    -- padding that fits and of which one byte is wrong, the first of all: bodies 48 and 288
    ∷ spoiled 32 0x0f 15
    ∷ spoiled 32 0xff 255
    -- CK
    ∷ worked (CK 0) 0x00070e15
    ∷ worked (CK 31) 0x646b7279
    -- answers and limits
    ∷ worked Done 0
    ∷ worked TooLong 1
    ∷ worked NoRoom 2
    ∷ worked Short 3
    ∷ worked Ragged 4
    ∷ worked TooBig 5
    ∷ worked BadRecord 6
    ∷ worked BadState 7
    ∷ worked Ended 8
    ∷ worked WrongSize 9
    ∷ worked max_plaintext 16384
    ∷ worked min_record 64
    ∷ worked max_body 16432
    ∷ []

-- what an entry says
unfoldable pub Says : Figure → Type 0
Says (worked x y) = x ≡ y
Says (ending front k p good l) =
    (f : List ℕ) → length f ≡ front → (good_pad (f ++ replicate k p) ≡ good) × (held (f ++ replicate k p) ≡ l)
Says (spoiled front p l) =
    (f : List ℕ) → length f ≡ front
    → (good_pad (f ++ (0 ∷ replicate p p)) ≡ false) × (held (f ++ (0 ∷ replicate p p)) ≡ l)

-- each entry holds
unfoldable pub Each : List Figure → Type 0
Each [] = Unit {0}
Each (x ∷ rest) = Says x × Each rest
