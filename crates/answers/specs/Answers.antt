-- The answer numbers, under the names of the scope's table. Assumes nothing.
use Rattle.std.specs.Prelude.{ℕ, Result, Ok, Err}
use Rattle.answers.specs.declared.Refusal.{Refusal}

abbrev pub Done : ℕ
Done = 0

abbrev pub TooLong : ℕ
TooLong = 1

abbrev pub NoRoom : ℕ
NoRoom = 2

abbrev pub Short : ℕ
Short = 3

abbrev pub Ragged : ℕ
Ragged = 4

abbrev pub TooBig : ℕ
TooBig = 5

abbrev pub BadRecord : ℕ
BadRecord = 6

abbrev pub BadState : ℕ
BadState = 7

abbrev pub Ended : ℕ
Ended = 8

abbrev pub WrongSize : ℕ
WrongSize = 9

-- the number of a refusal
abbrev pub number : Refusal → ℕ
number Refusal.TooLong = TooLong
number Refusal.NoRoom = NoRoom
number Refusal.Short = Short
number Refusal.Ragged = Ragged
number Refusal.TooBig = TooBig
number Refusal.BadRecord = BadRecord
number Refusal.BadState = BadState
number Refusal.Ended = Ended
number Refusal.WrongSize = WrongSize

-- the number that a result answers with
abbrev pub number_of : {A : Type 0} → Result A Refusal → ℕ
number_of (Ok _) = Done
number_of (Err why) = number why
