-- The MAC in a deciphered body, the one verdict of an opening, and what is cleared. Assumes nothing.
use Rattle.std.specs.Prelude.{Bool, cond, ◌&&◌, List, ◌++◌, ℕ, ◌+◌, ◌-◌, leb, length, take, drop, replicate}
use Rattle.answers.specs.Answers.{Done, BadRecord}
use Rattle.words.specs.Lists.{agree}
use Rattle.record.specs.Limits.{mac_len}
use Rattle.verdict.specs.declared.Verdict.{Verdict}

-- the MAC behind h bytes of d, where it and a length byte fit behind them; else zeros
unfoldable pub extracted : List ℕ → ℕ → List ℕ
extracted d h = cond (leb (h + (mac_len + 1)) (length d)) (take mac_len (drop h d)) (replicate mac_len 0)

-- of the padding mark, the MAC received, the MAC computed and the length held
unfoldable pub verdict_of : Bool → List ℕ → List ℕ → ℕ → Verdict
verdict_of good received computed h =
    cond (good && agree received computed) (record { answer = Done; length = h }) (record { answer = BadRecord; length = 0 })

-- the first h bytes, and zeros behind them
unfoldable pub cleared_from : ℕ → List ℕ → List ℕ
cleared_from h d = take h d ++ replicate (length d - h) 0
