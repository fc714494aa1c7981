-- `sm3_compress::all_rounds` meets its contract: the first 16 rounds and the 48 behind them. Assumes nothing.
use mathlib.Core.Path.{ap, ◌∙◌}
use Rattle.sm3_compress.specs.Rounds.{rounds_from}
use Rattle.sm3_compress.specs.Standard.{rounds}
use Rattle.sm3_compress.proofs.Rounds.{rounds_from_lem}
use Rattle.sm3_compress.proofs.all_rounds.Goals as goal

pub returns : goal.returns
unfolding rounds
returns c =
    c.rounds_of_four.ensures
    ∙ ap (rounds_from _ _ 16 48) (c.rounds_of_four-v.ensures ∙ rounds_from_lem _ _ _ 0 16)
    ∙ rounds_from_lem _ _ _ 16 48
