-- `lines::line_end` meets its contract: the chain finds the first newline, or none. Assumes nothing.
use Rattle.std.proofs.Common.{◌∙◌, rules, eqb}
use Rattle.std.proofs.lemmas.Iterator.{YieldsList-from_slice}
use Rattle.std.proofs.lemmas.Iterator.Search.{position_from_yields_List}
use borrow.Author.Tests.{tests}
use Rattle.lines.specs.Input.{NEWLINE}
use Rattle.lines.proofs.Scans.{front_index}
use Rattle.lines.proofs.line_end.Goals as goal

pub returns : goal.returns
returns c =
    let input = c.args.input.now in
    let found =
    position_from_yields_List (λ b. eqb b NEWLINE) _ _ _ c.position.ensures.ran (YieldsList-from_slice input cc)
    (λ x b q k. search (rules, tests)) in
    c.unwrap_or.ensures ∙ rw found (front_index input)
