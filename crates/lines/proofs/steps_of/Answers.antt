-- `lines::steps_of` meets its contract: the refusal is that of the size answer. Assumes nothing.
use Rattle.std.proofs.Common.{◌≡◌, Err, sym, ◌∙◌, rules}
use Rattle.lines.proofs.Sizes.{steps_of-refused}
use Rattle.lines.proofs.steps_of.Goals as goal

pub returns-in_err-size_answer : goal.returns-in_err-size_answer
returns-in_err-size_answer c =
    let same : c.from_residual.result ≡ Err c.in_err-size_answer.field-0.0 = search rules in
    same ∙ sym (steps_of-refused c.in_err-size_answer.field-0.0 c.args.record_len c.in_err-size_answer.ensures)
