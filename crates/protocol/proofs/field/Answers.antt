-- `protocol::field` meets its contract: it gives part k of the line, cut at its spaces. Assumes nothing.
use Rattle.std.proofs.Common.{rules, ◌≡◌, List, ℕ, Bor, ◌==◌}
use Rattle.std.specs.Prelude.{slice_get, option_map}
use Rattle.std.proofs.lemmas.Iterator.Consumers.{nth_from_yields_List}
use Rattle.std.proofs.lemmas.Iterator.Splits.{YieldsList-from_slice_split}
use Rattle.protocol.proofs.Parts.{parts, field-part, part-or-none}
use Rattle.protocol.proofs.field.Goals as goal

pub returns : goal.returns
returns c =
    let line : List ℕ = c.args.line.now in
    let e : option_map (λ (x : Bor (List ℕ)). x.now) c.nth.result ≡ slice_get (parts line) c.args.k
    = nth_from_yields_List c.nth.result _ c.args.k c.nth.ensures.ran
    (YieldsList-from_slice_split _ (λ x. x == 0x20) line (search rules) (search rules) (search rules) (λ x b q k. search rules)) in
    rw (← field-part c.args.k line) (part-or-none _ _ c.args.k _ e c.unwrap_or.ensures)
