-- `protocol::all_bytes` meets its contract: the parts behind the first are the fields behind the command. Assumes nothing.
use Rattle.std.proofs.Common.{rules, ◌≡◌, List, ℕ, drop, arith, ◌∙◌, ◌==◌}
use Rattle.std.specs.List.{list_all}
use Rattle.std.proofs.lemmas.Iterator.Adapters.{YieldsList-from_skip}
use Rattle.std.proofs.lemmas.Iterator.Search.{all_from_yields_List}
use Rattle.std.proofs.lemmas.Iterator.Splits.{YieldsList-from_slice_split}
use Rattle.protocol.proofs.Parts.{parts, length-parts, kind-parts}
use Rattle.protocol.specs.Fields.{times}
use Rattle.protocol.specs.Kinds.{is_kind, all_bytes}
use Rattle.protocol.specs.declared.Kind.TheVariants.{Bytes}
use Rattle.protocol.proofs.all_bytes.Goals as goal

pub returns : goal.returns
unfolding all_bytes
returns c =
    let line : List ℕ = c.args.line.now in
    let e : c.all.result ≡ list_all (λ f. is_kind f Bytes) (drop 1 (parts line))
    = all_from_yields_List (λ f. is_kind f Bytes) _ _ _ c.all.ensures.ran
    (YieldsList-from_skip 1
    (YieldsList-from_slice_split _ (λ x. x == 0x20) line (search rules) (search rules) (search rules)
    (λ x b q k. search rules))
    (search rules))
    (λ x b q k. search rules) in
    e ∙ kind-parts line Bytes (times 0x20 line) 0 (omega (arith, length-parts line))
