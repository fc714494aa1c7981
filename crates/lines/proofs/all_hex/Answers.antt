-- `lines::all_hex` meets its contract: the chain asks each byte. Assumes nothing.
use Rattle.std.proofs.Common.{sym, ◌∙◌, rules}
use Rattle.std.proofs.lemmas.Iterator.{YieldsList-from_slice}
use Rattle.std.proofs.lemmas.Iterator.Search.{all_from_yields_List}
use Rattle.lines.specs.Hexadecimal.{is_hex}
use Rattle.lines.proofs.Scans.{all_hex_list}
use Rattle.lines.proofs.all_hex.Goals as goal

pub returns : goal.returns
returns c =
    all_from_yields_List is_hex _ _ _ c.all.ensures.ran (YieldsList-from_slice c.args.part.now cc) (λ x b q k. search rules)
    ∙ sym (all_hex_list c.args.part.now)
