-- `protocol::fits` meets its contract: the parts behind the first stand beside the kinds. Assumes nothing.
use Rattle.std.proofs.Common.{rules, ◌≡◌, List, ℕ, drop, arith, ◌∙◌, ◌==◌, eqb, false, eq-eqb, ne_eqb, length}
use Rattle.std.specs.List.{list_all, zip}
use Rattle.std.proofs.lemmas.Iterator.{YieldsList-from_zip, YieldsList-from_slice}
use Rattle.std.proofs.lemmas.Iterator.Adapters.{YieldsList-from_skip}
use Rattle.std.proofs.lemmas.Iterator.Search.{all_from_yields_List}
use Rattle.std.proofs.lemmas.Iterator.Splits.{YieldsList-from_slice_split}
use Rattle.protocol.proofs.Parts.{parts, length-parts, kinds-parts}
use Rattle.protocol.specs.Fields.{times}
use Rattle.protocol.specs.Kinds.{is_kind, fits_line}
use Rattle.protocol.specs.declared.Kind.{Kind}
use Rattle.protocol.proofs.fits.Goals as goal

pub returns-then-as_many : goal.returns-then-as_many
unfolding fits_line
returns-then-as_many c =
    let line : List ℕ = c.args.line.now in
    let kinds : List Kind = c.args.kinds.now in
    let n : times 0x20 line ≡ length kinds = omega arith in
    let e : c.all.result ≡ list_all (λ p. is_kind p.0 p.1) (zip (drop 1 (parts line)) kinds)
    = all_from_yields_List (λ p. is_kind p.0 p.1) c.all.new.self _ _ c.all.ensures.ran
    (YieldsList-from_zip
    (YieldsList-from_skip 1
    (YieldsList-from_slice_split _ (λ x. x == 0x20) line (search rules) (search rules) (search rules)
    (λ x b q k. search rules))
    (search rules))
    (YieldsList-from_slice kinds (search rules)))
    (λ x b q k. search rules) in
    rw (eq-eqb _ _ n) (e ∙ kinds-parts line 0 kinds (omega (arith, length-parts line)))

pub returns-else-as_many : goal.returns-else-as_many
unfolding fits_line
returns-else-as_many c =
    let line : List ℕ = c.args.line.now in
    let kinds : List Kind = c.args.kinds.now in
    let other : eqb (times 0x20 line) (length kinds) ≡ false = ne_eqb _ _ (λ e. c.if-as_many.false (omega arith)) in
    rw other (ne_eqb _ _ c.if-as_many.false)
