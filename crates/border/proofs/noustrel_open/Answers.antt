-- `border::noustrel_open` meets its contract: 9 where a key has another size, else `deprotect_cbc` of the keys and the
-- version's bytes. Assumes nothing.
use mathlib.Core.Path.{sym, ◌∙◌}
use Rattle.border.proofs.Sizes.{keys-long}
use Rattle.border.proofs.noustrel_open.Goals as goal

pub returns-then-not-key_sizes : goal.returns-then-not-key_sizes
returns-then-not-key_sizes c =
    let w = sym c.key_sizes.ensures ∙ c.if-not-key_sizes.true in
    record { result = rw (w, c.number.ensures); output = rw w; reported = rw w; counted = rw w }

pub returns : goal.returns
returns c =
    let e = sym c.key_sizes.ensures ∙ c.if-not-key_sizes.false in
    let p = c.deprotect_cbc-opened.ensures in
    let k = c.keys_from-keys.ensures in
    let v = c.u16_to_be_bytes-high_first.ensures in
    record {
      result = rw (e, p.result, k, v);
      output = rw (e, p.output, k, v);
      reported = rw (e, p.result, k, v);
      counted = rw (e, p.result, k, v);
    }

pub keys_from-keys-requires : goal.keys_from-keys-requires
keys_from-keys-requires c =
    keys-long _ _ (sym c.key_sizes.ensures ∙ c.if-not-key_sizes.false)
