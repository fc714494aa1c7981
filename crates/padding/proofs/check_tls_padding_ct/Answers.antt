-- `padding::check_tls_padding_ct` meets its contract: the mark is both tests, and only a good padding, which leaves room for
-- the MAC, is taken off. Assumes nothing.
use mathlib.Core.List.{List}
use mathlib.Core.Path.{◌≡◌, refl, ap, ap₂, ◌∙◌}
use Prim.Native.Nat.{ℕ, ◌-◌}
use native.Mathlib.Omega.{arith}
use lib.Bits.{bit_and}
use lib.ListN.{length}
use Rattle.words.specs.Choice.{bit, chosen}
use Rattle.record.specs.Opened.{last_byte, good_pad}
use Rattle.record.proofs.Accepts.{held-bad}
use Rattle.padding.specs.Scan.{checked}
use Rattle.padding.proofs.Report.{short-bad, mark-good, held-chosen}
use Rattle.padding.proofs.check_tls_padding_ct.Goals as goal

pub returns-then-n-le-MAC_LEN : goal.returns-then-n-le-MAC_LEN
unfolding checked
returns-then-n-le-MAC_LEN c =
    let d = c.args.body.now in
    let bad = short-bad d (omega arith) in
    let h : length d - 33 ≡ 0 = omega arith in
    rw (held-bad d bad, bad, h)

pub differences-requires : goal.differences-requires
unfolding last_byte
differences-requires c = refl

module _ (c : goal.After-select-pad) where
  -- the body
  abbrev d : List ℕ
  d = c.args.body.now

  -- the mark is that of the definition
  mark : bit_and c.ct_lt_usize-fits.result c.ct_eq.result ≡ bit (good_pad d)
  unfolding last_byte
  mark =
      ap₂ bit_and c.ct_lt_usize-fits.ensures c.ct_eq.ensures
      ∙ mark-good d c.differences.result c.differences.ensures

  -- what is taken off is the padding where it is good
  off : c.select-pad.result ≡ chosen (bit (good_pad d)) 0 (last_byte d)
  unfolding last_byte
  off = c.select-pad.ensures ∙ ap (λ (m : ℕ). chosen m 0 (last_byte d)) mark

pub overflow_sub-held : goal.overflow_sub-held
overflow_sub-held c = omega (arith, off c, (held-chosen (d c)).0)

pub returns : goal.returns
unfolding checked
returns c =
    ap₂ (λ (m h : ℕ). record { pad_ok = m; held = h }) (mark c)
    (ap (λ (x : ℕ). length (d c) - 33 - x) (off c) ∙ (held-chosen (d c)).1)
