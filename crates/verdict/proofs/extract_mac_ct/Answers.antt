-- `verdict::extract_mac_ct` meets its contract. The loop's invariant: out is the MAC if its place is below i, else zeros. Assumes
-- nothing.
use mathlib.Core.Path.{◌≡◌, sym}
use native.Mathlib.Omega.{arith}
use Rattle.std.specs.Slice.Iter.{windows_rest, windows_size}
use Rattle.verdict.proofs.Extracted.{extracted_nowhere, scan-start, scan-more, scan-end}
use Rattle.verdict.proofs.extract_mac_ct.Goals as goal

pub loop-i-init : goal.loop-i-init
loop-i-init c =
    let it = c.into_iter-i-iterator.result in
    let rest : windows_rest it.iter.parts ≡ c.in-Some.front.now = cc c.array_windows.ensures.rest in
    let count : it.count ≡ 0 = cc in
    rw (count, rest) (scan-start _ c.in-Some.ensures.cases.0)

pub loop-i-preserved : goal.loop-i-preserved
loop-i-preserved c =
    let l = c.loop-i in
    let s = rw c.in-Some-2.is at c.next.ensures.steps in
    let size : windows_size l.i-iterator.iter.parts ≡ 32 = l.iterator.0.0.1 in
    let w = rw size at s.0.1 in
    rw (s.2, w.2, c.copy_where.ensures, c.ct_eq.ensures, s.1, w.1) (scan-more l.invariant w.0)

pub returns-in-None : goal.returns-in-None
returns-in-None c =
    let s = rw c.in-None.is at c.next.ensures.steps in
    let size : windows_size c.loop-i.i-iterator.iter.parts ≡ 32 = c.loop-i.iterator.0.0.1 in
    scan-end c.loop-i.invariant (rw size at s.0.1.0)

pub returns-in_default : goal.returns-in_default
returns-in_default c = sym (extracted_nowhere _ _ (grind arith))
