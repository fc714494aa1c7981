-- `steps::Live::read_padding` meets its contract: what the scan reports, and the callee's words. Assumes nothing.
use lib.ListN.{take}
use Rattle.words.proofs.Choice.{bit-one}
use Rattle.record.specs.Opened.{good_pad}
use Rattle.padding.specs.Scan.{checked}
use Rattle.steps.specs.Step.{opening_by, report_by, changed}
use Rattle.steps.proofs.Live.read_padding.Goals as goal

pub returns : goal.returns
unfolding report_by opening_by checked changed
returns c =
    let a = c.args in
    rw (c.moved.ensures, c.inner_key.ensures, c.check_tls_padding_ct-p.ensures, bit-one (good_pad (take a.self.opening.n a.out.now)))
