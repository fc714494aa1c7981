-- `steps::Live::answering` meets its contract: the length held leaves room for the MAC, so that is what is copied. Assumes nothing.
use Rattle.std.proofs.Common.{◌≡◌, ℕ, ◌+◌, ◌-◌, ◌≤◌, List, length, take, drop, sym, ap, ◌∙◌}
use native.Mathlib.Omega.{arith}
use lib.Seq.{length-take-le, take-take}
use Rattle.words.proofs.Lists.{take-drop}
use Rattle.verdict.specs.Verdict.{extracted}
use Rattle.verdict.proofs.Extracted.{extracted_there}
use Rattle.steps.specs.Step.{verdict, opening_by, report_by, output_by}
use Rattle.steps.proofs.Live.answering.Goals.{After-verdict_ct-v}
use Rattle.steps.proofs.Live.answering.Goals as goal

-- the MAC that is copied lies in the body
copied : (o : List ℕ) (n h : ℕ) → n ≤ length o → 33 ≤ n → h ≤ n - 33 → extracted (take n o) h ≡ take 32 (drop h o)
copied o n h a b d =
    extracted_there (take n o) h (rw (length-take-le n o a) (omega arith))
    ∙ take-drop 32 h (take n o)
    ∙ ap (drop h) (take-take (h + 32) n o (omega arith))
    ∙ sym (take-drop 32 h o)

-- so the verdict is the definition's
verdict_is : (c : After-verdict_ct-v) → let s = c.args.self.opening in c.verdict_ct-v.result ≡ verdict s c.args.out.now
unfolding verdict
verdict_is c =
    let s = c.args.self.opening in
    rw (
      c.verdict_ct-v.ensures,
      c.digest_of.ensures,
      c.extract_mac_ct-received.ensures,
      copied c.args.out.now s.n s.held (omega arith) (omega arith) (omega arith),
    )

pub returns-clause-state : goal.returns-clause-state
unfolding report_by opening_by
returns-clause-state c = rw (c.ended_with.ensures, verdict_is (goal.at.returns-clause-state c).After-verdict_ct-v)

pub returns-clause-output : goal.returns-clause-output
unfolding output_by
returns-clause-output c = rw (c.clear_from_ct.ensures.output, verdict_is (goal.at.returns-clause-output c).After-verdict_ct-v)
