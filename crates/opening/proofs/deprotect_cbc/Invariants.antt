-- `opening::deprotect_cbc`: after as many steps as are counted, report and output are the closed form's. Assumes nothing.
use Rattle.opening.proofs.Run.{Run}
use Rattle.opening.proofs.deprotect_cbc.Given as goal

abbrev pub invariant-loop : goal.invariant-loop
invariant-loop l =
    Run (record { keys = l.fn.keys; seq = l.fn.seq; type = l.fn.content_type; version = l.fn.version; r = l.record })
    l.initial.out l.end l.s l.out l.counter
