-- `sm4::select4` meets its contract. The loop's invariant: each of the four sums and what is still to be added to it
-- are the S-box at its byte. Assumes nothing.
use Rattle.sm4_sbox.proofs.Pass.{Passing}
use Rattle.sm4.proofs.select4.Given as goal

abbrev pub invariant-loop-entry : goal.invariant-loop-entry
invariant-loop-entry l =
    let sums = Passing l.entry-iterator.a.rest.now l.entry-iterator.b.rest.now in
    record {
      first : sums l.a l.ra;
      second : sums l.b l.rb;
      third : sums l.c l.rc;
      fourth : sums l.d l.rd;
    }
