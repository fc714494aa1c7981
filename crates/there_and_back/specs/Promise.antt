-- What there and back promises: the text comes back. Assumes nothing.
use Rattle.std.specs.Prelude.{List, ◌≡◌, ℕ, length}
use Rattle.record.specs.declared.RecordKeysCbc.{RecordKeysCbc}
use Rattle.record.specs.Sealing.{output_of}
use Rattle.opening.specs.declared.Opened.{Opened}
use Rattle.there_and_back.specs.There.{report_for, out_for}

pub record ThereAndBack (keys : RecordKeysCbc) (seq type : ℕ) (version iv text r out : List ℕ) (report : Opened) (r' out' : List ℕ)
    : Type 0 where
  pub result : report ≡ report_for (length text) (length r) (length out)
  pub sealed : r' ≡ output_of keys seq type version iv text r
  pub output : out' ≡ out_for text (length r) out
