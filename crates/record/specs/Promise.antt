-- What sealing promises: its report, and the output afterwards. Assumes nothing.
use Rattle.std.specs.Prelude.{List, ◌≡◌, ℕ, length}
use Rattle.record.specs.declared.RecordKeysCbc.{RecordKeysCbc}
use Rattle.record.specs.Sealing.{Sealed, report_of, output_of}

pub record Protected (keys : RecordKeysCbc) (seq type : ℕ) (version iv text out : List ℕ) (report : Sealed) (out' : List ℕ) : Type 0
  where
    pub result : report ≡ report_of (length text) (length out)
    pub output : out' ≡ output_of keys seq type version iv text out
