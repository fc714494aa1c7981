-- What the one call promises: its report, and the output afterwards. Assumes nothing.
use Rattle.std.specs.Prelude.{List, ◌≡◌, ℕ, length}
use Rattle.record.specs.declared.RecordKeysCbc.{RecordKeysCbc}
use Rattle.opening.specs.declared.Opened.{Opened}
use Rattle.opening.specs.Deprotected.{deprotected, output_of}

pub record Deprotected (keys : RecordKeysCbc) (seq type : ℕ) (version r out : List ℕ) (report : Opened) (out' : List ℕ) : Type 0
  where
    pub result : report ≡ deprotected (record { keys = keys; seq = seq; type = type; version = version; r = r }) (length out)
    pub output : out' ≡ output_of (record { keys = keys; seq = seq; type = type; version = version; r = r }) out
