-- What a step promises: its report with the opening, and the output afterwards. Assumes nothing.
use Rattle.std.specs.Prelude.{List, ◌≡◌, ℕ}
use Rattle.steps.specs.declared.OpeningCbc.{OpeningCbc}
use Rattle.steps.specs.declared.Stepped.{Stepped}
use Rattle.steps.specs.Step.{stepped, output_after}

pub record Step (opening : OpeningCbc) (r out : List ℕ) (report : Stepped) (out' : List ℕ) : Type 0 where
  pub result : report ≡ stepped opening r out
  pub output : out' ≡ output_after opening r out
