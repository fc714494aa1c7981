-- A list in a block of 16. Assumes nothing.
use Rattle.std.specs.Prelude.{List, ℕ, replicate}
use Rattle.words.specs.Lists.{put}

abbrev pub fitted : List ℕ → List ℕ
fitted l = put 0 l (replicate 16 0)
