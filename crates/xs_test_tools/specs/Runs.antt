-- What small nets of tests read.
use Rattle.std.specs.Prelude.{ℕ, ◌≤◌}
use Rattle.std.specs.List.{Contains}
use Rattle.xs_class.specs.Classes.{Has}
use Rattle.xs_auto.specs.Edges.{Edge}
use Rattle.xs_auto.specs.Nets.{Graph, edges_of}

-- edges read no symbol below a number
abbrev pub ReadsFrom : ℕ → Graph → Type 0
ReadsFrom low n = (a s : ℕ) (e : Edge) → Contains (edges_of n a) e → Has e.class s → low ≤ s
