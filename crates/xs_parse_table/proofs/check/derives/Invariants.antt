use Rattle.std.proofs.Common.{◌≡◌, ℕ, ◌<◌, Some}
use Rattle.std.specs.Prelude.{slice_get}
use Rattle.xs_parse_table.specs.declared.table.Node.{Node}
use Rattle.xs_parse_table.specs.Nodes.{IsNode}
use Rattle.xs_parse_table.proofs.check.derives.Given as goal

abbrev pub invariant-nodes : goal.invariant-nodes
invariant-nodes l = (u : ℕ) (n : Node) → u < l.v → slice_get l.table.nodes.items u ≡ Some n → IsNode l.g l.doc l.table.nodes.items l.table.parts.items u n
