use Rattle.std.proofs.Common.{length}
use Rattle.xs_regex.specs.Meaning.{tree_of}
use Rattle.xs_regex.proofs.Fronts.{IsJoined}
use Rattle.xs_regex.proofs.forms.all_joined.Given as goal

abbrev pub invariant-parts : goal.invariant-parts
invariant-parts l = IsJoined (tree_of l.join) l.initial.left.items l.initial.whole l.left.items l.whole

abbrev pub decreases-parts : goal.decreases-parts
decreases-parts l = length l.left.items
