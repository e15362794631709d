use Rattle.std.proofs.Common.{length, map}
use Rattle.xs_form.specs.Attributes.{shown}
use Rattle.xs_form.proofs.AttributeLaws.{IsListSoFar}
use Rattle.xs_form.proofs.attributes.attributes_at.Given as goal

abbrev pub invariant-attributes : goal.invariant-attributes
invariant-attributes l = IsListSoFar l.text (map shown l.attributes.items) l.rest

abbrev pub decreases-attributes : goal.decreases-attributes
decreases-attributes l = length l.rest
