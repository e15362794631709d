use Rattle.std.proofs.Common.{length}
use Rattle.xs_form.specs.State.{state_of}
use Rattle.xs_form.proofs.ReadLaws.{IsSoFar}
use Rattle.xs_form.proofs.document.read_xml.Given as goal

abbrev pub invariant-pieces : goal.invariant-pieces
invariant-pieces l = IsSoFar l.names l.doc l.rest (state_of l.reader)

abbrev pub decreases-pieces : goal.decreases-pieces
decreases-pieces l = length l.rest
