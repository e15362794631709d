use Rattle.std.proofs.Common.{refl}
use Rattle.xs_atoms.proofs.sweep.Draft.push.Goals as goal

pub returns : goal.returns
returns c = λ t. record { middle = c.atom.new.self; atom = c.in-Some.atom; given = rw c.in-Some.is at c.in_ok-atom.ensures; rows = refl; firsts = refl; stretches = c.in_ok-push.ensures.items }
