use Rattle.std.proofs.Common.{◌<◌, length, arith}
use Rattle.std.proofs.lemmas.Bool.Decides.{nat_tests}
use Rattle.xs_class.proofs.Members.{first_is_least}
use Rattle.xs_class.proofs.class.Class.least.Goals as goal

pub returns : goal.returns
returns c =
    let ranges = c.self.inside.ranges in
    let some : 0 < length ranges.items = grind (arith, nat_tests, c.if-is_empty.ensures, ranges.ok.0) in
    rw (← c.self.view_is) (first_is_least ranges.items c.index.result.now c.self.invariant some c.index.ensures)
