use Rattle.std.proofs.Common.{◌∙◌, ap, ◌==◌}
use Rattle.xs_class.proofs.Members.{empty_is_memberless}
use Rattle.xs_class.proofs.class.Class.is_empty.Goals as goal

pub returns-clause-members : goal.returns-clause-members
returns-clause-members c =
    let ranges = c.self.inside.ranges in
    rw (← c.self.view_is) (empty_is_memberless ranges.items c.is_empty.result c.self.invariant (c.is_empty.ensures ∙ ap (λ n. n == 0) ranges.ok.0))
