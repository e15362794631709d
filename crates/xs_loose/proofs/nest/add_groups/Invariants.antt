use Rattle.xs_loose.specs.Nesting.{IsNestBefore}
use Rattle.xs_loose.proofs.nest.add_groups.Given as goal

abbrev pub invariant-items : goal.invariant-items
invariant-items l = IsNestBefore l.site.g.now l.rule l.place l.nest
