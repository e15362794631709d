use Rattle.std.proofs.Common.{◌≡◌, ◌+◌, take}
use Rattle.xs_gram.specs.Fences.{spread}
use Rattle.xs_loose.specs.Groups.{groups_before, lefts}
use Rattle.xs_loose.proofs.tables.after_rule.Given as goal

abbrev pub invariant-items : goal.invariant-items
invariant-items l = l.number ≡ groups_before l.g l.rule + lefts l.g.fences (take l.place (spread l.g l.rule))
