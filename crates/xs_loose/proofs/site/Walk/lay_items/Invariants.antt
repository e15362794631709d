use Rattle.std.proofs.Common.{◌≡◌, ◌+◌, ◌<◌, ◌≤◌, take}
use Rattle.xs_auto.specs.Nets.{states}
use Rattle.xs_gram.specs.Fences.{spread}
use Rattle.xs_loose.specs.Groups.{groups_before, lefts}
use Rattle.xs_loose.specs.Parts.{part_items}
use Rattle.xs_loose.proofs.Going.{Gone}
use Rattle.xs_loose.proofs.site.Walk.lay_items.Given as goal

abbrev pub invariant-items : goal.invariant-items
invariant-items l = record {
  later : l.place ≤ l.next.place;
  within : l.next.place ≤ l.part.end;
  number : l.number ≡ groups_before l.self.site.now.g.now l.part.rule + lefts l.self.site.now.g.now.fences (take l.place (spread l.self.site.now.g.now l.part.rule));
  low : l.next.spot.before < states l.initial.into.net;
  gone : Gone l.self.site.now.g.now l.self.site.now.tables.now.weights l.self.home l.part.rule l.part.start (part_items l.self.site.now.g.now l.part) l.fn.spot (states l.initial.into.net) l.next.place l.next.spot l.initial.into.net l.initial.into.tasks.items l.into.net l.into.tasks.items;
}
