use Rattle.std.proofs.Common.{◌≡◌, ◌+◌, ◌≤◌, take}
use Rattle.xs_gram.specs.Fences.{spread}
use Rattle.xs_loose.specs.Groups.{groups_before, lefts}
use Rattle.xs_loose.specs.Parts.{part_items}
use Rattle.xs_coarse_net.specs.Stretches.{IsCovered}
use Rattle.xs_coarse_net.proofs.stretch.cover_of.Given as goal

abbrev pub invariant-items : goal.invariant-items
invariant-items l = record {
  later : l.place ≤ l.next;
  within : l.next ≤ l.part.end;
  number : l.number ≡ groups_before l.ground.site.g.now l.part.rule + lefts l.ground.site.g.now.fences (take l.place (spread l.ground.site.g.now l.part.rule));
  covered : IsCovered l.ground.site.g.now l.ground.site.labels.now l.net l.part.rule l.part.start (part_items l.ground.site.g.now l.part) l.next l.places.items;
}
