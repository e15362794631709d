use Rattle.std.proofs.Common.{◌≡◌, ℕ, ◌+◌, ◌<◌, take}
use Rattle.xs_gram.specs.Fences.{spread}
use Rattle.xs_loose.specs.Groups.{groups_before, lefts}
use Rattle.xs_coarse_net.specs.Going.{Grows}
use Rattle.xs_coarse_net.specs.Whole.{PlaceLaid}
use Rattle.xs_coarse_net.proofs.rule.lay_rule.Given as goal

abbrev pub invariant-places : goal.invariant-places
invariant-places l = record {
  number : l.number ≡ groups_before l.site.g.now l.rule + lefts l.site.g.now.fences (take l.place (spread l.site.g.now l.rule));
  grows : Grows l.initial.draft l.draft;
  laid : (j : ℕ) → j < l.place → PlaceLaid l.site.g.now l.site.labels.now l.draft l.rule j;
}
