use Rattle.std.proofs.Common.{◌≡◌, ◌≤◌, length}
use Rattle.xs_gram.specs.Grammar.{slots}
use Rattle.xs_listing.specs.Making.{Extends}
use Rattle.xs_listing.proofs.Gathering.{Gathers}
use Rattle.xs_listing.proofs.kids.kids_of.Given as goal

abbrev pub invariant-fronts : goal.invariant-fronts
invariant-fronts l = record {
  within : l.dot ≤ length l.items;
  long : length l.kids.items ≡ length (slots l.items);
  extends : Extends l.fn.builder l.builder;
  gathers : Gathers l.g l.doc l.forest l.fn.alt.rule l.fn.alt.left l.numbers l.dot l.front l.builder l.kids.items;
}

abbrev pub decreases-fronts : goal.decreases-fronts
decreases-fronts l = l.dot
