use Rattle.xs_tree.specs.Flat.{trees_of}
use Rattle.xs_cover.specs.Kept.{IsShownAt}
use Rattle.xs_cover.proofs.covers.Covers.shown.Given as goal

abbrev pub invariant-steps : goal.invariant-steps
invariant-steps l = IsShownAt l.two l.self.tables l.numbers.items l.rule l.place (trees_of l.builder) l.number

abbrev pub decreases-steps : goal.decreases-steps
decreases-steps l = l.place
