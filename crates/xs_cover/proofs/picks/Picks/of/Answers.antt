use Rattle.std.proofs.Common.{List, ℕ, sym, subst}
use Rattle.std.specs.BinaryHeap.{heap_items}
use Rattle.xs_cover.specs.Leaves.{AreLeaves}
use Rattle.xs_cover.proofs.Making.{holds_first}
use Rattle.xs_cover.proofs.picks.Picks.of.Goals as goal

pub begin-requires-clause-picks : goal.begin-requires-clause-picks
begin-requires-clause-picks c =
    let s = c.in_ok-picks.picks in
    let made = c.in_ok-picks.ensures in
    let g = c.args.two.now.text in
    let leaves : AreLeaves g c.requires.terms.0 s.prices.terms.items = subst (λ (l : List ℕ). AreLeaves g c.requires.terms.0 l) (sym made.prices) c.requires.terms.1 in
    holds_first g c.args.two.now.xml c.requires.terms.0 s.prices.terms.items s.prices.nons.items s.forest s.waiting.items (heap_items s.ready) c.requires.sound.text leaves made.full made.forest made.lists made.waiting made.ready made.ordered
