use Rattle.std.proofs.Common.{List, ℕ, sym, subst}
use Rattle.std.specs.BinaryHeap.{heap_items}
use Rattle.xs_cover.specs.Picks.{Holds}
use Rattle.xs_cover.proofs.Holding.{holds_next, set_next}
use Rattle.xs_cover.proofs.Making.{closed_at_last}
use Rattle.xs_cover.proofs.picks.Picks.settle.Goals as goal

pub returns-in_default-clause-picks : goal.returns-in_default-clause-picks
returns-in_default-clause-picks c =
    let s = c.entries.self in
    subst (λ (l : List (ℕ × ℕ)). Holds c.args.two.now.text c.args.two.now.xml s.prices.terms.items s.prices.nons.items s.forest s.waiting.items l) (sym c.in_default.ensures.same) c.entries.invariant.picks

pub returns-in_default-clause-closed : goal.returns-in_default-clause-closed
returns-in_default-clause-closed c = λ r there.
    let s = c.entries.self in
    closed_at_last c.args.two.now.text c.args.two.now.xml s.prices s.forest s.waiting.items (heap_items s.ready) r c.entries.invariant.picks c.in_default.ensures.none (c.entries.invariant.set r there)

pub make-requires-clause-picks : goal.make-requires-clause-picks
make-requires-clause-picks c =
    let s = c.entries.self in
    holds_next c.args.two.now.text c.args.two.now.xml s.prices.terms.items s.prices.nons.items s.forest s.waiting.items (heap_items s.ready) c.entries.invariant.picks (c.in-Some.left, c.in-Some.rule) (heap_items c.next.new.ready) c.in-Some.ensures.some

pub make-requires-clause-first : goal.make-requires-clause-first
make-requires-clause-first c = record {
  entry = c.entries.invariant.picks.entries (c.in-Some.left, c.in-Some.rule) c.in-Some.ensures.some.there;
  greatest = c.in-Some.ensures.some.greatest;
}

pub make-requires-clause-set : goal.make-requires-clause-set
make-requires-clause-set c = λ r there.
    let s = c.entries.self in
    set_next c.args.two.now.text c.args.two.now.xml s.prices.terms.items s.prices.nons.items s.waiting.items (heap_items s.ready) (heap_items c.next.new.ready) c.in-Some.left c.in-Some.rule r c.in-Some.ensures.some (c.entries.invariant.set r there)
