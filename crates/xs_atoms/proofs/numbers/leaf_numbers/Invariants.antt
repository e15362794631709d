use Rattle.std.proofs.Common.{◌≡◌, ℕ, ◌<◌, [], length}
use Rattle.std.specs.Prelude.{slice_index_or}
use Rattle.xs_gram.specs.Grammar.{term_of, skip_of}
use Rattle.xs_atoms.specs.Classed.{StayAll, AreNumbersOf, AreTermNumbers}
use Rattle.xs_atoms.proofs.numbers.leaf_numbers.Given as goal

abbrev pub invariant-terms : goal.invariant-terms
invariant-terms l =
    StayAll l.initial.distinct l.distinct
    × (length l.terms.items ≡ l.term)
    × ((t : ℕ) → t < l.term → AreNumbersOf l.distinct (term_of l.g t).automaton.classes (slice_index_or l.terms.items t []))

abbrev pub invariant-skips : goal.invariant-skips
invariant-skips l =
    StayAll l.initial.distinct l.distinct
    × AreTermNumbers l.g l.distinct l.terms.items
    × (length l.skips.items ≡ l.skip)
    × ((t : ℕ) → t < l.skip → AreNumbersOf l.distinct (skip_of l.g t).automaton.classes (slice_index_or l.skips.items t []))
