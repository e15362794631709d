-- The run of an automaton over a document, from a place of it on.
use Rattle.std.specs.Prelude.{◌⊎◌, ℕ, ◌≤◌, Bool, List, slice_range, Contains, IsTrue}
use Rattle.xs_regex.specs.declared.position.Position.{Position}
use Rattle.xs_regex.specs.Automaton.{Accepts, HasAt, Leads}

-- position k is reached by the symbol: it is a first one at the start, or follows one that was reached
abbrev pub Enters : Position → Bool → List ℕ → ℕ → ℕ → Type 0
Enters p at_start reached s k = ((IsTrue at_start × Contains p.first k) ⊎ ((j : ℕ) × Contains reached j × Leads p j k)) × HasAt p k s

-- a word of the automaton ends at place j, no farther than place most
abbrev pub AcceptsTo : Position → List ℕ → ℕ → ℕ → ℕ → Type 0
AcceptsTo p w from most j = (from ≤ j) × (j ≤ most) × Accepts p (slice_range w from j)
