-- Items of a chart: what stands at a place of the document, begun at another.
use Rattle.std.specs.Prelude.{◌≡◌, ℕ, ◌≤◌, List, ◌++◌, length, take, None, Some, slice_range}
use Rattle.xs_regex.specs.declared.position.Position.{Position}
use Rattle.xs_regex.specs.Automaton.{Runs}
use Rattle.xs_gram.specs.declared.parts.GItem.{GItem}
use Rattle.xs_gram.specs.declared.parts.GItem.TheVariants.{Fixed, Term, Non, Skip}
use Rattle.xs_gram.specs.declared.places.Place.{Place}
use Rattle.xs_gram.specs.Grammar.{Grammar, term_of, skip_of, items, IsRuleOf, ItemAt}
use Rattle.xs_gram.specs.Derivations.{Parts, FitsItems, parts_yield}

-- there are parts for the first n items of rule p whose words joined are u
abbrev pub Spells : Grammar → ℕ → ℕ → List ℕ → Type 0
Spells g p n u = (n ≤ length (items g p)) × (ps : Parts) × FitsItems g (take n (items g p)) ps × (parts_yield ps ≡ u)

-- the position automaton of a terminal or an ignorable
abbrev pub IsAutomatonOf : Grammar → GItem → Position → Type 0
IsAutomatonOf g (Term t s) a = a ≡ (term_of g t).automaton
IsAutomatonOf g (Skip k) a = a ≡ (skip_of g k).automaton
IsAutomatonOf g (Fixed f) a = ⊥
IsAutomatonOf g (Non n s) a = ⊥

-- The nonterminal is called at the place: the start at 0, and each nonterminal that an item of a
-- rule of a called one is, where the items before it spell the document from the call up to there.
pub data IsCalled (g : Grammar) (w : List ℕ) : ℕ → ℕ → Type 0 where
  begins : IsCalled g w g.start 0
  calls : (n h q e m s j : ℕ) → IsCalled g w n h → IsRuleOf g n q → ItemAt g q e (Non m s) → h ≤ j → j ≤ length w → Spells g q e (slice_range w h j) → IsCalled g w m j

-- What stands before a place spells the word: the items before its dot, and inside a terminal or an
-- ignorable also the run of its automaton up to the position.
abbrev pub SpeltBefore : Grammar → Place → List ℕ → Type 0
SpeltBefore g c u = elim c.inside [
  | None ↦ Spells g c.rule c.dot u
  | Some k ↦ (item : GItem) × (a : Position) × (before : List ℕ) × (v : List ℕ) × ItemAt g c.rule c.dot item × IsAutomatonOf g item a × (u ≡ before ++ v) × Spells g c.rule c.dot before × Runs a v k
]

-- the item of this place and origin i stands in set j
abbrev pub Stands : Grammar → List ℕ → Place → ℕ → ℕ → Type 0
Stands g w c i j = (n : ℕ) × IsRuleOf g n c.rule × IsCalled g w n i × (i ≤ j) × (j ≤ length w) × SpeltBefore g c (slice_range w i j)
