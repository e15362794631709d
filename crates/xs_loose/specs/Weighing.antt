-- The weights of components, by nonterminal, and what is known while they are computed.
use Rattle.std.specs.Prelude.{◌≡◌, ◌⊎◌, ℕ, ◌<◌, ◌≤◌, List, length, slice_index_or}
use Rattle.xs_gram.specs.declared.parts.GItem.{GItem}
use Rattle.xs_gram.specs.declared.parts.GItem.TheVariants.{Fixed, Term, Non, Skip}
use Rattle.xs_gram.specs.Grammar.{Grammar}
use Rattle.xs_gram.specs.Loose.{IsMember}
use Rattle.xs_check_laws.specs.Weights.{ItemWeighs, ComponentWeighs}

-- each nonterminal has the weight of its component
pub record AreWeights (g : Grammar) (weights : List ℕ) : Type 0 where
  pub counted : length weights ≡ g.nons
  pub each : (n : ℕ) → n < g.nons → ComponentWeighs g n (slice_index_or weights n 0)

-- each nonterminal of a component before this one has the weight of its component
pub record AreWeightsBefore (g : Grammar) (comps : List ℕ) (component : ℕ) (weights : List ℕ) : Type 0 where
  pub counted : length weights ≡ g.nons
  pub each : (n : ℕ) → n < g.nons → slice_index_or comps n 0 < component → ComponentWeighs g n (slice_index_or weights n 0)

-- where the item is a nonterminal, its component has its weight
abbrev pub HasWeight : Grammar → List ℕ → GItem → Type 0
HasWeight g weights (Fixed f) = Unit {0}
HasWeight g weights (Term t s) = Unit {0}
HasWeight g weights (Non n s) = ComponentWeighs g n (slice_index_or weights n 0)
HasWeight g weights (Skip k) = Unit {0}

-- where the item is a nonterminal, its component is not after this one
abbrev pub IsUnder : List ℕ → ℕ → GItem → Type 0
IsUnder comps component (Fixed f) = Unit {0}
IsUnder comps component (Term t s) = Unit {0}
IsUnder comps component (Non n s) = slice_index_or comps n 0 ≤ component
IsUnder comps component (Skip k) = Unit {0}

-- the item is the nonterminal, which is of the component
abbrev pub IsOneOf : List ℕ → ℕ → GItem → ℕ → Type 0
IsOneOf comps component (Fixed f) n = ⊥
IsOneOf comps component (Term t s) n = ⊥
IsOneOf comps component (Non m s) n = (m ≡ n) × (slice_index_or comps m 0 ≡ component)
IsOneOf comps component (Skip k) n = ⊥

-- what an item counts in the component of c: 1 where it is a member, and its weight otherwise
abbrev pub Counts : Grammar → ℕ → GItem → ℕ → Type 0
Counts g c i w = (IsMember g c i × (w ≡ 1)) ⊎ ((IsMember g c i → ⊥) × ItemWeighs g i w)
