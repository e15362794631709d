-- Lists of numbers by a key: the members and the rules of each component.
use Rattle.std.specs.Prelude.{◌≡◌, ℕ, ◌<◌, List, [], length, slice_index_or}
use Rattle.std.specs.List.{Contains}
use Rattle.xs_gram.specs.Grammar.{Grammar, rule_of}
use Rattle.xs_loose.specs.declared.components.Components.{Components}

-- the list has exactly the numbers of which P holds, in ascending order
pub record IsListOf (P : ℕ → Type 0) (xs : List ℕ) : Type 0 where
  pub there : (i : ℕ) → P i → Contains xs i
  pub only : (i : ℕ) → Contains xs i → P i
  pub rising : (j k : ℕ) → j < k → k < length xs → slice_index_or xs j 0 < slice_index_or xs k 0

-- the key stands at the place, which is before the end
abbrev pub HasKey : List ℕ → ℕ → ℕ → ℕ → Type 0
HasKey keys end key i = (i < end) × (slice_index_or keys i 0 ≡ key)

-- for each key the places before the end at which it stands
abbrev pub AreListed : List ℕ → ℕ → List (List ℕ) → Type 0
AreListed keys end lists = (key : ℕ) → IsListOf (HasKey keys end key) (slice_index_or lists key [])

-- each rule before the end has its nonterminal's component as its key
pub record AreRuleKeys (g : Grammar) (comps : List ℕ) (end : ℕ) (keys : List ℕ) : Type 0 where
  pub counted : length keys ≡ end
  pub each : (p : ℕ) → p < end → slice_index_or keys p 0 ≡ slice_index_or comps (rule_of g p).non 0

-- the nonterminal, the rule is of the component
abbrev pub IsNonOf : Grammar → List ℕ → ℕ → ℕ → Type 0
IsNonOf g comps component n = (n < g.nons) × (slice_index_or comps n 0 ≡ component)

abbrev pub IsRuleIn : Grammar → List ℕ → ℕ → ℕ → Type 0
IsRuleIn g comps component p = (p < length g.rules) × (slice_index_or comps (rule_of g p).non 0 ≡ component)

-- the nonterminals and the rules of each component, by its number
pub record AreComponentsOf (g : Grammar) (comps : List ℕ) (lists : Components) : Type 0 where
  pub members : (component : ℕ) → IsListOf (IsNonOf g comps component) (slice_index_or lists.members.items component [])
  pub rules : (component : ℕ) → IsListOf (IsRuleIn g comps component) (slice_index_or lists.rules.items component [])
  pub counted : length lists.rules.items ≡ length lists.members.items
  pub below : (n : ℕ) → n < g.nons → slice_index_or comps n 0 < length lists.members.items
