-- Graphs whose nodes are the nonterminals of a grammar.
use Rattle.std.specs.Prelude.{◌≡◌, ◌≢◌, ◌↔◌, ℕ, ◌<◌, ◌≤◌, Bool, true, false, List, [], length, slice_get, slice_index_or, Some}
use Rattle.std.specs.List.{Contains}
use Rattle.xs_graph.specs.Graphs.{HasEdge}
use Rattle.xs_gram.specs.declared.parts.GItem.{GItem}
use Rattle.xs_gram.specs.declared.parts.GItem.TheVariants.{Fixed, Term, Non, Skip}
use Rattle.xs_gram.specs.Grammar.{Grammar, rule_of, term_of, skip_of}

-- a list for each of that many rules, of which R holds
pub record AreByRule (R : ℕ → List ℕ → Type 0) (count : ℕ) (lists : List (List ℕ)) : Type 0 where
  pub counted : length lists ≡ count
  pub each : (p : ℕ) → p < count → R p (slice_index_or lists p [])

-- the node is the nonterminal of a rule before rule `end`, among whose targets is the other one
pub record IsEdgeOf (g : Grammar) (targets : List (List ℕ)) (end n m : ℕ) : Type 0 where
  pub rule : ℕ
  pub before : rule < end
  pub non : (rule_of g rule).non ≡ n
  pub target : Contains (slice_index_or targets rule []) m

-- an edge leads from the nonterminal of each rule before rule `end` to each of the rule's targets,
-- and there are no others
pub record IsGraphTo (g : Grammar) (targets : List (List ℕ)) (end : ℕ) (graph : List (List ℕ)) : Type 0 where
  pub counted : length graph ≡ g.nons
  pub there : (n m : ℕ) → IsEdgeOf g targets end n m → HasEdge graph n m
  pub only : (n m : ℕ) → HasEdge graph n m → IsEdgeOf g targets end n m

-- whether an item is nullable, by the flags of the nonterminals
abbrev pub is_nullable : Grammar → List Bool → GItem → Bool
is_nullable g flags (Fixed f) = false
is_nullable g flags (Term t s) = (term_of g t).automaton.nullable
is_nullable g flags (Non n s) = slice_index_or flags n false
is_nullable g flags (Skip k) = (skip_of g k).automaton.nullable

-- the place is the first from `from` on at which an item is not nullable, or the number of items
pub record IsFirstFull (g : Grammar) (flags : List Bool) (is : List GItem) (from place : ℕ) : Type 0 where
  pub low : from ≤ place
  pub high : place ≤ length is
  pub passed : (k : ℕ) (item : GItem) → from ≤ k → k < place → slice_get is k ≡ Some item → is_nullable g flags item ≡ true
  pub stopped : (item : GItem) → slice_get is place ≡ Some item → is_nullable g flags item ≡ false

-- one of the items is the nonterminal m, and all others are nullable
pub record IsLeading (g : Grammar) (flags : List Bool) (is : List GItem) (m : ℕ) : Type 0 where
  pub dot : ℕ
  pub slot : ℕ
  pub item : slice_get is dot ≡ Some (Non m slot)
  pub others : (k : ℕ) (other : GItem) → k ≢ dot → slice_get is k ≡ Some other → is_nullable g flags other ≡ true

abbrev pub AreLeading : Grammar → List Bool → List GItem → List ℕ → Type 0
AreLeading g flags is targets = (m : ℕ) → Contains targets m ↔ IsLeading g flags is m
