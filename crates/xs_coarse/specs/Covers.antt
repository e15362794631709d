-- When a net covers a grammar, a level stretch and the groups of a grammar: all by single arcs and short
-- paths, so that who builds a net need not think of words. That a cover accepts at least the loose
-- words is a law.
use Rattle.std.specs.Prelude.{◌≡◌, ℕ, suc, ◌+◌, ◌<◌, ◌≤◌, Bool, List, [], ◌∷◌, length, slice_range, true, false, Some, IsSome}
use Rattle.std.specs.List.{Contains}
use Rattle.xs_class.specs.Classes.{Has}
use Rattle.xs_auto.specs.declared.call.Call.{Call}
use Rattle.xs_auto.specs.Edges.{Edge}
use Rattle.xs_auto.specs.Nets.{Graph, Walks, edges_of, calls_of, final_at}
use Rattle.xs_auto.specs.Nests.{Group, IsGroup, Crossing}
use Rattle.xs_gram.specs.declared.parts.GItem.{GItem}
use Rattle.xs_gram.specs.declared.parts.GItem.TheVariants.{Fixed, Term, Non, Skip}
use Rattle.xs_gram.specs.Grammar.{Grammar, rule_of, IsTermWord, IsSkipWord}
use Rattle.xs_gram.specs.Fences.{spread, IsFence, IsPlain, IsLevel, grouped, is_fence, OuterAt, GroupAt, OuterGroupAt}
use Rattle.xs_gram.specs.Loose.{Spot, entry, exit, at, Uses}
use Rattle.xs_loose.specs.Groups.{group_number}
use Rattle.xs_coarse.specs.Coarse.{Table, class_at}

-- each word of an item that is no nonterminal leads from a state to another
abbrev pub CoversLeaf : Grammar → Graph → GItem → ℕ → ℕ → Type 0
CoversLeaf g n (Fixed f) a b = Walks n a f b
CoversLeaf g n (Term t s) a b = (w : List ℕ) → IsTermWord g t w → Walks n a w b
CoversLeaf g n (Non m s) a b = ⊥
CoversLeaf g n (Skip k) a b = (w : List ℕ) → IsSkipWord g k w → Walks n a w b

-- the item is no nonterminal
abbrev pub IsLeaf : GItem → Type 0
IsLeaf (Fixed f) = Unit {0}
IsLeaf (Term t s) = Unit {0}
IsLeaf (Non m s) = ⊥
IsLeaf (Skip k) = Unit {0}

-- a call of the group whose left fence is spread item k of rule p
abbrev pub call_of : Grammar → ℕ → ℕ → ℕ → Call
call_of g p k to = record { group = group_number g p k; to = to }

-- The net covers what a nonterminal reaches: a set of nonterminals that has it, and each that a rule of one
-- of them uses as an outer item. Each place of these has a state, and where a walk may step from a place
-- to another, a path of the net leads from the one's state to the other's. All of them count as one
-- component: there is one entry and one exit of each, and no copies.
pub record CoversFrom (g : Grammar) (n : Graph) (state : Spot → ℕ) (has : ℕ → Bool) (c : ℕ) : Type 0 where
  pub own : has c ≡ true
  pub uses : (m k : ℕ) → has m ≡ true → Uses g m k → has k ≡ true
  pub begins : (p : ℕ) → p < length g.rules → has (rule_of g p).non ≡ true → Walks n (state (entry (rule_of g p).non)) [] (state (at p 0))
  pub ends : (p : ℕ) → p < length g.rules → has (rule_of g p).non ≡ true → Walks n (state (at p (length (spread g p)))) [] (state (exit (rule_of g p).non))
  pub leaves : (p k : ℕ) (i : GItem) → p < length g.rules → has (rule_of g p).non ≡ true → OuterAt g.fences (spread g p) k i → IsLeaf i → CoversLeaf g n i (state (at p k)) (state (at p (suc k)))
  pub enters : (p k m s : ℕ) → p < length g.rules → has (rule_of g p).non ≡ true → OuterAt g.fences (spread g p) k (Non m s) → Walks n (state (at p k)) [] (state (entry m))
  pub returns : (p k m s : ℕ) → p < length g.rules → has (rule_of g p).non ≡ true → OuterAt g.fences (spread g p) k (Non m s) → Walks n (state (exit m)) [] (state (at p (suc k)))
  pub groups : (p k m l r : ℕ) (inside : List GItem) → p < length g.rules → has (rule_of g p).non ≡ true → OuterGroupAt g.fences (spread g p) k m l inside r → Contains (calls_of n (state (at p k))) (call_of g p k (state (at p (suc m))))

-- the second net goes from a to b by each word by which the first one goes from start to end
abbrev pub Follows : Graph → ℕ → ℕ → Graph → ℕ → ℕ → Type 0
Follows block start end n a b = (nest : List Group) (w : List ℕ) → Crossing nest block start w end → Crossing nest n a w b

-- the net goes from a to b by each word by which one that covers what a nonterminal reaches goes from the
-- nonterminal's entry to its exit
pub record CoversNon (g : Grammar) (n : Graph) (c a b : ℕ) : Type 0 where
  pub block : Graph
  pub state : Spot → ℕ
  pub has : ℕ → Bool
  pub covers : CoversFrom g block state has c
  pub follows : Follows block (state (entry c)) (state (exit c)) n a b

-- each word of an item leads from a state to another
abbrev pub CoversItem : Grammar → Graph → GItem → ℕ → ℕ → Type 0
CoversItem g n (Fixed f) a b = CoversLeaf g n (Fixed f) a b
CoversItem g n (Term t s) a b = CoversLeaf g n (Term t s) a b
CoversItem g n (Non m s) a b = CoversNon g n m a b
CoversItem g n (Skip k) a b = CoversLeaf g n (Skip k) a b

-- the outer items and groups of a level stretch, from spread item k of rule p on, lead from a state to
-- another, each from where the one before it leads to
pub data CoversPart (g : Grammar) (n : Graph) (p : ℕ) : ℕ → List GItem → ℕ → ℕ → Type 0 where
  covers_none : {k a : ℕ} → CoversPart g n p k [] a a
  covers_then : {k a b c : ℕ} {i : GItem} {is : List GItem} → IsPlain g.fences i → CoversItem g n i a b → CoversPart g n p (suc k) is b c → CoversPart g n p k (i ∷ is) a c
  covers_group : {k a b c l r : ℕ} {inside after is : List GItem} → IsFence g.fences l r → IsLevel g.fences inside → Contains (calls_of n a) (call_of g p k b) → CoversPart g n p (suc (suc (k + length inside))) after b c → is ≡ grouped l inside r after → CoversPart g n p k is a c

-- the net, from state 0 to state last, covers the spread items of rule p from item start up to item end,
-- and so do its parts to and from the state of a place between them
pub record CoversCut (g : Grammar) (n : Graph) (p start place end : ℕ) (here last : ℕ) : Type 0 where
  pub low : start ≤ place
  pub high : place ≤ end
  pub front : CoversPart g n p start (slice_range (spread g p) start place) 0 here
  pub rest : CoversPart g n p place (slice_range (spread g p) place end) here last

-- the group whose left fence is spread item k of rule p: the content covers what is inside
pub record CoversGroup (g : Grammar) (p k m l : ℕ) (inside : List GItem) (r : ℕ) (group : Group) : Type 0 where
  pub left : group.left ≡ l
  pub right : group.right ≡ r
  pub first : ℕ
  pub last : ℕ
  pub starts : group.content.start ≡ Some first
  pub final : final_at group.content last ≡ true
  pub content : CoversPart g group.content p (suc k) inside first last

-- no edge of the net reads a fence symbol
abbrev pub IsUnfencedNet : Grammar → Graph → Type 0
IsUnfencedNet g n = (a s : ℕ) (e : Edge) → Contains (edges_of n a) e → Has e.class s → is_fence g.fences s ≡ false

-- the nest has a group for each group of the grammar, under its number, whose content covers what is
-- inside; each group has a fence of the grammar, and its content reads no fence symbol by an edge
pub record CoversGroups (g : Grammar) (nest : List Group) : Type 0 where
  pub there : (p k m l r : ℕ) (inside : List GItem) → p < length g.rules → GroupAt g.fences (spread g p) k m l inside r → (group : Group) × IsGroup nest (group_number g p k) group × CoversGroup g p k m l inside r group
  pub fences : (h : ℕ) (group : Group) → IsGroup nest h group → IsFence g.fences group.left group.right
  pub starts : (h : ℕ) (group : Group) → IsGroup nest h group → IsSome group.content.start
  pub plain : (h : ℕ) (group : Group) → IsGroup nest h group → IsUnfencedNet g group.content

-- no class of the table has a fence symbol
abbrev pub AreUnfenced : Grammar → Table → Type 0
AreUnfenced g t = (c s : ℕ) → Has (class_at t c) s → is_fence g.fences s ≡ false
