-- Components, walks in them, and loose words: a superset of what items spell, in which groups are
-- called and returned from exactly, and all other recursion is regular.
use Rattle.std.specs.Prelude.{◌≡◌, ◌↔◌, ℕ, suc, ◌<◌, ◌≤◌, List, [], ◌∷◌, ◌++◌, length, slice_index_or}
use Rattle.xs_gram.specs.declared.parts.GItem.{GItem}
use Rattle.xs_gram.specs.declared.parts.GItem.TheVariants.{Fixed, Term, Non, Skip}
use Rattle.xs_gram.specs.Grammar.{Grammar, IsRuleOf, IsTermWord, IsSkipWord}
use Rattle.xs_gram.specs.Fences.{spread, IsFence, IsPlain, grouped, OuterAt, OuterGroupAt}

-- a rule of m has the outer item n
pub record Uses (g : Grammar) (m n : ℕ) : Type 0 where
  pub rule : ℕ
  pub dot : ℕ
  pub slot : ℕ
  pub of : IsRuleOf g m rule
  pub item : OuterAt g.fences (spread g rule) dot (Non n slot)

-- n can be reached from m through the outer items of rules
pub data Reaches (g : Grammar) : ℕ → ℕ → Type 0 where
  here : {m : ℕ} → Reaches g m m
  onward : {m n k : ℕ} → Uses g m n → Reaches g n k → Reaches g m k

-- m and n are of one component: each can be reached from the other
abbrev pub AreOne : Grammar → ℕ → ℕ → Type 0
AreOne g m n = Reaches g m n × Reaches g n m

-- Each nonterminal has a component's number: two have the same number exactly where they are of one
-- component, and no outer item of a rule has a greater number than the rule's nonterminal.
pub record AreComponents (g : Grammar) (comps : List ℕ) : Type 0 where
  pub counted : length comps ≡ g.nons
  pub one : (m n : ℕ) → m < g.nons → n < g.nons → (slice_index_or comps m 0 ≡ slice_index_or comps n 0) ↔ AreOne g m n
  pub falls : (m n : ℕ) → m < g.nons → Uses g m n → slice_index_or comps n 0 ≤ slice_index_or comps m 0

-- the item is a nonterminal of the component of c
abbrev pub IsMember : Grammar → ℕ → GItem → Type 0
IsMember g c (Fixed f) = ⊥
IsMember g c (Term t s) = ⊥
IsMember g c (Non m s) = AreOne g c m
IsMember g c (Skip k) = ⊥

-- the places of a component: the entry and the exit of each member, and a number of items into a
-- rule
pub data Spot : Type 0 where
  entry : ℕ → Spot
  exit : ℕ → Spot
  at : ℕ → ℕ → Spot

-- The places of a component are spots: those inside a rule are numbers of spread items where no group
-- is open. A loose word of an item, of a level stretch, a step in the component of c and a walk of steps,
-- each with its word. A group in a stretch has its left symbol, a loose word of the stretch inside,
-- and its right symbol. An outer item that is no member is of a lower component, and what a group
-- encloses is spelt by a shorter word.
mutual
  pub data LooseItem (g : Grammar) : GItem → List ℕ → Type 0 where
    loose_fixed : {f : List ℕ} → LooseItem g (Fixed f) f
    loose_term : {t s : ℕ} {w : List ℕ} → IsTermWord g t w → LooseItem g (Term t s) w
    loose_skip : {k : ℕ} {w : List ℕ} → IsSkipWord g k w → LooseItem g (Skip k) w
    loose_non : {m s : ℕ} {w : List ℕ} → Walk g m (entry m) w (exit m) → LooseItem g (Non m s) w

  pub data IsLoose (g : Grammar) : List GItem → List ℕ → Type 0 where
    loose_none : IsLoose g [] []
    loose_then : {i : GItem} {is : List GItem} {u v w : List ℕ} → IsPlain g.fences i → LooseItem g i u → IsLoose g is v → w ≡ u ++ v → IsLoose g (i ∷ is) w
    loose_group : {l r : ℕ} {inside after is : List GItem} {u v w : List ℕ} → IsFence g.fences l r → IsLoose g inside u → IsLoose g after v → is ≡ grouped l inside r after → w ≡ l ∷ (u ++ r ∷ v) → IsLoose g is w

  pub data Step (g : Grammar) : ℕ → Spot → List ℕ → Spot → Type 0 where
    begins : {c p m : ℕ} → IsRuleOf g m p → AreOne g c m → Step g c (entry m) [] (at p 0)
    passes : {c p k m : ℕ} {i : GItem} {w : List ℕ} → IsRuleOf g m p → AreOne g c m → OuterAt g.fences (spread g p) k i → (IsMember g c i → ⊥) → LooseItem g i w → Step g c (at p k) w (at p (suc k))
    encloses : {c p k n m l r : ℕ} {inside : List GItem} {u w : List ℕ} → IsRuleOf g m p → AreOne g c m → OuterGroupAt g.fences (spread g p) k n l inside r → IsLoose g inside u → w ≡ l ∷ (u ++ r ∷ []) → Step g c (at p k) w (at p (suc n))
    calls : {c p k m n s : ℕ} → IsRuleOf g m p → AreOne g c m → OuterAt g.fences (spread g p) k (Non n s) → AreOne g c n → Step g c (at p k) [] (entry n)
    ends : {c p k m : ℕ} → IsRuleOf g m p → AreOne g c m → k ≡ length (spread g p) → Step g c (at p k) [] (exit m)
    returns : {c p k m n s : ℕ} → IsRuleOf g m p → AreOne g c m → OuterAt g.fences (spread g p) k (Non n s) → AreOne g c n → Step g c (exit n) [] (at p (suc k))

  pub data Walk (g : Grammar) : ℕ → Spot → List ℕ → Spot → Type 0 where
    stays : {c : ℕ} {x : Spot} → Walk g c x [] x
    goes : {c : ℕ} {x y z : Spot} {u v w : List ℕ} → Step g c x u y → Walk g c y v z → w ≡ u ++ v → Walk g c x w z
