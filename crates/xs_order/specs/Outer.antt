-- The nonterminals among the outer items of a stretch, and how they are gathered.
use Rattle.std.specs.Prelude.{◌≡◌, ℕ, ◌<◌, ◌≤◌, List, [], ◌∷◌, ◌++◌, length, drop}
use Rattle.xs_gram.specs.declared.parts.GItem.{GItem}
use Rattle.xs_gram.specs.Fences.{IsFence, IsPlain, IsLevel, grouped}
use Rattle.xs_order.specs.Rules.{nons_of}

-- the nonterminals among the outer items of a level stretch, in order
pub data AreOuterNons (fs : List (ℕ × ℕ)) : List GItem → List ℕ → Type 0 where
  no_nons : AreOuterNons fs [] []
  item_nons : {i : GItem} {is : List GItem} {ns ms : List ℕ} → IsPlain fs i → AreOuterNons fs is ns → ms ≡ nons_of (i ∷ []) ++ ns → AreOuterNons fs (i ∷ is) ms
  group_nons : {l r : ℕ} {inside after is : List GItem} {ns : List ℕ} → IsFence fs l r → IsLevel fs inside → AreOuterNons fs after ns → is ≡ grouped l inside r after → AreOuterNons fs is ns

-- From the outer item or the group at a place on to the next place that stands in no group: its
-- nonterminal, if it has one, was added.
pub record IsPast (fs : List (ℕ × ℕ)) (is : List GItem) (place next : ℕ) (old new : List ℕ) : Type 0 where
  pub later : place < next
  pub within : next ≤ length is
  pub level : IsLevel fs (drop next is)
  pub added : List ℕ
  pub adds : new ≡ old ++ added
  pub nons : (ns : List ℕ) → AreOuterNons fs (drop next is) ns → AreOuterNons fs (drop place is) (added ++ ns)
