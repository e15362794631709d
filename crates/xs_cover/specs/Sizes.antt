-- Sizes of common trees, the productions that they use, and the least size of a tree that uses one.
use Rattle.std.specs.Prelude.{◌≡◌, ◌⊎◌, ℕ, ◌+◌, ◌<◌, ◌≤◌, min, List, [], ◌∷◌, length, None, Some}
use Rattle.std.specs.declared.option.Option.{Option}
use Rattle.xs_gram.specs.declared.parts.GItem.{GItem}
use Rattle.xs_gram.specs.declared.parts.GItem.TheVariants.{Fixed, Term, Non, Skip}
use Rattle.xs_gram.specs.Grammar.{Grammar, items, normal_word}
use Rattle.xs_gram.specs.Common.{Common, Kids, word, made, no_kid, kid, print, TreeFits}

-- the number of symbols of the tree's words on both sides
abbrev pub size : Grammar → Grammar → Common → ℕ
size g h t = length (print g t) + length (print h t)

-- every size above 1,000,000,000 counts as 1,000,000,000
abbrev pub capped : ℕ → ℕ
capped n = min n 1000000000

-- a node of the tree, or of one of the children, has the production
abbrev mutual
  pub Uses : Common → ℕ → Type 0
  Uses (word w) p = ⊥
  Uses (made q kids) p = (q ≡ p) ⊎ SomeUses kids p

  pub SomeUses : Kids → ℕ → Type 0
  SomeUses no_kid p = ⊥
  SomeUses (kid t kids) p = Uses t p ⊎ SomeUses kids p

-- the tree fits the start and uses the production
pub record Shows (g : Grammar) (p : ℕ) (t : Common) : Type 0 where
  pub fits : TreeFits g g.start t
  pub uses : Uses t p

-- a tree shows the production
abbrev pub IsReachable : Grammar → ℕ → Type 0
IsReachable g p = (t : Common) × Shows g p t

-- some tree that shows the production has this size, and none is smaller
pub record IsLeast (g h : Grammar) (p n : ℕ) : Type 0 where
  pub attained : (t : Common) × Shows g p t × (capped (size g h t) ≡ n)
  pub least : (t : Common) → Shows g p t → n ≤ capped (size g h t)

-- the least size of a tree that shows the production, and none where no tree does
abbrev pub IsLeastSize : Grammar → Grammar → ℕ → Option ℕ → Type 0
IsLeastSize g h p None = (t : Common) → Shows g p t → ⊥
IsLeastSize g h p (Some n) = IsLeast g h p n

-- each tree that shows the production has more than 4,096 symbols
abbrev pub IsTooLong : Grammar → Grammar → ℕ → Type 0
IsTooLong g h p = (t : Common) → Shows g p t → 4096 < size g h t

-- the tree shows the production, none that does is smaller, and it is not too long
pub record IsLeastTree (g h : Grammar) (p : ℕ) (t : Common) : Type 0 where
  pub shows : Shows g p t
  pub least : (u : Common) → Shows g p u → size g h t ≤ size g h u
  pub short : size g h t ≤ 4096

-- the number of symbols of the fixed words and of the ignorables of items, these in normal spelling
abbrev pub fixed_length : Grammar → List GItem → ℕ
fixed_length g [] = 0
fixed_length g (Fixed f ∷ is) = length f + fixed_length g is
fixed_length g (Term t s ∷ is) = fixed_length g is
fixed_length g (Non n s ∷ is) = fixed_length g is
fixed_length g (Skip k ∷ is) = length (normal_word g k) + fixed_length g is

-- what a production has of its own on both sides
abbrev pub own_length : Grammar → Grammar → ℕ → ℕ
own_length g h p = fixed_length g (items g p) + fixed_length h (items h p)

-- what the nodes of a tree have of their own, and the words of its leaves once for each side
abbrev mutual
  pub weight : Grammar → Grammar → Common → ℕ
  weight g h (word w) = length w + length w
  weight g h (made p kids) = own_length g h p + kids_weight g h kids

  pub kids_weight : Grammar → Grammar → Kids → ℕ
  kids_weight g h no_kid = 0
  kids_weight g h (kid t kids) = weight g h t + kids_weight g h kids
