-- Fences: pairs of symbols that enclose groups of items, and rules spread at fence symbols.
use Rattle.std.specs.Prelude.{◌≡◌, ℕ, suc, ◌+◌, ◌==◌, List, [], ◌∷◌, ◌++◌, length, Bool, true, false, ◌||◌, IsTrue, slice_get, Some}
use Rattle.std.specs.List.{Contains}
use Rattle.xs_class.specs.Classes.{Has}
use Rattle.xs_regex.specs.declared.regex.Regex.{Regex}
use Rattle.xs_regex.specs.declared.regex.Regex.TheVariants as R
use Rattle.xs_gram.specs.declared.parts.GItem.{GItem}
use Rattle.xs_gram.specs.declared.parts.GItem.TheVariants.{Fixed, Term, Non, Skip}
use Rattle.xs_gram.specs.Grammar.{Grammar, items}

-- all symbols of the fences
abbrev pub fence_symbols : List (ℕ × ℕ) → List ℕ
fence_symbols [] = []
fence_symbols (f ∷ fs) = f.0 ∷ f.1 ∷ fence_symbols fs

-- whether the symbol is a left one, a right one, or any of the fences
abbrev pub is_left : List (ℕ × ℕ) → ℕ → Bool
is_left [] s = false
is_left (f ∷ fs) s = (f.0 == s) || is_left fs s

abbrev pub is_right : List (ℕ × ℕ) → ℕ → Bool
is_right [] s = false
is_right (f ∷ fs) s = (f.1 == s) || is_right fs s

abbrev pub is_fence : List (ℕ × ℕ) → ℕ → Bool
is_fence fs s = is_left fs s || is_right fs s

-- the two symbols are a fence
pub record IsFence (fs : List (ℕ × ℕ)) (l r : ℕ) : Type 0 where
  pub is : Contains fs (l, r)

-- the fixed word, unless it is empty, and then the items
abbrev pub after_word : List ℕ → List GItem → List GItem
after_word [] is = is
after_word (s ∷ w) is = Fixed (s ∷ w) ∷ is

-- A fixed word split at fence symbols, and then the items: each fence symbol is a fixed word by
-- itself, and the stretches between stay whole. `before` stands before the word, after the last
-- fence symbol.
abbrev pub split_word : List (ℕ × ℕ) → List ℕ → List ℕ → List GItem → List GItem
split_word fs before [] is = after_word before is
split_word fs before (s ∷ w) is = elim (is_fence fs s) [
  | true ↦ after_word before (Fixed (s ∷ []) ∷ split_word fs [] w is)
  | false ↦ split_word fs (before ++ s ∷ []) w is
]

-- the items with each fixed word split
abbrev pub spread_items : List (ℕ × ℕ) → List GItem → List GItem
spread_items fs [] = []
spread_items fs (Fixed w ∷ is) = split_word fs [] w (spread_items fs is)
spread_items fs (Term t s ∷ is) = Term t s ∷ spread_items fs is
spread_items fs (Non m s ∷ is) = Non m s ∷ spread_items fs is
spread_items fs (Skip k ∷ is) = Skip k ∷ spread_items fs is

-- the spread items of rule p
abbrev pub spread : Grammar → ℕ → List GItem
spread g p = spread_items g.fences (items g p)

-- no fence symbol stands in the item
abbrev pub IsPlain : List (ℕ × ℕ) → GItem → Type 0
IsPlain fs (Fixed w) = (s : ℕ) → Contains w s → is_fence fs s ≡ false
IsPlain fs (Term t s) = Unit {0}
IsPlain fs (Non m s) = Unit {0}
IsPlain fs (Skip k) = Unit {0}

-- a group, that is a left fence, the items between and the right fence that closes it, and then the
-- items after it
abbrev pub grouped : ℕ → List GItem → ℕ → List GItem → List GItem
grouped l inside r after = Fixed (l ∷ []) ∷ (inside ++ Fixed (r ∷ []) ∷ after)

-- The stretch is level: each fence symbol in it has its partner in it. Each right one closes the
-- innermost open left one, which is of its own pair.
pub data IsLevel (fs : List (ℕ × ℕ)) : List GItem → Type 0 where
  level_none : IsLevel fs []
  level_then : {i : GItem} {is : List GItem} → IsPlain fs i → IsLevel fs is → IsLevel fs (i ∷ is)
  level_group : {l r : ℕ} {inside after is : List GItem} → IsFence fs l r → IsLevel fs inside → IsLevel fs after → is ≡ grouped l inside r after → IsLevel fs is

-- Item k of a level stretch is i, which is no fence symbol and stands in no group of the stretch.
pub record OuterAt (fs : List (ℕ × ℕ)) (is : List GItem) (k : ℕ) (i : GItem) : Type 0 where
  pub before : List GItem
  pub after : List GItem
  pub split : is ≡ before ++ i ∷ after
  pub level : IsLevel fs before
  pub plain : IsPlain fs i
  pub place : k ≡ length before

-- A group of the stretch, also one inside other groups: its left fence is item k, its right fence
-- item m.
pub record GroupAt (fs : List (ℕ × ℕ)) (is : List GItem) (k m l : ℕ) (inside : List GItem) (r : ℕ) : Type 0 where
  pub before : List GItem
  pub after : List GItem
  pub split : is ≡ before ++ grouped l inside r after
  pub fence : IsFence fs l r
  pub within : IsLevel fs inside
  pub place : k ≡ length before
  pub partner : m ≡ suc (k + length inside)

-- a group of a level stretch that stands in no other group of it
pub record OuterGroupAt (fs : List (ℕ × ℕ)) (is : List GItem) (k m l : ℕ) (inside : List GItem) (r : ℕ) : Type 0 where
  pub group : GroupAt fs is k m l inside r
  pub level : IsLevel fs group.before

-- the right fence that closes left fence k is item m
pub record IsPartner (fs : List (ℕ × ℕ)) (is : List GItem) (k m : ℕ) : Type 0 where
  pub left : ℕ
  pub inside : List GItem
  pub right : ℕ
  pub group : GroupAt fs is k m left inside right

-- item k is a left fence
pub record IsLeftFence (fs : List (ℕ × ℕ)) (is : List GItem) (k : ℕ) : Type 0 where
  pub symbol : ℕ
  pub item : slice_get is k ≡ Some (Fixed (symbol ∷ []))
  pub left : IsTrue (is_left fs symbol)

-- A cut of a level stretch at c, that is before item c. The group round it is the innermost one
-- whose left fence stands before c and whose right fence stands at c or later. The front goes from
-- the place after that left fence up to c, the rest from c up to that right fence. Where there is no
-- group round it, they go from the beginning and to the end.
pub data IsCut (fs : List (ℕ × ℕ)) : List GItem → ℕ → List GItem → List GItem → Type 0 where
  cut_here : {is front rest : List GItem} {c : ℕ} → IsLevel fs front → IsLevel fs rest → is ≡ front ++ rest → c ≡ length front → IsCut fs is c front rest
  cut_inside : {is before inside front rest : List GItem} {l r k c : ℕ} (after : List GItem) → IsLevel fs before → IsFence fs l r → IsCut fs inside k front rest → is ≡ before ++ grouped l inside r after → c ≡ length before + suc k → IsCut fs is c front rest

-- the class has no fence symbol
abbrev pub IsUnfenced : List (ℕ × ℕ) → List (ℕ × ℕ) → Type 0
IsUnfenced fs class = (s : ℕ) → Has class s → is_fence fs s ≡ false

-- no class in the regex has a fence symbol, also none that is repeated no times
abbrev pub AvoidsFences : List (ℕ × ℕ) → Regex → Type 0
AvoidsFences fs R.Empty = Unit {0}
AvoidsFences fs (R.Set class) = IsUnfenced fs class
AvoidsFences fs (R.Then' p a q b) = AvoidsFences fs a × AvoidsFences fs b
AvoidsFences fs (R.Or' p a q b) = AvoidsFences fs a × AvoidsFences fs b
AvoidsFences fs (R.Star' p a) = AvoidsFences fs a
AvoidsFences fs (R.Times' p a least most) = AvoidsFences fs a
