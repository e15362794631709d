-- Where the fence symbols of a word are balanced, the items whose word it is are level when they are
-- spread.
use Rattle.std.proofs.Common.{◌≡◌, ◌∙◌, ap, sym, refl, subst, ℕ, zero, suc, List, [], ◌∷◌, ◌++◌, append_assoc, Some, None, Bool, true, false, ◌||◌, ◌==◌, if◌then◌else◌, eqb-true, inl, inr, arith}
use Rattle.std.specs.List.{flat_map, Contains}
use Rattle.std.specs.declared.option.Option.{Option}
use Rattle.std.proofs.lemmas.List.Concat.{flat_map-append}
use Rattle.xs_class.proofs.Truth.{false_true}
use Rattle.xs_gram.specs.declared.parts.GItem.{GItem}
use Rattle.xs_gram.specs.declared.parts.GItem.TheVariants.{Fixed, Term, Non, Skip}
use Rattle.xs_gram.specs.Fences.{IsFence, IsPlain, IsLevel, level_none, level_then, level_group, after_word, split_word, spread_items, is_left, is_right, is_fence}
use Rattle.xs_gram.specs.Laws.{Every}
use Rattle.xs_gram.proofs.Fences.{IsAmong, of_among}
use Rattle.xs_pair.specs.Fences.{IsPair, IsBalanced}
use Rattle.xs_pair.specs.Balance.{right_of, stepped, goes_on, closes, AreApart}
use Rattle.xs_pair.proofs.Balancing.{pair_found, no_left, plain_step, next_is, balanced_closes}

-- the symbols of the fixed words of items, in order
abbrev pub item_word : GItem → List ℕ
item_word (Fixed w) = w
item_word (Term t s) = []
item_word (Non m s) = []
item_word (Skip k) = []

abbrev pub items_word : List GItem → List ℕ
items_word is = flat_map item_word is

pub words_append : (is js : List GItem) → items_word (is ++ js) ≡ items_word is ++ items_word js
words_append is js = flat_map-append item_word is js

pair_among : (fs : List (ℕ × ℕ)) (l r : ℕ) → IsPair fs l r → IsAmong fs l r
pair_among [] l r p = absurd p
pair_among (f ∷ fs) l r (inl is) = inl is
pair_among (f ∷ fs) l r (inr p) = inr (pair_among fs l r p)

pub pair_fence : (fs : List (ℕ × ℕ)) (l r : ℕ) → IsPair fs l r → IsFence fs l r
pair_fence fs l r p = of_among fs l r (pair_among fs l r p)

-- the word has no fence symbol
abbrev pub IsBare : List (ℕ × ℕ) → List ℕ → Type 0
IsBare fs w = Every (λ s. is_fence fs s ≡ false) w

bare_push : (fs : List (ℕ × ℕ)) (w : List ℕ) (s : ℕ) → IsBare fs w → is_fence fs s ≡ false → IsBare fs (w ++ s ∷ [])
bare_push fs [] s bare plain = (plain, tt)
bare_push fs (c ∷ w) s bare plain = (bare.0, bare_push fs w s bare.1 plain)

bare_plain : (fs : List (ℕ × ℕ)) (w : List ℕ) → IsBare fs w → (s : ℕ) → Contains w s → is_fence fs s ≡ false
bare_plain fs [] bare s (k, lt, e) = absurd (omega arith)
bare_plain fs (c ∷ w) bare s (zero, lt, e) = subst (λ (d : ℕ). is_fence fs d ≡ false) e bare.0
bare_plain fs (c ∷ w) bare s (suc k, lt, e) = bare_plain fs w bare.1 s (k, omega arith, e)

-- the items close what is awaited: level items before each, and after the last
abbrev Ends : List (ℕ × ℕ) → List ℕ → List GItem → Type 0
Ends fs [] is = IsLevel fs is
Ends fs (r ∷ awaited) is = (u : List GItem) × (v : List GItem) × (is ≡ u ++ Fixed (r ∷ []) ∷ v) × IsLevel fs u × Ends fs awaited v

ends_plain : (fs : List (ℕ × ℕ)) (i : GItem) (awaited : List ℕ) (is : List GItem) → IsPlain fs i → Ends fs awaited is → Ends fs awaited (i ∷ is)
ends_plain fs i [] is plain e = level_then plain e
ends_plain fs i (q ∷ awaited) is plain e = (i ∷ e.0, e.1, ap (λ (z : List GItem). i ∷ z) e.2, level_then plain e.3, e.4)

ends_open : (fs : List (ℕ × ℕ)) (l r : ℕ) (awaited : List ℕ) (is : List GItem) → IsFence fs l r → Ends fs (r ∷ awaited) is → Ends fs awaited (Fixed (l ∷ []) ∷ is)
ends_open fs l r [] is f e = level_group f e.3 e.4 (ap (λ (z : List GItem). Fixed (l ∷ []) ∷ z) e.2)
ends_open fs l r (q ∷ awaited) is f e =
    let rest = e.4 in
    (Fixed (l ∷ []) ∷ (e.0 ++ Fixed (r ∷ []) ∷ rest.0), rest.1, ap (λ (z : List GItem). Fixed (l ∷ []) ∷ z) (e.2 ∙ ap (λ (z : List GItem). e.0 ++ Fixed (r ∷ []) ∷ z) rest.2 ∙ sym (append_assoc e.0 (Fixed (r ∷ []) ∷ rest.0) (Fixed (q ∷ []) ∷ rest.1))), level_group f e.3 rest.3 refl, rest.4)

ends_word : (fs : List (ℕ × ℕ)) (before awaited : List ℕ) (is : List GItem) → IsBare fs before → Ends fs awaited is → Ends fs awaited (after_word before is)
ends_word fs [] awaited is bare e = e
ends_word fs (s ∷ w) awaited is bare e = ends_plain fs (Fixed (s ∷ w)) awaited is (bare_plain fs (s ∷ w) bare) e

-- after a fence symbol
module _ (fs : List (ℕ × ℕ)) (c : ℕ) (w : List ℕ) (is : List GItem) (later : (more : List ℕ) → closes fs w more ≡ true → Ends fs more is) where
  shut : (r : ℕ) (rest : List ℕ) (t : Bool) → (r == c) ≡ t → goes_on (if t then Some rest else None) (λ more. closes fs w more) ≡ true → Ends fs (r ∷ rest) (Fixed (c ∷ []) ∷ is)
  shut r rest true same h = ([], is, ap (λ (z : ℕ). Fixed (z ∷ []) ∷ is) (sym (eqb-true r c same)), level_none, later rest h)
  shut r rest false other h = absurd (false_true h)

  not_either : is_left fs c ≡ false → is_right fs c ≡ false → is_fence fs c ≡ true → ⊥
  not_either left right fence = false_true (sym (ap (λ (t : Bool). t || is_right fs c) left ∙ right) ∙ fence)

  pub fence_ends : (awaited : List ℕ) (o : Option ℕ) (t : Bool) → right_of fs c ≡ o → is_right fs c ≡ t → is_fence fs c ≡ true → goes_on (stepped awaited c o t) (λ more. closes fs w more) ≡ true → Ends fs awaited (Fixed (c ∷ []) ∷ is)
  fence_ends awaited (Some r) t found right fence h = ends_open fs c r awaited is (pair_fence fs c r (pair_found fs c r found)) (later (r ∷ awaited) h)
  fence_ends [] None true found right fence h = absurd (false_true h)
  fence_ends (r ∷ rest) None true found right fence h = shut r rest (r == c) refl h
  fence_ends awaited None false found right fence h = absurd (not_either (no_left fs c found) right fence)

-- a word split at fence symbols, and then items
split_ends : (fs : List (ℕ × ℕ)) (w before rest : List ℕ) (is : List GItem) (awaited : List ℕ) → IsBare fs before → ((more : List ℕ) → closes fs rest more ≡ true → Ends fs more is) → closes fs (w ++ rest) awaited ≡ true → Ends fs awaited (split_word fs before w is)
split_ends fs [] before rest is awaited bare later e = ends_word fs before awaited is bare (later awaited e)
split_ends fs (c ∷ w) before rest is awaited bare later e =
    by (is_fence fs c) refl (λ more h. split_ends fs w [] rest is more tt later h) (λ plain. split_ends fs w (before ++ c ∷ []) rest is awaited (bare_push fs before c bare plain) later (sym (next_is fs (w ++ rest) awaited awaited c (plain_step fs awaited c plain)) ∙ e))
  where
    by : (t : Bool) → is_fence fs c ≡ t → ((more : List ℕ) → closes fs (w ++ rest) more ≡ true → Ends fs more (split_word fs [] w is)) → (is_fence fs c ≡ false → Ends fs awaited (split_word fs (before ++ c ∷ []) w is)) → Ends fs awaited (elim t [ true ↦ after_word before (Fixed (c ∷ []) ∷ split_word fs [] w is) | false ↦ split_word fs (before ++ c ∷ []) w is ])
    by true fence again on = ends_word fs before awaited (Fixed (c ∷ []) ∷ split_word fs [] w is) bare (fence_ends fs c (w ++ rest) (split_word fs [] w is) again awaited (right_of fs c) (is_right fs c) refl refl fence e)
    by false plain again on = on plain

items_end : (fs : List (ℕ × ℕ)) (is : List GItem) (awaited : List ℕ) → closes fs (items_word is) awaited ≡ true → Ends fs awaited (spread_items fs is)
items_end fs [] [] e = level_none
items_end fs [] (r ∷ awaited) e = absurd (false_true e)
items_end fs (Fixed w ∷ is) awaited e = split_ends fs w [] (items_word is) (spread_items fs is) awaited tt (λ more h. items_end fs is more h) e
items_end fs (Term t s ∷ is) awaited e = ends_plain fs (Term t s) awaited (spread_items fs is) tt (items_end fs is awaited e)
items_end fs (Non m s ∷ is) awaited e = ends_plain fs (Non m s) awaited (spread_items fs is) tt (items_end fs is awaited e)
items_end fs (Skip k ∷ is) awaited e = ends_plain fs (Skip k) awaited (spread_items fs is) tt (items_end fs is awaited e)

pub balanced_level : (fs : List (ℕ × ℕ)) (is : List GItem) → AreApart fs → IsBalanced fs (items_word is) → IsLevel fs (spread_items fs is)
balanced_level fs is apart b = items_end fs is [] (balanced_closes fs (items_word is) apart b)

-- the same where it is only not unbalanced
pub not_open_level : (fs : List (ℕ × ℕ)) (is : List GItem) → AreApart fs → ((IsBalanced fs (items_word is) → ⊥) → ⊥) → IsLevel fs (spread_items fs is)
not_open_level fs is apart never = by (closes fs (items_word is) []) refl
  where
    by : (t : Bool) → closes fs (items_word is) [] ≡ t → IsLevel fs (spread_items fs is)
    by true e = items_end fs is [] e
    by false e = absurd (never (λ b. false_true (sym e ∙ balanced_closes fs (items_word is) apart b)))
