-- A stretch that is level where there are more fences is level where there are fewer: read symbol
-- by symbol, it closes each fence that it opens.
use Rattle.std.proofs.Common.{◌≡◌, ℕ, zero, suc, ◌<◌, List, [], ◌∷◌, ◌++◌, length, refl, sym, ap, subst, ◌∙◌, append_assoc, append-nil, arith, Bool, true, false, slice_index_or}
use Rattle.std.specs.List.{Contains}
use Rattle.xs_class.proofs.Truth.{neither, or_left, or_right}
use Rattle.xs_gram.specs.declared.parts.GItem.{GItem}
use Rattle.xs_gram.specs.declared.parts.GItem.TheVariants.{Fixed, Term, Non, Skip}
use Rattle.xs_gram.specs.Laws.{IsDistinct}
use Rattle.xs_gram.specs.Fences.{fence_symbols, is_left, is_right, is_fence, IsFence, IsPlain, IsLevel, level_none, level_then, level_group, grouped, after_word, split_word, spread_items}
use Rattle.xs_gram.proofs.Fences.{is_left_of, is_right_of, some_left, some_right, sides_apart, one_left, one_right}
use Rattle.xs_gram.proofs.Levels.{group_more}

-- the symbols of the fixed words
abbrev symbols : List GItem → List ℕ
symbols [] = []
symbols (Fixed w ∷ is) = w ++ symbols is
symbols (Term t s ∷ is) = symbols is
symbols (Non n s ∷ is) = symbols is
symbols (Skip k ∷ is) = symbols is

-- reading the symbols closes the right fences that are due, in order, and each fence that it opens
data Closes (fs : List (ℕ × ℕ)) : List ℕ → List ℕ → Type 0 where
  closed : Closes fs [] []
  opens : {l r : ℕ} {due w : List ℕ} → IsFence fs l r → Closes fs (r ∷ due) w → Closes fs due (l ∷ w)
  shuts : {l r : ℕ} {due w : List ℕ} → IsFence fs l r → Closes fs due w → Closes fs (r ∷ due) (r ∷ w)
  passes : {s : ℕ} {due w : List ℕ} → is_fence fs s ≡ false → Closes fs due w → Closes fs due (s ∷ w)

symbols_append : (is js : List GItem) → symbols (is ++ js) ≡ symbols is ++ symbols js
symbols_append [] js = refl
symbols_append (Fixed w ∷ is) js = ap (λ (x : List ℕ). w ++ x) (symbols_append is js) ∙ sym (append_assoc w (symbols is) (symbols js))
symbols_append (Term t s ∷ is) js = symbols_append is js
symbols_append (Non n s ∷ is) js = symbols_append is js
symbols_append (Skip k ∷ is) js = symbols_append is js

symbols_word : (before : List ℕ) (is : List GItem) → symbols (after_word before is) ≡ before ++ symbols is
symbols_word [] is = refl
symbols_word (s ∷ before) is = refl

symbols_split : (fs : List (ℕ × ℕ)) (before w : List ℕ) (is : List GItem) → symbols (split_word fs before w is) ≡ before ++ (w ++ symbols is)
symbols_split fs before [] is = symbols_word before is
symbols_split fs before (s ∷ w) is =
    let t : symbols (after_word before (Fixed (s ∷ []) ∷ split_word fs [] w is)) ≡ before ++ (s ∷ (w ++ symbols is)) = symbols_word before (Fixed (s ∷ []) ∷ split_word fs [] w is) ∙ ap (λ (x : List ℕ). before ++ (s ∷ x)) (symbols_split fs [] w is) in
    let f : symbols (split_word fs (before ++ s ∷ []) w is) ≡ before ++ (s ∷ (w ++ symbols is)) = symbols_split fs (before ++ s ∷ []) w is ∙ append_assoc before (s ∷ []) (w ++ symbols is) in
    elim (is_fence fs s) as (λ b. symbols (elim b [ true ↦ after_word before (Fixed (s ∷ []) ∷ split_word fs [] w is) | false ↦ split_word fs (before ++ s ∷ []) w is ]) ≡ before ++ (s ∷ (w ++ symbols is))) [ true ↦ t | false ↦ f ]

symbols_spread : (fs : List (ℕ × ℕ)) (is : List GItem) → symbols (spread_items fs is) ≡ symbols is
symbols_spread fs [] = refl
symbols_spread fs (Fixed w ∷ is) = symbols_split fs [] w (spread_items fs is) ∙ ap (λ (x : List ℕ). w ++ x) (symbols_spread fs is)
symbols_spread fs (Term t s ∷ is) = symbols_spread fs is
symbols_spread fs (Non n s ∷ is) = symbols_spread fs is
symbols_spread fs (Skip k ∷ is) = symbols_spread fs is

-- a level stretch is read on from where it begins
pass_word : {fs : List (ℕ × ℕ)} {due v : List ℕ} (w : List ℕ) → ((s : ℕ) → Contains w s → is_fence fs s ≡ false) → Closes fs due v → Closes fs due (w ++ v)
pass_word [] plain c = c
pass_word (s ∷ w) plain c = passes (plain s (0, omega arith, refl)) (pass_word w (λ t h. plain t (suc h.0, omega (arith, h.1), h.2)) c)

level_closes : {fs : List (ℕ × ℕ)} {is : List GItem} {due w : List ℕ} → IsLevel fs is → Closes fs due w → Closes fs due (symbols is ++ w)
level_closes level_none c = c
level_closes {fs} {due = due} {w = w} (level_then {i = Fixed f} {is = is} plain l) c =
    subst (λ (x : List ℕ). Closes fs due x) (sym (append_assoc f (symbols is) w)) (pass_word f plain (level_closes l c))
level_closes (level_then {i = Term t s} plain l) c = level_closes l c
level_closes (level_then {i = Non n s} plain l) c = level_closes l c
level_closes (level_then {i = Skip k} plain l) c = level_closes l c
level_closes {fs} {due = due} {w = w} (level_group {l = l} {r = r} {inside = inside} {after = after} f i t e) c =
    let spelt : symbols inside ++ (r ∷ (symbols after ++ w)) ≡ symbols (inside ++ Fixed (r ∷ []) ∷ after) ++ w = sym (append_assoc (symbols inside) (r ∷ symbols after) w) ∙ ap (λ (x : List ℕ). x ++ w) (sym (symbols_append inside (Fixed (r ∷ []) ∷ after))) in
    let group : Closes fs due (l ∷ (symbols inside ++ (r ∷ (symbols after ++ w)))) = opens f (level_closes i (shuts f (level_closes t c))) in
    subst (λ (is : List GItem). Closes fs due (symbols is ++ w)) (sym e) (subst (λ (x : List ℕ). Closes fs due (l ∷ x)) spelt group)

-- those of the right fences due that are of these fences
abbrev kept : List (ℕ × ℕ) → List ℕ → List ℕ
kept fs [] = []
kept fs (r ∷ due) = elim (is_right fs r) [
  | true ↦ r ∷ kept fs due
  | false ↦ kept fs due
]

kept_right : (fs : List (ℕ × ℕ)) (r : ℕ) (due : List ℕ) → is_right fs r ≡ true → kept fs (r ∷ due) ≡ r ∷ kept fs due
kept_right fs r due e = rw (e, kept) refl

kept_other : (fs : List (ℕ × ℕ)) (r : ℕ) (due : List ℕ) → is_right fs r ≡ false → kept fs (r ∷ due) ≡ kept fs due
kept_other fs r due e = rw (e, kept) refl

false_true : {b : Bool} → b ≡ true → b ≡ false → ⊥
false_true e h = cc

not_so : (b : Bool) → (b ≡ true → ⊥) → b ≡ false
not_so true h = absurd (h refl)
not_so false h = refl

module _ (fs gs : List (ℕ × ℕ)) (once : IsDistinct (fence_symbols gs)) (more : (l r : ℕ) → IsFence fs l r → IsFence gs l r) where
  -- a fence of the more is one of the fewer, or neither of its symbols is of those
  left_kept : {l r : ℕ} → IsFence gs l r → is_left fs l ≡ true → IsFence fs l r
  left_kept {l} {r} f e =
      let h = some_right fs l e in
      let same : r ≡ h.0 = one_right once f (more l h.0 h.1) refl in
      subst (λ (x : ℕ). IsFence fs l x) (sym same) h.1

  right_kept : {l r : ℕ} → IsFence gs l r → is_right fs r ≡ true → IsFence fs l r
  right_kept {l} {r} f e =
      let h = some_left fs r e in
      let same : l ≡ h.0 = one_left once f (more h.0 r h.1) refl in
      subst (λ (x : ℕ). IsFence fs x r) (sym same) h.1

  left_other : {l r : ℕ} → IsFence gs l r → is_left fs l ≡ false → is_fence fs l ≡ false
  left_other {l} f e = neither (is_left fs l) (is_right fs l) e (not_so (is_right fs l) (λ h. let k = some_left fs l h in sides_apart once f (more k.0 l k.1) refl))

  right_other : {l r : ℕ} → IsFence gs l r → is_right fs r ≡ false → is_fence fs r ≡ false
  right_other {r = r} f e = neither (is_left fs r) (is_right fs r) (not_so (is_left fs r) (λ h. let k = some_right fs r h in sides_apart once (more r k.0 k.1) f refl)) e

  other_kept : (s : ℕ) → is_fence gs s ≡ false → is_fence fs s ≡ false
  other_kept s e = neither (is_left fs s) (is_right fs s) (not_so (is_left fs s) (λ h. let k = some_right fs s h in false_true (or_left (is_left gs s) (is_right gs s) (is_left_of (more s k.0 k.1))) e)) (not_so (is_right fs s) (λ h. let k = some_left fs s h in false_true (or_right (is_left gs s) (is_right gs s) (is_right_of (more k.0 s k.1))) e))

  open_fewer : {l r : ℕ} {w : List ℕ} (due : List ℕ) (b : Bool) → is_left fs l ≡ b → IsFence gs l r → Closes fs (kept fs (r ∷ due)) w → Closes fs (kept fs due) (l ∷ w)
  open_fewer {l} {r} {w} due true e f c =
      let own = left_kept f e in
      opens own (subst (λ (x : List ℕ). Closes fs x w) (kept_right fs r due (is_right_of own)) c)
  open_fewer {l} {r} {w} due false e f c =
      let other : is_right fs r ≡ false = not_so (is_right fs r) (λ h. false_true (is_left_of (right_kept f h)) e) in
      passes (left_other f e) (subst (λ (x : List ℕ). Closes fs x w) (kept_other fs r due other) c)

  shut_fewer : {l r : ℕ} {w : List ℕ} (due : List ℕ) (b : Bool) → is_right fs r ≡ b → IsFence gs l r → Closes fs (kept fs due) w → Closes fs (kept fs (r ∷ due)) (r ∷ w)
  shut_fewer {l} {r} {w} due true e f c = subst (λ (x : List ℕ). Closes fs x (r ∷ w)) (sym (kept_right fs r due e)) (shuts (right_kept f e) c)
  shut_fewer {l} {r} {w} due false e f c = subst (λ (x : List ℕ). Closes fs x (r ∷ w)) (sym (kept_other fs r due e)) (passes (right_other f e) c)

  closes_fewer : {due w : List ℕ} → Closes gs due w → Closes fs (kept fs due) w
  closes_fewer closed = closed
  closes_fewer {due} (opens {l = l} f c) = open_fewer due (is_left fs l) refl f (closes_fewer c)
  closes_fewer (shuts {r = r} {due = due} f c) = shut_fewer due (is_right fs r) refl f (closes_fewer c)
  closes_fewer (passes {s = s} e c) = passes (other_kept s e) (closes_fewer c)

-- a level stretch before each right fence that is due, and one after the last
data Waits (fs : List (ℕ × ℕ)) : List ℕ → List GItem → Type 0 where
  waits_none : {is : List GItem} → IsLevel fs is → Waits fs [] is
  waits_for : {r : ℕ} {due : List ℕ} {is : List GItem} (inside after : List GItem) → is ≡ inside ++ Fixed (r ∷ []) ∷ after → IsLevel fs inside → Waits fs due after → Waits fs (r ∷ due) is

waits_level : {fs : List (ℕ × ℕ)} {is : List GItem} → Waits fs [] is → IsLevel fs is
waits_level (waits_none l) = l

waits_then : {fs : List (ℕ × ℕ)} {due : List ℕ} {is : List GItem} (i : GItem) → IsPlain fs i → Waits fs due is → Waits fs due (i ∷ is)
waits_then i plain (waits_none l) = waits_none (level_then plain l)
waits_then i plain (waits_for inside after e l h) = waits_for (i ∷ inside) after (ap (λ (x : List GItem). i ∷ x) e) (level_then plain l) h

-- a group before the stretch that waits
group_then : {fs : List (ℕ × ℕ)} {l r : ℕ} {due : List ℕ} {is inside after : List GItem} → IsFence fs l r → IsLevel fs inside → is ≡ inside ++ Fixed (r ∷ []) ∷ after → Waits fs due after → Waits fs due (Fixed (l ∷ []) ∷ is)
group_then {l = l} f i e (waits_none h) = waits_none (level_group f i h (ap (λ (x : List GItem). Fixed (l ∷ []) ∷ x) e))
group_then {l = l} {r = r} {inside = inside} f i e (waits_for {r = s} here later k h w) =
    let split = ap (λ (x : List GItem). Fixed (l ∷ []) ∷ x) e ∙ ap (λ (x : List GItem). grouped l inside r x) k ∙ sym (group_more l inside r here (Fixed (s ∷ []) ∷ later)) in
    waits_for (grouped l inside r here) later split (level_group f i h refl) w

waits_group : {fs : List (ℕ × ℕ)} {l r : ℕ} {due : List ℕ} {is : List GItem} → IsFence fs l r → Waits fs (r ∷ due) is → Waits fs due (Fixed (l ∷ []) ∷ is)
waits_group f (waits_for inside after e i h) = group_then f i e h

-- no symbol of the word is of a fence
abbrev HasNone : List (ℕ × ℕ) → List ℕ → Type 0
HasNone fs [] = Unit {0}
HasNone fs (s ∷ w) = (is_fence fs s ≡ false) × HasNone fs w

none_more : (fs : List (ℕ × ℕ)) (s : ℕ) (w : List ℕ) → HasNone fs w → is_fence fs s ≡ false → HasNone fs (w ++ s ∷ [])
none_more fs s [] h e = (e, tt)
none_more fs s (t ∷ w) h e = (h.0, none_more fs s w h.1 e)

none_plain : (fs : List (ℕ × ℕ)) (w : List ℕ) → HasNone fs w → IsPlain fs (Fixed w)
none_plain fs w h = λ s c. held w h s c.0 c.1 c.2
  where
    held : (w : List ℕ) → HasNone fs w → (s k : ℕ) → k < length w → slice_index_or w k s ≡ s → is_fence fs s ≡ false
    held [] h s k lt e = absurd (omega arith)
    held (t ∷ w) h s zero lt e = subst (λ (x : ℕ). is_fence fs x ≡ false) e h.0
    held (t ∷ w) h s (suc k) lt e = held w h.1 s k (omega arith) e

waits_word : {fs : List (ℕ × ℕ)} {due : List ℕ} {is : List GItem} (before : List ℕ) → HasNone fs before → Waits fs due is → Waits fs due (after_word before is)
waits_word [] none h = h
waits_word {fs} (s ∷ before) none h = waits_then (Fixed (s ∷ before)) (none_plain fs (s ∷ before) none) h

split_fence : (fs : List (ℕ × ℕ)) (before : List ℕ) (s : ℕ) (w : List ℕ) (is : List GItem) → is_fence fs s ≡ true → split_word fs before (s ∷ w) is ≡ after_word before (Fixed (s ∷ []) ∷ split_word fs [] w is)
split_fence fs before s w is e = rw (e, split_word) refl

split_other : (fs : List (ℕ × ℕ)) (before : List ℕ) (s : ℕ) (w : List ℕ) (is : List GItem) → is_fence fs s ≡ false → split_word fs before (s ∷ w) is ≡ split_word fs (before ++ s ∷ []) w is
split_other fs before s w is e = rw (e, split_word) refl

closes_split : {fs : List (ℕ × ℕ)} {rest : List ℕ} {is : List GItem} (before w : List ℕ) → HasNone fs before → ((due : List ℕ) → Closes fs due rest → Waits fs due is) → (due : List ℕ) → Closes fs due (w ++ rest) → Waits fs due (split_word fs before w is)
closes_split before [] none on due c = waits_word before none (on due c)
closes_split {fs} {is = is} before (s ∷ w) none on due (opens {r = r} f c) =
    let e = or_left (is_left fs s) (is_right fs s) (is_left_of f) in
    subst (λ (x : List GItem). Waits fs due x) (sym (split_fence fs before s w is e)) (waits_word before none (waits_group f (closes_split [] w tt on (r ∷ due) c)))
closes_split {fs} {is = is} before (s ∷ w) none on (r ∷ due) (shuts f c) =
    let e = or_right (is_left fs s) (is_right fs s) (is_right_of f) in
    let here : Waits fs (s ∷ due) (Fixed (s ∷ []) ∷ split_word fs [] w is) = waits_for [] (split_word fs [] w is) refl level_none (closes_split [] w tt on due c) in
    subst (λ (x : List GItem). Waits fs (s ∷ due) x) (sym (split_fence fs before s w is e)) (waits_word before none here)
closes_split {fs} {is = is} before (s ∷ w) none on due (passes e c) =
    subst (λ (x : List GItem). Waits fs due x) (sym (split_other fs before s w is e)) (closes_split (before ++ s ∷ []) w (none_more fs s before none e) on due c)

closes_waits : {fs : List (ℕ × ℕ)} (is : List GItem) (due : List ℕ) → Closes fs due (symbols is) → Waits fs due (spread_items fs is)
closes_waits [] due closed = waits_none level_none
closes_waits (Fixed w ∷ is) due c = closes_split [] w tt (λ o h. closes_waits is o h) due c
closes_waits (Term t s ∷ is) due c = waits_then (Term t s) tt (closes_waits is due c)
closes_waits (Non n s ∷ is) due c = waits_then (Non n s) tt (closes_waits is due c)
closes_waits (Skip k ∷ is) due c = waits_then (Skip k) tt (closes_waits is due c)

pub level_fewer : (fs gs : List (ℕ × ℕ)) → IsDistinct (fence_symbols gs) → ((l r : ℕ) → IsFence fs l r → IsFence gs l r) → (is : List GItem) → IsLevel gs (spread_items gs is) → IsLevel fs (spread_items fs is)
level_fewer fs gs once more is level =
    let read : Closes gs [] (symbols is) = subst (λ (w : List ℕ). Closes gs [] w) (append-nil (symbols (spread_items gs is)) ∙ symbols_spread gs is) (level_closes level closed) in
    waits_level (closes_waits is [] (closes_fewer fs gs once more read))
