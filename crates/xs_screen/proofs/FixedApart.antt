-- Rules that begin or end with fixed words that are apart share no word.
use Rattle.std.proofs.Common.{◌≡◌, ◌≢◌, ℕ, suc, ◌+◌, ◌-◌, List, [], ◌∷◌, ◌++◌, length, length-append, refl, sym, ap, ◌∙◌, arith, append_assoc, append-nil}
use Rattle.std.proofs.lemmas.Option.{same_Some}
use Rattle.std.specs.declared.option.Option.{Option}
use Rattle.std.specs.declared.option.Option.TheVariants.{Some, None}
use Rattle.std.specs.List.{slice_get}
use Rattle.xs_class.proofs.Lists.{get_left}
use Rattle.xs_gram.specs.declared.parts.GItem.{GItem}
use Rattle.xs_gram.specs.declared.parts.GItem.TheVariants.{Fixed}
use Rattle.xs_gram.specs.Grammar.{Grammar}
use Rattle.xs_gram.specs.Fences.{spread, grouped}
use Rattle.xs_gram.proofs.Levels.{no_group}
use Rattle.xs_gram.specs.Loose.{LooseItem, loose_fixed, loose_term, loose_skip, loose_non, IsLoose, loose_none, loose_then, loose_group}
use Rattle.xs_screen.specs.Fixed.{BeginApart, EndApart, AreWordsAt}
use Rattle.xs_screen.specs.Screens.{ShareNone}
use Rattle.xs_screen.proofs.FixedWords.{get_right}

-- words that differ at places as far from their beginnings, or from their ends
pub begin_differ : (u v : List ℕ) (k a b : ℕ) → slice_get u k ≡ Some a → slice_get v k ≡ Some b → a ≢ b → BeginApart u v
begin_differ u v k a b p q other x y e = other (same_Some _ _ (sym (get_left u x k a p) ∙ ap (λ (w : List ℕ). slice_get w k) e ∙ get_left v y k b q))

pub end_differ : (u v : List ℕ) (i j a b : ℕ) → slice_get u i ≡ Some a → slice_get v j ≡ Some b → i + length v ≡ j + length u → a ≢ b → EndApart u v
end_differ u v i j a b p q far other x y e =
    let long = ap length e in
    let same : length x + i ≡ length y + j = omega (arith, long, length-append x u, length-append y v, far) in
    other (same_Some _ _ (sym p ∙ sym (get_right x u i (length x + i) refl) ∙ ap (λ (w : List ℕ). slice_get w (length x + i)) e ∙ ap (λ (n : ℕ). slice_get (y ++ v) n) same ∙ get_right y v j (length y + j) refl ∙ q))

-- a list ends with an element
abbrev last_is : List GItem → Option GItem
last_is [] = None
last_is (x ∷ []) = Some x
last_is (x ∷ y ∷ xs) = last_is (y ∷ xs)

last_at : (is : List GItem) (i : GItem) → slice_get is (length is - 1) ≡ Some i → last_is is ≡ Some i
last_at [] i e = absurd cc
last_at (x ∷ []) i e = e
last_at (x ∷ y ∷ xs) i e =
    let one : suc (length (y ∷ xs) - 1) ≡ length (x ∷ y ∷ xs) - 1 = omega arith in
    last_at (y ∷ xs) i (ap (λ (n : ℕ). slice_get (x ∷ y ∷ xs) n) one ∙ e)

last_append : (xs : List GItem) (y : GItem) (ys : List GItem) → last_is (xs ++ y ∷ ys) ≡ last_is (y ∷ ys)
last_append [] y ys = refl
last_append (x ∷ []) y ys = refl
last_append (x ∷ z ∷ xs) y ys = last_append (z ∷ xs) y ys

-- a word of no items is empty
nothing_loose : {g : Grammar} {is : List GItem} {w : List ℕ} → IsLoose g is w → is ≡ [] → w ≡ []
nothing_loose loose_none e = refl
nothing_loose (loose_then plain i rest split) e = absurd cc
nothing_loose (loose_group fence inside rest split word) e = absurd (no_group (sym e ∙ split))

none_loose : {g : Grammar} {w : List ℕ} → IsLoose g [] w → w ≡ []
none_loose loose = nothing_loose loose refl

fixed_same : {u v : List ℕ} → Fixed u ≡ Fixed v → u ≡ v
fixed_same e = cc

item_fixed : {g : Grammar} {i : GItem} {u : List ℕ} (f : List ℕ) → LooseItem g i u → i ≡ Fixed f → u ≡ f
item_fixed f loose_fixed e = fixed_same e
item_fixed f (loose_term word) e = absurd cc
item_fixed f (loose_skip word) e = absurd cc
item_fixed f (loose_non walk) e = absurd cc

-- a loose word begins with the fixed word with which its items begin
begins : {g : Grammar} {is : List GItem} {w : List ℕ} (f : List ℕ) → IsLoose g is w → slice_get is 0 ≡ Some (Fixed f) → (v : List ℕ) × (w ≡ f ++ v)
begins f loose_none e = absurd cc
begins f (loose_then {v = v} plain item rest split) e = (v, split ∙ ap (λ (x : List ℕ). x ++ v) (item_fixed f item (same_Some _ _ e)))
begins f (loose_group {l = l} {r = r} {inside = inside} {after = after} {u = u} {v = v} fence within rest split word) e =
    let one : l ∷ [] ≡ f = fixed_same (same_Some _ _ (sym (ap (λ (x : List GItem). slice_get x 0) split) ∙ e)) in
    (u ++ r ∷ v, word ∙ ap (λ (x : List ℕ). x ++ (u ++ r ∷ v)) one)

-- and it ends with the fixed word with which its items end
ends : {g : Grammar} {is : List GItem} {w : List ℕ} (f : List ℕ) → IsLoose g is w → last_is is ≡ Some (Fixed f) → (v : List ℕ) × (w ≡ v ++ f)
ends f loose_none e = absurd cc
ends f (loose_then {i = i} {is = []} {u = u} {v = v} plain item rest split) e =
    ([], split ∙ ap (λ (x : List ℕ). u ++ x) (none_loose rest) ∙ append-nil u ∙ item_fixed f item (same_Some _ _ e))
ends f (loose_then {i = i} {is = j ∷ is} {u = u} {v = v} plain item rest split) e =
    let later = ends f rest e in
    (u ++ later.0, split ∙ ap (λ (x : List ℕ). u ++ x) later.1 ∙ sym (append_assoc u later.0 f))
ends f (loose_group {l = l} {r = r} {inside = inside} {after = []} {u = u} {v = v} fence within rest split word) e =
    let last : last_is (grouped l inside r []) ≡ Some (Fixed (r ∷ [])) = last_append (Fixed (l ∷ []) ∷ inside) (Fixed (r ∷ [])) [] in
    let one : r ∷ [] ≡ f = fixed_same (same_Some _ _ (sym last ∙ sym (ap last_is split) ∙ e)) in
    (l ∷ u, word ∙ ap (λ (x : List ℕ). l ∷ (u ++ r ∷ x)) (none_loose rest) ∙ ap (λ (x : List ℕ). l ∷ (u ++ x)) one)
ends f (loose_group {l = l} {r = r} {inside = inside} {after = j ∷ after} {u = u} {v = v} fence within rest split word) e =
    let last : last_is (grouped l inside r (j ∷ after)) ≡ last_is (j ∷ after) = last_append (Fixed (l ∷ []) ∷ inside) (Fixed (r ∷ [])) (j ∷ after) in
    let later = ends f rest (sym last ∙ sym (ap last_is split) ∙ e) in
    (l ∷ (u ++ r ∷ later.0), word ∙ ap (λ (x : List ℕ). l ∷ (u ++ r ∷ x)) later.1 ∙ ap (λ (x : List ℕ). l ∷ x) (sym (append_assoc u (r ∷ later.0) f)))

pub begun_share : (g : Grammar) (p q : ℕ) → AreWordsAt BeginApart (spread g p) 0 (spread g q) 0 → ShareNone g p q
begun_share g p q h w loose loose2 =
    let one = begins h.first loose h.at_first in
    let two = begins h.second loose2 h.at_second in
    h.apart one.0 two.0 (sym one.1 ∙ two.1)

pub ended_share : (g : Grammar) (p q : ℕ) → AreWordsAt EndApart (spread g p) (length (spread g p) - 1) (spread g q) (length (spread g q) - 1) → ShareNone g p q
ended_share g p q h w loose loose2 =
    let one = ends h.first loose (last_at (spread g p) (Fixed h.first) h.at_first) in
    let two = ends h.second loose2 (last_at (spread g q) (Fixed h.second) h.at_second) in
    h.apart one.0 two.0 (sym one.1 ∙ two.1)
