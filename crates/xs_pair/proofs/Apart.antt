-- Where each fence has two new characters, no character is of two pairs, nor of both sides of one.
use Rattle.std.proofs.Common.{◌≡◌, ◌≢◌, ◌∙◌, ◌<◌, ◌+◌, inl, inr, ap, sym, refl, subst, ℕ, suc, List, [], ◌∷◌, ◌++◌, append_assoc, append-nil, length, get_or, take, Some, None, slice_get, Bool, true, false, not, ◌&&◌, ◌||◌, ◌==◌, if◌then◌else◌, eqb-true}
use Rattle.std.specs.Bool.{⊤}
use Rattle.std.specs.declared.option.Option.{Option}
use Rattle.xs_class.proofs.Lists.{take_next}
use Rattle.xs_class.proofs.Truth.{and_true, not_true, eq_self, or_false, false_true, neither}
use Rattle.xs_gram.specs.Fences.{fence_symbols, is_left, is_right, is_fence}
use Rattle.xs_gram.specs.Laws.{Every, IsDistinct}
use Rattle.xs_sheet.specs.declared.unit.Unit.{Unit}
use Rattle.xs_sheet.specs.declared.unit.Unit.TheVariants as V
use Rattle.xs_pair.specs.declared.ill.IllRule.TheVariants as L
use Rattle.xs_pair.specs.Fences.{letters_in, fence_letters, is_one_of, only, are_new, pair_of, fence_pairs, IsPair, IsUsed, FenceFails}
use Rattle.xs_pair.specs.Balance.{right_of, AreApart}
use Rattle.xs_pair.specs.Units.{unit_line}

-- each fence has two characters that are new after these
abbrev AllNew : List ℕ → List Unit → Type 0
AllNew earlier [] = ⊤
AllNew earlier (u ∷ us) = (IsUsed earlier u → ⊥) × AllNew (earlier ++ letters_in u) us

pub letters_push : (us : List Unit) (u : Unit) → fence_letters (us ++ u ∷ []) ≡ fence_letters us ++ letters_in u
letters_push [] u = append-nil (letters_in u)
letters_push (v ∷ us) u = ap (λ (z : List ℕ). letters_in v ++ z) (letters_push us u) ∙ sym (append_assoc (letters_in v) (fence_letters us) (letters_in u))

all_new : (before us : List Unit) → ((k : ℕ) (u : Unit) → slice_get us k ≡ Some u → IsUsed (fence_letters (before ++ take k us)) u → ⊥) → AllNew (fence_letters before) us
all_new before [] none = tt
all_new before (u ∷ us) none = (
  λ used. none 0 u refl (subst (λ (z : List Unit). IsUsed (fence_letters z) u) (sym (append-nil before)) used),
  subst (λ (z : List ℕ). AllNew z us) (letters_push before u) (all_new (before ++ u ∷ []) us (λ k v at used. none (suc k) v at (subst (λ (z : List Unit). IsUsed (fence_letters z) v) (append_assoc before (u ∷ []) (take k us)) used))),
)

-- tests of characters
other_way : (a b : ℕ) → (a == b) ≡ false → (b == a) ≡ false
other_way a b differ = by (b == a) refl
  where
    by : (t : Bool) → (b == a) ≡ t → t ≡ false
    by true is = sym (ap (λ (z : ℕ). a == z) (eqb-true b a is) ∙ eq_self a) ∙ differ
    by false is = refl

one_of_parts : (xs ys : List ℕ) (c : ℕ) → is_one_of (xs ++ ys) c ≡ false → (is_one_of xs c ≡ false) × (is_one_of ys c ≡ false)
one_of_parts [] ys c none = (refl, none)
one_of_parts (x ∷ xs) ys c none =
    let both = or_false (x == c) (is_one_of (xs ++ ys) c) none in
    let rest = one_of_parts xs ys c both.1 in
    (ap (λ (t : Bool). t || is_one_of xs c) both.0 ∙ rest.0, rest.1)

no_right : (fs : List (ℕ × ℕ)) (c : ℕ) → ((a b : ℕ) → IsPair fs a b → (a == c) ≡ false) → right_of fs c ≡ None
no_right [] c none = refl
no_right (f ∷ fs) c none = ap (λ (t : Bool). if t then Some f.1 else right_of fs c) (none f.0 f.1 (inl (refl, refl))) ∙ no_right fs c (λ a b p. none a b (inr p))

-- pairs that are apart, none of which has an earlier character
record AreFresh (earlier : List ℕ) (fs : List (ℕ × ℕ)) : Type 0 where
  apart : AreApart fs
  left : (l r : ℕ) → IsPair fs l r → is_one_of earlier l ≡ false
  right : (l r : ℕ) → IsPair fs l r → is_one_of earlier r ≡ false

fresh_more : (l r : ℕ) (fs : List (ℕ × ℕ)) (earlier : List ℕ) → (l == r) ≡ false → is_one_of earlier l ≡ false → is_one_of earlier r ≡ false → AreFresh (earlier ++ l ∷ r ∷ []) fs → AreFresh earlier ((l, r) ∷ fs)
fresh_more l r fs earlier differ new_l new_r rest = record {
  apart = record { right = found; apart = none };
  left = left_out;
  right = right_out;
}
  where
    left_parts : (a b : ℕ) → IsPair fs a b → (is_one_of earlier a ≡ false) × ((l == a) ≡ false) × ((r == a) ≡ false)
    left_parts a b p =
        let q = one_of_parts earlier (l ∷ r ∷ []) a (rest.left a b p) in
        let s = or_false (l == a) ((r == a) || false) q.1 in
        (q.0, s.0, (or_false (r == a) false s.1).0)

    right_parts : (a b : ℕ) → IsPair fs a b → (is_one_of earlier b ≡ false) × ((l == b) ≡ false)
    right_parts a b p =
        let q = one_of_parts earlier (l ∷ r ∷ []) b (rest.right a b p) in
        (q.0, (or_false (l == b) ((r == b) || false) q.1).0)

    found : (a b : ℕ) → IsPair ((l, r) ∷ fs) a b → right_of ((l, r) ∷ fs) a ≡ Some b
    found a b (inl is) = ap (λ (t : Bool). if t then Some r else right_of fs a) (ap (λ (z : ℕ). l == z) (sym is.0) ∙ eq_self l) ∙ ap Some is.1
    found a b (inr p) = ap (λ (t : Bool). if t then Some r else right_of fs a) (left_parts a b p).1 ∙ rest.apart.right a b p

    none : (a b : ℕ) → IsPair ((l, r) ∷ fs) a b → right_of ((l, r) ∷ fs) b ≡ None
    none a b (inl is) = subst (λ (z : ℕ). right_of ((l, r) ∷ fs) z ≡ None) is.1 (ap (λ (t : Bool). if t then Some r else right_of fs r) differ ∙ no_right fs r (λ c d p. other_way r c (left_parts c d p).2))
    none a b (inr p) = ap (λ (t : Bool). if t then Some r else right_of fs b) (right_parts a b p).1 ∙ rest.apart.apart a b p

    left_out : (a b : ℕ) → IsPair ((l, r) ∷ fs) a b → is_one_of earlier a ≡ false
    left_out a b (inl is) = subst (λ (z : ℕ). is_one_of earlier z ≡ false) is.0 new_l
    left_out a b (inr p) = (left_parts a b p).0

    right_out : (a b : ℕ) → IsPair ((l, r) ∷ fs) a b → is_one_of earlier b ≡ false
    right_out a b (inl is) = subst (λ (z : ℕ). is_one_of earlier z ≡ false) is.1 new_r
    right_out a b (inr p) = (right_parts a b p).0

only_is : (t : List ℕ) (c : ℕ) → only t ≡ Some c → t ≡ c ∷ []
only_is [] c is = cc
only_is (d ∷ []) c is = cc
only_is (d ∷ e ∷ ds) c is = cc

so_true : (t : Bool) → (t ≡ false → ⊥) → t ≡ true
so_true true never = refl
so_true false never = absurd (never refl)

fence_fresh : (earlier left right : List ℕ) (fs : List (ℕ × ℕ)) (o p : Option ℕ) → only left ≡ o → only right ≡ p → (are_new earlier o p ≡ false → ⊥) → AreFresh (earlier ++ (left ++ right)) fs → AreFresh earlier (pair_of o p ++ fs)
fence_fresh earlier left right fs None p l r new rest = absurd (new refl)
fence_fresh earlier left right fs (Some c) None l r new rest = absurd (new refl)
fence_fresh earlier left right fs (Some c) (Some d) l r new rest =
    let test = and_true (not (c == d)) (not (is_one_of earlier c) && not (is_one_of earlier d)) (so_true _ new) in
    let both = and_true (not (is_one_of earlier c)) (not (is_one_of earlier d)) test.1 in
    fresh_more c d fs earlier (not_true (c == d) test.0) (not_true (is_one_of earlier c) both.0) (not_true (is_one_of earlier d) both.1)
    (subst (λ (z : List ℕ). AreFresh (earlier ++ z) fs) (ap (λ (z : List ℕ). z ++ right) (only_is left c l) ∙ ap (λ (z : List ℕ). c ∷ z) (only_is right d r)) rest)

no_letters : (earlier : List ℕ) (us : List Unit) → AllNew (earlier ++ []) us → AllNew earlier us
no_letters earlier us all = subst (λ (z : List ℕ). AllNew z us) (append-nil earlier) all

fresh : (us : List Unit) (earlier : List ℕ) → AllNew earlier us → AreFresh earlier (fence_pairs us)
fresh [] earlier all = record { apart = record { right = λ l r p. absurd p; apart = λ l r p. absurd p }; left = λ l r p. absurd p; right = λ l r p. absurd p }
fresh (V.Terminal name pattern regex line ∷ us) earlier all = fresh us earlier (no_letters earlier us all.1)
fresh (V.Ignorable name pattern regex normal line ∷ us) earlier all = fresh us earlier (no_letters earlier us all.1)
fresh (V.Production name left right line ∷ us) earlier all = fresh us earlier (no_letters earlier us all.1)
fresh (V.Fence left right line ∷ us) earlier all = fence_fresh earlier left right (fence_pairs us) (only left) (only right) refl refl all.0 (fresh us (earlier ++ (left ++ right)) all.1)

-- where the rule on the texts of fences fails nowhere
pub pairs_apart : (us : List Unit) → ((line : ℕ) → FenceFails us L.FenceChar line → ⊥) → AreApart (fence_pairs us)
pairs_apart us passed = (fresh us [] (all_new [] us (λ k u at used. passed (unit_line u) (k, u, at, used, refl)))).apart

-- the characters of the fences up to the next unit
pub letters_next : (us : List Unit) (i : ℕ) (u : Unit) (old new : List ℕ) → i < length us → u ≡ get_or us i u → old ≡ fence_letters (take i us) → new ≡ old ++ letters_in u → new ≡ fence_letters (take (i + 1) us)
letters_next us i u old new lt at before is = is ∙ ap (λ (z : List ℕ). z ++ letters_in u) before ∙ sym (ap fence_letters (take_next us i u lt at) ∙ letters_push (take i us) u)

-- symbols of which none stands twice, and none is an earlier one
record AreOnce (earlier ss : List ℕ) : Type 0 where
  once : IsDistinct ss
  new : Every (λ c. is_one_of earlier c ≡ false) ss

pub every_weaker : (P Q : ℕ → Type 0) (ns : List ℕ) → ((n : ℕ) → P n → Q n) → Every P ns → Every Q ns
every_weaker P Q [] f each = tt
every_weaker P Q (n ∷ ns) f each = (f n each.0, every_weaker P Q ns f each.1)

differs : (a b : ℕ) → (a == b) ≡ false → b ≡ a → ⊥
differs a b other e = false_true (sym other ∙ ap (λ (z : ℕ). a == z) e ∙ eq_self a)

once_more : (l r : ℕ) (ss earlier : List ℕ) → (l == r) ≡ false → is_one_of earlier l ≡ false → is_one_of earlier r ≡ false → AreOnce (earlier ++ l ∷ r ∷ []) ss → AreOnce earlier (l ∷ r ∷ ss)
once_more l r ss earlier differ new_l new_r rest = record {
  once = ((differs l r differ, every_weaker New (λ m. m ≢ l) ss (λ m new. differs l m (both m new).1.0) rest.new), (every_weaker New (λ m. m ≢ r) ss (λ m new. differs r m (both m new).1.1) rest.new, rest.once));
  new = (new_l, (new_r, every_weaker New (λ m. is_one_of earlier m ≡ false) ss (λ m new. (both m new).0) rest.new));
}
  where
    New : ℕ → Type 0
    New c = is_one_of (earlier ++ l ∷ r ∷ []) c ≡ false

    both : (m : ℕ) → is_one_of (earlier ++ l ∷ r ∷ []) m ≡ false → (is_one_of earlier m ≡ false) × (((l == m) ≡ false) × ((r == m) ≡ false))
    both m new =
        let q = one_of_parts earlier (l ∷ r ∷ []) m new in
        let s = or_false (l == m) ((r == m) || false) q.1 in
        (q.0, (s.0, (or_false (r == m) false s.1).0))

fence_once : (earlier left right : List ℕ) (fs : List (ℕ × ℕ)) (o p : Option ℕ) → only left ≡ o → only right ≡ p → (are_new earlier o p ≡ false → ⊥) → AreOnce (earlier ++ (left ++ right)) (fence_symbols fs) → AreOnce earlier (fence_symbols (pair_of o p ++ fs))
fence_once earlier left right fs None p l r new rest = absurd (new refl)
fence_once earlier left right fs (Some c) None l r new rest = absurd (new refl)
fence_once earlier left right fs (Some c) (Some d) l r new rest =
    let test = and_true (not (c == d)) (not (is_one_of earlier c) && not (is_one_of earlier d)) (so_true _ new) in
    let both = and_true (not (is_one_of earlier c)) (not (is_one_of earlier d)) test.1 in
    once_more c d (fence_symbols fs) earlier (not_true (c == d) test.0) (not_true (is_one_of earlier c) both.0) (not_true (is_one_of earlier d) both.1)
    (subst (λ (z : List ℕ). AreOnce (earlier ++ z) (fence_symbols fs)) (ap (λ (z : List ℕ). z ++ right) (only_is left c l) ∙ ap (λ (z : List ℕ). c ∷ z) (only_is right d r)) rest)

symbols_once : (us : List Unit) (earlier : List ℕ) → AllNew earlier us → AreOnce earlier (fence_symbols (fence_pairs us))
symbols_once [] earlier all = record { once = tt; new = tt }
symbols_once (V.Terminal name pattern regex line ∷ us) earlier all = symbols_once us earlier (no_letters earlier us all.1)
symbols_once (V.Ignorable name pattern regex normal line ∷ us) earlier all = symbols_once us earlier (no_letters earlier us all.1)
symbols_once (V.Production name left right line ∷ us) earlier all = symbols_once us earlier (no_letters earlier us all.1)
symbols_once (V.Fence left right line ∷ us) earlier all = fence_once earlier left right (fence_pairs us) (only left) (only right) refl refl all.0 (symbols_once us (earlier ++ (left ++ right)) all.1)

pub pairs_once : (us : List Unit) → ((line : ℕ) → FenceFails us L.FenceChar line → ⊥) → IsDistinct (fence_symbols (fence_pairs us))
pairs_once us passed = (symbols_once us [] (all_new [] us (λ k u at used. passed (unit_line u) (k, u, at, used, refl)))).once

-- what is no character of the fences is a symbol of no pair
pair_clear : (left right : List ℕ) (s : ℕ) (o p : Option ℕ) → only left ≡ o → only right ≡ p → is_one_of (left ++ right) s ≡ false → (fs : List (ℕ × ℕ)) → is_left fs s ≡ false → is_right fs s ≡ false → (is_left (pair_of o p ++ fs) s ≡ false) × (is_right (pair_of o p ++ fs) s ≡ false)
pair_clear left right s None p l r none fs in_left in_right = (in_left, in_right)
pair_clear left right s (Some c) None l r none fs in_left in_right = (in_left, in_right)
pair_clear left right s (Some c) (Some d) l r none fs in_left in_right =
    let parts = one_of_parts left right s none in
    let first = or_false (c == s) false (ap (λ (z : List ℕ). is_one_of z s) (sym (only_is left c l)) ∙ parts.0) in
    let second = or_false (d == s) false (ap (λ (z : List ℕ). is_one_of z s) (sym (only_is right d r)) ∙ parts.1) in
    (ap (λ (t : Bool). t || is_left fs s) first.0 ∙ in_left, ap (λ (t : Bool). t || is_right fs s) second.0 ∙ in_right)

pairs_clear : (us : List Unit) (s : ℕ) → is_one_of (fence_letters us) s ≡ false → (is_left (fence_pairs us) s ≡ false) × (is_right (fence_pairs us) s ≡ false)
pairs_clear [] s none = (refl, refl)
pairs_clear (V.Terminal name pattern regex line ∷ us) s none = pairs_clear us s none
pairs_clear (V.Ignorable name pattern regex normal line ∷ us) s none = pairs_clear us s none
pairs_clear (V.Production name left right line ∷ us) s none = pairs_clear us s none
pairs_clear (V.Fence left right line ∷ us) s none =
    let parts = one_of_parts (left ++ right) (fence_letters us) s none in
    let rest = pairs_clear us s parts.1 in
    pair_clear left right s (only left) (only right) refl refl parts.0 (fence_pairs us) rest.0 rest.1

pub no_fence : (us : List Unit) (s : ℕ) → is_one_of (fence_letters us) s ≡ false → is_fence (fence_pairs us) s ≡ false
no_fence us s none = let both = pairs_clear us s none in neither (is_left (fence_pairs us) s) (is_right (fence_pairs us) s) both.0 both.1
