-- The shape of a tree that fits is one that fits, and it means the tree.
use Rattle.std.proofs.Common.{◌≡◌, ◌≢◌, ℕ, zero, suc, ◌+◌, ◌<◌, Bool, true, false, List, [], ◌∷◌, length, get_or, set, replicate, refl, sym, ◌∙◌, ap, subst, arith, Some, None, if◌then◌else◌}
use Rattle.std.specs.Prelude.{slice_get}
use Rattle.std.specs.declared.option.Option.{Option}
use Rattle.std.proofs.lemmas.Option.{none-some, same_Some}
use Rattle.xs_gram.specs.declared.parts.GItem.{GItem}
use Rattle.xs_gram.specs.Grammar.{Grammar, items}
use Rattle.xs_gram.specs.Common.{Common, word, made, Kids, no_kid, kid, Kind, of_term, of_non, kinds, lookup, TreeFits, KidsFit, KidFits}
use Rattle.xs_gram.specs.Laws.{Every, IsDistinct}
use Rattle.xs_pair.specs.Grammars.{Pair}
use Rattle.xs_outline.specs.Shapes.{Shape, leaf, Branches, none, branch, names_of, slot_count, kind_at, empty_cells, is_full, kids_in, meaning, filled, ShapeFits, BranchesFit, root_kind, HasSlotNames}
use Rattle.xs_outline.specs.Order.{inserted, slots_in_order, order_of, branches_at, shape_of, shapes_of, is_before}
use Rattle.xs_outline.specs.Reader.{missing}
use Rattle.xs_outline.proofs.Viable.{none_missing}

-- these slots are those without a child, each once
abbrev pub AreOwed : List (Option Common) → List ℕ → Type 0
AreOwed cells [] = is_full cells ≡ true
AreOwed cells (s ∷ ss) = (slice_get cells s ≡ Some None) × ((t : Common) → AreOwed (set cells s (Some t)) ss)

pub set_other : (cells : List (Option Common)) (s r : ℕ) (x : Option Common) → r ≢ s → slice_get (set cells s x) r ≡ slice_get cells r
set_other [] s r x differ = refl
set_other (c ∷ cells) zero zero x differ = absurd (differ refl)
set_other (c ∷ cells) zero (suc r) x differ = refl
set_other (c ∷ cells) (suc s) zero x differ = refl
set_other (c ∷ cells) (suc s) (suc r) x differ = set_other cells s r x (λ e. differ (ap suc e))

pub missing_set : (cells : List (Option Common)) (s : ℕ) (t : Common) → slice_get cells s ≡ Some None → suc (missing (set cells s (Some t))) ≡ missing cells
missing_set [] s t free = absurd (none-some None free)
missing_set (None ∷ cells) zero t free = refl
missing_set (Some u ∷ cells) zero t free = absurd (none-some u (sym (same_Some (Some u) None free)))
missing_set (None ∷ cells) (suc s) t free = ap suc (missing_set cells s t free)
missing_set (Some u ∷ cells) (suc s) t free = missing_set cells s t free

others_free : (ss : List ℕ) (cells : List (Option Common)) (s : ℕ) (t : Common) → Every (λ r. slice_get cells r ≡ Some None) ss → Every (λ r. r ≢ s) ss → Every (λ r. slice_get (set cells s (Some t)) r ≡ Some None) ss
others_free [] cells s t free other = tt
others_free (r ∷ ss) cells s t free other = (set_other cells s r (Some t) other.0 ∙ free.0, others_free ss cells s t free.1 other.1)

pub owed : (ss : List ℕ) (cells : List (Option Common)) → missing cells ≡ length ss → Every (λ r. slice_get cells r ≡ Some None) ss → IsDistinct ss → AreOwed cells ss
owed [] cells count free distinct = none_missing cells count
owed (s ∷ ss) cells count free distinct =
    (free.0, λ t. owed ss (set cells s (Some t)) (let less = missing_set cells s t free.0 in omega (arith, count, less)) (others_free ss cells s t free.1 distinct.0) distinct.1)

pub missing_none : (n : ℕ) → missing (replicate n None) ≡ n
missing_none zero = refl
missing_none (suc n) = ap suc (missing_none n)

pub none_at : (n s : ℕ) → s < n → slice_get (replicate {A = Option Common} n None) s ≡ Some None
none_at zero s lt = absurd (omega (arith, lt))
none_at (suc n) zero lt = refl
none_at (suc n) (suc s) lt = none_at n s (omega (arith, lt))

all_none : (n : ℕ) (ss : List ℕ) → Every (λ s. s < n) ss → Every (λ r. slice_get (replicate {A = Option Common} n None) r ≡ Some None) ss
all_none n [] below = tt
all_none n (s ∷ ss) below = (none_at n s below.0, all_none n ss below.1)

-- that many distinct slots below their number are owed by a node that has no child
pub all_owed : (n : ℕ) (ss : List ℕ) → length ss ≡ n → Every (λ s. s < n) ss → IsDistinct ss → AreOwed (replicate n None) ss
all_owed n ss long below distinct = owed ss (replicate n None) (missing_none n ∙ sym long) (all_none n ss below) distinct

-- the slots in order
length-inserted : (names : List (List ℕ)) (s : ℕ) (rs : List ℕ) → length (inserted names s rs) ≡ suc (length rs)
length-inserted names s [] = refl
length-inserted names s (r ∷ rs) = by (length-inserted names s rs) (is_before (get_or names s []) (get_or names r []))
  where
    by : length (inserted names s rs) ≡ suc (length rs) → (b : Bool) → length (if b then s ∷ r ∷ rs else r ∷ inserted names s rs) ≡ suc (length (r ∷ rs))
    by later true = refl
    by later false = ap suc later

every_inserted : (P : ℕ → Type 0) (names : List (List ℕ)) (s : ℕ) (rs : List ℕ) → P s → Every P rs → Every P (inserted names s rs)
every_inserted P names s [] own all = (own, tt)
every_inserted P names s (r ∷ rs) own all = by (every_inserted P names s rs own all.1) (is_before (get_or names s []) (get_or names r []))
  where
    by : Every P (inserted names s rs) → (b : Bool) → Every P (if b then s ∷ r ∷ rs else r ∷ inserted names s rs)
    by later true = (own, all)
    by later false = (all.0, later)

distinct_inserted : (names : List (List ℕ)) (s : ℕ) (rs : List ℕ) → Every (λ m. m ≢ s) rs → IsDistinct rs → IsDistinct (inserted names s rs)
distinct_inserted names s [] other distinct = (tt, tt)
distinct_inserted names s (r ∷ rs) other distinct = by (distinct_inserted names s rs other.1 distinct.1) (is_before (get_or names s []) (get_or names r []))
  where
    by : IsDistinct (inserted names s rs) → (b : Bool) → IsDistinct (if b then s ∷ r ∷ rs else r ∷ inserted names s rs)
    by later true = (other, distinct)
    by later false = (every_inserted (λ m. m ≢ r) names s rs (λ e. other.0 (sym e)) distinct.0, later)

every_more : (P Q : ℕ → Type 0) (rs : List ℕ) → ((m : ℕ) → P m → Q m) → Every P rs → Every Q rs
every_more P Q [] f all = tt
every_more P Q (r ∷ rs) f all = (f r all.0, every_more P Q rs f all.1)

pub record IsOrder (n : ℕ) (ss : List ℕ) : Type 0 where
  pub long : length ss ≡ n
  pub below : Every (λ s. s < n) ss
  pub distinct : IsDistinct ss

pub in_order : (names : List (List ℕ)) (n : ℕ) → IsOrder n (slots_in_order names n)
in_order names zero = record { long = refl; below = tt; distinct = tt }
in_order names (suc n) =
    let before = in_order names n in
    record {
      long = length-inserted names n (slots_in_order names n) ∙ ap suc before.long;
      below = every_inserted (λ s. s < suc n) names n (slots_in_order names n) (omega arith) (every_more (λ s. s < n) (λ s. s < suc n) (slots_in_order names n) (λ m lt. omega (arith, lt)) before.below);
      distinct = distinct_inserted names n (slots_in_order names n) (every_more (λ s. s < n) (λ s. s ≢ n) (slots_in_order names n) (λ m lt e. omega (arith, lt, e)) before.below) before.distinct;
    }

-- branches at slots that are owed fit where each shape fits its slot
branches_fit : (p : Pair) (q : ℕ) (shapes : List Shape) (ss : List ℕ) (cells : List (Option Common)) → AreOwed cells ss → Every (λ s. ShapeFits p (kind_at p q s) (get_or shapes s (leaf []))) ss → BranchesFit p q cells (branches_at ss shapes)
branches_fit p q shapes [] cells owes fit = owes
branches_fit p q shapes (s ∷ ss) cells owes fit =
    (owes.0, fit.0, branches_fit p q shapes ss (set cells s (Some (meaning p (get_or shapes s (leaf []))))) (owes.1 (meaning p (get_or shapes s (leaf [])))) fit.1)

pub fits_full : (p : Pair) (q : ℕ) (bs : Branches) (cells : List (Option Common)) → BranchesFit p q cells bs → is_full (filled p cells bs) ≡ true
fits_full p q none cells fit = fit
fits_full p q (branch s sh bs) cells fit = fits_full p q bs (set cells s (Some (meaning p sh))) fit.2

-- each child is that of the list
abbrev pub Agree : List (Option Common) → List Common → Type 0
Agree [] [] = Unit {0}
Agree [] (t ∷ ts) = ⊥
Agree (c ∷ cells) [] = ⊥
Agree (None ∷ cells) (t ∷ ts) = Agree cells ts
Agree (Some u ∷ cells) (t ∷ ts) = (u ≡ t) × Agree cells ts

agree_none : (ts : List Common) → Agree (replicate (length ts) None) ts
agree_none [] = tt
agree_none (t ∷ ts) = agree_none ts

agree_set : (cells : List (Option Common)) (ts : List Common) (s : ℕ) (u : Common) → Agree cells ts → (s < length ts → u ≡ get_or ts s (word [])) → Agree (set cells s (Some u)) ts
agree_set [] [] s u agree is = tt
agree_set [] (t ∷ ts) s u agree is = absurd agree
agree_set (c ∷ cells) [] s u agree is = absurd agree
agree_set (None ∷ cells) (t ∷ ts) zero u agree is = (is (omega arith), agree)
agree_set (Some v ∷ cells) (t ∷ ts) zero u agree is = (is (omega arith), agree.1)
agree_set (None ∷ cells) (t ∷ ts) (suc s) u agree is = agree_set cells ts s u agree (λ lt. is (omega (arith, lt)))
agree_set (Some v ∷ cells) (t ∷ ts) (suc s) u agree is = (agree.0, agree_set cells ts s u agree.1 (λ lt. is (omega (arith, lt))))

abbrev pub trees_in : Kids → List Common
trees_in no_kid = []
trees_in (kid t kids) = t ∷ trees_in kids

agree_full : (cells : List (Option Common)) (kids : Kids) → Agree cells (trees_in kids) → is_full cells ≡ true → kids_in cells ≡ kids
agree_full [] no_kid agree full = refl
agree_full [] (kid t kids) agree full = absurd agree
agree_full (c ∷ cells) no_kid agree full = absurd agree
agree_full (None ∷ cells) (kid t kids) agree full = absurd (cc)
agree_full (Some u ∷ cells) (kid t kids) agree full = ap (λ z. kid z (kids_in cells)) agree.0 ∙ ap (λ z. kid t z) (agree_full cells kids agree.1 full)

filled_agrees : (p : Pair) (shapes : List Shape) (ts : List Common) (ss : List ℕ) (cells : List (Option Common)) → ((s : ℕ) → s < length ts → meaning p (get_or shapes s (leaf [])) ≡ get_or ts s (word [])) → Agree cells ts → Agree (filled p cells (branches_at ss shapes)) ts
filled_agrees p shapes ts [] cells means agree = agree
filled_agrees p shapes ts (s ∷ ss) cells means agree =
    filled_agrees p shapes ts ss (set cells s (Some (meaning p (get_or shapes s (leaf []))))) means (agree_set cells ts s (meaning p (get_or shapes s (leaf []))) agree (means s))

kid_counts : (g : Grammar) (is : List GItem) (slot : ℕ) (kids : Kids) → KidsFit g is slot kids → slot + length (trees_in kids) ≡ length (kinds is)
kid_counts g is slot no_kid fit = omega (arith, fit)
kid_counts g is slot (kid t kids) fit = omega (arith, kid_counts g is (slot + 1) kids fit.1)

by_index : (P : ℕ → Type 0) (n : ℕ) (ss : List ℕ) → ((s : ℕ) → s < n → P s) → Every (λ s. s < n) ss → Every P ss
by_index P n [] f below = tt
by_index P n (s ∷ ss) f below = (f s below.0, by_index P n ss f below.1)

zero_plus : (n : ℕ) → 0 + n ≡ n
zero_plus n = omega arith

module _ (p : Pair) (names : HasSlotNames p) where
  -- the shape of a tree fits, and means the tree
  abbrev IsShaped : Option Kind → Common → Type 0
  IsShaped kind t = ShapeFits p kind (shape_of p t) × (meaning p (shape_of p t) ≡ t)

  abbrev AreShaped : List GItem → ℕ → Kids → Type 0
  AreShaped is slot no_kid = Unit {0}
  AreShaped is slot (kid t kids) = IsShaped (lookup slot (kinds is)) t × AreShaped is (slot + 1) kids

  each_means : (is : List GItem) (slot : ℕ) (kids : Kids) → AreShaped is slot kids → (s : ℕ) → s < length (trees_in kids) → meaning p (get_or (shapes_of p kids) s (leaf [])) ≡ get_or (trees_in kids) s (word [])
  each_means is slot no_kid all s lt = absurd (omega (arith, lt))
  each_means is slot (kid t kids) all zero lt = all.0.1
  each_means is slot (kid t kids) all (suc s) lt = each_means is (slot + 1) kids all.1 s (omega (arith, lt))

  each_fits : (is : List GItem) (slot : ℕ) (kids : Kids) → AreShaped is slot kids → (s : ℕ) → s < length (trees_in kids) → ShapeFits p (lookup (slot + s) (kinds is)) (get_or (shapes_of p kids) s (leaf []))
  each_fits is slot no_kid all s lt = absurd (omega (arith, lt))
  each_fits is slot (kid t kids) all zero lt = subst (λ n. ShapeFits p (lookup n (kinds is)) (shape_of p t)) (omega arith) all.0.0
  each_fits is slot (kid t kids) all (suc s) lt = subst (λ n. ShapeFits p (lookup n (kinds is)) (get_or (shapes_of p kids) s (leaf []))) (omega arith) (each_fits is (slot + 1) kids all.1 s (omega (arith, lt)))

  node_fits : (q : ℕ) (kids : Kids) → KidsFit p.text (items p.text q) 0 kids → AreShaped (items p.text q) 0 kids → BranchesFit p q (empty_cells p q) (branches_at (order_of p q) (shapes_of p kids))
  node_fits q kids fit all =
      let order = in_order (names_of p q) (slot_count p q) in
      let count : length (trees_in kids) ≡ slot_count p q = omega (arith, kid_counts p.text (items p.text q) 0 kids fit, names.counts q) in
      branches_fit p q (shapes_of p kids) (order_of p q) (empty_cells p q) (all_owed (slot_count p q) (order_of p q) order.long order.below order.distinct)
      (by_index (λ s. ShapeFits p (kind_at p q s) (get_or (shapes_of p kids) s (leaf []))) (slot_count p q) (order_of p q)
      (λ s lt. subst (λ n. ShapeFits p (lookup n (kinds (items p.text q))) (get_or (shapes_of p kids) s (leaf []))) (zero_plus s) (each_fits (items p.text q) 0 kids all s (omega (arith, lt, count)))) order.below)

  node_means : (q : ℕ) (kids : Kids) → KidsFit p.text (items p.text q) 0 kids → AreShaped (items p.text q) 0 kids → kids_in (filled p (empty_cells p q) (branches_at (order_of p q) (shapes_of p kids))) ≡ kids
  node_means q kids fit all =
      let count : length (trees_in kids) ≡ slot_count p q = omega (arith, kid_counts p.text (items p.text q) 0 kids fit, names.counts q) in
      let shapes = shapes_of p kids in
      let start : Agree (empty_cells p q) (trees_in kids) = subst (λ n. Agree (replicate n None) (trees_in kids)) count (agree_none (trees_in kids)) in
      agree_full (filled p (empty_cells p q) (branches_at (order_of p q) shapes)) kids
      (filled_agrees p shapes (trees_in kids) (order_of p q) (empty_cells p q) (each_means (items p.text q) 0 kids all) start)
      (fits_full p q (branches_at (order_of p q) shapes) (empty_cells p q) (node_fits q kids fit all))

  mutual
    shaped : (kind : Option Kind) (t : Common) → KidFits p.text kind t → IsShaped kind t
    shaped (Some (of_term k)) (word w) fit = (fit, refl)
    shaped (Some (of_non n)) (made q kids) fit =
        let all = all_shaped (items p.text q) 0 kids fit.1 in
        ((fit.0, node_fits q kids fit.1 all), ap (λ z. made q z) (node_means q kids fit.1 all))
    shaped (Some (of_term k)) (made q kids) fit = absurd fit
    shaped (Some (of_non n)) (word w) fit = absurd fit
    shaped None t fit = absurd fit

    all_shaped : (is : List GItem) (slot : ℕ) (kids : Kids) → KidsFit p.text is slot kids → AreShaped is slot kids
    all_shaped is slot no_kid fit = tt
    all_shaped is slot (kid t kids) fit = (shaped (lookup slot (kinds is)) t fit.0, all_shaped is (slot + 1) kids fit.1)

  root_fit : (t : Common) → TreeFits p.text p.text.start t → KidFits p.text (root_kind p) t
  root_fit (word w) fits = absurd fits
  root_fit (made q kids) fits = fits

  pub tree_shape_fits : (t : Common) → TreeFits p.text p.text.start t → ShapeFits p (root_kind p) (shape_of p t)
  tree_shape_fits t fits = (shaped (root_kind p) t (root_fit t fits)).0

  pub tree_shape_means : (t : Common) → TreeFits p.text p.text.start t → meaning p (shape_of p t) ≡ t
  tree_shape_means t fits = (shaped (root_kind p) t (root_fit t fits)).1
