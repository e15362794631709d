-- The left fence symbols by the numbers of groups, and the bits of the labels.
use Rattle.std.proofs.Common.{◌≡◌, ℕ, zero, suc, ◌+◌, ◌*◌, ◌/◌, ◌%◌, ◌<◌, ◌≤◌, inl, inr, Bool, true, false, cond, List, [], ◌∷◌, ◌++◌, length, length-append, append-nil, map, set, get_or, take, slice_get, Some, refl, sym, ap, subst, ◌∙◌, zero-add, arith}
use Rattle.std.specs.List.{filter}
use Rattle.std.specs.Prelude.{◌==◌}
use Rattle.std.proofs.Math.Nat.{mul-le-mul_left}
use Rattle.std.proofs.lemmas.Bool.{cases_lt, ne_eqb}
use Rattle.std.proofs.lemmas.List.{get_or-set_other, length-set, map-append, take_more}
use Rattle.std.proofs.lemmas.List.Elements.{filter-append}
use Rattle.std.proofs.lemmas.Nat.{div-mul-add, div-add-mod'}
use Rattle.std.proofs.lemmas.Option.{same_Some, slice_get-get_or, slice_get_within, get_or_from_slice_get}
use Rattle.xs_class.specs.Classes.{Has}
use Rattle.xs_class.proofs.Lists.{get_left, one_cell}
use Rattle.xs_class.proofs.Truth.{neither}
use Rattle.xs_gram.specs.declared.parts.GItem.{GItem}
use Rattle.xs_gram.specs.declared.parts.GItem.TheVariants.{Fixed}
use Rattle.xs_gram.specs.Grammar.{Grammar}
use Rattle.xs_gram.specs.Fences.{spread, is_left, is_right, IsLeftFence, IsUnfenced}
use Rattle.xs_gram.specs.Spreading.{opens}
use Rattle.xs_gram.proofs.Fences.{is_left_of}
use Rattle.xs_loose.specs.declared.part.Fenced.{Fenced}
use Rattle.xs_loose.specs.Groups.{lefts, groups_before, group_number}
use Rattle.xs_loose.specs.Parts.{IsFencedAt}
use Rattle.xs_loose.proofs.Nesting.{left_at}
use Rattle.xs_loose.proofs.Numbering.{other_at}
use Rattle.xs_coarse.specs.Coarse.{Table, group_label, label_count}
use Rattle.xs_coarse.specs.Labels.{first_symbol, lefts_of, lefts_before, AllUnfenced, IsCell, AreNewLabels, AreKept, cell, parted}

-- as many left fence symbols as left fences
lefts_long : (fs : List (ℕ × ℕ)) (is : List GItem) → length (lefts_of fs is) ≡ lefts fs is
lefts_long fs [] = refl
lefts_long fs (i ∷ is) = step (opens fs i) (lefts_long fs is)
  where
    step : (b : Bool) → length (lefts_of fs is) ≡ lefts fs is → length (map first_symbol (cond b (i ∷ filter (opens fs) is) (filter (opens fs) is))) ≡ elim b [ true ↦ suc (lefts fs is) | false ↦ lefts fs is ]
    step true h = ap suc h
    step false h = h

pub before_long : (g : Grammar) (p : ℕ) → length (lefts_before g p) ≡ groups_before g p
before_long g zero = refl
before_long g (suc p) = omega (arith, length-append (lefts_before g p) (lefts_of g.fences (spread g p)), before_long g p, lefts_long g.fences (spread g p))

-- the left fences before the next place
lefts_next : (fs : List (ℕ × ℕ)) (is : List GItem) (k : ℕ) (i : GItem) → k < length is → slice_get is k ≡ Some i → lefts_of fs (take (k + 1) is) ≡ lefts_of fs (take k is) ++ lefts_of fs (i ∷ [])
lefts_next fs is k i low e =
    let here : get_or is k i ≡ i = same_Some _ _ (sym (slice_get-get_or is k i low) ∙ e) in
    ap (λ (xs : List GItem). lefts_of fs xs) (take_more is k i low ∙ ap (λ (j : GItem). take k is ++ j ∷ []) here)
    ∙ ap (λ (xs : List GItem). map first_symbol xs) (filter-append (opens fs) (take k is) (i ∷ []))
    ∙ map-append first_symbol (filter (opens fs) (take k is)) (filter (opens fs) (i ∷ []))

pub lefts_more : (g : Grammar) (p k : ℕ) (f : Fenced) → IsFencedAt g p k f → k < length (spread g p) → lefts_of g.fences (take (k + 1) (spread g p)) ≡ lefts_of g.fences (take k (spread g p)) ++ f.left ∷ []
lefts_more g p k f is low =
    lefts_next g.fences (spread g p) k (Fixed (f.left ∷ [])) low (left_at is.at)
    ∙ ap (λ (b : Bool). lefts_of g.fences (take k (spread g p)) ++ map first_symbol (cond b (Fixed (f.left ∷ []) ∷ []) [])) (is_left_of is.at.fence)

pub lefts_same : (fs : List (ℕ × ℕ)) (is : List GItem) (k : ℕ) → k < length is → (IsLeftFence fs is k → ⊥) → lefts_of fs (take (k + 1) is) ≡ lefts_of fs (take k is)
lefts_same fs is k low other =
    let found = other_at fs is k low other in
    lefts_next fs is k found.0 low found.1 ∙ ap (λ (b : Bool). lefts_of fs (take k is) ++ map first_symbol (cond b (found.0 ∷ []) [])) found.2 ∙ append-nil (lefts_of fs (take k is))

-- a left fence's symbol stands at the number of left fences before it
left_there : (fs : List (ℕ × ℕ)) (is : List GItem) (k l : ℕ) → slice_get is k ≡ Some (Fixed (l ∷ [])) → is_left fs l ≡ true → slice_get (lefts_of fs is) (lefts fs (take k is)) ≡ Some l
left_there fs [] k l e t = absurd (omega (arith, slice_get_within (let none : List GItem = [] in none) k (Fixed (l ∷ [])) e))
left_there fs (i ∷ is) zero l e t =
    let same : i ≡ Fixed (l ∷ []) = same_Some _ _ e in
    subst (λ (j : GItem). slice_get (map first_symbol (filter (opens fs) (j ∷ is))) 0 ≡ Some l) (sym same) (rw t refl)
left_there fs (i ∷ is) (suc k) l e t = step (opens fs i) (left_there fs is k l e t)
  where
    step : (b : Bool) → slice_get (lefts_of fs is) (lefts fs (take k is)) ≡ Some l → slice_get (map first_symbol (cond b (i ∷ filter (opens fs) is) (filter (opens fs) is))) (elim b [ true ↦ suc (lefts fs (take k is)) | false ↦ lefts fs (take k is) ]) ≡ Some l
    step true h = h
    step false h = h

get_right : (xs ys : List ℕ) (k x : ℕ) → slice_get ys k ≡ Some x → slice_get (xs ++ ys) (length xs + k) ≡ Some x
get_right [] ys k x h = rw (zero-add k) h
get_right (y ∷ xs) ys k x h = let e : suc (length xs) + k ≡ suc (length xs + k) = omega arith in rw e (get_right xs ys k x h)

pub group_left : (g : Grammar) (n p j l : ℕ) → p < n → slice_get (spread g p) j ≡ Some (Fixed (l ∷ [])) → is_left g.fences l ≡ true → slice_get (lefts_before g n) (group_number g p j) ≡ Some l
group_left g zero p j l lt e t = absurd (omega (arith, lt))
group_left g (suc n) p j l lt e t = elim (cases_lt p n) [
  | inl low ↦ get_left (lefts_before g n) (lefts_of g.fences (spread g n)) (group_number g p j) l (group_left g n p j l low e t)
  | inr high ↦
      let same : p ≡ n = omega arith in
      subst (λ m. slice_get (lefts_before g m ++ lefts_of g.fences (spread g m)) (group_number g p j) ≡ Some l) same
      (subst (λ m. slice_get (lefts_before g p ++ lefts_of g.fences (spread g p)) (m + lefts g.fences (take j (spread g p))) ≡ Some l) (before_long g p) (get_right (lefts_before g p) (lefts_of g.fences (spread g p)) _ l (left_there g.fences (spread g p) j l e t)))
]

-- a class that has neither symbol of any fence
pub unfenced_from : (fs : List (ℕ × ℕ)) (class : List (ℕ × ℕ)) → ((k : ℕ) (d : ℕ × ℕ) → k < length fs → (Has class (get_or fs k d).0 → ⊥) × (Has class (get_or fs k d).1 → ⊥)) → IsUnfenced fs class
unfenced_from fs class none = λ s h. neither (is_left fs s) (is_right fs s) (no_left fs (λ k d lt. (none k d lt).0) s h) (no_right fs (λ k d lt. (none k d lt).1) s h)
  where
    differ : (x s : ℕ) → (Has class x → ⊥) → Has class s → (x == s) ≡ false
    differ x s never h = ne_eqb x s (λ e. never (subst (λ y. Has class y) (sym e) h))

    no_left : (fs : List (ℕ × ℕ)) → ((k : ℕ) (d : ℕ × ℕ) → k < length fs → Has class (get_or fs k d).0 → ⊥) → (s : ℕ) → Has class s → is_left fs s ≡ false
    no_left [] none s h = refl
    no_left (f ∷ fs) none s h = neither (f.0 == s) (is_left fs s) (differ f.0 s (none 0 f (omega arith)) h) (no_left fs (λ k d lt. none (suc k) d (omega (arith, lt))) s h)

    no_right : (fs : List (ℕ × ℕ)) → ((k : ℕ) (d : ℕ × ℕ) → k < length fs → Has class (get_or fs k d).1 → ⊥) → (s : ℕ) → Has class s → is_right fs s ≡ false
    no_right [] none s h = refl
    no_right (f ∷ fs) none s h = neither (f.1 == s) (is_right fs s) (differ f.1 s (none 0 f (omega arith)) h) (no_right fs (λ k d lt. none (suc k) d (omega (arith, lt))) s h)

-- the place of a cell
pub cell_low : (w l k : ℕ) → l < w → k < w → l * w + k < w * w
cell_low w l k a b = let m : w * suc l ≤ w * w = mul-le-mul_left w (let h : suc l ≤ w = omega arith in h) in omega arith

pub cell_row : (w l k : ℕ) → k < w → (l * w + k) / w ≡ l
cell_row w l k lt = div-mul-add l w k lt

pub cell_column : (w l k : ℕ) → k < w → (l * w + k) % w ≡ k
cell_column w l k lt =
    let whole = div-add-mod' (l * w + k) w in
    let row : (l * w + k) / w * w ≡ l * w = ap (λ r. r * w) (cell_row w l k lt) in
    omega arith

-- cells that are right where they stand
abbrev pub AreCells : List (List (ℕ × ℕ)) → List ℕ → ℕ → List Bool → Type 0
AreCells classes lefts w bits = (l k : ℕ) → l < w → k < w → IsCell classes lefts l k (get_or bits (l * w + k) false)

pub cells_at : (classes : List (List (ℕ × ℕ))) (lefts : List ℕ) (w : ℕ) (bits : List Bool) → ((j : ℕ) → j < w * w → IsCell classes lefts (j / w) (j % w) (get_or bits j false)) → AreCells classes lefts w bits
cells_at classes lefts w bits each l k a b =
    subst (λ r. IsCell classes lefts r k (get_or bits (l * w + k) false)) (cell_row w l k b)
    (subst (λ c. IsCell classes lefts ((l * w + k) / w) c (get_or bits (l * w + k) false)) (cell_column w l k b) (each (l * w + k) (cell_low w l k a b)))

-- the labels of a grammar by their cells
pub labels_kept : (classes : List (List (ℕ × ℕ))) (lefts : List ℕ) (w : ℕ) (bits : List Bool) → w ≡ suc (length classes + length lefts) → w < 65536 → length bits ≡ w * w → AreCells classes lefts w bits → AreKept (record { classes = classes; groups = length lefts; bits = bits }) w
labels_kept classes lefts w bits e small long cells = record {
  wide = e;
  small = small;
  table = record {
    cells = long ∙ ap (λ v. v * v) e;
    classes = λ c d s a b x y. subst (λ v. get_or bits (suc c * v + suc d) false ≡ true) e ((cells (suc c) (suc d) (omega arith) (omega arith)).by_class c d s refl refl x y);
  };
}

pub labels_of : (g : Grammar) (classes : List (List (ℕ × ℕ))) (w : ℕ) (bits : List Bool) (all : List ℕ) → all ≡ lefts_before g (length g.rules) → w ≡ suc (length classes + length all) → AllUnfenced g.fences classes → AreCells classes all w bits → w < 65536 → AreNewLabels g (record { classes = classes; groups = length all; bits = bits })
labels_of g classes w bits all is e unfenced cells low = record {
  labels = record { unfenced = unfenced; groups = ap (λ (xs : List ℕ). length xs) is ∙ before_long g (length g.rules); few = omega (arith, e, low) };
  calls = λ p q j k l a b x y t.
      let first = rw (← is) at (group_left g (length g.rules) p j l a x t) in
      let second = rw (← is) at (group_left g (length g.rules) q k l b y t) in
      let low = slice_get_within all (group_number g p j) l first in
      let high = slice_get_within all (group_number g q k) l second in
      let same : get_or all (group_number g p j) 0 ≡ get_or all (group_number g q k) 0 = get_or_from_slice_get all _ l 0 first ∙ sym (get_or_from_slice_get all _ l 0 second) in
      subst (λ v. get_or bits (suc (length classes + group_number g p j) * v + suc (length classes + group_number g q k)) false ≡ true) e
      ((cells (suc (length classes + group_number g p j)) (suc (length classes + group_number g q k)) (omega arith) (omega arith)).by_fence (group_number g p j) (group_number g q k) refl refl low high same);
}

-- taking the bits of groups away leaves the classes
pub parted_kept : (t : Table) (w h k : ℕ) → AreKept t w → h < t.groups → k < t.groups → AreKept (parted t h k) w
parted_kept t w h k kept a b =
    let first = cell t (group_label t h) (group_label t k) in
    let second = cell t (group_label t k) (group_label t h) in
    record {
      wide = kept.wide;
      small = kept.small;
      table = record {
        cells = length-set (set t.bits first false) second false ∙ length-set t.bits first false ∙ kept.table.cells;
        classes = λ c d s x y p q.
            get_or-set_other (set t.bits first false) second (cell t (suc c) (suc d)) false false (λ e. other c d k h x y b a e)
            ∙ get_or-set_other t.bits first (cell t (suc c) (suc d)) false false (λ e. other c d h k x y a b e)
            ∙ kept.table.classes c d s x y p q;
      };
    }
  where
    other : (c d h k : ℕ) → c < length t.classes → d < length t.classes → h < t.groups → k < t.groups → suc c * label_count t + suc d ≡ group_label t h * label_count t + group_label t k → ⊥
    other c d h k x y a b e = let same = one_cell (label_count t) (suc c) (suc d) (group_label t h) (group_label t k) (omega arith) (omega arith) e in omega (arith, same.0)

cell_is : (n len h k w v : ℕ) → len ≡ n → w ≡ v → (1 + len + h) * w + (1 + len + k) ≡ suc (n + h) * v + suc (n + k)
cell_is n len h k w v e f =
    let a : 1 + len + h ≡ suc (n + h) = omega arith in
    let b : 1 + len + k ≡ suc (n + k) = omega arith in
    ap (λ x. x * w + (1 + len + k)) a ∙ ap (λ y. suc (n + h) * w + y) b ∙ ap (λ u. suc (n + h) * u + suc (n + k)) f

-- the same with the places as they are computed
pub kept_set : (t : Table) (w len h k : ℕ) → AreKept t w → len ≡ length t.classes → h < t.groups → k < t.groups → AreKept (record { classes = t.classes; groups = t.groups; bits = set (set t.bits ((1 + len + h) * w + (1 + len + k)) false) ((1 + len + k) * w + (1 + len + h)) false }) w
kept_set t w len h k kept e a b =
    let first = cell_is (length t.classes) len h k w (label_count t) e kept.wide in
    let second = cell_is (length t.classes) len k h w (label_count t) e kept.wide in
    subst (λ i. AreKept (record { classes = t.classes; groups = t.groups; bits = set (set t.bits i false) ((1 + len + k) * w + (1 + len + h)) false }) w) (sym first)
    (subst (λ i. AreKept (record { classes = t.classes; groups = t.groups; bits = set (set t.bits (cell t (group_label t h) (group_label t k)) false) i false }) w) (sym second) (parted_kept t w h k kept a b))
