-- The tree of a shape that fits is one that fits.
use Rattle.std.proofs.Common.{◌≡◌, ◌≢◌, ℕ, zero, suc, ◌+◌, ◌<◌, Bool, true, false, List, [], ◌∷◌, length, set, replicate, Some, None, ◌==◌, refl, sym, ◌∙◌, ap, subst, arith, eqb-true}
use Rattle.std.specs.Prelude.{slice_get}
use Rattle.std.specs.declared.option.Option.{Option}
use Rattle.std.proofs.lemmas.Bool.Decides.{nat_tests}
use Rattle.std.proofs.lemmas.Option.{none-some, same_Some, slice_get_within}
use Rattle.xs_gram.specs.declared.parts.GItem.{GItem}
use Rattle.xs_gram.specs.Grammar.{items}
use Rattle.xs_gram.specs.Common.{Common, word, made, Kind, of_term, of_non, kinds, lookup, TreeFits, KidsFit, KidFits}
use Rattle.xs_pair.specs.Grammars.{Pair}
use Rattle.xs_outline.specs.Shapes.{Shape, leaf, node, Branches, none, branch, slot_count, kind_at, empty_cells, is_full, kids_in, meaning, filled, ShapeFits, BranchesFit, root_kind, HasSlotNames}
use Rattle.xs_outline.specs.Outline.{IsOutline}
use Rattle.xs_outline.proofs.Machine.{long_empty, long_set}
use Rattle.xs_outline.proofs.Fitting.{set_other, fits_full}

set_here : (cells : List (Option Common)) (s : ℕ) (x : Option Common) → s < length cells → slice_get (set cells s x) s ≡ Some x
set_here [] s x lt = absurd (omega (arith, lt))
set_here (c ∷ cells) zero x lt = refl
set_here (c ∷ cells) (suc s) x lt = set_here cells s x (omega (arith, lt))

not_there : (n s : ℕ) (t : Common) → slice_get (replicate {A = Option Common} n None) s ≡ Some (Some t) → ⊥
not_there zero s t is = none-some (Some t) is
not_there (suc n) zero t is = none-some t (same_Some None (Some t) is)
not_there (suc n) (suc s) t is = not_there n s t is

module _ (p : Pair) (names : HasSlotNames p) where
  -- each child fits its slot
  abbrev CellsFit : ℕ → List (Option Common) → Type 0
  CellsFit q cells = (s : ℕ) (t : Common) → slice_get cells s ≡ Some (Some t) → KidFits p.text (kind_at p q s) t

  none_fits : (q : ℕ) → CellsFit q (empty_cells p q)
  none_fits q s t is = absurd (not_there (slot_count p q) s t is)

  set_fits : (q : ℕ) (cells : List (Option Common)) (s : ℕ) (t : Common) → CellsFit q cells → s < length cells → KidFits p.text (kind_at p q s) t → CellsFit q (set cells s (Some t))
  set_fits q cells s t fits lt own r u is = by (r == s) refl
    where
      differ : (r == s) ≡ false → r ≢ s
      differ e same = grind (arith, nat_tests)

      by : (b : Bool) → (r == s) ≡ b → KidFits p.text (kind_at p q r) u
      by true e =
          let same : r ≡ s = eqb-true r s e in
          let is_t : t ≡ u = same_Some t u (same_Some (Some t) (Some u) (sym (set_here cells s (Some t) lt) ∙ ap (slice_get (set cells s (Some t))) (sym same) ∙ is)) in
          subst (λ z. KidFits p.text (kind_at p q z) u) (sym same) (subst (λ z. KidFits p.text (kind_at p q s) z) is_t own)
      by false e = fits r u (sym (set_other cells s r (Some t) (differ e)) ∙ is)

  kids_fit : (its : List GItem) (cells : List (Option Common)) (slot : ℕ) → is_full cells ≡ true → slot + length cells ≡ length (kinds its) → ((s : ℕ) (t : Common) → slice_get cells s ≡ Some (Some t) → KidFits p.text (lookup (slot + s) (kinds its)) t) → KidsFit p.text its slot (kids_in cells)
  kids_fit its [] slot full long fits = omega (arith, long)
  kids_fit its (None ∷ cells) slot full long fits = absurd (not_true full)
    where
      not_true : false ≡ true → ⊥
      not_true e = cc
  kids_fit its (Some t ∷ cells) slot full long fits = (
    subst (λ n. KidFits p.text (lookup n (kinds its)) t) (none_more slot) (fits 0 t refl),
    kids_fit its cells (slot + 1) full (omega (arith, long)) (λ s u is. subst (λ n. KidFits p.text (lookup n (kinds its)) u) (moved slot s) (fits (suc s) u is)),
  )
    where
      none_more : (m : ℕ) → m + 0 ≡ m
      none_more m = omega arith

      moved : (m j : ℕ) → m + suc j ≡ m + 1 + j
      moved m j = omega arith

  node_kids : (q : ℕ) (cells : List (Option Common)) → is_full cells ≡ true → length cells ≡ slot_count p q → CellsFit q cells → KidsFit p.text (items p.text q) 0 (kids_in cells)
  node_kids q cells full long fits = kids_fit (items p.text q) cells 0 full (omega (arith, long, names.counts q)) (λ s t is. subst (λ n. KidFits p.text (lookup n (kinds (items p.text q))) t) (none_before s) (fits s t is))
    where
      none_before : (k : ℕ) → k ≡ 0 + k
      none_before k = omega arith

  mutual
    shape_tree : (kind : Option Kind) (sh : Shape) → ShapeFits p kind sh → KidFits p.text kind (meaning p sh)
    shape_tree (Some (of_term t)) (leaf w) fits = fits
    shape_tree (Some (of_non n)) (node q bs) fits =
        let cells = branches_tree q (empty_cells p q) bs fits.1 (long_empty p q) (none_fits q) in
        (fits.0, node_kids q (filled p (empty_cells p q) bs) (fits_full p q bs (empty_cells p q) fits.1) cells.0 cells.1)
    shape_tree kind sh fits = absurd fits

    branches_tree : (q : ℕ) (cells : List (Option Common)) (bs : Branches) → BranchesFit p q cells bs → length cells ≡ slot_count p q → CellsFit q cells → (length (filled p cells bs) ≡ slot_count p q) × CellsFit q (filled p cells bs)
    branches_tree q cells none fits long all = (long, all)
    branches_tree q cells (branch s sh bs) fits long all =
        branches_tree q (set cells s (Some (meaning p sh))) bs fits.2 (long_set p q s cells (meaning p sh) long) (set_fits q cells s (meaning p sh) all (slice_get_within cells s None fits.0) (shape_tree (kind_at p q s) sh fits.1))

  root_tree : (t : Common) → KidFits p.text (root_kind p) t → TreeFits p.text p.text.start t
  root_tree (word w) fits = absurd fits
  root_tree (made q kids) fits = fits

  pub outline_fits : (w : List ℕ) (t : Common) → IsOutline p w t → TreeFits p.text p.text.start t
  outline_fits w t o = subst (TreeFits p.text p.text.start) (sym o.tree.means) (root_tree (meaning p o.tree.shape) (shape_tree (root_kind p) o.tree.shape o.tree.fits))
