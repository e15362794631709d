-- Each alternative's children have unfoldings, so each row that has one has one by the first alternatives.
use Rattle.std.proofs.Common.{◌≡◌, ℕ, zero, suc, ◌<◌, List, [], ◌∷◌, length, take, Option, Some, None, refl, arith}
use Rattle.std.proofs.Math.Seq.{take-length}
use Rattle.std.specs.Prelude.{Contains}
use Rattle.xs_class.proofs.Lists.{contains_of}
use Rattle.xs_gram.specs.declared.parts.GItem.{GItem}
use Rattle.xs_gram.specs.declared.parts.GItem.TheVariants.{Fixed, Term, Non, Skip}
use Rattle.xs_gram.specs.Grammar.{Grammar, items}
use Rattle.xs_chart_laws.proofs.Words.{get_some}
use Rattle.xs_forest.specs.declared.row.Alt.{Alt}
use Rattle.xs_forest_laws.specs.declared.span.What.{What}
use Rattle.xs_forest_laws.specs.declared.span.What.TheVariants.{Whole, Front}
use Rattle.xs_forest_laws.specs.Forest.{Forest, key_of, alts_of, IsRow, Unfolding, bare, pick, Unfolds, items_of, IsSpelt, FrontAt, ItemRow, IsAlt, IsRight}
use Rattle.xs_forest_laws.specs.First.{IsFirst}
use Rattle.xs_forest_laws.proofs.Children.{IsBefore, children_before}
use Rattle.xs_forest_laws.proofs.Read.{any_slot}
use Rattle.xs_forest_laws.proofs.All.{fitting_is_unfolded}

module _ (g : Grammar) (w : List ℕ) (f : Forest) (right : IsRight g w f) where
  abbrev pub HasUnfolding : Option ℕ → Type 0
  HasUnfolding o = (u : Unfolding) × Unfolds f o u

  none_unfolds : (o : Option ℕ) → o ≡ None → HasUnfolding o
  none_unfolds o e = (bare, rw e tt)

  row_unfolds : (o : Option ℕ) (x : What) (i j : ℕ) → (n : ℕ) × (o ≡ Some n) × IsRow f n x i j → IsSpelt g w (items_of g x) i j → HasUnfolding o
  row_unfolds o x i j (n, e, row) (ps, s) =
      let u = fitting_is_unfolded g w f right n x i j ps row s in
      (u.0, rw e u.1)

  front_unfolds : (p d i j : ℕ) (o : Option ℕ) → FrontAt f p d i j o → IsSpelt g w (take d (items g p)) i j → HasUnfolding o
  front_unfolds p zero i j o h s = none_unfolds o h.0
  front_unfolds p (suc d) i j o h s = row_unfolds o (Front p (suc d)) i j h s

  item_unfolds : (item : GItem) (i j : ℕ) (o : Option ℕ) → ItemRow f item i j o → IsSpelt g w (item ∷ []) i j → HasUnfolding o
  item_unfolds (Fixed v) i j o h s = none_unfolds o h
  item_unfolds (Term t v) i j o h s = none_unfolds o h
  item_unfolds (Skip k) i j o h s = none_unfolds o h
  item_unfolds (Non n v) i j o h (ps, s) = row_unfolds o (Whole n) i j h (ps, (any_slot g n v zero ps s.0, s.1))

  alt_unfolds : (x : What) (i j : ℕ) (a : Alt) → IsAlt g w f x i j a → HasUnfolding a.left × HasUnfolding a.right
  alt_unfolds (Whole n) i j a h = (
    front_unfolds a.rule (length (items g a.rule)) i j a.left h.left_is (rw take-length h.spelt),
    none_unfolds a.right h.right_is,
  )
  alt_unfolds (Front p zero) i j a h = absurd h
  alt_unfolds (Front p (suc d)) i j a (m, item, h) = (
    front_unfolds p d i m a.left h.left_is h.before,
    item_unfolds item m j a.right h.right_is h.last,
  )

  -- the children of each alternative have unfoldings
  pub children_unfold : (r : ℕ) (a : Alt) → r < length f → Contains (alts_of f r) a → HasUnfolding a.left × HasUnfolding a.right
  children_unfold r a lt c =
      let k = key_of f r in
      alt_unfolds k.what k.start k.end a (right.sound r k.what k.start k.end a (lt, refl) c)

  first_of : (n : ℕ) (o : Option ℕ) → IsBefore f o n → HasUnfolding o → (v : Unfolding) × IsFirst f o v
  first_of n None h u = (bare, tt)
  first_of zero (Some r) h u = absurd (omega (arith, h.0))
  first_of (suc n) (Some r) h (bare, u) = absurd u
  first_of (suc n) (Some r) h (pick b s q, u) =
      let a = get_some (alts_of f r) 0 (omega (arith, u.1.1)) in
      let there = contains_of (alts_of f r) 0 a.0 a.1 in
      let c = children_unfold r a.0 h.1 there in
      let before = children_before g w f right r n a.0 h.0 h.1 there in
      let l = first_of n a.0.left before.0 c.0 in
      let t = first_of n a.0.right before.1 c.1 in
      (pick a.0 l.0 t.0, (h.1, a.1, l.1, t.1))

  pub has_first : (r : ℕ) (u : Unfolding) → Unfolds f (Some r) u → (v : Unfolding) × IsFirst f (Some r) v
  has_first r bare h = absurd h
  has_first r (pick a l t) h = first_of (length f) (Some r) (h.0, h.0) (pick a l t, h)

-- it is an unfolding
pub first_unfolds : (f : Forest) (o : Option ℕ) (u : Unfolding) → IsFirst f o u → Unfolds f o u
first_unfolds f None bare h = tt
first_unfolds f None (pick a l t) h = h
first_unfolds f (Some r) bare h = h
first_unfolds f (Some r) (pick a l t) (lt, at, hl, ht) = (lt, contains_of (alts_of f r) 0 a at, first_unfolds f a.left l hl, first_unfolds f a.right t ht)
