-- The children of rows stand before them, and what of the document they begin with.
use Rattle.std.proofs.Common.{◌≡◌, ◌⊎◌, inl, inr, ℕ, zero, suc, ◌<◌, ◌≤◌, List, [], ◌∷◌, length, Option, Some, None, refl, sym, ap, arith, subst}
use Rattle.std.specs.Prelude.{slice_get, Contains}
use Rattle.std.proofs.lemmas.Option.{slice_get-get_or}
use Rattle.xs_gram.specs.declared.parts.GItem.{GItem}
use Rattle.xs_gram.specs.declared.parts.GItem.TheVariants.{Fixed, Term, Non, Skip}
use Rattle.xs_gram.specs.Grammar.{Grammar, items}
use Rattle.xs_gram.specs.Derivations.{parts_yield}
use Rattle.xs_chart_laws.proofs.Words.{get_lt, Reads-within}
use Rattle.xs_forest.specs.declared.row.Alt.{Alt}
use Rattle.xs_forest.specs.Rows.{IsEarlier, AreEarlier, AreBelow}
use Rattle.xs_forest_laws.specs.declared.span.SpanKey.{SpanKey}
use Rattle.xs_forest_laws.specs.declared.span.What.{What}
use Rattle.xs_forest_laws.specs.declared.span.What.TheVariants.{Whole, Front}
use Rattle.xs_forest_laws.specs.Forest.{Forest, no_row, key_of, alts_of, IsRow, FrontAt, ItemRow, IsAlt, IsSpelt, IsRight}
use Rattle.xs_forest_laws.proofs.Read.{get_or_is}
use Rattle.xs_forest_laws.proofs.Number.{contains_of}

pub earlier_more : (o : Option ℕ) (m n : ℕ) → m ≤ n → IsEarlier o m → IsEarlier o n
earlier_more None m n le h = tt
earlier_more (Some c) m n le h = omega arith

pub earlier_at : (alts : List Alt) (n m : ℕ) (a : Alt) → AreEarlier alts m → slice_get alts n ≡ Some a → IsEarlier a.left m × IsEarlier a.right m
earlier_at [] n m a h e = cc
earlier_at (b ∷ alts) zero m a h e = let same : b ≡ a = cc in subst (λ (x : Alt). IsEarlier x.left m × IsEarlier x.right m) same (h.0, h.1)
earlier_at (b ∷ alts) (suc n) m a h e = earlier_at alts n m a h.2 e

row_get : (f : Forest) (r : ℕ) → r < length f → slice_get f r ≡ Some (key_of f r, alts_of f r)
row_get f r lt = slice_get-get_or f r no_row lt

-- the children of each alternative stand before the row
pub alt_earlier : (f : Forest) (r n : ℕ) (a : Alt) → AreBelow f → r < length f → slice_get (alts_of f r) n ≡ Some a → IsEarlier a.left r × IsEarlier a.right r
alt_earlier f r n a below lt e = earlier_at (alts_of f r) n r a (below r (key_of f r) (alts_of f r) (row_get f r lt)) e

pub all_earlier : (alts : List Alt) (m n : ℕ) → m ≤ n → AreEarlier alts m → AreEarlier alts n
all_earlier [] m n le h = tt
all_earlier (a ∷ alts) m n le h = (earlier_more a.left m n le h.0, earlier_more a.right m n le h.1, all_earlier alts m n le h.2)

-- the children of a row's alternatives stand below any number from the row's on
pub alts_earlier : (f : Forest) (r n : ℕ) → AreBelow f → r < length f → r ≤ n → AreEarlier (alts_of f r) n
alts_earlier f r n below lt le = all_earlier (alts_of f r) r n le (below r (key_of f r) (alts_of f r) (row_get f r lt))

module _ (g : Grammar) (w : List ℕ) (f : Forest) (right : IsRight g w f) where
  -- a child that an alternative of the row has
  child_earlier : (r : ℕ) (a : Alt) (o : Option ℕ) → r < length f → Contains (alts_of f r) a → ((c : ℕ) → o ≡ Some c → (a.left ≡ Some c) ⊎ (a.right ≡ Some c)) → IsEarlier o r
  child_earlier r a None lt there is = tt
  child_earlier r a (Some c) lt there is = right.below r c a lt there (is c refl)

  -- the children of an alternative stand below any number from the row's on
  pub children_earlier : (r n m : ℕ) (a : Alt) → r < length f → r ≤ m → slice_get (alts_of f r) n ≡ Some a → IsEarlier a.left m × IsEarlier a.right m
  children_earlier r n m a lt le e =
      let there = contains_of (alts_of f r) n a e in
      (earlier_more a.left r m le (child_earlier r a a.left lt there (λ c is. inl is)), earlier_more a.right r m le (child_earlier r a a.right lt there (λ c is. inr is)))

  -- a row that is a child, if there is one, begins within the document
  abbrev pub IsInside : Option ℕ → Type 0
  IsInside None = Unit {0}
  IsInside (Some c) = (key_of f c).start ≤ length w

  row_inside : (o : Option ℕ) (x : What) (i j : ℕ) → (n : ℕ) × (o ≡ Some n) × IsRow f n x i j → i ≤ length w → IsInside o
  row_inside o x i j (n, e, row) le =
      let start : (key_of f n).start ≡ i = ap (λ (k : SpanKey). k.start) row.1 in
      let here : IsInside (Some n) = omega arith in
      subst IsInside (sym e) here

  front_inside : (p d i j : ℕ) (o : Option ℕ) → FrontAt f p d i j o → i ≤ length w → IsInside o
  front_inside p zero i j o h le = subst IsInside (sym h.0) tt
  front_inside p (suc d) i j o h le = row_inside o (Front p (suc d)) i j h le

  item_inside : (item : GItem) (m j : ℕ) (o : Option ℕ) → ItemRow f item m j o → m ≤ length w → IsInside o
  item_inside (Fixed v) m j o h le = subst IsInside (sym h) tt
  item_inside (Term t s) m j o h le = subst IsInside (sym h) tt
  item_inside (Skip k) m j o h le = subst IsInside (sym h) tt
  item_inside (Non n s) m j o h le = row_inside o (Whole n) m j h le

  -- what is spelt from within the document ends within it
  pub spelt_inside : (is : List GItem) (i m : ℕ) → IsSpelt g w is i m → i ≤ length w → m ≤ length w
  spelt_inside is i m (ps, s) le = Reads-within w i (parts_yield ps) m le s.1

  alt_inside : (x : What) (i j : ℕ) (a : Alt) → IsAlt g w f x i j a → i ≤ length w → IsInside a.left × IsInside a.right
  alt_inside (Whole n) i j a h le = (front_inside a.rule (length (items g a.rule)) i j a.left h.left_is le, subst IsInside (sym h.right_is) tt)
  alt_inside (Front p zero) i j a h le = absurd h
  alt_inside (Front p (suc d)) i j a (m, item, h) le = (
    front_inside p d i m a.left h.left_is le,
    item_inside item m j a.right h.right_is (spelt_inside _ i m h.before le),
  )

  pub children_inside : (r n : ℕ) (a : Alt) → r < length f → slice_get (alts_of f r) n ≡ Some a → (key_of f r).start ≤ length w → IsInside a.left × IsInside a.right
  children_inside r n a lt e le =
      let k = key_of f r in
      alt_inside k.what k.start k.end a (right.sound r k.what k.start k.end a (lt, refl) (contains_of (alts_of f r) n a e)) le

  pub rows_below : AreBelow f
  rows_below r label alts e = each alts r (λ n a at. children_earlier r n r a lt (omega arith) (alt_at n a at))
    where
      lt : r < length f
      lt = get_lt f r (label, alts) e

      alts_are : alts_of f r ≡ alts
      alts_are = ap (λ (x : SpanKey × List Alt). x.1) (get_or_is f r (label, alts) no_row e)

      alt_at : (n : ℕ) (a : Alt) → slice_get alts n ≡ Some a → slice_get (alts_of f r) n ≡ Some a
      alt_at n a at = subst (λ (l : List Alt). slice_get l n ≡ Some a) (sym alts_are) at

      each : (alts : List Alt) (m : ℕ) → ((n : ℕ) (a : Alt) → slice_get alts n ≡ Some a → IsEarlier a.left m × IsEarlier a.right m) → AreEarlier alts m
      each [] m h = tt
      each (a ∷ alts) m h = let b = h zero a refl in (b.0, b.1, each alts m (λ n x at. h (suc n) x at))
