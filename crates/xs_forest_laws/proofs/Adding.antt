-- A grown forest with one more row is grown.
use Rattle.std.proofs.Common.{◌≡◌, ℕ, zero, suc, ◌<◌, List, [], ◌∷◌, ◌++◌, length, Option, Some, None, refl, sym, ap, ◌∙◌, arith, subst, inl, inr, ◌⊎◌}
use Rattle.std.proofs.lemmas.Bool.{cases_lt}
use Rattle.std.specs.Prelude.{slice_get, slice_index_or, Contains}
use Rattle.xs_gram.specs.declared.parts.GItem.{GItem}
use Rattle.xs_gram.specs.declared.parts.GItem.TheVariants.{Fixed, Term, Non, Skip}
use Rattle.xs_gram.specs.declared.places.Place.{Place}
use Rattle.xs_gram.specs.Grammar.{Grammar, items, IsRuleOf, ItemAt}
use Rattle.xs_gram.specs.Places.{at_dot}
use Rattle.xs_forest.specs.declared.row.Alt.{Alt}
use Rattle.xs_forest_laws.specs.declared.span.SpanKey.{SpanKey}
use Rattle.xs_forest_laws.specs.declared.span.What.{What}
use Rattle.xs_forest_laws.specs.declared.span.What.TheVariants.{Whole, Front}
use Rattle.xs_forest_laws.specs.Forest.{Forest, key_at, no_row, key_of, alts_of, IsRow, FrontAt, ItemRow}
use Rattle.xs_forest_laws.specs.Grown.{ItemOver, WholeBy, FrontBy, IsAltBy, IsLabelBy, IsGrown}
use Rattle.xs_forest_laws.specs.Adding.{more_of, IsNext}
use Rattle.xs_class.proofs.Lists.{some_same, one_longer}

at_front : {X : Type 0} (xs : List X) (y : X) (r : ℕ) (d : X) → r < length xs → slice_index_or (xs ++ y ∷ []) r d ≡ slice_index_or xs r d
at_front [] y r d h = absurd (omega arith)
at_front (x ∷ xs) y zero d h = refl
at_front (x ∷ xs) y (suc r) d h = at_front xs y r d (omega arith)

pub at_end : {X : Type 0} (xs : List X) (y : X) (d : X) → slice_index_or (xs ++ y ∷ []) (length xs) d ≡ y
at_end [] y d = refl
at_end (x ∷ xs) y d = at_end xs y d

none_some : {X : Type 0} (o : Option X) (x : X) → o ≡ None → o ≡ Some x → ⊥
none_some o x e h = cc

module _ (f : Forest) (row : SpanKey × List Alt) where
  abbrev more : Forest
  more = f ++ row ∷ []

  pub key_more : (r : ℕ) → r < length f → key_of more r ≡ key_of f r
  key_more r h = ap (λ (z : SpanKey × List Alt). z.0) (at_front f row r no_row h)

  pub alts_more : (r : ℕ) → r < length f → alts_of more r ≡ alts_of f r
  alts_more r h = ap (λ (z : SpanKey × List Alt). z.1) (at_front f row r no_row h)

  row_more : (r : ℕ) (x : What) (i j : ℕ) → IsRow f r x i j → IsRow more r x i j
  row_more r x i j h = let e = one_longer f row in (omega (arith, h.0), key_more r h.0 ∙ h.1)

  front_more : (p d i j : ℕ) (o : Option ℕ) → FrontAt f p d i j o → FrontAt more p d i j o
  front_more p zero i j o h = h
  front_more p (suc d) i j o (n, e, h) = (n, e, row_more n (Front p (suc d)) i j h)

  item_more : (item : GItem) (i j : ℕ) (o : Option ℕ) → ItemRow f item i j o → ItemRow more item i j o
  item_more (Fixed v) i j o h = h
  item_more (Term t s) i j o h = h
  item_more (Skip t) i j o h = h
  item_more (Non m s) i j o (n, e, h) = (n, e, row_more n (Whole m) i j h)

  module _ (g : Grammar) (w : List ℕ) (has : ℕ → Place → ℕ → Type 0) where
    whole_more : (n i j q : ℕ) (a : Alt) → WholeBy g has f n i j q a → WholeBy g has more n i j q a
    whole_more n i j q a h = record { rule_is = h.rule_is; of = h.of; ended = h.ended; left_is = front_more q (length (items g q)) i j a.left h.left_is; right_is = h.right_is }

    by_more : (p d i j m : ℕ) (item : GItem) (a : Alt) → FrontBy g w has f p d i j m item a → FrontBy g w has more p d i j m item a
    by_more p d i j m item a h = record { rule_is = h.rule_is; item_is = h.item_is; before = h.before; last = h.last; left_is = front_more p d i m a.left h.left_is; right_is = item_more item m j a.right h.right_is }

    alt_more : (x : What) (i j : ℕ) (a : Alt) → IsAltBy g w has f x i j a → IsAltBy g w has more x i j a
    alt_more (Whole n) i j a h = whole_more n i j a.rule a h
    alt_more (Front p zero) i j a h = h
    alt_more (Front p (suc d)) i j a (m, item, h) = (m, item, by_more p d i j m item a h)

  -- where a row of the longer forest is
  which : (r : ℕ) → r < length more → (r < length f) ⊎ (r ≡ length f)
  which r h = let e = one_longer f row in elim (cases_lt r (length f)) [ inl lt ↦ inl lt | inr ge ↦ inr (omega arith) ]

front_child : (f : Forest) (p d i j c : ℕ) (o : Option ℕ) → FrontAt f p d i j o → o ≡ Some c → c < length f
front_child f p zero i j c o h e = absurd (none_some o c h.0 e)
front_child f p (suc d) i j c o (n, e', h) e = let s = some_same o n c e' e in omega (arith, h.0)

item_child : (f : Forest) (item : GItem) (i j c : ℕ) (o : Option ℕ) → ItemRow f item i j o → o ≡ Some c → c < length f
item_child f (Fixed v) i j c o h e = absurd (none_some o c h e)
item_child f (Term t s) i j c o h e = absurd (none_some o c h e)
item_child f (Skip t) i j c o h e = absurd (none_some o c h e)
item_child f (Non m s) i j c o (n, e', h) e = let s' = some_same o n c e' e in omega (arith, h.0)

pub alt_child : (g : Grammar) (w : List ℕ) (has : ℕ → Place → ℕ → Type 0) (f : Forest) (x : What) (i j c : ℕ) (a : Alt) → IsAltBy g w has f x i j a → (a.left ≡ Some c) ⊎ (a.right ≡ Some c) → c < length f
alt_child g w has f (Whole n) i j c a h (inl e) = front_child f a.rule (length (items g a.rule)) i j c a.left h.left_is e
alt_child g w has f (Whole n) i j c a h (inr e) = absurd (none_some a.right c h.right_is e)
alt_child g w has f (Front p zero) i j c a h e = absurd h
alt_child g w has f (Front p (suc d)) i j c a (m, item, h) (inl e) = front_child f p d i m c a.left h.left_is e
alt_child g w has f (Front p (suc d)) i j c a (m, item, h) (inr e) = item_child f item m j c a.right h.right_is e

what_of : (a b : What) (i j k l : ℕ) → key_at a i j ≡ key_at b k l → (a ≡ b) × (i ≡ k) × (j ≡ l)
what_of a b i j k l e = (ap (λ (z : SpanKey). z.what) e, ap (λ (z : SpanKey). z.start) e, ap (λ (z : SpanKey). z.end) e)

module _ (g : Grammar) (w : List ℕ) (has : ℕ → Place → ℕ → Type 0) (f : Forest) (x : What) (i j : ℕ) (alts : List Alt) (grown : IsGrown g w has f) (next : IsNext g w has f x i j alts) where
  abbrev row : SpanKey × List Alt
  row = (key_at x i j, alts)

  abbrev longer : Forest
  longer = more_of f x i j alts

  old_row : (r : ℕ) (y : What) (k l : ℕ) → r < length f → IsRow longer r y k l → IsRow f r y k l
  old_row r y k l lt h = (lt, sym (key_more f row r lt) ∙ h.1)

  new_key : (r : ℕ) → r ≡ length f → key_of longer r ≡ key_at x i j
  new_key r e = rw e (ap (λ (z : SpanKey × List Alt). z.0) (at_end f row no_row))

  new_alts : (r : ℕ) → r ≡ length f → alts_of longer r ≡ alts
  new_alts r e = rw e (ap (λ (z : SpanKey × List Alt). z.1) (at_end f row no_row))

  new_row : (r : ℕ) (y : What) (k l : ℕ) → r ≡ length f → IsRow longer r y k l → (x ≡ y) × (i ≡ k) × (j ≡ l)
  new_row r y k l e h = what_of x y i j k l (sym (new_key r e) ∙ h.1)

  one_row : (r s : ℕ) → r < length longer → s < length longer → key_of longer r ≡ key_of longer s → r ≡ s
  one_row r s hr hs e = go (which f row r hr) (which f row s hs)
    where
      go : (r < length f) ⊎ (r ≡ length f) → (s < length f) ⊎ (s ≡ length f) → r ≡ s
      go (inl a) (inl b) = grown.one_row r s a b (sym (key_more f row r a) ∙ (e ∙ key_more f row s b))
      go (inl a) (inr b) = absurd (next.new_label r a (sym (key_more f row r a) ∙ (e ∙ new_key s b)))
      go (inr a) (inl b) = absurd (next.new_label s b (sym (key_more f row s b) ∙ (sym e ∙ new_key r a)))
      go (inr a) (inr b) = a ∙ sym b

  below : (r c : ℕ) (a : Alt) → r < length longer → Contains (alts_of longer r) a → (a.left ≡ Some c) ⊎ (a.right ≡ Some c) → c < r
  below r c a hr h e = go (which f row r hr)
    where
      go : (r < length f) ⊎ (r ≡ length f) → c < r
      go (inl lt) = grown.below r c a lt (rw (alts_more f row r lt) at h) e
      go (inr is) = let lt = alt_child g w has f x i j c a (next.sound a (rw (new_alts r is) at h)) e in omega arith

  labels : (r : ℕ) (y : What) (k l : ℕ) → IsRow longer r y k l → IsLabelBy g has y k l
  labels r y k l h = go (which f row r h.0)
    where
      go : (r < length f) ⊎ (r ≡ length f) → IsLabelBy g has y k l
      go (inl lt) = grown.labels r y k l (old_row r y k l lt h)
      go (inr is) = let e = new_row r y k l is h in subst (λ z. IsLabelBy g has z k l) e.0 (subst (λ z. IsLabelBy g has x z l) e.1 (subst (λ z. IsLabelBy g has x i z) e.2 next.label))

  sound : (r : ℕ) (y : What) (k l : ℕ) (a : Alt) → IsRow longer r y k l → Contains (alts_of longer r) a → IsAltBy g w has longer y k l a
  sound r y k l a h c = go (which f row r h.0)
    where
      go : (r < length f) ⊎ (r ≡ length f) → IsAltBy g w has longer y k l a
      go (inl lt) = alt_more f row g w has y k l a (grown.sound r y k l a (old_row r y k l lt h) (rw (alts_more f row r lt) at c))
      go (inr is) =
          let e = new_row r y k l is h in
          let s = alt_more f row g w has x i j a (next.sound a (rw (new_alts r is) at c)) in
          subst (λ z. IsAltBy g w has longer z k l a) e.0 (subst (λ z. IsAltBy g w has longer x z l a) e.1 (subst (λ z. IsAltBy g w has longer x i z a) e.2 s))

  wholes : (r n k l q : ℕ) → IsRow longer r (Whole n) k l → IsRuleOf g n q → has l (at_dot q (length (items g q))) k → (a : Alt) × Contains (alts_of longer r) a × WholeBy g has longer n k l q a
  wholes r n k l q h rule there = go (which f row r h.0)
    where
      go : (r < length f) ⊎ (r ≡ length f) → (a : Alt) × Contains (alts_of longer r) a × WholeBy g has longer n k l q a
      go (inl lt) =
          let b = grown.wholes r n k l q (old_row r (Whole n) k l lt h) rule there in
          (b.0, rw (alts_more f row r lt) b.1, whole_more f row g w has n k l q b.0 b.2)
      go (inr is) =
          let e = new_row r (Whole n) k l is h in
          let b = next.wholes n q e.0 rule (subst (λ z. has z (at_dot q (length (items g q))) i) (sym e.2) (subst (λ z. has l (at_dot q (length (items g q))) z) (sym e.1) there)) in
          (b.0, rw (new_alts r is) b.1, subst (λ z. WholeBy g has longer n z l q b.0) e.1 (subst (λ z. WholeBy g has longer n i z q b.0) e.2 (whole_more f row g w has n i j q b.0 b.2)))

  fronts : (r p d k l m : ℕ) (item : GItem) → IsRow longer r (Front p (suc d)) k l → ItemAt g p d item → has m (at_dot p d) k → ItemOver g w has item m l → (a : Alt) × Contains (alts_of longer r) a × FrontBy g w has longer p d k l m item a
  fronts r p d k l m item h at there over = go (which f row r h.0)
    where
      go : (r < length f) ⊎ (r ≡ length f) → (a : Alt) × Contains (alts_of longer r) a × FrontBy g w has longer p d k l m item a
      go (inl lt) =
          let b = grown.fronts r p d k l m item (old_row r (Front p (suc d)) k l lt h) at there over in
          (b.0, rw (alts_more f row r lt) b.1, by_more f row g w has p d k l m item b.0 b.2)
      go (inr is) =
          let e = new_row r (Front p (suc d)) k l is h in
          let b = next.fronts p d m item e.0 at (subst (λ z. has m (at_dot p d) z) (sym e.1) there) (subst (λ z. ItemOver g w has item m z) (sym e.2) over) in
          (b.0, rw (new_alts r is) b.1, subst (λ z. FrontBy g w has longer p d z l m item b.0) e.1 (subst (λ z. FrontBy g w has longer p d i z m item b.0) e.2 (by_more f row g w has p d i j m item b.0 b.2)))

  once : (r k l : ℕ) (a : Alt) → r < length longer → slice_get (alts_of longer r) k ≡ Some a → slice_get (alts_of longer r) l ≡ Some a → k ≡ l
  once r k l a h b c = go (which f row r h)
    where
      go : (r < length f) ⊎ (r ≡ length f) → k ≡ l
      go (inl lt) = grown.once r k l a lt (rw (alts_more f row r lt) at b) (rw (alts_more f row r lt) at c)
      go (inr is) = next.once k l a (rw (new_alts r is) at b) (rw (new_alts r is) at c)

  pub added : IsGrown g w has longer
  added = record { one_row = one_row; below = below; labels = labels; sound = sound; wholes = wholes; fronts = fronts; once = once }

pub none_grown : (g : Grammar) (w : List ℕ) (has : ℕ → Place → ℕ → Type 0) → IsGrown g w has []
none_grown g w has = record {
  one_row = λ r s h k e. absurd (omega (arith, h));
  below = λ r c a h k e. absurd (omega (arith, h));
  labels = λ r x i j h. absurd (omega (arith, h.0));
  sound = λ r x i j a h c. absurd (omega (arith, h.0));
  wholes = λ r n i j q h k l. absurd (omega (arith, h.0));
  fronts = λ r p d i j m item h k l o. absurd (omega (arith, h.0));
  once = λ r k l a h b c. absurd (omega (arith, h));
}
