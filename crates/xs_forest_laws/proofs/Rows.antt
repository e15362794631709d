-- What the container of rows asks of one more row, and what it then has, where rows are made in the order of a list of labels.
use Rattle.std.proofs.Common.{◌≡◌, ℕ, suc, ◌<◌, ◌≤◌, List, [], ◌∷◌, length, Option, Some, None, refl, sym, ap, ◌∙◌, subst, arith, inl, inr, ◌⊎◌}
use Rattle.std.proofs.lemmas.Bool.{cases_lt}
use Rattle.std.specs.Prelude.{slice_get, Contains}
use Rattle.xs_gram.specs.declared.places.Place.{Place}
use Rattle.xs_gram.specs.Grammar.{Grammar}
use Rattle.xs_chart_laws.proofs.Words.{get_lt}
use Rattle.xs_forest.specs.declared.row.Alt.{Alt}
use Rattle.xs_forest.specs.Rows.{IsEarlier, AreEarlier, HasLabel}
use Rattle.xs_forest_laws.specs.declared.span.SpanKey.{SpanKey}
use Rattle.xs_forest_laws.specs.declared.span.What.{What}
use Rattle.xs_forest_laws.specs.Forest.{Forest, key_at, no_row, key_of, alts_of}
use Rattle.xs_forest_laws.specs.Grown.{IsAltBy, IsLabelBy}
use Rattle.xs_forest_laws.specs.Adding.{more_of}
use Rattle.xs_forest_laws.specs.Placed.{key_in, IsOrdered, HasKeys}
use Rattle.xs_forest_laws.proofs.Read.{get_or_is}
use Rattle.xs_forest_laws.proofs.Adding.{alt_child, key_more, at_end}
use Rattle.xs_class.proofs.Lists.{first_in, rest_in, one_longer}

pub child_earlier : (o : Option ℕ) (n : ℕ) → ((c : ℕ) → o ≡ Some c → c < n) → IsEarlier o n
child_earlier None n h = tt
child_earlier (Some c) n h = h c refl

all_earlier : (alts : List Alt) (n : ℕ) → ((a : Alt) (c : ℕ) → Contains alts a → (a.left ≡ Some c) ⊎ (a.right ≡ Some c) → c < n) → AreEarlier alts n
all_earlier [] n h = tt
all_earlier (a ∷ alts) n h = (
  child_earlier a.left n (λ c e. h a c (first_in a alts) (inl e)),
  child_earlier a.right n (λ c e. h a c (first_in a alts) (inr e)),
  all_earlier alts n (λ b c i e. h b c (rest_in a alts b i) e),
)

-- the row of a number, by its label and its alternatives
pub row_at : (f : Forest) (r : ℕ) (k : SpanKey) (alts : List Alt) → slice_get f r ≡ Some (k, alts) → (r < length f) × (key_of f r ≡ k) × (alts_of f r ≡ alts)
row_at f r k alts e =
    let is = get_or_is f r (k, alts) no_row e in
    (get_lt f r (k, alts) e, ap (λ (z : SpanKey × List Alt). z.0) is, ap (λ (z : SpanKey × List Alt). z.1) is)

-- the children of the alternatives that the chart gives are earlier rows
pub alts_earlier : (g : Grammar) (w : List ℕ) (has : ℕ → Place → ℕ → Type 0) (f : Forest) (x : What) (i j : ℕ) (alts : List Alt) → ((a : Alt) → Contains alts a → IsAltBy g w has f x i j a) → AreEarlier alts (length f)
alts_earlier g w has f x i j alts sound = all_earlier alts (length f) (λ a c there e. alt_child g w has f x i j c a (sound a there) e)

-- no row has a label that is new
pub not_repeated : (f : Forest) (k : SpanKey) → ((r : ℕ) → r < length f → key_of f r ≡ k → ⊥) → (at : ℕ) → HasLabel f at k → ⊥
not_repeated f k new at (alts, e) = let row = row_at f at k alts e in new at row.0 row.1

module _ (g : Grammar) (has : ℕ → Place → ℕ → Type 0) (place : SpanKey → List ℕ) (ks : List SpanKey) (ordered : IsOrdered g has place ks) (f : Forest) (made : HasKeys f ks) (more : length f < length ks) (x : What) (i j : ℕ) (next : key_in ks (length f) ≡ key_at x i j) where
  -- the next label is one that the chart has, and is new
  pub next_label : IsLabelBy g has x i j
  next_label = subst (λ (z : SpanKey). IsLabelBy g has z.what z.start z.end) next (ordered.each (length f) more)

  pub next_new : (r : ℕ) → r < length f → key_of f r ≡ key_at x i j → ⊥
  next_new r lt e =
      let le = made.within in
      let same = ordered.differ r (length f) (omega arith) more (sym (made.keys r lt) ∙ (e ∙ sym next)) in
      absurd (omega arith)

  -- with its row the rows are of the labels still
  pub more_keys : (alts : List Alt) → HasKeys (more_of f x i j alts) ks
  more_keys alts = record { within = within; keys = keys }
    where
      row : SpanKey × List Alt
      row = (key_at x i j, alts)

      longer : length (more_of f x i j alts) ≡ suc (length f)
      longer = one_longer f row

      within : length (more_of f x i j alts) ≤ length ks
      within = let e = longer in omega arith

      last : (r : ℕ) → r ≡ length f → key_of (more_of f x i j alts) r ≡ key_in ks r
      last r is = subst (λ z. key_of (more_of f x i j alts) z ≡ key_in ks z) (sym is) (ap (λ (z : SpanKey × List Alt). z.0) (at_end f row no_row) ∙ sym next)

      keys : (r : ℕ) → r < length (more_of f x i j alts) → key_of (more_of f x i j alts) r ≡ key_in ks r
      keys r lt = let e = longer in elim (cases_lt r (length f)) [
        | inl old ↦ key_more f row r old ∙ made.keys r old
        | inr new ↦ last r (omega arith)
      ]

pub none_keyed : (ks : List SpanKey) → HasKeys [] ks
none_keyed ks = record { within = omega arith; keys = λ r lt. absurd (omega arith) }
