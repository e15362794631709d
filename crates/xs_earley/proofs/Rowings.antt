-- The row of a place.
use Rattle.std.proofs.Common.{◌≡◌, ℕ, ◌+◌, ◌<◌, List, [], ◌∷◌, ◌++◌, length, Some, None, refl, sym, ◌∙◌, subst, arith, ◌⊎◌, inl, inr, ◌↔◌, length-append}
use Rattle.std.specs.declared.option.Option.{Option}
use Rattle.std.specs.Prelude.{Contains, slice_get, IsTrue}
use Rattle.std.proofs.lemmas.Bool.{cases_eq}
use Rattle.std.proofs.lemmas.List.{get_or_append_left, get_or_at}
use Rattle.xs_class.proofs.Lists.{some_same}
use Rattle.xs_regex.specs.declared.position.Position.{Position}
use Rattle.xs_gram.specs.declared.parts.GItem.{GItem}
use Rattle.xs_gram.specs.declared.parts.GItem.TheVariants.{Fixed, Term, Non, Skip}
use Rattle.xs_gram.specs.declared.places.Place.{Place}
use Rattle.xs_gram.specs.Grammar.{Grammar, items, ItemAt}
use Rattle.xs_gram.specs.Sound.{IsNullable}
use Rattle.xs_gram.specs.Places.{at_dot, positions_of, IsPlace}
use Rattle.xs_chart_laws.specs.Steps.{next_of, HasAutomaton, IsPassed}
use Rattle.xs_chart_laws.specs.Charts.{IsNumber}
use Rattle.xs_chart_laws.proofs.Words.{get_lt}
use Rattle.xs_chart_laws.proofs.Numbers.{one_place}
use Rattle.xs_chart_laws.proofs.Settling.{same_non, none_is_some, same_some, one_of_place, automaton_once, automaton_not_non, automaton_not_fixed}
use Rattle.xs_chart_laws.proofs.Longer.{slice_longer}
use Rattle.xs_earley.specs.declared.rows.Row.{Row}
use Rattle.xs_earley.specs.declared.rows.Stand.{Stand}
use Rattle.xs_earley.specs.declared.rows.Stand.TheVariants.{AtEnd, AtNon, AtWord, AtTerm, AtSkip}
use Rattle.xs_earley.specs.Facts.{row_at, no_row, MayEnd, IsSpelt, IsKind, IsStand, IsRow, AreRows}

none_of : (o : Option ℕ) → ((k : ℕ) → o ≡ Some k → ⊥) → o ≡ None
none_of None f = refl
none_of (Some k) f = absurd (f k refl)

-- a place at the end of a rule is inside nothing
pub outside_end : (g : Grammar) (place : Place) → IsPlace g place → place.dot ≡ length (items g place.rule) → place.inside ≡ None
outside_end g place is end = none_of place.inside never
  where
    never : (k : ℕ) → place.inside ≡ Some k → ⊥
    never k some = let h = is.inside k some in let lt = get_lt (items g place.rule) place.dot h.0 h.1 in omega (arith, end)

-- and so is one before an item without positions
pub outside_item : (g : Grammar) (place : Place) (item : GItem) → IsPlace g place → ItemAt g place.rule place.dot item → positions_of g item ≡ 0 → place.inside ≡ None
outside_item g place item is there few = none_of place.inside never
  where
    never : (k : ℕ) → place.inside ≡ Some k → ⊥
    never k some =
        let h = is.inside k some in
        let below : k < positions_of g item = subst (λ x. k < positions_of g x) (some_same (slice_get (items g place.rule) place.dot) h.0 item h.1 there) h.2 in
        omega (arith, few)

-- what stands at the place, by the kind of its item
pub kind_stand : (g : Grammar) (letters : List ℕ) (c : Place) (item : GItem) (stand : Stand) → IsPlace g c → ItemAt g c.rule c.dot item → IsKind letters item stand → IsStand g letters c stand
kind_stand g letters c (Fixed f) (AtWord from end) place at spelt = (f, outside_item g c (Fixed f) place at refl, at, spelt)
kind_stand g letters c (Term t s) (AtTerm u) place at e = (s, subst (λ k. ItemAt g c.rule c.dot (Term k s)) e at)
kind_stand g letters c (Non m s) (AtNon n) place at e = (outside_item g c (Non m s) place at refl, s, subst (λ k. ItemAt g c.rule c.dot (Non k s)) e at)
kind_stand g letters c (Skip k) (AtSkip h) place at e = subst (λ n. ItemAt g c.rule c.dot (Skip n)) e at
kind_stand g letters c item stand place at none = absurd none

-- a fixed word is not passed over
pub passed_fixed : (g : Grammar) (c : Place) (f : List ℕ) → ItemAt g c.rule c.dot (Fixed f) → IsPassed g c → ⊥
passed_fixed g c f at (inl (non, (none, slot, there), null)) = fixed_is (one_of_place g c (Fixed f) (Non non slot) at there)
  where
    fixed_is : Fixed f ≡ Non non slot → ⊥
    fixed_is e = cc
passed_fixed g c f at (inr h) = automaton_not_fixed g c h.0 f h.1 at

-- a nonterminal is where it derives the empty word
pub passed_non : (g : Grammar) (c : Place) (m s : ℕ) → IsPlace g c → ItemAt g c.rule c.dot (Non m s) → IsPassed g c ↔ IsNullable g m
passed_non g c m s place at = (to, λ null. inl (m, (outside_item g c (Non m s) place at refl, s, at), null))
  where
    to : IsPassed g c → IsNullable g m
    to (inl (non, before, null)) = subst (λ n. IsNullable g n) (same_non non m before.1 s (one_of_place g c (Non non before.1) (Non m s) before.2 at)) null
    to (inr h) = absurd (automaton_not_non g c h.0 m h.1 (outside_item g c (Non m s) place at refl, s, at))

-- a terminal or an ignorable where a word of it may end
pub passed_lex : (g : Grammar) (c : Place) (a : Position) → HasAutomaton g c a → IsPassed g c ↔ MayEnd a c.inside
passed_lex g c a lex = (to, from c.inside refl)
  where
    here : (o : Option ℕ) → c.inside ≡ o → (((c.inside ≡ None) × IsTrue a.nullable) ⊎ ((k : ℕ) × (c.inside ≡ Some k) × Contains a.last k)) → MayEnd a o
    here None e (inl h) = h.1
    here None e (inr h) = absurd (none_is_some c.inside h.0 e h.1)
    here (Some k) e (inl h) = absurd (none_is_some c.inside k h.0 e)
    here (Some k) e (inr h) = subst (λ n. Contains a.last n) (same_some c.inside h.0 k h.1 e) h.2

    to : IsPassed g c → MayEnd a c.inside
    to (inl (non, before, null)) = absurd (automaton_not_non g c a non lex before)
    to (inr (b, h, ends)) = here c.inside refl (subst (λ (p : Position). ((c.inside ≡ None) × IsTrue p.nullable) ⊎ ((k : ℕ) × (c.inside ≡ Some k) × Contains p.last k)) (automaton_once g c b a h lex) ends)

    from : (o : Option ℕ) → c.inside ≡ o → MayEnd a o → IsPassed g c
    from None e h = inr (a, lex, inl (e, h))
    from (Some k) e h = inr (a, lex, inr (k, e, h))

-- nothing is passed over at the end of a rule
pub passed_end : (g : Grammar) (c : Place) → c.dot ≡ length (items g c.rule) → IsPassed g c → ⊥
passed_end g c end (inl h) = let lt = get_lt (items g c.rule) c.dot (Non h.0 h.1.1) h.1.2 in omega (arith, end)
passed_end g c end (inr h) = let lt = get_lt (items g c.rule) c.dot h.1.0 h.1.1 in omega (arith, end)

-- what was spelt stays so where letters are appended
spelt_more : (letters more : List ℕ) (from end : ℕ) (f : List ℕ) → IsSpelt letters from end f → IsSpelt (letters ++ more) from end f
spelt_more letters more from end f h = record {
  some = h.some;
  within = (let e = length-append letters more in let le = h.within in omega (arith, e, le));
  is = slice_longer letters more from end (let lt = h.some in omega (arith, lt)) h.within ∙ h.is;
}

stand_more : (g : Grammar) (letters more : List ℕ) (c : Place) (stand : Stand) → IsStand g letters c stand → IsStand g (letters ++ more) c stand
stand_more g letters more c (AtEnd n) h = h
stand_more g letters more c (AtNon n) h = h
stand_more g letters more c (AtWord from end) h = (h.0, h.1, h.2, spelt_more letters more from end h.0 h.3)
stand_more g letters more c (AtTerm t) h = h
stand_more g letters more c (AtSkip k) h = h

pub row_more : (g : Grammar) (letters more : List ℕ) (c : Place) (row : Row) → IsRow g letters c row → IsRow g (letters ++ more) c row
row_more g letters more c row h = record { stand = stand_more g letters more c row.stand h.stand; base = h.base; next = h.next; passes = h.passes }

-- one row more
pub rows_more : (g : Grammar) (letters more new : List ℕ) (count : ℕ) (rows : List Row) (place : Place) (row : Row) → AreRows g letters count rows → new ≡ letters ++ more → IsNumber g count place → IsRow g new place row → AreRows g new (count + 1) (rows ++ row ∷ [])
rows_more g letters more new count rows place row known is num here = record {
  counted = (let e = length-append rows (row ∷ []) in let f = known.counted in omega (arith, e, f));
  each = each;
}
  where
    each : (k : ℕ) (c : Place) → k < count + 1 → IsNumber g k c → IsRow g new c (row_at (rows ++ row ∷ []) k)
    each k c lt num_c = elim (cases_eq k count) [
      | inl e ↦
          let at : row_at (rows ++ row ∷ []) k ≡ row = get_or_at rows row [] no_row k (known.counted ∙ sym e) in
          let same : c ≡ place = one_place g count c place (subst (λ n. IsNumber g n c) e num_c) num in
          subst (λ r. IsRow g new c r) (sym at) (subst (λ d. IsRow g new d row) (sym same) here)
      | inr ne ↦
          let below : k < count = omega arith in
          let within : k < length rows = let f = known.counted in omega (arith, f) in
          subst (λ r. IsRow g new c r) (sym (get_or_append_left rows (row ∷ []) no_row k within)) (subst (λ l. IsRow g l c (row_at rows k)) (sym is) (row_more g letters more c (row_at rows k) (known.each k c below num_c)))
    ]

pub rows_none : (g : Grammar) (letters : List ℕ) → AreRows g letters 0 []
rows_none g letters = record { counted = refl; each = λ k c lt num. absurd (omega (arith, lt)) }

-- a test of one fact is a test of another that holds exactly where it does
pub iff_then : {P Q R : Type 0} → P ↔ Q → R ↔ Q → P ↔ R
iff_then a b = ((λ h. b.1 (a.0 h)), (λ h. a.1 (b.0 h)))

-- the row of a place before or inside an item
pub row_made : (g : Grammar) (letters : List ℕ) (c : Place) (item : GItem) (row : Row) → IsPlace g c → ItemAt g c.rule c.dot item → IsKind letters item row.stand → IsNumber g row.base (at_dot c.rule c.dot) → IsNumber g row.next (next_of c) → IsTrue row.passes ↔ IsPassed g c → IsRow g letters c row
row_made g letters c item row place at kind base next passes = record { stand = kind_stand g letters c item row.stand place at kind; base = base; next = λ other there. next; passes = passes }
