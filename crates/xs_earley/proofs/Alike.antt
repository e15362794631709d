-- Symbols of one atom: an item leads to the same by each of them.
use Rattle.std.proofs.Common.{◌≡◌, ℕ, ◌+◌, ◌<◌, ◌&&◌, not, List, [], ◌∷◌, ◌++◌, length, Option, Some, None, if◌then◌else◌, refl, sym, ◌∙◌, ap, subst, arith, inl, inr}
use Rattle.std.specs.Prelude.{Contains, slice_get, slice_index_or, nat_eq, IfSome}
use Rattle.std.proofs.lemmas.Bool.{cases_eq, ne_eqb}
use Rattle.xs_class.proofs.Lists.{some_same, first_in, rest_in, contains_of}
use Rattle.xs_chart.specs.declared.item.Item.{Item}
use Rattle.xs_regex.specs.declared.position.Position.{Position}
use Rattle.xs_gram.specs.Grammar.{Grammar, term_of, skip_of}
use Rattle.xs_gram.specs.Sound.{IsBuilt}
use Rattle.xs_gram.specs.Places.{all_places}
use Rattle.xs_gram.specs.declared.places.Place.{Place}
use Rattle.xs_atoms.specs.declared.atoms.Atoms.{Atoms}
use Rattle.xs_atoms.specs.Alphabet.{AreAtoms, atom_of, class_has, term_classes, skip_classes}
use Rattle.xs_atoms.specs.Fixed.{IsFixed}
use Rattle.xs_chart_laws.proofs.Words.{get_some}
use Rattle.xs_chart_laws.specs.Charts.{IsNumber}
use Rattle.xs_earley.specs.declared.facts.Facts.{Facts}
use Rattle.xs_earley.specs.declared.rows.Stand.{Stand}
use Rattle.xs_earley.specs.declared.rows.Stand.TheVariants.{AtEnd, AtNon, AtWord, AtTerm, AtSkip}
use Rattle.xs_earley.specs.Facts.{row_at, IsStand, AreFacts, IsAtom}
use Rattle.xs_earley.specs.Arriving.{gathered, at_has, positions_at, entered, lex_due, is_letter, due_at, begun_at, item_due, item_begun}
use Rattle.xs_earley.proofs.Arrivals.{letter_spelt, spelt_length, term_told, skip_told}

-- what is alike by each element is alike by all
pub gathered_alike : {A B : Type 0} (f h : A → List B) (xs : List A) → ((x : A) → Contains xs x → f x ≡ h x) → gathered f xs ≡ gathered h xs
gathered_alike f h [] same = refl
gathered_alike f h (x ∷ xs) same = ap (λ l. l ++ gathered f xs) (same x (first_in x xs)) ∙ ap (λ l. h x ++ l) (gathered_alike f h xs (λ y there. same y (rest_in x xs y there)))

-- a letter is one symbol exactly where it is the other, if it is neither or the two are the same where it is one of them
letter_alike : (o : Option ℕ) (s t : ℕ) → ((x : ℕ) → o ≡ Some x → x ≡ s → s ≡ t) → ((x : ℕ) → o ≡ Some x → x ≡ t → t ≡ s) → is_letter o s ≡ is_letter o t
letter_alike None s t there back = refl
letter_alike (Some x) s t there back = elim (cases_eq x s) [
  | inl e ↦ ap (λ y. nat_eq x y) (there x refl e)
  | inr ne ↦ elim (cases_eq x t) [
    | inl e ↦ ap (λ y. nat_eq x y) (sym (back x refl e))
    | inr other ↦ ne_eqb x s ne ∙ sym (ne_eqb x t other)
  ]
]

module _ (g : Grammar) (f : Facts) (built : IsBuilt g) (facts : AreFacts g f) (atoms : Atoms) (told : f.atoms ≡ Some atoms) (s t : ℕ) (same : atom_of atoms s ≡ atom_of atoms t) where
  exact : AreAtoms g atoms
  exact = subst (λ o. IfSome o (AreAtoms g)) told facts.atoms

  own_atom : (x atom : ℕ) → atom ≡ atom_of atoms x → IsAtom f x atom
  own_atom x atom is others e = is ∙ ap (λ (a : Atoms). atom_of a x) (some_same f.atoms atoms others told e)

  lex_alike : (a : Position) (state base origin : ℕ) → ((k : ℕ) → Contains (positions_at a state base) k → at_has a k s ≡ at_has a k t) → lex_due a s state base origin ≡ lex_due a t state base origin
  lex_alike a state base origin each = gathered_alike (entered a s base origin) (entered a t base origin) (positions_at a state base) (λ k h. ap (λ b. if b then record { state = base + 1 + k; origin = origin } ∷ [] else []) (each k h))

  -- a fixed word's symbol has an atom of its own
  fixed_alike : (c : Place) (from end : ℕ) → IsStand g f.letters.items c (AtWord from end) → is_letter (slice_get f.letters.items from) s ≡ is_letter (slice_get f.letters.items from) t
  fixed_alike c from end k = letter_alike (slice_get f.letters.items from) s t (λ x e is. sym (exact.fixed t s (fixed s (e ∙ ap (λ y. Some y) is)) (sym same))) (λ x e is. sym (exact.fixed s t (fixed t (e ∙ ap (λ y. Some y) is)) same))
    where
      fixed : (x : ℕ) → slice_get f.letters.items from ≡ Some x → IsFixed g x
      fixed x e =
          let some = k.3.some in
          let long = spelt_length f.letters.items from end k.0 k.3 in
          let plus : from + 0 ≡ from = omega arith in
          let at : slice_get k.0 0 ≡ Some x = letter_spelt f.letters.items from end k.0 0 x k.3 (omega (arith, some, long)) (subst (λ n. slice_get f.letters.items n ≡ Some x) (sym plus) e) in
          record { rule = c.rule; dot = c.dot; word = k.0; item = k.2; among = contains_of k.0 0 x at }

  module _ (item : Item) (lt : item.state < length (all_places g)) where
    there : (c : Place) × IsNumber g item.state c
    there = get_some (all_places g) item.state lt

    -- an automaton whose classes tell of a symbol whether a position has it has both there or neither
    lex_told : (p : Position) (classes : List ℕ) (k : ℕ) → ((x atom : ℕ) → IsAtom f x atom → class_has atoms (slice_index_or classes k 0) atom ≡ at_has p k x) → at_has p k s ≡ at_has p k t
    lex_told p classes k tells = sym (tells s (atom_of atoms s) (own_atom s (atom_of atoms s) refl)) ∙ tells t (atom_of atoms s) (own_atom t (atom_of atoms s) same)

    term_alike : (term k : ℕ) → (row_at f.rows.items item.state).stand ≡ AtTerm term → Contains (positions_at (term_of g term).automaton item.state (row_at f.rows.items item.state).base) k → at_has (term_of g term).automaton k s ≡ at_has (term_of g term).automaton k t
    term_alike term k e h = lex_told (term_of g term).automaton (term_classes atoms term) k (λ x atom own. term_told g f built facts item.state lt term x atom (term_classes atoms term) e own (λ a is. ap (λ (y : Atoms). term_classes y term) (some_same f.atoms atoms a told is)) k h atoms told)

    skip_alike : (skip k : ℕ) → (row_at f.rows.items item.state).stand ≡ AtSkip skip → Contains (positions_at (skip_of g skip).automaton item.state (row_at f.rows.items item.state).base) k → at_has (skip_of g skip).automaton k s ≡ at_has (skip_of g skip).automaton k t
    skip_alike skip k e h = lex_told (skip_of g skip).automaton (skip_classes atoms skip) k (λ x atom own. skip_told g f built facts item.state lt skip x atom (skip_classes atoms skip) e own (λ a is. ap (λ (y : Atoms). skip_classes y skip) (some_same f.atoms atoms a told is)) k h atoms told)

    stands : IsStand g f.letters.items there.0 (row_at f.rows.items item.state).stand
    stands = (facts.rows.each item.state there.0 lt there.1).stand

    pub due_alike : item_due g f s item ≡ item_due g f t item
    due_alike = by (row_at f.rows.items item.state).stand refl stands
      where
        by : (stand : Stand) → (row_at f.rows.items item.state).stand ≡ stand → IsStand g f.letters.items there.0 stand → due_at g f.letters.items s item (row_at f.rows.items item.state) stand ≡ due_at g f.letters.items t item (row_at f.rows.items item.state) stand
        by (AtEnd n) e k = refl
        by (AtNon n) e k = refl
        by (AtWord from end) e k = ap (λ b. if b && nat_eq (from + 1) end then record { state = (row_at f.rows.items item.state).next; origin = item.origin } ∷ [] else []) (fixed_alike there.0 from end k)
        by (AtTerm term) e k = lex_alike (term_of g term).automaton item.state (row_at f.rows.items item.state).base item.origin (λ n h. term_alike term n e h)
        by (AtSkip skip) e k = lex_alike (skip_of g skip).automaton item.state (row_at f.rows.items item.state).base item.origin (λ n h. skip_alike skip n e h)

    pub begun_alike : item_begun f s item ≡ item_begun f t item
    begun_alike = by (row_at f.rows.items item.state).stand stands
      where
        by : (stand : Stand) → IsStand g f.letters.items there.0 stand → begun_at f.letters.items s item stand ≡ begun_at f.letters.items t item stand
        by (AtEnd n) k = refl
        by (AtNon n) k = refl
        by (AtWord from end) k = ap (λ b. if b && not (nat_eq (from + 1) end) then record { state = item.state; origin = item.origin; count = 1 } ∷ [] else []) (fixed_alike there.0 from end k)
        by (AtTerm term) k = refl
        by (AtSkip skip) k = refl
