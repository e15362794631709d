-- A state whose mask has no bit for the atom of a symbol does not go on by it.
use Rattle.std.proofs.Common.{not, ◌≡◌, ℕ, ◌+◌, ◌-◌, ◌*◌, ◌/◌, ◌<◌, ◌≤◌, ◌^◌, ◌%◌, Bool, true, false, List, [], ◌∷◌, ◌++◌, length, get_or, take, max, bit_and, bit_or, Option, Some, if◌then◌else◌, refl, sym, ◌∙◌, ap, subst, arith, inl, inr, append-nil, length-append}
use Rattle.std.specs.Prelude.{Contains, slice_get, slice_index_or, IsTrue, IfSome, nat_eq, ◌&&◌}
use Rattle.std.specs.Int.{bit_at}
use Rattle.std.proofs.lemmas.Bool.{cases_eq, cases_lt, eqb-true, eq-eqb, ne_eqb, false≢true}
use Rattle.std.proofs.lemmas.List.{take_more, get_or_past, get_or_append_left, get_or_at}
use Rattle.std.proofs.lemmas.List.Elements.{Contains-get_or, Contains-push_cases}
use Rattle.std.proofs.lemmas.Nat.{shl_whole}
use Rattle.std.proofs.lemmas.Nat.Bits.{bit_at-lt, bit_at_or, bit_at-pow_same, bit_at_ones, shr_and_one}
use Rattle.xs_class.proofs.Lists.{some_same, first_in, rest_in}
use Rattle.xs_chart.specs.declared.item.Item.{Item}
use Rattle.xs_regex.specs.declared.position.Position.{Position}
use Rattle.xs_gram.specs.Grammar.{Grammar, term_of, skip_of}
use Rattle.xs_gram.specs.Sound.{IsBuilt}
use Rattle.xs_gram.specs.Places.{all_places}
use Rattle.xs_atoms.specs.declared.atoms.Atoms.{Atoms}
use Rattle.xs_atoms.specs.Alphabet.{AreAtoms, atom_of, count_of, class_has, term_classes, skip_classes}
use Rattle.xs_earley.specs.declared.begun.Begun.{Begun}
use Rattle.xs_earley.specs.declared.facts.Facts.{Facts}
use Rattle.xs_earley.specs.declared.rows.Stand.{Stand}
use Rattle.xs_earley.specs.declared.rows.Stand.TheVariants.{AtEnd, AtNon, AtWord, AtTerm, AtSkip}
use Rattle.xs_earley.specs.Facts.{row_at, AreFacts, IsAtom}
use Rattle.xs_earley.specs.Arriving.{gathered, at_has, positions_at, entered, lex_due, is_letter, due_at, begun_at, item_due, item_begun}
use Rattle.xs_earley.specs.Masks.{has_bit, mask_of, AreClassMasks, IsMask, AreMasks}
use Rattle.xs_earley.proofs.Arrivals.{gathered_past, term_told, skip_told}

-- bits

greatest_left : (x y : ℕ) → x ≡ 1 → y < 2 → max x y ≡ 1
greatest_left x y e lt = omega (arith, e, lt)

greatest_right : (x y : ℕ) → x < 2 → y ≡ 1 → max x y ≡ 1
greatest_right x y lt e = omega (arith, e, lt)

pub bit_left : (a b n : ℕ) → IsTrue (has_bit a n) → IsTrue (has_bit (bit_or a b) n)
bit_left a b n h = eq-eqb (bit_at (bit_or a b) (n % 64)) 1 (bit_at_or a b (n % 64) ∙ greatest_left (bit_at a (n % 64)) (bit_at b (n % 64)) (eqb-true (bit_at a (n % 64)) 1 h) (bit_at-lt b (n % 64)))

pub bit_right : (a b n : ℕ) → IsTrue (has_bit b n) → IsTrue (has_bit (bit_or a b) n)
bit_right a b n h = eq-eqb (bit_at (bit_or a b) (n % 64)) 1 (bit_at_or a b (n % 64) ∙ greatest_right (bit_at a (n % 64)) (bit_at b (n % 64)) (bit_at-lt a (n % 64)) (eqb-true (bit_at b (n % 64)) 1 h))

pub bit_own : (n : ℕ) → IsTrue (has_bit (1 * 2 ^ (n % 64) % 2 ^ 64) n)
bit_own n =
    let whole : 1 * 2 ^ (n % 64) % 2 ^ 64 ≡ 1 * 2 ^ (n % 64) = shl_whole 1 1 (n % 64) 64 (omega arith) (omega arith) in
    let one : 1 * 2 ^ (n % 64) ≡ 2 ^ (n % 64) = omega arith in
    eq-eqb (bit_at (1 * 2 ^ (n % 64) % 2 ^ 64) (n % 64)) 1 (ap (λ m. bit_at m (n % 64)) (whole ∙ one) ∙ bit_at-pow_same (n % 64))

-- the test that the code makes
pub bit_held : (mask n : ℕ) → nat_eq (bit_and (mask / 2 ^ (n % 64)) 1) 1 ≡ has_bit mask n
bit_held mask n = ap (λ b. nat_eq b 1) (shr_and_one mask (n % 64))

pub bit_full : (n : ℕ) → has_bit (2 ^ 64 - 1) n ≡ false → ⊥
bit_full n none = false≢true (sym none ∙ eq-eqb (bit_at (2 ^ 64 - 1) (n % 64)) 1 (bit_at_ones 64 (n % 64) (omega arith)))

-- what holds only where a bit is set does not hold where it is not
pub kept_out : (b bit : Bool) → (IsTrue b → IsTrue bit) → bit ≡ false → b ≡ false
kept_out true bit h none = absurd (false≢true (sym none ∙ h refl))
kept_out false bit h none = refl

-- masks of classes

pub classes_none : (atoms : Atoms) → AreClassMasks atoms []
classes_none atoms class atom lt has = all (has_bit (2 ^ 64 - 1) atom) refl
  where
    all : (b : Bool) → has_bit (2 ^ 64 - 1) atom ≡ b → IsTrue (has_bit (2 ^ 64 - 1) atom)
    all true e = e
    all false e = absurd (bit_full atom e)

pub classes_more : (atoms : Atoms) (masks : List ℕ) (count mask : ℕ) → length masks ≡ count → ((atom : ℕ) → atom < count_of atoms → IsTrue (class_has atoms count atom) → IsTrue (has_bit mask atom)) → AreClassMasks atoms masks → AreClassMasks atoms (masks ++ mask ∷ [])
classes_more atoms masks count mask counted own known class atom lt has = elim (cases_lt class count) [
  | inl below ↦ subst (λ m. IsTrue (has_bit m atom)) (sym (get_or_append_left masks (mask ∷ []) (2 ^ 64 - 1) class (omega (arith, counted, below)))) (known class atom lt has)
  | inr over ↦ elim (cases_eq class count) [
    | inl e ↦ subst (λ m. IsTrue (has_bit m atom)) (sym (get_or_at masks mask [] (2 ^ 64 - 1) class (counted ∙ sym e))) (own atom lt (subst (λ k. IsTrue (class_has atoms k atom)) e has))
    | inr ne ↦ subst (λ m. IsTrue (has_bit m atom)) (sym (get_or_past (masks ++ mask ∷ []) class (2 ^ 64 - 1) (let long = length-append masks (mask ∷ []) in omega (arith, long, counted, over, ne)))) (classes_none atoms class atom lt has)
  ]
]

-- one position more
pub positions_more : (bits : ℕ → ℕ) (positions : List ℕ) (n old new : ℕ) → n < length positions → ((k atom : ℕ) → Contains (take n positions) k → IsTrue (has_bit (bits k) atom) → IsTrue (has_bit old atom)) → ((atom : ℕ) → IsTrue (has_bit old atom) → IsTrue (has_bit new atom)) → ((atom : ℕ) → IsTrue (has_bit (bits (get_or positions n 0)) atom) → IsTrue (has_bit new atom)) → (k atom : ℕ) → Contains (take (n + 1) positions) k → IsTrue (has_bit (bits k) atom) → IsTrue (has_bit new atom)
positions_more bits positions n old new lt before first second k atom h has = elim (Contains-push_cases (take n positions) (get_or positions n 0) k (subst (λ (l : List ℕ). Contains l k) (take_more positions n 0 lt) h)) [
  | inl x ↦ first atom (before k atom x has)
  | inr e ↦ second atom (subst (λ j. IsTrue (has_bit (bits j) atom)) (sym e) has)
]

-- what is not gathered

no_if : {A : Type 0} (b : Bool) (x : A) → b ≡ false → (if b then x ∷ [] else []) ≡ []
no_if true x e = absurd (false≢true (sym e))
no_if false x e = refl

gathered_none : {A B : Type 0} (f : A → List B) (xs : List A) → ((x : A) → Contains xs x → f x ≡ []) → gathered f xs ≡ []
gathered_none f [] none = refl
gathered_none {A} {B} f (x ∷ xs) none = ap (λ (l : List B). l ++ gathered f xs) (none x (first_in x xs)) ∙ gathered_none f xs (λ y h. none y (rest_in x xs y h))

lex_none : (a : Position) (s state base origin : ℕ) → ((k : ℕ) → Contains (positions_at a state base) k → at_has a k s ≡ false) → lex_due a s state base origin ≡ []
lex_none a s state base origin none = gathered_none (entered a s base origin) (positions_at a state base) (λ k h. no_if {A = Item} (at_has a k s) (record { state = base + 1 + k; origin = origin }) (none k h))

-- masks of states
module _ (g : Grammar) (f : Facts) (state mask : ℕ) where
  pub end_idle : (non : ℕ) → (row_at f.rows.items state).stand ≡ AtEnd non → IsMask g f state mask
  end_idle non e s atom origin is none = (
    ap (λ (st : Stand). due_at g f.letters.items s (record { state = state; origin = origin }) (row_at f.rows.items state) st) e,
    ap (λ (st : Stand). begun_at f.letters.items s (record { state = state; origin = origin }) st) e,
  )

  pub non_idle : (non : ℕ) → (row_at f.rows.items state).stand ≡ AtNon non → IsMask g f state mask
  non_idle non e s atom origin is none = (
    ap (λ (st : Stand). due_at g f.letters.items s (record { state = state; origin = origin }) (row_at f.rows.items state) st) e,
    ap (λ (st : Stand). begun_at f.letters.items s (record { state = state; origin = origin }) st) e,
  )

  pub full_idle : mask ≡ 2 ^ 64 - 1 → IsMask g f state mask
  full_idle e s atom origin is none = absurd (bit_full atom (subst (λ m. has_bit m atom ≡ false) e none))

  module _ (atoms : Atoms) (at : f.atoms ≡ Some atoms) where
    pub word_idle : (from end : ℕ) → (row_at f.rows.items state).stand ≡ AtWord from end → ((s : ℕ) → has_bit mask (atom_of atoms s) ≡ false → is_letter (slice_get f.letters.items from) s ≡ false) → IsMask g f state mask
    word_idle from end e keeps s atom origin is none =
        let out : is_letter (slice_get f.letters.items from) s ≡ false = keeps s (subst (λ n. has_bit mask n ≡ false) (is atoms at) none) in (
          ap (λ (st : Stand). due_at g f.letters.items s (record { state = state; origin = origin }) (row_at f.rows.items state) st) e ∙ no_if {A = Item} (is_letter (slice_get f.letters.items from) s && nat_eq (from + 1) end) (record { state = (row_at f.rows.items state).next; origin = origin }) (ap (λ b. b && nat_eq (from + 1) end) out),
          ap (λ (st : Stand). begun_at f.letters.items s (record { state = state; origin = origin }) st) e ∙ no_if {A = Begun} (is_letter (slice_get f.letters.items from) s && not (nat_eq (from + 1) end)) (record { state = state; origin = origin; count = 1 }) (ap (λ b. b && not (nat_eq (from + 1) end)) out),
        )

    module _ (built : IsBuilt g) (facts : AreFacts g f) (lt : state < length (all_places g)) (masks : List ℕ) (known : AreClassMasks atoms masks) where
      -- a class whose bits are all in the mask does not have an atom that is not
      class_out : (class s atom : ℕ) → IsAtom f s atom → ((n : ℕ) → IsTrue (has_bit (mask_of masks class) n) → IsTrue (has_bit mask n)) → has_bit mask atom ≡ false → class_has atoms class atom ≡ false
      class_out class s atom is covers none =
          let exact : AreAtoms g atoms = subst (λ o. IfSome o (AreAtoms g)) at facts.atoms in
          let below : atom < count_of atoms = subst (λ n. n < count_of atoms) (sym (is atoms at)) (exact.below s) in
          kept_out (class_has atoms class atom) (has_bit mask atom) (λ h. covers atom (known class atom below h)) none

      -- an automaton whose classes tell of each symbol which positions have it does not go on by such an atom, where the mask has all their bits
      lex_idle : (p : Position) (classes : List ℕ) → ((s atom : ℕ) → IsAtom f s atom → (k : ℕ) → Contains (positions_at p state (row_at f.rows.items state).base) k → class_has atoms (slice_index_or classes k 0) atom ≡ at_has p k s)
          → ((k n : ℕ) → Contains (positions_at p state (row_at f.rows.items state).base) k → IsTrue (has_bit (mask_of masks (slice_index_or classes k 0)) n) → IsTrue (has_bit mask n)) → (s atom origin : ℕ) → IsAtom f s atom → has_bit mask atom ≡ false → lex_due p s state (row_at f.rows.items state).base origin ≡ []
      lex_idle p classes told covers s atom origin is none = lex_none p s state (row_at f.rows.items state).base origin (λ k h. sym (told s atom is k h) ∙ class_out (slice_index_or classes k 0) s atom is (λ n. covers k n h) none)

      pub term_idle : (term : ℕ) → (row_at f.rows.items state).stand ≡ AtTerm term → ((k n : ℕ) → Contains (positions_at (term_of g term).automaton state (row_at f.rows.items state).base) k → IsTrue (has_bit (mask_of masks (slice_index_or (term_classes atoms term) k 0)) n) → IsTrue (has_bit mask n)) → IsMask g f state mask
      term_idle term e covers s atom origin is none =
          let told = λ (x y : ℕ) (own : IsAtom f x y) (k : ℕ) (h : Contains (positions_at (term_of g term).automaton state (row_at f.rows.items state).base) k). term_told g f built facts state lt term x y (term_classes atoms term) e own (λ other o. ap (λ (a : Atoms). term_classes a term) (some_same f.atoms atoms other at o)) k h atoms at in (
            ap (λ (st : Stand). due_at g f.letters.items s (record { state = state; origin = origin }) (row_at f.rows.items state) st) e ∙ lex_idle (term_of g term).automaton (term_classes atoms term) told covers s atom origin is none,
            ap (λ (st : Stand). begun_at f.letters.items s (record { state = state; origin = origin }) st) e,
          )

      pub skip_idle : (skip : ℕ) → (row_at f.rows.items state).stand ≡ AtSkip skip → ((k n : ℕ) → Contains (positions_at (skip_of g skip).automaton state (row_at f.rows.items state).base) k → IsTrue (has_bit (mask_of masks (slice_index_or (skip_classes atoms skip) k 0)) n) → IsTrue (has_bit mask n)) → IsMask g f state mask
      skip_idle skip e covers s atom origin is none =
          let told = λ (x y : ℕ) (own : IsAtom f x y) (k : ℕ) (h : Contains (positions_at (skip_of g skip).automaton state (row_at f.rows.items state).base) k). skip_told g f built facts state lt skip x y (skip_classes atoms skip) e own (λ other o. ap (λ (a : Atoms). skip_classes a skip) (some_same f.atoms atoms other at o)) k h atoms at in (
            ap (λ (st : Stand). due_at g f.letters.items s (record { state = state; origin = origin }) (row_at f.rows.items state) st) e ∙ lex_idle (skip_of g skip).automaton (skip_classes atoms skip) told covers s atom origin is none,
            ap (λ (st : Stand). begun_at f.letters.items s (record { state = state; origin = origin }) st) e,
          )

-- the letter that stands at a place has its bit
pub letter_out : (atoms : Atoms) (o : Option ℕ) (letter mask s : ℕ) → o ≡ Some letter → IsTrue (has_bit mask (atom_of atoms letter)) → has_bit mask (atom_of atoms s) ≡ false → is_letter o s ≡ false
letter_out atoms o letter mask s e has none =
    ap (λ p. is_letter p s) e ∙ ne_eqb letter s (λ same. false≢true (sym none ∙ subst (λ n. IsTrue (has_bit mask (atom_of atoms n))) same has))

pub masks_none : (g : Grammar) (f : Facts) → AreMasks g f 0 []
masks_none g f = record { counted = refl; each = λ state lt. absurd (omega (arith, lt)) }

pub masks_more : (g : Grammar) (f : Facts) (count mask : ℕ) (masks : List ℕ) → AreMasks g f count masks → IsMask g f count mask → AreMasks g f (count + 1) (masks ++ mask ∷ [])
masks_more g f count mask masks known here = record {
  counted = (let e = length-append masks (mask ∷ []) in let n = known.counted in omega (arith, e, n));
  each = λ state lt. elim (cases_eq state count) [
    | inl e ↦ subst (λ k. IsMask g f k (slice_index_or (masks ++ mask ∷ []) k 0)) (sym e) (subst (λ m. IsMask g f count m) (sym (get_or_at masks mask [] 0 count known.counted)) here)
    | inr ne ↦
        let below : state < count = omega arith in
        subst (λ m. IsMask g f state m) (sym (get_or_append_left masks (mask ∷ []) 0 state (let n = known.counted in omega (arith, n, below)))) (known.each state below)
  ];
}

-- of all bits
pub masks_full : (g : Grammar) (f : Facts) (count : ℕ) (masks : List ℕ) → length masks ≡ count → ((k : ℕ) → k < count → slice_index_or masks k 0 ≡ 2 ^ 64 - 1) → AreMasks g f count masks
masks_full g f count masks counted full = record { counted = counted; each = λ state lt. full_idle g f state (slice_index_or masks state 0) (full state lt) }

-- an item of a state whose mask has no bit for the symbol's atom leads to nothing
pub item_idle : (g : Grammar) (f : Facts) (count : ℕ) (masks : List ℕ) → AreMasks g f count masks → (s atom : ℕ) (item : Item) → item.state < count → IsAtom f s atom → has_bit (slice_index_or masks item.state 0) atom ≡ false → (item_due g f s item ≡ []) × (item_begun f s item ≡ [])
item_idle g f count masks known s atom item lt is none = known.each item.state lt s atom item.origin is none

pub nothing_more : {A : Type 0} (xs ys : List A) → ys ≡ [] → xs ≡ xs ++ ys
nothing_more {A} xs ys none = sym (ap (λ (l : List A). xs ++ l) none ∙ append-nil xs)

-- items without the bit of the atom lead to nothing, one after another
pub idle_past : (g : Grammar) (f : Facts) (masks : List ℕ) → AreMasks g f (length (all_places g)) masks → (s atom : ℕ) → IsAtom f s atom → (xs : List Item) → ((item : Item) → Contains xs item → item.state < length (all_places g)) → (from end : ℕ) → from ≤ end → end ≤ length xs → ((k : ℕ) (d : Item) → from ≤ k → k < end → has_bit (slice_index_or masks (slice_index_or xs k d).state 0) atom ≡ false) → (gathered (item_due g f s) (take end xs) ≡ gathered (item_due g f s) (take from xs)) × (gathered (item_begun f s) (take end xs) ≡ gathered (item_begun f s) (take from xs))
idle_past g f masks known s atom is xs states from end le within none =
    let d : Item = record { state = 0; origin = 0 } in
    let idle = λ (k : ℕ) (ge : from ≤ k) (lt : k < end). item_idle g f (length (all_places g)) masks known s atom (get_or xs k d) (states (get_or xs k d) (Contains-get_or xs k d (omega (arith, lt, within)))) is (none k d ge lt) in
    (gathered_past (item_due g f s) xs from end d le within (λ k ge lt. (idle k ge lt).0), gathered_past (item_begun f s) xs from end d le within (λ k ge lt. (idle k ge lt).1))
