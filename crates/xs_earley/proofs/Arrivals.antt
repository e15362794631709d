-- What is gathered by a symbol is what arrives by it.
use Rattle.std.proofs.Common.{◌≡◌, ◌≢◌, ℕ, zero, suc, ◌+◌, ◌-◌, ◌<◌, ◌≤◌, ◌^◌, Bool, true, false, not, List, [], ◌∷◌, ◌++◌, length, take, drop, get_or, Option, Some, None, if◌then◌else◌, refl, sym, ◌∙◌, ap, subst, arith, ◌⊎◌, inl, inr, ◌↔◌, append_assoc, append-nil, length-drop}
use Rattle.std.specs.Prelude.{Contains, slice_get, slice_index_or, IsTrue, IsSomeAnd, IfSome, nat_le, nat_eq, ◌&&◌}
use Rattle.std.proofs.lemmas.Bool.{cases_eq, cases_lt, eqb-true, eqb-false, eq-eqb, ne_eqb, leb-true, le-leb, and_parts, and_from, or_cases, or_left, or_right, false≢true, true≢false}
use Rattle.std.proofs.lemmas.List.{take_more, take_all, get_or_past, length-take-le}
use Rattle.std.proofs.lemmas.List.Elements.{Contains-append_left, Contains-append_right, Contains-append_cases}
use Rattle.std.proofs.lemmas.Option.{slice_get-get_or, get_or_from_slice_get}
use Rattle.xs_class.specs.Classes.{Has}
use Rattle.xs_class.proofs.Lists.{some_same, first_in, rest_in, get_of, get_last, get_drop}
use Rattle.xs_chart.specs.declared.item.Item.{Item}
use Rattle.xs_chart.specs.Charted.{set_limit}
use Rattle.xs_regex.specs.declared.position.Position.{Position}
use Rattle.xs_regex.specs.Automaton.{HasAt, Leads, IsWellFormed}
use Rattle.xs_gram.specs.declared.parts.GItem.TheVariants.{Fixed, Term, Non, Skip}
use Rattle.xs_gram.specs.declared.places.Place.{Place}
use Rattle.xs_gram.specs.Grammar.{Grammar, term_of, skip_of, items, ItemAt}
use Rattle.xs_gram.specs.Sound.{IsBuilt}
use Rattle.xs_gram.specs.Chart.{Stands}
use Rattle.xs_gram.specs.Places.{at_dot, at_inside, all_places}
use Rattle.xs_gram.proofs.Numbers.{place_once, number_inside, listed_is_place, as_dot}
use Rattle.xs_atoms.specs.declared.atoms.Atoms.{Atoms}
use Rattle.xs_atoms.specs.Alphabet.{AreAtoms, atom_of, class_has, term_classes, skip_classes}
use Rattle.xs_chart_laws.specs.Steps.{next_of, HasAutomaton, GoesBy, Arrives}
use Rattle.xs_chart_laws.specs.Reading.{Reads}
use Rattle.xs_chart_laws.specs.Charts.{IsNumber, set_at, IsChartOf}
use Rattle.xs_chart_laws.specs.Next.{IsDue, IsBegun}
use Rattle.xs_chart_laws.proofs.Words.{get_lt, get_some, Reads-is}
use Rattle.xs_chart_laws.proofs.Numbers.{inside_place}
use Rattle.xs_chart_laws.proofs.Settling.{one_of_place, automaton_once, automaton_not_non, automaton_not_fixed, same_word}
use Rattle.xs_chart_laws.proofs.Nexts.{begun_on, begun_due, begun_read, begun_before}
use Rattle.xs_earley.specs.declared.begun.Begun.{Begun}
use Rattle.xs_earley.specs.declared.facts.Facts.{Facts}
use Rattle.xs_earley.specs.declared.rows.Row.{Row}
use Rattle.xs_earley.specs.declared.rows.Stand.{Stand}
use Rattle.xs_earley.specs.declared.rows.Stand.TheVariants.{AtEnd, AtNon, AtWord, AtTerm, AtSkip}
use Rattle.xs_earley.specs.Facts.{row_at, IsSpelt, IsStand, IsRow, AreFacts, IsAtom}
use Rattle.xs_earley.specs.Arriving.{gathered, in_class, at_has, IsTold, positions_at, entered, lex_due, is_letter, word_due, word_begun, due_at, begun_at, item_due, item_begun, rest_due, rest_begun, more_due, more_begun, AreBegun}

-- what is gathered

gathered_append : {A B : Type 0} (f : A → List B) (xs ys : List A) → gathered f (xs ++ ys) ≡ gathered f xs ++ gathered f ys
gathered_append f [] ys = refl
gathered_append f (x ∷ xs) ys = ap (λ l. f x ++ l) (gathered_append f xs ys) ∙ sym (append_assoc (f x) (gathered f xs) (gathered f ys))

-- by one element more
pub gathered_push : {A B : Type 0} (f : A → List B) (xs : List A) (n : ℕ) (d : A) (start old new : List B) → n < length xs → old ≡ start ++ gathered f (take n xs) → new ≡ old ++ f (get_or xs n d) → new ≡ start ++ gathered f (take (n + 1) xs)
gathered_push {A} {B} f xs n d start old new lt before is =
    let one : gathered f (get_or xs n d ∷ []) ≡ f (get_or xs n d) = append-nil (f (get_or xs n d)) in
    is ∙ ap (λ (l : List B). l ++ f (get_or xs n d)) before ∙ append_assoc start (gathered f (take n xs)) (f (get_or xs n d))
    ∙ ap (λ (l : List B). start ++ l) (ap (λ (l : List B). gathered f (take n xs) ++ l) (sym one) ∙ sym (gathered_append f (take n xs) (get_or xs n d ∷ [])) ∙ ap (gathered f) (sym (take_more xs n d lt)))

-- elements that give nothing are passed over
gathered_after : {A B : Type 0} (f : A → List B) (xs : List A) (from count : ℕ) (d : A) → from + count ≤ length xs → ((k : ℕ) → from ≤ k → k < from + count → f (get_or xs k d) ≡ []) → gathered f (take (from + count) xs) ≡ gathered f (take from xs)
gathered_after f xs from zero d within none = (let e : from + zero ≡ from = omega arith in ap (λ n. gathered f (take n xs)) e)
gathered_after {A} {B} f xs from (suc count) d within none =
    let n = from + count in
    let e : from + suc count ≡ n + 1 = omega arith in
    let here : f (get_or xs n d) ≡ [] = none n (omega arith) (omega arith) in
    ap (λ m. gathered f (take m xs)) e ∙ ap (gathered f) (take_more xs n d (omega (arith, within))) ∙ gathered_append f (take n xs) (get_or xs n d ∷ [])
    ∙ ap (λ (l : List B). gathered f (take n xs) ++ l) (append-nil (f (get_or xs n d)) ∙ here) ∙ append-nil (gathered f (take n xs))
    ∙ gathered_after f xs from count d (omega (arith, within)) (λ k ge lt. none k ge (omega (arith, lt)))

pub gathered_past : {A B : Type 0} (f : A → List B) (xs : List A) (from end : ℕ) (d : A) → from ≤ end → end ≤ length xs → ((k : ℕ) → from ≤ k → k < end → f (get_or xs k d) ≡ []) → gathered f (take end xs) ≡ gathered f (take from xs)
gathered_past f xs from end d le within none =
    let e : from + (end - from) ≡ end = omega (arith, le) in
    ap (λ m. gathered f (take m xs)) (sym e) ∙ gathered_after f xs from (end - from) d (omega (arith, le, within)) (λ k ge lt. none k ge (omega (arith, le, lt)))

pub gathered_in : {A B : Type 0} (f : A → List B) (xs : List A) (y : B) → Contains (gathered f xs) y → (x : A) × Contains xs x × Contains (f x) y
gathered_in f [] y h = absurd (omega (arith, h.1))
gathered_in f (x ∷ xs) y h = elim (Contains-append_cases (f x) (gathered f xs) y h) [
  | inl a ↦ (x, first_in x xs, a)
  | inr b ↦ (let r = gathered_in f xs y b in (r.0, rest_in x xs r.0 r.1, r.2))
]

gathered_at : {A B : Type 0} (f : A → List B) (xs : List A) (k : ℕ) (x : A) (y : B) → slice_get xs k ≡ Some x → Contains (f x) y → Contains (gathered f xs) y
gathered_at f [] k x y e h = absurd (no e)
  where
    no : None ≡ Some x → ⊥
    no e = cc
gathered_at {A} {B} f (z ∷ xs) zero x y e h = Contains-append_left (f z) (gathered f xs) y (subst (λ (a : A). Contains (f a) y) (sym (same z x e)) h)
  where
    same : (a b : A) → Some a ≡ Some b → a ≡ b
    same a b e = cc
gathered_at f (z ∷ xs) (suc k) x y e h = Contains-append_right (f z) (gathered f xs) y (gathered_at f xs k x y e h)

pub gathered_has : {A B : Type 0} (f : A → List B) (xs : List A) (x : A) (y : B) → Contains xs x → Contains (f x) y → Contains (gathered f xs) y
gathered_has f xs x y there h = let at = get_of xs x there in gathered_at f xs at.0 x y at.1 h

-- one element, where a test holds

pub in_if : {A : Type 0} (b : Bool) (x y : A) → Contains (if b then x ∷ [] else []) y → IsTrue b × (y ≡ x)
in_if true x y h = (refl, by h.0 h.1 h.2)
  where
    by : (k : ℕ) → k < 1 → get_or (x ∷ []) k y ≡ y → y ≡ x
    by zero lt e = sym e
    by (suc k) lt e = absurd (omega (arith, lt))
in_if false x y h = absurd (omega (arith, h.1))

pub if_in : {A : Type 0} (b : Bool) (x : A) → IsTrue b → Contains (if b then x ∷ [] else []) x
if_in true x h = first_in x []
if_in false x h = absurd (false≢true h)

-- tests on letters and classes

letter_is : (o : Option ℕ) (s : ℕ) → IsTrue (is_letter o s) → o ≡ Some s
letter_is None s h = absurd (false≢true h)
letter_is (Some x) s h = ap (λ y. Some y) (eqb-true x s h)

is_letter_of : (o : Option ℕ) (s : ℕ) → o ≡ Some s → IsTrue (is_letter o s)
is_letter_of o s e = subst (λ p. IsTrue (is_letter p s)) (sym e) (eq-eqb s s refl)

not_true : (b : Bool) → IsTrue (not b) → b ≡ false
not_true false h = refl
not_true true h = absurd (false≢true h)

not_false : (b : Bool) → b ≡ false → IsTrue (not b)
not_false false h = refl
not_false true h = absurd (true≢false h)

pub class_in : (class : List (ℕ × ℕ)) (s : ℕ) → IsTrue (in_class class s) ↔ Has class s
class_in [] s = ((λ h. absurd (false≢true h)), (λ h. absurd h))
class_in (r ∷ rs) s = (
  (λ h. elim (or_cases (nat_le r.0 s && nat_le s r.1) (in_class rs s) h) [ inl a ↦ (let b = and_parts (nat_le r.0 s) (nat_le s r.1) a in inl (leb-true r.0 s b.0, leb-true s r.1 b.1)) | inr a ↦ inr ((class_in rs s).0 a) ]),
  (λ h. elim h [ inl a ↦ or_left (nat_le r.0 s && nat_le s r.1) (in_class rs s) (and_from (nat_le r.0 s) (nat_le s r.1) (le-leb r.0 s a.0) (le-leb s r.1 a.1)) | inr a ↦ or_right (nat_le r.0 s && nat_le s r.1) (in_class rs s) ((class_in rs s).1 a) ]),
)

has_in : (o : Option (List (ℕ × ℕ))) (class : List (ℕ × ℕ)) (s : ℕ) → o ≡ Some class → IsSomeAnd o (λ c. Has c s) ↔ Has class s
has_in o class s e = subst (λ p. IsSomeAnd p (λ c. Has c s) ↔ Has class s) (sym e) ((λ h. h), (λ h. h))

has_none : (o : Option (List (ℕ × ℕ))) (s : ℕ) → o ≡ None → IsSomeAnd o (λ c. Has c s) → ⊥
has_none o s e h = subst (λ p. IsSomeAnd p (λ c. Has c s)) e h

pub get_none : {A : Type 0} (xs : List A) (k : ℕ) → length xs ≤ k → slice_get xs k ≡ None
get_none [] k le = refl
get_none (x ∷ xs) zero le = absurd (omega (arith, le))
get_none (x ∷ xs) (suc k) le = get_none xs k (omega (arith, le))

pub at_has_iff : (a : Position) (k s : ℕ) → IsTrue (at_has a k s) ↔ HasAt a k s
at_has_iff a k s = elim (cases_lt k (length a.classes)) [ inl lt ↦ within lt | inr le ↦ beyond le ]
  where
    within : k < length a.classes → IsTrue (at_has a k s) ↔ HasAt a k s
    within lt =
        let class = slice_index_or a.classes k [] in
        let o = has_in (slice_get a.classes k) class s (slice_get-get_or a.classes k [] lt) in
        let c = class_in class s in
        ((λ h. o.1 (c.0 h)), (λ h. c.1 (o.0 h)))

    beyond : length a.classes ≤ k → IsTrue (at_has a k s) ↔ HasAt a k s
    beyond le = (
      (λ h. absurd (false≢true (subst (λ c. IsTrue (in_class c s)) (get_or_past a.classes k [] le) h))),
      (λ h. absurd (has_none (slice_get a.classes k) s (get_none a.classes k le) h)),
    )

leads_row : (a : Position) (j k : ℕ) → Leads a j k ↔ Contains (slice_index_or a.follow j []) k
leads_row a j k = elim (cases_lt j (length a.follow)) [ inl lt ↦ within lt | inr le ↦ beyond le ]
  where
    some_and : (o : Option (List ℕ)) (row : List ℕ) → o ≡ Some row → IsSomeAnd o (λ r. Contains r k) ↔ Contains row k
    some_and o row e = subst (λ p. IsSomeAnd p (λ r. Contains r k) ↔ Contains row k) (sym e) ((λ h. h), (λ h. h))

    none_and : (o : Option (List ℕ)) → o ≡ None → IsSomeAnd o (λ r. Contains r k) → ⊥
    none_and o e h = subst (λ p. IsSomeAnd p (λ r. Contains r k)) e h

    within : j < length a.follow → Leads a j k ↔ Contains (slice_index_or a.follow j []) k
    within lt = some_and (slice_get a.follow j) (slice_index_or a.follow j []) (slice_get-get_or a.follow j [] lt)

    beyond : length a.follow ≤ j → Leads a j k ↔ Contains (slice_index_or a.follow j []) k
    beyond le = (
      (λ h. absurd (none_and (slice_get a.follow j) (get_none a.follow j le) h)),
      (λ h. absurd (omega (arith, (subst (λ (l : List ℕ). Contains l k) (get_or_past a.follow j [] le) h).1))),
    )

-- the automaton may go to a position, whatever its class
abbrev Next : Position → Option ℕ → ℕ → Type 0
Next a None k = Contains a.first k
Next a (Some h) k = Leads a h k

goes_iff : (a : Position) (o : Option ℕ) (s k : ℕ) → GoesBy a o s k ↔ (Next a o k × HasAt a k s)
goes_iff a None s k = ((λ h. h), (λ h. h))
goes_iff a (Some h) s k = ((λ x. x), (λ x. x))

pub has_within : (a : Position) (k s : ℕ) → HasAt a k s → k < length a.classes
has_within a k s h = elim (cases_lt k (length a.classes)) [ inl lt ↦ lt | inr le ↦ absurd (has_none (slice_get a.classes k) s (get_none a.classes k le) h) ]

if_true : {A : Type 0} (b : Bool) (x y : A) → b ≡ true → (if b then x else y) ≡ x
if_true b x y e = subst (λ c. (if c then x else y) ≡ x) (sym e) refl

if_false : {A : Type 0} (b : Bool) (x y : A) → b ≡ false → (if b then x else y) ≡ y
if_false b x y e = subst (λ c. (if c then x else y) ≡ y) (sym e) refl

module _ (g : Grammar) (c : Place) (a : Position) (state base : ℕ) (num : IsNumber g state c) (start : IsNumber g base (at_dot c.rule c.dot)) (lex : HasAutomaton g c a) where
  -- the positions to which the automaton may go from the place
  pub positions_iff : (k : ℕ) → Contains (positions_at a state base) k ↔ Next a c.inside k
  positions_iff k = by c.inside refl
    where
      by : (o : Option ℕ) → c.inside ≡ o → Contains (positions_at a state base) k ↔ Next a o k
      by None e =
          let same : state ≡ base = place_once g c state base num (start ∙ ap (λ x. Some x) (as_dot c e)) in
          let is : positions_at a state base ≡ a.first = if_true (nat_eq state base) a.first (slice_index_or a.follow (state - (base + 1)) []) (eq-eqb state base same) in
          ((λ h. subst (λ (l : List ℕ). Contains l k) is h), (λ h. subst (λ (l : List ℕ). Contains l k) (sym is) h))
      by (Some p) e =
          let at : state ≡ base + 1 + p = place_once g c state (base + 1 + p) num (number_inside g c p base (listed_is_place g c state num) e start) in
          let other : nat_eq state base ≡ false = ne_eqb state base (λ x. omega (arith, x, at)) in
          let row : state - (base + 1) ≡ p = omega (arith, at) in
          let is : positions_at a state base ≡ slice_index_or a.follow p [] = if_false (nat_eq state base) a.first (slice_index_or a.follow (state - (base + 1)) []) other ∙ ap (λ n. slice_index_or a.follow n []) row in
          let leads = leads_row a p k in
          ((λ h. leads.1 (subst (λ (l : List ℕ). Contains l k) is h)), (λ h. subst (λ (l : List ℕ). Contains l k) (sym is) (leads.0 h)))

  -- the number of a position
  pub position_number : (k : ℕ) → k < length a.classes → IsNumber g (base + 1 + k) (at_inside c.rule c.dot k)
  position_number k lt = number_inside g (at_inside c.rule c.dot k) k base (inside_place g c.rule c.dot k lex.0 a (listed_is_place g c state num).rule lex.1 lex.2 lt) refl start

  lex_in : (s origin : ℕ) (x : Item) → Contains (lex_due a s state base origin) x → (m : ℕ) × GoesBy a c.inside s m × IsNumber g x.state (at_inside c.rule c.dot m) × (x.origin ≡ origin)
  lex_in s origin x h =
      let r = gathered_in (entered a s base origin) (positions_at a state base) x h in
      let one = in_if (at_has a r.0 s) (record { state = base + 1 + r.0; origin = origin }) x r.2 in
      let has = (at_has_iff a r.0 s).0 one.0 in (
        r.0,
        (goes_iff a c.inside s r.0).1 ((positions_iff r.0).0 r.1, has),
        subst (λ (y : Item). IsNumber g y.state (at_inside c.rule c.dot r.0)) (sym one.1) (position_number r.0 (has_within a r.0 s has)),
        ap (λ (y : Item). y.origin) one.1,
      )

  lex_has : (s origin m : ℕ) → GoesBy a c.inside s m → Contains (lex_due a s state base origin) (record { state = base + 1 + m; origin = origin })
  lex_has s origin m goes =
      let h = (goes_iff a c.inside s m).0 goes in
      gathered_has (entered a s base origin) (positions_at a state base) m (record { state = base + 1 + m; origin = origin }) ((positions_iff m).1 h.0) (if_in (at_has a m s) (record { state = base + 1 + m; origin = origin }) ((at_has_iff a m s).1 h.1))

-- fixed words

pub word_in : (letters : List ℕ) (s at end : ℕ) (item x : Item) → Contains (word_due letters s at end item) x → (slice_get letters at ≡ Some s) × (at + 1 ≡ end) × (x ≡ item)
word_in letters s at end item x h =
    let one = in_if (is_letter (slice_get letters at) s && nat_eq (at + 1) end) item x h in
    let both = and_parts (is_letter (slice_get letters at) s) (nat_eq (at + 1) end) one.0 in
    (letter_is (slice_get letters at) s both.0, eqb-true (at + 1) end both.1, one.1)

pub word_has : (letters : List ℕ) (s at end : ℕ) (item : Item) → slice_get letters at ≡ Some s → at + 1 ≡ end → Contains (word_due letters s at end item) item
word_has letters s at end item e last = if_in (is_letter (slice_get letters at) s && nat_eq (at + 1) end) item (and_from (is_letter (slice_get letters at) s) (nat_eq (at + 1) end) (is_letter_of (slice_get letters at) s e) (eq-eqb (at + 1) end last))

pub begun_in : (letters : List ℕ) (s at end : ℕ) (b x : Begun) → Contains (word_begun letters s at end b) x → (slice_get letters at ≡ Some s) × (at + 1 ≢ end) × (x ≡ b)
begun_in letters s at end b x h =
    let one = in_if (is_letter (slice_get letters at) s && not (nat_eq (at + 1) end)) b x h in
    let both = and_parts (is_letter (slice_get letters at) s) (not (nat_eq (at + 1) end)) one.0 in
    (letter_is (slice_get letters at) s both.0, eqb-false (at + 1) end (not_true (nat_eq (at + 1) end) both.1), one.1)

pub begun_has : (letters : List ℕ) (s at end : ℕ) (b : Begun) → slice_get letters at ≡ Some s → at + 1 ≢ end → Contains (word_begun letters s at end b) b
begun_has letters s at end b e other = if_in (is_letter (slice_get letters at) s && not (nat_eq (at + 1) end)) b (and_from (is_letter (slice_get letters at) s) (not (nat_eq (at + 1) end)) (is_letter_of (slice_get letters at) s e) (not_false (nat_eq (at + 1) end) (ne_eqb (at + 1) end other)))

taken_get : {A : Type 0} (n : ℕ) (xs : List A) (k : ℕ) (x : A) → slice_get (take n xs) k ≡ Some x → slice_get xs k ≡ Some x
taken_get zero xs k x e = absurd (no e)
  where
    no : slice_get [] k ≡ Some x → ⊥
    no e = cc
taken_get (suc n) [] k x e = e
taken_get (suc n) (y ∷ xs) zero x e = e
taken_get (suc n) (y ∷ xs) (suc k) x e = taken_get n xs k x e

pub spelt_length : (letters : List ℕ) (from end : ℕ) (f : List ℕ) → IsSpelt letters from end f → from + length f ≡ end
spelt_length letters from end f h =
    let lt = h.some in
    let le = h.within in
    let room : end - from ≤ length (drop from letters) = rw length-drop (omega (arith, le, lt)) in
    let long : length f ≡ end - from = ap length (sym h.is) ∙ length-take-le (end - from) (drop from letters) room in
    omega (arith, long, lt)

spelt_letter : (letters : List ℕ) (from end : ℕ) (f : List ℕ) (k x : ℕ) → IsSpelt letters from end f → slice_get f k ≡ Some x → slice_get letters (from + k) ≡ Some x
spelt_letter letters from end f k x h e = sym (get_drop letters from k) ∙ taken_get (end - from) (drop from letters) k x (ap (λ (l : List ℕ). slice_get l k) h.is ∙ e)

pub letter_spelt : (letters : List ℕ) (from end : ℕ) (f : List ℕ) (k x : ℕ) → IsSpelt letters from end f → k < length f → slice_get letters (from + k) ≡ Some x → slice_get f k ≡ Some x
letter_spelt letters from end f k x h lt e =
    let y = get_some f k lt in
    y.1 ∙ ap (λ z. Some z) (some_same (slice_get letters (from + k)) y.0 x (spelt_letter letters from end f k y.0 h y.1) e)

same_begun : (a b c d e f : ℕ) → a ≡ d → b ≡ e → c ≡ f → ◌≡◌ {A = Begun} (record { state = a; origin = b; count = c }) (record { state = d; origin = e; count = f })
same_begun a b c d e f p q r = cc

pub no_item : (x : Item) → Contains [] x → ⊥
no_item x h = absurd (omega (arith, h.1))

pub no_begun : (x : Begun) → Contains [] x → ⊥
no_begun x h = absurd (omega (arith, h.1))

-- a place whose item is a fixed word has a row of that word
word_stand : (g : Grammar) (letters : List ℕ) (c : Place) (stand : Stand) (f : List ℕ) → IsStand g letters c stand → ItemAt g c.rule c.dot (Fixed f) → (from : ℕ) × (end : ℕ) × (stand ≡ AtWord from end) × IsSpelt letters from end f
word_stand g letters c (AtEnd n) f end at = absurd (let lt = get_lt (items g c.rule) c.dot (Fixed f) at in omega (arith, end.1))
word_stand g letters c (AtNon n) f h at = absurd (not_non (one_of_place g c (Fixed f) (Non n h.1) at h.2))
  where
    not_non : Fixed f ≡ Non n h.1 → ⊥
    not_non e = cc
word_stand g letters c (AtWord from end) f h at = (from, end, refl, subst (λ u. IsSpelt letters from end u) (same_word h.0 f (one_of_place g c (Fixed h.0) (Fixed f) h.2 at)) h.3)
word_stand g letters c (AtTerm t) f h at = absurd (not_term (one_of_place g c (Fixed f) (Term t h.0) at h.1))
  where
    not_term : Fixed f ≡ Term t h.0 → ⊥
    not_term e = cc
word_stand g letters c (AtSkip k) f h at = absurd (not_skip (one_of_place g c (Fixed f) (Skip k) at h))
  where
    not_skip : Fixed f ≡ Skip k → ⊥
    not_skip e = cc

contains_either : {A : Type 0} (xs ys : List A) (x : A) → Contains xs x ⊎ Contains ys x → Contains (xs ++ ys) x
contains_either xs ys x (inl h) = Contains-append_left xs ys x h
contains_either xs ys x (inr h) = Contains-append_right xs ys x h

module _ (g : Grammar) (w : List ℕ) (s : ℕ) (sets : List (List Item)) (chart : IsChartOf g w sets) (built : IsBuilt g) (f : Facts) (facts : AreFacts g f) (begun : List Begun) (exact : AreBegun g w sets (length w) begun) where
  -- all that is gathered
  abbrev pub Gathered : Item → Type 0
  Gathered x = Contains (gathered (item_due g f s) (set_at sets (length w))) x ⊎ Contains (gathered (more_due f s) begun) x

  abbrev pub Begins : Begun → Type 0
  Begins b = Contains (gathered (item_begun f s) (set_at sets (length w))) b ⊎ Contains (gathered (more_begun f s) begun) b

  abbrev Due : Item → Type 0
  Due x = (d : Place) × IsNumber g x.state d × IsDue g (w ++ s ∷ []) sets (suc (length w)) d x.origin

  abbrev Fresh : Begun → Type 0
  Fresh b = (0 < b.count) × IsBegun g (w ++ s ∷ []) sets (suc (length w)) b.state b.origin b.count

  row : (state : ℕ) (c : Place) → IsNumber g state c → IsRow g f.letters.items c (row_at f.rows.items state)
  row state c num = facts.rows.each state c (get_lt (all_places g) state c num) num

  -- an item before a fixed word, of which nothing was read
  abbrev unread : (item : Item) (c : Place) (u : List ℕ) → Contains (set_at sets (length w)) item → IsNumber g item.state c → c.inside ≡ None → ItemAt g c.rule c.dot (Fixed u) → IsBegun g w sets (length w) item.state item.origin 0
  unread item c u has num none at = record { from = length w; place = c; word = u; number = num; outside = none; item = at; there = has; more = built.range.words c.rule c.dot u at; is = omega arith; reads = refl }

  zero_add : (n : ℕ) → n + 0 ≡ n
  zero_add n = omega arith

  -- what an item gives is due
  item_sound : (item : Item) → Contains (set_at sets (length w)) item → (x : Item) → Contains (item_due g f s item) x → Due x
  item_sound item has x h = by (row_at f.rows.items item.state).stand is.stand h
    where
      st : (c : Place) × IsNumber g item.state c × Stands g w c item.origin (length w)
      st = (chart.stand (length w) item).0 has

      c : Place
      c = st.0

      is : IsRow g f.letters.items st.0 (row_at f.rows.items item.state)
      is = row item.state st.0 st.1

      lex : (a : Position) → HasAutomaton g st.0 a → Contains (lex_due a s item.state (row_at f.rows.items item.state).base item.origin) x → Due x
      lex a has_a there =
          let r = lex_in g st.0 a item.state (row_at f.rows.items item.state).base st.1 is.base has_a s item.origin x there in
          (at_inside st.0.rule st.0.dot r.0, r.2, subst (λ o. IsDue g (w ++ s ∷ []) sets (suc (length w)) (at_inside st.0.rule st.0.dot r.0) o) (sym r.3) (length w, st.0, (item.state, st.1, has), inl (refl, s, get_last w s, a, has_a, r.0, r.1, refl)))

      by : (stand : Stand) → IsStand g f.letters.items st.0 stand → Contains (due_at g f.letters.items s item (row_at f.rows.items item.state) stand) x → Due x
      by (AtEnd n) k there = absurd (no_item x there)
      by (AtNon n) k there = absurd (no_item x there)
      by (AtWord from end) k there =
          let r = word_in f.letters.items s from end (record { state = (row_at f.rows.items item.state).next; origin = item.origin }) x there in
          let long = spelt_length f.letters.items from end k.0 k.3 in
          let last : 1 ≡ length k.0 = omega (arith, long, r.1) in
          let letter : slice_get k.0 0 ≡ Some s = letter_spelt f.letters.items from end k.0 0 s k.3 (omega (arith, last)) (subst (λ n. slice_get f.letters.items n ≡ Some s) (sym (zero_add from)) r.0) in
          let b = unread item st.0 k.0 has st.1 k.1 k.2 in
          let due = begun_due g w s sets item.state item.origin 0 b letter last in
          subst (λ (y : Item). Due y) (sym r.2) (next_of st.0, is.next (Fixed k.0) k.2, due)
      by (AtTerm t) k there = lex (term_of g t).automaton (Term t k.0, k.1, refl) there
      by (AtSkip j) k there = lex (skip_of g j).automaton (Skip j, k, refl) there

  item_begins : (item : Item) → Contains (set_at sets (length w)) item → (b : Begun) → Contains (item_begun f s item) b → Fresh b
  item_begins item has b h = by (row_at f.rows.items item.state).stand is.stand h
    where
      st : (c : Place) × IsNumber g item.state c × Stands g w c item.origin (length w)
      st = (chart.stand (length w) item).0 has

      is : IsRow g f.letters.items st.0 (row_at f.rows.items item.state)
      is = row item.state st.0 st.1

      by : (stand : Stand) → IsStand g f.letters.items st.0 stand → Contains (begun_at f.letters.items s item stand) b → Fresh b
      by (AtEnd n) k there = absurd (no_begun b there)
      by (AtNon n) k there = absurd (no_begun b there)
      by (AtWord from end) k there =
          let r = begun_in f.letters.items s from end (record { state = item.state; origin = item.origin; count = 1 }) b there in
          let long = spelt_length f.letters.items from end k.0 k.3 in
          let some = k.3.some in
          let more : 1 < length k.0 = omega (arith, long, r.1, some) in
          let letter : slice_get k.0 0 ≡ Some s = letter_spelt f.letters.items from end k.0 0 s k.3 (omega (arith, more)) (subst (λ n. slice_get f.letters.items n ≡ Some s) (sym (zero_add from)) r.0) in
          let a = unread item st.0 k.0 has st.1 k.1 k.2 in
          subst (λ (y : Begun). Fresh y) (sym r.2) (omega arith, begun_on g w s sets item.state item.origin 0 sets (λ j le. refl) a letter more)
      by (AtTerm t) k there = absurd (no_begun b there)
      by (AtSkip j) k there = absurd (no_begun b there)

  -- the row of a begun word is that of the word
  row_spells : {state origin count : ℕ} (a : IsBegun g w sets (length w) state origin count) (from end : ℕ) → IsStand g f.letters.items a.place (AtWord from end) → IsSpelt f.letters.items from end a.word
  row_spells a from end k = subst (λ u. IsSpelt f.letters.items from end u) (same_word k.0 a.word (one_of_place g a.place (Fixed k.0) (Fixed a.word) k.2 a.item)) k.3

  -- what a begun word gives is due
  rest_sound : (b : Begun) → IsBegun g w sets (length w) b.state b.origin b.count → (x : Item) → Contains (more_due f s b) x → Due x
  rest_sound b a x h = by (row_at f.rows.items b.state).stand is.stand h
    where
      is : IsRow g f.letters.items a.place (row_at f.rows.items b.state)
      is = row b.state a.place a.number

      by : (stand : Stand) → IsStand g f.letters.items a.place stand → Contains (rest_due f.letters.items s b (row_at f.rows.items b.state) stand) x → Due x
      by (AtEnd n) k there = absurd (no_item x there)
      by (AtNon n) k there = absurd (no_item x there)
      by (AtWord from end) k there =
          let r = word_in f.letters.items s (from + b.count) end (record { state = (row_at f.rows.items b.state).next; origin = b.origin }) x there in
          let spelt = row_spells a from end k in
          let long = spelt_length f.letters.items from end a.word spelt in
          let last : suc b.count ≡ length a.word = omega (arith, long, r.1) in
          let letter : slice_get a.word b.count ≡ Some s = letter_spelt f.letters.items from end a.word b.count s spelt a.more r.0 in
          subst (λ (y : Item). Due y) (sym r.2) (next_of a.place, is.next (Fixed a.word) a.item, begun_due g w s sets b.state b.origin b.count a letter last)
      by (AtTerm t) k there = absurd (no_item x there)
      by (AtSkip j) k there = absurd (no_item x there)

  rest_begins : (b : Begun) → IsBegun g w sets (length w) b.state b.origin b.count → (y : Begun) → Contains (more_begun f s b) y → Fresh y
  rest_begins b a y h = by (row_at f.rows.items b.state).stand is.stand h
    where
      is : IsRow g f.letters.items a.place (row_at f.rows.items b.state)
      is = row b.state a.place a.number

      by : (stand : Stand) → IsStand g f.letters.items a.place stand → Contains (rest_begun f.letters.items s b stand) y → Fresh y
      by (AtEnd n) k there = absurd (no_begun y there)
      by (AtNon n) k there = absurd (no_begun y there)
      by (AtWord from end) k there =
          let r = begun_in f.letters.items s (from + b.count) end (record { state = b.state; origin = b.origin; count = b.count + 1 }) y there in
          let spelt = row_spells a from end k in
          let long = spelt_length f.letters.items from end a.word spelt in
          let under = a.more in
          let more : suc b.count < length a.word = omega (arith, long, r.1, under) in
          let letter : slice_get a.word b.count ≡ Some s = letter_spelt f.letters.items from end a.word b.count s spelt a.more r.0 in
          let plus : suc b.count ≡ b.count + 1 = omega arith in
          let fresh = begun_on g w s sets b.state b.origin b.count sets (λ j le. refl) a letter more in
          subst (λ (z : Begun). Fresh z) (sym r.2) (omega arith, subst (λ n. IsBegun g (w ++ s ∷ []) sets (suc (length w)) b.state b.origin n) plus fresh)
      by (AtTerm t) k there = absurd (no_begun y there)
      by (AtSkip j) k there = absurd (no_begun y there)

  -- a word that is being read, or has not been read yet, gives the item after it, and the word with one symbol more
  module _ (state origin count : ℕ) (a : IsBegun g w sets (length w) state origin count) (letter : slice_get a.word count ≡ Some s) where
    at_row : IsRow g f.letters.items a.place (row_at f.rows.items state)
    at_row = row state a.place a.number

    is_word : (from : ℕ) × (end : ℕ) × ((row_at f.rows.items state).stand ≡ AtWord from end) × IsSpelt f.letters.items from end a.word
    is_word = word_stand g f.letters.items a.place (row_at f.rows.items state).stand a.word at_row.stand a.item

    abbrev from : ℕ
    from = is_word.0

    abbrev end : ℕ
    end = is_word.1

    at : slice_get f.letters.items (from + count) ≡ Some s
    at = spelt_letter f.letters.items is_word.0 is_word.1 a.word count s is_word.3 letter

    -- it is an item of the last set, or one of the begun words
    from_item : count ≡ 0 → Contains (set_at sets (length w)) (record { state = state; origin = origin })
    from_item none = let e = a.is in subst (λ n. Contains (set_at sets n) (record { state = state; origin = origin })) (omega (arith, e, none)) a.there

    from_begun : 0 < count → Contains begun (record { state = state; origin = origin; count = count })
    from_begun some = (exact (record { state = state; origin = origin; count = count })).1 (some, a)

    abbrev next_item : Item
    next_item = record { state = (row_at f.rows.items state).next; origin = origin }

    pub gives_due : suc count ≡ length a.word → Gathered next_item
    gives_due last = elim (cases_eq count 0) [ inl none ↦ inl (first none) | inr some ↦ inr (later (omega arith)) ]
      where
        ends : from + count + 1 ≡ end
        ends = omega (arith, last, spelt_length f.letters.items is_word.0 is_word.1 a.word is_word.3)

        there : Contains (word_due f.letters.items s (from + count) end next_item) next_item
        there = word_has f.letters.items s (from + count) end next_item at ends

        first : count ≡ 0 → Contains (gathered (item_due g f s) (set_at sets (length w))) next_item
        first none =
            let item : Item = record { state = state; origin = origin } in
            let here : Contains (word_due f.letters.items s from end next_item) next_item = subst (λ n. Contains (word_due f.letters.items s n end next_item) next_item) (omega (arith, none)) there in
            gathered_has (item_due g f s) (set_at sets (length w)) item next_item (from_item none) (subst (λ st. Contains (due_at g f.letters.items s item (row_at f.rows.items state) st) next_item) (sym is_word.2) here)

        later : 0 < count → Contains (gathered (more_due f s) begun) next_item
        later some =
            let b : Begun = record { state = state; origin = origin; count = count } in
            gathered_has (more_due f s) begun b next_item (from_begun some) (subst (λ st. Contains (rest_due f.letters.items s b (row_at f.rows.items state) st) next_item) (sym is_word.2) there)

    pub gives_begun : suc count < length a.word → Begins (record { state = state; origin = origin; count = suc count })
    gives_begun long = elim (cases_eq count 0) [ inl none ↦ inl (first none) | inr some ↦ inr (later (omega arith)) ]
      where
        next : Begun
        next = record { state = state; origin = origin; count = suc count }

        more : from + count + 1 ≢ end
        more = let e = spelt_length f.letters.items is_word.0 is_word.1 a.word is_word.3 in omega (arith, long, e)

        there : (b : Begun) → Contains (word_begun f.letters.items s (from + count) end b) b
        there b = begun_has f.letters.items s (from + count) end b at more

        first : count ≡ 0 → Contains (gathered (item_begun f s) (set_at sets (length w))) next
        first none =
            let item : Item = record { state = state; origin = origin } in
            let one : Begun = record { state = state; origin = origin; count = 1 } in
            let same : one ≡ next = same_begun state origin 1 state origin (suc count) refl refl (omega (arith, none)) in
            let here : Contains (word_begun f.letters.items s from end one) next = subst (λ (y : Begun). Contains (word_begun f.letters.items s from end one) y) same (subst (λ n. Contains (word_begun f.letters.items s n end one) one) (omega (arith, none)) (there one)) in
            gathered_has (item_begun f s) (set_at sets (length w)) item next (from_item none) (subst (λ st. Contains (begun_at f.letters.items s item st) next) (sym is_word.2) here)

        later : 0 < count → Contains (gathered (more_begun f s) begun) next
        later some =
            let b : Begun = record { state = state; origin = origin; count = count } in
            let one : Begun = record { state = state; origin = origin; count = count + 1 } in
            let same : one ≡ next = same_begun state origin (count + 1) state origin (suc count) refl refl (omega arith) in
            gathered_has (more_begun f s) begun b next (from_begun some) (subst (λ st. Contains (rest_begun f.letters.items s b st) next) (sym is_word.2) (subst (λ (y : Begun). Contains (word_begun f.letters.items s (from + count) end one) y) same (there one)))

  -- what is gathered is due, and words that are gathered are begun
  pub gathered_due : (x : Item) → Gathered x → Due x
  gathered_due x (inl h) = let r = gathered_in (item_due g f s) (set_at sets (length w)) x h in item_sound r.0 r.1 x r.2
  gathered_due x (inr h) = let r = gathered_in (more_due f s) begun x h in rest_sound r.0 ((exact r.0).0 r.1).1 x r.2

  pub gathered_fresh : (b : Begun) → Begins b → Fresh b
  gathered_fresh b (inl h) = let r = gathered_in (item_begun f s) (set_at sets (length w)) b h in item_begins r.0 r.1 b r.2
  gathered_fresh b (inr h) = let r = gathered_in (more_begun f s) begun b h in rest_begins r.0 ((exact r.0).0 r.1).1 b r.2

  -- and the other way round
  pub fresh_gathered : (b : Begun) → Fresh b → Begins b
  fresh_gathered b h = of b.count h.0 refl h.1
    where
      of : (n : ℕ) → 0 < n → b.count ≡ n → IsBegun g (w ++ s ∷ []) sets (suc (length w)) b.state b.origin b.count → Begins b
      of zero lt e x = absurd (omega (arith, lt))
      of (suc n) lt e x =
          let y = subst (λ k. IsBegun g (w ++ s ∷ []) sets (suc (length w)) b.state b.origin k) e x in
          let a = begun_before g w s sets b.state b.origin n sets (λ j le. refl) y in
          let letter : slice_get a.0.word n ≡ Some s = subst (λ (u : List ℕ). slice_get u n ≡ Some s) (sym a.1) a.3 in
          let long = y.more in
          let more : suc n < length a.0.word = subst (λ (u : List ℕ). suc n < length u) (sym a.1) long in
          subst (λ (z : Begun). Begins z) (same_begun b.state b.origin (suc n) b.state b.origin b.count refl refl (sym e)) (gives_begun b.state b.origin n a.0 letter more)

  pub due_gathered : (x : Item) → Due x → Gathered x
  due_gathered x (d, num, (j, c, has, arr)) = by arr
    where
      by : Arrives g (w ++ s ∷ []) j c (suc (length w)) d → Gathered x
      by (inl (next, y, e, a, lex, m, goes, is)) =
          let at : j ≡ length w = omega (arith, next) in
          let here : y ≡ s = some_same (slice_get (w ++ s ∷ []) (length w)) y s (subst (λ n. slice_get (w ++ s ∷ []) n ≡ Some y) at e) (get_last w s) in
          let item : Item = record { state = has.0; origin = x.origin } in
          let r = row has.0 c has.1 in
          let rw' = row_at f.rows.items has.0 in
          let there = subst (λ n. Contains (set_at sets n) item) at has.2 in
          let entered' : Contains (lex_due a s has.0 rw'.base x.origin) (record { state = rw'.base + 1 + m; origin = x.origin }) = lex_has g c a has.0 rw'.base has.1 r.base lex s x.origin m (subst (λ z. GoesBy a c.inside z m) here goes) in
          let number : IsNumber g (rw'.base + 1 + m) d = subst (λ p. IsNumber g (rw'.base + 1 + m) p) (sym is) (position_number g c a has.0 rw'.base has.1 r.base lex m (within c.inside y m a goes)) in
          let same : x.state ≡ rw'.base + 1 + m = place_once g d x.state (rw'.base + 1 + m) num number in
          inl (gathered_has (item_due g f s) (set_at sets (length w)) item x there (stands_so item rw' (rw').stand r.stand a lex (subst (λ n. Contains (lex_due a s has.0 rw'.base x.origin) (record { state = n; origin = x.origin })) (sym same) entered')))
        where
          within : (o : Option ℕ) (y m : ℕ) (a : Position) → GoesBy a o y m → m < length a.classes
          within o y m a goes = has_within a m y ((goes_iff a o y m).0 goes).1

          stands_so : (item : Item) (r : Row) (stand : Stand) → IsStand g f.letters.items c stand → (a : Position) → HasAutomaton g c a → Contains (lex_due a s item.state r.base item.origin) x → Contains (due_at g f.letters.items s item r stand) x
          stands_so item r (AtEnd n) k a lex there = absurd (let lt = get_lt (items g c.rule) c.dot lex.0 lex.1 in omega (arith, k.1))
          stands_so item r (AtNon n) k a lex there = absurd (automaton_not_non g c a n lex k)
          stands_so item r (AtWord from end) k a lex there = absurd (automaton_not_fixed g c a k.0 lex k.2)
          stands_so item r (AtTerm t) k a lex there = subst (λ (p : Position). Contains (lex_due p s item.state r.base item.origin) x) (automaton_once g c a (term_of g t).automaton lex (Term t k.0, k.1, refl)) there
          stands_so item r (AtSkip i) k a lex there = subst (λ (p : Position). Contains (lex_due p s item.state r.base item.origin) x) (automaton_once g c a (skip_of g i).automaton lex (Skip i, k, refl)) there
      by (inr (u, none, at, r, is)) =
          let some = built.range.words c.rule c.dot u at in
          let end = Reads-is (w ++ s ∷ []) j u (suc (length w)) r in
          let n = length u - 1 in
          let long : suc n ≡ length u = omega (arith, some) in
          let whole : take (suc n) u ≡ u = take_all (suc n) u (omega (arith, long)) in
          let a = begun_read g w s sets has.0 x.origin n sets (λ k le. refl) j c u has.1 none at has.2 (omega (arith, long)) (omega (arith, end, long)) (subst (λ v. Reads (w ++ s ∷ []) j v (suc (length w))) (sym whole) r) in
          let letter : slice_get a.0.word n ≡ Some s = subst (λ (v : List ℕ). slice_get v n ≡ Some s) (sym a.1) a.3 in
          let last : suc n ≡ length a.0.word = subst (λ (v : List ℕ). suc n ≡ length v) (sym a.1) long in
          let g' = gives_due has.0 x.origin n a.0 letter last in
          let next = (row has.0 c has.1).next (Fixed u) at in
          let same : x.state ≡ (row_at f.rows.items has.0).next = place_once g d x.state (row_at f.rows.items has.0).next num (subst (λ p. IsNumber g (row_at f.rows.items has.0).next p) (sym is) next) in
          subst (λ m. Gathered (record { state = m; origin = x.origin })) (sym same) g'

  -- each item of the last set has a row, and each begun word has one and is no longer than the document
  pub item_number : (item : Item) → Contains (set_at sets (length w)) item → item.state < length (all_places g)
  item_number item h = let st = (chart.stand (length w) item).0 h in get_lt (all_places g) item.state st.0 st.1

  pub begun_number : (b : Begun) → Contains begun b → b.state < length f.rows.items
  begun_number b h = let a = ((exact b).0 h).1 in let e = facts.rows.counted in let lt = get_lt (all_places g) b.state a.place a.number in omega (arith, e, lt)

  pub begun_few : length w < set_limit → (b : Begun) → Contains begun b → b.count + 1 < 2 ^ 32
  begun_few few b h = let at = ((exact b).0 h).1.is in omega (arith, at, few)

  -- so the lists that were gathered are exact
  pub due_iff : (due : List Item) → due ≡ gathered (item_due g f s) (set_at sets (length w)) ++ gathered (more_due f s) begun → (x : Item) → Contains due x ↔ ((d : Place) × IsNumber g x.state d × IsDue g (w ++ s ∷ []) sets (suc (length w)) d x.origin)
  due_iff due is x = (
    λ h. gathered_due x (Contains-append_cases (gathered (item_due g f s) (set_at sets (length w))) (gathered (more_due f s) begun) x (subst (λ (l : List Item). Contains l x) is h)),
    λ h. subst (λ (l : List Item). Contains l x) (sym is) (contains_either (gathered (item_due g f s) (set_at sets (length w))) (gathered (more_due f s) begun) x (due_gathered x h)),
  )

  pub fresh_iff : (fresh : List Begun) → fresh ≡ gathered (item_begun f s) (set_at sets (length w)) ++ gathered (more_begun f s) begun → AreBegun g (w ++ s ∷ []) sets (suc (length w)) fresh
  fresh_iff fresh is x = (
    λ h. gathered_fresh x (Contains-append_cases (gathered (item_begun f s) (set_at sets (length w))) (gathered (more_begun f s) begun) x (subst (λ (l : List Begun). Contains l x) is h)),
    λ h. subst (λ (l : List Begun). Contains l x) (sym is) (contains_either (gathered (item_begun f s) (set_at sets (length w))) (gathered (more_begun f s) begun) x (fresh_gathered x h)),
  )

same_truth : (b c : Bool) (P : Type 0) → IsTrue b ↔ P → IsTrue c ↔ P → b ≡ c
same_truth true true P x y = refl
same_truth true false P x y = absurd (false≢true (y.1 (x.0 refl)))
same_truth false true P x y = absurd (false≢true (x.1 (y.0 refl)))
same_truth false false P x y = refl

pub has_same : (a : Position) (k s : ℕ) (class : List (ℕ × ℕ)) (b : Bool) → slice_get a.classes k ≡ Some class → IsTrue b ↔ Has class s → b ≡ at_has a k s
has_same a k s class b at h =
    let row : slice_index_or a.classes k [] ≡ class = get_or_from_slice_get a.classes k class [] at in
    let c = class_in class s in
    same_truth b (at_has a k s) (Has class s) h (subst (λ (l : List (ℕ × ℕ)). IsTrue (in_class l s) ↔ Has class s) (sym row) c)

-- the class of a position has the symbol's atom exactly where the position has the symbol
class_told : (atoms : Atoms) (a : Position) (classes row : List ℕ) (k s atom : ℕ) → classes ≡ row → atom ≡ atom_of atoms s → HasAt a k s ↔ IsTrue (class_has atoms (slice_index_or row k 0) (atom_of atoms s)) → class_has atoms (slice_index_or classes k 0) atom ≡ at_has a k s
class_told atoms a classes row k s atom same is iff =
    ap (λ (l : List ℕ). class_has atoms (slice_index_or l k 0) atom) same
    ∙ ap (λ n. class_has atoms (slice_index_or row k 0) n) is
    ∙ same_truth (class_has atoms (slice_index_or row k 0) (atom_of atoms s)) (at_has a k s) (HasAt a k s) ((λ h. iff.1 h), (λ h. iff.0 h)) (at_has_iff a k s)

-- a fixed word begins at a number of 63 bits
pub word_few : (g : Grammar) (f : Facts) → AreFacts g f → (state : ℕ) → state < length f.rows.items → (from end : ℕ) → (row_at f.rows.items state).stand ≡ AtWord from end → from < 2 ^ 63
word_few g f facts state lt from end e =
    let counted = facts.rows.counted in
    let below : state < length (all_places g) = omega (arith, lt, counted) in
    let there = get_some (all_places g) state below in
    let k = subst (λ st. IsStand g f.letters.items there.0 st) e (facts.rows.each state there.0 below there.1).stand in
    let some = k.3.some in
    let within = k.3.within in
    let few = facts.letters_few in
    omega (arith, some, within, few)

-- a state's terminal or ignorable is there, and so are the numbers of its positions, and whether they have a symbol
module _ (g : Grammar) (f : Facts) (built : IsBuilt g) (facts : AreFacts g f) (state : ℕ) (lt : state < length (all_places g)) where
  there : (c : Place) × IsNumber g state c
  there = get_some (all_places g) state lt

  its : IsRow g f.letters.items there.0 (row_at f.rows.items state)
  its = facts.rows.each state there.0 lt there.1

  -- a position to which the automaton may go is one of its own
  below : (a : Position) → HasAutomaton g there.0 a → IsWellFormed a → (k : ℕ) → Contains (positions_at a state (row_at f.rows.items state).base) k → k < length a.classes
  below a lex formed k h = by there.0.inside ((positions_iff g there.0 a state (row_at f.rows.items state).base there.1 its.base lex k).0 h)
    where
      by : (o : Option ℕ) → Next a o k → k < length a.classes
      by None n = formed.first_in k n
      by (Some j) n = formed.follow_in j k n

  room : (a : Position) → HasAutomaton g there.0 a → IsWellFormed a → (k : ℕ) → Contains (positions_at a state (row_at f.rows.items state).base) k → (row_at f.rows.items state).base + 1 + k < 2 ^ 32
  room a lex formed k h =
      let base = (row_at f.rows.items state).base in
      let n = get_lt (all_places g) (base + 1 + k) (at_inside there.0.rule there.0.dot k) (position_number g there.0 a state base there.1 its.base lex k (below a lex formed k h)) in
      let few = facts.few in
      omega (arith, n, few)

  -- the atoms are those of the grammar
  exact : (atoms : Atoms) → f.atoms ≡ Some atoms → AreAtoms g atoms
  exact atoms at = subst (λ o. IfSome o (AreAtoms g)) at facts.atoms

  pub term_there : (term : ℕ) → (row_at f.rows.items state).stand ≡ AtTerm term → term < length g.terms
  term_there term e = let k = subst (λ st. IsStand g f.letters.items there.0 st) e its.stand in built.range.terms there.0.rule there.0.dot term k.0 k.1

  pub term_room : (term : ℕ) → (row_at f.rows.items state).stand ≡ AtTerm term → (k : ℕ) → Contains (positions_at (term_of g term).automaton state (row_at f.rows.items state).base) k → (row_at f.rows.items state).base + 1 + k < 2 ^ 32
  term_room term e = let k = subst (λ st. IsStand g f.letters.items there.0 st) e its.stand in room (term_of g term).automaton (Term term k.0, k.1, refl) (built.automata.terms term (term_there term e)).formed

  pub skip_there : (skip : ℕ) → (row_at f.rows.items state).stand ≡ AtSkip skip → skip < length g.skips
  skip_there skip e = let k = subst (λ st. IsStand g f.letters.items there.0 st) e its.stand in built.range.skips there.0.rule there.0.dot skip k

  pub skip_room : (skip : ℕ) → (row_at f.rows.items state).stand ≡ AtSkip skip → (k : ℕ) → Contains (positions_at (skip_of g skip).automaton state (row_at f.rows.items state).base) k → (row_at f.rows.items state).base + 1 + k < 2 ^ 32
  skip_room skip e = let k = subst (λ st. IsStand g f.letters.items there.0 st) e its.stand in room (skip_of g skip).automaton (Skip skip, k, refl) (built.automata.skips skip (skip_there skip e)).formed

  pub term_told : (term s atom : ℕ) (classes : List ℕ) → (row_at f.rows.items state).stand ≡ AtTerm term → IsAtom f s atom → ((atoms : Atoms) → f.atoms ≡ Some atoms → classes ≡ term_classes atoms term) → (k : ℕ) → Contains (positions_at (term_of g term).automaton state (row_at f.rows.items state).base) k → IsTold f classes atom (term_of g term).automaton s k
  term_told term s atom classes e is row k h atoms at =
      let its_term = subst (λ st. IsStand g f.letters.items there.0 st) e its.stand in
      let a = (term_of g term).automaton in
      let lt = term_there term e in
      let within = below a (Term term its_term.0, its_term.1, refl) (built.automata.terms term lt).formed k h in
      class_told atoms a classes (term_classes atoms term) k s atom (row atoms at) (is atoms at) ((exact atoms at).terms term k s lt within)

  pub skip_told : (skip s atom : ℕ) (classes : List ℕ) → (row_at f.rows.items state).stand ≡ AtSkip skip → IsAtom f s atom → ((atoms : Atoms) → f.atoms ≡ Some atoms → classes ≡ skip_classes atoms skip) → (k : ℕ) → Contains (positions_at (skip_of g skip).automaton state (row_at f.rows.items state).base) k → IsTold f classes atom (skip_of g skip).automaton s k
  skip_told skip s atom classes e is row k h atoms at =
      let its_skip = subst (λ st. IsStand g f.letters.items there.0 st) e its.stand in
      let a = (skip_of g skip).automaton in
      let lt = skip_there skip e in
      let within = below a (Skip skip, its_skip, refl) (built.automata.skips skip lt).formed k h in
      class_told atoms a classes (skip_classes atoms skip) k s atom (row atoms at) (is atoms at) ((exact atoms at).skips skip k s lt within)
