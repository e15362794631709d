-- The symbols by which the items of a set and its begun words go on are those by which a word of the language does.
use Rattle.std.proofs.Common.{◌≡◌, ℕ, zero, suc, ◌+◌, ◌<◌, ◌≤◌, List, [], ◌∷◌, ◌++◌, length, take, Option, Some, None, refl, sym, ◌∙◌, ap, subst, arith, ◌⊎◌, inl, inr, ◌↔◌}
use Rattle.std.specs.Prelude.{Contains, slice_get, slice_index_or}
use Rattle.std.proofs.lemmas.Bool.{cases_eq}
use Rattle.std.proofs.lemmas.List.{get_or-take, length-take-le}
use Rattle.std.proofs.lemmas.List.Elements.{Contains-append_left, Contains-append_right, Contains-append_cases}
use Rattle.xs_class.specs.Classes.{Has}
use Rattle.xs_class.proofs.Adding.{has_append}
use Rattle.xs_class.proofs.Lists.{first_in, rest_in, get_of}
use Rattle.xs_chart.specs.declared.item.Item.{Item}
use Rattle.xs_chart.specs.Charted.{Charted, first_sets}
use Rattle.xs_regex.specs.declared.position.Position.{Position}
use Rattle.xs_gram.specs.Grammar.{Grammar, term_of, skip_of}
use Rattle.xs_gram.specs.Languages.{IsFront}
use Rattle.xs_gram.specs.Places.{all_places}
use Rattle.xs_chart_laws.specs.Charts.{set_at}
use Rattle.xs_chart_laws.proofs.Words.{get_lt}
use Rattle.xs_earley.specs.declared.begun.Begun.{Begun}
use Rattle.xs_earley.specs.declared.facts.Facts.{Facts}
use Rattle.xs_earley.specs.declared.rows.Row.{Row}
use Rattle.xs_earley.specs.declared.rows.Stand.{Stand}
use Rattle.xs_earley.specs.declared.rows.Stand.TheVariants.{AtEnd, AtNon, AtWord, AtTerm, AtSkip}
use Rattle.xs_earley.specs.Arriving.{gathered, at_has, positions_at, entered, lex_due, word_due, word_begun, due_at, begun_at, item_due, item_begun, rest_due, rest_begun, more_due, more_begun, AreBegun}
use Rattle.xs_earley.specs.Facts.{row_at}
use Rattle.xs_earley.specs.Following.{class_at, lex_next, letter_next, next_at, item_next, rest_next, more_next}
use Rattle.xs_earley.specs.Running.{unsteady, IsRunOf}
use Rattle.xs_earley.specs.Stages.{AreDue}
use Rattle.xs_earley.proofs.Arrivals.{gathered_in, gathered_has, class_in, in_if, if_in, word_in, word_has, begun_in, begun_has, no_item, no_begun, due_iff, fresh_iff}
use Rattle.xs_earley.proofs.Steppings.{run_back, step_stops, step_goes}

-- a symbol of gathered ranges is one of some element's ranges

has_in : {A : Type 0} (f : A → List (ℕ × ℕ)) (xs : List A) (s : ℕ) → Has (gathered f xs) s → (x : A) × Contains xs x × Has (f x) s
has_in f [] s h = absurd h
has_in f (x ∷ xs) s h = elim ((has_append (f x) (gathered f xs) s).0 h) [
  | inl a ↦ (x, first_in x xs, a)
  | inr b ↦ (let r = has_in f xs s b in (r.0, rest_in x xs r.0 r.1, r.2))
]

has_at : {A : Type 0} (f : A → List (ℕ × ℕ)) (xs : List A) (k : ℕ) (x : A) (s : ℕ) → slice_get xs k ≡ Some x → Has (f x) s → Has (gathered f xs) s
has_at f [] k x s e h = absurd (no e)
  where
    no : None ≡ Some x → ⊥
    no e = cc
has_at {A} f (z ∷ xs) zero x s e h = (has_append (f z) (gathered f xs) s).1 (inl (subst (λ (a : A). Has (f a) s) (sym (same z x e)) h))
  where
    same : (a b : A) → Some a ≡ Some b → a ≡ b
    same a b e = cc
has_at f (z ∷ xs) (suc k) x s e h = (has_append (f z) (gathered f xs) s).1 (inr (has_at f xs k x s e h))

has_of : {A : Type 0} (f : A → List (ℕ × ℕ)) (xs : List A) (x : A) (s : ℕ) → Contains xs x → Has (f x) s → Has (gathered f xs) s
has_of f xs x s there h = let at = get_of xs x there in has_at f xs at.0 x s at.1 h

-- by an automaton an item is due

abbrev IsGone : List Item → List Begun → Type 0
IsGone due fresh = ((x : Item) × Contains due x) ⊎ ((b : Begun) × Contains fresh b)

lex_goes : (a : Position) (s state base origin : ℕ) → Has (lex_next a state base) s ↔ IsGone (lex_due a s state base origin) []
lex_goes a s state base origin = (to, from)
  where
    to : Has (lex_next a state base) s → IsGone (lex_due a s state base origin) []
    to h =
        let r = has_in (class_at a) (positions_at a state base) s h in
        let item : Item = record { state = base + 1 + r.0; origin = origin } in
        inl (item, gathered_has (entered a s base origin) (positions_at a state base) r.0 item r.1 (if_in (at_has a r.0 s) item ((class_in (slice_index_or a.classes r.0 []) s).1 r.2)))

    from : IsGone (lex_due a s state base origin) [] → Has (lex_next a state base) s
    from (inl x) =
        let r = gathered_in (entered a s base origin) (positions_at a state base) x.0 x.1 in
        let one = in_if (at_has a r.0 s) (record { state = base + 1 + r.0; origin = origin }) x.0 r.2 in
        has_of (class_at a) (positions_at a state base) r.0 s r.1 ((class_in (slice_index_or a.classes r.0 []) s).0 one.0)
    from (inr b) = absurd (no_begun b.0 b.1)

-- by a fixed word an item is due, or the word is begun

letter_goes : (o : Option ℕ) (s : ℕ) → Has (letter_next o) s ↔ (o ≡ Some s)
letter_goes None s = ((λ h. absurd h), (λ e. absurd (no e)))
  where
    no : None ≡ Some s → ⊥
    no e = cc
letter_goes (Some x) s = (
  (λ h. elim h [ inl a ↦ (let le = a.0 in let ge = a.1 in ap (λ n. Some n) (is le ge)) | inr b ↦ absurd b ]),
  (λ e. let same = of e in inl (omega (arith, same), omega (arith, same))),
)
  where
    is : x ≤ s → s ≤ x → x ≡ s
    is le ge = omega (arith, le, ge)

    of : Some x ≡ Some s → x ≡ s
    of e = cc

word_goes : (letters : List ℕ) (s at end : ℕ) (item : Item) (b : Begun) → Has (letter_next (slice_get letters at)) s ↔ IsGone (word_due letters s at end item) (word_begun letters s at end b)
word_goes letters s at end item b = (to, from)
  where
    to : Has (letter_next (slice_get letters at)) s → IsGone (word_due letters s at end item) (word_begun letters s at end b)
    to h =
        let e = (letter_goes (slice_get letters at) s).0 h in
        elim (cases_eq (at + 1) end) [ inl last ↦ inl (item, word_has letters s at end item e last) | inr other ↦ inr (b, begun_has letters s at end b e other) ]

    from : IsGone (word_due letters s at end item) (word_begun letters s at end b) → Has (letter_next (slice_get letters at)) s
    from (inl x) = (letter_goes (slice_get letters at) s).1 (word_in letters s at end item x.0 x.1).0
    from (inr x) = (letter_goes (slice_get letters at) s).1 (begun_in letters s at end b x.0 x.1).0

none_goes : (s : ℕ) → Has [] s ↔ IsGone [] []
none_goes s = ((λ h. absurd h), none)
  where
    none : IsGone [] [] → Has [] s
    none (inl x) = absurd (no_item x.0 x.1)
    none (inr b) = absurd (no_begun b.0 b.1)

-- so a symbol is one by which an item goes on exactly where an item is due by it, or a word is begun

item_goes : (g : Grammar) (f : Facts) (s : ℕ) (item : Item) → Has (item_next g f item) s ↔ IsGone (item_due g f s item) (item_begun f s item)
item_goes g f s item = by (row_at f.rows.items item.state) (row_at f.rows.items item.state).stand
  where
    by : (row : Row) (stand : Stand) → Has (next_at g f.letters.items item row stand) s ↔ IsGone (due_at g f.letters.items s item row stand) (begun_at f.letters.items s item stand)
    by row (AtEnd n) = none_goes s
    by row (AtNon n) = none_goes s
    by row (AtWord from end) = word_goes f.letters.items s from end (record { state = row.next; origin = item.origin }) (record { state = item.state; origin = item.origin; count = 1 })
    by row (AtTerm t) = lex_goes (term_of g t).automaton s item.state row.base item.origin
    by row (AtSkip k) = lex_goes (skip_of g k).automaton s item.state row.base item.origin

rest_goes : (f : Facts) (s : ℕ) (b : Begun) → Has (more_next f b) s ↔ IsGone (more_due f s b) (more_begun f s b)
rest_goes f s b = by (row_at f.rows.items b.state) (row_at f.rows.items b.state).stand
  where
    by : (row : Row) (stand : Stand) → Has (rest_next f.letters.items b stand) s ↔ IsGone (rest_due f.letters.items s b row stand) (rest_begun f.letters.items s b stand)
    by row (AtEnd n) = none_goes s
    by row (AtNon n) = none_goes s
    by row (AtWord from end) = word_goes f.letters.items s (from + b.count) end (record { state = row.next; origin = b.origin }) (record { state = b.state; origin = b.origin; count = b.count + 1 })
    by row (AtTerm t) = none_goes s
    by row (AtSkip k) = none_goes s

empty_or : {A : Type 0} (xs : List A) → (xs ≡ []) ⊎ ((x : A) × Contains xs x)
empty_or [] = inl refl
empty_or (x ∷ xs) = inr (x, first_in x xs)

-- of all items and begun words
module _ (g : Grammar) (f : Facts) (s : ℕ) (items : List Item) (begun : List Begun) where
  abbrev all_next : List (ℕ × ℕ)
  all_next = gathered (item_next g f) items ++ gathered (more_next f) begun

  abbrev all_due : List Item
  all_due = gathered (item_due g f s) items ++ gathered (more_due f s) begun

  abbrev all_begun : List Begun
  all_begun = gathered (item_begun f s) items ++ gathered (more_begun f s) begun

  by_item : (item : Item) → Contains items item → IsGone (item_due g f s item) (item_begun f s item) → IsGone all_due all_begun
  by_item item there (inl x) = inl (x.0, Contains-append_left (gathered (item_due g f s) items) (gathered (more_due f s) begun) x.0 (gathered_has (item_due g f s) items item x.0 there x.1))
  by_item item there (inr b) = inr (b.0, Contains-append_left (gathered (item_begun f s) items) (gathered (more_begun f s) begun) b.0 (gathered_has (item_begun f s) items item b.0 there b.1))

  by_begun : (one : Begun) → Contains begun one → IsGone (more_due f s one) (more_begun f s one) → IsGone all_due all_begun
  by_begun one there (inl x) = inl (x.0, Contains-append_right (gathered (item_due g f s) items) (gathered (more_due f s) begun) x.0 (gathered_has (more_due f s) begun one x.0 there x.1))
  by_begun one there (inr b) = inr (b.0, Contains-append_right (gathered (item_begun f s) items) (gathered (more_begun f s) begun) b.0 (gathered_has (more_begun f s) begun one b.0 there b.1))

  all_to : Has all_next s → IsGone all_due all_begun
  all_to h = elim ((has_append (gathered (item_next g f) items) (gathered (more_next f) begun) s).0 h) [
    | inl a ↦ (let r = has_in (item_next g f) items s a in by_item r.0 r.1 ((item_goes g f s r.0).0 r.2))
    | inr a ↦ (let r = has_in (more_next f) begun s a in by_begun r.0 r.1 ((rest_goes f s r.0).0 r.2))
  ]

  of_item : (item : Item) → Contains items item → IsGone (item_due g f s item) (item_begun f s item) → Has all_next s
  of_item item there h = (has_append (gathered (item_next g f) items) (gathered (more_next f) begun) s).1 (inl (has_of (item_next g f) items item s there ((item_goes g f s item).1 h)))

  of_begun : (one : Begun) → Contains begun one → IsGone (more_due f s one) (more_begun f s one) → Has all_next s
  of_begun one there h = (has_append (gathered (item_next g f) items) (gathered (more_next f) begun) s).1 (inr (has_of (more_next f) begun one s there ((rest_goes f s one).1 h)))

  all_from : IsGone all_due all_begun → Has all_next s
  all_from (inl x) = elim (Contains-append_cases (gathered (item_due g f s) items) (gathered (more_due f s) begun) x.0 x.1) [
    | inl a ↦ (let r = gathered_in (item_due g f s) items x.0 a in of_item r.0 r.1 (inl (x.0, r.2)))
    | inr a ↦ (let r = gathered_in (more_due f s) begun x.0 a in of_begun r.0 r.1 (inl (x.0, r.2)))
  ]
  all_from (inr b) = elim (Contains-append_cases (gathered (item_begun f s) items) (gathered (more_begun f s) begun) b.0 b.1) [
    | inl a ↦ (let r = gathered_in (item_begun f s) items b.0 a in of_item r.0 r.1 (inr (b.0, r.2)))
    | inr a ↦ (let r = gathered_in (more_begun f s) begun b.0 a in of_begun r.0 r.1 (inr (b.0, r.2)))
  ]

-- after the last set of a run
last_goes : (g : Grammar) (w : List ℕ) (s : ℕ) (f : Facts) (chart : Charted) (begun : List (List Begun)) (marks : ℕ) → IsRunOf g (unsteady w chart begun f marks) → Has (all_next g f s (set_at chart.sets (length w)) (slice_index_or begun (length w) [])) s ↔ IsFront g (w ++ s ∷ [])
last_goes g w s f chart begun marks run = (to, from)
  where
    items : List Item
    items = set_at chart.sets (length w)

    words : List Begun
    words = slice_index_or begun (length w) []

    exact : AreBegun g w chart.sets (length w) (slice_index_or begun (length w) [])
    exact = run.begun (length w) (omega arith)

    due : List Item
    due = all_due g f s (set_at chart.sets (length w)) (slice_index_or begun (length w) [])

    fresh : List Begun
    fresh = all_begun g f s (set_at chart.sets (length w)) (slice_index_or begun (length w) [])

    are_due : AreDue g w s chart.sets due
    are_due = due_iff g w s chart.sets run.chart run.sound.built f run.facts words exact due refl

    are_fresh : AreBegun g (w ++ s ∷ []) chart.sets (suc (length w)) fresh
    are_fresh = fresh_iff g w s chart.sets run.chart run.sound.built f run.facts words exact fresh refl

    some : IsGone due fresh → due ≡ [] → fresh ≡ [] → ⊥
    some (inl x) a b = no_item x.0 (subst (λ (l : List Item). Contains l x.0) a x.1)
    some (inr x) a b = no_begun x.0 (subst (λ (l : List Begun). Contains l x.0) b x.1)

    to : Has (all_next g f s items words) s → IsFront g (w ++ s ∷ [])
    to h = step_goes g w s f chart begun marks run due fresh are_due are_fresh (some (all_to g f s items words h))

    from : IsFront g (w ++ s ∷ []) → Has (all_next g f s items words) s
    from h = elim (empty_or due) [
      | inr x ↦ all_from g f s items words (inl x)
      | inl a ↦ elim (empty_or fresh) [
        | inr b ↦ all_from g f s items words (inr b)
        | inl b ↦ absurd (step_stops g w s f chart begun marks run due fresh are_due are_fresh a b h)
      ]
    ]

-- after any of its sets
pub following_goes : (g : Grammar) (w : List ℕ) (f : Facts) (chart : Charted) (begun : List (List Begun)) (marks : ℕ) → IsRunOf g (unsteady w chart begun f marks) → (at : ℕ) → at ≤ length w → (s : ℕ) → Has (gathered (item_next g f) (set_at chart.sets at) ++ gathered (more_next f) (slice_index_or begun at [])) s ↔ IsFront g (take at w ++ s ∷ [])
following_goes g w f chart begun marks run at le s =
    subst (λ (l : List Begun). Has (gathered (item_next g f) (set_at chart.sets at) ++ gathered (more_next f) l) s ↔ IsFront g (take at w ++ s ∷ [])) words
    (subst (λ (l : List Item). Has (gathered (item_next g f) l ++ gathered (more_next f) (slice_index_or (take (at + 1) begun) (length (take at w)) [])) s ↔ IsFront g (take at w ++ s ∷ [])) items
    (last_goes g (take at w) s f (first_sets (at + 1) chart) (take (at + 1) begun) marks (run_back g w f chart begun marks run at le)))
  where
    long : length (take at w) ≡ at
    long = length-take-le at w le

    items : set_at (first_sets (at + 1) chart).sets (length (take at w)) ≡ set_at chart.sets at
    items = ap (λ n. set_at (take (at + 1) chart.sets) n) long ∙ get_or-take (at + 1) chart.sets at [] (omega arith)

    words : slice_index_or (take (at + 1) begun) (length (take at w)) [] ≡ slice_index_or begun at []
    words = ap (λ n. slice_index_or (take (at + 1) begun) n []) long ∙ get_or-take (at + 1) begun at [] (omega arith)

-- the items and begun words of a run have rows
pub item_there : (g : Grammar) (w : List ℕ) (f : Facts) (chart : Charted) (begun : List (List Begun)) (marks : ℕ) → IsRunOf g (unsteady w chart begun f marks) → (at : ℕ) (item : Item) → Contains (set_at chart.sets at) item → item.state < length (all_places g)
item_there g w f chart begun marks run at item h = let st = (run.chart.stand at item).0 h in get_lt (all_places g) item.state st.0 st.1

pub begun_there : (g : Grammar) (w : List ℕ) (f : Facts) (chart : Charted) (begun : List (List Begun)) (marks : ℕ) → IsRunOf g (unsteady w chart begun f marks) → (at : ℕ) → at ≤ length w → (b : Begun) → Contains (slice_index_or begun at []) b → b.state < length f.rows.items
begun_there g w f chart begun marks run at le b h =
    let a = ((run.begun at le b).0 h).1 in
    let e = run.facts.rows.counted in
    let lt = get_lt (all_places g) b.state a.place a.number in
    omega (arith, e, lt)
