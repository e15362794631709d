-- Rows and the pairs that they have.
use Rattle.std.proofs.Common.{◌≡◌, ℕ, zero, suc, ◌+◌, ◌<◌, ◌≤◌, Bool, true, false, ◌&&◌, ◌||◌, nat_eq, List, [], ◌∷◌, length, get_or, refl, sym, ap, ◌∙◌, inl, inr, arith}
use Rattle.std.specs.List.{All}
use Rattle.std.proofs.lemmas.Bool.{cases_eq, cases_lt, eq-eqb, ne_eqb, eqb-true, or_left, or_cases, and_parts, and_from, and_left, or_from, cases_Bool, true≢false}
use Rattle.xs_closed.specs.Rows.{Row, AreRows, Ascends, has_number, holds, places, row_then, rows_from}
use Rattle.xs_closed.specs.Laws.{RowsAreMarks, RowsAreOne}

false_or : (x y : Bool) → x ≡ false → (x || y) ≡ y
false_or x y e = rw e refl

-- no number below the first is among the places
has_below : (k : ℕ) (bs : List Bool) (b : ℕ) → b < k → has_number (places k bs) b ≡ false
has_below k [] b l = refl
has_below k (true ∷ bs) b l = or_from (nat_eq k b) _ (ne_eqb k b (λ e. absurd (omega arith))) (has_below (suc k) bs b (omega arith))
has_below k (false ∷ bs) b l = has_below (suc k) bs b (omega arith)

-- a number is among the places where the list says true there
has_places : (k : ℕ) (bs : List Bool) (b n : ℕ) → n ≡ k + b → has_number (places k bs) n ≡ get_or bs b false
has_places k [] b n e = refl
has_places k (true ∷ bs) zero n e = or_left (nat_eq k n) _ (eq-eqb k n (omega arith))
has_places k (true ∷ bs) (suc b) n e = false_or (nat_eq k n) _ (ne_eqb k n (λ f. absurd (omega arith))) ∙ has_places (suc k) bs b n (omega arith)
has_places k (false ∷ bs) zero n e = has_below (suc k) bs n (omega arith)
has_places k (false ∷ bs) (suc b) n e = has_places (suc k) bs b n (omega arith)

places_ascend : (low k : ℕ) (bs : List Bool) → low ≤ k → Ascends low (places k bs)
places_ascend low k [] l = tt
places_ascend low k (true ∷ bs) l = (l, places_ascend (suc k) (suc k) bs (omega arith))
places_ascend low k (false ∷ bs) l = places_ascend low (suc k) bs (omega arith)

within_nil : (wide : ℕ) → All (λ b. b < wide) []
within_nil wide k d l = absurd (omega arith)

within_cons : (wide b : ℕ) (bs : List ℕ) → b < wide → All (λ b. b < wide) bs → All (λ b. b < wide) (b ∷ bs)
within_cons wide b bs l h zero d m = l
within_cons wide b bs l h (suc k) d m = h k d (omega arith)

places_within : (wide k : ℕ) (bs : List Bool) → k + length bs ≤ wide → All (λ b. b < wide) (places k bs)
places_within wide k [] l = within_nil wide
places_within wide k (true ∷ bs) l = within_cons wide k (places (suc k) bs) (omega arith) (places_within wide (suc k) bs (omega arith))
places_within wide k (false ∷ bs) l = places_within wide (suc k) bs (omega arith)

-- the pairs of a row of other number
skip_row : (a : ℕ) (bs : List ℕ) (rs : List Row) (n b : ℕ) → (a ≡ n → ⊥) → holds (row_then a bs rs) n b ≡ holds rs n b
skip_row a [] rs n b ne = refl
skip_row a (m ∷ ms) rs n b ne = false_or _ _ (and_left (nat_eq a n) _ (ne_eqb a n ne))

-- the pairs of a row, where no other has its number
or_false : (x : Bool) → (x || false) ≡ x
or_false true = refl
or_false false = refl

this_row : (a : ℕ) (bs : List ℕ) (rs : List Row) (b : ℕ) → holds rs a b ≡ false → holds (row_then a bs rs) a b ≡ has_number bs b
this_row a [] rs b none = none
this_row a (m ∷ ms) rs b none = rw (none, eq-eqb a a refl) (or_false (has_number (m ∷ ms) b))

-- no row below the first is among the rows of a table
holds_below : (a : ℕ) (rs : List (List Bool)) (c b : ℕ) → c < a → holds (rows_from a rs) c b ≡ false
holds_below a [] c b l = refl
holds_below a (r ∷ rs) c b l = skip_row a (places 0 r) (rows_from (suc a) rs) c b (λ e. absurd (omega arith)) ∙ holds_below (suc a) rs c b (omega arith)

-- the rows of a table have a pair where the table says true there
pub holds_rows : (a : ℕ) (rs : List (List Bool)) (c b n : ℕ) → n ≡ a + c → holds (rows_from a rs) n b ≡ get_or (get_or rs c []) b false
holds_rows a [] c b n e = refl
holds_rows a (r ∷ rs) zero b n e =
    let f : n ≡ a = omega arith in
    rw f (this_row a (places 0 r) (rows_from (suc a) rs) b (holds_below (suc a) rs a b (omega arith)) ∙ has_places 0 r b b (omega arith))
holds_rows a (r ∷ rs) (suc c) b n e = skip_row a (places 0 r) (rows_from (suc a) rs) n b (λ f. absurd (omega arith)) ∙ holds_rows (suc a) rs c b n (omega arith)

-- a row and those after it are rows
rows_then : (high wide low a : ℕ) (bs : List ℕ) (rs : List Row) → low ≤ a → a < high → Ascends 0 bs → All (λ b. b < wide) bs → AreRows high wide low rs → AreRows high wide (suc a) rs → AreRows high wide low (row_then a bs rs)
rows_then high wide low a [] rs l m up within skipped next = skipped
rows_then high wide low a (b ∷ bs) rs l m up within skipped next = (l, m, record { some = λ e. cc; order = up; within = within }, next)

-- the rows of an even table are those of a set
are_rows : (high wide low a : ℕ) (rs : List (List Bool)) → low ≤ a → a + length rs ≤ high → ((i : ℕ) → i < length rs → length (get_or rs i []) ≡ wide) → AreRows high wide low (rows_from a rs)
are_rows high wide low a [] l m even = tt
are_rows high wide low a (r ∷ rs) l m even = rows_then high wide low a (places 0 r) (rows_from (suc a) rs) l (omega arith) (places_ascend 0 0 r (omega arith)) (places_within wide 0 r (omega (arith, even 0 (omega arith)))) (are_rows high wide low (suc a) rs (omega arith) (omega arith) (λ i p. even (suc i) (omega arith))) (are_rows high wide (suc a) (suc a) rs (omega arith) (omega arith) (λ i p. even (suc i) (omega arith)))

pub rows_are_marks : RowsAreMarks
rows_are_marks high wide z sized = (are_rows high wide 0 0 z.rows (omega arith) (omega (arith, sized.high)) (λ i l. sized.even i (omega (arith, sized.high))), λ a b. holds_rows 0 z.rows a b a (omega arith))

-- a number of an ascending list is not below its first
low_number : (low : ℕ) (bs : List ℕ) (n : ℕ) → Ascends low bs → has_number bs n ≡ true → low ≤ n
low_number low [] n up h = absurd (true≢false (sym h))
low_number low (b ∷ bs) n up h = elim (or_cases (nat_eq b n) (has_number bs n) h) [
  | inl e ↦ let f = eqb-true b n e in omega (arith, up)
  | inr k ↦ let f = low_number (suc b) bs n up.1 k in omega (arith, up)
]

absent : (low : ℕ) (bs : List ℕ) (n : ℕ) → Ascends low bs → n < low → has_number bs n ≡ false
absent low bs n up l = elim (cases_Bool (has_number bs n)) [
  | inl h ↦ let k = low_number low bs n up h in absurd (omega arith)
  | inr h ↦ h
]

-- ascending lists of the same numbers are the same
numbers_same : (low high : ℕ) (bs cs : List ℕ) → Ascends low bs → Ascends high cs → ((n : ℕ) → has_number bs n ≡ has_number cs n) → bs ≡ cs
numbers_same low high [] [] up on same = refl
numbers_same low high [] (c ∷ cs) up on same = absurd (true≢false (sym (same c ∙ or_left (nat_eq c c) _ (eq-eqb c c refl))))
numbers_same low high (b ∷ bs) [] up on same = absurd (true≢false (sym (or_left (nat_eq b b) _ (eq-eqb b b refl)) ∙ same b))
numbers_same low high (b ∷ bs) (c ∷ cs) up on same =
    let first : c ≤ b = low_number c (c ∷ cs) b (omega arith, on.1) (sym (same b) ∙ or_left (nat_eq b b) _ (eq-eqb b b refl)) in
    let second : b ≤ c = low_number b (b ∷ bs) c (omega arith, up.1) (same c ∙ or_left (nat_eq c c) _ (eq-eqb c c refl)) in
    let e : b ≡ c = omega arith in
    let rest : bs ≡ cs = numbers_same (suc b) (suc c) bs cs up.1 on.1 (λ n. elim (cases_lt b n) [
      | inl l ↦ sym (false_or (nat_eq b n) (has_number bs n) (ne_eqb b n (λ f. absurd (omega arith)))) ∙ same n ∙ false_or (nat_eq c n) (has_number cs n) (ne_eqb c n (λ f. absurd (omega arith)))
      | inr l ↦ absent (suc b) bs n up.1 (omega arith) ∙ sym (absent (suc c) cs n on.1 (omega arith))
    ]) in
    cc

-- a pair of rows is not in a row below the first
low_row : (high wide low : ℕ) (rs : List Row) (a b : ℕ) → AreRows high wide low rs → holds rs a b ≡ true → low ≤ a
low_row high wide low [] a b are h = absurd (true≢false (sym h))
low_row high wide low (r ∷ rs) a b are h = elim (or_cases (nat_eq r.state a && has_number r.partners b) (holds rs a b) h) [
  | inl e ↦ let f = eqb-true r.state a (and_parts (nat_eq r.state a) (has_number r.partners b) e).0 in omega (arith, are.0)
  | inr k ↦ let f = low_row high wide (suc r.state) rs a b are.3 k in omega (arith, are.0)
]

pub no_row : (high wide low : ℕ) (rs : List Row) (a b : ℕ) → AreRows high wide low rs → a < low → holds rs a b ≡ false
no_row high wide low rs a b are l = elim (cases_Bool (holds rs a b)) [
  | inl h ↦ let k = low_row high wide low rs a b are h in absurd (omega arith)
  | inr h ↦ h
]

-- a row has a pair
some_pair : (high wide low : ℕ) (r : Row) (rs : List Row) → AreRows high wide low (r ∷ rs) → (b : ℕ) × (holds (r ∷ rs) r.state b ≡ true)
some_pair high wide low r rs are = go r.partners refl
  where
    go : (bs : List ℕ) → r.partners ≡ bs → (b : ℕ) × (holds (r ∷ rs) r.state b ≡ true)
    go [] e = absurd (are.2.some e)
    go (b ∷ bs) e = (b, or_left _ _ (and_from _ _ (eq-eqb r.state r.state refl) (ap (λ ps. has_number ps b) e ∙ or_left (nat_eq b b) _ (eq-eqb b b refl))))

-- the pairs of the first row, and those of the others
first_pairs : (high wide low : ℕ) (r : Row) (rs : List Row) → AreRows high wide low (r ∷ rs) → (b : ℕ) → holds (r ∷ rs) r.state b ≡ has_number r.partners b
first_pairs high wide low r rs are b = rw (eq-eqb r.state r.state refl, no_row high wide (suc r.state) rs r.state b are.3 (omega arith)) (or_false (has_number r.partners b))

other_pairs : (r : Row) (rs : List Row) (a b : ℕ) → (r.state ≡ a → ⊥) → holds (r ∷ rs) a b ≡ holds rs a b
other_pairs r rs a b ne = false_or _ _ (and_left (nat_eq r.state a) _ (ne_eqb r.state a ne))

same_row : (r s : Row) → r.state ≡ s.state → r.partners ≡ s.partners → r ≡ s
same_row r s e f =
    let F : ℕ → List ℕ → Row = λ n ps. record { state = n; partners = ps } in
    ap (λ n. F n r.partners) e ∙ ap (F s.state) f

same_rows : (high wide low on : ℕ) (rs ss : List Row) → AreRows high wide low rs → AreRows high wide on ss → ((a b : ℕ) → holds rs a b ≡ holds ss a b) → rs ≡ ss
same_rows high wide low on [] [] are be same = refl
same_rows high wide low on [] (s ∷ ss) are be same = let p = some_pair high wide on s ss be in absurd (true≢false (sym (same s.state p.0 ∙ p.1)))
same_rows high wide low on (r ∷ rs) [] are be same = let p = some_pair high wide low r rs are in absurd (true≢false (sym p.1 ∙ same r.state p.0))
same_rows high wide low on (r ∷ rs) (s ∷ ss) are be same =
    let p = some_pair high wide low r rs are in
    let q = some_pair high wide on s ss be in
    let above : s.state ≤ r.state = low_row high wide s.state (s ∷ ss) r.state p.0 (omega arith, be.1, be.2, be.3) (sym (same r.state p.0) ∙ p.1) in
    let below : r.state ≤ s.state = low_row high wide r.state (r ∷ rs) s.state q.0 (omega arith, are.1, are.2, are.3) (same s.state q.0 ∙ q.1) in
    let e : r.state ≡ s.state = omega arith in
    let partners : r.partners ≡ s.partners = numbers_same 0 0 r.partners s.partners are.2.order be.2.order (λ b. sym (first_pairs high wide low r rs are b) ∙ same r.state b ∙ ap (λ a. holds (s ∷ ss) a b) e ∙ first_pairs high wide on s ss be b) in
    let first : r ≡ s = same_row r s e partners in
    let rest : rs ≡ ss = same_rows high wide (suc r.state) (suc s.state) rs ss are.3 be.3 (λ a b. elim (cases_eq r.state a) [
      | inl f ↦ no_row high wide (suc r.state) rs a b are.3 (omega arith) ∙ sym (no_row high wide (suc s.state) ss a b be.3 (omega arith))
      | inr f ↦ sym (other_pairs r rs a b f) ∙ same a b ∙ other_pairs s ss a b (λ g. f (e ∙ g))
    ]) in
    cc

pub rows_are_one : RowsAreOne
rows_are_one high wide rs ss are be same = same_rows high wide 0 0 rs ss are be same
