-- Shortest ways through an automaton.
use Rattle.std.proofs.Common.{◌≡◌, ◌≢◌, ◌⊎◌, inl, inr, ℕ, ◌+◌, ◌<◌, ◌≤◌, List, [], ◌∷◌, length, length-append, refl, sym, subst, ◌∙◌, ap, arith, Some, Contains, IsSomeAnd, set, true, false, slice_get, Bool, IsTrue, ◌==◌}
use Rattle.std.proofs.lemmas.List.{get_or-set_same, get_or-set_other, get_or_default}
use Rattle.std.proofs.lemmas.List.Sums.{sum_by-set}
use Rattle.std.proofs.Math.ListN.{length-set}
use Rattle.std.proofs.lemmas.Bool.Decides.{eqb_tells}
use Rattle.xs_class.specs.Classes.{Has}
use Rattle.xs_regex.specs.declared.position.Position.{Position}
use Rattle.xs_regex.specs.Automaton.{Accepts, HasAt, IsBelow, IsWellFormed, Leads, Runs, begins, goes}
use Rattle.xs_cover.specs.Tables.{at, total}
use Rattle.xs_cover.specs.Shortest.{HasSymbol, IsLowest, IsOnTheWay, AreRests, IsSettled}

pub contains_at : (xs : List ℕ) (i : ℕ) → i < length xs → Contains xs (at xs i)
contains_at xs i h = (i, h, get_or_default xs i (at xs i) 0 h)

at_contained : (xs : List ℕ) (k : ℕ) (c : Contains xs k) → at xs c.0 ≡ k
at_contained xs k c = get_or_default xs c.0 0 k c.1 ∙ c.2

pub below_at : (xs : List ℕ) (bound i : ℕ) → IsBelow xs bound → i < length xs → at xs i < bound
below_at xs bound i below h = below (at xs i) (contains_at xs i h)

pub total_set : (xs : List ℕ) (i v : ℕ) → i < length xs → v < at xs i → total (set xs i v) < total xs
total_set xs i v h less = omega (arith, sum_by-set (λ (n : ℕ). n) xs i v 0 h)

-- what is lowest is at most each
pub lowest_of : (positions rests : List ℕ) (least k : ℕ) → IsLowest positions rests least → Contains positions k → at rests least ≤ at rests k
lowest_of positions rests least k low c = subst (λ n. at rests least ≤ at rests n) (at_contained positions k c) (low.lowest c.0 c.1)

pub row_of : (p : Position) (j k : ℕ) (row : List ℕ) → slice_get p.follow j ≡ Some row → Leads p j k → Contains row k
row_of p j k row e leads = subst (λ o. IsSomeAnd o (λ r. Contains r k)) e leads

pub in_row : (p : Position) (j k : ℕ) (row : List ℕ) → slice_get p.follow j ≡ Some row → Contains row k → Leads p j k
in_row p j k row e c = subst (λ o. IsSomeAnd o (λ r. Contains r k)) (sym e) c

row_below : (p : Position) (j : ℕ) (row : List ℕ) → IsWellFormed p → slice_get p.follow j ≡ Some row → IsBelow row (length p.classes)
row_below p j row formed e = λ k c. formed.follow_in j k (in_row p j k row e c)

pub follow_below : (p : Position) (j bound : ℕ) (row : List ℕ) → IsWellFormed p → length p.classes ≡ bound → slice_get p.follow j ≡ Some row → IsBelow row bound
follow_below p j bound row formed e get = subst (λ n. IsBelow row n) e (row_below p j row formed get)

pub at_set : (xs : List ℕ) (i k v : ℕ) → i < length xs → ((k ≡ i) × (at (set xs i v) k ≡ v)) ⊎ ((k ≢ i) × (at (set xs i v) k ≡ at xs k))
at_set xs i k v h = elim (eqb_tells k i) [
  | inl (one, same) ↦ inl (same, ap (λ n. at (set xs i v) n) same ∙ get_or-set_same xs i v 0 h)
  | inr (two, ne) ↦ inr (ne, get_or-set_other xs i k v 0 ne)
]

-- a lower number at one position
pub lower_rests : (p : Position) (rests : List ℕ) (position next rest : ℕ) → AreRests p rests → position < length p.classes → HasSymbol p position → Leads p position next → rest ≡ at rests next + 1 → rest < at rests position → AreRests p (set rests position rest)
lower_rests p rests position next rest known within symbol leads is less = record {
  counted = length-set rests position rest ∙ known.counted;
  low = λ k. low k (at_set rests position k rest there);
  symbols = λ k near h. symbols k near h (at_set rests position k rest there);
  ends = λ k last has. ends k last has (at_set rests position k rest there);
  onward = λ k h near. onward k h near (at_set rests position k rest there) (at_set rests position next rest there);
}
  where
    there : position < length rests
    there = omega (arith, known.counted, within)

    low : (k : ℕ) → ((k ≡ position) × (at (set rests position rest) k ≡ rest)) ⊎ ((k ≢ position) × (at (set rests position rest) k ≡ at rests k)) → at (set rests position rest) k ≤ 1000
    low k (inl here) = omega (arith, here.1, less, known.low position)
    low k (inr other) = omega (arith, other.1, known.low k)

    symbols : (k : ℕ) → at (set rests position rest) k < 1000 → k < length p.classes → ((k ≡ position) × (at (set rests position rest) k ≡ rest)) ⊎ ((k ≢ position) × (at (set rests position rest) k ≡ at rests k)) → HasSymbol p k
    symbols k near h (inl here) = subst (λ j. HasSymbol p j) (sym here.0) symbol
    symbols k near h (inr other) = known.symbols k (omega (arith, other.1, near)) h

    ends : (k : ℕ) → Contains p.last k → HasSymbol p k → ((k ≡ position) × (at (set rests position rest) k ≡ rest)) ⊎ ((k ≢ position) × (at (set rests position rest) k ≡ at rests k)) → at (set rests position rest) k ≡ 0
    ends k last has (inl here) = absurd (omega (arith, less, ap (λ n. at rests n) here.0, known.ends k last has))
    ends k last has (inr other) = other.1 ∙ known.ends k last has

    lower_than : (j bound : ℕ) → at rests j < bound → ((j ≡ position) × (at (set rests position rest) j ≡ rest)) ⊎ ((j ≢ position) × (at (set rests position rest) j ≡ at rests j)) → at (set rests position rest) j < bound
    lower_than j bound h (inl here) = omega (arith, here.1, less, h, ap (λ n. at rests n) here.0)
    lower_than j bound h (inr other) = omega (arith, other.1, h)

    kept : (k : ℕ) → at (set rests position rest) k ≡ at rests k → IsOnTheWay p rests k → IsOnTheWay p (set rests position rest) k
    kept k e (inl last) = inl last
    kept k e (inr way) = inr (way.0, way.1, lower_than way.0 (at (set rests position rest) k) (omega (arith, e, way.2)) (at_set rests position way.0 rest there))

    onward : (k : ℕ) → k < length p.classes → at (set rests position rest) k < 1000 → ((k ≡ position) × (at (set rests position rest) k ≡ rest)) ⊎ ((k ≢ position) × (at (set rests position rest) k ≡ at rests k)) → ((next ≡ position) × (at (set rests position rest) next ≡ rest)) ⊎ ((next ≢ position) × (at (set rests position rest) next ≡ at rests next)) → IsOnTheWay p (set rests position rest) k
    onward k h near (inl here) (inl same) = absurd (omega (arith, less, is, ap (λ n. at rests n) same.0))
    onward k h near (inl here) (inr apart) = inr (next, subst (λ j. Leads p j next) (sym here.0) leads, omega (arith, apart.1, here.1, is))
    onward k h near (inr other) at_next = kept k other.1 (known.onward k h (omega (arith, other.1, near)))

pub settled_none : (p : Position) (rests : List ℕ) (j : ℕ) (row : List ℕ) → slice_get p.follow j ≡ Some row → row ≡ [] → IsSettled p rests j
settled_none p rests j row get none = λ has k leads. absurd (no_element k (subst (λ r. Contains r k) none (row_of p j k row get leads)))
  where
    no_element : (k : ℕ) → Contains [] k → ⊥
    no_element k c = omega (arith, c.1)

pub settled_unseen : (p : Position) (rests : List ℕ) (j : ℕ) → (HasSymbol p j → ⊥) → IsSettled p rests j
settled_unseen p rests j unseen = λ has k leads. absurd (unseen has)

pub settled_low : (p : Position) (rests : List ℕ) (j next : ℕ) (row : List ℕ) → slice_get p.follow j ≡ Some row → IsLowest row rests next → at rests j ≤ at rests next + 1 → IsSettled p rests j
settled_low p rests j next row get low h = λ has k leads. omega (arith, h, lowest_of row rests next k low (row_of p j k row get leads))

-- what follows with the least to come has less to come
next_less : (p : Position) (rests : List ℕ) (j next : ℕ) (row : List ℕ) → AreRests p rests → j < length p.classes → at rests j < 1000 → 0 < at rests j → slice_get p.follow j ≡ Some row → IsLowest row rests next → at rests next < at rests j
next_less p rests j next row known h near some get low = by (known.onward j h near)
  where
    by : IsOnTheWay p rests j → at rests next < at rests j
    by (inl last) = absurd (omega (arith, some, known.ends j last (known.symbols j near h)))
    by (inr way) = omega (arith, way.2, lowest_of row rests next way.0 low (row_of p j way.0 row get way.1))

-- a position that follows j, and from which there is less to come
pub record IsNext (p : Position) (rests : List ℕ) (j next : ℕ) : Type 0 where
  pub leads : Leads p j next
  pub within : next < length p.classes
  pub less : at rests next < at rests j

pub is_next : (p : Position) (rests : List ℕ) (j next : ℕ) (row : List ℕ) → IsWellFormed p → AreRests p rests → j < length p.classes → at rests j < 1000 → 0 < at rests j → slice_get p.follow j ≡ Some row → IsLowest row rests next → IsNext p rests j next
is_next p rests j next row formed known h near some get low = record {
  leads = in_row p j next row get low.among;
  within = follow_below p j (length p.classes) row formed refl get next low.among;
  less = next_less p rests j next row known h near some get low;
}

-- a position from which an end is known and something is to come has one that follows
pub some_next : (p : Position) (rests : List ℕ) (j : ℕ) (row : List ℕ) → AreRests p rests → j < length p.classes → at rests j < 1000 → 0 < at rests j → slice_get p.follow j ≡ Some row → row ≡ [] → ⊥
some_next p rests j row known h near some get none = by (known.onward j h near)
  where
    by : IsOnTheWay p rests j → ⊥
    by (inl last) = omega (arith, some, known.ends j last (known.symbols j near h))
    by (inr way) = omega (arith, (subst (λ r. Contains r way.0) none (row_of p j way.0 row get way.1)).1)

-- where nothing is to come, the position is a last one
pub is_last : (p : Position) (rests : List ℕ) (j : ℕ) → AreRests p rests → j < length p.classes → at rests j ≡ 0 → Contains p.last j
is_last p rests j known h none = by (known.onward j h (omega (arith, none)))
  where
    by : IsOnTheWay p rests j → Contains p.last j
    by (inl last) = last
    by (inr way) = absurd (omega (arith, way.2, none))

run_within : (p : Position) (v : List ℕ) (j : ℕ) → IsWellFormed p → Runs p v j → j < length p.classes
run_within p v j formed (begins s c has e) = formed.first_in j c
run_within p v j formed (goes u i s run leads has e) = formed.follow_in i j leads

run_symbol : (p : Position) (v : List ℕ) (j : ℕ) → Runs p v j → HasSymbol p j
run_symbol p v j (begins s c has e) = (s, has)
run_symbol p v j (goes u i s run leads has e) = (s, has)

-- a way to a position is as long as what is to come at the best first one asks for
pub runs_long : (p : Position) (rests w : List ℕ) (first k : ℕ) → IsWellFormed p → ((j : ℕ) → j < length p.classes → IsSettled p rests j) → IsLowest p.first rests first → Runs p w k → at rests first + 1 ≤ length w + at rests k
runs_long p rests w first k formed settled low (begins s c has e) = omega (arith, lowest_of p.first rests first k low c, ap length e)
runs_long p rests w first k formed settled low (goes v j s run leads has e) =
    let within : j < length p.classes = run_within p v j formed run in
    omega (arith, runs_long p rests v first j formed settled low run, settled j within (run_symbol p v j run) k leads, ap length e, length-append v (s ∷ []))

false_true : false ≡ true → ⊥
false_true e = cc

never : (b : Bool) → b ≡ false → IsTrue b → ⊥
never b e t = false_true (sym e ∙ t)

-- the shortest word asks for as much as stands at the best first position
pub accepted_long : (p : Position) (rests w : List ℕ) (first : ℕ) → IsWellFormed p → AreRests p rests → p.nullable ≡ false → ((j : ℕ) → j < length p.classes → IsSettled p rests j) → IsLowest p.first rests first → Accepts p w → at rests first + 1 ≤ length w
accepted_long p rests w first formed known never_null settled low (inl empty) = absurd (never p.nullable never_null empty.1)
accepted_long p rests w first formed known never_null settled low (inr run) = omega (arith, runs_long p rests w first run.0 formed settled low run.1, known.ends run.0 run.2 (run_symbol p w run.0 run.1))

-- a class with a least member has a symbol, one without members has none
pub symbol_there : (p : Position) (k s : ℕ) (class : List (ℕ × ℕ)) → slice_get p.classes k ≡ Some class → Has class s → HasAt p k s
symbol_there p k s class get has = subst (λ o. IsSomeAnd o (λ c. Has c s)) (sym get) has

pub no_symbol : (p : Position) (k : ℕ) (class : List (ℕ × ℕ)) → slice_get p.classes k ≡ Some class → class ≡ [] → HasSymbol p k → ⊥
no_symbol p k class get none has =
    let in_class : Has class has.0 = subst (λ o. IsSomeAnd o (λ c. Has c has.0)) get has.1 in
    subst (λ c. Has c has.0) none in_class

pub some_first : (p : Position) (w : List ℕ) → p.nullable ≡ false → p.first ≡ [] → Accepts p w → ⊥
some_first p w never_null none (inl empty) = never p.nullable never_null empty.1
some_first p w never_null none (inr run) = by w run.0 run.1
  where
    by : (v : List ℕ) (k : ℕ) → Runs p v k → ⊥
    by v k (begins s c has e) = omega (arith, (subst (λ xs. Contains xs k) none c).1)
    by v k (goes u j s run leads has e) = by u j run

-- one more last position has 0
pub ends_set : (p : Position) (rests row : List ℕ) (n : ℕ) → n < length row → at row n < length rests → ((i : ℕ) → i < n → HasSymbol p (at row i) → at rests (at row i) ≡ 0) → (i : ℕ) → i < n + 1 → HasSymbol p (at row i) → at (set rests (at row n) 0) (at row i) ≡ 0
ends_set p rests row n h there ends i below has = by (at_set rests (at row n) (at row i) 0 there)
  where
    earlier : (at row i ≢ at row n) → (((i == n) ≡ true) × (i ≡ n)) ⊎ (((i == n) ≡ false) × (i ≢ n)) → at rests (at row i) ≡ 0
    earlier other (inl same) = absurd (other (ap (λ j. at row j) same.1))
    earlier other (inr apart) = let ne = apart.1 in ends i (omega arith) has

    by : ((at row i ≡ at row n) × (at (set rests (at row n) 0) (at row i) ≡ 0)) ⊎ ((at row i ≢ at row n) × (at (set rests (at row n) 0) (at row i) ≡ at rests (at row i))) → at (set rests (at row n) 0) (at row i) ≡ 0
    by (inl here) = here.1
    by (inr other) = other.1 ∙ earlier other.0 (eqb_tells i n)

-- one more last position has no symbol
pub ends_past : (p : Position) (rests row : List ℕ) (n : ℕ) → (HasSymbol p (at row n) → ⊥) → ((i : ℕ) → i < n → HasSymbol p (at row i) → at rests (at row i) ≡ 0) → (i : ℕ) → i < n + 1 → HasSymbol p (at row i) → at rests (at row i) ≡ 0
ends_past p rests row n unseen ends i below has = by (eqb_tells i n)
  where
    by : (((i == n) ≡ true) × (i ≡ n)) ⊎ (((i == n) ≡ false) × (i ≢ n)) → at rests (at row i) ≡ 0
    by (inl same) = absurd (unseen (subst (λ j. HasSymbol p (at row j)) same.1 has))
    by (inr apart) = let ne = apart.1 in ends i (omega arith) has

pub symbols_set : (p : Position) (rests : List ℕ) (last : ℕ) → last < length rests → HasSymbol p last → ((k : ℕ) → at rests k < 1000 → k < length p.classes → HasSymbol p k) → (k : ℕ) → at (set rests last 0) k < 1000 → k < length p.classes → HasSymbol p k
symbols_set p rests last there symbol symbols k near h = by (at_set rests last k 0 there)
  where
    by : ((k ≡ last) × (at (set rests last 0) k ≡ 0)) ⊎ ((k ≢ last) × (at (set rests last 0) k ≡ at rests k)) → HasSymbol p k
    by (inl here) = subst (λ j. HasSymbol p j) (sym here.0) symbol
    by (inr other) = symbols k (omega (arith, other.1, near)) h

pub low_set : (rests : List ℕ) (k : ℕ) → k < length rests → ((j : ℕ) → at rests j ≤ 1000) → (j : ℕ) → at (set rests k 0) j ≤ 1000
low_set rests k there low j = by (at_set rests k j 0 there)
  where
    by : ((j ≡ k) × (at (set rests k 0) j ≡ 0)) ⊎ ((j ≢ k) × (at (set rests k 0) j ≡ at rests j)) → at (set rests k 0) j ≤ 1000
    by (inl here) = omega (arith, here.1)
    by (inr other) = omega (arith, other.1, low j)

pub onward_set : (p : Position) (rests : List ℕ) (last : ℕ) → last < length rests → Contains p.last last → ((k : ℕ) → k < length p.classes → at rests k < 1000 → IsOnTheWay p rests k) → (k : ℕ) → k < length p.classes → at (set rests last 0) k < 1000 → IsOnTheWay p (set rests last 0) k
onward_set p rests last there is onward k h near = by (at_set rests last k 0 there)
  where
    lower_than : (j bound : ℕ) → at rests j < bound → ((j ≡ last) × (at (set rests last 0) j ≡ 0)) ⊎ ((j ≢ last) × (at (set rests last 0) j ≡ at rests j)) → at (set rests last 0) j < bound
    lower_than j bound less (inl here) = omega (arith, here.1, less)
    lower_than j bound less (inr other) = omega (arith, other.1, less)

    kept : at (set rests last 0) k ≡ at rests k → IsOnTheWay p rests k → IsOnTheWay p (set rests last 0) k
    kept e (inl at_end) = inl at_end
    kept e (inr way) = inr (way.0, way.1, lower_than way.0 (at (set rests last 0) k) (omega (arith, e, way.2)) (at_set rests last way.0 0 there))

    by : ((k ≡ last) × (at (set rests last 0) k ≡ 0)) ⊎ ((k ≢ last) × (at (set rests last 0) k ≡ at rests k)) → IsOnTheWay p (set rests last 0) k
    by (inl here) = inl (subst (λ j. Contains p.last j) (sym here.0) is)
    by (inr other) = kept other.1 (onward k h (omega (arith, other.1, near)))

pub all_ends : (p : Position) (rests row : List ℕ) (n : ℕ) → row ≡ p.last → length row ≤ n → ((i : ℕ) → i < n → HasSymbol p (at row i) → at rests (at row i) ≡ 0) → (k : ℕ) → Contains p.last k → HasSymbol p k → at rests k ≡ 0
all_ends p rests row n e long ends k c has =
    let here : Contains row k = subst (λ xs. Contains xs k) (sym e) c in
    let is : at row here.0 ≡ k = at_contained row k here in
    let zero_here : at rests (at row here.0) ≡ 0 = ends here.0 (omega (arith, here.1, long)) (subst (λ j. HasSymbol p j) (sym is) has) in
    subst (λ j. at rests j ≡ 0) is zero_here
