-- Rows, one after another.
use Rattle.std.proofs.Common.{◌≡◌, ℕ, zero, suc, ◌+◌, ◌^◌, ◌<◌, ◌≤◌, Bool, true, false, ◌&&◌, ◌||◌, nat_eq, List, [], ◌∷◌, ◌++◌, length, length-append, get_or, take, drop, replicate, decimal, refl, sym, ap, ◌∙◌, subst, arith, append_assoc, eqb-true}
use Rattle.std.specs.List.{All}
use Rattle.std.proofs.lemmas.List.Elements.{All-head, All-tail}
use Rattle.xs_class.proofs.Lists.{some_pair}
use Rattle.xs_closed.specs.Rows.{Grid, Row, IsRow, AreRows, IsSet, IsSized, blank, has_number, holds, places, rows_from, rows_of, marked}
use Rattle.xs_closed.specs.Laws.{RowsAreMarks, RowsAreOne}
use Rattle.xs_cert_lines.specs.Lines.{row_line, set_lines, written}
use Rattle.xs_cert_lines.specs.Runs.{IsRun}
use Rattle.xs_cert_lines.specs.Numbers.{number_at}
use Rattle.xs_cert_lines.specs.Reading.{listed, IsRowAt, AddsRow, IsSameSet, next_state}
use Rattle.xs_cert_lines.proofs.Numerals.{number_read}
use Rattle.xs_cert_lines.proofs.Partners.{listed_ends}
use Rattle.xs_cert_lines.proofs.Marking.{sized_again, line_is}

-- a table without marks has no rows
no_places : (k n : ℕ) → places k (replicate n false) ≡ []
no_places k zero = refl
no_places k (suc n) = no_places (suc k) n

no_rows_from : (a high wide : ℕ) → rows_from a (replicate high (replicate wide false)) ≡ []
no_rows_from a zero wide = refl
no_rows_from a (suc high) wide = rw (no_places 0 wide) (no_rows_from (suc a) high wide)

pub blank_rows : (z : Grid) → z ≡ blank (length z.rows) z.wide → rows_of z ≡ []
blank_rows z is = ap rows_of is ∙ no_rows_from 0 (length z.rows) z.wide

-- lines of rows, and of one more
pub written_more : (rs : List Row) (r : Row) (rest : List ℕ) → written (set_lines (rs ++ r ∷ [])) ++ rest ≡ written (set_lines rs) ++ (row_line r ++ 10 ∷ rest)
written_more [] r rest = append_assoc (row_line r ++ 10 ∷ []) [] rest ∙ append_assoc (row_line r) (10 ∷ []) rest
written_more (q ∷ rs) r rest =
    append_assoc (row_line q ++ 10 ∷ []) (written (set_lines (rs ++ r ∷ []))) rest
    ∙ ap (λ z. (row_line q ++ 10 ∷ []) ++ z) (written_more rs r rest)
    ∙ sym (append_assoc (row_line q ++ 10 ∷ []) (written (set_lines rs)) (row_line r ++ 10 ∷ rest))

pub next_more : (low : ℕ) (rs : List Row) (r : Row) → next_state low (rs ++ r ∷ []) ≡ suc r.state
next_more low [] r = refl
next_more low (q ∷ rs) r = next_more (suc q.state) rs r

rows_more : (high wide low : ℕ) (rs : List Row) (r : Row) → AreRows high wide low rs → next_state low rs ≤ r.state → r.state < high → IsRow wide r → AreRows high wide low (rs ++ r ∷ [])
rows_more high wide low [] r are order within row = (order, within, row, tt)
rows_more high wide low (q ∷ rs) r are order within row = (are.0, are.1, are.2, rows_more high wide (suc q.state) rs r are.3 order within row)

-- marks of one list and then of another
pub or_assoc : (p q r : Bool) → ((p || q) || r) ≡ (p || (q || r))
or_assoc true q r = refl
or_assoc false q r = refl

pub or_none : (p : Bool) → (p || false) ≡ p
or_none true = refl
or_none false = refl

holds_more : (rs : List Row) (r : Row) (a b : ℕ) → holds (rs ++ r ∷ []) a b ≡ (holds rs a b || (nat_eq r.state a && has_number r.partners b))
holds_more [] r a b = or_none (nat_eq r.state a && has_number r.partners b)
holds_more (q ∷ rs) r a b =
    ap (λ z. (nat_eq q.state a && has_number q.partners b) || z) (holds_more rs r a b)
    ∙ sym (or_assoc (nat_eq q.state a && has_number q.partners b) (holds rs a b) (nat_eq r.state a && has_number r.partners b))

-- a table to which a row was added has that row last
pub record IsMore (high wide first : ℕ) (old new : Grid) (bytes : List ℕ) (next : ℕ) (rest : List ℕ) : Type 0 where
  pub row : Row
  pub sized : IsSized high wide new
  pub rows : rows_of new ≡ rows_of old ++ row ∷ []
  pub next_is : next ≡ suc row.state
  pub order : first ≤ row.state
  pub line : bytes ≡ row_line row ++ 10 ∷ rest

pub added : RowsAreMarks → RowsAreOne → (high wide first : ℕ) (old new : Grid) (bytes : List ℕ) (next : ℕ) (rest : List ℕ)
    → IsSized high wide old → first ≡ next_state 0 (rows_of old) → AddsRow first old new bytes next rest → IsMore high wide first old new bytes next rest
added marks one high wide first old new bytes next rest was at adds =
    let sized : IsSized high wide new = sized_again high wide old new was adds.adds.sized in
    let before = marks high wide old was in
    let after = marks high wide new sized in
    let within : adds.row.state < high = subst (λ k. adds.row.state < k) was.high adds.at.within in
    let row : IsRow wide adds.row = subst (λ k. IsRow k adds.row) was.wide adds.at.row in
    let order : next_state 0 (rows_of old) ≤ adds.row.state = subst (λ k. k ≤ adds.row.state) at adds.at.order in
    let set : IsSet high wide (rows_of old ++ adds.row ∷ []) = rows_more high wide 0 (rows_of old) adds.row before.0 order within row in
    record {
      row = adds.row;
      sized = sized;
      rows = one high wide (rows_of new) (rows_of old ++ adds.row ∷ []) after.0 set
          (λ a b. after.1 a b ∙ adds.adds.marks a b ∙ ap (λ z. z || (nat_eq adds.row.state a && has_number adds.row.partners b)) (sym (before.1 a b)) ∙ sym (holds_more (rows_of old) adds.row a b));
      next_is = adds.is;
      order = adds.at.order;
      line = adds.at.is;
    }

-- the lines so far and that of the row
pub more_there : (front : List ℕ) (high wide first : ℕ) (old new : Grid) (bytes : List ℕ) (next : ℕ) (rest : List ℕ)
    → front ≡ written (set_lines (rows_of old)) ++ bytes → IsMore high wide first old new bytes next rest → front ≡ written (set_lines (rows_of new)) ++ rest
more_there front high wide first old new bytes next rest there more =
    there ∙ ap (λ z. written (set_lines (rows_of old)) ++ z) more.line ∙ sym (written_more (rows_of old) more.row rest)
    ∙ ap (λ z. written (set_lines z) ++ rest) (sym more.rows)

pub more_next : (high wide first : ℕ) (old new : Grid) (bytes : List ℕ) (next : ℕ) (rest : List ℕ) → IsMore high wide first old new bytes next rest → next ≡ next_state 0 (rows_of new)
more_next high wide first old new bytes next rest more = more.next_is ∙ sym (next_more 0 (rows_of old) more.row) ∙ ap (next_state 0) (sym more.rows)

pub more_count : (count high wide first : ℕ) (old new : Grid) (bytes : List ℕ) (next : ℕ) (rest : List ℕ) → count ≡ length (rows_of old) → IsMore high wide first old new bytes next rest → count + 1 ≡ length (rows_of new)
more_count count high wide first old new bytes next rest so more = ap (λ z. z + 1) so ∙ sym (length-append (rows_of old) (more.row ∷ [])) ∙ ap length (sym more.rows)

-- what has the same pairs has the same rows
pub record IsSame (high wide : ℕ) (old new : Grid) : Type 0 where
  pub sized : IsSized high wide new
  pub rows : rows_of new ≡ rows_of old

pub same_set : RowsAreMarks → RowsAreOne → (high wide : ℕ) (old new : Grid) → IsSized high wide old → IsSameSet old new → IsSame high wide old new
same_set marks one high wide old new was is =
    let sized : IsSized high wide new = is.sized high wide was in
    let before = marks high wide old was in
    let after = marks high wide new sized in
    record { sized = sized; rows = one high wide (rows_of new) (rows_of old) after.0 before.0 (λ a b. after.1 a b ∙ is.same a b ∙ sym (before.1 a b)) }

-- numbers from the next on have no partners
next_later : (high wide low : ℕ) (rs : List Row) → AreRows high wide low rs → low ≤ next_state low rs
next_later high wide low [] are = omega arith
next_later high wide low (r ∷ rs) are = let more = next_later high wide (suc r.state) rs are.3 in omega (arith, more, are.0)

holds_later : (high wide low : ℕ) (rs : List Row) (a b : ℕ) → AreRows high wide low rs → next_state low rs ≤ a → holds rs a b ≡ false
holds_later high wide low [] a b are later = refl
holds_later high wide low (r ∷ rs) a b are later =
    let more = next_later high wide (suc r.state) rs are.3 in
    ap (λ z. z || holds rs a b) (other (nat_eq r.state a) refl (omega (arith, more, later))) ∙ holds_later high wide (suc r.state) rs a b are.3 later
  where
    other : (p : Bool) → nat_eq r.state a ≡ p → r.state < a → (p && has_number r.partners b) ≡ false
    other true e below = absurd (omega (arith, eqb-true r.state a e, below))
    other false e below = refl

pub blank_later : RowsAreMarks → (high wide first : ℕ) (z : Grid) → IsSized high wide z → first ≡ next_state 0 (rows_of z) → (a b : ℕ) → first ≤ a → marked z a b ≡ false
blank_later marks high wide first z sized is a b later =
    let rows = marks high wide z sized in
    sym (rows.1 a b) ∙ holds_later high wide 0 (rows_of z) a b rows.0 (subst (λ k. k ≤ a) is later)

-- partners are read in one way
partners_once : (wide : ℕ) (bs cs x y : List ℕ) → wide < 2 ^ 32 → All (λ b. b < wide) bs → All (λ b. b < wide) cs → listed bs ++ 10 ∷ x ≡ listed cs ++ 10 ∷ y → (bs ≡ cs) × (x ≡ y)
partners_once wide [] [] x y small below below' e = (refl, rest e)
  where
    rest : 10 ∷ x ≡ 10 ∷ y → x ≡ y
    rest h = cc
partners_once wide [] (c ∷ cs) x y small below below' e = absurd (differ (ap (λ (z : List ℕ). get_or z 0 0) e))
  where
    differ : ◌≡◌ {A = ℕ} 10 32 → ⊥
    differ h = omega (arith, h)
partners_once wide (b ∷ bs) [] x y small below below' e = absurd (differ (ap (λ (z : List ℕ). get_or z 0 0) e))
  where
    differ : ◌≡◌ {A = ℕ} 32 10 → ⊥
    differ h = omega (arith, h)
partners_once wide (b ∷ bs) (c ∷ cs) x y small below below' e =
    let b_low : b < wide = All-head (λ k. k < wide) b bs below in
    let c_low : c < wide = All-head (λ k. k < wide) c cs below' in
    let left = number_read b (listed bs ++ 10 ∷ x) (omega (arith, b_low, small)) (listed_ends bs x) in
    let right = number_read c (listed cs ++ 10 ∷ y) (omega (arith, c_low, small)) (listed_ends cs y) in
    let same = tails (decimal b) (listed bs) (10 ∷ x) (decimal c) (listed cs) (10 ∷ y) e in
    let p = some_pair b c (listed bs ++ 10 ∷ x) (listed cs ++ 10 ∷ y) (sym left ∙ ap number_at same ∙ right) in
    let more = partners_once wide bs cs x y small (All-tail (λ k. k < wide) b bs below) (All-tail (λ k. k < wide) c cs below') p.1 in
    (ap (λ z. z ∷ bs) p.0 ∙ ap (λ z. c ∷ z) more.0, more.1)
  where
    tails : (d e f g h i : List ℕ) → 32 ∷ ((d ++ e) ++ f) ≡ 32 ∷ ((g ++ h) ++ i) → d ++ (e ++ f) ≡ g ++ (h ++ i)
    tails d e f g h i same = sym (append_assoc d e f) ∙ rest same ∙ append_assoc g h i
      where
        rest : 32 ∷ ((d ++ e) ++ f) ≡ 32 ∷ ((g ++ h) ++ i) → (d ++ e) ++ f ≡ (g ++ h) ++ i
        rest k = cc

-- and so are rows
pub row_once : (high wide : ℕ) (r q : Row) (x y : List ℕ) → high < 2 ^ 32 → wide < 2 ^ 32 → r.state < high → q.state < high → IsRow wide r → IsRow wide q → row_line r ++ 10 ∷ x ≡ row_line q ++ 10 ∷ y → (r ≡ q) × (x ≡ y)
row_once high wide r q x y small narrow r_low q_low r_is q_is e =
    let left = number_read r.state (listed r.partners ++ 10 ∷ x) (omega (arith, r_low, small)) (listed_ends r.partners x) in
    let right = number_read q.state (listed q.partners ++ 10 ∷ y) (omega (arith, q_low, small)) (listed_ends q.partners y) in
    let p = some_pair r.state q.state (listed r.partners ++ 10 ∷ x) (listed q.partners ++ 10 ∷ y) (sym left ∙ ap number_at (sym (line_is r x) ∙ e ∙ line_is q y) ∙ right) in
    let more = partners_once wide r.partners q.partners x y narrow r_is.within q_is.within p.1 in
    (ap (λ z. record { state = z; partners = r.partners }) p.0 ∙ ap (λ z. record { state = q.state; partners = z }) more.0, more.1)

-- any rows that stand there are the first of those before which no other row may come
pub first_rows : (high wide low : ℕ) (rs qs : List Row) (rest s : List ℕ) → high < 2 ^ 32 → wide < 2 ^ 32 → AreRows high wide low rs → AreRows high wide low qs
    → ((r : Row) (x : List ℕ) → IsRowAt (next_state low rs) high wide rest r x → ⊥) → written (set_lines rs) ++ rest ≡ written (set_lines qs) ++ s → qs ≡ take (length qs) rs
first_rows high wide low rs [] rest s small narrow are are' none e = refl
first_rows high wide low [] (q ∷ qs) rest s small narrow are are' none e =
    absurd (none q (written (set_lines qs) ++ s) (record { is = e ∙ line_then q (written (set_lines qs)) s; order = are'.0; within = are'.1; row = are'.2 }))
  where
    line_then : (q : Row) (x y : List ℕ) → ((row_line q ++ 10 ∷ []) ++ x) ++ y ≡ row_line q ++ 10 ∷ (x ++ y)
    line_then q x y = append_assoc (row_line q ++ 10 ∷ []) x y ∙ append_assoc (row_line q) (10 ∷ []) (x ++ y)
first_rows high wide low (r ∷ rs) (q ∷ qs) rest s small narrow are are' none e =
    let p = row_once high wide r q (written (set_lines rs) ++ rest) (written (set_lines qs) ++ s) small narrow are.1 are'.1 are.2 are'.2 (sym (line_then r (written (set_lines rs)) rest) ∙ e ∙ line_then q (written (set_lines qs)) s) in
    let later : AreRows high wide (suc r.state) qs = subst (λ (z : Row). AreRows high wide (suc z.state) qs) (sym p.0) are'.3 in
    let more = first_rows high wide (suc r.state) rs qs rest s small narrow are.3 later none p.1 in
    ap (λ z. q ∷ z) more ∙ ap (λ z. z ∷ take (length qs) rs) (sym p.0)
  where
    line_then : (q : Row) (x y : List ℕ) → ((row_line q ++ 10 ∷ []) ++ x) ++ y ≡ row_line q ++ 10 ∷ (x ++ y)
    line_then q x y = append_assoc (row_line q ++ 10 ∷ []) x y ∙ append_assoc (row_line q) (10 ∷ []) (x ++ y)

-- the whole run
pub run_is : (bytes : List ℕ) (start high wide end count first : ℕ) (z : Grid) → RowsAreMarks → start ≤ end → end ≤ length bytes → high < 2 ^ 32 → wide < 2 ^ 32
    → IsSized high wide z → drop start bytes ≡ written (set_lines (rows_of z)) ++ drop end bytes → first ≡ next_state 0 (rows_of z) → count ≡ length (rows_of z)
    → ((r : Row) (x : List ℕ) → IsRowAt first high wide (drop end bytes) r x → ⊥) → IsRun bytes start high wide end count z
run_is bytes start high wide end count first z marks order within small narrow sized there next so none =
    record {
      sized = sized;
      there = record { order = order; within = within; is = there };
      count = so;
      most = λ rs set goes. first_rows high wide 0 (rows_of z) rs (drop end bytes) goes.rest small narrow (marks high wide z sized).0 set
          (subst (λ k. (r : Row) (x : List ℕ) → IsRowAt k high wide (drop end bytes) r x → ⊥) next none) (sym there ∙ goes.is);
    }

-- no row comes next, where the bounds are those of the table
pub none_next : (first high wide top broad : ℕ) (rest : List ℕ) → top ≡ high → broad ≡ wide → ((r : Row) (x : List ℕ) → IsRowAt first top broad rest r x → ⊥) → (r : Row) (x : List ℕ) → IsRowAt first high wide rest r x → ⊥
none_next first high wide top broad rest top_is broad_is none r x at =
    none r x (subst (λ k. IsRowAt first k broad rest r x) (sym top_is) (subst (λ k. IsRowAt first high k rest r x) (sym broad_is) at))
