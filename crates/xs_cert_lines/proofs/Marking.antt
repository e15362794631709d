-- Marking the partners of a row, one after another.
use Rattle.std.proofs.Common.{◌≡◌, ℕ, suc, ◌+◌, ◌^◌, ◌<◌, ◌≤◌, Bool, true, false, ◌&&◌, ◌||◌, nat_eq, List, [], ◌∷◌, ◌++◌, length, Some, None, decimal, refl, sym, ap, ◌∙◌, subst, inl, inr, arith, add-one, append_assoc, append-nil, eqb-true}
use Rattle.std.proofs.lemmas.Bool.{cases_eq}
use Rattle.std.specs.List.{All}
use Rattle.std.proofs.lemmas.List.Elements.{All-head, All-tail}
use Rattle.xs_class.proofs.Truth.{eq_self, or_right, false_true}
use Rattle.xs_class.proofs.Lists.{some_pair}
use Rattle.xs_closed.specs.Rows.{Grid, Row, IsSized, Marks, Ascends, marked, has_number}
use Rattle.xs_closed.specs.Lanes.{HasNoRow}
use Rattle.xs_cert_lines.specs.Lines.{spaced, row_line}
use Rattle.xs_cert_lines.specs.Numbers.{within_at, partner_at}
use Rattle.xs_cert_lines.specs.Reading.{listed, ArePartners, HasPartners, MarksIn, ReadsPartners, IsRowAt, AddsRow, IsSameSet}
use Rattle.xs_cert_lines.proofs.Numerals.{none_pair, within_found, within_read, partner_read}
use Rattle.xs_cert_lines.proofs.Partners.{SameRests, listed_ends, last_skipped}

-- where the next partners and the marks so far make up those of a row
pub record IsMarking (first end : ℕ) (old new : Grid) (a : ℕ) (bytes bs rest : List ℕ) : Type 0 where
  pub others : List ℕ
  pub left : bytes ≡ listed others ++ 10 ∷ rest
  pub order : Ascends first others
  pub within : All (λ b. b < end) others
  pub marks : (c d : ℕ) → (marked new c d || (nat_eq a c && has_number others d)) ≡ (marked old c d || (nat_eq a c && has_number bs d))

or_two : (x p q r : Bool) → ((x || (p && q)) || (p && r)) ≡ (x || (p && (q || r)))
or_two true p q r = refl
or_two false true q r = refl
or_two false false q r = refl

or_no : (x p : Bool) → (x || (p && false)) ≡ x
or_no true p = refl
or_no false true = refl
or_no false false = refl

-- what one mark more says of each pair
pub one_mark : (old new : Grid) (a b : ℕ) → Marks old new a b → (c d : ℕ) → marked new c d ≡ (marked old c d || (nat_eq a c && nat_eq b d))
one_mark old new a b m c d = by (nat_eq a c) (nat_eq b d) refl refl
  where
    or_true : (x : Bool) → (x || true) ≡ true
    or_true true = refl
    or_true false = refl

    differ : (x y : ℕ) → nat_eq x y ≡ false → x ≡ y → ⊥
    differ x y e same = both (sym e ∙ ap (nat_eq x) (sym same) ∙ eq_self x)
      where
        both : false ≡ true → ⊥
        both h = cc

    by : (p q : Bool) → nat_eq a c ≡ p → nat_eq b d ≡ q → marked new c d ≡ (marked old c d || (p && q))
    by true true p q = let x : a ≡ c = eqb-true a c p in let y : b ≡ d = eqb-true b d q in subst (λ z. marked new z d ≡ true) x (subst (λ z. marked new a z ≡ true) y m.there) ∙ sym (or_true (marked old c d))
    by true false p q = m.others c d (λ x y. differ b d q (sym y)) ∙ sym (or_no (marked old c d) true)
    by false q p e = m.others c d (λ x y. differ a c p (sym x)) ∙ sym (or_no (marked old c d) false)

pub marking_goes_on : (first end : ℕ) (old now new : Grid) (a : ℕ) (bytes bs rest : List ℕ) (n : ℕ) (more : List ℕ)
    → end < 2 ^ 32 → Some (n, more) ≡ partner_at first end bytes → Marks now new a n → IsMarking first end old now a bytes bs rest → IsMarking (suc n) end old new a more bs rest
marking_goes_on first end old now new a bytes bs rest n more small at m is = by is.others is.left is.order is.within is.marks
  where
    by : (others : List ℕ) → bytes ≡ listed others ++ 10 ∷ rest → Ascends first others → All (λ b. b < end) others → ((c d : ℕ) → (marked now c d || (nat_eq a c && has_number others d)) ≡ (marked old c d || (nat_eq a c && has_number bs d))) → IsMarking (suc n) end old new a more bs rest
    by [] left order within marks = absurd (none_pair (n, more) (ap (partner_at first end) (sym left) ∙ sym at))
    by (b ∷ others) left order within marks =
        let below : b < end = All-head (λ c. c < end) b others within in
        let read = partner_read first end b (listed others ++ 10 ∷ rest) order.0 below (omega (arith, below, small)) (listed_ends others rest) in
        let whole : bytes ≡ 32 ∷ (decimal b ++ (listed others ++ 10 ∷ rest)) = left ∙ ap (λ z. 32 ∷ z) (append_assoc (decimal b) (listed others) (10 ∷ rest)) in
        let e = some_pair n b more (listed others ++ 10 ∷ rest) (at ∙ ap (partner_at first end) whole ∙ read) in
        record {
          others = others;
          left = e.1;
          order = subst (λ z. Ascends (suc z) others) (sym e.0) order.1;
          within = All-tail (λ c. c < end) b others within;
          marks = λ c d.
              ap (λ z. z || (nat_eq a c && has_number others d)) (one_mark now new a n m c d)
              ∙ or_two (marked now c d) (nat_eq a c) (nat_eq n d) (has_number others d)
              ∙ ap (λ z. marked now c d || (nat_eq a c && (nat_eq z d || has_number others d))) e.0
              ∙ marks c d;
        }

pub marking_ends : (first end : ℕ) (old new : Grid) (a : ℕ) (bytes bs rest : List ℕ)
    → end < 2 ^ 32 → None ≡ partner_at first end bytes → IsMarking first end old new a bytes bs rest → (c d : ℕ) → marked new c d ≡ (marked old c d || (nat_eq a c && has_number bs d))
marking_ends first end old new a bytes bs rest small at is c d = by is.others is.left is.order is.within (is.marks c d)
  where
    by : (others : List ℕ) → bytes ≡ listed others ++ 10 ∷ rest → Ascends first others → All (λ b. b < end) others → (marked new c d || (nat_eq a c && has_number others d)) ≡ (marked old c d || (nat_eq a c && has_number bs d)) → marked new c d ≡ (marked old c d || (nat_eq a c && has_number bs d))
    by [] left order within marks = sym (or_no (marked new c d) (nat_eq a c)) ∙ marks
    by (b ∷ others) left order within marks =
        let below : b < end = All-head (λ c. c < end) b others within in
        let read = partner_read first end b (listed others ++ 10 ∷ rest) order.0 below (omega (arith, below, small)) (listed_ends others rest) in
        let whole : bytes ≡ 32 ∷ (decimal b ++ (listed others ++ 10 ∷ rest)) = left ∙ ap (λ z. 32 ∷ z) (append_assoc (decimal b) (listed others) (10 ∷ rest)) in
        absurd (none_pair (b, listed others ++ 10 ∷ rest) (at ∙ ap (partner_at first end) whole ∙ read))

pub sized_again : (high wide : ℕ) (old new : Grid) → IsSized high wide old → IsSized (length old.rows) old.wide new → IsSized high wide new
sized_again high wide old new was is = subst (λ k. IsSized k wide new) was.high (subst (λ k. IsSized (length old.rows) k new) was.wide is)

-- a text and its numbers
pub spaced_is : (text ns : List ℕ) → spaced text ns ≡ text ++ listed ns
spaced_is text [] = sym (append-nil text)
spaced_is text (n ∷ ns) = spaced_is (text ++ 32 ∷ decimal n) ns ∙ append_assoc text (32 ∷ decimal n) (listed ns)

pub line_is : (r : Row) (rest : List ℕ) → row_line r ++ 10 ∷ rest ≡ decimal r.state ++ (listed r.partners ++ 10 ∷ rest)
line_is r rest = ap (λ z. z ++ 10 ∷ rest) (spaced_is (decimal r.state) r.partners) ∙ append_assoc (decimal r.state) (listed r.partners) (10 ∷ rest)

-- the number of a row that stands there is read
pub state_read : (first high wide : ℕ) (bytes : List ℕ) (r : Row) (rest : List ℕ) → high < 2 ^ 32 → IsRowAt first high wide bytes r rest → within_at first high bytes ≡ Some (r.state, listed r.partners ++ 10 ∷ rest)
state_read first high wide bytes r rest small at =
    ap (within_at first high) (at.is ∙ line_is r rest)
    ∙ within_read first high r.state (listed r.partners ++ 10 ∷ rest) at.order at.within (omega (arith, at.within, small)) (listed_ends r.partners rest)

pub no_state : (first high wide : ℕ) (bytes : List ℕ) → high < 2 ^ 32 → None ≡ within_at first high bytes → (r : Row) (rest : List ℕ) → IsRowAt first high wide bytes r rest → ⊥
no_state first high wide bytes small none r rest at = none_pair (r.state, listed r.partners ++ 10 ∷ rest) (none ∙ state_read first high wide bytes r rest small at)

pub no_rest : (first high wide : ℕ) (bytes : List ℕ) (state : ℕ) (partners : List ℕ)
    → high < 2 ^ 32 → Some (state, partners) ≡ within_at first high bytes → ((rest : List ℕ) → HasPartners 0 wide partners rest → ⊥)
    → (r : Row) (rest : List ℕ) → IsRowAt first high wide bytes r rest → ⊥
no_rest first high wide bytes state partners small at none r rest is =
    let e = some_pair state r.state partners (listed r.partners ++ 10 ∷ rest) (at ∙ state_read first high wide bytes r rest small is) in
    none rest (record { partners = r.partners; are = record { is = e.1; some = is.row.some; order = is.row.order; within = is.row.within } })

pub row_added : (first high : ℕ) (old new : Grid) (bytes : List ℕ) (state : ℕ) (partners rest : List ℕ)
    → high ≡ length old.rows → Some (state, partners) ≡ within_at first high bytes → ReadsPartners old new state partners rest
    → AddsRow first old new bytes (state + 1) rest
row_added first high old new bytes state partners rest high_is at reads =
    let found = within_found first high bytes state partners (sym at) in
    let row : Row = record { state = state; partners = reads.partners } in
    record {
      row = row;
      is = add-one state;
      at = record {
        is = found.is ∙ ap (λ z. decimal state ++ z) reads.are.is ∙ sym (line_is row rest);
        order = found.order;
        within = subst (λ k. state < k) high_is found.below;
        row = record { some = reads.are.some; order = reads.are.order; within = reads.are.within };
      };
      adds = reads.marks;
    }

-- and the last, with a line feed after it
pub last_marked : (end first : ℕ) (old now new : Grid) (a : ℕ) (bytes rest : List ℕ) (n : ℕ) (more after : List ℕ)
    → end < 2 ^ 32 → end ≡ old.wide → SameRests end 0 bytes first rest → Some (n, more) ≡ partner_at first end rest → more ≡ 10 ∷ after
    → IsSized (length old.rows) old.wide new → Marks now new a n
    → ((ps r : List ℕ) → ArePartners 0 old.wide bytes ps r → IsMarking first end old now a rest ps r) → ReadsPartners old new a bytes after
last_marked end first old now new a bytes rest n more after small is same at feed sized m marking =
    let has = last_skipped end 0 bytes first rest n more after same at feed in
    let are : ArePartners 0 old.wide bytes has.partners after = subst (λ k. ArePartners 0 k bytes has.partners after) is has.are in
    let next = marking_goes_on first end old now new a rest has.partners after n more small at m (marking has.partners after are) in
    record {
      partners = has.partners;
      are = are;
      marks = record { sized = sized; marks = marking_ends (suc n) end old new a more has.partners after small (sym (ap (partner_at (suc n) end) feed)) next };
    }

-- one pair more of a number
pub marks_in_more : (old now new : Grid) (a b : ℕ) → MarksIn old now a → IsSized (length now.rows) now.wide new → Marks now new a b → MarksIn old new a
marks_in_more old now new a b is sized m = record {
  sized = sized_again (length old.rows) old.wide now new is.sized sized;
  others = λ c d ne. m.others c d (λ x y. ne x) ∙ is.others c d ne;
}

-- a row that was blank is blank again
pub cleared_same : (first : ℕ) (old now new : Grid) (a : ℕ) → ((c d : ℕ) → first ≤ c → marked old c d ≡ false) → first ≤ a
    → MarksIn old now a → IsSized (length now.rows) now.wide new → HasNoRow now new a → IsSameSet old new
cleared_same first old now new a blank order is sized none = record {
  sized = λ high wide was. sized_again high wide old new was (sized_again (length old.rows) old.wide now new is.sized sized);
  same = λ c d. elim (cases_eq c a) [
    | inl e ↦ subst (λ k. marked new k d ≡ marked old k d) (sym e) (none.clear d ∙ sym (blank a d order))
    | inr ne ↦ none.others c d ne ∙ is.others c d ne
  ];
}

-- no row stands where no line feed comes
has_there : (l rest : List ℕ) → has_number (l ++ 10 ∷ rest) 10 ≡ true
has_there [] rest = refl
has_there (c ∷ cs) rest = or_right (nat_eq c 10) (has_number (cs ++ 10 ∷ rest) 10) (has_there cs rest)

pub no_feed : (first high wide : ℕ) (bytes : List ℕ) → has_number bytes 10 ≡ false → (r : Row) (rest : List ℕ) → IsRowAt first high wide bytes r rest → ⊥
no_feed first high wide bytes none r rest at = false_true (sym none ∙ ap (λ z. has_number z 10) at.is ∙ has_there (row_line r) rest)
