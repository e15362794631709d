-- The sets of a block, as far as they are right.
use Rattle.std.proofs.Common.{◌≡◌, inl, inr, ℕ, zero, suc, ◌+◌, ◌≤◌, ◌<◌, nat_eq, Bool, true, false, List, [], ◌∷◌, ◌++◌, length, take, drop, refl, sym, ap, subst, ◌∙◌, arith, append_assoc, codes, Option, None, Some, IfSome, IfNone, Result, Ok, Err, IfOk, eqb-true, if◌then◌else◌}
use Rattle.std.proofs.lemmas.List.{map-append, take-take, take_all, length-map, length-take}
use Rattle.std.proofs.lemmas.Bool.{cases_lt, eqb-false}
use Rattle.xs_class.specs.declared.memory.Memory.{Memory}
use Rattle.xs_auto.specs.Nets.{Graph, states}
use Rattle.xs_meet.specs.Closed.{IsApart, IsClear}
use Rattle.xs_closed.specs.Rows.{Grid, Row, IsSized, AreRows, IsSet, rows_of}
use Rattle.xs_closed.specs.Laws.{RowsAreMarks}
use Rattle.xs_closed.specs.Longest.{IsGreatest, IsGreatestIn, IsApartBy, IsClearBy}
use Rattle.xs_closed.specs.declared.sets.CutSets.{CutSets}
use Rattle.xs_cert_lines.specs.Lines.{Lines, row_line, set_lines, ended, written}
use Rattle.xs_cert_lines.specs.Runs.{GoesOn, IsRun}
use Rattle.xs_cert_lines.specs.Numbers.{begins_digit}
use Rattle.xs_cert_lines.specs.Laws.{IsLine}
use Rattle.xs_cert_laws.specs.Blocks.{Pairs, ShowsApart, ShowsClear}
use Rattle.xs_cert.specs.declared.place.Place.{Place}
use Rattle.xs_cert.specs.declared.place.Reading.{Reading}
use Rattle.xs_cert.specs.declared.place.Reading.TheVariants.{Whole, Broken}
use Rattle.xs_cert.specs.Places.{IsPlace, IsPast, Stand}
use Rattle.xs_cert.specs.Rows.{AreRowsAt, AreLongest, ReachTo, IsRowsReading}
use Rattle.xs_cert.specs.Steps.{part_of, IsTitledSet, before_rests, AreThree, HasThree, AreFirstSets, IsCutReading}
use Rattle.xs_cert.proofs.Standing.{lines_short, from_end, past_then, goes_from, goes_first, goes_past}
use Rattle.xs_cert.proofs.Opening.{split_at, no_line}
use Rattle.xs_cert.proofs.LastSets.{long_taken, whole_taken}

pub run_short : (bytes : List ℕ) (p : Place) (high wide end many : ℕ) (z : Grid) → IsPlace bytes p → IsRun bytes p.byte high wide end many z → p.lines + many ≤ end
run_short bytes p high wide end many z h r = omega (arith, h.lines, r.count, from_end r.there, lines_short (set_lines (rows_of z)), length-map (rows_of z) row_line)

-- a line alone
pub one_line : (xs l : List ℕ) (later : Lines) → GoesOn xs (written (l ∷ later)) → GoesOn xs (ended l)
one_line xs l later h = record { rest = written later ++ h.rest; is = h.is ∙ append_assoc (ended l) (written later) h.rest }

module _ {bytes : List ℕ} {p end : Place} {high wide : ℕ} {z : Grid} (rows : AreRowsAt bytes p high wide end z) where
  -- rows with a line after them that is no row are all that stand there
  only_rows : (line : List ℕ) → IsLine line → begins_digit line ≡ false → (rs : List Row) (later : Lines) → IsSet high wide rs → Stand bytes p (set_lines rs ++ line ∷ later) → rs ≡ rows_of z
  only_rows line is word rs later set stand =
      let taken = rows.most rs set (goes_first (set_lines rs) (line ∷ later) stand) in
      elim (cases_lt (length rs) (length (rows_of z))) [
        | inl less ↦ absurd (no_line (rows_of z) rs line later (drop end.byte bytes) stand.rest taken less is word (sym rows.past.from.is ∙ stand.is))
        | inr more ↦ whole_taken rs (rows_of z) taken more
      ]

  pub titled : (line : List ℕ) → IsLine line → begins_digit line ≡ false → (o : Option Place) → IfSome o (IsPast bytes end (line ∷ [])) → IfNone o (GoesOn (drop end.byte bytes) (ended line) → ⊥) → IsTitledSet bytes p line high wide z o
  titled line is word None some none = λ rs later set stand.
      let same = only_rows line is word rs later set stand in
      none (one_line (drop end.byte bytes) line later (goes_past (line ∷ later) rows.past.from (subst (λ (ss : List Row). Stand bytes p (set_lines ss ++ line ∷ later)) same stand)))
  titled line is word (Some q) some none = (rows.sized, past_then rows.past some, only_rows line is word)

  -- of the rows those are right of which Q says how many they are
  module _ (P : List Row → Type 0) (Q : ℕ → Type 0)
      (to : (j : ℕ) → j ≤ length (rows_of z) → Q j → P (take j (rows_of z)))
      (back : (rs : List Row) → P rs → rs ≡ take (length rs) (rows_of z) → Q (length rs))
      (sets : (rs : List Row) → P rs → IsSet high wide rs) where
    first_rows : (j : ℕ) → IsGreatest (length (rows_of z)) Q j → AreLongest P bytes p (take j (rows_of z))
    first_rows j h = record {
      right = to j h.within h.is;
      most = λ rs right stand.
          (let taken = rows.most rs (sets rs right) stand in
          let low = h.greatest (length rs) (long_taken rs (rows_of z) taken) (back rs right taken) in
          taken ∙ sym (take-take (length rs) j (rows_of z) low));
    }

    taken_long : (j : ℕ) → j ≤ length (rows_of z) → length (take j (rows_of z)) ≡ j
    taken_long j h = omega (arith, length-take j (rows_of z))

    reached : (j : ℕ) → j ≤ length (rows_of z) → (b : Bool) → nat_eq (p.lines + j) end.lines ≡ b → ReachTo bytes p (take j (rows_of z)) (if b then Whole end else Broken (p.lines + j))
    reached j h true e =
        let whole : take j (rows_of z) ≡ rows_of z = take_all j (rows_of z) (omega (arith, eqb-true (p.lines + j) end.lines e, rows.past.count, length-map (rows_of z) row_line)) in
        subst (λ (rs : List Row). IsPast bytes p (set_lines rs) end) (sym whole) rows.past
    reached j h false e =
        let less : j < length (rows_of z) = omega (arith, h, not_same) in
        let s = split_at j (rows_of z) less in
        let parts : set_lines (rows_of z) ≡ set_lines (take j (rows_of z) ++ s.0 ∷ []) ++ set_lines s.1 = ap set_lines (s.2 ∙ sym (append_assoc (take j (rows_of z)) (s.0 ∷ []) s.1)) ∙ map-append row_line (take j (rows_of z) ++ s.0 ∷ []) s.1 in
        record {
          next = s.0;
          stand = goes_first (set_lines (take j (rows_of z) ++ s.0 ∷ [])) (set_lines s.1) (subst (λ (ls : Lines). Stand bytes p ls) parts (goes_from rows.past.from));
          count = omega (arith, taken_long j h);
        }
      where
        not_same : j ≡ length (rows_of z) → ⊥
        not_same same = eqb-false (p.lines + j) end.lines e (omega (arith, same, rows.past.count, length-map (rows_of z) row_line))

    pub rows_part : (right : Option ℕ) → IsGreatestIn (length (rows_of z)) Q right → IsRowsReading P bytes p (part_of p end right)
    rows_part None none = λ rs right stand.
        let taken = rows.most rs (sets rs right) stand in
        none (length rs) (long_taken rs (rows_of z) taken) (back rs right taken)
    rows_part (Some j) h = (take j (rows_of z), first_rows j h, reached j h.within (nat_eq (p.lines + j) end.lines) refl)

-- the first rows of a set are one
set_taken : (high wide low : ℕ) (rs : List Row) (j : ℕ) → AreRows high wide low rs → AreRows high wide low (take j rs)
set_taken high wide low rs zero h = tt
set_taken high wide low [] (suc j) h = tt
set_taken high wide low (r ∷ rs) (suc j) h = (h.0, h.1, h.2, set_taken high wide (suc r.state) rs j h.3)

module _ (marks : RowsAreMarks) where
  pub sized_set : {high wide : ℕ} (z : Grid) → IsSized high wide z → IsSet high wide (rows_of z)
  sized_set {high} {wide} z h = (marks high wide z h).0

  module _ (R : ℕ → ℕ → Type 0) (m n : Graph) {bytes : List ℕ} {p end : Place} {z : Grid} (rows : AreRowsAt bytes p (states m) (states n) end z) where
    apart_to : (j : ℕ) → j ≤ length (rows_of z) → IsApartBy R m n z j → ShowsApart R m n (take j (rows_of z))
    apart_to j h a = record { set = set_taken (states m) (states n) 0 (rows_of z) j (sized_set z rows.sized); apart = a }

    apart_back : (rs : List Row) → ShowsApart R m n rs → rs ≡ take (length rs) (rows_of z) → IsApartBy R m n z (length rs)
    apart_back rs s e = subst (λ (xs : List Row). IsApart R m n (Pairs xs)) e s.apart

    pub apart_read : (right : Option ℕ) → IsGreatestIn (length (rows_of z)) (IsApartBy R m n z) right → IsRowsReading (ShowsApart R m n) bytes p (part_of p end right)
    apart_read = rows_part rows (ShowsApart R m n) (IsApartBy R m n z) apart_to apart_back (λ rs s. s.set)

-- the first three sets of a cut
module _ (bytes : List ℕ) (p : Place) (f e : ℕ) where
  pub no_first : (s : CutSets) → (GoesOn (drop p.byte bytes) (ended (codes "set 1")) → ⊥) → AreFirstSets bytes p f e s None
  no_first s none z1 z0 z2 later three stand = none (one_line (drop p.byte bytes) (codes "set 1") _ stand)

  module _ (a : Place) (first : IsPast bytes p (codes "set 1" ∷ []) a) where
    after_first : (z1 z0 z2 : List Row) (later : Lines) → Stand bytes p (before_rests z1 z0 z2 later) → Stand bytes a (set_lines z1 ++ codes "set 0" ∷ (set_lines z0 ++ codes "set 2" ∷ (set_lines z2 ++ codes "set 3" ∷ later)))
    after_first z1 z0 z2 later stand = goes_past (set_lines z1 ++ codes "set 0" ∷ (set_lines z0 ++ codes "set 2" ∷ (set_lines z2 ++ codes "set 3" ∷ later))) first.from stand

    pub no_second : (s : CutSets) (z : Grid) → IsTitledSet bytes a (codes "set 0") f f z None → AreFirstSets bytes p f e s None
    no_second s z none z1 z0 z2 later three stand = none z1 _ three.fronts (after_first z1 z0 z2 later stand)

    module _ (b : Place) (fronts : Grid) (second : IsTitledSet bytes a (codes "set 0") f f fronts (Some b)) where
      split_second : (z1 : List Row) (later : Lines) → set_lines z1 ++ codes "set 0" ∷ later ≡ (set_lines z1 ++ codes "set 0" ∷ []) ++ later
      split_second z1 later = sym (append_assoc (set_lines z1) (codes "set 0" ∷ []) later)

      after_second : (z1 z0 z2 : List Row) (later : Lines) → AreThree f e z1 z0 z2 → Stand bytes p (before_rests z1 z0 z2 later) → (z1 ≡ rows_of fronts) × Stand bytes b (set_lines z0 ++ codes "set 2" ∷ (set_lines z2 ++ codes "set 3" ∷ later))
      after_second z1 z0 z2 later three stand =
          let more : Lines = set_lines z0 ++ codes "set 2" ∷ (set_lines z2 ++ codes "set 3" ∷ later) in
          let there = after_first z1 z0 z2 later stand in
          let same = second.2 z1 more three.fronts there in
          (same, goes_past more second.1.from (subst (λ (ls : Lines). Stand bytes a ls) (split_second (rows_of fronts) more) (subst (λ (rs : List Row). Stand bytes a (set_lines rs ++ codes "set 0" ∷ more)) same there)))

      pub no_third : (s : CutSets) (z : Grid) → IsTitledSet bytes b (codes "set 2") f e z None → AreFirstSets bytes p f e s None
      no_third s z none z1 z0 z2 later three stand = none z0 _ three.pauses (after_second z1 z0 z2 later three stand).1

      module _ (c : Place) (pauses : Grid) (third : IsTitledSet bytes b (codes "set 2") f e pauses (Some c)) where
        split_third : (z0 : List Row) (later : Lines) → set_lines z0 ++ codes "set 2" ∷ later ≡ (set_lines z0 ++ codes "set 2" ∷ []) ++ later
        split_third z0 later = sym (append_assoc (set_lines z0) (codes "set 2" ∷ []) later)

        after_third : (z1 z0 z2 : List Row) (later : Lines) → AreThree f e z1 z0 z2 → Stand bytes p (before_rests z1 z0 z2 later) → (z0 ≡ rows_of pauses) × Stand bytes c (set_lines z2 ++ codes "set 3" ∷ later)
        after_third z1 z0 z2 later three stand =
            let more : Lines = set_lines z2 ++ codes "set 3" ∷ later in
            let there = (after_second z1 z0 z2 later three stand).1 in
            let same = third.2 z0 more three.pauses there in
            (same, goes_past more third.1.from (subst (λ (ls : Lines). Stand bytes b ls) (split_third (rows_of pauses) more) (subst (λ (rs : List Row). Stand bytes b (set_lines rs ++ codes "set 2" ∷ more)) same there)))

        pub three_read : (s : CutSets) → s.fronts ≡ fronts → s.pauses ≡ pauses → (o : Option Place) → IsTitledSet bytes c (codes "set 3") f e s.middles o → AreFirstSets bytes p f e s o
        three_read s u v None none = λ z1 z0 z2 later three stand. none z2 later three.middles (after_third z1 z0 z2 later three stand).1
        three_read s u v (Some q) last = record {
          fronts = subst (λ (z : Grid). IsSized f f z) (sym u) second.0;
          pauses = subst (λ (z : Grid). IsSized f e z) (sym v) third.0;
          middles = last.0;
          past = subst (λ (z : Grid). IsPast bytes p (before_rests (rows_of z) (rows_of s.pauses) (rows_of s.middles) []) q) (sym u) (subst (λ (z : Grid). IsPast bytes p (before_rests (rows_of fronts) (rows_of z) (rows_of s.middles) []) q) (sym v)
              (subst (λ (ls : Lines). IsPast bytes p ls q) lines_are (past_then first (past_then second.1 (past_then third.1 last.1)))));
          only = λ z1 z0 z2 later three stand. (
            (after_second z1 z0 z2 later three stand).0 ∙ ap rows_of (sym u),
            (after_third z1 z0 z2 later three stand).0 ∙ ap rows_of (sym v),
            last.2 z2 later three.middles (after_third z1 z0 z2 later three stand).1,
          );
        }
          where
            lines_are : (codes "set 1" ∷ []) ++ ((set_lines (rows_of fronts) ++ codes "set 0" ∷ []) ++ ((set_lines (rows_of pauses) ++ codes "set 2" ∷ []) ++ (set_lines (rows_of s.middles) ++ codes "set 3" ∷ []))) ≡ before_rests (rows_of fronts) (rows_of pauses) (rows_of s.middles) []
            lines_are =
                ap (λ (ls : Lines). codes "set 1" ∷ ls)
                (append_assoc (set_lines (rows_of fronts)) (codes "set 0" ∷ []) _
                ∙ ap (λ (ls : Lines). set_lines (rows_of fronts) ++ codes "set 0" ∷ ls) (append_assoc (set_lines (rows_of pauses)) (codes "set 2" ∷ []) (set_lines (rows_of s.middles) ++ codes "set 3" ∷ [])))

        pub three_result : (s : CutSets) → s.fronts ≡ fronts → s.pauses ≡ pauses → (o : Result (Option Place) Memory) → IfOk o (IsTitledSet bytes c (codes "set 3") f e s.middles) → IfOk o (AreFirstSets bytes p f e s)
        three_result s u v (Ok o) last = three_read s u v o last
        three_result s u v (Err m) last = tt

-- the bounds are the states of nets
pub rows_as : {bytes : List ℕ} {p q : Place} {high wide a b : ℕ} {z : Grid} → high ≡ a → wide ≡ b → AreRowsAt bytes p high wide q z → AreRowsAt bytes p a b q z
rows_as {bytes} {p} {q} {high} {wide} {a} {b} {z} x y h = subst (λ (k : ℕ). AreRowsAt bytes p k b q z) x (subst (λ (k : ℕ). AreRowsAt bytes p high k q z) y h)

pub first_as : {bytes : List ℕ} {p q : Place} {f e a b : ℕ} {s : CutSets} → f ≡ a → e ≡ b → HasThree bytes p f e s q → HasThree bytes p a b s q
first_as {bytes} {p} {q} {f} {e} {a} {b} {s} x y h = subst (λ (k : ℕ). HasThree bytes p k b s q) x (subst (λ (k : ℕ). HasThree bytes p f k s q) y h)

-- all four
module _ (marks : RowsAreMarks) (R : ℕ → ℕ → Type 0) (f e : Graph) (bytes : List ℕ) (p : Place) where
  three_of : {z1 z0 z2 z3 : List Row} → ShowsClear R f e z1 z0 z2 z3 → AreThree (states f) (states e) z1 z0 z2
  three_of s = record { fronts = s.set1; pauses = s.set0; middles = s.set2 }

  pub no_cut : (s : CutSets) → AreFirstSets bytes p (states f) (states e) s None → IsCutReading R f e bytes p None
  no_cut s none = λ z1 z0 z2 z3 shows stand. none z1 z0 z2 (set_lines z3) (three_of shows) stand

  module _ (a end : Place) (first all : CutSets) (three : HasThree bytes p (states f) (states e) first a)
      (one : all.fronts ≡ first.fronts) (two : all.pauses ≡ first.pauses) (middle : all.middles ≡ first.middles)
      (rows : AreRowsAt bytes a (states e) (states e) end all.rests) where
    clear_to : (j : ℕ) → j ≤ length (rows_of all.rests) → IsClearBy R f e all j → ShowsClear R f e (rows_of all.fronts) (rows_of all.pauses) (rows_of all.middles) (take j (rows_of all.rests))
    clear_to j h c = record {
      set1 = subst (λ (z : Grid). IsSet (states f) (states f) (rows_of z)) (sym one) (sized_set marks first.fronts three.fronts);
      set0 = subst (λ (z : Grid). IsSet (states f) (states e) (rows_of z)) (sym two) (sized_set marks first.pauses three.pauses);
      set2 = subst (λ (z : Grid). IsSet (states f) (states e) (rows_of z)) (sym middle) (sized_set marks first.middles three.middles);
      set3 = set_taken (states e) (states e) 0 (rows_of all.rests) j (sized_set marks all.rests rows.sized);
      clear = c;
    }

    clear_back : (rs : List Row) → ShowsClear R f e (rows_of all.fronts) (rows_of all.pauses) (rows_of all.middles) rs → rs ≡ take (length rs) (rows_of all.rests) → IsClearBy R f e all (length rs)
    clear_back rs s same = subst (λ (xs : List Row). IsClear R f e (Pairs (rows_of all.fronts)) (Pairs (rows_of all.pauses)) (Pairs (rows_of all.middles)) (Pairs xs)) same s.clear

    clear_rows : (right : Option ℕ) → IsGreatestIn (length (rows_of all.rests)) (IsClearBy R f e all) right → IsRowsReading (ShowsClear R f e (rows_of all.fronts) (rows_of all.pauses) (rows_of all.middles)) bytes a (part_of a end right)
    clear_rows = rows_part rows (ShowsClear R f e (rows_of all.fronts) (rows_of all.pauses) (rows_of all.middles)) (IsClearBy R f e all) clear_to clear_back (λ rs s. s.set3)

    only_three : (z1 z0 z2 z3 : List Row) → ShowsClear R f e z1 z0 z2 z3 → Stand bytes p (before_rests z1 z0 z2 (set_lines z3)) → (z1 ≡ rows_of all.fronts) × (z0 ≡ rows_of all.pauses) × (z2 ≡ rows_of all.middles)
    only_three z1 z0 z2 z3 shows stand =
        let same = three.only z1 z0 z2 (set_lines z3) (three_of shows) stand in
        (same.0 ∙ ap rows_of (sym one), same.1 ∙ ap rows_of (sym two), same.2 ∙ ap rows_of (sym middle))

    past_three : IsPast bytes p (before_rests (rows_of all.fronts) (rows_of all.pauses) (rows_of all.middles) []) a
    past_three =
        subst (λ (z : Grid). IsPast bytes p (before_rests (rows_of z) (rows_of all.pauses) (rows_of all.middles) []) a) (sym one)
        (subst (λ (z : Grid). IsPast bytes p (before_rests (rows_of first.fronts) (rows_of z) (rows_of all.middles) []) a) (sym two)
        (subst (λ (z : Grid). IsPast bytes p (before_rests (rows_of first.fronts) (rows_of first.pauses) (rows_of z) []) a) (sym middle) three.past))

    rests_after : (z1 z0 z2 z3 : List Row) → before_rests z1 z0 z2 (set_lines z3) ≡ before_rests z1 z0 z2 [] ++ set_lines z3
    rests_after z1 z0 z2 z3 = sym (
        ap (λ (ls : Lines). codes "set 1" ∷ ls) (append_assoc (set_lines z1) _ (set_lines z3)
        ∙ ap (λ (ls : Lines). set_lines z1 ++ codes "set 0" ∷ ls) (append_assoc (set_lines z0) _ (set_lines z3)
        ∙ ap (λ (ls : Lines). set_lines z0 ++ codes "set 2" ∷ ls) (append_assoc (set_lines z2) (codes "set 3" ∷ []) (set_lines z3)))))

    with_rests : (o : Option Reading) → IsRowsReading (ShowsClear R f e (rows_of all.fronts) (rows_of all.pauses) (rows_of all.middles)) bytes a o → IsCutReading R f e bytes p o
    with_rests None none = λ z1 z0 z2 z3 shows stand.
        let same = only_three z1 z0 z2 z3 shows stand in
        let shown = subst (λ (z : List Row). ShowsClear R f e z (rows_of all.pauses) (rows_of all.middles) z3) same.0 (subst (λ (z : List Row). ShowsClear R f e z1 z (rows_of all.middles) z3) same.1 (subst (λ (z : List Row). ShowsClear R f e z1 z0 z z3) same.2 shows)) in
        let there = subst (λ (z : List Row). Stand bytes p (before_rests z (rows_of all.pauses) (rows_of all.middles) (set_lines z3))) same.0 (subst (λ (z : List Row). Stand bytes p (before_rests z1 z (rows_of all.middles) (set_lines z3))) same.1 (subst (λ (z : List Row). Stand bytes p (before_rests z1 z0 z (set_lines z3))) same.2 stand)) in
        none z3 shown (goes_past (set_lines z3) past_three.from (subst (λ (ls : Lines). Stand bytes p ls) (rests_after (rows_of all.fronts) (rows_of all.pauses) (rows_of all.middles) z3) there))
    with_rests (Some r) h = record {
      fronts = rows_of all.fronts;
      pauses = rows_of all.pauses;
      middles = rows_of all.middles;
      place = a;
      past = past_three;
      rests = h;
      only = only_three;
    }

    pub clear_read : (right : Option ℕ) → IsGreatestIn (length (rows_of all.rests)) (IsClearBy R f e all) right → IsCutReading R f e bytes p (part_of a end right)
    clear_read right h = with_rests (part_of a end right) (clear_rows right h)
