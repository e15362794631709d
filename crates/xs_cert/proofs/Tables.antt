-- What tables of least sets show, as rows.
use Rattle.std.proofs.Common.{◌≡◌, ℕ, ◌↔◌, Bool, true, List, sym, ◌∙◌}
use Rattle.xs_auto.specs.Nets.{Graph, states}
use Rattle.xs_meet.specs.Closed.{Marked, IsApart, IsClear}
use Rattle.xs_closed.specs.Rows.{Grid, Row, IsSized, rows_of, holds, marked}
use Rattle.xs_closed.specs.Least.{Meeting, Fronts, Pauses, Middles, Rests, IsTableOf, AreLeastOf}
use Rattle.xs_closed.specs.Laws.{RowsAreMarks, LeastIsApart, LeastIsClear, IsWithin}
use Rattle.xs_closed.specs.declared.sets.CutSets.{CutSets}
use Rattle.xs_cert_laws.specs.Blocks.{Pairs, ShowsApart, ShowsClear}
use Rattle.xs_cert.specs.Writing.{MeetNowhere, OverlapNowhere}

-- the rows of a table have exactly the pairs of its set
record AreRowsOf (m n : Graph) (z : Grid) (Z : ℕ → ℕ → Type 0) : Type 0 where
  to : (a b : ℕ) → Pairs (rows_of z) a b → Z a b
  from : (a b : ℕ) → Z a b → Pairs (rows_of z) a b

are_rows : RowsAreMarks → (m n : Graph) (z : Grid) (Z : ℕ → ℕ → Type 0) → IsTableOf Z m n z → AreRowsOf m n z Z
are_rows law m n z Z table =
    let rows = law (states m) (states n) z table.sized in
    record { to = λ a b p. (table.marks a b).0 (sym (rows.1 a b) ∙ p); from = λ a b q. rows.1 a b ∙ (table.marks a b).1 q }

module _ (law : RowsAreMarks) (r : ℕ → ℕ → Bool) where
  pub table_shows : (m n : Graph) (z : Grid) → LeastIsApart → IsTableOf (Meeting (Marked r) m n) m n z → MeetNowhere (Marked r) m n → ShowsApart (Marked r) m n (rows_of z)
  table_shows m n z least table nowhere =
      let same = are_rows law m n z (Meeting (Marked r) m n) table in
      let i = (least r m n).0 nowhere in
      record {
        set = (law (states m) (states n) z table.sized).0;
        apart = record {
          starts = λ a b e f. same.from a b (i.starts a b e f);
          closed = λ a b c d p leads. same.from c d (i.closed a b c d (same.to a b p) leads);
          none = λ a b p e f. i.none a b (same.to a b p) e f;
        };
      }

  pub table_least : (m n : Graph) (z : Grid) → LeastIsApart → IsTableOf (Meeting (Marked r) m n) m n z → (y : ℕ → ℕ → Bool) → IsApart (Marked r) m n (Marked y) → IsWithin (Pairs (rows_of z)) (Marked y)
  table_least m n z least table y apart a b p = (least r m n).1 y apart a b ((are_rows law m n z (Meeting (Marked r) m n) table).to a b p)

  pub tables_show : (f e : Graph) (s : CutSets) → LeastIsClear → AreLeastOf (Marked r) f e s → OverlapNowhere (Marked r) f e → ShowsClear (Marked r) f e (rows_of s.fronts) (rows_of s.pauses) (rows_of s.middles) (rows_of s.rests)
  tables_show f e s least tables nowhere =
      let one = are_rows law f f s.fronts (Fronts (Marked r) f) tables.fronts in
      let zero = are_rows law f e s.pauses (Pauses (Marked r) f e) tables.pauses in
      let two = are_rows law f e s.middles (Middles (Marked r) f e) tables.middles in
      let three = are_rows law e e s.rests (Rests (Marked r) f e) tables.rests in
      let i = (least r f e).0 nowhere in
      record {
        set1 = (law (states f) (states f) s.fronts tables.fronts.sized).0;
        set0 = (law (states f) (states e) s.pauses tables.pauses.sized).0;
        set2 = (law (states f) (states e) s.middles tables.middles.sized).0;
        set3 = (law (states e) (states e) s.rests tables.rests.sized).0;
        clear = record {
          starts = λ a b p q. one.from a b (i.starts a b p q);
          closed1 = λ a b c d p leads. one.from c d (i.closed1 a b c d (one.to a b p) leads);
          to0 = λ a b c p final starts. zero.from b c (i.to0 a b c (one.to a b p) final starts);
          drifts0 = λ a b c d p leads. zero.from c d (i.drifts0 a b c d (zero.to a b p) leads);
          to2 = λ a b c d p leads. two.from c d (i.to2 a b c d (zero.to a b p) leads);
          closed2 = λ a b c d p leads. two.from c d (i.closed2 a b c d (two.to a b p) leads);
          to3 = λ a b c p final starts. three.from c b (i.to3 a b c (two.to a b p) final starts);
          closed3 = λ a b c d p leads. three.from c d (i.closed3 a b c d (three.to a b p) leads);
          none = λ a b p q t. i.none a b (three.to a b p) q t;
        };
      }

  pub tables_least : (f e : Graph) (s : CutSets) → LeastIsClear → AreLeastOf (Marked r) f e s → (y1 y0 y2 y3 : ℕ → ℕ → Bool) → IsClear (Marked r) f e (Marked y1) (Marked y0) (Marked y2) (Marked y3)
      → IsWithin (Pairs (rows_of s.fronts)) (Marked y1) × IsWithin (Pairs (rows_of s.pauses)) (Marked y0) × IsWithin (Pairs (rows_of s.middles)) (Marked y2) × IsWithin (Pairs (rows_of s.rests)) (Marked y3)
  tables_least f e s least tables y1 y0 y2 y3 clear =
      let within = (least r f e).1 y1 y0 y2 y3 clear in (
        λ a b p. within.fronts a b ((are_rows law f f s.fronts (Fronts (Marked r) f) tables.fronts).to a b p),
        λ a b p. within.pauses a b ((are_rows law f e s.pauses (Pauses (Marked r) f e) tables.pauses).to a b p),
        λ a b p. within.middles a b ((are_rows law f e s.middles (Middles (Marked r) f e) tables.middles).to a b p),
        λ a b p. within.rests a b ((are_rows law e e s.rests (Rests (Marked r) f e) tables.rests).to a b p),
      )
