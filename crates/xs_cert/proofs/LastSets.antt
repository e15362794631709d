-- A block is read where the lines before its last set are read, and the longest right rows of that.
use Rattle.std.proofs.Common.{◌≡◌, ◌⊎◌, inl, inr, ℕ, ◌+◌, ◌≤◌, ◌<◌, List, [], ◌∷◌, ◌++◌, length, take, drop, refl, sym, ap, subst, ◌∙◌, arith, append_assoc, append-nil, length-append, Option, None, Some}
use Rattle.std.proofs.lemmas.List.{map-append, take_all, length-take, take-append-le, length-map}
use Rattle.std.proofs.lemmas.List.Elements.{All-nil, All-cons}
use Rattle.std.proofs.lemmas.Bool.{cases_lt}
use Rattle.xs_auto.specs.Nests.{Group}
use Rattle.xs_gram.specs.Grammar.{Grammar}
use Rattle.xs_closed.specs.Rows.{Row}
use Rattle.xs_cert_lines.specs.Lines.{Lines, row_line, set_lines, written}
use Rattle.xs_cert_laws.specs.Blocks.{Head, Block, head, IsRight, block_lines}
use Rattle.xs_cert.specs.declared.place.Place.{Place}
use Rattle.xs_cert.specs.declared.place.Reading.{Reading}
use Rattle.xs_cert.specs.declared.place.Reading.TheVariants.{Whole, Broken}
use Rattle.xs_cert.specs.Places.{IsPast, Stand}
use Rattle.xs_cert.specs.Ways.{Ahead, Tail, TailWays, BlockWays, ends_here, block_then}
use Rattle.xs_cert.specs.Readings.{AreRead, AreWhole, AreBroken, IsReading}
use Rattle.xs_cert.specs.Rows.{AreLongest, AreCutOff, ReachTo, IsRowsReading, reading_of}
use Rattle.xs_cert.proofs.Standing.{joined, past_then, goes_after, goes_from, goes_past, from_ahead}
use Rattle.xs_cert.proofs.Opening.{ways_open, no_more}

pub long_taken : {A : Type 0} (z all : List A) → z ≡ take (length z) all → length z ≤ length all
long_taken z all e = omega (arith, ap length e, length-take (length z) all)

pub whole_taken : {A : Type 0} (z all : List A) → z ≡ take (length z) all → length all ≤ length z → z ≡ all
whole_taken z all e h = e ∙ take_all (length z) all h

first_taken : {A : Type 0} (z xs ys : List A) → z ≡ take (length z) xs → z ≡ take (length z) (xs ++ ys)
first_taken z xs ys e = e ∙ sym (take-append-le (length z) xs ys (long_taken z xs e))

module _ (g : Grammar) (nest : List Group) (R : ℕ → ℕ → Type 0) (bytes : List ℕ) (h : Head) where
  -- a right block for the head, which has these lines
  pub record HasBlock (lines : Lines) : Type 0 where
    pub block : Block
    pub is : head block ≡ h
    pub right : IsRight g nest R block
    pub same : block_lines block ≡ lines

  one_read : {lines : Lines} → HasBlock lines → AreRead g nest R (h ∷ []) [] lines
  one_read b = record {
    blocks = b.block ∷ [];
    order = ap (λ (x : Head). x ∷ []) b.is;
    right = All-cons (IsRight g nest R) b.block [] b.right (All-nil (IsRight g nest R));
    lines = sym b.same ∙ sym (append-nil (block_lines b.block));
  }

  none_read : AreRead g nest R (h ∷ []) (h ∷ []) []
  none_read = record { blocks = []; order = refl; right = All-nil (IsRight g nest R); lines = refl }

  module _ (p : Place) where
    -- no right block for the head stands there
    pub no_block : ((b : Block) → IsRight g nest R b → head b ≡ h → Stand bytes p (block_lines b) → ⊥) → AreBroken g nest R bytes p (h ∷ []) p.lines
    no_block none = record {
      lines = [];
      more = h ∷ [];
      stand = record { rest = drop p.byte bytes; is = refl };
      count = omega arith;
      read = none_read;
      ends = λ tail later j a. by_way tail a.rest a.is a.way;
    }
      where
        by_way : (tail : Tail) {ls : Lines} {hs : List Head} {j : ℕ} (rest : List ℕ) → drop p.byte bytes ≡ written ls ++ rest → BlockWays g nest R (TailWays tail) (h ∷ hs) ls rest j → p.lines + j ≤ p.lines
        by_way tail rest e ends_here = omega arith
        by_way tail rest e (block_then {ls = ls} b right is way all n) =
            absurd (none b right is (record { rest = written ls ++ rest; is = e ∙ ap (λ (ks : Lines). written ks ++ rest) all ∙ joined (block_lines b) ls rest }))

    module _ (s : Place) (P : List Row → Type 0) (pre : Lines) (past : IsPast bytes p pre s)
        (made : (rs : List Row) → P rs → HasBlock (pre ++ set_lines rs))
        (only : (b : Block) → IsRight g nest R b → head b ≡ h → Stand bytes p (block_lines b) → (rs : List Row) × P rs × (block_lines b ≡ pre ++ set_lines rs)) where
      -- what comes with a block, by the rows of the block and what follows them
      record Comes (rest : List ℕ) (j : ℕ) (tail : Tail) (hs : List Head) : Type 0 where
        rows : List Row
        right : P rows
        ls : Lines
        count : ℕ
        way : BlockWays g nest R (TailWays tail) hs ls rest count
        counts : j ≡ length pre + length rows + count
        is : drop s.byte bytes ≡ written (set_lines rows ++ ls) ++ rest

      comes : (tail : Tail) (hs : List Head) (ls : Lines) (rest : List ℕ) (j : ℕ) → drop p.byte bytes ≡ written ls ++ rest → BlockWays g nest R (TailWays tail) (h ∷ hs) ls rest j → (j ≡ 0) ⊎ Comes rest j tail hs
      comes tail hs ls rest j e ends_here = inl refl
      comes tail hs all rest n e (block_then {ls = ls} {j = j} b right is way split count) =
          let there : drop p.byte bytes ≡ written (block_lines b ++ ls) ++ rest = e ∙ ap (λ (ks : Lines). written ks ++ rest) split in
          let o = only b right is (record { rest = written ls ++ rest; is = there ∙ joined (block_lines b) ls rest }) in
          let lines : block_lines b ++ ls ≡ pre ++ (set_lines o.0 ++ ls) = ap (λ (ks : Lines). ks ++ ls) o.2 ∙ append_assoc pre (set_lines o.0) ls in
          inr (record {
            rows = o.0;
            right = o.1;
            ls = ls;
            count = j;
            way = way;
            counts = omega (arith, count, ap length o.2, length-append pre (set_lines o.0), length-map o.0 row_line);
            is = from_ahead past.from (set_lines o.0 ++ ls) rest (there ∙ ap (λ (ks : Lines). written ks ++ rest) lines);
          })

      stands : {rest : List ℕ} {j : ℕ} {tail : Tail} {hs : List Head} (c : Comes rest j tail hs) → Stand bytes s (set_lines c.rows)
      stands {rest} c = record { rest = written c.ls ++ rest; is = c.is ∙ joined (set_lines c.rows) c.ls rest }

      -- nothing follows rows that are fewer than those that stand there
      fewer : {rest : List ℕ} {j : ℕ} {tail : Tail} {hs : List Head} (c : Comes rest j tail hs) (all : List Row) → Stand bytes s (set_lines all) → c.rows ≡ take (length c.rows) all → length c.rows < length all → j ≡ length pre + length c.rows
      fewer {rest} {j} {tail} c all stand taken less =
          let none = no_more all c.rows c.ls c.count stand.rest rest taken less (ways_open tail c.way) (sym stand.is ∙ c.is) in
          omega (arith, none.1, c.counts)

      pub block_whole : (q : Place) (rows : List Row) → AreLongest P bytes s rows → IsPast bytes s (set_lines rows) q → AreWhole g nest R bytes p (h ∷ []) q
      block_whole q rows longest end = record {
        lines = pre ++ set_lines rows;
        past = past_then past end;
        read = one_read (made rows longest.right);
        leads = λ tail later j a. by_way tail later j a.rest (comes tail later a.lines a.rest j a.is a.way);
      }
        where
          counted : q.lines ≡ p.lines + length pre + length rows
          counted = omega (arith, end.count, past.count, length-map rows row_line)

          by_length : (tail : Tail) (later : List Head) (j : ℕ) (rest : List ℕ) (c : Comes rest j tail later) → (length c.rows < length rows) ⊎ (length rows ≤ length c.rows) → (p.lines + j ≤ q.lines) ⊎ ((i : ℕ) × (p.lines + j ≡ q.lines + i) × Ahead bytes q.byte (BlockWays g nest R (TailWays tail) later) i)
          by_length tail later j rest c (inl less) = inl (omega (arith, counted, less, fewer c rows (goes_from end.from) (longest.most c.rows c.right (stands c)) less))
          by_length tail later j rest c (inr more) =
              let same : c.rows ≡ rows = whole_taken c.rows rows (longest.most c.rows c.right (stands c)) more in
              inr (c.count, omega (arith, counted, c.counts, ap length same), record { lines = c.ls; rest = rest; way = c.way; is = from_ahead end.from c.ls rest (c.is ∙ ap (λ (rs : List Row). written (set_lines rs ++ c.ls) ++ rest) same) })

          by_way : (tail : Tail) (later : List Head) (j : ℕ) (rest : List ℕ) → (j ≡ 0) ⊎ Comes rest j tail later → (p.lines + j ≤ q.lines) ⊎ ((i : ℕ) × (p.lines + j ≡ q.lines + i) × Ahead bytes q.byte (BlockWays g nest R (TailWays tail) later) i)
          by_way tail later j rest (inl e) = inl (omega (arith, e, counted))
          by_way tail later j rest (inr c) = by_length tail later j rest c (cases_lt (length c.rows) (length rows))

      pub block_broken : (most : ℕ) (rows : List Row) → AreLongest P bytes s rows → AreCutOff bytes s rows most → AreBroken g nest R bytes p (h ∷ []) most
      block_broken most rows longest cut = record {
        lines = pre ++ set_lines rows;
        more = [];
        stand = goes_after (set_lines rows) past.from (record { rest = written (row_line cut.next ∷ []) ++ cut.stand.rest; is = cut.stand.is ∙ ap (λ (ks : Lines). written ks ++ cut.stand.rest) (map-append row_line rows (cut.next ∷ [])) ∙ joined (set_lines rows) (row_line cut.next ∷ []) cut.stand.rest });
        count = omega (arith, counted, length-append pre (set_lines rows), length-map rows row_line);
        read = one_read (made rows longest.right);
        ends = λ tail later j a. by_way tail later j a.rest (comes tail later a.lines a.rest j a.is a.way);
      }
        where
          counted : most ≡ p.lines + length pre + length rows
          counted = omega (arith, cut.count, past.count)

          by_way : (tail : Tail) (later : List Head) (j : ℕ) (rest : List ℕ) → (j ≡ 0) ⊎ Comes rest j tail later → p.lines + j ≤ most
          by_way tail later j rest (inl e) = omega (arith, e, counted)
          by_way tail later j rest (inr c) =
              let taken = longest.most c.rows c.right (stands c) in
              let short = long_taken c.rows rows taken in
              omega (arith, counted, short, fewer c (rows ++ cut.next ∷ []) cut.stand (first_taken c.rows rows (cut.next ∷ []) taken) (omega (arith, short, length-append rows (cut.next ∷ []))))

      by_reading : (rows : List Row) → AreLongest P bytes s rows → (r : Reading) → ReachTo bytes s rows r → IsReading g nest R bytes p (h ∷ []) r
      by_reading rows longest (Whole q) end = block_whole q rows longest end
      by_reading rows longest (Broken most) end = block_broken most rows longest end

      pub block_read : (o : Option Reading) → IsRowsReading P bytes s o → IsReading g nest R bytes p (h ∷ []) (reading_of p.lines o)
      block_read None none = no_block (λ b right is stand. (let o = only b right is stand in none o.0 o.1 (goes_past (set_lines o.0) past.from (subst (λ (ks : Lines). Stand bytes p ks) o.2 stand))))
      block_read (Some r) read = by_reading read.0 read.1 r read.2
