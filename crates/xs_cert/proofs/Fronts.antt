-- Good fronts and certificates are what may come from the first byte on, so where that has ended
-- the bytes are bad.
use Rattle.std.proofs.Common.{◌≡◌, inl, inr, ℕ, suc, ◌+◌, ◌≤◌, List, [], ◌∷◌, ◌++◌, length, map, flat_map, drop, refl, sym, ap, subst, ◌∙◌, arith, append_assoc, append-nil, length-append, codes, Result, Ok, Err, IfOk}
use Rattle.std.specs.List.{Contains}
use Rattle.std.proofs.lemmas.List.{length-map}
use Rattle.xs_class.specs.declared.memory.Memory.{Memory}
use Rattle.xs_auto.specs.Nests.{Group}
use Rattle.xs_gram.specs.Grammar.{Grammar}
use Rattle.xs_pair.specs.Grammars.{Pair}
use Rattle.xs_cert_lines.specs.Lines.{Lines, ended, written}
use Rattle.xs_cert_lines.specs.Runs.{GoesOn}
use Rattle.xs_cert_laws.specs.Blocks.{Head, Block, head, IsRight, block_lines}
use Rattle.xs_cert_laws.specs.Certificates.{Shares, Half, IsHalf, share_line, half_lines, text_lines, all_lines, IsCertificate, Front, nothing, version, in_text, in_xml, IsGoodFront, IsBadAt}
use Rattle.xs_cert.specs.declared.place.Place.{Place}
use Rattle.xs_cert.specs.declared.place.Reading.{Reading}
use Rattle.xs_cert.specs.declared.place.Reading.TheVariants.{Whole, Broken}
use Rattle.xs_cert.specs.Places.{IsPlace, IsPast, Stand}
use Rattle.xs_cert.specs.Ways.{Ahead, at_end, at_xml, TailWays, EndWays, LeadsTo, AfterLine, BlockWays, ends_here, block_then, goes_past, HalfWays}
use Rattle.xs_cert.specs.Halves.{IsWholeHalf, IsBrokenHalf, IsHalfReading, AllWays, start, IsTextRead, IsAllRead, IsFrontRead, IsTextReading, IsAllReading}
use Rattle.xs_cert.proofs.Standing.{written-append, place_past, past_then, goes_from, goes_after, leads_then, leads_ends, line_leads, line_ends, stand_short}

-- blocks that are right and in order, and then what comes
module _ {g : Grammar} {nest : List Group} {R : ℕ → ℕ → Type 0} (T : Lines → List ℕ → ℕ → Type 0) where
  blocks_ways : (bs : List Block) (more : List Head) (ls : Lines) (rest : List ℕ) (j : ℕ) → ((b : Block) → Contains bs b → IsRight g nest R b) → BlockWays g nest R T more ls rest j
      → BlockWays g nest R T (map head bs ++ more) (flat_map block_lines bs ++ ls) rest (length (flat_map block_lines bs) + j)
  blocks_ways [] more ls rest j right way = subst (λ (n : ℕ). BlockWays g nest R T more ls rest n) (omega_zero j) way
    where
      omega_zero : (n : ℕ) → n ≡ 0 + n
      omega_zero n = omega arith
  blocks_ways (b ∷ bs) more ls rest j right way =
      block_then b (right b (0, omega arith, refl)) refl (blocks_ways bs more ls rest j (λ c i. right c (suc i.0, omega (arith, i.1), i.2)) way)
      (append_assoc (block_lines b) (flat_map block_lines bs) ls) (omega (arith, length-append (block_lines b) (flat_map block_lines bs)))

half_ways : {g : Grammar} (s : Half) (more : List Head) (T : Lines → List ℕ → ℕ → Type 0) (ls : Lines) (rest : List ℕ) (j : ℕ) → IsHalf g s more → BlockWays g s.nest (Shares s.shares) T more ls rest j → HalfWays g T (half_lines s ++ ls) rest (length (half_lines s) + j)
half_ways {g} s more T ls rest j is way = record {
  nest = s.nest;
  shares = s.shares;
  later = flat_map block_lines s.blocks ++ ls;
  count = length (flat_map block_lines s.blocks) + j;
  is_nest = is.nest;
  ordered = is.shares;
  way = subst (λ (hs : List Head). BlockWays g s.nest (Shares s.shares) T hs (flat_map block_lines s.blocks ++ ls) rest (length (flat_map block_lines s.blocks) + j)) is.order (blocks_ways T s.blocks more ls rest j is.right way);
  is = append_assoc (map share_line s.shares) (flat_map block_lines s.blocks) ls;
  counts = omega (arith, length-append (map share_line s.shares) (flat_map block_lines s.blocks), length-map s.shares share_line);
}

module _ (p : Pair) (bytes : List ℕ) where
  -- what comes from the first line on
  comes : (ls : Lines) (rest : List ℕ) (j : ℕ) → AllWays p ls rest j → bytes ≡ written ls ++ rest → Ahead bytes 0 (AllWays p) j
  comes ls rest j way e = record { lines = ls; rest = rest; way = way; is = e }

  text_comes : (t : Half) (more : List Head) (ls : Lines) (rest : List ℕ) (j : ℕ) → IsHalf p.text t more → BlockWays p.text t.nest (Shares t.shares) (TailWays (at_xml p.xml)) more ls rest j → AllWays p (text_lines t ++ ls) rest (length (text_lines t) + j)
  text_comes t more ls rest j is way = inr (record {
    later = codes "side text" ∷ (half_lines t ++ ls);
    count = suc (length (half_lines t) + j);
    way = inr (record { later = half_lines t ++ ls; count = length (half_lines t) + j; way = half_ways t more (TailWays (at_xml p.xml)) ls rest j is way; is = refl; counts = refl });
    is = refl;
    counts = omega arith;
  })

  xml_comes : (x : Half) (more : List Head) (ls : Lines) (rest : List ℕ) (j : ℕ) → IsHalf p.xml x more → BlockWays p.xml x.nest (Shares x.shares) EndWays more ls rest j → TailWays (at_xml p.xml) (codes "side xml" ∷ (half_lines x ++ ls)) rest (suc (length (half_lines x) + j))
  xml_comes x more ls rest j is way = inr (record { later = half_lines x ++ ls; count = length (half_lines x) + j; way = half_ways x more EndWays ls rest j is way; is = refl; counts = refl })

  as_lines : (ls ks : Lines) (rest : List ℕ) (j i : ℕ) → ls ≡ ks → j ≡ i → AllWays p ks rest i → AllWays p ls rest j
  as_lines ls ks rest j i e f way = subst (λ (xs : Lines). AllWays p xs rest j) (sym e) (subst (λ (n : ℕ). AllWays p ks rest n) (sym f) way)

  front_comes : (ls : Lines) (rest : List ℕ) → Front p ls → AllWays p ls rest (length ls)
  front_comes ls rest nothing = inl (refl, refl)
  front_comes ls rest version = inr (record { later = []; count = 0; way = inl (refl, refl); is = refl; counts = omega arith })
  front_comes ls rest (in_text t more is e) =
      as_lines ls (text_lines t ++ []) rest (length ls) (length (text_lines t) + 0) (e ∙ sym (append-nil (text_lines t))) (omega (arith, ap length e)) (text_comes t more [] rest 0 is ends_here)
  front_comes ls rest (in_xml t x more is_text is_xml e) =
      let xml : Lines = codes "side xml" ∷ half_lines x in
      as_lines ls (text_lines t ++ (codes "side xml" ∷ (half_lines x ++ []))) rest (length ls) (length (text_lines t) + suc (length (half_lines x) + 0))
      (e ∙ ap (λ (ks : Lines). text_lines t ++ (codes "side xml" ∷ ks)) (sym (append-nil (half_lines x)))) (omega (arith, ap length e, length-append (text_lines t) xml))
      (text_comes t [] (codes "side xml" ∷ (half_lines x ++ [])) rest (suc (length (half_lines x) + 0)) is_text (goes_past (xml_comes x more [] rest 0 is_xml ends_here)))

  good_comes : (k : ℕ) → IsGoodFront p bytes k → Ahead bytes 0 (AllWays p) k
  good_comes k f = subst (λ (n : ℕ). Ahead bytes 0 (AllWays p) n) (sym f.count) (comes f.lines f.rest (length f.lines) (front_comes f.lines f.rest f.front) f.begins)

  -- a certificate comes, and counts more than any bound
  certificate_comes : IsCertificate p bytes → (n : ℕ) → (j : ℕ) × (n ≤ j) × Ahead bytes 0 (AllWays p) j
  certificate_comes c n =
      let ends : BlockWays p.xml c.xml.nest (Shares c.xml.shares) EndWays [] (codes "end" ∷ []) [] n = goes_past (refl, refl) in
      let xml = xml_comes c.xml [] (codes "end" ∷ []) [] n c.is_xml ends in
      let text = text_comes c.text [] (codes "side xml" ∷ (half_lines c.xml ++ codes "end" ∷ [])) [] (suc (length (half_lines c.xml) + n)) c.is_text (goes_past xml) in
      let lines : all_lines c.text c.xml ++ codes "end" ∷ [] ≡ text_lines c.text ++ (codes "side xml" ∷ (half_lines c.xml ++ codes "end" ∷ [])) = append_assoc (text_lines c.text) (codes "side xml" ∷ half_lines c.xml) (codes "end" ∷ []) in (
        length (text_lines c.text) + suc (length (half_lines c.xml) + n),
        omega arith,
        comes (text_lines c.text ++ (codes "side xml" ∷ (half_lines c.xml ++ codes "end" ∷ []))) [] (length (text_lines c.text) + suc (length (half_lines c.xml) + n)) text (c.is ∙ ap written lines ∙ sym (append-nil _)),
      )

  -- where all that may come has ended, the bytes are bad
  pub bad_at : (most : ℕ) → IsFrontRead p bytes most → IsBadAt p bytes (most + 1)
  bad_at most f = record {
    none = λ c. (let o = certificate_comes c (suc most) in let within = f.ends o.0 o.2 in omega (arith, within, o.1));
    before = most;
    is = omega arith;
    good = record { lines = f.lines; rest = f.stand.rest; front = f.front; count = f.count; begins = f.stand.is };
    greatest = λ k g. (let within = f.ends k (good_comes k g) in omega (arith, within));
  }

  pub none_read : (GoesOn bytes (ended (codes "xsugar-cert-1")) → ⊥) → IsFrontRead p bytes 0
  none_read none = record { lines = []; front = nothing; stand = record { rest = bytes; is = refl }; count = refl; ends = line_ends start (codes "xsugar-cert-1") (AfterLine (codes "side text") (HalfWays p.text (TailWays (at_xml p.xml)))) none }

  side : Lines → List ℕ → ℕ → Type 0
  side = AfterLine (codes "side text") (HalfWays p.text (TailWays (at_xml p.xml)))

  module _ (q : Place) (first : IsPast bytes start (codes "xsugar-cert-1" ∷ []) q) where
    first_leads : LeadsTo bytes start (AllWays p) q side
    unfolding side
    first_leads = line_leads start q (codes "xsugar-cert-1") side first

    pub no_side_read : (GoesOn (drop q.byte bytes) (ended (codes "side text")) → ⊥) → IsFrontRead p bytes q.lines
    unfolding side
    no_side_read none = record {
      lines = codes "xsugar-cert-1" ∷ [];
      front = version;
      stand = goes_from first.from;
      count = omega (arith, first.count);
      ends = leads_ends start q (AllWays p) side q.lines first_leads (line_ends q (codes "side text") (HalfWays p.text (TailWays (at_xml p.xml))) none) (omega arith);
    }

    module _ (r : Place) (second : IsPast bytes q (codes "side text" ∷ []) r) where
      second_leads : LeadsTo bytes start (AllWays p) r (HalfWays p.text (TailWays (at_xml p.xml)))
      unfolding side
      second_leads = leads_then start q r (AllWays p) side (HalfWays p.text (TailWays (at_xml p.xml))) first_leads (line_leads q r (codes "side text") (HalfWays p.text (TailWays (at_xml p.xml))) second) (omega (arith, second.count))

      text_read : (s : Place) → IsWholeHalf p.text bytes r s → IsTextRead p bytes s
      text_read s h = record {
        text = h.half;
        is_text = h.is;
        past = past_then (past_then first second) h.past;
        leads = leads_then start r s (AllWays p) (HalfWays p.text (TailWays (at_xml p.xml))) (TailWays (at_xml p.xml)) second_leads (h.leads (at_xml p.xml)) (omega (arith, h.past.count));
      }

      text_broken : (most : ℕ) → IsBrokenHalf p.text bytes r most → IsFrontRead p bytes most
      text_broken most h = record {
        lines = text_lines h.half;
        front = in_text h.half h.more h.is refl;
        stand = goes_after (half_lines h.half) (past_then first second).from h.stand;
        count = omega (arith, h.count, first.count, second.count);
        ends = leads_ends start r (AllWays p) (HalfWays p.text (TailWays (at_xml p.xml))) most second_leads (h.ends (at_xml p.xml)) (omega (arith, h.count));
      }

      pub text_reading : (o : Reading) → IsHalfReading p.text bytes r o → IsTextReading p bytes o
      text_reading (Whole s) h = text_read s h
      text_reading (Broken most) h = text_broken most h

      pub text_result : (o : Result Reading Memory) → IfOk o (IsHalfReading p.text bytes r) → IfOk o (IsTextReading p bytes)
      text_result (Ok o) h = text_reading o h
      text_result (Err m) h = tt

  module _ (q : Place) (text : IsTextRead p bytes q) where
    pub no_xml_read : (GoesOn (drop q.byte bytes) (ended (codes "side xml")) → ⊥) → IsFrontRead p bytes q.lines
    no_xml_read none = record {
      lines = text_lines text.text;
      front = in_text text.text [] text.is_text refl;
      stand = goes_from text.past.from;
      count = omega (arith, text.past.count);
      ends = leads_ends start q (AllWays p) (TailWays (at_xml p.xml)) q.lines text.leads (line_ends q (codes "side xml") (HalfWays p.xml EndWays) none) (omega arith);
    }

    module _ (r : Place) (line : IsPast bytes q (codes "side xml" ∷ []) r) where
      xml_leads : LeadsTo bytes start (AllWays p) r (HalfWays p.xml EndWays)
      xml_leads = leads_then start q r (AllWays p) (TailWays (at_xml p.xml)) (HalfWays p.xml EndWays) text.leads (line_leads q r (codes "side xml") (HalfWays p.xml EndWays) line) (omega (arith, line.count))

      before_xml : IsPast bytes start (text_lines text.text ++ codes "side xml" ∷ []) r
      before_xml = past_then text.past line

      lines_are : (x : Half) → (text_lines text.text ++ codes "side xml" ∷ []) ++ half_lines x ≡ all_lines text.text x
      lines_are x = append_assoc (text_lines text.text) (codes "side xml" ∷ []) (half_lines x)

      xml_read : (s : Place) → IsWholeHalf p.xml bytes r s → IsAllRead p bytes s
      xml_read s h = record {
        text = text.text;
        xml = h.half;
        is_text = text.is_text;
        is_xml = h.is;
        past = subst (λ (ls : Lines). IsPast bytes start ls s) (lines_are h.half) (past_then before_xml h.past);
        leads = leads_then start r s (AllWays p) (HalfWays p.xml EndWays) EndWays xml_leads (h.leads at_end) (omega (arith, h.past.count));
      }

      xml_broken : (most : ℕ) → IsBrokenHalf p.xml bytes r most → IsFrontRead p bytes most
      xml_broken most h = record {
        lines = all_lines text.text h.half;
        front = in_xml text.text h.half h.more text.is_text h.is refl;
        stand = subst (λ (ls : Lines). Stand bytes start ls) (lines_are h.half) (goes_after (half_lines h.half) before_xml.from h.stand);
        count = omega (arith, h.count, before_xml.count, ap length (lines_are h.half), length-append (text_lines text.text ++ codes "side xml" ∷ []) (half_lines h.half));
        ends = leads_ends start r (AllWays p) (HalfWays p.xml EndWays) most xml_leads (h.ends at_end) (omega (arith, h.count));
      }

      pub all_reading : (o : Reading) → IsHalfReading p.xml bytes r o → IsAllReading p bytes o
      all_reading (Whole s) h = xml_read s h
      all_reading (Broken most) h = xml_broken most h

      pub all_result : (o : Result Reading Memory) → IfOk o (IsHalfReading p.xml bytes r) → IfOk o (IsAllReading p bytes)
      all_result (Ok o) h = all_reading o h
      all_result (Err m) h = tt

  module _ (q : Place) (all : IsAllRead p bytes q) where
    pub no_end_read : (drop q.byte bytes ≡ ended (codes "end") → ⊥) → IsFrontRead p bytes q.lines
    no_end_read none = record {
      lines = all_lines all.text all.xml;
      front = in_xml all.text all.xml [] all.is_text all.is_xml refl;
      stand = goes_from all.past.from;
      count = omega (arith, all.past.count);
      ends = leads_ends start q (AllWays p) EndWays q.lines all.leads (λ j a. absurd (none (a.is ∙ ap (λ (ls : Lines). written ls ++ a.rest) a.way.0 ∙ ap (λ (r : List ℕ). written (codes "end" ∷ []) ++ r) a.way.1))) (omega arith);
    }

    pub certificate : drop q.byte bytes ≡ ended (codes "end") → IsCertificate p bytes
    certificate e = record {
      text = all.text;
      xml = all.xml;
      is_text = all.is_text;
      is_xml = all.is_xml;
      is = all.past.from.is ∙ ap (λ (z : List ℕ). written (all_lines all.text all.xml) ++ z) e ∙ sym (written-append (all_lines all.text all.xml) (codes "end" ∷ []));
    }

-- no more lines stand than there are bytes
pub front_short : (p : Pair) (bytes : List ℕ) (most : ℕ) → IsFrontRead p bytes most → most ≤ length bytes
front_short p bytes most f = omega (arith, f.count, stand_short start f.lines (record { within = omega arith; lines = omega arith }) f.stand)

pub all_place : {p : Pair} {bytes : List ℕ} {q : Place} → IsAllRead p bytes q → IsPlace bytes q
all_place {bytes = bytes} a = place_past (record { within = omega arith; lines = omega arith }) a.past

pub text_place : {p : Pair} {bytes : List ℕ} {q : Place} → IsTextRead p bytes q → IsPlace bytes q
text_place {bytes = bytes} a = place_past (record { within = omega arith; lines = omega arith }) a.past
