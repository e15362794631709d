-- All parts that fit are read from an unfolding.
use Rattle.std.proofs.Common.{append-nil, take-append-drop, length-take-le, ◌≡◌, ℕ, zero, suc, List, [], ◌∷◌, ◌++◌, length, take, drop, Option, Some, None, refl, sym, ap, ◌∙◌, arith}
use Rattle.std.proofs.Math.Seq.{take-length}
use Rattle.std.specs.Prelude.{slice_range}
use Rattle.xs_gram.specs.declared.parts.GItem.{GItem}
use Rattle.xs_gram.specs.declared.parts.GItem.TheVariants.{Fixed, Term, Non, Skip}
use Rattle.xs_gram.specs.Grammar.{Grammar, items, IsRuleOf, ItemAt}
use Rattle.xs_gram.specs.Derivations.{Parts, done, fixed, leaf, skip, sub, FitsItems, parts_yield}
use Rattle.xs_chart_laws.specs.Reading.{Reads}
use Rattle.xs_chart_laws.proofs.Words.{drop_get, Reads-split, Reads-same}
use Rattle.xs_chart_laws.specs.Parts.{parts_then}
use Rattle.xs_chart_laws.proofs.Completeness.{after, after_zero}
use Rattle.xs_forest_laws.specs.declared.span.What.{What}
use Rattle.xs_forest_laws.specs.declared.span.What.TheVariants.{Whole, Front}
use Rattle.xs_forest_laws.specs.Forest.{Forest, IsRow, Unfolding, bare, pick, Unfolds, last_part, read, items_of, Spans, FrontAt, ItemRow, IsRight}
use Rattle.xs_forest_laws.proofs.Read.{IsWord, word_is, read_front, read_whole, spans_more}

pub then_done : (ps : Parts) → parts_then ps done ≡ ps
then_done done = refl
then_done (fixed u ps) = ap (fixed u) (then_done ps)
then_done (leaf u ps) = ap (leaf u) (then_done ps)
then_done (skip u ps) = ap (skip u) (then_done ps)
then_done (sub q qs ps) = ap (sub q qs) (then_done ps)

pub then_assoc : (a b c : Parts) → parts_then (parts_then a b) c ≡ parts_then a (parts_then b c)
then_assoc done b c = refl
then_assoc (fixed u ps) b c = ap (fixed u) (then_assoc ps b c)
then_assoc (leaf u ps) b c = ap (leaf u) (then_assoc ps b c)
then_assoc (skip u ps) b c = ap (skip u) (then_assoc ps b c)
then_assoc (sub q qs ps) b c = ap (sub q qs) (then_assoc ps b c)

module _ (g : Grammar) (w : List ℕ) (f : Forest) where
  -- an unfolding that reads as the parts
  abbrev pub From : Option ℕ → Parts → Type 0
  From o ps = (u : Unfolding) × Unfolds f o u × (read g w f o u ≡ ps)

  -- the parts fit the first d items of rule p over the stretch, and are read from each row of these items over it
  pub record FrontRead (p d i j : ℕ) (ps : Parts) : Type 0 where
    pub spans : Spans g w (take d (items g p)) i j ps
    pub from : (o : Option ℕ) → FrontAt f p d i j o → From o ps

  -- the part is read from each row of the item
  abbrev pub LastFrom : GItem → ℕ → ℕ → Parts → Type 0
  LastFrom item i j rs = (o : Option ℕ) → ItemRow f item i j o → (u : Unfolding) × Unfolds f o u × (last_part item (slice_range w i j) o (read g w f o u) ≡ rs)

  pub none_from : (o : Option ℕ) → o ≡ None → Unfolds f o bare
  none_from o e = rw e tt

  pub word_from : (item : GItem) (i j : ℕ) (rs : Parts) → IsWord item → Spans g w (item ∷ []) i j rs → (o : Option ℕ) → o ≡ None → (u : Unfolding) × Unfolds f o u × (last_part item (slice_range w i j) o (read g w f o u) ≡ rs)
  word_from item i j rs h s o e = (bare, none_from o e, rw e (word_is g w item i j rs h s))

  module _ (right : IsRight g w f) where
    front_zero : (p i : ℕ) → FrontRead p 0 i i done
    front_zero p i = record { spans = (tt, refl); from = λ o h. (bare, none_from o h.0, rw h.0 refl) }

    step : (p d i m j : ℕ) (item : GItem) (ps rs : Parts) → FrontRead p d i m ps → ItemAt g p d item → Spans g w (item ∷ []) m j rs → LastFrom item m j rs → FrontRead p (suc d) i j (parts_then ps rs)
    step p d i m j item ps rs h at s last = record { spans = spans_more g w p d i m j item ps rs at h.spans s; from = from }
      where
        from : (o : Option ℕ) → FrontAt f p (suc d) i j o → From o (parts_then ps rs)
        from o (n, e, row) =
            let a = right.fronts n p d i j m item row at (ps, h.spans) (rs, s) in
            let l = h.from a.0.left a.2.left_is in
            let t = last a.0.right a.2.right_is in
            let there : Unfolds f (Some n) (pick a.0 l.0 t.0) = (row.0, a.1, l.1, t.1) in
            let reads = read_front g w f n p d i j m item a.0 l.0 t.0 row a.2 in
            let is : read g w f (Some n) (pick a.0 l.0 t.0) ≡ parts_then ps rs = reads ∙ rw (l.2, t.2) refl in
            (pick a.0 l.0 t.0, rw e there, rw e is)

    whole_from : (n q i j : ℕ) (qs : Parts) → IsRuleOf g n q → FrontRead q (length (items g q)) i j qs → (r : ℕ) → IsRow f r (Whole n) i j → From (Some r) (sub q qs done)
    whole_from n q i j qs of h r row =
        let a = right.wholes r n i j q row of (qs, rw take-length at h.spans) in
        let at = a.2.rule_is in
        let l = h.from a.0.left a.2.left_is in
        let reads = read_whole g w f r n i j a.0 l.0 bare row in
        let is : sub a.0.rule (read g w f a.0.left l.0) done ≡ sub q qs done = rw (l.2, at) refl in
        (pick a.0 l.0 bare, (row.0, a.1, l.1, none_from a.0.right a.2.right_is), reads ∙ is)

    non_from : (n v q i j : ℕ) (qs : Parts) → IsRuleOf g n q → FrontRead q (length (items g q)) i j qs → LastFrom (Non n v) i j (sub q qs done)
    non_from n v q i j qs of h o (r, e, row) =
        let b = whole_from n q i j qs of h r row in
        (b.0, rw e b.1, rw e b.2)

    regroup : (p d i j : ℕ) (a b c : Parts) → FrontRead p d i j (parts_then (parts_then a b) c) → FrontRead p d i j (parts_then a (parts_then b c))
    regroup p d i j a b c h = rw (then_assoc a b c) at h

    word_row : (item : GItem) (i j : ℕ) (o : Option ℕ) → IsWord item → ItemRow f item i j o → o ≡ None
    word_row (Fixed v) i j o h row = row
    word_row (Term t v) i j o h row = row
    word_row (Skip t) i j o h row = row
    word_row (Non n v) i j o h row = absurd h

    -- an item whose part is a word, and what is read after it
    passed : (p d i j k : ℕ) (item : GItem) (bs one ps : Parts) (u : List ℕ) → FrontRead p d i j bs → ItemAt g p d item → IsWord item → FitsItems g (item ∷ []) one → parts_yield one ≡ u → Reads w j (u ++ parts_yield ps) k → (m : ℕ) × FrontRead p (suc d) i m (parts_then bs one) × Reads w m (parts_yield ps) k
    passed p d i j k item bs one ps u h at word fits is r =
        let s = Reads-split w j u (parts_yield ps) k r in
        let spans : Spans g w (item ∷ []) j s.0 one = (fits, Reads-same w j u (parts_yield one) s.0 (sym is) s.1) in
        (s.0, step p d i j s.0 item bs one h at spans (λ o row. word_from item j s.0 one word spans o (word_row item j s.0 o word row)), s.2)

    pub walk : (p d i j : ℕ) (is : List GItem) (ps : Parts) (post : List GItem) (k : ℕ) (bs : Parts) → drop d (items g p) ≡ is ++ post → FitsItems g is ps → FrontRead p d i j bs → Reads w j (parts_yield ps) k → FrontRead p (after d is) i k (parts_then bs ps)
    walk p d i j [] done post k bs e f h r = rw (then_done bs, ← r) h
    walk p d i j (Fixed v ∷ is) (fixed u ps) post k bs e f h r =
        let at = drop_get (items g p) d (Fixed v) (is ++ post) e in
        let s = passed p d i j k (Fixed v) bs (fixed u done) ps u h at.0 tt (f.0, tt) (append-nil u) r in
        regroup p (after (suc d) is) i k bs (fixed u done) ps (walk p (suc d) i s.0 is ps post k (parts_then bs (fixed u done)) at.1 f.1 s.1 s.2)
    walk p d i j (Term t v ∷ is) (leaf u ps) post k bs e f h r =
        let at = drop_get (items g p) d (Term t v) (is ++ post) e in
        let s = passed p d i j k (Term t v) bs (leaf u done) ps u h at.0 tt (f.0, tt) (append-nil u) r in
        regroup p (after (suc d) is) i k bs (leaf u done) ps (walk p (suc d) i s.0 is ps post k (parts_then bs (leaf u done)) at.1 f.1 s.1 s.2)
    walk p d i j (Skip t ∷ is) (skip u ps) post k bs e f h r =
        let at = drop_get (items g p) d (Skip t) (is ++ post) e in
        let s = passed p d i j k (Skip t) bs (skip u done) ps u h at.0 tt (f.0, tt) (append-nil u) r in
        regroup p (after (suc d) is) i k bs (skip u done) ps (walk p (suc d) i s.0 is ps post k (parts_then bs (skip u done)) at.1 f.1 s.1 s.2)
    walk p d i j (Non m v ∷ is) (sub q qs ps) post k bs e f h r =
        let at = drop_get (items g p) d (Non m v) (is ++ post) e in
        let s = Reads-split w j (parts_yield qs) (parts_yield ps) k r in
        let inner = walk q 0 j j (items g q) qs [] s.0 done (sym (append-nil (items g q))) f.1 (front_zero q j) s.1 in
        let ended : FrontRead q (length (items g q)) j s.0 qs = rw after_zero at inner in
        let one : Spans g w (Non m v ∷ []) j s.0 (sub q qs done) = ((f.0, f.1, tt), Reads-same w j (parts_yield qs) (parts_yield qs ++ []) s.0 (sym (append-nil (parts_yield qs))) s.1) in
        let h' = step p d i j s.0 (Non m v) bs (sub q qs done) h at.0 one (non_from m v q j s.0 qs f.0 ended) in
        regroup p (after (suc d) is) i k bs (sub q qs done) ps (walk p (suc d) i s.0 is ps post k (parts_then bs (sub q qs done)) at.1 f.2 h' s.2)
    walk p d i j _ _ post k bs e f h r = absurd f

    -- all parts that fit a row's label over its stretch are read from an unfolding of it
    pub fitting_is_unfolded : (r : ℕ) (x : What) (i j : ℕ) (ps : Parts) → IsRow f r x i j → Spans g w (items_of g x) i j ps → From (Some r) ps
    fitting_is_unfolded r (Whole n) i j (sub q qs done) row s =
        let reads = Reads-same w i (parts_yield qs ++ []) (parts_yield qs) j (append-nil (parts_yield qs)) s.1 in
        let h = walk q 0 i i (items g q) qs [] j done (sym (append-nil (items g q))) s.0.1 (front_zero q i) reads in
        let ended : FrontRead q (length (items g q)) i j qs = rw after_zero at h in
        whole_from n q i j qs s.0.0 ended r row
    fitting_is_unfolded r (Whole n) i j (sub q qs _) row s = absurd s.0.2
    fitting_is_unfolded r (Whole n) i j _ row s = absurd s.0
    fitting_is_unfolded r (Front p zero) i j ps row s = let h = right.dotted r p zero i j row in absurd (omega (arith, h.0))
    fitting_is_unfolded r (Front p (suc d)) i j ps row s =
        let h = walk p 0 i i (take (suc d) (items g p)) ps (drop (suc d) (items g p)) j done (sym (take-append-drop (suc d) (items g p))) s.0 (front_zero p i) s.1 in
        let le = right.dotted r p (suc d) i j row in
        let e : after 0 (take (suc d) (items g p)) ≡ suc d = after_zero (take (suc d) (items g p)) ∙ length-take-le (suc d) (items g p) le.1 in
        let ended : FrontRead p (suc d) i j ps = rw e at h in
        ended.from (Some r) (r, refl, row)
