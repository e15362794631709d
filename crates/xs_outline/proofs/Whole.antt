-- Lines that were read one by one: where they lead, and from which line on there is no outline.
use Rattle.std.proofs.Common.{◌≡◌, ◌⊎◌, inl, inr, ℕ, zero, suc, ◌<◌, ◌≤◌, List, [], ◌∷◌, ◌++◌, length, length-append, take, refl, sym, ap, ◌∙◌, subst, arith, append_assoc, append-nil}
use Rattle.std.proofs.lemmas.Bool.{cases_lt}
use Rattle.std.proofs.lemmas.List.{take_all}
use Rattle.xs_gram.specs.Common.{Common}
use Rattle.xs_gram.specs.Sound.{IsSound}
use Rattle.xs_sheet.specs.declared.sheet.Sheet.{Sheet}
use Rattle.xs_pair.specs.Grammars.{Pair, IsPairOf}
use Rattle.xs_outline.specs.Lines.{Line, SpellsLine, AreSpelt, text_lines}
use Rattle.xs_outline.specs.Outline.{AreLinesOf, IsOutline, BeginsOutline, IsBadAt}
use Rattle.xs_outline.specs.Machine.{State, at_start, complete, next, MayCome, after, MayAllCome}
use Rattle.xs_outline.specs.Reading.{IsFirstLine}
use Rattle.xs_outline.specs.Reader.{Goes, IsStuck, IsRead}
use Rattle.xs_outline.proofs.LawProofs.{leads_lem, begins_lem}
use Rattle.xs_outline.proofs.Spelling.{same_line, same_lines}
use Rattle.xs_outline.proofs.TextLines.{first_then}

-- one more line
spelt_push : (ls : List Line) (texts : List (List ℕ)) (l : Line) (text : List ℕ) → AreSpelt ls texts → SpellsLine l text → AreSpelt (ls ++ l ∷ []) (texts ++ text ∷ [])
spelt_push [] [] l text all one = (one, tt)
spelt_push [] (t ∷ ts) l text all one = absurd all
spelt_push (m ∷ ls) [] l text all one = absurd all
spelt_push (m ∷ ls) (t ∷ ts) l text all one = (all.0, spelt_push ls ts l text all.1 one)

may_push : (p : Pair) (s : State) (ls : List Line) (l : Line) → MayAllCome p s ls → MayCome p (after p s ls) l → MayAllCome p s (ls ++ l ∷ [])
may_push p s [] l may one = (one, tt)
may_push p s (m ∷ ls) l may one = (may.0, may_push p (next p s m) ls l may.1 one)

after_push : (p : Pair) (s : State) (ls : List Line) (l : Line) → after p s (ls ++ l ∷ []) ≡ next p (after p s ls) l
after_push p s [] l = refl
after_push p s (m ∷ ls) l = after_push p (next p s m) ls l

pub read_more : (p : Pair) (doc rest text more : List ℕ) (number : ℕ) (s s' : State) → IsRead p doc rest number s → IsFirstLine rest text more → length more < length rest → Goes p s text s' → IsRead p doc more (suc number) s'
read_more p doc rest text more number s s' r first short goes = record {
  done = r.done ++ text ∷ [];
  lines = r.lines ++ goes.line ∷ [];
  texts = r.texts ∙ ap (λ z. r.done ++ z) (first_then rest text more first) ∙ sym (append_assoc r.done (text ∷ []) (text_lines more));
  spelt = spelt_push r.lines r.done goes.line text r.spelt goes.spells;
  may = may_push p at_start r.lines goes.line r.may (subst (λ z. MayCome p z goes.line) (sym r.is) goes.may);
  is = after_push p at_start r.lines goes.line ∙ ap (λ z. next p z goes.line) r.is ∙ sym goes.is;
  count = omega (arith, r.count, length-append r.done (text ∷ []));
  room = omega (arith, r.room, short);
}

pub read_none : (p : Pair) (doc : List ℕ) (s : State) → s ≡ at_start → IsRead p doc doc 0 s
read_none p doc s is = record { done = []; lines = []; texts = refl; spelt = tt; may = tt; is = sym is; count = refl; room = omega arith }

module _ (s : Sheet) (p : Pair) (pair : IsPairOf s p) (sound : IsSound p.text) where
  -- all lines lead to a tree
  pub read_whole : (doc rest : List ℕ) (number : ℕ) (st : State) (t : Common) → IsRead p doc rest number st → rest ≡ [] → st ≡ complete t → IsOutline p doc t
  read_whole doc rest number st t r none is =
      let texts : text_lines doc ≡ r.done = r.texts ∙ ap (λ z. r.done ++ text_lines z) none ∙ append-nil r.done in
      record {
        lines = r.lines;
        spelt = subst (AreSpelt r.lines) (sym texts) r.spelt;
        tree = (leads_lem s p pair sound.built.slots r.lines t).1 (record { may = r.may; is = r.is ∙ is });
      }

  begun_may : (ls more : List Line) (t : Common) → AreLinesOf p (ls ++ more) t → MayAllCome p at_start ls
  begun_may ls more t are = (begins_lem s p pair sound ls).0 (more, t, are)

  -- lines that spell more texts than were read have one more that may come
  pub record OneMore (ls : List Line) (text : List ℕ) (from : State) : Type 0 where
    pub line : Line
    pub spells : SpellsLine line text
    pub may : MayCome p from line

  one_more : (done : List (List ℕ)) (lines ms : List Line) (text : List ℕ) (later : List (List ℕ)) (from : State) → AreSpelt lines done → AreSpelt ms (done ++ text ∷ later) → MayAllCome p from ms → OneMore ms text (after p from lines)
  one_more [] [] [] text later from a b may = absurd b
  one_more [] [] (m ∷ ms) text later from a b may = record { line = m; spells = b.0; may = may.0 }
  one_more [] (l ∷ lines) ms text later from a b may = absurd a
  one_more (d ∷ done) [] ms text later from a b may = absurd a
  one_more (d ∷ done) (l ∷ lines) [] text later from a b may = absurd b
  one_more (d ∷ done) (l ∷ lines) (m ∷ ms) text later from a b may =
      let same : m ≡ l = same_line m l d b.0 a.0 in
      let rest = one_more done lines ms text later (next p from m) a.1 b.1 may.1 in
      record { line = rest.line; spells = rest.spells; may = subst (λ z. MayCome p (after p (next p from z) lines) rest.line) same rest.may }

  begins_done : (doc rest : List ℕ) (number : ℕ) (st : State) → (r : IsRead p doc rest number st) → BeginsOutline p r.done
  begins_done doc rest number st r =
      let more = (begins_lem s p pair sound r.lines).1 r.may in
      record { lines = r.lines; more = more.0; tree = more.1; spelt = r.spelt; whole = more.2 }

  front_is : (done later : List (List ℕ)) → take (length done) (done ++ later) ≡ done
  front_is [] later = refl
  front_is (d ∷ done) later = ap (λ z. d ∷ z) (front_is done later)

  -- a front beyond those that were read has the next text
  beyond : (done later : List (List ℕ)) (text : List ℕ) (k : ℕ) → length done < k → (more : List (List ℕ)) × (take k (done ++ text ∷ later) ≡ done ++ text ∷ more)
  beyond [] later text zero lt = absurd (omega (arith, lt))
  beyond [] later text (suc k) lt = (take k later, refl)
  beyond (d ∷ done) later text zero lt = absurd (omega (arith, lt))
  beyond (d ∷ done) later text (suc k) lt =
      let rest = beyond done later text k (omega (arith, lt)) in
      (rest.0, ap (λ z. d ∷ z) rest.1)

  not_beyond : (doc rest : List ℕ) (number : ℕ) (st : State) (text : List ℕ) (later : List (List ℕ)) → (r : IsRead p doc rest number st) → text_lines rest ≡ text ∷ later → IsStuck p st text → (k : ℕ) → BeginsOutline p (take k (text_lines doc)) → k ≤ length r.done
  not_beyond doc rest number st text later r are stuck k begins = by (cases_lt (length r.done) k)
    where
      by : (length r.done < k) ⊎ (k ≤ length r.done) → k ≤ length r.done
      by (inr le) = le
      by (inl lt) =
          let on = beyond r.done later text k lt in
          let texts : take k (text_lines doc) ≡ r.done ++ text ∷ on.0 = ap (take k) (r.texts ∙ ap (λ z. r.done ++ z) are) ∙ on.1 in
          let one = one_more r.done r.lines begins.lines text on.0 at_start r.spelt (subst (AreSpelt begins.lines) texts begins.spelt) (begun_may begins.lines begins.more begins.tree begins.whole) in
          absurd (stuck one.line one.spells (subst (λ z. MayCome p z one.line) r.is one.may))

  -- a line that may not come
  pub bad_line : (doc rest text more : List ℕ) (number line : ℕ) (st : State) → IsRead p doc rest number st → IsFirstLine rest text more → IsStuck p st text → line ≡ suc number → IsBadAt p doc line
  bad_line doc rest text more number line st r first stuck is =
      let are = first_then rest text more first in
      let texts : text_lines doc ≡ r.done ++ text ∷ text_lines more = r.texts ∙ ap (λ z. r.done ++ z) are in
      let not_more = not_beyond doc rest number st text (text_lines more) r are stuck in
      record {
        none = λ t o.
            let one = one_more r.done r.lines o.lines text (text_lines more) at_start r.spelt (subst (AreSpelt o.lines) texts o.spelt) (((leads_lem s p pair sound.built.slots o.lines t).0 o.tree).may) in
            stuck one.line one.spells (subst (λ z. MayCome p z one.line) r.is one.may);
        before = length r.done;
        is = is ∙ ap suc r.count;
        within = let long = ap length texts in omega (arith, long, length-append r.done (text ∷ text_lines more));
        begins = subst (BeginsOutline p) (sym (ap (take (length r.done)) texts ∙ front_is r.done (text ∷ text_lines more))) (begins_done doc rest number st r);
        greatest = λ k le begins. not_more k begins;
      }

  -- the lines end where the tree is not whole
  pub bad_end : (doc rest : List ℕ) (number line : ℕ) (st : State) → IsRead p doc rest number st → rest ≡ [] → ((t : Common) → st ≡ complete t → ⊥) → line ≡ suc number → IsBadAt p doc line
  bad_end doc rest number line st r none open_ is =
      let texts : text_lines doc ≡ r.done = r.texts ∙ ap (λ z. r.done ++ text_lines z) none ∙ append-nil r.done in
      record {
        none = λ t o.
            let same = same_lines o.lines r.lines r.done (subst (AreSpelt o.lines) texts o.spelt) r.spelt in
            let passes = (leads_lem s p pair sound.built.slots o.lines t).0 o.tree in
            open_ t (sym r.is ∙ ap (after p at_start) (sym same) ∙ passes.is);
        before = length r.done;
        is = is ∙ ap suc r.count;
        within = let long = ap length texts in omega (arith, long);
        begins = subst (BeginsOutline p) (sym (ap (take (length r.done)) texts ∙ take_all (length r.done) r.done (omega arith))) (begins_done doc rest number st r);
        greatest = λ k le begins. let long = ap length texts in omega (arith, le, long);
      }
