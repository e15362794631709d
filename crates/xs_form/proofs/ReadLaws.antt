-- The reader's state after the pieces so far, and what it says at the end.
use Rattle.std.proofs.Common.{◌≡◌, ℕ, ◌≤◌, ◌<◌, List, [], ◌∷◌, ◌++◌, length, Bool, true, false, not, ◌==◌, ◌&&◌, ◌||◌, if◌then◌else◌, Some, None, refl, sym, ◌∙◌, ap, subst, arith}
use Rattle.std.specs.declared.option.Option.{Option}
use Rattle.std.specs.Option.{option_map}
use Rattle.std.specs.Borrow.{Bor}
use Rattle.std.proofs.lemmas.Bool.Decides.{nat_tests}
use Rattle.xs_xml_laws.specs.Piece.{Piece, is_piece}
use Rattle.xs_xml_laws.specs.Legal.{Spot, ahead, inside, beyond, is_first, passed, then_passed, is_that, no_section_end, IsLegal}
use Rattle.xs_xml_laws.specs.Reads.{symbols, all_symbols, Reads}
use Rattle.xs_xml_laws.specs.Scan.{piece_at}
use Rattle.xs_class.proofs.Truth.{and_true, or_false, not_true, both_true}
use Rattle.xs_class.proofs.Lists.{some_inj}
use Rattle.xs_xml_laws.proofs.TagSoundness.{read_is_spelt}
use Rattle.xs_xml_laws.proofs.Greatest.{IsStuck, all_long, piece_long, stuck_is_broken}
use Rattle.xs_xml_laws.proofs.Stuck.{stuck_unless, reads_whole}
use Rattle.xs_xml_laws.proofs.More.{legal_more, passed_append}
use Rattle.xs_form.specs.declared.document.XmlFault.{XmlFault}
use Rattle.xs_form.specs.declared.document.XmlFault.TheVariants.{NotXml, Memory}
use Rattle.xs_form.specs.Fault.{IsFault, IsAt}
use Rattle.xs_form.specs.declared.pieces.Event.{Event}
use Rattle.xs_form.specs.Seen.{Seen, seen, found, shown_event, shown_found}
use Rattle.xs_form.specs.State.{State, initial, moved, step, ended_word, is_named}
use Rattle.xs_form.proofs.RuleLaws.{is_declaration, is_nil, first_more, run_after, run_of, section_more, run_more, nil_more, symbols_more}
use Rattle.xs_form.proofs.StepLaws.{is_refused, next, step_is, piece_named}

-- a legal list was read up to rest, and the state is that after it
pub record IsSoFar (names : List (List ℕ)) (doc rest : List ℕ) (st : State) : Type 0 where
  pub pieces : List Piece
  pub legal : IsLegal doc pieces rest st.spot
  pub gives : st.word ≡ all_symbols names (Some ahead) pieces
  pub fresh_is : st.fresh ≡ is_nil pieces
  pub run_is : st.run ≡ run_of 0 pieces

pub reading_begins : (names : List (List ℕ)) (doc : List ℕ) → IsSoFar names doc doc initial
reading_begins names doc = record {
  pieces = [];
  legal = record { spells = refl; each = refl; first = refl; nested = refl; fences = refl; alone = refl };
  gives = refl;
  fresh_is = refl;
  run_is = refl;
}

-- a piece that is kept so is read
record IsPiece (rest : List ℕ) (s : Seen) (more : List ℕ) : Type 0 where
  piece : Piece
  at : piece_at rest ≡ Some (piece, more)
  is : is_piece piece ≡ true
  kept : s ≡ seen piece

seen_pair : (r s : Seen × List ℕ) → Some r ≡ Some s → (r.0 ≡ s.0) × (r.1 ≡ s.1)
seen_pair r s is = let e : r ≡ s = some_inj r s is in (ap (λ (x : Seen × List ℕ). x.0) e, ap (λ (x : Seen × List ℕ). x.1) e)

piece_of : (rest more : List ℕ) (s : Seen) → Some (s, more) ≡ option_map found (piece_at rest) → IsPiece rest s more
piece_of rest more s is = by (piece_at rest) refl is
  where
    by : (o : Option (Piece × List ℕ)) → piece_at rest ≡ o → Some (s, more) ≡ option_map found o → IsPiece rest s more
    by None at h = absurd (cc)
    by (Some r) at h =
        let e = seen_pair (s, more) (seen r.0, r.1) h in
        record {
          piece = r.0;
          at = at ∙ ap (λ (x : List ℕ). Some (r.0, x)) (sym e.1);
          is = (read_is_spelt rest r at).is;
          kept = e.0;
        }

-- what the code has found, as a thing that is kept
pub event_is : (o : Option (Event × Bor (List ℕ))) (event : Event) (more : Bor (List ℕ)) (rest : List ℕ) → o ≡ Some (event, more) → option_map shown_found o ≡ option_map found (piece_at rest) → Some (shown_event event, more.now) ≡ option_map found (piece_at rest)
event_is o event more rest is kept = ap (option_map shown_found) (sym is) ∙ kept

pub event_named : (rest more : List ℕ) (s : Seen) → Some (s, more) ≡ option_map found (piece_at rest) → is_named s ≡ true
event_named rest more s is = let p = piece_of rest more s is in ap is_named p.kept ∙ piece_named p.piece p.is

pub event_shorter : (rest more : List ℕ) (s : Seen) → Some (s, more) ≡ option_map found (piece_at rest) → length more < length rest
event_shorter rest more s is =
    let p = piece_of rest more s is in
    let r = read_is_spelt rest (p.piece, more) p.at in
    subst (λ (x : List ℕ). length more < length x) (sym r.spells) (piece_long p.piece more)

-- one more piece
not_both : (d f : Bool) → (d && not f) ≡ false → (not d || f) ≡ true
not_both true true is = refl
not_both true false is = absurd (cc)
not_both false f is = refl

both_not : (d f : Bool) → (not d || f) ≡ true → (d && not f) ≡ false
both_not true true is = refl
both_not true false is = absurd (cc)
both_not false f is = refl

not_false : (x : Bool) → x ≡ false → not x ≡ true
not_false x is = rw is refl

module _ (names : List (List ℕ)) (doc rest : List ℕ) (st : State) (so : IsSoFar names doc rest st) (q : Piece) (more : List ℕ) (at : piece_at rest ≡ Some (q, more)) where
  one_more : (t : Spot) → is_refused st q ≡ false → passed st.spot q ≡ Some t → IsSoFar names doc more (record { spot = t; word = st.word ++ symbols names st.spot q; fresh = false; run = run_after st.run q })
  one_more t fine go =
      let r = read_is_spelt rest (q, more) at in
      let f = or_false (is_declaration q && not st.fresh) (is_that 62 q && st.run == 2) fine in
      let first : is_first (so.pieces ++ q ∷ []) ≡ true = first_more so.pieces q ∙ both_true (is_first so.pieces) (not (is_declaration q) || is_nil so.pieces) so.legal.first (subst (λ (x : Bool). (not (is_declaration q) || x) ≡ true) so.fresh_is (not_both (is_declaration q) st.fresh f.0)) in
      let fences : no_section_end (so.pieces ++ q ∷ []) ≡ true = section_more so.pieces q ∙ both_true (no_section_end so.pieces) (not (is_that 62 q && run_of 0 so.pieces == 2)) so.legal.fences (subst (λ (x : ℕ). not (is_that 62 q && x == 2) ≡ true) so.run_is (not_false (is_that 62 q && st.run == 2) f.1)) in
      record {
        pieces = so.pieces ++ q ∷ [];
        legal = legal_more doc so.pieces rest st.spot q more t so.legal (record { spells = r.spells; is = r.is; alone = r.alone }) go first fences;
        gives = ap (λ (x : List ℕ). x ++ symbols names st.spot q) so.gives ∙ sym (symbols_more names (Some ahead) so.pieces q st.spot so.legal.nested);
        fresh_is = sym (nil_more so.pieces q);
        run_is = ap (λ (x : ℕ). run_after x q) so.run_is ∙ sym (run_more 0 so.pieces q);
      }

  next_more : (to : State) (r : Bool) (o : Option Spot) → is_refused st q ≡ r → passed st.spot q ≡ o → Some to ≡ (if r then None else moved st o (symbols names st.spot q) (run_after st.run q)) → IsSoFar names doc more to
  next_more to true o fine go is = absurd (cc)
  next_more to false None fine go is = absurd (cc)
  next_more to false (Some t) fine go is = subst (λ (x : State). IsSoFar names doc more x) (sym (some_inj to (record { spot = t; word = st.word ++ symbols names st.spot q; fresh = false; run = run_after st.run q }) is)) (one_more t fine go)

  -- a piece on the list is not refused
  legal_next : (r : List ℕ) (t : Spot) → IsLegal doc (so.pieces ++ q ∷ []) r t → (passed st.spot q ≡ Some t) × (is_refused st q ≡ false)
  legal_next r t legal =
      let go : passed st.spot q ≡ Some t = ap (λ (x : Option Spot). then_passed x q) (sym so.legal.nested) ∙ sym (passed_append (Some ahead) so.pieces (q ∷ [])) ∙ legal.nested in
      let first = and_true (is_first so.pieces) (not (is_declaration q) || is_nil so.pieces) (sym (first_more so.pieces q) ∙ legal.first) in
      let fences = and_true (no_section_end so.pieces) (not (is_that 62 q && run_of 0 so.pieces == 2)) (sym (section_more so.pieces q) ∙ legal.fences) in
      let d : (is_declaration q && not st.fresh) ≡ false = both_not (is_declaration q) st.fresh (subst (λ (x : Bool). (not (is_declaration q) || x) ≡ true) (sym so.fresh_is) first.1) in
      let s : (is_that 62 q && st.run == 2) ≡ false = subst (λ (x : ℕ). (is_that 62 q && x == 2) ≡ false) (sym so.run_is) (not_true (is_that 62 q && run_of 0 so.pieces == 2) fences.1) in
      (go, rw (d, s) refl)

pub piece_more : (names : List (List ℕ)) (doc rest more : List ℕ) (st to : State) (s : Seen) → IsSoFar names doc rest st → Some (s, more) ≡ option_map found (piece_at rest) → Some to ≡ step names st s → IsSoFar names doc more to
piece_more names doc rest more st to s so is go =
    let p = piece_of rest more s is in
    next_more names doc rest st so p.piece more p.at to (is_refused st p.piece) (passed st.spot p.piece) refl refl (go ∙ ap (step names st) p.kept ∙ step_is names st p.piece p.is)

-- nothing goes on the list where no piece is read, or where it is refused
pub no_piece : (names : List (List ℕ)) (doc rest : List ℕ) (st : State) (so : IsSoFar names doc rest st) → None ≡ option_map found (piece_at rest) → IsStuck doc so.pieces
no_piece names doc rest st so none = stuck_unless doc so.pieces rest st.spot so.legal (λ q r t at legal. none_at (piece_at rest) (q, r) none at)
  where
    none_at : (o : Option (Piece × List ℕ)) (x : Piece × List ℕ) → None ≡ option_map found o → o ≡ Some x → ⊥
    none_at None x none at = cc
    none_at (Some y) x none at = cc

pub piece_refused : (names : List (List ℕ)) (doc rest more : List ℕ) (st : State) (s : Seen) (so : IsSoFar names doc rest st) → Some (s, more) ≡ option_map found (piece_at rest) → None ≡ step names st s → IsStuck doc so.pieces
piece_refused names doc rest more st s so is refused = stuck_unless doc so.pieces rest st.spot so.legal (λ q r t at legal. by q r t at legal)
  where
    same_piece : (x y : Piece × List ℕ) → Some x ≡ Some y → x.0 ≡ y.0
    same_piece x y e = ap (λ (z : Piece × List ℕ). z.0) (some_inj x y e)

    none_moved : (t : Spot) (w : List ℕ) (k : ℕ) → None ≡ moved st (Some t) w k → ⊥
    none_moved t w k e = cc

    by : (q : Piece) (r : List ℕ) (t : Spot) → piece_at rest ≡ Some (q, r) → IsLegal doc (so.pieces ++ q ∷ []) r t → ⊥
    by q r t at legal =
        let p = piece_of rest more s is in
        let e : p.piece ≡ q = same_piece (p.piece, more) (q, r) (sym p.at ∙ at) in
        let n : None ≡ next names st q = refused ∙ ap (step names st) p.kept ∙ step_is names st p.piece p.is ∙ ap (next names st) e in
        let l = legal_next names doc rest st so q r at r t legal in
        none_moved t (symbols names st.spot q) (run_after st.run q) (n ∙ rw (l.1, l.0) refl)

-- what is said where nothing goes on the list
pub at_doc : (whole doc rest : List ℕ) (e : XmlFault) → whole ≡ doc → IsAt e (length whole) (length rest) → IsAt e (length doc) (length rest)
at_doc whole doc rest e same at = subst (λ (x : List ℕ). IsAt e (length x) (length rest)) same at

pub broken_of : (names : List (List ℕ)) (doc rest : List ℕ) (st : State) (e : XmlFault) (so : IsSoFar names doc rest st) → IsStuck doc so.pieces → (rest ≡ [] → st.spot ≡ beyond → ⊥) → IsAt e (length doc) (length rest) → IsFault names doc e
broken_of names doc rest st (NotXml at) so stuck unread is = (
  λ w r. let whole = reads_whole names doc w so.pieces rest st.spot so.legal stuck r in unread whole.0 whole.1,
  stuck_is_broken doc so.pieces rest st.spot at so.legal stuck is,
)
broken_of names doc rest st Memory so stuck unread is = absurd is

pub rest_shorter : (names : List (List ℕ)) (doc rest : List ℕ) (st : State) → IsSoFar names doc rest st → length rest ≤ length doc
rest_shorter names doc rest st so = subst (λ (x : List ℕ). length rest ≤ length x) (sym so.legal.spells) (all_long so.pieces rest)

-- a document that was read to its end
pub all_read : (names : List (List ℕ)) (doc : List ℕ) (st : State) → IsSoFar names doc [] st → st.spot ≡ beyond → Reads names doc st.word
all_read names doc st so is = record {
  pieces = so.pieces;
  legal = subst (λ (x : Spot). IsLegal doc so.pieces [] x) is so.legal;
  gives = so.gives;
}

nothing_at : None ≡ option_map found (piece_at [])
unfolding piece_at
nothing_at = refl

pub no_piece_left : (rest : List ℕ) → rest ≡ [] → None ≡ option_map found (piece_at rest)
no_piece_left rest is = nothing_at ∙ ap (λ (x : List ℕ). option_map found (piece_at x)) (sym is)

pub empty_list : (xs : List ℕ) → (length xs == 0) ≡ true → xs ≡ []
empty_list [] is = refl
empty_list (x ∷ xs) is = absurd (grind (arith, nat_tests, is))

pub no_empty_list : (xs : List ℕ) → (length xs == 0) ≡ false → xs ≡ [] → ⊥
no_empty_list xs is none = let h : (0 == 0) ≡ false = subst (λ (x : List ℕ). (length x == 0) ≡ false) none is in cc

pub finished_at : (s : Spot) (v w : List ℕ) → Some w ≡ ended_word s v → (s ≡ beyond) × (v ≡ w)
finished_at ahead v w is = absurd (cc)
finished_at (inside m ms) v w is = absurd (cc)
finished_at beyond v w is = (refl, sym (word_inj w v is))
  where
    word_inj : (x y : List ℕ) → Some x ≡ Some y → x ≡ y
    word_inj x y e = cc

pub not_finished : (s : Spot) (v : List ℕ) → None ≡ ended_word s v → s ≡ beyond → ⊥
not_finished s v is at = let h : None ≡ ended_word beyond v = subst (λ (x : Spot). None ≡ ended_word x v) at is in cc
