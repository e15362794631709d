-- Runs of characters that an open element takes as they are.
use Rattle.std.proofs.Common.{◌≡◌, ℕ, ◌<◌, List, [], ◌∷◌, ◌++◌, append-nil, append_assoc, length, length-append, Bool, true, false, not, ◌==◌, ◌||◌, if◌then◌else◌, Some, refl, sym, ◌∙◌, ap, subst, arith}
use Rattle.std.specs.Option.{option_map}
use Rattle.std.proofs.lemmas.Bool.Decides.{nat_tests}
use Rattle.xs_xml_laws.specs.Tables.{is_char}
use Rattle.xs_xml_laws.specs.Piece.{character}
use Rattle.xs_xml_laws.specs.Scan.{span, piece_at}
use Rattle.xs_xml_laws.proofs.PieceSoundness.{span_is}
use Rattle.xs_class.proofs.Truth.{and_true, or_false, not_true}
use Rattle.xs_form.specs.Seen.{found, letter}
use Rattle.xs_form.specs.State.{State, is_inside, step, is_bare, IsRun, texted}
use Rattle.xs_form.proofs.ReadLaws.{IsSoFar, piece_more}

pub bare_letter : (c : ℕ) → 93 < c → c < 55296 → true ≡ is_bare c
unfolding is_char
bare_letter c above below = grind (arith, nat_tests)

record IsBare (c : ℕ) : Type 0 where
  char : is_char c ≡ true
  no_tag : (c == 60) ≡ false
  no_reference : (c == 38) ≡ false
  no_end : (c == 62) ≡ false
  no_bracket : (c == 93) ≡ false
  no_return : (c == 13) ≡ false

bare_parts : (c : ℕ) → is_bare c ≡ true → IsBare c
bare_parts c is =
    let p = and_true (is_char c) (not (c == 60 || (c == 38 || (c == 62 || (c == 93 || c == 13))))) is in
    let a = or_false (c == 60) (c == 38 || (c == 62 || (c == 93 || c == 13))) (not_true (c == 60 || (c == 38 || (c == 62 || (c == 93 || c == 13)))) p.1) in
    let b = or_false (c == 38) (c == 62 || (c == 93 || c == 13)) a.1 in
    let d = or_false (c == 62) (c == 93 || c == 13) b.1 in
    let e = or_false (c == 93) (c == 13) d.1 in
    record { char = p.0; no_tag = a.0; no_reference = b.0; no_end = d.0; no_bracket = e.0; no_return = e.1 }

bare_letter_is : (c : ℕ) (cs : List ℕ) → IsBare c → found (character c, cs) ≡ (letter c, cs)
bare_letter_is c cs is = rw is.no_return refl

-- such a character is a piece of its own
bare_at : (c : ℕ) (cs : List ℕ) → IsBare c → Some (letter c, cs) ≡ option_map found (piece_at (c ∷ cs))
unfolding piece_at
bare_at c [] is = rw (is.no_tag, is.no_reference, is.char, bare_letter_is c [] is) refl
bare_at c (d ∷ ds) is = rw (is.no_tag, is.no_reference, is.no_return, is.char, bare_letter_is c (d ∷ ds) is) refl

bare_step : (names : List (List ℕ)) (st : State) (c : ℕ) → is_inside st.spot ≡ true → IsBare c → Some (texted st (c ∷ [])) ≡ step names st (letter c)
bare_step names st c inner is = rw (is.no_end, inner, is.no_bracket) refl

same_word : (names : List (List ℕ)) (doc rest : List ℕ) (st : State) (v w : List ℕ) → v ≡ w → IsSoFar names doc rest (record { spot = st.spot; word = v; fresh = false; run = 0 }) → IsSoFar names doc rest (record { spot = st.spot; word = w; fresh = false; run = 0 })
same_word names doc rest st v w is so = subst (λ (x : List ℕ). IsSoFar names doc rest (record { spot = st.spot; word = x; fresh = false; run = 0 })) is so

module _ (names : List (List ℕ)) (doc : List ℕ) where
  one_bare : (c : ℕ) (cs : List ℕ) (st : State) → is_inside st.spot ≡ true → is_bare c ≡ true → IsSoFar names doc (c ∷ cs) st → IsSoFar names doc cs (texted st (c ∷ []))
  one_bare c cs st inner is so =
      let b = bare_parts c is in
      piece_more names doc (c ∷ cs) cs st (texted st (c ∷ [])) (letter c) so (bare_at c cs b) (bare_step names st c inner b)

  -- a run after a first such character
  run_more : (cs : List ℕ) (st : State) (w : List ℕ) → is_inside st.spot ≡ true → IsSoFar names doc cs (texted st w) → IsSoFar names doc (span is_bare cs).1 (texted st (w ++ (span is_bare cs).0))
  run_more [] st w inner so = same_word names doc [] st (st.word ++ w) (st.word ++ (w ++ [])) (ap (λ (x : List ℕ). st.word ++ x) (sym (append-nil w))) so
  run_more (c ∷ cs) st w inner so = by (is_bare c) refl (λ (next : IsSoFar names doc cs (texted st (w ++ c ∷ []))). run_more cs st (w ++ c ∷ []) inner next)
    where
      joined : (st.word ++ w) ++ c ∷ [] ≡ st.word ++ (w ++ c ∷ [])
      joined = append_assoc st.word w (c ∷ [])

      last : (r : List ℕ) → st.word ++ ((w ++ c ∷ []) ++ r) ≡ st.word ++ (w ++ c ∷ r)
      last r = ap (λ (x : List ℕ). st.word ++ x) (append_assoc w (c ∷ []) r)

      by : (t : Bool) → is_bare c ≡ t → (IsSoFar names doc cs (texted st (w ++ c ∷ [])) → IsSoFar names doc (span is_bare cs).1 (texted st ((w ++ c ∷ []) ++ (span is_bare cs).0))) → IsSoFar names doc (if◌then◌else◌ {A = List ℕ × List ℕ} t (c ∷ (span is_bare cs).0, (span is_bare cs).1) ([], c ∷ cs)).1 (texted st (w ++ (if◌then◌else◌ {A = List ℕ × List ℕ} t (c ∷ (span is_bare cs).0, (span is_bare cs).1) ([], c ∷ cs)).0))
      by true is again = same_word names doc (span is_bare cs).1 st (st.word ++ ((w ++ c ∷ []) ++ (span is_bare cs).0)) (st.word ++ (w ++ c ∷ (span is_bare cs).0)) (last (span is_bare cs).0) (again (same_word names doc cs st ((st.word ++ w) ++ c ∷ []) (st.word ++ (w ++ c ∷ [])) joined (one_bare c cs (texted st w) inner is so)))
      by false is again = same_word names doc (c ∷ cs) st (st.word ++ w) (st.word ++ (w ++ [])) (ap (λ (x : List ℕ). st.word ++ x) (sym (append-nil w))) so

  whole_run : (rest : List ℕ) (st : State) → is_inside st.spot ≡ true → 0 < length (span is_bare rest).0 → IsSoFar names doc rest st → IsSoFar names doc (span is_bare rest).1 (texted st (span is_bare rest).0)
  whole_run [] st inner some so = absurd (omega (arith, some))
  whole_run (c ∷ cs) st inner some so = by (is_bare c) refl some
    where
      by : (t : Bool) → is_bare c ≡ t → 0 < length (if◌then◌else◌ {A = List ℕ × List ℕ} t (c ∷ (span is_bare cs).0, (span is_bare cs).1) ([], c ∷ cs)).0 → IsSoFar names doc (if◌then◌else◌ {A = List ℕ × List ℕ} t (c ∷ (span is_bare cs).0, (span is_bare cs).1) ([], c ∷ cs)).1 (texted st (if◌then◌else◌ {A = List ℕ × List ℕ} t (c ∷ (span is_bare cs).0, (span is_bare cs).1) ([], c ∷ cs)).0)
      by true is more = run_more cs st (c ∷ []) inner (one_bare c cs st inner is so)
      by false is more = absurd (omega (arith, more))

-- the run was read
pub run_read : (names : List (List ℕ)) (doc rest run more : List ℕ) (st : State) → IsRun st rest run more → IsSoFar names doc rest st → IsSoFar names doc more (texted st run)
run_read names doc rest run more st is so =
    let some : 0 < length (span is_bare rest).0 = subst (λ (r : List ℕ × List ℕ). 0 < length r.0) is.split is.some in
    subst (λ (r : List ℕ × List ℕ). IsSoFar names doc r.1 (texted st r.0)) (sym is.split) (whole_run names doc rest st is.inner some so)

pub run_shorter : (rest run more : List ℕ) (st : State) → IsRun st rest run more → length more < length rest
run_shorter rest run more st is =
    let whole : rest ≡ run ++ more = span_is is_bare rest ∙ ap (λ (r : List ℕ × List ℕ). r.0 ++ r.1) (sym is.split) in
    let sizes = ap length whole ∙ length-append run more in
    omega (arith, sizes, is.some)
