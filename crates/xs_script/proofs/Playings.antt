-- Requests that were played one by one, and the lines that are left.
use Rattle.std.proofs.Common.{◌≡◌, ℕ, ◌+◌, ◌<◌, List, [], ◌∷◌, ◌++◌, length, length-append, take, Some, refl, sym, ap, ◌∙◌, subst, arith, append_assoc, append-nil}
use Rattle.std.specs.Prelude.{slice_get}
use Rattle.xs_pair.specs.Grammars.{Pair}
use Rattle.xs_outline.specs.Lines.{text_lines}
use Rattle.xs_outline.specs.Reading.{IsFirstLine}
use Rattle.xs_outline.proofs.TextLines.{first_then}
use Rattle.xs_script.specs.declared.request.Request.{Request}
use Rattle.xs_script.specs.Requests.{Spells, NoRequest, AreSpelt, IsBadAt}
use Rattle.xs_script.specs.Playing.{Answers, Plays, IsPlayed, IsPlaying}

spelt_push : (rs : List Request) (texts : List (List ℕ)) (r : Request) (text : List ℕ) → AreSpelt rs texts → Spells r text → AreSpelt (rs ++ r ∷ []) (texts ++ text ∷ [])
spelt_push [] [] r text all one = (one, tt)
spelt_push [] (t ∷ ts) r text all one = absurd all
spelt_push (q ∷ rs) [] r text all one = absurd all
spelt_push (q ∷ rs) (t ∷ ts) r text all one = (all.0, spelt_push rs ts r text all.1 one)

plays_push : (p : Pair) (doc : List ℕ) (rs : List Request) (lines mid : List ℕ) (r : Request) (line new : List ℕ) → Plays p doc rs lines mid → Answers p mid r line new → Plays p doc (rs ++ r ∷ []) (lines ++ line) new
plays_push p doc [] lines mid r line new h a = (line, new, [], subst (λ (d : List ℕ). Answers p d r line new) h.1 a, (refl, refl), ap (λ (l : List ℕ). l ++ line) h.0 ∙ sym (append-nil line))
plays_push p doc (q ∷ rs) lines mid r line new h a = (h.0, h.1, h.2 ++ line, h.3, plays_push p h.1 rs h.2 mid r line new h.4 a, ap (λ (l : List ℕ). l ++ line) h.5 ∙ append_assoc h.0 h.2 line)

-- nothing was played
pub playing_none : (p : Pair) (script rest out doc : List ℕ) (number : ℕ) → rest ≡ script → out ≡ [] → doc ≡ [] → number ≡ 0 → IsPlaying p script rest number out doc
playing_none p script rest out doc number whole none empty first = record {
  requests = [];
  done = [];
  texts = ap text_lines (sym whole);
  spelt = tt;
  plays = (none, empty);
  count = first;
  room = omega (arith, first, ap (λ (l : List ℕ). length l) whole);
}

-- one request more
pub playing_more : (p : Pair) (script rest text more out doc line on new : List ℕ) (number : ℕ) (r : Request) → IsPlaying p script rest number out doc → IsFirstLine rest text more → length more < length rest → Spells r text → Answers p doc r line new → on ≡ out ++ line → IsPlaying p script more (number + 1) on new
playing_more p script rest text more out doc line on new number r h first short spells answers is = record {
  requests = h.requests ++ r ∷ [];
  done = h.done ++ text ∷ [];
  texts = h.texts ∙ ap (λ z. h.done ++ z) (first_then rest text more first) ∙ sym (append_assoc h.done (text ∷ []) (text_lines more));
  spelt = spelt_push h.requests h.done r text h.spelt spells;
  plays = subst (λ (l : List ℕ). Plays p [] (h.requests ++ r ∷ []) l new) (sym is) (plays_push p [] h.requests out doc r line new h.plays answers);
  count = omega (arith, h.count, length-append h.done (text ∷ []));
  room = omega (arith, h.room, short);
}

-- all lines were played
pub playing_whole : (p : Pair) (script rest out doc : List ℕ) (number : ℕ) → IsPlaying p script rest number out doc → rest ≡ [] → IsPlayed p script out
playing_whole p script rest out doc number h none =
    let texts : text_lines script ≡ h.done = h.texts ∙ ap (λ z. h.done ++ text_lines z) none ∙ append-nil h.done in
    record { requests = h.requests; spelt = subst (AreSpelt h.requests) (sym texts) h.spelt; document = doc; plays = h.plays }

front_is : (done later : List (List ℕ)) → take (length done) (done ++ later) ≡ done
front_is [] later = refl
front_is (d ∷ done) later = ap (λ z. d ∷ z) (front_is done later)

next_at : (done later : List (List ℕ)) (text : List ℕ) → slice_get (done ++ text ∷ later) (length done) ≡ Some text
next_at [] later text = refl
next_at (d ∷ done) later text = next_at done later text

-- the next line spells no request
pub playing_bad : (p : Pair) (script rest text more out doc : List ℕ) (number : ℕ) → IsPlaying p script rest number out doc → IsFirstLine rest text more → NoRequest text → IsBadAt script (number + 1)
playing_bad p script rest text more out doc number h first none = record {
  before = length h.done;
  is = (let c = h.count in omega (arith, c));
  requests = h.requests;
  spelt = subst (AreSpelt h.requests) (sym (ap (λ (l : List (List ℕ)). take (length h.done) l) texts ∙ front_is h.done (text ∷ text_lines more))) h.spelt;
  text = text;
  there = ap (λ (l : List (List ℕ)). slice_get l (length h.done)) texts ∙ next_at h.done (text_lines more) text;
  bad = none;
}
  where
    texts : text_lines script ≡ h.done ++ text ∷ text_lines more
    texts = h.texts ∙ ap (λ z. h.done ++ z) (first_then rest text more first)
