-- The steps of the reader.
use Rattle.std.proofs.Common.{◌≡◌, ℕ, ◌+◌, ◌<◌, List, [], ◌∷◌, ◌++◌, append_assoc, length, drop, get_or, Bool, true, false, ◌==◌, ◌&&◌, if◌then◌else◌, refl, sym, ◌∙◌, ap, arith}
use Rattle.std.proofs.lemmas.Bool.Decides.{nat_tests}
use Rattle.xs_xml_laws.specs.Reads.{lines}
use Rattle.xs_form.specs.State.{line_symbols}
use Rattle.xs_form.proofs.Numbers.{drop_next}

lines_one : (cr : Bool) (c : ℕ) (cs : List ℕ) → lines cr (c ∷ cs) ≡ line_symbols cr c ++ lines (c == 13) cs
lines_one cr c cs = by (c == 10 && cr) refl
  where
    no_return : (c == 10 && cr) ≡ true → (c == 13) ≡ false
    no_return is = grind (arith, nat_tests, is)

    by : (t : Bool) → (c == 10 && cr) ≡ t → (if t then lines false cs else ((if c == 13 then 10 else c) ∷ lines (c == 13) cs)) ≡ (if t then [] else ((if c == 13 then 10 else c) ∷ [])) ++ lines (c == 13) cs
    by true is = rw (no_return is) refl
    by false is = refl

pub lines_more : (whole word after text : List ℕ) (cr : Bool) (i e : ℕ) → i < length text → e ≡ get_or text i e → whole ≡ word ++ lines cr (drop i text) → after ≡ word ++ line_symbols cr e → whole ≡ after ++ lines (e == 13) (drop (i + 1) text)
lines_more whole word after text cr i e low is so_far pushed =
    so_far
    ∙ ap (λ (x : List ℕ). word ++ lines cr x) (drop_next text i e low is)
    ∙ ap (λ (x : List ℕ). word ++ x) (lines_one cr e (drop (i + 1) text))
    ∙ sym (append_assoc word (line_symbols cr e) (lines (e == 13) (drop (i + 1) text)))
    ∙ ap (λ (x : List ℕ). x ++ lines (e == 13) (drop (i + 1) text)) (sym pushed)
