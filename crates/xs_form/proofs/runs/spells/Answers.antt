use Rattle.std.proofs.Common.{◌≡◌, ◌==◌, ℕ, suc, false, List, [], ◌∷◌, length, Some, None, inl, inr, refl, sym, ◌∙◌, arith, eqb-true}
use Rattle.std.proofs.lemmas.Bool.{cases_Bool}
use Rattle.xs_xml_laws.specs.Piece.{same}
use Rattle.xs_xml_laws.specs.Scan.{after}
use Rattle.xs_form.proofs.SettingLaws.{swap}
use Rattle.xs_form.proofs.runs.spells.Goals as goal

-- a text is the word exactly where the word stands in front and nothing is left
none_is : (text word : List ℕ) → after word text ≡ None → same text word ≡ false
none_is text [] e = cc
none_is [] (p ∷ word) e = refl
none_is (c ∷ text) (p ∷ word) e =
    elim (cases_Bool (p == c)) [
      | inl is ↦ let later : after word text ≡ None = rw is at e in rw (swap c p, is) (none_is text word later)
      | inr other ↦ rw (swap c p, other) refl
    ]

not_zero : (n : ℕ) → false ≡ (suc n == 0)
not_zero n =
    elim (cases_Bool (suc n == 0)) [
      | inl is ↦ let zero : suc n ≡ 0 = eqb-true (suc n) 0 is in absurd (omega arith)
      | inr other ↦ sym other
    ]

left_is : (text word rest : List ℕ) → after word text ≡ Some rest → same text word ≡ (length rest == 0)
left_is [] [] rest e = let r : [] ≡ rest = cc in rw (← r) refl
left_is [] (p ∷ word) rest e = cc
left_is (c ∷ text) [] rest e = let r : c ∷ text ≡ rest = cc in rw (← r) (not_zero (length text))
left_is (c ∷ text) (p ∷ word) rest e =
    elim (cases_Bool (p == c)) [
      | inl is ↦ let later : after word text ≡ Some rest = rw is at e in rw (swap c p, is) (left_is text word rest later)
      | inr other ↦ let no : None ≡ Some rest = rw other at e in cc
    ]

pub returns-in-None : goal.returns-in-None
returns-in-None c = sym (none_is c.args.text.now c.args.word.now (sym c.in-None.ensures))

pub returns-in-Some : goal.returns-in-Some
returns-in-Some c = c.is_empty.ensures ∙ sym (left_is c.args.text.now c.args.word.now c.in-Some.rest.now (sym c.in-Some.ensures))
