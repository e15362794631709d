-- A request is read exactly.
use Rattle.std.proofs.Common.{◌≡◌, ℕ, ◌<◌, ◌≤◌, List, [], ◌∷◌, ◌++◌, Some, None, refl, sym, ap, ◌∙◌, subst, arith}
use Rattle.std.specs.Prelude.{codes}
use Rattle.std.specs.declared.option.Option.{Option}
use Rattle.xs_class.proofs.Lists.{some_inj}
use Rattle.xs_lex.specs.Spelling.{IsQuoted}
use Rattle.xs_outline.specs.Lines.{Lacks}
use Rattle.xs_outline.specs.Reading.{numeral_at, NoQuoted}
use Rattle.xs_outline.proofs.Spelling.{digits_lack, same_cut}
use Rattle.xs_outline.proofs.Numerals.{numeral_found, numeral_read}
use Rattle.xs_script.specs.declared.request.Request.TheVariants.{Put, Tree, Next}
use Rattle.xs_edit.specs.Edits.{document_limit}
use Rattle.xs_script.specs.Requests.{IsNumber, NoNumber, IsChange, NoChange, Spells, NoRequest}

-- numbers

none_some : (n : ℕ) → ◌≡◌ {A = Option ℕ} None (Some n) → ⊥
none_some n e = cc

low : (digits : List ℕ) (n : ℕ) → IsNumber digits n → numeral_at digits ≡ Some n
low digits n is = let le = is.within in numeral_read digits n (omega (arith, le)) is.numeral

pub no_number_none : (digits : List ℕ) → numeral_at digits ≡ None → NoNumber digits
no_number_none digits none n is = none_some n (sym none ∙ low digits n is)

pub no_number_great : (digits : List ℕ) (m : ℕ) → numeral_at digits ≡ Some m → document_limit < m → NoNumber digits
no_number_great digits m found great n is =
    let same = some_inj m n (sym found ∙ low digits n is) in
    let le = is.within in
    omega (arith, same, le, great)

pub number_found : (digits : List ℕ) (m : ℕ) → numeral_at digits ≡ Some m → m ≤ document_limit → IsNumber digits m
number_found digits m found le = record { numeral = numeral_found digits m found; within = le }

-- changes

lacks_not : (c : ℕ) (a b : List ℕ) → Lacks c (a ++ c ∷ b) → ⊥
lacks_not c [] b lacks = lacks.0 refl
lacks_not c (x ∷ a) b lacks = lacks_not c a b lacks.1

pub no_change_one : (text : List ℕ) → Lacks 32 text → NoChange text
no_change_one text lacks at cut put c = lacks_not 32 c.at_digits (c.cut_digits ++ 32 ∷ c.token) (subst (Lacks 32) c.is lacks)

first_same : (text a r : List ℕ) (at cut : ℕ) (put : List ℕ) → text ≡ a ++ 32 ∷ r → Lacks 32 a → (c : IsChange text at cut put) → (a ≡ c.at_digits) × (r ≡ c.cut_digits ++ 32 ∷ c.token)
first_same text a r at cut put is lacks c = same_cut 32 a c.at_digits r (c.cut_digits ++ 32 ∷ c.token) lacks (digits_lack c.at_digits c.at_is.numeral.each) (sym is ∙ c.is)

pub no_change_two : (text a r : List ℕ) → text ≡ a ++ 32 ∷ r → Lacks 32 a → Lacks 32 r → NoChange text
no_change_two text a r is lacks none at cut put c = lacks_not 32 c.cut_digits c.token (subst (Lacks 32) (first_same text a r at cut put is lacks c).1 none)

second_same : (text a r b q : List ℕ) (at cut : ℕ) (put : List ℕ) → text ≡ a ++ 32 ∷ r → Lacks 32 a → r ≡ b ++ 32 ∷ q → Lacks 32 b → (c : IsChange text at cut put) → (b ≡ c.cut_digits) × (q ≡ c.token)
second_same text a r b q at cut put is lacks also lacks_b c = same_cut 32 b c.cut_digits q c.token lacks_b (digits_lack c.cut_digits c.cut_is.numeral.each) (sym also ∙ (first_same text a r at cut put is lacks c).1)

pub no_change_at : (text a r : List ℕ) → text ≡ a ++ 32 ∷ r → Lacks 32 a → NoNumber a → NoChange text
no_change_at text a r is lacks none at cut put c = none at (subst (λ z. IsNumber z at) (sym (first_same text a r at cut put is lacks c).0) c.at_is)

pub no_change_cut : (text a r b q : List ℕ) → text ≡ a ++ 32 ∷ r → Lacks 32 a → r ≡ b ++ 32 ∷ q → Lacks 32 b → NoNumber b → NoChange text
no_change_cut text a r b q is lacks also lacks_b none at cut put c = none cut (subst (λ z. IsNumber z cut) (sym (second_same text a r b q at cut put is lacks also lacks_b c).0) c.cut_is)

pub no_change_put : (text a r b q : List ℕ) → text ≡ a ++ 32 ∷ r → Lacks 32 a → r ≡ b ++ 32 ∷ q → Lacks 32 b → NoQuoted q → NoChange text
no_change_put text a r b q is lacks also lacks_b none at cut put c = none put (subst (λ z. IsQuoted z put) (sym (second_same text a r b q at cut put is lacks also lacks_b c).1) c.put_is)

pub change_spelt : (text a r b q : List ℕ) (at cut : ℕ) (put : List ℕ) → text ≡ a ++ 32 ∷ r → r ≡ b ++ 32 ∷ q → IsNumber a at → IsNumber b cut → IsQuoted q put → IsChange text at cut put
change_spelt text a r b q at cut put is also at_is cut_is put_is = record {
  at_digits = a;
  cut_digits = b;
  token = q;
  is = is ∙ ap (λ z. a ++ 32 ∷ z) also;
  at_is = at_is;
  cut_is = cut_is;
  put_is = put_is;
}

-- requests

lacks_put : Lacks 32 (codes "put")
lacks_put = ((λ e. omega (arith, e)), ((λ e. omega (arith, e)), ((λ e. omega (arith, e)), tt)))

lacks_next : Lacks 32 (codes "next")
lacks_next = ((λ e. omega (arith, e)), ((λ e. omega (arith, e)), ((λ e. omega (arith, e)), ((λ e. omega (arith, e)), tt))))

lacks_tree : Lacks 32 (codes "tree")
lacks_tree = ((λ e. omega (arith, e)), ((λ e. omega (arith, e)), ((λ e. omega (arith, e)), ((λ e. omega (arith, e)), tt))))

pub no_request_alone : (text : List ℕ) → Lacks 32 text → (text ≡ codes "tree" → ⊥) → NoRequest text
no_request_alone text lacks other (Put at cut put) s = lacks_not 32 (codes "put") s.0 (subst (Lacks 32) s.1 lacks)
no_request_alone text lacks other Tree s = other s
no_request_alone text lacks other (Next at) s = lacks_not 32 (codes "next") s.0 (subst (Lacks 32) s.1 lacks)

module _ (text word rest : List ℕ) (is : text ≡ word ++ 32 ∷ rest) (lacks : Lacks 32 word) where
  not_tree : text ≡ codes "tree" → ⊥
  not_tree e = lacks_not 32 word rest (subst (Lacks 32) (sym e ∙ is) lacks_tree)

  as_put : (more : List ℕ) → text ≡ codes "put" ++ 32 ∷ more → (word ≡ codes "put") × (rest ≡ more)
  as_put more e = same_cut 32 word (codes "put") rest more lacks lacks_put (sym is ∙ e)

  as_next : (more : List ℕ) → text ≡ codes "next" ++ 32 ∷ more → (word ≡ codes "next") × (rest ≡ more)
  as_next more e = same_cut 32 word (codes "next") rest more lacks lacks_next (sym is ∙ e)

  apart : codes "put" ≡ codes "next" → ⊥
  apart e = cc

  pub no_put : word ≡ codes "put" → NoChange rest → NoRequest text
  no_put e none (Put at cut put) s = none at cut put (subst (λ z. IsChange z at cut put) (sym (as_put s.0 s.1).1) s.2)
  no_put e none Tree s = not_tree s
  no_put e none (Next at) s = apart (sym e ∙ (as_next s.0 s.1).0)

  pub no_next : word ≡ codes "next" → NoNumber rest → NoRequest text
  no_next e none (Put at cut put) s = apart (sym (as_put s.0 s.1).0 ∙ e)
  no_next e none Tree s = not_tree s
  no_next e none (Next at) s = none at (subst (λ z. IsNumber z at) (sym (as_next s.0 s.1).1) s.2)

  pub no_other : (word ≡ codes "put" → ⊥) → (word ≡ codes "next" → ⊥) → NoRequest text
  no_other put next (Put at cut w) s = put (as_put s.0 s.1).0
  no_other put next Tree s = not_tree s
  no_other put next (Next at) s = next (as_next s.0 s.1).0

  pub put_spelt : (at cut : ℕ) (put : List ℕ) → word ≡ codes "put" → IsChange rest at cut put → Spells (Put at cut put) text
  put_spelt at cut put e c = (rest, is ∙ ap (λ z. z ++ 32 ∷ rest) e, c)

  pub next_spelt : (at : ℕ) → word ≡ codes "next" → IsNumber rest at → Spells (Next at) text
  next_spelt at e n = (rest, is ∙ ap (λ z. z ++ 32 ∷ rest) e, n)
