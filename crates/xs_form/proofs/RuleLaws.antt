-- The rules of a legal list, when one more piece goes on it.
use Rattle.std.proofs.Common.{◌≡◌, ℕ, List, [], ◌∷◌, ◌++◌, append-nil, append_assoc, Bool, true, false, not, ◌==◌, ◌&&◌, ◌||◌, if◌then◌else◌, Some, None, refl, sym, ◌∙◌, ap}
use Rattle.std.specs.declared.option.Option.{Option}
use Rattle.xs_xml_laws.specs.Piece.{Piece, declaration}
use Rattle.xs_xml_laws.specs.Legal.{Spot, no_declaration, is_first, passed, all_passed, is_that, no_section_end}
use Rattle.xs_xml_laws.specs.Reads.{symbols, all_symbols}
use Rattle.xs_class.proofs.Truth.{and_no}
use Rattle.xs_xml_laws.proofs.Greatest.{none_passed}

-- the first piece alone may be a declaration
abbrev pub is_declaration : Piece → Bool
is_declaration (declaration as_ gap) = true
is_declaration p = false

abbrev pub is_nil : List Piece → Bool
is_nil [] = true
is_nil (p ∷ ps) = false

declaration_one : (p : Piece) (ps : List Piece) → no_declaration (p ∷ ps) ≡ (not (is_declaration p) && no_declaration ps)
declaration_one (declaration as_ gap) ps = refl
declaration_one p ps = refl

and_assoc : (x y z : Bool) → (x && (y && z)) ≡ ((x && y) && z)
and_assoc true y z = refl
and_assoc false y z = refl

and_yes : (x : Bool) → (x && true) ≡ x
and_yes true = refl
and_yes false = refl

or_no : (x : Bool) → (x || false) ≡ x
or_no true = refl
or_no false = refl

or_yes : (x : Bool) → (x || true) ≡ true
or_yes true = refl
or_yes false = refl

declaration_more : (ps : List Piece) (q : Piece) → no_declaration (ps ++ q ∷ []) ≡ (no_declaration ps && not (is_declaration q))
declaration_more [] q = declaration_one q [] ∙ and_yes (not (is_declaration q))
declaration_more (p ∷ ps) q = declaration_one p (ps ++ q ∷ []) ∙ ap (λ (x : Bool). not (is_declaration p) && x) (declaration_more ps q) ∙ and_assoc (not (is_declaration p)) (no_declaration ps) (not (is_declaration q)) ∙ ap (λ (x : Bool). x && not (is_declaration q)) (sym (declaration_one p ps))

pub first_more : (ps : List Piece) (q : Piece) → is_first (ps ++ q ∷ []) ≡ (is_first ps && (not (is_declaration q) || is_nil ps))
first_more [] q = sym (or_yes (not (is_declaration q)))
first_more (p ∷ ps) q = declaration_more ps q ∙ ap (λ (x : Bool). no_declaration ps && x) (sym (or_no (not (is_declaration q))))

-- of how many of the last pieces, two at most, each is the character ]
abbrev pub run_after : ℕ → Piece → ℕ
run_after k q = if is_that 93 q then (if k == 0 then 1 else 2) else 0

abbrev pub run_of : ℕ → List Piece → ℕ
run_of k [] = k
run_of k (p ∷ ps) = run_of (run_after k p) ps

abbrev pub clean : ℕ → List Piece → Bool
clean k [] = true
clean k (p ∷ ps) = not (is_that 62 p && k == 2) && clean (run_after k p) ps

skip_one : (p : Piece) (ps : List Piece) → is_that 93 p ≡ false → no_section_end (p ∷ ps) ≡ no_section_end ps
skip_one p [] is = refl
skip_one p (q ∷ []) is = refl
skip_one p (q ∷ r ∷ ps) is = rw is refl

skip_two : (b p : Piece) (ps : List Piece) → is_that 93 p ≡ false → no_section_end (b ∷ p ∷ ps) ≡ no_section_end (p ∷ ps)
skip_two b p [] is = refl
skip_two b p (r ∷ ps) is = rw (is, and_no (is_that 93 b)) refl

record IsClean (ps : List Piece) : Type 0 where
  none : clean 0 ps ≡ no_section_end ps
  one : (b : Piece) → is_that 93 b ≡ true → clean 1 ps ≡ no_section_end (b ∷ ps)
  two : (a b : Piece) → is_that 93 a ≡ true → is_that 93 b ≡ true → clean 2 ps ≡ no_section_end (a ∷ b ∷ ps)

clean_step : (p : Piece) (ps : List Piece) → IsClean ps → IsClean (p ∷ ps)
clean_step p ps is = by (is_that 93 p) refl
  where
    by : (t : Bool) → is_that 93 p ≡ t → IsClean (p ∷ ps)
    by true e = record {
      none = rw (e, and_no (is_that 62 p)) (is.one p e);
      one = λ b x. rw (e, and_no (is_that 62 p)) (is.two b p x e);
      two = λ a b x y. rw (x, y, e, and_yes (is_that 62 p)) (ap (λ (z : Bool). not (is_that 62 p) && z) (is.two b p y e));
    }
    by false e = record {
      none = rw (e, and_no (is_that 62 p)) (is.none ∙ sym (skip_one p ps e));
      one = λ b x. rw (e, and_no (is_that 62 p)) (is.none ∙ sym (skip_one p ps e) ∙ sym (skip_two b p ps e));
      two = λ a b x y. rw (x, y, e, and_yes (is_that 62 p)) (ap (λ (z : Bool). not (is_that 62 p) && z) (is.none ∙ sym (skip_one p ps e) ∙ sym (skip_two b p ps e)));
    }

is_clean : (ps : List Piece) → IsClean ps
is_clean [] = record { none = refl; one = λ b x. refl; two = λ a b x y. refl }
is_clean (p ∷ ps) = clean_step p ps (is_clean ps)

clean_more : (k : ℕ) (ps : List Piece) (q : Piece) → clean k (ps ++ q ∷ []) ≡ (clean k ps && not (is_that 62 q && run_of k ps == 2))
clean_more k [] q = and_yes (not (is_that 62 q && k == 2))
clean_more k (p ∷ ps) q = ap (λ (x : Bool). not (is_that 62 p && k == 2) && x) (clean_more (run_after k p) ps q) ∙ and_assoc (not (is_that 62 p && k == 2)) (clean (run_after k p) ps) (not (is_that 62 q && run_of (run_after k p) ps == 2))

pub section_more : (ps : List Piece) (q : Piece) → no_section_end (ps ++ q ∷ []) ≡ (no_section_end ps && not (is_that 62 q && run_of 0 ps == 2))
section_more ps q = sym (is_clean (ps ++ q ∷ [])).none ∙ clean_more 0 ps q ∙ ap (λ (x : Bool). x && not (is_that 62 q && run_of 0 ps == 2)) (is_clean ps).none

pub run_more : (k : ℕ) (ps : List Piece) (q : Piece) → run_of k (ps ++ q ∷ []) ≡ run_after (run_of k ps) q
run_more k [] q = refl
run_more k (p ∷ ps) q = run_more (run_after k p) ps q

pub nil_more : (ps : List Piece) (q : Piece) → is_nil (ps ++ q ∷ []) ≡ false
nil_more [] q = refl
nil_more (p ∷ ps) q = refl

pub symbols_more : (names : List (List ℕ)) (o : Option Spot) (ps : List Piece) (q : Piece) (s : Spot) → all_passed o ps ≡ Some s → all_symbols names o (ps ++ q ∷ []) ≡ all_symbols names o ps ++ symbols names s q
symbols_more names o [] q s is = ap (λ (x : Option Spot). all_symbols names x (q ∷ [])) is ∙ append-nil (symbols names s q)
symbols_more names None (p ∷ ps) q s is = let h = none_passed ps in absurd (cc)
symbols_more names (Some t) (p ∷ ps) q s is = ap (λ (x : List ℕ). symbols names t p ++ x) (symbols_more names (passed t p) ps q s is) ∙ sym (append_assoc (symbols names t p) (all_symbols names (passed t p) ps) (symbols names s q))
