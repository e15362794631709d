-- Texts that lack a character; a quoted string as it is written lacks LF.
use Rattle.std.proofs.Common.{◌≡◌, ◌≢◌, ◌∙◌, ℕ, ◌+◌, Bool, true, false, not, ◌==◌, if◌then◌else◌, List, [], ◌∷◌, ◌++◌, refl, sym, subst, arith}
use Rattle.std.specs.List.{list_all}
use Rattle.xs_class.proofs.Truth.{and_true, not_true, eq_self, false_true}
use Rattle.xs_lex.specs.Reading.{line_ends}
use Rattle.xs_sheet.specs.Layout.{quoted}
use Rattle.xs_sheet.proofs.Escapes.{quoted_one_line}
use Rattle.xs_outline.specs.Lines.{Lacks}

pub is_other : (c x : ℕ) → (x == c) ≡ false → x ≢ c
is_other c x test e = let own : (c == c) ≡ false = subst (λ (z : ℕ). (z == c) ≡ false) e test in false_true (sym own ∙ eq_self c)

pub lacks_by_test : (c : ℕ) (w : List ℕ) → list_all (λ x. not (x == c)) w ≡ true → Lacks c w
lacks_by_test c [] is = tt
lacks_by_test c (x ∷ w) is =
    let both = and_true (not (x == c)) (list_all (λ y. not (y == c)) w) is in (is_other c x (not_true (x == c) both.0), lacks_by_test c w both.1)

pub lacks_append : (c : ℕ) (u v : List ℕ) → Lacks c u → Lacks c v → Lacks c (u ++ v)
lacks_append c [] v a b = b
lacks_append c (x ∷ u) v a b = (a.0, lacks_append c u v a.1 b)

-- a text without a line's end lacks LF
lacks_end : (w : List ℕ) → line_ends w ≡ 0 → Lacks 10 w
lacks_end [] none = tt
lacks_end (x ∷ w) none = by (lacks_end w) (x == 10) refl none
  where
    by : (line_ends w ≡ 0 → Lacks 10 w) → (t : Bool) → (x == 10) ≡ t → (if t then line_ends w + 1 else line_ends w) ≡ 0 → Lacks 10 (x ∷ w)
    by more true e is = absurd (omega (arith, is))
    by more false e is = (is_other 10 x e, more is)

pub quoted_lacks : (w : List ℕ) → Lacks 10 (quoted w)
quoted_lacks w = lacks_end (quoted w) (quoted_one_line w)
