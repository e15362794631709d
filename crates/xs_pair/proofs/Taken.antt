-- Names of units before a unit.
use Rattle.std.proofs.Common.{◌≡◌, ◌∙◌, ◌<◌, ◌+◌, ap, sym, refl, subst, ℕ, List, [], ◌∷◌, ◌++◌, length, map, take, drop, get_or, Some, Bool, true, false, cond, arith, length-append}
use Rattle.std.specs.Prelude.{filter, IsTrue, ◌↔◌, if◌then◌else◌}
use Rattle.std.specs.declared.option.Option.{Option}
use Rattle.std.proofs.lemmas.List.{take-append-drop, take_at}
use Rattle.xs_class.proofs.Lists.{take_next}
use Rattle.xs_sheet.specs.declared.unit.Unit.{Unit}
use Rattle.xs_sheet.specs.declared.unit.Unit.TheVariants as V
use Rattle.xs_pair.specs.declared.names.Sort.{Sort}
use Rattle.xs_pair.specs.declared.names.Sort.TheVariants as S
use Rattle.xs_pair.specs.declared.outline.Outline.{Outline}
use Rattle.xs_pair.specs.Units.{names_of, is_of, unit_name}
use Rattle.xs_pair.specs.Rules.{IsAmong, IsTwice}
use Rattle.xs_pair.specs.Verdict.{IsTaken, IsWithin, IsFirstLine, IsLineWhere, earlier}
use Rattle.xs_pair.proofs.Places.{within_take, take_within, when_true, when_false}
use Rattle.xs_pair.proofs.Lines.{take_passes, take_fails}

pub names-append : (sort : Sort) (xs ys : List Unit) → names_of sort (xs ++ ys) ≡ names_of sort xs ++ names_of sort ys
names-append sort [] ys = refl
names-append sort (x ∷ xs) ys = by_test (is_of sort x) (names-append sort xs ys)
  where
    by_test : (b : Bool) → names_of sort (xs ++ ys) ≡ names_of sort xs ++ names_of sort ys → map unit_name (cond b (x ∷ filter (is_of sort) (xs ++ ys)) (filter (is_of sort) (xs ++ ys))) ≡ map unit_name (cond b (x ∷ filter (is_of sort) xs) (filter (is_of sort) xs)) ++ names_of sort ys
    by_test true rest = ap (λ (l : List (List ℕ)). unit_name x ∷ l) rest
    by_test false rest = rest

names_front : (sort : Sort) (us : List Unit) (p : ℕ) → take (length (names_of sort (take p us))) (names_of sort us) ≡ names_of sort (take p us)
names_front sort us p =
    ap (λ (l : List (List ℕ)). take (length (names_of sort (take p us))) l) (ap (names_of sort) (sym (take-append-drop p us)) ∙ names-append sort (take p us) (drop p us)) ∙ take_at (names_of sort (take p us)) (names_of sort (drop p us)) (length (names_of sort (take p us))) refl

within_among : (sort : Sort) (us : List Unit) (p c : ℕ) (name : List ℕ) → c ≡ length (names_of sort (take p us)) → IsWithin (names_of sort us) name c ↔ IsAmong (names_of sort (take p us)) name
within_among sort us p c name is = (
  λ (k, found, lt). subst (λ l. IsAmong l name) (ap (λ d. take d (names_of sort us)) is ∙ names_front sort us p) (within_take (names_of sort us) c k name found lt),
  λ among. take_within (names_of sort us) c name (subst (λ l. IsAmong l name) (sym (ap (λ d. take d (names_of sort us)) is ∙ names_front sort us p)) among),
)

-- a unit's name is taken exactly where the unit has a name twice
pub taken_twice : (us : List Unit) (o : Outline) (p n c : ℕ) (u : Unit) → o.units ≡ names_of S.Any us → o.lexical ≡ names_of S.Lexical us → n ≡ length (names_of S.Any (take p us)) → c ≡ length (names_of S.Lexical (take p us)) → IsTaken o n c u ↔ IsTwice us p u
taken_twice us o p n c (V.Terminal name pattern regex line) any lexical named count = subst (λ l. IsWithin l name n ↔ IsAmong (names_of S.Any (take p us)) name) (sym any) (within_among S.Any us p n name named)
taken_twice us o p n c (V.Ignorable name pattern regex normal line) any lexical named count = subst (λ l. IsWithin l name n ↔ IsAmong (names_of S.Any (take p us)) name) (sym any) (within_among S.Any us p n name named)
taken_twice us o p n c (V.Production name left right line) any lexical named count = subst (λ l. IsWithin l name c ↔ IsAmong (names_of S.Lexical (take p us)) name) (sym lexical) (within_among S.Lexical us p c name count)
taken_twice us o p n c (V.Fence left right line) any lexical named count = (λ h. h, λ h. h)

pub count_next : (sort : Sort) (us : List Unit) (p : ℕ) (u : Unit) (old new : ℕ) → p < length us → u ≡ get_or us p u → old ≡ length (names_of sort (take p us)) → new ≡ old + length (names_of sort (u ∷ [])) → new ≡ length (names_of sort (take (p + 1) us))
count_next sort us p u old new lt at before next =
    let split : names_of sort (take (p + 1) us) ≡ names_of sort (take p us) ++ names_of sort (u ∷ []) = ap (names_of sort) (take_next us p u lt at) ∙ names-append sort (take p us) (u ∷ []) in
    let long : length (names_of sort (take (p + 1) us)) ≡ length (names_of sort (take p us)) + length (names_of sort (u ∷ [])) = ap length split ∙ length-append (names_of sort (take p us)) (names_of sort (u ∷ [])) in
    omega arith

-- the least line with one more element that was tested
pub take_tested : {A : Type 0} (P : ℕ → A → Type 0) (f : A → ℕ) (xs : List A) (i : ℕ) (x : A) (o p : Option ℕ) (line : ℕ) (b : Bool) → i < length xs → x ≡ get_or xs i x → line ≡ f x → IsTrue b ↔ P i x → p ≡ (if b then Some (earlier o line) else o) → IsFirstLine (IsLineWhere P f (take i xs)) o → IsFirstLine (IsLineWhere P f (take (i + 1) xs)) p
take_tested P f xs i x o p line true lt at line_is test is first = take_fails P f xs i x o p lt at (when_true true test refl) (is ∙ ap (λ l. Some (earlier o l)) line_is) first
take_tested P f xs i x o p line false lt at line_is test is first = take_passes P f xs i x o p lt at (when_false false test refl) is first

pub both_ways : {A B C : Type 0} → A ↔ B → B ↔ C → A ↔ C
both_ways one two = (λ a. two.0 (one.0 a), λ c. one.1 (two.1 c))
