-- A pattern is read exactly: what its units spell is read, and what is read is spelt by units.
use Rattle.std.proofs.Common.{◌≡◌, ℕ, suc, ◌+◌, List, [], ◌∷◌, ◌++◌, length, Some, None, true, false, Bool, not, ◌||◌, if◌then◌else◌, ◌==◌, refl, ap, ◌∙◌, arith, eqb-true}
use Rattle.std.specs.List.{list_all}
use Rattle.xs_lex.specs.Units.{PatternUnit, bare, guarded, is_pattern_unit, spelt_pattern}
use Rattle.xs_lex.specs.Scan.{pattern_end}
use Rattle.xs_lex.proofs.UnitsRead.{IsRead}
use Rattle.xs_class.proofs.Truth.{and_true, both_true, not_true, or_false}
use Rattle.xs_class.proofs.Lists.{some_inj}

pub spelt_front : (us : List PatternUnit) (rest : List ℕ) → spelt_pattern us rest ≡ spelt_pattern us [] ++ rest
spelt_front [] rest = refl
spelt_front (bare c ∷ us) rest = ap (λ (z : List ℕ). c ∷ z) (spelt_front us rest)
spelt_front (guarded c ∷ us) rest = ap (λ (z : List ℕ). 92 ∷ c ∷ z) (spelt_front us rest)

pub pattern_read : (us : List PatternUnit) (k : ℕ) (rest : List ℕ) → list_all is_pattern_unit us ≡ true → pattern_end false k (spelt_pattern us (47 ∷ rest)) ≡ Some (k + length (spelt_pattern us []) + 1)
pattern_read [] k rest each = ap (λ (n : ℕ). Some n) (omega arith)
pattern_read (bare c ∷ us) k rest each =
    let p = and_true (not (c == 47 || (c == 92 || c == 10))) (list_all is_pattern_unit us) each in
    let q = or_false (c == 47) (c == 92 || c == 10) (not_true (c == 47 || (c == 92 || c == 10)) p.0) in
    let r = or_false (c == 92) (c == 10) q.1 in
    let more = pattern_read us (k + 1) rest p.1 in
    let sum : k + 1 + length (spelt_pattern us []) + 1 ≡ k + suc (length (spelt_pattern us [])) + 1 = omega arith in
    rw (q.0, r.1, r.0) (more ∙ ap (λ (n : ℕ). Some n) sum)
pattern_read (guarded c ∷ us) k rest each =
    let p = and_true (not (c == 10)) (list_all is_pattern_unit us) each in
    let more = pattern_read us (k + 1 + 1) rest p.1 in
    let sum : k + 1 + 1 + length (spelt_pattern us []) + 1 ≡ k + suc (suc (length (spelt_pattern us []))) + 1 = omega arith in
    rw (not_true (c == 10) p.0) (more ∙ ap (λ (n : ℕ). Some n) sum)

-- the backslash of a unit that has begun
abbrev pub begun : Bool → List ℕ
begun true = 92 ∷ []
begun false = []

-- a pattern's units that were read, up to the slash
abbrev pub IsReadPattern : List ℕ → List ℕ → ℕ → ℕ → Type 0
IsReadPattern before text k n = IsRead is_pattern_unit spelt_pattern 47 before text k n

guarded_more : (t : Bool) (c : ℕ) (cs : List ℕ) (k n : ℕ) → (c == 10) ≡ t → (if t then None else pattern_end false (k + 1) cs) ≡ Some n → (pattern_end false (k + 1) cs ≡ Some n → IsReadPattern [] cs (k + 1) n) → IsReadPattern (92 ∷ []) (c ∷ cs) k n
guarded_more true c cs k n e h again = absurd (cc)
guarded_more false c cs k n e h again =
    let r = again h in
    record { units = guarded c ∷ r.units; rest = r.rest; each = both_true (not (c == 10)) (list_all is_pattern_unit r.units) (rw e refl) r.each; spells = ap (λ (z : List ℕ). 92 ∷ c ∷ z) r.spells; count = (let q = r.count in omega arith) }

bare_more : (u : Bool) (c : ℕ) (cs : List ℕ) (k n : ℕ) → (c == 47) ≡ false → (c == 10) ≡ false → (c == 92) ≡ u → IsReadPattern (begun u) cs (k + 1) n → IsReadPattern [] (c ∷ cs) k n
bare_more true c cs k n e f g r =
    let q : c ≡ 92 = eqb-true c 92 g in
    record { units = r.units; rest = r.rest; each = r.each; spells = ap (λ (z : ℕ). z ∷ cs) q ∙ r.spells; count = (let s = r.count in omega arith) }
bare_more false c cs k n e f g r =
    record { units = bare c ∷ r.units; rest = r.rest; each = both_true (not (c == 47 || (c == 92 || c == 10))) (list_all is_pattern_unit r.units) (rw (e, g, f) refl) r.each; spells = ap (λ (z : List ℕ). c ∷ z) r.spells; count = (let s = r.count in omega arith) }

one_more : (t u v : Bool) (c : ℕ) (cs : List ℕ) (k n : ℕ) → (c == 47) ≡ t → (c == 10) ≡ u → (c == 92) ≡ v → (if t then Some (k + 1) else (if u then None else pattern_end v (k + 1) cs)) ≡ Some n → (pattern_end v (k + 1) cs ≡ Some n → IsReadPattern (begun v) cs (k + 1) n) → IsReadPattern [] (c ∷ cs) k n
one_more true u v c cs k n e f g h again =
    let q : c ≡ 47 = eqb-true c 47 e in
    record { units = []; rest = cs; each = refl; spells = ap (λ (z : ℕ). z ∷ cs) q; count = (let s = some_inj (k + 1) n h in omega arith) }
one_more false true v c cs k n e f g h again = absurd (cc)
one_more false false v c cs k n e f g h again = bare_more v c cs k n e f g (again h)

pub pattern_is : (g : Bool) (cs : List ℕ) (k n : ℕ) → pattern_end g k cs ≡ Some n → IsReadPattern (begun g) cs k n
pattern_is g [] k n is = absurd (cc)
pattern_is true (c ∷ cs) k n is = guarded_more (c == 10) c cs k n refl is (λ h. pattern_is false cs (k + 1) n h)
pattern_is false (c ∷ cs) k n is = one_more (c == 47) (c == 10) (c == 92) c cs k n refl refl refl is (λ h. pattern_is (c == 92) cs (k + 1) n h)
