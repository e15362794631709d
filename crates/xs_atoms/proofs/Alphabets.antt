-- The atoms of a grammar, from the rows of the atoms and the numbers of the classes.
use Rattle.std.proofs.Common.{◌≡◌, ◌∙◌, ◌↔◌, ℕ, zero, suc, ◌+◌, ◌*◌, ◌<◌, inl, inr, Bool, false, List, [], ◌∷◌, length, take, drop, get_or, Some, refl, sym, ap, subst, arith}
use Rattle.std.proofs.lemmas.List.{get_or-take, get_or-drop}
use Rattle.std.proofs.lemmas.List.Sums.{sum_by-cons}
use Rattle.std.proofs.lemmas.Bool.Decides.{nat_tests}
use Rattle.std.proofs.lemmas.Bool.{cases_eq}
use Rattle.std.proofs.lemmas.Option.{slice_get_within}
use Rattle.std.specs.Prelude.{slice_get, sum_by, IsTrue, IsSomeAnd}
use Rattle.xs_class.specs.Classes.{Has, HaveSame}
use Rattle.xs_gram.specs.Grammar.{Grammar, term_of, skip_of}
use Rattle.xs_atoms.specs.declared.atoms.Atoms.{Atoms}
use Rattle.xs_atoms.specs.declared.sweep.Draft.{Draft}
use Rattle.xs_atoms.specs.declared.sweep.Stretch.{Stretch}
use Rattle.xs_atoms.specs.declared.turns.Turn.{Turn}
use Rattle.xs_atoms.specs.Turns.{odd, flips, at_symbol, HasTurnAt, AreKept, AreTurnsOf}
use Rattle.xs_atoms.specs.Stretches.{flag, row_of, start_of, IsAtomOf, IsSwept}
use Rattle.xs_atoms.specs.Pages.{IsAtomIn}
use Rattle.xs_atoms.specs.Fixed.{rules_ranges}
use Rattle.xs_atoms.specs.Classed.{AreTermNumbers, AreSkipNumbers}
use Rattle.xs_atoms.specs.Alphabet.{atom_of, term_class, skip_class, class_has, AreAtoms}
use Rattle.xs_atoms.proofs.Fixing.{fixed_has}

-- a flag of a row is the one at its place among all rows
flag_at : (width : ℕ) (rows : List Bool) (k c : ℕ) → c < width → flag (take width (drop k rows)) c ≡ get_or rows (k + c) false
flag_at width rows k c h = get_or-take width (drop k rows) c false h ∙ get_or-drop k rows c false

after_start : (ts : List Stretch) (i bound s : ℕ) → ((next : Stretch) → slice_get ts i ≡ Some next → s < next.start) → s < bound → s < start_of ts i bound
after_start [] i bound s h l = l
after_start (t ∷ ts) zero bound s h l = h t refl
after_start (t ∷ ts) (suc i) bound s h l = after_start ts i bound s h l

-- the atom of a symbol's stretch is one of the symbol
pub is_atom : (turns : List Turn) (width : ℕ) (d : Draft) (s atom : ℕ) → IsSwept width turns d → IsAtomIn d.stretches.items s atom → IsAtomOf turns width d.rows.items d.firsts.items s atom
is_atom turns width d s atom swept a =
    subst (λ k. IsAtomOf turns width d.rows.items d.firsts.items s k) (sym a.same)
    ((swept s).covered a.number a.in_stretch.stretch a.in_stretch.there s a.in_stretch.begun
    (after_start d.stretches.items (suc a.number) (suc s) s a.in_stretch.before (omega arith)))

turn_there : (s : ℕ) (ts : List Turn) → 0 < sum_by (at_symbol s) ts → HasTurnAt ts s
turn_there s [] h = absurd (omega arith)
turn_there s (t ∷ ts) h = elim (cases_eq t.place s) [
  | inl e ↦ (0, t, refl, e)
  | inr n ↦ let r = turn_there s ts (omega (arith, sum_by-cons (at_symbol s) t ts, not_at n)) in (suc r.0, r.1, r.2, r.3)
]
  where
    not_at : (t.place ≡ s → ⊥) → at_symbol s t ≡ 0
    not_at n = grind (arith, nat_tests)

-- class 0 is that of the fixed symbols, at each of which there is a turn
pub turns_kept : (classes : List (List (ℕ × ℕ))) (fixed class : List (ℕ × ℕ)) (turns : List Turn) → ((r : ℕ × ℕ) (i : ℕ) → slice_get fixed i ≡ Some r → r.0 ≡ r.1) → AreTurnsOf classes fixed turns → slice_get classes 0 ≡ Some class → HaveSame class fixed → AreKept turns
turns_kept classes fixed class turns single are there same s t =
    turn_there s turns (are.kept s ((same s).0 ((are.members 0 s class there).0 t)) single)

-- a class has a symbol exactly where its row has the atom
has_atom : (classes : List (List (ℕ × ℕ))) (fixed : List (ℕ × ℕ)) (turns : List Turn) (rows : List Bool) (firsts : List ℕ) (width s atom c : ℕ) (class : List (ℕ × ℕ)) → width ≡ length classes → AreTurnsOf classes fixed turns → IsAtomOf turns (length classes) rows firsts s atom → slice_get classes c ≡ Some class → Has class s ↔ IsTrue (get_or rows (width * atom + c) false)
has_atom classes fixed turns rows firsts width s atom c class w are is there =
    let within : c < length classes = slice_get_within classes c class there in
    let place : get_or rows (width * atom + c) false ≡ odd (flips c s turns) =
    ap (λ n. get_or rows (n * atom + c) false) w ∙ sym (flag_at (length classes) rows (length classes * atom) c within) ∙ is.same c within in
    let m = are.members c s class there in
    (λ h. place ∙ m.1 h, λ t. m.0 (sym place ∙ t))

at_position : (classes : List (List (ℕ × ℕ))) (k s : ℕ) → k < length classes → (class : List (ℕ × ℕ)) × (slice_get classes k ≡ Some class) × (IsSomeAnd (slice_get classes k) (λ c. Has c s) ↔ Has class s)
at_position [] k s h = absurd (omega arith)
at_position (c ∷ classes) zero s h = (c, refl, (λ x. x, λ x. x))
at_position (c ∷ classes) (suc k) s h = at_position classes k s (omega arith)

pub alphabet : (g : Grammar) (a : Atoms) (d : Draft) (classes : List (List (ℕ × ℕ))) (class : List (ℕ × ℕ)) (turns : List Turn) → a.count ≡ length d.firsts.items → a.rows.items ≡ d.rows.items → a.width ≡ length classes → IsSwept (length classes) turns d → AreTurnsOf classes (rules_ranges g.rules) turns → ((s : ℕ) → IsAtomIn d.stretches.items s (atom_of a s)) → AreTermNumbers g classes a.terms.items → AreSkipNumbers g classes a.skips.items → slice_get classes 0 ≡ Some class → HaveSame class (rules_ranges g.rules) → AreAtoms g a
alphabet g a d classes class turns count rows width swept are at terms skips there same = record {
  terms = λ t k s l w. one (term_of g t).automaton.classes k s (term_class a t k) w (terms t l k);
  skips = λ j k s l w. one (skip_of g j).automaton.classes k s (skip_class a j k) w (skips j l k);
  fixed = λ s x f e. alone s x e ((are.members 0 x class there).1 ((same x).1 (fixed_has g x f)));
  below = λ s. subst (λ n. atom_of a s < n) (sym count) (is s).below;
  few = subst (λ n. n < 65535) (sym count) (swept 0).few;
}
  where
    is : (s : ℕ) → IsAtomOf turns (length classes) d.rows.items d.firsts.items s (atom_of a s)
    is s = is_atom turns (length classes) d s (atom_of a s) swept (at s)

    one : (positions : List (List (ℕ × ℕ))) (k s c : ℕ) → k < length positions → ((class : List (ℕ × ℕ)) → slice_get positions k ≡ Some class → slice_get classes c ≡ Some class) → IsSomeAnd (slice_get positions k) (λ x. Has x s) ↔ IsTrue (class_has a c (atom_of a s))
    one positions k s c w numbered =
        let p = at_position positions k s w in
        let h = has_atom classes (rules_ranges g.rules) turns d.rows.items d.firsts.items a.width s (atom_of a s) c p.0 width are (is s) (numbered p.0 p.1) in
        let e : get_or d.rows.items (a.width * atom_of a s + c) false ≡ class_has a c (atom_of a s) = ap (λ (r : List Bool). get_or r (a.width * atom_of a s + c) false) (sym rows) in
        (λ x. sym e ∙ h.0 (p.2.0 x), λ t. p.2.1 (h.1 (e ∙ t)))

    alone : (s x : ℕ) → atom_of a s ≡ atom_of a x → IsTrue (odd (flips 0 x turns)) → s ≡ x
    alone s x e t =
        let some : 0 < length classes = slice_get_within classes 0 class there in
        let both : odd (flips 0 s turns) ≡ odd (flips 0 x turns) =
        sym ((is s).same 0 some) ∙ ap (λ k. flag (row_of (length classes) d.rows.items k) 0) e ∙ (is x).same 0 some in
        let first : slice_get d.firsts.items (atom_of a s) ≡ Some s = (is s).only (both ∙ t) in
        let second : slice_get d.firsts.items (atom_of a x) ≡ Some x = (is x).only t in
        of_some s x (sym first ∙ ap (λ k. slice_get d.firsts.items k) e ∙ second)
      where
        of_some : (m n : ℕ) → Some m ≡ Some n → m ≡ n
        of_some m n e = cc

-- there is a stretch, and the first begins at 0
pub some_stretch : (turns : List Turn) (width : ℕ) (d : Draft) (xs : List Stretch) → xs ≡ d.stretches.items → IsSwept width turns d → 0 < length xs
some_stretch turns width d xs e swept = some xs (ap (λ (ts : List Stretch). start_of ts 0 1) e ∙ (swept 0).begins)
  where
    some : (ts : List Stretch) → start_of ts 0 1 ≡ 0 → 0 < length ts
    some [] h = absurd (omega (arith, h))
    some (t ∷ ts) h = omega arith

pub first_begins : (turns : List Turn) (width : ℕ) (d : Draft) (xs : List Stretch) → xs ≡ d.stretches.items → IsSwept width turns d → (t : Stretch) → slice_get xs 0 ≡ Some t → t.start ≡ 0
first_begins turns width d xs e swept = begins xs (ap (λ (ts : List Stretch). start_of ts 0 1) e ∙ (swept 0).begins)
  where
    begins : (ts : List Stretch) → start_of ts 0 1 ≡ 0 → (t : Stretch) → slice_get ts 0 ≡ Some t → t.start ≡ 0
    begins [] h t at = cc
    begins (u ∷ ts) h t at = let same : u ≡ t = of_some u t at in sym (ap (λ (x : Stretch). x.start) same) ∙ h
      where
        of_some : (x y : Stretch) → Some x ≡ Some y → x ≡ y
        of_some x y e = cc
