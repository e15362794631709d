-- What the moves of a validator say of the atoms of a document is so of its words.
use Rattle.std.proofs.Common.{◌≡◌, ◌∙◌, ℕ, zero, suc, ◌+◌, ◌-◌, ◌<◌, ◌≤◌, List, [], ◌∷◌, ◌++◌, length, take, drop, map, Some, None, refl, ap, subst, arith}
use Rattle.std.specs.Prelude.{Option, slice_get, slice_range, IfSome}
use Rattle.xs_regex.specs.declared.position.Position.{Position}
use Rattle.xs_gram.specs.Grammar.{Grammar, term_of, skip_of}
use Rattle.xs_atoms.specs.declared.atoms.Atoms.{Atoms}
use Rattle.xs_atoms.specs.Alphabet.{atom_of}
use Rattle.xs_parse_table.specs.declared.validator.Validator.{Validator}
use Rattle.xs_parse_table.specs.Moves.{AreMoves, Says}
use Rattle.xs_parse_table.specs.Validators.{AreSaid, IsReady}
use Rattle.xs_parse_table.proofs.Moving.{moves_accept}

front_of : (f : ℕ → ℕ) (xs ys : List ℕ) (n k : ℕ) → n + k ≤ length xs → take n (drop k (map f xs ++ ys)) ≡ map f (take n (drop k xs))
front_of f xs ys zero zero h = refl
front_of f [] ys (suc n) zero h = absurd (omega arith)
front_of f (x ∷ xs) ys (suc n) zero h = ap (λ (z : List ℕ). f x ∷ z) (front_of f xs ys n zero (omega arith))
front_of f [] ys n (suc k) h = absurd (omega arith)
front_of f (x ∷ xs) ys n (suc k) h = front_of f xs ys n k (omega arith)

range_of : (f : ℕ → ℕ) (xs ys : List ℕ) (at to : ℕ) → to ≤ length xs → at ≤ to → slice_range (map f xs ++ ys) at to ≡ map f (slice_range xs at to)
range_of f xs ys at to h l = front_of f xs ys (to - at) at (omega arith)

-- whatever row the automaton begins at
pub said_of : (a : Atoms) (v : Validator) (p : Position) (doc word more : List ℕ) (start : Option ℕ) → v.count ≡ a.count → ((s : ℕ) → atom_of a s < a.count) → word ≡ map (atom_of a) doc ++ more → ((cell : ℕ) → start ≡ Some cell → AreMoves p a v.cells.items cell) → AreSaid v start p doc word
said_of a v p doc word more None count below front moves = tt
said_of a v p doc word more (Some cell) count below front moves = λ at to l risen says.
    let same : slice_range word at to ≡ map (atom_of a) (slice_range doc at to) = ap (λ (w : List ℕ). slice_range w at to) front ∙ range_of (atom_of a) doc more at to l risen in
    moves_accept p a v.cells.items cell (moves cell refl) below (slice_range doc at to)
    (subst (λ n. Says v.cells.items n cell (map (atom_of a) (slice_range doc at to))) count (subst (λ (w : List ℕ). Says v.cells.items v.count cell w) same says))

found : (starts : List (Option ℕ)) (t : ℕ) (o : Option ℕ) → IfSome o (λ start. slice_get starts t ≡ Some (Some start)) → (cell : ℕ) → o ≡ Some cell → slice_get starts t ≡ Some (Some cell)
found starts t None h cell e = cc
found starts t (Some start) h cell e = let same : start ≡ cell = of_some start cell e in subst (λ k. slice_get starts t ≡ Some (Some k)) same h
  where
    of_some : (x y : ℕ) → Some x ≡ Some y → x ≡ y
    of_some x y e = cc

pub term_said : (g : Grammar) (v : Validator) (doc word : List ℕ) (t : ℕ) (o : Option ℕ) → IsReady g v doc word → t < length g.terms → IfSome o (λ start. slice_get v.terms.items t ≡ Some (Some start)) → AreSaid v o (term_of g t).automaton doc word
term_said g v doc word t o r l h = said_of r.atoms v (term_of g t).automaton doc word r.more o r.of.count r.are.below r.front (λ cell e. r.of.terms t cell l (found v.terms.items t o h cell e))

pub skip_said : (g : Grammar) (v : Validator) (doc word : List ℕ) (t : ℕ) (o : Option ℕ) → IsReady g v doc word → t < length g.skips → IfSome o (λ start. slice_get v.skips.items t ≡ Some (Some start)) → AreSaid v o (skip_of g t).automaton doc word
skip_said g v doc word t o r l h = said_of r.atoms v (skip_of g t).automaton doc word r.more o r.of.count r.are.below r.front (λ cell e. r.of.skips t cell l (found v.skips.items t o h cell e))
