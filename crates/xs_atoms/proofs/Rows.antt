-- Rows of atoms, stretches and lists of which an end is new.
use Rattle.std.proofs.Common.{◌≡◌, ◌∙◌, ◌⊎◌, ℕ, zero, suc, ◌+◌, ◌*◌, ◌<◌, ◌≤◌, Bool, List, [], ◌∷◌, ◌++◌, length, take, drop, Some, refl, sym, ap, inl, inr, arith, length-drop}
use Rattle.std.proofs.Math.Nat.{mul-le-mul_left}
use Rattle.std.proofs.Math.Seq.{take-length, drop-append_seam}
use Rattle.std.proofs.lemmas.List.{take-append-le, drop-append-le}
use Rattle.std.specs.Prelude.{slice_get}
use Rattle.xs_atoms.specs.declared.sweep.Stretch.{Stretch}
use Rattle.xs_atoms.proofs.Turning.{below_or}
use Rattle.xs_atoms.specs.Stretches.{row_of, start_of}

-- an element of a list with a new end is an old one or the end
pub get_push : {X : Type 0} (xs : List X) (y x : X) (i : ℕ) → slice_get (xs ++ y ∷ []) i ≡ Some x → ((i < length xs) × (slice_get xs i ≡ Some x)) ⊎ ((i ≡ length xs) × (y ≡ x))
get_push [] y x zero e = inr (refl, cc)
get_push [] y x (suc i) e = cc
get_push (z ∷ xs) y x zero e = inl (omega arith, e)
get_push (z ∷ xs) y x (suc i) e = elim (get_push xs y x i e) [
  | inl h ↦ inl (omega arith, h.1)
  | inr h ↦ inr (omega arith, h.1)
]

pub start_of-push : (ts : List Stretch) (t : Stretch) (i bound : ℕ) → i ≤ length ts → start_of (ts ++ t ∷ []) i bound ≡ start_of ts i t.start
start_of-push [] t zero bound h = refl
start_of-push [] t (suc i) bound h = absurd (omega arith)
start_of-push (u ∷ ts) t zero bound h = refl
start_of-push (u ∷ ts) t (suc i) bound h = start_of-push ts t i bound (omega arith)

pub start_of-past : (ts : List Stretch) (i bound : ℕ) → length ts ≤ i → start_of ts i bound ≡ bound
start_of-past [] i bound h = refl
start_of-past (t ∷ ts) zero bound h = absurd (omega arith)
start_of-past (t ∷ ts) (suc i) bound h = start_of-past ts i bound (omega arith)

pub row_of-left : (width : ℕ) (rows row : List Bool) (atom : ℕ) → width * atom + width ≤ length rows → row_of width (rows ++ row) atom ≡ row_of width rows atom
row_of-left width rows row atom h =
    ap (λ (r : List Bool). take width r) (drop-append-le (width * atom) rows row (omega arith))
    ∙ take-append-le width (drop (width * atom) rows) row (omega (arith, length-drop (width * atom) rows))

pub row_of-end : (width : ℕ) (rows row : List Bool) (atom : ℕ) → length rows ≡ width * atom → length row ≡ width → row_of width (rows ++ row) atom ≡ row
row_of-end width rows row atom l w =
    ap (λ n. take width (drop n (rows ++ row))) (sym l) ∙ ap (λ (r : List Bool). take width r) (drop-append_seam rows row) ∙ ap (λ n. take n row) (sym w) ∙ take-length row

pub within_rows : (width n atom : ℕ) → atom < n → width * atom + width ≤ width * n
within_rows width n atom h = omega (arith, mul-le-mul_left {m = atom + 1} {n = n} width (omega arith))

pub atom_below : (width n atom : ℕ) → 0 < width → width * atom + width ≤ width * n → atom < n
atom_below width n atom w h = elim (below_or atom n) [
  | inl l ↦ l
  | inr l ↦ absurd (omega (arith, mul-le-mul_left {m = n} {n = atom} width l))
]
