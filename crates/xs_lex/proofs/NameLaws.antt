-- Names: the run of a class at the front, and what follows it.
use Rattle.std.proofs.Common.{◌≡◌, ℕ, suc, ◌+◌, ◌≤◌, List, [], ◌∷◌, ◌++◌, length, add-zero, true, false, Bool, if◌then◌else◌, refl, sym, ap, ◌∙◌, arith}
use Rattle.std.specs.List.{list_all}
use Rattle.xs_lex.specs.Classes.{is_plain_start, is_plain_char, is_plain}
use Rattle.xs_lex.specs.Scan.{run_end}
use Rattle.xs_lex.proofs.Truth.{plain_start_in}
use Rattle.xs_class.proofs.Truth.{and_true, both_true}

-- the run: it is of the class, and what follows it does not go on with the class
pub record IsRun (f : ℕ → Bool) (text : List ℕ) (k n : ℕ) : Type 0 where
  pub run : List ℕ
  pub rest : List ℕ
  pub is : text ≡ run ++ rest
  pub each : list_all f run ≡ true
  pub count : n ≡ k + length run

one_of : (t : Bool) (f : ℕ → Bool) (c : ℕ) (cs : List ℕ) (k : ℕ) → f c ≡ t → IsRun f cs (k + 1) (run_end f (k + 1) cs) → IsRun f (c ∷ cs) k (if t then run_end f (k + 1) cs else k)
one_of true f c cs k e r = record { run = c ∷ r.run; rest = r.rest; is = ap (λ (z : List ℕ). c ∷ z) r.is; each = both_true (f c) (list_all f r.run) e r.each; count = (let q = r.count in omega arith) }
one_of false f c cs k e r = record { run = []; rest = c ∷ cs; is = refl; each = refl; count = sym (add-zero k) }

pub run_is : (f : ℕ → Bool) (cs : List ℕ) (k : ℕ) → IsRun f cs k (run_end f k cs)
run_is f [] k = record { run = []; rest = []; is = refl; each = refl; count = sym (add-zero k) }
run_is f (c ∷ cs) k = one_of (f c) f c cs k refl (run_is f cs (k + 1))

-- a longer text of the class makes the run no shorter
pub run_covers : (f : ℕ → Bool) (w rest : List ℕ) (k : ℕ) → list_all f w ≡ true → k + length w ≤ run_end f k (w ++ rest)
run_covers f [] rest k each = let r = run_is f rest k in let q = r.count in omega arith
run_covers f (c ∷ cs) rest k each =
    let p = and_true (f c) (list_all f cs) each in
    let more = run_covers f cs rest (k + 1) p.1 in
    rw p.0 (omega arith)

-- a run that ends where the class does
pub run_stops : (f : ℕ → Bool) (w : List ℕ) (d : ℕ) (rest : List ℕ) (k : ℕ) → list_all f w ≡ true → f d ≡ false → run_end f k (w ++ d ∷ rest) ≡ k + length w
run_stops f [] d rest k each stop = rw (stop, add-zero k) refl
run_stops f (c ∷ cs) d rest k each stop =
    let p = and_true (f c) (list_all f cs) each in
    let more = run_stops f cs d rest (k + 1) p.1 stop in
    let sum : k + 1 + length cs ≡ k + suc (length cs) = omega arith in
    rw p.0 (more ∙ sum)

pub plain_chars : (w : List ℕ) → is_plain w ≡ true → list_all is_plain_char w ≡ true
plain_chars [] is = absurd (cc)
plain_chars (c ∷ cs) is = let p = and_true (is_plain_start c) (list_all is_plain_char cs) is in both_true (is_plain_char c) (list_all is_plain_char cs) (plain_start_in c p.0) p.1

-- the run after a first character of a name is a plain name
pub run_plain : (c : ℕ) (cs : List ℕ) → is_plain_start c ≡ true → (w : List ℕ) × (r : List ℕ) × ((c ∷ cs) ≡ w ++ r) × (is_plain w ≡ true) × (run_end is_plain_char 0 (c ∷ cs) ≡ length w)
run_plain c cs first =
    let r = run_is is_plain_char cs 1 in
    let q = r.count in
    let one : run_end is_plain_char 0 (c ∷ cs) ≡ run_end is_plain_char 1 cs = rw (plain_start_in c first) refl in
    (c ∷ r.run, r.rest, ap (λ (z : List ℕ). c ∷ z) r.is, both_true (is_plain_start c) (list_all is_plain_char r.run) first r.each, one ∙ q ∙ omega arith)
