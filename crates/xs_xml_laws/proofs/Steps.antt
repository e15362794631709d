-- Facts on the steps of reading.
use Rattle.std.proofs.Common.{◌≡◌, ℕ, suc, ◌<◌, ◌≤◌, ◌+◌, ◌-◌, List, [], ◌∷◌, ◌++◌, length, take, drop, get_or, take_all, take-suc, drop-cons, add-one, length-drop, drop_of_length-le, Some, None, true, false, Bool, ◌&&◌, if◌then◌else◌, ◌==◌, refl, sym, ◌∙◌, ap, subst, arith}
use Rattle.std.specs.declared.option.Option.{Option}
use Rattle.xs_xml_laws.specs.Piece.{starts, holds, all_of}
use Rattle.xs_class.proofs.Truth.{and_true, both_true}
use Rattle.xs_class.proofs.Lists.{some_inj}
use Rattle.xs_xml_laws.proofs.PieceSoundness.{cut_is}
use Rattle.xs_xml_laws.specs.Scan.{after, span, joined, cut, fronted}

pub after_none : (ps rest : List ℕ) → 0 < length ps → length rest < 1 → after ps rest ≡ None
after_none [] rest some none = absurd (omega arith)
after_none (p ∷ ps) [] some none = refl
after_none (p ∷ ps) (b ∷ rest) some none = absurd (omega arith)

step_if : (t : Bool) (a b c : Option (List ℕ)) → (t ≡ true → a ≡ c) → (t ≡ false → b ≡ c) → (if t then a else b) ≡ c
step_if true a b c y n = y refl
step_if false a b c y n = n refl

starts_next : (t s : Bool) (o : Option (List ℕ)) (x : List ℕ) → o ≡ (if s then Some x else None) → (if t then o else None) ≡ (if (t && s) then Some x else None)
starts_next true s o x is = is
starts_next false s o x is = refl

pub after_starts : (d cs : List ℕ) → after d cs ≡ (if starts d cs then Some (drop (length d) cs) else None)
after_starts [] cs = refl
after_starts (p ∷ ps) [] = refl
after_starts (p ∷ ps) (c ∷ cs) = starts_next (p == c) (starts ps cs) (after ps cs) (drop (length ps) cs) (after_starts ps cs)

by_start : (t : Bool) (x : List ℕ) (o : Option (List ℕ × List ℕ)) (rest : List ℕ) → (if t then Some x else None) ≡ Some rest → (if t then Some ([], x) else o) ≡ Some ([], rest)
by_start true x o rest is = cc
by_start false x o rest is = absurd (cc)

by_no_start : (t : Bool) (x : List ℕ) (y o : Option (List ℕ × List ℕ)) → (if t then Some x else None) ≡ None → (if t then y else o) ≡ o
by_no_start true x y o is = absurd (cc)
by_no_start false x y o is = refl

pub cut_here : (d : List ℕ) (c : ℕ) (cs rest : List ℕ) → after d (c ∷ cs) ≡ Some rest → cut d (c ∷ cs) ≡ Some ([], rest)
cut_here d c cs rest is = by_start (starts d (c ∷ cs)) (drop (length d) (c ∷ cs)) (joined c (cut d cs)) rest (sym (after_starts d (c ∷ cs)) ∙ is)

pub cut_not_here : (d : List ℕ) (c : ℕ) (cs : List ℕ) → after d (c ∷ cs) ≡ None → cut d (c ∷ cs) ≡ joined c (cut d cs)
cut_not_here d c cs is = by_no_start (starts d (c ∷ cs)) (drop (length d) (c ∷ cs)) (Some ([], drop (length d) (c ∷ cs))) (joined c (cut d cs)) (sym (after_starts d (c ∷ cs)) ∙ is)

pub fronted_some : (xs rest : List ℕ) → fronted xs (Some ([], rest)) ≡ Some (xs, rest)
fronted_some [] rest = refl
fronted_some (x ∷ xs) rest = rw (fronted_some xs rest) refl

pub fronted_more : (xs : List ℕ) (c : ℕ) (o : Option (List ℕ × List ℕ)) → fronted xs (joined c o) ≡ fronted (xs ++ c ∷ []) o
fronted_more [] c o = refl
fronted_more (x ∷ xs) c o = ap (λ (z : Option (List ℕ × List ℕ)). joined x z) (fronted_more xs c o)

pub fronted_none : (xs : List ℕ) → fronted xs None ≡ None
fronted_none [] = refl
fronted_none (x ∷ xs) = rw (fronted_none xs) refl

-- the runs are of their class
run_one : (f : ℕ → Bool) (c : ℕ) (cs : List ℕ) (r : List ℕ × List ℕ) (t : Bool) → f c ≡ t → all_of f r.0 ≡ true → all_of f (if◌then◌else◌ {A = List ℕ × List ℕ} t (c ∷ r.0, r.1) ([], c ∷ cs)).0 ≡ true
run_one f c cs r true e all = rw (e, all) refl
run_one f c cs r false e all = refl

pub run_all : (f : ℕ → Bool) (cs : List ℕ) → all_of f (span f cs).0 ≡ true
run_all f [] = refl
run_all f (c ∷ cs) = run_one f c cs (span f cs) (f c) refl (run_all f cs)

-- looking for a delimiter from one place on
whole_tail : (cs : List ℕ) (at : ℕ) → take (length cs - at) (drop at cs) ≡ drop at cs
whole_tail cs at = take_all (length cs - at) (drop at cs) (omega (arith, length-drop at cs))

pub cut_found : (d cs rest : List ℕ) (at : ℕ) → at < length cs → cut d cs ≡ fronted (take at cs) (cut d (drop at cs)) → Some rest ≡ after d (take (length cs - at) (drop at cs)) → Some (take at cs, rest) ≡ cut d cs
cut_found d cs rest at low so_far is =
    let here : after d (get_or cs at 0 ∷ drop (suc at) cs) ≡ Some rest = ap (λ (z : List ℕ). after d z) (sym (drop-cons cs at 0 low) ∙ sym (whole_tail cs at)) ∙ sym is in
    sym (so_far ∙ ap (λ (z : List ℕ). fronted (take at cs) (cut d z)) (drop-cons cs at 0 low) ∙ ap (λ (z : Option (List ℕ × List ℕ)). fronted (take at cs) z) (cut_here d (get_or cs at 0) (drop (suc at) cs) rest here) ∙ fronted_some (take at cs) rest)

pub cut_kept : (d cs : List ℕ) (at : ℕ) → at < length cs → cut d cs ≡ fronted (take at cs) (cut d (drop at cs)) → None ≡ after d (take (length cs - at) (drop at cs)) → cut d cs ≡ fronted (take (at + 1) cs) (cut d (drop (at + 1) cs))
cut_kept d cs at low so_far is =
    let not_here : after d (get_or cs at 0 ∷ drop (suc at) cs) ≡ None = ap (λ (z : List ℕ). after d z) (sym (drop-cons cs at 0 low) ∙ sym (whole_tail cs at)) ∙ sym is in
    let next_ : cut d cs ≡ fronted (take (suc at) cs) (cut d (drop (suc at) cs)) = so_far ∙ ap (λ (z : List ℕ). fronted (take at cs) (cut d z)) (drop-cons cs at 0 low) ∙ ap (λ (z : Option (List ℕ × List ℕ)). fronted (take at cs) z) (cut_not_here d (get_or cs at 0) (drop (suc at) cs) not_here) ∙ fronted_more (take at cs) (get_or cs at 0) (cut d (drop (suc at) cs)) ∙ ap (λ (z : List ℕ). fronted z (cut d (drop (suc at) cs))) (sym (take-suc cs at 0 low)) in
    rw (add-one at) next_

pub cut_none : (d cs : List ℕ) (at : ℕ) → length cs ≤ at → cut d cs ≡ fronted (take at cs) (cut d (drop at cs)) → None ≡ cut d cs
cut_none d cs at end so_far = sym (so_far ∙ ap (λ (z : List ℕ). fronted (take at cs) (cut d z)) (drop_of_length-le cs end) ∙ fronted_none (take at cs))

-- what a cut finds does not hold the delimiter
starts_more : (d b x : List ℕ) → starts d b ≡ true → starts d (b ++ x) ≡ true
starts_more [] b x is = refl
starts_more (p ∷ ps) [] x is = absurd (cc)
starts_more (p ∷ ps) (c ∷ cs) x is = let a = and_true (p == c) (starts ps cs) is in both_true (p == c) (starts ps (cs ++ x)) a.0 (starts_more ps cs x a.1)

starts_less : (d b x : List ℕ) → starts d (b ++ x) ≡ false → starts d b ≡ false
starts_less d b x is = by (starts d b) refl
  where
    by : (t : Bool) → starts d b ≡ t → t ≡ false
    by true e = let h = starts_more d b x e in absurd (cc)
    by false e = refl

holds_one : (d : List ℕ) (c : ℕ) (cs : List ℕ) (o : Option (List ℕ × List ℕ)) (r : List ℕ × List ℕ) (t : Bool) → starts d [] ≡ false → starts d (c ∷ cs) ≡ t → ((x : List ℕ × List ℕ) → o ≡ Some x → (cs ≡ x.0 ++ (d ++ x.1)) × (holds d x.0 ≡ false)) → (if t then Some ([], drop (length d) (c ∷ cs)) else joined c o) ≡ Some r → holds d r.0 ≡ false
holds_one d c cs o r true none e tail is = subst (λ (x : List ℕ × List ℕ). holds d x.0 ≡ false) (some_inj ([], drop (length d) (c ∷ cs)) r is) none
holds_one d c cs None r false none e tail is = absurd (cc)
holds_one d c cs (Some x) r false none e tail is = subst (λ (y : List ℕ × List ℕ). holds d y.0 ≡ false) (some_inj (c ∷ x.0, x.1) r is) (rw (starts_less d (c ∷ x.0) (d ++ x.1) (subst (λ (y : List ℕ). starts d (c ∷ y) ≡ false) (tail x refl).0 e), (tail x refl).1) refl)

pub cut_free : (d cs : List ℕ) (r : List ℕ × List ℕ) → starts d [] ≡ false → cut d cs ≡ Some r → holds d r.0 ≡ false
cut_free d [] r none is = absurd (cc)
cut_free d (c ∷ cs) r none is = holds_one d c cs (cut d cs) r (starts d (c ∷ cs)) none refl (λ x h. (cut_is d cs x h, cut_free d cs x none h)) is
