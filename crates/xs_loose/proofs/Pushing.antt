-- The arcs of words and of automata, one more at a time.
use Rattle.std.proofs.Common.{◌≡◌, ℕ, zero, suc, ◌+◌, ◌<◌, List, [], ◌∷◌, ◌++◌, length, take, get_or, refl, sym, ap, subst, ◌∙◌, arith, append_assoc, append-nil, slice_get, Some}
use Rattle.std.proofs.lemmas.List.{length-take-le, take_more}
use Rattle.std.proofs.lemmas.Option.{same_Some}
use Rattle.xs_auto.specs.Nets.{Graph}
use Rattle.std.specs.List.{Contains}
use Rattle.xs_regex.specs.Automaton.{Leads}
use Rattle.xs_regex.specs.declared.position.Position.{Position}
use Rattle.xs_loose.specs.Arcs.{Arc, read, pass, word_arcs, after_word, class_at, arcs_into, arcs_on, arcs_out}
use Rattle.xs_loose.specs.Growth.{NetGrows}
use Rattle.xs_loose.proofs.Growing.{grows_then}

word_push : (u : List ℕ) (s before at : ℕ) → word_arcs (u ++ s ∷ []) before at ≡ word_arcs u before at ++ read (after_word u before at) ((s, s) ∷ []) (at + length u) ∷ []
word_push [] s before at = ap (λ (n : ℕ). read before ((s, s) ∷ []) n ∷ []) (omega arith)
word_push (x ∷ u) s before at =
    let place : suc at + length u ≡ at + length (x ∷ u) = omega arith in
    ap (λ (xs : List Arc). read before ((x, x) ∷ []) at ∷ xs) (word_push u s at (suc at) ∙ ap (λ (n : ℕ). word_arcs u at (suc at) ++ read (after_word u at (suc at)) ((s, s) ∷ []) n ∷ []) place)

after_push : (u : List ℕ) (s before at : ℕ) → after_word (u ++ s ∷ []) before at ≡ at + length u
after_push [] s before at = omega arith
after_push (x ∷ u) s before at = after_push u s at (suc at) ∙ omega arith

into_push : (p : Position) (first from : ℕ) (ks : List ℕ) (k : ℕ) → arcs_into p first from (ks ++ k ∷ []) ≡ arcs_into p first from ks ++ read from (class_at p k) (first + k) ∷ []
into_push p first from [] k = refl
into_push p first from (j ∷ ks) k = ap (λ (xs : List Arc). read from (class_at p j) (first + j) ∷ xs) (into_push p first from ks k)

out_push : (first to : ℕ) (ks : List ℕ) (k : ℕ) → arcs_out first (ks ++ k ∷ []) to ≡ arcs_out first ks to ++ pass (first + k) to ∷ []
out_push first to [] k = refl
out_push first to (j ∷ ks) k = ap (λ (xs : List Arc). pass (first + j) to ∷ xs) (out_push first to ks k)

on_push : (p : Position) (first j : ℕ) (rows : List (List ℕ)) (row : List ℕ) → arcs_on p first j (rows ++ row ∷ []) ≡ arcs_on p first j rows ++ arcs_into p first (first + (j + length rows)) row
on_push p first j [] row = append-nil (arcs_into p first (first + j) row) ∙ ap (λ (n : ℕ). arcs_into p first (first + n) row) (omega arith)
on_push p first j (r ∷ rows) row =
    let place : suc j + length rows ≡ j + length (r ∷ rows) = omega arith in
    ap (λ (xs : List Arc). arcs_into p first (first + j) r ++ xs) (on_push p first (suc j) rows row ∙ ap (λ (n : ℕ). arcs_on p first (suc j) rows ++ arcs_into p first (first + n) row) place)
    ∙ sym (append_assoc (arcs_into p first (first + j) r) (arcs_on p first (suc j) rows) (arcs_into p first (first + (j + length (r ∷ rows))) row))

-- one more symbol of a word
pub word_more : (w : List ℕ) (i s before at : ℕ) (l m n : Graph) → i < length w → s ≡ get_or w i 0 → NetGrows (word_arcs (take i w) before at) l m → NetGrows (read (after_word (take i w) before at) ((s, s) ∷ []) (at + i) ∷ []) m n → NetGrows (word_arcs (take (i + 1) w) before at) l n
word_more w i s before at l m n low is first second =
    let more : take (i + 1) w ≡ take i w ++ s ∷ [] = take_more w i 0 low ∙ ap (λ (x : ℕ). take i w ++ x ∷ []) (sym is) in
    let place : at + length (take i w) ≡ at + i = ap (λ (k : ℕ). at + k) (length-take-le i w (omega arith)) in
    let e = ap (λ (xs : List ℕ). word_arcs xs before at) more ∙ word_push (take i w) s before at ∙ ap (λ (k : ℕ). word_arcs (take i w) before at ++ read (after_word (take i w) before at) ((s, s) ∷ []) k ∷ []) place in
    subst (λ (xs : List Arc). NetGrows xs l n) (sym e) (grows_then first second)

pub after_more : (w : List ℕ) (i before at : ℕ) → i < length w → after_word (take (i + 1) w) before at ≡ at + i
after_more w i before at low = ap (λ (xs : List ℕ). after_word xs before at) (take_more w i 0 low) ∙ after_push (take i w) (get_or w i 0) before at ∙ ap (λ (k : ℕ). at + k) (length-take-le i w (omega arith))

-- one more target
pub into_more : (p : Position) (first from : ℕ) (ks : List ℕ) (i k : ℕ) (class : List (ℕ × ℕ)) (l m n : Graph) → i < length ks → k ≡ get_or ks i 0 → class ≡ class_at p k → NetGrows (arcs_into p first from (take i ks)) l m → NetGrows (read from class (first + k) ∷ []) m n → NetGrows (arcs_into p first from (take (i + 1) ks)) l n
into_more p first from ks i k class l m n low is has before after =
    let more : take (i + 1) ks ≡ take i ks ++ k ∷ [] = take_more ks i 0 low ∙ ap (λ (x : ℕ). take i ks ++ x ∷ []) (sym is) in
    let e = ap (λ (xs : List ℕ). arcs_into p first from xs) more ∙ into_push p first from (take i ks) k in
    subst (λ (xs : List Arc). NetGrows xs l n) (sym e) (grows_then before (subst (λ (c : List (ℕ × ℕ)). NetGrows (read from c (first + k) ∷ []) m n) has after))

-- one more position
pub on_more : (p : Position) (first : ℕ) (rows : List (List ℕ)) (i : ℕ) (row : List ℕ) (l m n : Graph) → i < length rows → row ≡ get_or rows i [] → NetGrows (arcs_on p first 0 (take i rows)) l m → NetGrows (arcs_into p first (first + i) row) m n → NetGrows (arcs_on p first 0 (take (i + 1) rows)) l n
on_more p first rows i row l m n low is before after =
    let more : take (i + 1) rows ≡ take i rows ++ row ∷ [] = take_more rows i [] low ∙ ap (λ (x : List ℕ). take i rows ++ x ∷ []) (sym is) in
    let place : first + (0 + length (take i rows)) ≡ first + i = omega (arith, length-take-le i rows (omega arith)) in
    let e = ap (λ (xs : List (List ℕ)). arcs_on p first 0 xs) more ∙ on_push p first 0 (take i rows) row ∙ ap (λ (k : ℕ). arcs_on p first 0 (take i rows) ++ arcs_into p first k row) place in
    subst (λ (xs : List Arc). NetGrows xs l n) (sym e) (grows_then before after)

-- one more last position
pub out_more : (first to : ℕ) (ks : List ℕ) (i k : ℕ) (l m n : Graph) → i < length ks → k ≡ get_or ks i 0 → NetGrows (arcs_out first (take i ks) to) l m → NetGrows (pass (first + k) to ∷ []) m n → NetGrows (arcs_out first (take (i + 1) ks) to) l n
out_more first to ks i k l m n low is before after =
    let more : take (i + 1) ks ≡ take i ks ++ k ∷ [] = take_more ks i 0 low ∙ ap (λ (x : ℕ). take i ks ++ x ∷ []) (sym is) in
    let e = ap (λ (xs : List ℕ). arcs_out first xs to) more ∙ out_push first to (take i ks) k in
    subst (λ (xs : List Arc). NetGrows xs l n) (sym e) (grows_then before after)

-- what is read of a list and of an automaton
pub element_is : {A : Type 0} (xs : List A) (j : ℕ) (x d : A) → slice_get xs j ≡ Some x → x ≡ get_or xs j d
element_is [] j x d e = cc
element_is (y ∷ ys) zero x d e = same_Some _ _ (sym e)
element_is (y ∷ ys) (suc j) x d e = element_is ys j x d e

pub row_is : (rows : List (List ℕ)) (j : ℕ) (row : List ℕ) → slice_get rows j ≡ Some row → row ≡ get_or rows j []
row_is rows j row e = element_is rows j row [] e

pub class_read : (p : Position) (k : ℕ) (class : List (ℕ × ℕ)) → slice_get p.classes k ≡ Some class → class ≡ class_at p k
class_read p k class e = element_is p.classes k class [] e

pub row_leads : (p : Position) (j k : ℕ) (row : List ℕ) → slice_get p.follow j ≡ Some row → Contains row k → Leads p j k
row_leads p j k row e h = rw e h
