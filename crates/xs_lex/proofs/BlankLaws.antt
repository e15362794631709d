-- What stands between tokens is skipped exactly.
use Rattle.std.proofs.Common.{◌≡◌, ℕ, suc, ◌+◌, List, [], ◌∷◌, ◌++◌, length, length-append, append_assoc, add-zero, true, false, Bool, not, ◌&&◌, ◌==◌, refl, sym, ap, ◌∙◌, arith, eqb-true}
use Rattle.std.specs.List.{list_all}
use Rattle.xs_lex.specs.Classes.{is_white}
use Rattle.xs_lex.specs.Between.{Blank, white, comment, spelt_blanks, ends_line, are_blanks, begins_blank, IsApart}
use Rattle.xs_lex.specs.Scan.{blank_end}
use Rattle.xs_lex.proofs.Truth.{hash_no_white, line_end_white}
use Rattle.xs_class.proofs.Truth.{and_true, both_true, or_false, neither, is_not}

no_more : (rest : List ℕ) (k : ℕ) → begins_blank rest ≡ false → blank_end false k rest ≡ k
no_more [] k ends = refl
no_more (c ∷ cs) k ends = let p = or_false (is_white c) (c == 35) ends in rw (p.0, p.1) refl

comment_passed : (body rest : List ℕ) (k : ℕ) → list_all (λ c. not (c == 10)) body ≡ true → blank_end true k (body ++ rest) ≡ blank_end true (k + length body) rest
comment_passed [] rest k each = rw (add-zero k) refl
comment_passed (c ∷ cs) rest k each =
    let p = and_true (not (c == 10)) (list_all (λ c. not (c == 10)) cs) each in
    let more = comment_passed cs rest (k + 1) p.1 in
    let sum : k + 1 + length cs ≡ k + suc (length cs) = omega arith in
    ap (λ (t : Bool). blank_end t (k + 1) (cs ++ rest)) p.0 ∙ more ∙ ap (λ (n : ℕ). blank_end true n rest) sum

comment_ends : (rest : List ℕ) (k : ℕ) → ends_line rest ≡ true → blank_end true k rest ≡ blank_end false k rest
comment_ends [] k ends = refl
comment_ends (c ∷ cs) k ends = let q : c ≡ 10 = eqb-true c 10 ends in rw (q, line_end_white) refl

pub blanks_read : (bs : List Blank) (rest : List ℕ) (k : ℕ) → are_blanks bs rest ≡ true → begins_blank rest ≡ false → blank_end false k (spelt_blanks bs rest) + length rest ≡ k + length (spelt_blanks bs rest)
blanks_read [] rest k each ends = rw (no_more rest k ends) refl
blanks_read (white c ∷ bs) rest k each ends =
    let p = and_true (is_white c) (are_blanks bs rest) each in
    let more = blanks_read bs rest (k + 1) p.1 ends in
    rw p.0 (omega arith)
blanks_read (comment body ∷ bs) rest k each ends =
    let p = and_true (list_all (λ c. not (c == 10)) body) (ends_line (spelt_blanks bs rest) && are_blanks bs rest) each in
    let q = and_true (ends_line (spelt_blanks bs rest)) (are_blanks bs rest) p.1 in
    let inside : blank_end true (k + 1) (body ++ spelt_blanks bs rest) ≡ blank_end false (k + 1 + length body) (spelt_blanks bs rest) = comment_passed body (spelt_blanks bs rest) (k + 1) p.0 ∙ comment_ends (spelt_blanks bs rest) (k + 1 + length body) q.0 in
    let more = blanks_read bs rest (k + 1 + length body) q.1 ends in
    rw (hash_no_white, inside) (omega (arith, length-append body (spelt_blanks bs rest)))

-- from inside a comment, and from outside one
pub record IsPassed (inside : Bool) (text : List ℕ) (k : ℕ) : Type 0 where
  pub body : List ℕ
  pub blanks : List Blank
  pub rest : List ℕ
  pub is : text ≡ body ++ spelt_blanks blanks rest
  pub outside : inside ≡ false → body ≡ []
  pub one_line : list_all (λ c. not (c == 10)) body ≡ true
  pub ended : inside ≡ true → ends_line (spelt_blanks blanks rest) ≡ true
  pub each : are_blanks blanks rest ≡ true
  pub ends : begins_blank rest ≡ false
  pub count : blank_end inside k text + length rest ≡ k + length text

in_comment : (t : Bool) (c : ℕ) (cs : List ℕ) (k : ℕ) → (c == 10) ≡ t → IsPassed (not t) cs (k + 1) → IsPassed true (c ∷ cs) k
in_comment true c cs k e r =
    let q : c ≡ 10 = eqb-true c 10 e in
    let none = r.outside refl in
    record { body = []; blanks = white 10 ∷ r.blanks; rest = r.rest; is = ap (λ (z : ℕ). z ∷ cs) q ∙ ap (λ (z : List ℕ). 10 ∷ z) (r.is ∙ ap (λ (z : List ℕ). z ++ spelt_blanks r.blanks r.rest) none); outside = λ e. refl; one_line = refl; ended = λ e. refl; each = both_true (is_white 10) (are_blanks r.blanks r.rest) line_end_white r.each; ends = r.ends; count = ap (λ (t : Bool). blank_end (not t) (k + 1) cs + length r.rest) e ∙ (let s = r.count in omega arith) }
in_comment false c cs k e r =
    record { body = c ∷ r.body; blanks = r.blanks; rest = r.rest; is = ap (λ (z : List ℕ). c ∷ z) r.is; outside = λ e. absurd (cc); one_line = both_true (not (c == 10)) (list_all (λ c. not (c == 10)) r.body) (is_not (c == 10) e) r.one_line; ended = r.ended; each = r.each; ends = r.ends; count = ap (λ (t : Bool). blank_end (not t) (k + 1) cs + length r.rest) e ∙ (let s = r.count in omega arith) }

on_white : (c : ℕ) (cs : List ℕ) (k : ℕ) → is_white c ≡ true → IsPassed false cs (k + 1) → IsPassed false (c ∷ cs) k
on_white c cs k e r =
    let none = r.outside refl in
    record { body = []; blanks = white c ∷ r.blanks; rest = r.rest; is = ap (λ (z : List ℕ). c ∷ z) (r.is ∙ ap (λ (z : List ℕ). z ++ spelt_blanks r.blanks r.rest) none); outside = λ e. refl; one_line = refl; ended = λ e. absurd (cc); each = both_true (is_white c) (are_blanks r.blanks r.rest) e r.each; ends = r.ends; count = rw e (let s = r.count in omega arith) }

on_hash : (c : ℕ) (cs : List ℕ) (k : ℕ) → is_white c ≡ false → (c == 35) ≡ true → IsPassed true cs (k + 1) → IsPassed false (c ∷ cs) k
on_hash c cs k e f r =
    let q : c ≡ 35 = eqb-true c 35 f in
    record { body = []; blanks = comment r.body ∷ r.blanks; rest = r.rest; is = ap (λ (z : ℕ). z ∷ cs) q ∙ ap (λ (z : List ℕ). 35 ∷ z) r.is; outside = λ e. refl; one_line = refl; ended = λ e. absurd (cc); each = both_true (list_all (λ c. not (c == 10)) r.body) (ends_line (spelt_blanks r.blanks r.rest) && are_blanks r.blanks r.rest) r.one_line (both_true (ends_line (spelt_blanks r.blanks r.rest)) (are_blanks r.blanks r.rest) (r.ended refl) r.each); ends = r.ends; count = rw (e, f) (let s = r.count in omega arith) }

outside_one : (t u : Bool) (c : ℕ) (cs : List ℕ) (k : ℕ) → is_white c ≡ t → (c == 35) ≡ u → ((inside : Bool) → IsPassed inside cs (k + 1)) → IsPassed false (c ∷ cs) k
outside_one true u c cs k e f again = on_white c cs k e (again false)
outside_one false true c cs k e f again = on_hash c cs k e f (again true)
outside_one false false c cs k e f again = record { body = []; blanks = []; rest = c ∷ cs; is = refl; outside = λ e. refl; one_line = refl; ended = λ e. absurd (cc); each = refl; ends = neither (is_white c) (c == 35) e f; count = rw (e, f) refl }

pub passed_is : (inside : Bool) (text : List ℕ) (k : ℕ) → IsPassed inside text k
passed_is inside [] k = record { body = []; blanks = []; rest = []; is = refl; outside = λ e. refl; one_line = refl; ended = λ e. refl; each = refl; ends = refl; count = refl }
passed_is true (c ∷ cs) k = in_comment (c == 10) c cs k refl (passed_is (not (c == 10)) cs (k + 1))
passed_is false (c ∷ cs) k = outside_one (is_white c) (c == 35) c cs k refl refl (λ inside. passed_is inside cs (k + 1))

-- the place after what stands between tokens
pub apart_count : (text rest : List ℕ) → IsApart text rest → blank_end false 0 text + length rest ≡ length text
apart_count text rest a = let h = blanks_read a.blanks rest 0 a.each a.ends in rw a.is (omega arith)

pub record IsAfterBlanks (text rest : List ℕ) : Type 0 where
  pub front : List ℕ
  pub is : text ≡ front ++ rest
  pub count : length front ≡ blank_end false 0 text
  pub apart : IsApart text rest

pub blanks_front : (bs : List Blank) (rest : List ℕ) → (front : List ℕ) × (spelt_blanks bs rest ≡ front ++ rest)
blanks_front [] rest = ([], refl)
blanks_front (white c ∷ bs) rest = let r = blanks_front bs rest in (c ∷ r.0, ap (λ (z : List ℕ). c ∷ z) r.1)
blanks_front (comment body ∷ bs) rest = let r = blanks_front bs rest in (35 ∷ (body ++ r.0), ap (λ (z : List ℕ). 35 ∷ z) (ap (λ (z : List ℕ). body ++ z) r.1 ∙ sym (append_assoc body r.0 rest)))

pub after_blanks : (text : List ℕ) → (rest : List ℕ) × IsAfterBlanks text rest
after_blanks text =
    let p = passed_is false text 0 in
    let none = p.outside refl in
    let whole : text ≡ spelt_blanks p.blanks p.rest = p.is ∙ ap (λ (z : List ℕ). z ++ spelt_blanks p.blanks p.rest) none in
    let f = blanks_front p.blanks p.rest in
    let split : text ≡ f.0 ++ p.rest = whole ∙ f.1 in
    let sizes : length text ≡ length (f.0 ++ p.rest) = ap length split in
    let counted = p.count in
    let same : length f.0 ≡ blank_end false 0 text = omega (arith, length-append f.0 p.rest) in
    (p.rest, record { front = f.0; is = split; count = same; apart = record { blanks = p.blanks; is = whole; each = p.each; ends = p.ends } })
