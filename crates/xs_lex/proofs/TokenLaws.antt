-- The reader finds the longest token, and nothing where there is none.
use Rattle.std.proofs.Common.{suc, ◌≡◌, ◌⊎◌, inl, inr, ℕ, ◌+◌, ◌<◌, ◌≤◌, List, [], ◌∷◌, ◌++◌, length, drop, take, length-append, append_assoc, Some, None, true, false, Bool, ◌&&◌, if◌then◌else◌, ◌==◌, refl, sym, ap, ◌∙◌, subst, arith, eqb-true}
use Rattle.std.specs.declared.option.Option.{Option}
use Rattle.std.specs.List.{list_all}
use Rattle.std.proofs.lemmas.List.{drop_at, take_at}
use Rattle.std.proofs.lemmas.Bool.Decides.{nat_tests}
use Rattle.xs_lex.specs.declared.kind.Kind.{Kind}
use Rattle.xs_lex.specs.declared.kind.Kind.TheVariants.{Plain, Qual, Quoted, Pattern, Colon, Equals, SquareIn, SquareOut, Angle, AngleSlash, AngleEnd, SlashEnd, End, Bad}
use Rattle.xs_lex.specs.declared.quoted.Spot.TheVariants.{Between}
use Rattle.xs_lex.specs.Laws.{Separated}
use Rattle.xs_lex.specs.Classes.{is_white, is_plain_start, is_plain_char, is_plain}
use Rattle.xs_lex.specs.Units.{QuotedUnit, is_quoted_unit, spelt_quoted, PatternUnit, is_pattern_unit, spelt_pattern}
use Rattle.xs_lex.specs.Spelling.{begins_with, Spells}
use Rattle.xs_lex.specs.Reading.{BeginsWith, IsTokenAt, NoToken}
use Rattle.xs_lex.specs.Scan.{run_end, quoted_end, pattern_end, of_kind, slash_at, angle_at, local_at, name_at, sign_at, token_at}
use Rattle.xs_lex.proofs.Truth.{white_ends, plain_start_out, colon_out}
use Rattle.xs_lex.proofs.QuotedLaws.{units_front, quoted_read, quoted_found}
use Rattle.xs_lex.proofs.PatternLaws.{spelt_front, pattern_read, pattern_is}
use Rattle.xs_lex.proofs.NameLaws.{run_plain, run_covers, run_stops, plain_chars}
use Rattle.xs_class.proofs.Truth.{and_true, no_other}
use Rattle.xs_class.proofs.Lists.{some_inj}

-- the text begins with a token of this kind and number of characters
abbrev pub Found : List ℕ → Kind × ℕ → Type 0
Found text p = (word : List ℕ) × (rest : List ℕ) × BeginsWith text p.0 word rest × (length word ≡ p.1)

found_at : (text : List ℕ) (p q : Kind × ℕ) → Found text p → p ≡ q → Found text q
found_at text p q f e = subst (λ (z : Kind × ℕ). Found text z) e f

count_word : (text word rest : List ℕ) (n : ℕ) → text ≡ word ++ rest → n + length rest ≡ length text → length word ≡ n
count_word text word rest n is count = let e : length text ≡ length (word ++ rest) = ap length is in omega (arith, length-append word rest)

pub units_close : (us : List QuotedUnit) (rest : List ℕ) → spelt_quoted us (34 ∷ rest) ≡ spelt_quoted us (34 ∷ []) ++ rest
units_close us rest = units_front us (34 ∷ rest) ∙ sym (append_assoc (spelt_quoted us []) (34 ∷ []) rest) ∙ ap (λ (z : List ℕ). z ++ rest) (sym (units_front us (34 ∷ [])))

pub pattern_close : (us : List PatternUnit) (rest : List ℕ) → spelt_pattern us (47 ∷ rest) ≡ (spelt_pattern us [] ++ 47 ∷ []) ++ rest
pattern_close us rest = spelt_front us (47 ∷ rest) ∙ sym (append_assoc (spelt_pattern us []) (47 ∷ []) rest)

quoted_part : (cs : List ℕ) (n : ℕ) → quoted_end (Some Between) 1 cs ≡ Some n → Found (34 ∷ cs) (Quoted, n)
quoted_part cs n is =
    let r = quoted_found cs 1 n is in
    let word : List ℕ = 34 ∷ spelt_quoted r.units (34 ∷ []) in
    let whole : (34 ∷ cs) ≡ word ++ r.rest = ap (λ (z : List ℕ). 34 ∷ z) (r.spells ∙ units_close r.units r.rest) in
    let sum = r.count in
    (word, r.rest, record { spells = (_, record { units = r.units; is = refl; each = r.each; means = refl }); is = whole }, count_word (34 ∷ cs) word r.rest n whole (omega arith))

begins_front : (xs ys : List ℕ) → begins_with 62 (xs ++ 47 ∷ ys) ≡ false → begins_with 62 xs ≡ false
begins_front [] ys is = refl
begins_front (x ∷ xs) ys is = is

pattern_part : (cs : List ℕ) (n : ℕ) → begins_with 62 cs ≡ false → pattern_end false 1 cs ≡ Some n → Found (47 ∷ cs) (Pattern, n)
pattern_part cs n no_end is =
    let r = pattern_is false cs 1 n is in
    let inner : List ℕ = spelt_pattern r.units [] in
    let word : List ℕ = 47 ∷ (inner ++ 47 ∷ []) in
    let whole : (47 ∷ cs) ≡ word ++ r.rest = ap (λ (z : List ℕ). 47 ∷ z) (r.spells ∙ pattern_close r.units r.rest) in
    let split : cs ≡ inner ++ 47 ∷ r.rest = r.spells ∙ spelt_front r.units (47 ∷ r.rest) in
    let none : begins_with 62 inner ≡ false = begins_front inner r.rest (ap (λ (z : List ℕ). begins_with 62 z) (sym split) ∙ no_end) in
    let sum = r.count in
    (word, r.rest, record { spells = (inner, record { units = r.units; spelt = refl; each = r.each; no_end = none; is = refl }); is = whole }, count_word (47 ∷ cs) word r.rest n whole (omega arith))

of_kind_is : (kind : Kind) (o : Option ℕ) (p : Kind × ℕ) → of_kind kind o ≡ Some p → (n : ℕ) × (o ≡ Some n) × ((kind, n) ≡ p)
of_kind_is kind None p is = absurd (cc)
of_kind_is kind (Some n) p is = (n, refl, some_inj (kind, n) p is)

begins_is : (c : ℕ) (cs : List ℕ) → begins_with c cs ≡ true → (rest : List ℕ) × (cs ≡ c ∷ rest)
begins_is c [] is = absurd (cc)
begins_is c (d ∷ ds) is = (ds, ap (λ (z : ℕ). z ∷ ds) (eqb-true d c is))

slash_part : (cs : List ℕ) (p : Kind × ℕ) → slash_at cs ≡ Some p → Found (47 ∷ cs) p
slash_part cs p is = by (begins_with 62 cs) refl is
  where
    by : (t : Bool) → begins_with 62 cs ≡ t → (if t then Some (SlashEnd, 2) else of_kind Pattern (pattern_end false 1 cs)) ≡ Some p → Found (47 ∷ cs) p
    by true e h =
        let b = begins_is 62 cs e in
        found_at (47 ∷ cs) (SlashEnd, 2) p (47 ∷ 62 ∷ [], b.0, record { spells = refl; is = ap (λ (z : List ℕ). 47 ∷ z) b.1 }, refl) (some_inj (SlashEnd, 2) p h)
    by false e h =
        let o = of_kind_is Pattern (pattern_end false 1 cs) p h in
        found_at (47 ∷ cs) (Pattern, o.0) p (pattern_part cs o.0 e o.1) o.2

angle_part : (cs : List ℕ) → Found (60 ∷ cs) (angle_at cs)
angle_part cs = by (begins_with 47 cs) refl
  where
    by : (t : Bool) → begins_with 47 cs ≡ t → Found (60 ∷ cs) (if t then (AngleSlash, 2) else (Angle, 1))
    by true e = let b = begins_is 47 cs e in (60 ∷ 47 ∷ [], b.0, record { spells = refl; is = ap (λ (z : List ℕ). 60 ∷ z) b.1 }, refl)
    by false e = (60 ∷ [], cs, record { spells = refl; is = refl }, refl)

local_part : (text word rest : List ℕ) (n : ℕ) → text ≡ word ++ rest → is_plain word ≡ true → length word ≡ n → Found text (local_at n rest)
local_part text word [] n is plain_word count = (word, [], record { spells = plain_word; is = is }, count)
local_part text word (c ∷ []) n is plain_word count = (word, c ∷ [], record { spells = plain_word; is = is }, count)
local_part text word (c ∷ d ∷ ds) n is plain_word count = by (c == 58) (is_plain_start d) refl refl
  where
    by : (t u : Bool) → (c == 58) ≡ t → is_plain_start d ≡ u → Found text (if t && u then (Qual, n + 1 + run_end is_plain_char 0 (d ∷ ds)) else (Plain, n))
    by true true e f =
        let r = run_plain d ds f in
        let q : c ≡ 58 = eqb-true c 58 e in
        let long : List ℕ = word ++ 58 ∷ r.0 in
        let whole : text ≡ long ++ r.1 = is ∙ ap (λ (z : ℕ). word ++ z ∷ d ∷ ds) q ∙ ap (λ (z : List ℕ). word ++ 58 ∷ z) r.2 ∙ sym (append_assoc word (58 ∷ r.0) r.1) in
        let counted = r.4 in
        (long, r.1, record { spells = record { prefix = word; local = r.0; is = refl; plain_prefix = plain_word; plain_local = r.3 }; is = whole }, omega (arith, length-append word (58 ∷ r.0)))
    by true false e f = (word, c ∷ d ∷ ds, record { spells = plain_word; is = is }, count)
    by false u e f = (word, c ∷ d ∷ ds, record { spells = plain_word; is = is }, count)

name_part : (c : ℕ) (cs : List ℕ) → is_plain_start c ≡ true → Found (c ∷ cs) (name_at (run_end is_plain_char 0 (c ∷ cs)) (c ∷ cs))
name_part c cs first =
    let r = run_plain c cs first in
    let n : ℕ = run_end is_plain_char 0 (c ∷ cs) in
    let left : drop n (c ∷ cs) ≡ r.1 = ap (λ (z : List ℕ). drop n z) r.2 ∙ drop_at r.0 r.1 n (sym r.4) in
    subst (λ (z : List ℕ). Found (c ∷ cs) (local_at n z)) (sym left) (local_part (c ∷ cs) r.0 r.1 n r.2 r.3 (sym r.4))

sign_part : (c : ℕ) (cs : List ℕ) (p : Kind × ℕ) → sign_at c ≡ Some p → Found (c ∷ cs) p
sign_part c cs p is = by (c == 58) (c == 61) (c == 91) (c == 93) (c == 62) refl refl refl refl refl is
  where
    here : (d : ℕ) (k : Kind) → (c == d) ≡ true → Spells k (d ∷ []) → Some (k, 1) ≡ Some p → Found (c ∷ cs) p
    here d k e s h = found_at (c ∷ cs) (k, 1) p (d ∷ [], cs, record { spells = s; is = ap (λ (z : ℕ). z ∷ cs) (eqb-true c d e) }, refl) (some_inj (k, 1) p h)

    by : (t1 t2 t3 t4 t5 : Bool) → (c == 58) ≡ t1 → (c == 61) ≡ t2 → (c == 91) ≡ t3 → (c == 93) ≡ t4 → (c == 62) ≡ t5 → (if t1 then Some (Colon, 1) else (if t2 then Some (Equals, 1) else (if t3 then Some (SquareIn, 1) else (if t4 then Some (SquareOut, 1) else (if t5 then Some (AngleEnd, 1) else None))))) ≡ Some p → Found (c ∷ cs) p
    by true t2 t3 t4 t5 e1 e2 e3 e4 e5 h = here 58 Colon e1 refl h
    by false true t3 t4 t5 e1 e2 e3 e4 e5 h = here 61 Equals e2 refl h
    by false false true t4 t5 e1 e2 e3 e4 e5 h = here 91 SquareIn e3 refl h
    by false false false true t5 e1 e2 e3 e4 e5 h = here 93 SquareOut e4 refl h
    by false false false false true e1 e2 e3 e4 e5 h = here 62 AngleEnd e5 refl h
    by false false false false false e1 e2 e3 e4 e5 h = absurd (cc)

at_first : (c d : ℕ) (cs : List ℕ) (p : Kind × ℕ) → (c == d) ≡ true → Found (d ∷ cs) p → Found (c ∷ cs) p
at_first c d cs p e f = subst (λ (z : ℕ). Found (z ∷ cs) p) (sym (eqb-true c d e)) f

pub token_is : (text : List ℕ) (p : Kind × ℕ) → token_at text ≡ Some p → Found text p
unfolding token_at
token_is [] p is = absurd (cc)
token_is (c ∷ cs) p is = by (c == 34) (c == 47) (c == 60) (is_plain_start c) refl refl refl refl is
  where
    by : (t1 t2 t3 t4 : Bool) → (c == 34) ≡ t1 → (c == 47) ≡ t2 → (c == 60) ≡ t3 → is_plain_start c ≡ t4 → (if t1 then of_kind Quoted (quoted_end (Some Between) 1 cs) else (if t2 then slash_at cs else (if t3 then Some (angle_at cs) else (if t4 then Some (name_at (run_end is_plain_char 0 (c ∷ cs)) (c ∷ cs)) else sign_at c)))) ≡ Some p → Found (c ∷ cs) p
    by true t2 t3 t4 e1 e2 e3 e4 h = let o = of_kind_is Quoted (quoted_end (Some Between) 1 cs) p h in at_first c 34 cs p e1 (found_at (34 ∷ cs) (Quoted, o.0) p (quoted_part cs o.0 o.1) o.2)
    by false true t3 t4 e1 e2 e3 e4 h = at_first c 47 cs p e2 (slash_part cs p h)
    by false false true t4 e1 e2 e3 e4 h = at_first c 60 cs p e3 (found_at (60 ∷ cs) (angle_at cs) p (angle_part cs) (some_inj (angle_at cs) p h))
    by false false false true e1 e2 e3 e4 h = found_at (c ∷ cs) (name_at (run_end is_plain_char 0 (c ∷ cs)) (c ∷ cs)) p (name_part c cs e4) (some_inj (name_at (run_end is_plain_char 0 (c ∷ cs)) (c ∷ cs)) p h)
    by false false false false e1 e2 e3 e4 h = sign_part c cs p h

-- what begins the text is found, or something longer
abbrev pub Covered : List ℕ → Kind → List ℕ → Type 0
Covered text kind word = (p : Kind × ℕ) × (token_at text ≡ Some p) × ((p ≡ (kind, length word)) ⊎ (length word < p.1))

exactly : (text : List ℕ) (kind : Kind) (word : List ℕ) (n : ℕ) → token_at text ≡ Some (kind, n) → n ≡ length word → Covered text kind word
exactly text kind word n is count = ((kind, n), is, inl (ap (λ (z : ℕ). (kind, z)) count))

quoted_exact : (us : List QuotedUnit) (rest : List ℕ) → list_all is_quoted_unit us ≡ true → token_at ((34 ∷ spelt_quoted us (34 ∷ [])) ++ rest) ≡ Some (Quoted, length (34 ∷ spelt_quoted us (34 ∷ [])))
unfolding token_at
quoted_exact us rest each =
    let n : ℕ = 1 + length (spelt_quoted us []) + 1 in
    let found : quoted_end (Some Between) 1 (spelt_quoted us (34 ∷ []) ++ rest) ≡ Some n = ap (λ (z : List ℕ). quoted_end (Some Between) 1 z) (sym (units_close us rest)) ∙ quoted_read us 1 rest each in
    let size : length (spelt_quoted us (34 ∷ [])) ≡ length (spelt_quoted us [] ++ 34 ∷ []) = ap length (units_front us (34 ∷ [])) in
    let count : n ≡ suc (length (spelt_quoted us (34 ∷ []))) = omega (arith, length-append (spelt_quoted us []) (34 ∷ [])) in
    ap (λ (o : Option ℕ). of_kind Quoted o) found ∙ ap (λ (m : ℕ). Some (Quoted, m)) count

quoted_covered : (us : List QuotedUnit) (rest : List ℕ) → list_all is_quoted_unit us ≡ true → Covered ((34 ∷ spelt_quoted us (34 ∷ [])) ++ rest) Quoted (34 ∷ spelt_quoted us (34 ∷ []))
quoted_covered us rest each = exactly ((34 ∷ spelt_quoted us (34 ∷ [])) ++ rest) Quoted (34 ∷ spelt_quoted us (34 ∷ [])) (length (34 ∷ spelt_quoted us (34 ∷ []))) (quoted_exact us rest each) refl

begins_longer : (xs ys : List ℕ) → begins_with 62 xs ≡ false → begins_with 62 (xs ++ 47 ∷ ys) ≡ false
begins_longer [] ys is = refl
begins_longer (x ∷ xs) ys is = is

pattern_exact : (us : List PatternUnit) (rest : List ℕ) → list_all is_pattern_unit us ≡ true → begins_with 62 (spelt_pattern us []) ≡ false → token_at ((47 ∷ (spelt_pattern us [] ++ 47 ∷ [])) ++ rest) ≡ Some (Pattern, length (47 ∷ (spelt_pattern us [] ++ 47 ∷ [])))
unfolding token_at
pattern_exact us rest each none =
    let n : ℕ = 1 + length (spelt_pattern us []) + 1 in
    let inside : List ℕ = (spelt_pattern us [] ++ 47 ∷ []) ++ rest in
    let found : pattern_end false 1 inside ≡ Some n = ap (λ (z : List ℕ). pattern_end false 1 z) (sym (pattern_close us rest)) ∙ pattern_read us 1 rest each in
    let no_end : begins_with 62 inside ≡ false = ap (λ (z : List ℕ). begins_with 62 z) (append_assoc (spelt_pattern us []) (47 ∷ []) rest) ∙ begins_longer (spelt_pattern us []) rest none in
    let count : n ≡ suc (length (spelt_pattern us [] ++ 47 ∷ [])) = omega (arith, length-append (spelt_pattern us []) (47 ∷ [])) in
    rw (no_end, found) (ap (λ (m : ℕ). Some (Pattern, m)) count)

pattern_covered : (us : List PatternUnit) (rest : List ℕ) → list_all is_pattern_unit us ≡ true → begins_with 62 (spelt_pattern us []) ≡ false → Covered ((47 ∷ (spelt_pattern us [] ++ 47 ∷ [])) ++ rest) Pattern (47 ∷ (spelt_pattern us [] ++ 47 ∷ []))
pattern_covered us rest each none = exactly ((47 ∷ (spelt_pattern us [] ++ 47 ∷ [])) ++ rest) Pattern (47 ∷ (spelt_pattern us [] ++ 47 ∷ [])) (length (47 ∷ (spelt_pattern us [] ++ 47 ∷ []))) (pattern_exact us rest each none) refl

-- a name is found where its run ends
name_found : (c : ℕ) (cs : List ℕ) → is_plain_start c ≡ true → token_at (c ∷ cs) ≡ Some (name_at (run_end is_plain_char 0 (c ∷ cs)) (c ∷ cs))
unfolding token_at
name_found c cs first =
    let a = no_other is_plain_start c 34 first plain_start_out.0 in
    let b = no_other is_plain_start c 47 first plain_start_out.1 in
    let d = no_other is_plain_start c 60 first plain_start_out.2 in
    rw (a, b, d, first) refl

pick_cases : (t : Bool) (p q : Kind × ℕ) → q.1 < p.1 → ((if t then p else q) ≡ q) ⊎ (q.1 < (if◌then◌else◌ {A = Kind × ℕ} t p q).1)
pick_cases true p q h = inr h
pick_cases false p q h = inl refl

local_cases : (n : ℕ) (rest : List ℕ) → (◌≡◌ {A = Kind × ℕ} (local_at n rest) (Plain, n)) ⊎ (n < (local_at n rest).1)
local_cases n [] = inl refl
local_cases n (c ∷ []) = inl refl
local_cases n (c ∷ d ∷ ds) = pick_cases (c == 58 && is_plain_start d) (Qual, n + 1 + run_end is_plain_char 0 (d ∷ ds)) (Plain, n) (omega arith)

not_equal_less : (m n : ℕ) → m ≤ n → (n == m) ≡ false → m < n
not_equal_less m n le e = grind (arith, nat_tests)

same_or_less : (t : Bool) (n m : ℕ) (kind : Kind) (p : Kind × ℕ) → m ≤ n → (n == m) ≡ t → p ≡ (kind, n) → (◌≡◌ {A = Kind × ℕ} p (kind, m)) ⊎ (m < p.1)
same_or_less true n m kind p le e is = inl (is ∙ ap (λ (z : ℕ). (kind, z)) (eqb-true n m e))
same_or_less false n m kind p le e is = inr (rw is (not_equal_less m n le e))

name_longer : (n m : ℕ) (kind : Kind) (p : Kind × ℕ) → m ≤ n → (◌≡◌ {A = Kind × ℕ} p (kind, n)) ⊎ (n < p.1) → (◌≡◌ {A = Kind × ℕ} p (kind, m)) ⊎ (m < p.1)
name_longer n m kind p le (inl is) = same_or_less (n == m) n m kind p le refl is
name_longer n m kind p le (inr less) = inr (omega arith)

plain_covered : (c : ℕ) (cs rest : List ℕ) → is_plain (c ∷ cs) ≡ true → Covered ((c ∷ cs) ++ rest) Plain (c ∷ cs)
plain_covered c cs rest is =
    let text : List ℕ = c ∷ (cs ++ rest) in
    let first = and_true (is_plain_start c) (list_all is_plain_char cs) is in
    let n : ℕ = run_end is_plain_char 0 text in
    let covers : 0 + length (c ∷ cs) ≤ n = run_covers is_plain_char (c ∷ cs) rest 0 (plain_chars (c ∷ cs) is) in
    (name_at n text, name_found c (cs ++ rest) first.0, name_longer n (length (c ∷ cs)) Plain (name_at n text) (omega arith) (local_cases n (drop n text)))

qual_local : (n : ℕ) (d : ℕ) (ds : List ℕ) → is_plain_start d ≡ true → local_at n (58 ∷ d ∷ ds) ≡ (Qual, n + 1 + run_end is_plain_char 0 (d ∷ ds))
qual_local n d ds first = rw first refl

qual_covered : (c : ℕ) (cs : List ℕ) (d : ℕ) (ds rest : List ℕ) → is_plain (c ∷ cs) ≡ true → is_plain (d ∷ ds) ≡ true → Covered (((c ∷ cs) ++ 58 ∷ d ∷ ds) ++ rest) Qual ((c ∷ cs) ++ 58 ∷ d ∷ ds)
qual_covered c cs d ds rest front back =
    let first = and_true (is_plain_start c) (list_all is_plain_char cs) front in
    let second = and_true (is_plain_start d) (list_all is_plain_char ds) back in
    let left : List ℕ = d ∷ (ds ++ rest) in
    let text : List ℕ = c ∷ (cs ++ 58 ∷ left) in
    let same : ((c ∷ cs) ++ 58 ∷ d ∷ ds) ++ rest ≡ text = append_assoc (c ∷ cs) (58 ∷ d ∷ ds) rest in
    let n : ℕ = run_end is_plain_char 0 text in
    let stops : n ≡ 0 + length (c ∷ cs) = run_stops is_plain_char (c ∷ cs) 58 left 0 (plain_chars (c ∷ cs) front) colon_out in
    let after : drop n text ≡ 58 ∷ left = drop_at (c ∷ cs) (58 ∷ left) n (omega arith) in
    let m : ℕ = n + 1 + run_end is_plain_char 0 left in
    let found : name_at n text ≡ (Qual, m) = ap (λ (z : List ℕ). local_at n z) after ∙ qual_local n d (ds ++ rest) second.0 in
    let covers : 0 + length (d ∷ ds) ≤ run_end is_plain_char 0 left = run_covers is_plain_char (d ∷ ds) rest 0 (plain_chars (d ∷ ds) back) in
    let enough : length ((c ∷ cs) ++ 58 ∷ d ∷ ds) ≤ m = omega (arith, length-append (c ∷ cs) (58 ∷ d ∷ ds)) in
    subst (λ (z : List ℕ). Covered z Qual ((c ∷ cs) ++ 58 ∷ d ∷ ds)) (sym same) ((Qual, m), name_found c (cs ++ 58 ∷ left) first.0 ∙ ap (λ (z : Kind × ℕ). Some z) found, name_longer m (length ((c ∷ cs) ++ 58 ∷ d ∷ ds)) Qual (Qual, m) enough (inl refl))

angle_covered : (rest : List ℕ) → Covered (60 ∷ rest) Angle (60 ∷ [])
unfolding token_at
angle_covered rest = (angle_at rest, refl, by (begins_with 47 rest))
  where
    by : (t : Bool) → (◌≡◌ {A = Kind × ℕ} (if t then (AngleSlash, 2) else (Angle, 1)) (Angle, 1)) ⊎ (1 < (if◌then◌else◌ {A = Kind × ℕ} t (AngleSlash, 2) (Angle, 1)).1)
    by true = inr (omega arith)
    by false = inl refl

signs_covered : (rest : List ℕ) → (token_at (58 ∷ rest) ≡ Some (Colon, 1)) × (token_at (61 ∷ rest) ≡ Some (Equals, 1)) × (token_at (91 ∷ rest) ≡ Some (SquareIn, 1)) × (token_at (93 ∷ rest) ≡ Some (SquareOut, 1)) × (token_at (62 ∷ rest) ≡ Some (AngleEnd, 1)) × (token_at (60 ∷ 47 ∷ rest) ≡ Some (AngleSlash, 2)) × (token_at (47 ∷ 62 ∷ rest) ≡ Some (SlashEnd, 2))
unfolding token_at
signs_covered rest = let o = plain_start_out in (rw o.3 refl, rw o.4 refl, rw o.5 refl, rw o.6 refl, rw o.7 refl, refl, refl)

sign_covered : (kind : Kind) (sign rest : List ℕ) (n : ℕ) → token_at (sign ++ rest) ≡ Some (kind, n) → length sign ≡ n → (word : List ℕ) → word ≡ sign → Covered (word ++ rest) kind word
sign_covered kind sign rest n found size word is = subst (λ (z : List ℕ). Covered (z ++ rest) kind z) (sym is) (exactly (sign ++ rest) kind sign n found (sym size))

word_covered : (kind : Kind) (word rest : List ℕ) → Spells kind word → Covered (word ++ rest) kind word
word_covered Plain [] rest s = absurd (cc)
word_covered Plain (c ∷ cs) rest s = plain_covered c cs rest s
word_covered Qual word rest s = subst (λ (z : List ℕ). Covered (z ++ rest) Qual z) (sym s.is) (by s.prefix s.local s.plain_prefix s.plain_local)
  where
    by : (a b : List ℕ) → is_plain a ≡ true → is_plain b ≡ true → Covered ((a ++ 58 ∷ b) ++ rest) Qual (a ++ 58 ∷ b)
    by [] b p q = absurd (cc)
    by (c ∷ cs) [] p q = absurd (cc)
    by (c ∷ cs) (d ∷ ds) p q = qual_covered c cs d ds rest p q
word_covered Quoted word rest s = let q = s.1 in subst (λ (z : List ℕ). Covered (z ++ rest) Quoted z) (sym q.is) (quoted_covered q.units rest q.each)
word_covered Pattern word rest s =
    let q = s.1 in
    let shape : word ≡ 47 ∷ (spelt_pattern q.units [] ++ 47 ∷ []) = q.is ∙ ap (λ (z : List ℕ). 47 ∷ (z ++ 47 ∷ [])) q.spelt in
    subst (λ (z : List ℕ). Covered (z ++ rest) Pattern z) (sym shape) (pattern_covered q.units rest q.each (ap (λ (z : List ℕ). begins_with 62 z) (sym q.spelt) ∙ q.no_end))
word_covered Colon word rest s = sign_covered Colon (58 ∷ []) rest 1 (signs_covered rest).0 refl word s
word_covered Equals word rest s = sign_covered Equals (61 ∷ []) rest 1 (signs_covered rest).1 refl word s
word_covered SquareIn word rest s = sign_covered SquareIn (91 ∷ []) rest 1 (signs_covered rest).2 refl word s
word_covered SquareOut word rest s = sign_covered SquareOut (93 ∷ []) rest 1 (signs_covered rest).3 refl word s
word_covered Angle word rest s = subst (λ (z : List ℕ). Covered (z ++ rest) Angle z) (sym s) (angle_covered rest)
word_covered AngleSlash word rest s = sign_covered AngleSlash (60 ∷ 47 ∷ []) rest 2 (signs_covered rest).5 refl word s
word_covered AngleEnd word rest s = sign_covered AngleEnd (62 ∷ []) rest 1 (signs_covered rest).4 refl word s
word_covered SlashEnd word rest s = sign_covered SlashEnd (47 ∷ 62 ∷ []) rest 2 (signs_covered rest).6 refl word s
word_covered End word rest s = absurd s
word_covered Bad word rest s = absurd s

covered : (text : List ℕ) (kind : Kind) (word rest : List ℕ) → BeginsWith text kind word rest → Covered text kind word
covered text kind word rest b = subst (λ (z : List ℕ). Covered z kind word) (sym b.is) (word_covered kind word rest b.spells)

-- nothing found: no token begins the text
pub nothing_is : (text : List ℕ) → token_at text ≡ None → NoToken text
nothing_is text none k w r b = let c = covered text k w r b in let e = c.1 in absurd (cc)

pair_second : (p q : Kind × ℕ) → p ≡ q → p.1 ≡ q.1
pair_second p q e = ap (λ (z : Kind × ℕ). z.1) e

no_longer : (p q : Kind × ℕ) (kind : Kind) (n : ℕ) → p ≡ q → (◌≡◌ {A = Kind × ℕ} p (kind, n)) ⊎ (n < p.1) → n ≤ q.1
no_longer p q kind n same (inl is) = let a = pair_second p q same in let b = pair_second p (kind, n) is in omega arith
no_longer p q kind n same (inr less) = let a = pair_second p q same in omega arith

-- what is found is the longest token
pub longest_is : (text : List ℕ) (p : Kind × ℕ) → token_at text ≡ Some p → (word : List ℕ) × (rest : List ℕ) × IsTokenAt text p.0 word rest × (length word ≡ p.1)
longest_is text p is =
    let f = token_is text p is in
    (f.0, f.1, record { begins = f.2; longest = λ k w r b. (let c = covered text k w r b in let e : c.0 ≡ p = some_inj c.0 p (sym c.1 ∙ is) in let h = no_longer c.0 p k (length w) e c.2 in let size = f.3 in omega arith) }, f.3)

-- the longest token is the one that is found
pub longest_found : (text : List ℕ) (kind : Kind) (word rest : List ℕ) → IsTokenAt text kind word rest → token_at text ≡ Some (kind, length word)
longest_found text kind word rest t = let c = covered text kind word rest t.begins in by c.0 c.1 c.2
  where
    by : (p : Kind × ℕ) → token_at text ≡ Some p → (◌≡◌ {A = Kind × ℕ} p (kind, length word)) ⊎ (length word < p.1) → token_at text ≡ Some (kind, length word)
    by p found (inl is) = found ∙ ap (λ (z : Kind × ℕ). Some z) is
    by p found (inr less) =
        let f = token_is text p found in
        let le = t.longest p.0 f.0 f.1 f.2 in
        let size = f.3 in
        absurd (omega arith)

-- a word before white space is a token by itself
local_alone : (n sep : ℕ) (rest : List ℕ) → (sep == 58) ≡ false → local_at n (sep ∷ rest) ≡ (Plain, n)
local_alone n sep [] differs = refl
local_alone n sep (d ∷ ds) differs = rw differs refl

plain_alone : (c : ℕ) (cs : List ℕ) (sep : ℕ) (rest : List ℕ) → is_plain (c ∷ cs) ≡ true → is_white sep ≡ true → token_at ((c ∷ cs) ++ sep ∷ rest) ≡ Some (Plain, length (c ∷ cs))
plain_alone c cs sep rest is white =
    let w = white_ends sep white in
    let text : List ℕ = c ∷ (cs ++ sep ∷ rest) in
    let first = and_true (is_plain_start c) (list_all is_plain_char cs) is in
    let n : ℕ = run_end is_plain_char 0 text in
    let stops : n ≡ 0 + length (c ∷ cs) = run_stops is_plain_char (c ∷ cs) sep rest 0 (plain_chars (c ∷ cs) is) w.0 in
    let size : n ≡ length (c ∷ cs) = omega arith in
    let after : drop n text ≡ sep ∷ rest = drop_at (c ∷ cs) (sep ∷ rest) n (sym size) in
    name_found c (cs ++ sep ∷ rest) first.0 ∙ ap (λ (z : List ℕ). Some (local_at n z)) after ∙ ap (λ (z : Kind × ℕ). Some z) (local_alone n sep rest w.1) ∙ ap (λ (m : ℕ). Some (Plain, m)) size

qual_alone : (c : ℕ) (cs : List ℕ) (d : ℕ) (ds : List ℕ) (sep : ℕ) (rest : List ℕ) → is_plain (c ∷ cs) ≡ true → is_plain (d ∷ ds) ≡ true → is_white sep ≡ true → token_at (((c ∷ cs) ++ 58 ∷ d ∷ ds) ++ sep ∷ rest) ≡ Some (Qual, length ((c ∷ cs) ++ 58 ∷ d ∷ ds))
qual_alone c cs d ds sep rest front back white =
    let w = white_ends sep white in
    let first = and_true (is_plain_start c) (list_all is_plain_char cs) front in
    let second = and_true (is_plain_start d) (list_all is_plain_char ds) back in
    let left : List ℕ = d ∷ (ds ++ sep ∷ rest) in
    let text : List ℕ = c ∷ (cs ++ 58 ∷ left) in
    let same : ((c ∷ cs) ++ 58 ∷ d ∷ ds) ++ sep ∷ rest ≡ text = append_assoc (c ∷ cs) (58 ∷ d ∷ ds) (sep ∷ rest) in
    let n : ℕ = run_end is_plain_char 0 text in
    let stops : n ≡ 0 + length (c ∷ cs) = run_stops is_plain_char (c ∷ cs) 58 left 0 (plain_chars (c ∷ cs) front) colon_out in
    let after : drop n text ≡ 58 ∷ left = drop_at (c ∷ cs) (58 ∷ left) n (omega arith) in
    let ends : run_end is_plain_char 0 left ≡ 0 + length (d ∷ ds) = run_stops is_plain_char (d ∷ ds) sep rest 0 (plain_chars (d ∷ ds) back) w.0 in
    let size : n + 1 + run_end is_plain_char 0 left ≡ length ((c ∷ cs) ++ 58 ∷ d ∷ ds) = omega (arith, length-append (c ∷ cs) (58 ∷ d ∷ ds)) in
    ap token_at same ∙ name_found c (cs ++ 58 ∷ left) first.0 ∙ ap (λ (z : List ℕ). Some (local_at n z)) after ∙ ap (λ (z : Kind × ℕ). Some z) (qual_local n d (ds ++ sep ∷ rest) second.0) ∙ ap (λ (m : ℕ). Some (Qual, m)) size

angle_alone : (sep : ℕ) (rest : List ℕ) → (sep == 47) ≡ false → token_at (60 ∷ sep ∷ rest) ≡ Some (Angle, 1)
unfolding token_at
angle_alone sep rest differs = rw differs refl

sign_alone : (kind : Kind) (sign word rest : List ℕ) (n : ℕ) → word ≡ sign → token_at (sign ++ rest) ≡ Some (kind, n) → length sign ≡ n → token_at (word ++ rest) ≡ Some (kind, length word)
sign_alone kind sign word rest n is found size = ap (λ (z : List ℕ). token_at (z ++ rest)) is ∙ found ∙ ap (λ (m : ℕ). Some (kind, m)) (sym size ∙ ap length (sym is))

word_alone : (kind : Kind) (word : List ℕ) (sep : ℕ) (rest : List ℕ) → Spells kind word → is_white sep ≡ true → token_at (word ++ sep ∷ rest) ≡ Some (kind, length word)
word_alone Plain [] sep rest s white = absurd (cc)
word_alone Plain (c ∷ cs) sep rest s white = plain_alone c cs sep rest s white
word_alone Qual word sep rest s white = subst (λ (z : List ℕ). token_at (z ++ sep ∷ rest) ≡ Some (Qual, length z)) (sym s.is) (by s.prefix s.local s.plain_prefix s.plain_local)
  where
    by : (a b : List ℕ) → is_plain a ≡ true → is_plain b ≡ true → token_at ((a ++ 58 ∷ b) ++ sep ∷ rest) ≡ Some (Qual, length (a ++ 58 ∷ b))
    by [] b p q = absurd (cc)
    by (c ∷ cs) [] p q = absurd (cc)
    by (c ∷ cs) (d ∷ ds) p q = qual_alone c cs d ds sep rest p q white
word_alone Quoted word sep rest s white = let q = s.1 in subst (λ (z : List ℕ). token_at (z ++ sep ∷ rest) ≡ Some (Quoted, length z)) (sym q.is) (quoted_exact q.units (sep ∷ rest) q.each)
word_alone Pattern word sep rest s white =
    let q = s.1 in
    let shape : word ≡ 47 ∷ (spelt_pattern q.units [] ++ 47 ∷ []) = q.is ∙ ap (λ (z : List ℕ). 47 ∷ (z ++ 47 ∷ [])) q.spelt in
    subst (λ (z : List ℕ). token_at (z ++ sep ∷ rest) ≡ Some (Pattern, length z)) (sym shape) (pattern_exact q.units (sep ∷ rest) q.each (ap (λ (z : List ℕ). begins_with 62 z) (sym q.spelt) ∙ q.no_end))
word_alone Colon word sep rest s white = sign_alone Colon (58 ∷ []) word (sep ∷ rest) 1 s (signs_covered (sep ∷ rest)).0 refl
word_alone Equals word sep rest s white = sign_alone Equals (61 ∷ []) word (sep ∷ rest) 1 s (signs_covered (sep ∷ rest)).1 refl
word_alone SquareIn word sep rest s white = sign_alone SquareIn (91 ∷ []) word (sep ∷ rest) 1 s (signs_covered (sep ∷ rest)).2 refl
word_alone SquareOut word sep rest s white = sign_alone SquareOut (93 ∷ []) word (sep ∷ rest) 1 s (signs_covered (sep ∷ rest)).3 refl
word_alone Angle word sep rest s white = sign_alone Angle (60 ∷ []) word (sep ∷ rest) 1 s (angle_alone sep rest (white_ends sep white).2) refl
word_alone AngleSlash word sep rest s white = sign_alone AngleSlash (60 ∷ 47 ∷ []) word (sep ∷ rest) 2 s (signs_covered (sep ∷ rest)).5 refl
word_alone AngleEnd word sep rest s white = sign_alone AngleEnd (62 ∷ []) word (sep ∷ rest) 1 s (signs_covered (sep ∷ rest)).4 refl
word_alone SlashEnd word sep rest s white = sign_alone SlashEnd (47 ∷ 62 ∷ []) word (sep ∷ rest) 2 s (signs_covered (sep ∷ rest)).6 refl
word_alone End word sep rest s white = absurd s
word_alone Bad word sep rest s white = absurd s

pub separated : Separated
separated kind word sep rest s white =
    let l = longest_is (word ++ sep ∷ rest) (kind, length word) (word_alone kind word sep rest s white) in
    let whole = l.2.begins.is in
    let same_word : word ≡ l.0 = sym (take_at word (sep ∷ rest) (length word) refl) ∙ ap (λ (z : List ℕ). take (length word) z) whole ∙ take_at l.0 l.1 (length word) l.3 in
    let same_rest : (sep ∷ rest) ≡ l.1 = sym (drop_at word (sep ∷ rest) (length word) refl) ∙ ap (λ (z : List ℕ). drop (length word) z) whole ∙ drop_at l.0 l.1 (length word) l.3 in
    subst (λ (z : List ℕ). IsTokenAt (word ++ sep ∷ rest) kind word z) (sym same_rest) (subst (λ (z : List ℕ). IsTokenAt (word ++ sep ∷ rest) kind z l.1) (sym same_word) l.2)
