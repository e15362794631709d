-- The lines of a text, cut at each LF.
use Rattle.std.proofs.Common.{◌≡◌, ◌≢◌, inl, inr, ℕ, ◌<◌, Bool, true, false, List, [], ◌∷◌, ◌++◌, length, length-append, refl, sym, ap, ◌∙◌, ◌==◌, eqb-true, arith}
use Rattle.xs_class.proofs.Truth.{if_false}
use Rattle.xs_outline.specs.Lines.{Lacks, text_lines, with_first}
use Rattle.xs_outline.specs.Reading.{IsFirstLine}

differs : (x : ℕ) → x ≢ 10 → (x == 10) ≡ false
differs x other = by (x == 10) refl
  where
    by : (t : Bool) → (x == 10) ≡ t → t ≡ false
    by true e = absurd (other (eqb-true x 10 e))
    by false e = refl

lines_cut : (line rest : List ℕ) → Lacks 10 line → text_lines (line ++ 10 ∷ rest) ≡ line ∷ text_lines rest
lines_cut [] rest lacks = refl
lines_cut (x ∷ line) rest lacks =
    if_false (x == 10) ([] ∷ text_lines (line ++ 10 ∷ rest)) (with_first x (text_lines (line ++ 10 ∷ rest))) (differs x lacks.0) ∙ ap (with_first x) (lines_cut line rest lacks.1)

lines_last : (x : ℕ) (line : List ℕ) → Lacks 10 (x ∷ line) → text_lines (x ∷ line) ≡ (x ∷ line) ∷ []
lines_last x [] lacks = if_false (x == 10) ([] ∷ []) (with_first x []) (differs x lacks.0)
lines_last x (y ∷ line) lacks =
    if_false (x == 10) ([] ∷ text_lines (y ∷ line)) (with_first x (text_lines (y ∷ line))) (differs x lacks.0) ∙ ap (with_first x) (lines_last y line lacks.1)

last_alone : (line : List ℕ) → line ≢ [] → Lacks 10 line → text_lines line ≡ line ∷ []
last_alone [] some lacks = absurd (some refl)
last_alone (x ∷ line) some lacks = lines_last x line lacks

-- the first line, and those of the rest
pub first_then : (text line rest : List ℕ) → IsFirstLine text line rest → text_lines text ≡ line ∷ text_lines rest
first_then text line rest (lacks, inl ended) = ap text_lines ended ∙ lines_cut line rest lacks
first_then text line rest (lacks, inr (is, some, none)) = ap text_lines is ∙ last_alone line some lacks ∙ ap (λ z. line ∷ text_lines z) (sym none)

pub no_end : (a : List ℕ) (c : ℕ) (b : List ℕ) → a ++ c ∷ b ≢ []
no_end [] c b e = cc
no_end (x ∷ a) c b e = cc

some_long : (w : List ℕ) → w ≢ [] → 0 < length w
some_long [] some = absurd (some refl)
some_long (x ∷ w) some = omega arith

-- less follows the first line
pub first_shorter : (text line rest : List ℕ) → IsFirstLine text line rest → length rest < length text
first_shorter text line rest (lacks, inl ended) = let long : length text ≡ length (line ++ 10 ∷ rest) = ap (λ (z : List ℕ). length z) ended in omega (arith, long, length-append line (10 ∷ rest))
first_shorter text line rest (lacks, inr (is, some, none)) =
    let long : length text ≡ length line = ap (λ (z : List ℕ). length z) is in
    let over : length rest ≡ 0 = ap (λ (z : List ℕ). length z) none in
    let more = some_long line some in
    omega (arith, long, over, more)

same_head : (x y : List ℕ) (xs ys : List (List ℕ)) → x ∷ xs ≡ y ∷ ys → x ≡ y
same_head x y xs ys e = cc

-- a text has one first line
pub same_first : (text a b x y : List ℕ) → IsFirstLine text a x → IsFirstLine text b y → a ≡ b
same_first text a b x y one two = same_head a b (text_lines x) (text_lines y) (sym (first_then text a x one) ∙ first_then text b y two)

-- and it has one, where it is not empty
pub record HasFirst (text : List ℕ) : Type 0 where
  pub front : List ℕ
  pub rest : List ℕ
  pub is : IsFirstLine text front rest

pub some_first : (text : List ℕ) → text ≢ [] → HasFirst text
some_first [] some = absurd (some refl)
some_first (x ∷ text) some = by (some_first text) (x == 10) refl
  where
    other : (x == 10) ≡ false → x ≢ 10
    other e same = let bad : false ≡ true = sym e ∙ ap (λ z. z == 10) same in cc

    longer : x ≢ 10 → HasFirst text → HasFirst (x ∷ text)
    longer other_x one = record { front = x ∷ one.front; rest = one.rest; is = on one.is }
      where
        on : IsFirstLine text one.front one.rest → IsFirstLine (x ∷ text) (x ∷ one.front) one.rest
        on (lacks, inl ended) = ((other_x, lacks), inl (ap (λ z. x ∷ z) ended))
        on (lacks, inr (is, long, none)) = ((other_x, lacks), inr (ap (λ z. x ∷ z) is, no_end [] x one.front, none))

    alone : (w : List ℕ) → x ≢ 10 → ((w ≢ []) → HasFirst (x ∷ w)) → HasFirst (x ∷ w)
    alone [] other_x more = record { front = x ∷ []; rest = []; is = ((other_x, tt), inr (refl, no_end [] x [], refl)) }
    alone (y ∷ w) other_x more = more (no_end [] y w)

    by : (text ≢ [] → HasFirst text) → (t : Bool) → (x == 10) ≡ t → HasFirst (x ∷ text)
    by more true e = record { front = []; rest = text; is = (tt, inl (ap (λ z. z ∷ text) (eqb-true x 10 e))) }
    by more false e = alone text (other e) (λ long. longer (other e) (more long))
