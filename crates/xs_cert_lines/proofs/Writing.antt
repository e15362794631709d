-- The rows of a table, as they are written.
use Rattle.std.proofs.Common.{◌≡◌, ℕ, zero, suc, ◌+◌, ◌-◌, ◌<◌, ◌≤◌, Bool, true, false, List, [], ◌∷◌, ◌++◌, length, get_or, take, drop, decimal, refl, sym, ap, subst, ◌∙◌, arith, add-one, append_assoc, append-nil}
use Rattle.std.proofs.lemmas.List.{drop-drop}
use Rattle.xs_closed.specs.Rows.{Grid, Row, IsNext, marked, places, row_then, rows_from}
use Rattle.xs_closed.proofs.LongestLemmas.{places_none}
use Rattle.xs_cert_lines.specs.Lines.{row_line, set_lines, written}
use Rattle.xs_cert_lines.specs.Reading.{listed}
use Rattle.xs_cert_lines.specs.Pages.{AppendsFront, Puts, Flushes, Writes}
use Rattle.xs_cert_lines.proofs.Fronts.{front_more, front_left}
use Rattle.xs_cert_lines.proofs.Marking.{spaced_is}

-- no place before a true one is skipped
first_place : (k n : ℕ) (bs : List Bool) → ((m : ℕ) → m < n → get_or bs m false ≡ false) → get_or bs n false ≡ true → places k bs ≡ (k + n) ∷ places (k + suc n) (drop (suc n) bs)
first_place k n [] none is = absurd (differ is)
  where
    differ : false ≡ true → ⊥
    differ e = cc
first_place k zero (true ∷ bs) none is = ap (λ z. z ∷ places (suc k) bs) (omega arith) ∙ ap (λ z. (k + 0) ∷ places z bs) (omega arith)
first_place k zero (false ∷ bs) none is = absurd (differ is)
  where
    differ : false ≡ true → ⊥
    differ e = cc
first_place k (suc n) (true ∷ bs) none is = absurd (differ (none 0 (omega arith)))
  where
    differ : true ≡ false → ⊥
    differ e = cc
first_place k (suc n) (false ∷ bs) none is =
    first_place (suc k) n bs (λ m lt. none (suc m) (omega (arith, lt))) is
    ∙ ap (λ z. z ∷ places (suc k + suc n) (drop (suc n) bs)) (omega arith)
    ∙ ap (λ z. (k + suc n) ∷ places z (drop (suc n) bs)) (omega arith)

pub get_drop : (n k : ℕ) (bs : List Bool) → get_or (drop n bs) k false ≡ get_or bs (n + k) false
get_drop zero k bs = ap (λ z. get_or bs z false) (omega arith)
get_drop (suc n) k [] = refl
get_drop (suc n) k (b ∷ bs) = let e : suc (n + k) ≡ suc n + k = omega arith in get_drop n k bs ∙ ap (λ z. get_or (b ∷ bs) z false) e

pub no_more : (from : ℕ) (bs : List Bool) → ((b : ℕ) → from ≤ b → get_or bs b false ≡ false) → places from (drop from bs) ≡ []
no_more from bs none = places_none from (drop from bs) (λ n. get_drop from n bs ∙ none (from + n) (omega arith))

pub next_place : (from b : ℕ) (bs : List Bool) → from ≤ b → get_or bs b false ≡ true → ((c : ℕ) → from ≤ c → c < b → get_or bs c false ≡ false) → places from (drop from bs) ≡ b ∷ places (suc b) (drop (suc b) bs)
next_place from b bs order is least =
    let there : from + (b - from) ≡ b = omega (arith, order) in
    let after : from + suc (b - from) ≡ suc b = omega (arith, order) in
    first_place from (b - from) (drop from bs)
    (λ m lt. get_drop from m bs ∙ least (from + m) (omega arith) (omega (arith, lt, order)))
    (get_drop from (b - from) bs ∙ ap (λ z. get_or bs z false) there ∙ is)
    ∙ ap (λ z. (from + (b - from)) ∷ places (from + suc (b - from)) z) (drop-drop (suc (b - from)) from bs)
    ∙ ap (λ z. z ∷ places (from + suc (b - from)) (drop (from + suc (b - from)) bs)) there
    ∙ ap (λ z. b ∷ places z (drop z bs)) after

-- a row of partners, written
pub row_written : (a b : ℕ) (bs : List ℕ) → written (set_lines (row_then a (b ∷ bs) [])) ≡ decimal a ++ listed (b ∷ bs) ++ 10 ∷ []
row_written a b bs = append-nil (row_line (record { state = a; partners = b ∷ bs }) ++ 10 ∷ []) ∙ ap (λ z. z ++ 10 ∷ []) (spaced_is (decimal a) (b ∷ bs))

-- a row from its first partner on
pub row_is : (z : Grid) (a b : ℕ) → IsNext z a 0 b → written (set_lines (row_then a (places 0 (get_or z.rows a [])) [])) ≡ decimal a ++ listed (places 0 (get_or z.rows a [])) ++ 10 ∷ []
row_is z a b next =
    let bs = get_or z.rows a [] in
    let first : places 0 bs ≡ b ∷ places (suc b) (drop (suc b) bs) = next_place 0 b bs next.order next.there next.least in
    ap (λ ps. written (set_lines (row_then a ps []))) first ∙ row_written a b (places (suc b) (drop (suc b) bs)) ∙ ap (λ ps. decimal a ++ listed ps ++ 10 ∷ []) (sym first)

-- no row
pub no_row : (out : List ℕ) (z : Grid) (a : ℕ) → ((b : ℕ) → 0 ≤ b → marked z a b ≡ false) → out ≡ out ++ written (set_lines (row_then a (places 0 (get_or z.rows a [])) []))
no_row out z a none = sym (append-nil out) ∙ ap (λ ps. out ++ written (set_lines (row_then a ps []))) (sym (no_more 0 (get_or z.rows a []) none))

-- a row: its number, its partners and the line feed
pub one_row : (out begun page new_out listing_page ended : List ℕ) (start begin between listing end : ℕ) (page0 : List ℕ) (z : Grid) (a b : ℕ)
    → IsNext z a 0 b → Flushes out begun page0 start begin → Puts page0 page begin between (decimal a)
    → Writes begun page between new_out listing_page listing (listed (places 0 (get_or z.rows a []))) → Puts listing_page ended listing end (10 ∷ [])
    → Writes out page0 start new_out ended end (written (set_lines (row_then a (places 0 (get_or z.rows a [])) [])))
one_row out begun page new_out listing_page ended start begin between listing end page0 z a b next flush number list feed =
    let bs = get_or z.rows a [] in
    record {
      text =
          ap (λ x. new_out ++ x) feed.text ∙ sym (append_assoc new_out (take listing listing_page) (10 ∷ []))
          ∙ ap (λ x. x ++ 10 ∷ []) (list.text ∙ ap (λ x. (begun ++ x) ++ listed (places 0 bs)) number.text)
          ∙ regroup begun (take begin page0) (decimal a) (listed (places 0 bs)) (10 ∷ [])
          ∙ ap (λ x. x ++ (decimal a ++ listed (places 0 bs) ++ 10 ∷ [])) flush.text
          ∙ ap (λ x. (out ++ take start page0) ++ x) (sym (row_is z a b next));
      order = omega (arith, flush.order, list.order);
      size = feed.size ∙ list.size ∙ number.size;
    }
  where
    regroup : (o p d l f : List ℕ) → ((o ++ (p ++ d)) ++ l) ++ f ≡ (o ++ p) ++ (d ++ l ++ f)
    regroup o p d l f = simp append_assoc

-- a row whose partners were not all written
pub row_front : (out begun new page0 page : List ℕ) (start begin between : ℕ) (z : Grid) (a b : ℕ)
    → IsNext z a 0 b → Flushes out begun page0 start begin → Puts page0 page begin between (decimal a)
    → AppendsFront begun new (take between page ++ listed (places 0 (get_or z.rows a [])))
    → AppendsFront out new (take start page0 ++ written (set_lines (row_then a (places 0 (get_or z.rows a [])) [])))
row_front out begun new page0 page start begin between z a b next flush number front =
    let l = listed (places 0 (get_or z.rows a [])) in
    let s = take start page0 in
    subst (AppendsFront out new) (regroup s (decimal a) l (10 ∷ []) ∙ ap (λ x. s ++ x) (sym (row_is z a b next)))
    (front_more out new (s ++ (decimal a ++ l)) (10 ∷ [])
    (front_left out begun new (take between page) (s ++ (decimal a ++ l)) l
    (ap (λ x. (begun ++ x) ++ l) number.text ∙ apart begun (take begin page0) (decimal a) l ∙ ap (λ x. x ++ (decimal a ++ l)) flush.text ∙ append_assoc out s (decimal a ++ l))
    flush.order front))
  where
    regroup : (s d l f : List ℕ) → (s ++ (d ++ l)) ++ f ≡ s ++ (d ++ l ++ f)
    regroup s d l f = simp append_assoc

    apart : (o p d l : List ℕ) → (o ++ (p ++ d)) ++ l ≡ (o ++ p) ++ (d ++ l)
    apart o p d l = simp append_assoc

rows_next : (n k : ℕ) (rows : List (List Bool)) → k < length rows → rows_from n (drop k rows) ≡ row_then n (places 0 (get_or rows k [])) (rows_from (suc n) (drop (suc k) rows))
rows_next n k [] lt = absurd (omega (arith, lt))
rows_next n zero (r ∷ rows) lt = refl
rows_next n (suc k) (r ∷ rows) lt = rows_next n k rows (omega (arith, lt))

row_apart : (a : ℕ) (ps : List ℕ) (rows : List Row) → written (set_lines (row_then a ps rows)) ≡ written (set_lines (row_then a ps [])) ++ written (set_lines rows)
row_apart a [] rows = refl
row_apart a (b ∷ bs) rows = ap (λ x. x ++ written (set_lines rows)) (sym (append-nil (row_line (record { state = a; partners = b ∷ bs }) ++ 10 ∷ [])))

rows_apart : (k : ℕ) (rows : List (List Bool)) → k < length rows → written (set_lines (rows_from k (drop k rows))) ≡ written (set_lines (row_then k (places 0 (get_or rows k [])) [])) ++ written (set_lines (rows_from (suc k) (drop (suc k) rows)))
rows_apart k rows lt = ap (λ x. written (set_lines x)) (rows_next k k rows lt) ∙ row_apart k (places 0 (get_or rows k [])) (rows_from (suc k) (drop (suc k) rows))

-- one row more
pub rows_more : (before now all : List ℕ) (k : ℕ) (rows : List (List Bool)) → k < length rows
    → now ≡ before ++ written (set_lines (row_then k (places 0 (get_or rows k [])) [])) → before ++ written (set_lines (rows_from k (drop k rows))) ≡ all
    → now ++ written (set_lines (rows_from (k + 1) (drop (k + 1) rows))) ≡ all
rows_more before now all k rows lt row is =
    let more = written (set_lines (rows_from (suc k) (drop (suc k) rows))) in
    ap (λ n. now ++ written (set_lines (rows_from n (drop n rows)))) (add-one k) ∙ ap (λ x. x ++ more) row
    ∙ append_assoc before (written (set_lines (row_then k (places 0 (get_or rows k [])) []))) more ∙ ap (λ x. before ++ x) (sym (rows_apart k rows lt)) ∙ is

-- rows of which one was not written whole
pub rows_front : (old out new page all : List ℕ) (k : ℕ) (rows : List (List Bool)) → k < length rows
    → (out ++ page) ++ written (set_lines (rows_from k (drop k rows))) ≡ old ++ all → length old ≤ length out
    → AppendsFront out new (page ++ written (set_lines (row_then k (places 0 (get_or rows k [])) []))) → AppendsFront old new all
rows_front old out new page all k rows lt is order front =
    let more = written (set_lines (rows_from (suc k) (drop (suc k) rows))) in
    let row = written (set_lines (row_then k (places 0 (get_or rows k [])) [])) in
    front_left old out new page all (row ++ more) (ap (λ x. (out ++ page) ++ x) (sym (rows_apart k rows lt)) ∙ is) order
    (subst (AppendsFront out new) (append_assoc page row more) (front_more out new (page ++ row) more front))
