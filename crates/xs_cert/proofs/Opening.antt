-- Lines that are no rows, and that what follows a block begins with one.
use Rattle.std.proofs.Common.{◌≡◌, inl, inr, ℕ, suc, ◌<◌, Bool, true, false, List, [], ◌∷◌, ◌++◌, length, take, refl, sym, ap, subst, ◌∙◌, arith, append_assoc, append-nil, codes, zero, nat_eq, ◌&&◌}
use Rattle.std.proofs.lemmas.List.{append_cancel_left, map-append}
use Rattle.xs_auto.specs.Nests.{Group}
use Rattle.xs_gram.specs.Grammar.{Grammar}
use Rattle.xs_closed.specs.Rows.{Row}
use Rattle.xs_cert_lines.specs.Lines.{Lines, row_line, set_lines, ended, written}
use Rattle.xs_cert_lines.specs.Numbers.{begins_digit}
use Rattle.xs_cert_lines.specs.Laws.{IsLine}
use Rattle.xs_cert_laws.specs.Blocks.{Head, for_groups, for_rules, for_cut, Block, head, head_line, block_lines}
use Rattle.xs_cert.specs.Ways.{BlockWays, ends_here, block_then, goes_past, Tail, at_end, at_xml, TailWays}
use Rattle.xs_cert_lines.proofs.Feeds.{lines_once, spaced_line, sets_lines, rows_begin}
use Rattle.xs_cert.proofs.Standing.{joined}

-- whether the line begins as those of groups that share do
abbrev pub begins_share : List ℕ → Bool
begins_share [] = false
begins_share (a ∷ []) = false
begins_share (a ∷ b ∷ cs) = nat_eq a 115 && nat_eq b 104

-- the line has no line feed inside, does not begin with a digit, and is not of groups that share
pub record IsTitle (l : List ℕ) : Type 0 where
  pub line : IsLine l
  pub word : begins_digit l ≡ false
  pub other : begins_share l ≡ false

head_same : {a b : List ℕ} {xs ys : Lines} → a ∷ xs ≡ b ∷ ys → a ≡ b
head_same e = cc

-- two lines that stand at one place are the same, and so is what follows them
pub first_line : (a b x y : List ℕ) → IsLine a → IsLine b → ended a ++ x ≡ ended b ++ y → (a ≡ b) × (x ≡ y)
first_line a b x y la lb e =
    let o = lines_once (a ∷ []) (b ∷ []) x y (la, tt) (lb, tt) refl (ap (λ (z : List ℕ). z ++ x) (append-nil (ended a)) ∙ e ∙ ap (λ (z : List ℕ). z ++ y) (sym (append-nil (ended b)))) in
    (head_same o.0, o.1)

pub true_false : true ≡ false → ⊥
true_false e = cc

-- no row stands where a line does that does not begin with a digit
pub no_row : (r : Row) (l x y : List ℕ) → IsLine l → begins_digit l ≡ false → ended (row_line r) ++ x ≡ ended l ++ y → ⊥
no_row r l x y line word e =
    let o = first_line (row_line r) l x y (sets_lines (r ∷ [])).0 line e in
    true_false (sym (rows_begin r) ∙ ap begins_digit o.0 ∙ word)

pub head_title : (h : Head) → IsTitle (head_line h)
head_title (for_groups h k) = record { line = spaced_line (codes "group") (h ∷ k ∷ []) refl; word = refl; other = refl }
head_title (for_rules p q) = record { line = spaced_line (codes "rules") (p ∷ q ∷ []) refl; word = refl; other = refl }
head_title (for_cut p c) = record { line = spaced_line (codes "cut") (p ∷ c ∷ []) refl; word = refl; other = refl }

-- the lines begin with a title, or there are none and they count nothing
abbrev pub Open : Lines → ℕ → Type 0
Open [] j = j ≡ 0
Open (l ∷ ls) j = IsTitle l

open_as : (ls ks : Lines) (j : ℕ) → ls ≡ ks → Open ks j → Open ls j
open_as ls ks j e o = subst (λ (z : Lines). Open z j) (sym e) o

tail_open : (tail : Tail) (ls : Lines) (rest : List ℕ) (j : ℕ) → TailWays tail ls rest j → Open ls j
tail_open at_end ls rest j w = open_as ls (codes "end" ∷ []) j w.0 (record { line = refl; word = refl; other = refl })
tail_open (at_xml g) ls rest j (inl w) = open_as ls [] j w.0 w.1
tail_open (at_xml g) ls rest j (inr w) = open_as ls (codes "side xml" ∷ w.later) j w.is (record { line = refl; word = refl; other = refl })

block_open : (b : Block) (ls : Lines) (j : ℕ) → Open (block_lines b ++ ls) j
block_open b ls j = head_title (head b)

pub ways_open : {g : Grammar} {nest : List Group} {R : ℕ → ℕ → Type 0} (tail : Tail) {hs : List Head} {ls : Lines} {rest : List ℕ} {j : ℕ} → BlockWays g nest R (TailWays tail) hs ls rest j → Open ls j
ways_open tail ends_here = refl
ways_open tail {ls = ls} {j = j} (block_then {ls = later} b right is way e n) = open_as ls (block_lines b ++ later) j e (block_open b later j)
ways_open tail {ls = ls} {rest = rest} {j = j} (goes_past t) = tail_open tail ls rest j t

-- one of a list, with those before and after it
pub split_at : {A : Type 0} (n : ℕ) (xs : List A) → n < length xs → (x : A) × (later : List A) × (xs ≡ take n xs ++ x ∷ later)
split_at n [] h = absurd (omega arith)
split_at zero (x ∷ xs) h = (x, xs, refl)
split_at (suc n) (x ∷ xs) h = let s = split_at n xs (omega arith) in (s.0, s.1, ap (λ (ys : List _). x ∷ ys) s.2)

-- where more rows stand, no such line comes after fewer
pub no_line : (all z : List Row) (l : List ℕ) (ls : Lines) (x y : List ℕ) → z ≡ take (length z) all → length z < length all → IsLine l → begins_digit l ≡ false
    → written (set_lines all) ++ x ≡ written (set_lines z ++ l ∷ ls) ++ y → ⊥
no_line all z l ls x y e lt line word same =
    let s = split_at (length z) all lt in
    let whole : all ≡ z ++ s.0 ∷ s.1 = s.2 ∙ ap (λ (rs : List Row). rs ++ s.0 ∷ s.1) (sym e) in
    let parted : written (set_lines all) ++ x ≡ written (set_lines z) ++ (written (row_line s.0 ∷ set_lines s.1) ++ x) = ap (λ (rs : List Row). written (set_lines rs) ++ x) whole ∙ ap (λ (ks : Lines). written ks ++ x) (map-append row_line z (s.0 ∷ s.1)) ∙ joined (set_lines z) (row_line s.0 ∷ set_lines s.1) x in
    let after : written (row_line s.0 ∷ set_lines s.1) ++ x ≡ written (l ∷ ls) ++ y = append_cancel_left (written (set_lines z)) _ _ (sym parted ∙ same ∙ joined (set_lines z) (l ∷ ls) y) in
    no_row s.0 l (written (set_lines s.1) ++ x) (written ls ++ y) line word (sym (append_assoc (ended (row_line s.0)) (written (set_lines s.1)) x) ∙ after ∙ append_assoc (ended l) (written ls) y)

-- nor anything
pub no_more : (all z : List Row) (ls : Lines) (j : ℕ) (x y : List ℕ) → z ≡ take (length z) all → length z < length all → Open ls j
    → written (set_lines all) ++ x ≡ written (set_lines z ++ ls) ++ y → (ls ≡ []) × (j ≡ 0)
no_more all z [] j x y e lt o same = (refl, o)
no_more all z (l ∷ ls) j x y e lt o same = absurd (no_line all z l ls x y e lt o.line o.word same)
