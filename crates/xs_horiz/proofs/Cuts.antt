-- The first cut of the first rule that has one with an overlap is the first horizontal suspect.
use Rattle.std.proofs.Common.{ℕ, ◌≤◌, length, sym, subst, arith}
use Rattle.xs_gram.specs.Grammar.{Grammar}
use Rattle.xs_gram.specs.Fences.{spread}
use Rattle.xs_check_laws.specs.Freedom.{HasNoHorizontal}
use Rattle.xs_check_laws.specs.Acceptance.{ShowsHorizontal}
use Rattle.xs_searches.specs.First.{HasNoneInRow, HasNoneInRows}
use Rattle.xs_searches.specs.Searching.{OverlapsAt}
use Rattle.xs_searches.proofs.First.{none_before}
use Rattle.xs_horiz.specs.declared.search.Horiz.{Horiz}
use Rattle.xs_horiz.specs.Cuts.{HasNoCut, IsFirstCut}

pub first_shows : (g : Grammar) (p : ℕ) (h : Horiz) → HasNoneInRows (OverlapsAt g) p → IsFirstCut g p h → ShowsHorizontal g h.rule h.cut h.x h.a h.y
first_shows g p h rows first =
    let before : HasNoneInRows (OverlapsAt g) h.rule = subst (λ (k : ℕ). HasNoneInRows (OverlapsAt g) k) (sym first.rule) rows in
    (record { front = h.x; middle = h.a; rest = h.y; is = first.is; none_before = λ r d x a y i b. none_before (OverlapsAt g) h.rule h.cut before first.none_before r d (x, a, y, i) b }, first.is)

pub none_in_all : (g : Grammar) (n : ℕ) → length g.rules ≤ n → HasNoneInRows (OverlapsAt g) n → HasNoHorizontal g
none_in_all g n all rows p c x a y h = rows p (omega (arith, h.rule)) c (x, a, y, h)

pub none_in_row : (g : Grammar) (p n : ℕ) → length (spread g p) ≤ n → HasNoneInRow (OverlapsAt g) p n → HasNoCut g p
none_in_row g p n all row c h = row c (omega (arith, h.3.high)) h
