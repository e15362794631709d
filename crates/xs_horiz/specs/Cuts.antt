-- Cuts of rules at which front and rest overlap.
use Rattle.std.specs.Prelude.{◌≡◌, ℕ}
use Rattle.xs_gram.specs.Grammar.{Grammar}
use Rattle.xs_gram.specs.Suspects.{IsHorizontal}
use Rattle.xs_searches.specs.First.{HasNoneInRow}
use Rattle.xs_searches.specs.Searching.{OverlapsAt}
use Rattle.xs_horiz.specs.declared.search.Horiz.{Horiz}

-- none do at any cut of rule p
abbrev pub HasNoCut : Grammar → ℕ → Type 0
HasNoCut g p = (c : ℕ) → OverlapsAt g p c → ⊥

-- rule p and the first cut at which words overlap, with such words
pub record IsFirstCut (g : Grammar) (p : ℕ) (h : Horiz) : Type 0 where
  pub rule : h.rule ≡ p
  pub is : IsHorizontal g h.rule h.cut h.x h.a h.y
  pub none_before : HasNoneInRow (OverlapsAt g) h.rule h.cut
