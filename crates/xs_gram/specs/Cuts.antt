-- Cuts of level stretches: how the group round a cut is found, and that each cut has one front and
-- one rest.
use Rattle.std.specs.Prelude.{◌≡◌, ℕ, ◌<◌, ◌≤◌, List, length, None, Some, slice_index_or}
use Rattle.std.specs.List.{slice_range}
use Rattle.std.specs.declared.option.Option.{Option}
use Rattle.xs_gram.specs.declared.parts.GItem.{GItem}
use Rattle.xs_gram.specs.Grammar.{Grammar}
use Rattle.xs_gram.specs.Fences.{spread, IsLevel, IsCut}
use Rattle.xs_gram.specs.Sound.{IsProper}

-- a left fence stands at item k, and its partner at item c or later
pub record ReachesTo (partners : List (Option ℕ)) (c k : ℕ) : Type 0 where
  pub partner : ℕ
  pub is : slice_index_or partners k None ≡ Some partner
  pub far : c ≤ partner

-- the last left fence before c whose partner stands at c or later is item k, its partner item m
pub record IsRound (partners : List (Option ℕ)) (c k m : ℕ) : Type 0 where
  pub before : k < c
  pub is : slice_index_or partners k None ≡ Some m
  pub far : c ≤ m
  pub last : (j : ℕ) → k < j → j < c → ¬ ReachesTo partners c j

-- before c there is no left fence whose partner stands at c or later
abbrev pub HasNoRound : List (Option ℕ) → ℕ → Type 0
HasNoRound partners c = (j : ℕ) → j < c → ¬ ReachesTo partners c j

-- The cut at c of the stretch: its front goes from item start up to c, its rest from c up to item
-- end.
pub record CutsAt (fs : List (ℕ × ℕ)) (is : List GItem) (c start end : ℕ) : Type 0 where
  pub low : start ≤ c
  pub middle : c ≤ end
  pub high : end ≤ length is
  pub cut : IsCut fs is c (slice_range is start c) (slice_range is c end)

-- a cut at c has one front and one rest; both are level, and stand in the stretch before and after c
pub record HasOneCut (fs : List (ℕ × ℕ)) (is : List GItem) (c : ℕ) : Type 0 where
  pub start : ℕ
  pub end : ℕ
  pub at : CutsAt fs is c start end
  pub front_level : IsLevel fs (slice_range is start c)
  pub rest_level : IsLevel fs (slice_range is c end)
  pub only : (front rest : List GItem) → IsCut fs is c front rest → (front ≡ slice_range is start c) × (rest ≡ slice_range is c end)

-- each cut of a rule's spread items has one front and one rest
abbrev pub CutsAreOne : Type 0
CutsAreOne = (g : Grammar) → IsProper g → (p c : ℕ) → c ≤ length (spread g p) → HasOneCut g.fences (spread g p) c
