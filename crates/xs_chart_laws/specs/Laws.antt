-- Laws of chart items.
use Rattle.std.specs.Prelude.{◌≡◌, ◌↔◌, ℕ, suc, ◌≤◌, List, length, take}
use Rattle.xs_chart.specs.declared.item.Item.{Item}
use Rattle.xs_chart.specs.Different.{AreDifferent}
use Rattle.xs_gram.specs.declared.places.Place.{Place}
use Rattle.xs_gram.specs.Grammar.{Grammar}
use Rattle.xs_gram.specs.Sound.{IsBuilt, IsSound}
use Rattle.xs_gram.specs.Languages.{InLang, IsFront, IsViable}
use Rattle.xs_gram.specs.Chart.{Stands}
use Rattle.xs_chart_laws.specs.Closed.{IsClosed, IsClosedBy, AllStand, HasAllThatStand, IsWhole, IsReached, IsFarthest}
use Rattle.xs_chart_laws.specs.Charts.{HasPlace, set_at, AllItemsStand, IsChartOf}

-- sets that are closed have all that stands
abbrev pub ClosedIsComplete : Type 0
ClosedIsComplete = (g : Grammar) (w : List ℕ) (sets : List (List Item)) → IsBuilt g → IsClosed g w (HasPlace g sets) → HasAllThatStand g w (HasPlace g sets)

-- what stands is closed
abbrev pub StandingIsClosed : Type 0
StandingIsClosed = (g : Grammar) (w : List ℕ) → IsBuilt g → IsClosed g w (λ j c i. Stands g w c i j)

-- what a recogniser does closes the sets, where all in them stands
abbrev pub RecogniserCloses : Type 0
RecogniserCloses = (g : Grammar) (w : List ℕ) (sets : List (List Item)) → AllStand g w (HasPlace g sets) → IsClosedBy g w (HasPlace g sets) → IsClosed g w (HasPlace g sets)

-- sets that are closed and of which all stands, one set more than the document has symbols and none
-- with an item twice, are its chart
abbrev pub ClosedIsChart : Type 0
ClosedIsChart = (g : Grammar) (w : List ℕ) (sets : List (List Item)) → IsBuilt g → length sets ≡ suc (length w) → AllItemsStand g w sets → ((j : ℕ) → AreDifferent (set_at sets j)) → IsClosed g w (HasPlace g sets) → IsChartOf g w sets

-- a chart has what stands, by places
abbrev pub ChartHasStanding : Type 0
ChartHasStanding = (g : Grammar) (w : List ℕ) (sets : List (List Item)) → IsChartOf g w sets → (c : Place) (i j : ℕ) → HasPlace g sets j c i ↔ Stands g w c i j

-- the document is of the language exactly where a whole rule of the start is read over it
abbrev pub WholeIsInLanguage : Type 0
WholeIsInLanguage = (g : Grammar) (w : List ℕ) (sets : List (List Item)) → IsChartOf g w sets → InLang g w ↔ IsWhole g w (HasPlace g sets)

-- its first k symbols begin a word of the language exactly where it is read up to place k
abbrev pub ReachedIsFront : Type 0
ReachedIsFront = (g : Grammar) (w : List ℕ) (sets : List (List Item)) → IsSound g → IsChartOf g w sets → (k : ℕ) → k ≤ length w → IsFront g (take k w) ↔ IsReached g w (HasPlace g sets) k

-- the last place up to which it is read is the length of its longest viable prefix
abbrev pub FarthestIsViable : Type 0
FarthestIsViable = (g : Grammar) (w : List ℕ) (sets : List (List Item)) → IsSound g → IsChartOf g w sets → (k : ℕ) → IsViable g w k ↔ IsFarthest g w (HasPlace g sets) k
