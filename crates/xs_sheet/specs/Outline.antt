-- The outline of a sheet: its parts without the regular expressions, and content as one tree.
use Rattle.std.specs.Prelude.{ℕ, List, [], ◌∷◌, map}
use Rattle.xs_sheet.specs.declared.item.Item.{Item}
use Rattle.xs_sheet.specs.declared.x_item.Attr.{Attr}
use Rattle.xs_sheet.specs.declared.x_item.XItem.{XItem}
use Rattle.xs_sheet.specs.declared.x_item.XItem.TheOpen as O
use Rattle.xs_sheet.specs.declared.x_item.XItem.TheOpen.{XItem-F}
use Rattle.xs_sheet.specs.declared.x_item.XItem.TheFolds.{fold-XItem}
use Rattle.xs_sheet.specs.declared.unit.Unit.{Unit}
use Rattle.xs_sheet.specs.declared.unit.Unit.TheVariants.{Terminal, Ignorable, Production, Fence}
use Rattle.xs_sheet.specs.declared.sheet.Sheet.{Sheet}

-- the items of an XML side, the last one outermost; an element has its tag, its attributes and its content
pub data Content : Type 0 where
  nothing : Content
  item : Content → Item → Content
  element : Content → List ℕ → List Attr → Content → Content

-- items one after another, after some content
abbrev pub laid : Content → List (Content → Content) → Content
laid before [] = before
laid before (f ∷ fs) = laid (f before) fs

abbrev pub item_step : XItem-F (Content → Content) → Content → Content
item_step (O.Plain i) before = item before i
item_step (O.Element tag attrs content) before = element before tag attrs (laid nothing content)

-- content with one more item
unfoldable pub with_item : XItem → Content → Content
with_item = fold-XItem (Content → Content) item_step

-- these items as content
abbrev pub content_of : List XItem → Content
content_of xs = laid nothing (map with_item xs)

pub data UnitOutline : Type 0 where
  terminal : List ℕ → List ℕ → ℕ → UnitOutline
  ignorable : List ℕ → List ℕ → List ℕ → ℕ → UnitOutline
  production : List ℕ → List Item → Content → ℕ → UnitOutline
  fence : List ℕ → List ℕ → ℕ → UnitOutline

-- a terminal has its name, pattern and line; an ignorable also its normal spelling; a production its name, sides and
-- line; a fence its two texts and line
abbrev pub unit_outline : Unit → UnitOutline
unit_outline (Terminal name pattern regex line) = terminal name pattern line
unit_outline (Ignorable name pattern regex normal line) = ignorable name pattern normal line
unit_outline (Production name left right line) = production name left (content_of right) line
unit_outline (Fence left right line) = fence left right line

pub record Outline : Type 0 where
  pub version : ℕ
  pub start : List ℕ
  pub start_line : ℕ
  pub units : List UnitOutline

abbrev pub outline_of : Sheet → Outline
outline_of s = record { version = s.version; start = s.start; start_line = s.start_line; units = map unit_outline s.units }
