-- What the reader's own types mean.
use Rattle.std.specs.Prelude.{⊤, List, map, reverse}
use Rattle.xs_sheet.specs.declared.state.Head.{Head}
use Rattle.xs_sheet.specs.declared.state.Draft.{Draft}
use Rattle.xs_sheet.specs.declared.state.Opened.{Opened}
use Rattle.xs_sheet.specs.declared.state.Inside.{Inside}
use Rattle.xs_sheet.specs.declared.state.Site.{Site}
use Rattle.xs_sheet.specs.declared.state.Site.TheVariants as P
use Rattle.xs_sheet.specs.declared.state.UnitState.{UnitState}
use Rattle.xs_sheet.specs.declared.state.UnitState.TheVariants as U
use Rattle.xs_sheet.specs.declared.state.ItemState.{ItemState}
use Rattle.xs_sheet.specs.declared.state.ItemState.TheVariants as I
use Rattle.xs_sheet.specs.declared.state.TagState.{TagState}
use Rattle.xs_sheet.specs.declared.state.TagState.TheVariants as G
use Rattle.xs_sheet.specs.declared.state.State.{State}
use Rattle.xs_sheet.specs.declared.state.State.TheVariants as S
use Rattle.xs_sheet.specs.declared.state.Transition.{Transition}
use Rattle.xs_sheet.specs.declared.state.Transition.TheVariants as T
use Rattle.xs_sheet.specs.Regular.{IsRegex}
use Rattle.xs_sheet.specs.Outline.{content_of, unit_outline, outline_of}
use Rattle.xs_sheet.specs.Grammar.{HaveRegexes}
use Rattle.xs_sheet.specs.Machine as M

abbrev pub head_view : Head → M.Head
head_view h = record { version = h.version; start = h.start; start_line = h.start_line; units = map unit_outline h.units.items }

abbrev pub draft_view : Draft → M.Draft
draft_view d = record { head = head_view d.head; name = d.name; line = d.line; left = d.left.items }

abbrev pub opened_view : Opened → M.Opened
opened_view o = record { tag = o.tag; attrs = o.attrs.items; outer = content_of o.outer.items }

abbrev pub opens_view : List Opened → List M.Opened
opens_view os = map opened_view (reverse os)

abbrev pub inside_view : Inside → M.Inside
inside_view c = record { draft = draft_view c.draft; opens = opens_view c.opens.items; so_far = content_of c.content.items }

abbrev pub site_view : Site → M.Site
site_view (P.LeftSide d) = M.left_side (head_view d.head) d.name d.line d.left.items
site_view (P.Content c) = M.inside (inside_view c)
site_view (P.Value v) = M.value (inside_view v.tag.inside) v.tag.name v.tag.attrs.items v.name v.items.items

abbrev pub unit_view : UnitState → M.State
unit_view U.Begin = M.begin
unit_view (U.Versioned version) = M.versioned version
unit_view (U.Started version line) = M.started version line
unit_view (U.Units head) = M.units (head_view head)
unit_view (U.Named begun) = M.named (head_view begun.head) begun.terminal begun.line
unit_view (U.Equals begun name) = M.equals (head_view begun.head) begun.terminal begun.line name
unit_view (U.Regular begun name) = M.regular (head_view begun.head) begun.terminal begun.line name
unit_view (U.Normal head line name pattern regex) = M.normal (head_view head) line name pattern
unit_view (U.LeftFence head line) = M.left_fence (head_view head) line
unit_view (U.RightFence head line left) = M.right_fence (head_view head) line left
unit_view (U.Colon head name line) = M.colon (head_view head) name line

abbrev pub item_view : ItemState → M.State
item_view (I.At site) = M.at (site_view site)
item_view (I.Square site) = M.square (site_view site)
item_view (I.SquareName site name) = M.square_name (site_view site) name
item_view (I.SquareSlot site name slot) = M.square_slot (site_view site) name slot

abbrev pub tag_view : TagState → M.State
tag_view (G.Angle c) = M.angle (inside_view c)
tag_view (G.Attrs t) = M.attrs (inside_view t.inside) t.name t.attrs.items
tag_view (G.AttrEquals t name) = M.attr_equals (inside_view t.inside) t.name t.attrs.items name
tag_view (G.Closing c o) = M.closing (draft_view c.draft) (opened_view o) (opens_view c.opens.items) (content_of c.content.items)
tag_view (G.Closed c o) = M.closed (draft_view c.draft) (opened_view o) (opens_view c.opens.items) (content_of c.content.items)

abbrev pub state_view : State → M.State
state_view (S.Unit s) = unit_view s
state_view (S.Item s) = item_view s
state_view (S.Tag s) = tag_view s

abbrev pub transition_view : Transition → M.Transition
transition_view (T.Go s) = M.go (state_view s)
transition_view (T.Finish s) = M.finish (outline_of s)
transition_view T.Refuse = M.refuse

-- the regular expressions so far are those of their patterns
abbrev pub SiteHasRegexes : Site → Type 0
SiteHasRegexes (P.LeftSide d) = HaveRegexes d.head.units.items
SiteHasRegexes (P.Content c) = HaveRegexes c.draft.head.units.items
SiteHasRegexes (P.Value v) = HaveRegexes v.tag.inside.draft.head.units.items

abbrev pub UnitHasRegexes : UnitState → Type 0
UnitHasRegexes U.Begin = ⊤
UnitHasRegexes (U.Versioned version) = ⊤
UnitHasRegexes (U.Started version line) = ⊤
UnitHasRegexes (U.Units head) = HaveRegexes head.units.items
UnitHasRegexes (U.Named begun) = HaveRegexes begun.head.units.items
UnitHasRegexes (U.Equals begun name) = HaveRegexes begun.head.units.items
UnitHasRegexes (U.Regular begun name) = HaveRegexes begun.head.units.items
UnitHasRegexes (U.Normal head line name pattern regex) = HaveRegexes head.units.items × IsRegex pattern regex
UnitHasRegexes (U.LeftFence head line) = HaveRegexes head.units.items
UnitHasRegexes (U.RightFence head line left) = HaveRegexes head.units.items
UnitHasRegexes (U.Colon head name line) = HaveRegexes head.units.items

abbrev pub ItemHasRegexes : ItemState → Type 0
ItemHasRegexes (I.At site) = SiteHasRegexes site
ItemHasRegexes (I.Square site) = SiteHasRegexes site
ItemHasRegexes (I.SquareName site name) = SiteHasRegexes site
ItemHasRegexes (I.SquareSlot site name slot) = SiteHasRegexes site

abbrev pub TagHasRegexes : TagState → Type 0
TagHasRegexes (G.Angle c) = HaveRegexes c.draft.head.units.items
TagHasRegexes (G.Attrs t) = HaveRegexes t.inside.draft.head.units.items
TagHasRegexes (G.AttrEquals t name) = HaveRegexes t.inside.draft.head.units.items
TagHasRegexes (G.Closing c o) = HaveRegexes c.draft.head.units.items
TagHasRegexes (G.Closed c o) = HaveRegexes c.draft.head.units.items

abbrev pub StateHasRegexes : State → Type 0
StateHasRegexes (S.Unit s) = UnitHasRegexes s
StateHasRegexes (S.Item s) = ItemHasRegexes s
StateHasRegexes (S.Tag s) = TagHasRegexes s

abbrev pub TransitionHasRegexes : Transition → Type 0
TransitionHasRegexes (T.Go s) = StateHasRegexes s
TransitionHasRegexes (T.Finish s) = HaveRegexes s.units
TransitionHasRegexes T.Refuse = ⊤
