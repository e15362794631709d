-- What the covers of a grammar are.
use Rattle.std.specs.Prelude.{◌<◌}
use Rattle.std.specs.List.{All}
use Rattle.xs_auto.specs.Nets.{Graph}
use Rattle.xs_gram.specs.Grammar.{Grammar}
use Rattle.xs_loose.specs.declared.part.Part.{Part}
use Rattle.xs_loose.specs.Parts.{part_items}
use Rattle.xs_coarse.specs.Coarse.{Table, view}
use Rattle.xs_coarse.specs.Covers.{CoversPart, CoversCut}
use Rattle.xs_coarse_net.specs.declared.cover.Cover.{Cover}

-- the net of a cover, from state 0 to its last state
abbrev pub cover_view : Table → Cover → Graph
cover_view t c = view t c.net 0 c.last

-- The net covers the part, up to one of its states, and so do its halves to and from each of the places
-- that are told.
pub record IsCoverOf (g : Grammar) (t : Table) (part : Part) (c : Cover) : Type 0 where
  pub last : c.last < c.net.states
  pub covers : CoversPart g (cover_view t c) part.rule part.start (part_items g part) 0 c.last
  pub cuts : All (λ o. CoversCut g (cover_view t c) part.rule part.start o.place part.end o.state c.last) c.places.items
