-- How the items of a stretch, or of a rule in its component, are laid one after another.
use Rattle.std.specs.Prelude.{◌≡◌, ℕ, ◌+◌, ◌*◌, ◌<◌, ◌≤◌, List, ◌++◌, Option, None, Some}
use Rattle.std.specs.List.{Contains}
use Rattle.xs_auto.specs.Nets.{Graph, states}
use Rattle.xs_gram.specs.declared.parts.GItem.{GItem}
use Rattle.xs_gram.specs.Grammar.{Grammar}
use Rattle.xs_gram.specs.Building.{NamesAreThere}
use Rattle.xs_check_laws.specs.Weights.{Members}
use Rattle.xs_loose.specs.declared.site.Home.{Home}
use Rattle.xs_loose.specs.declared.site.Spot.{Spot}
use Rattle.xs_loose.specs.declared.site.Next.{Next}
use Rattle.xs_loose.specs.declared.site.Task.{Task}
use Rattle.xs_loose.specs.Arcs.{Arc}
use Rattle.xs_loose.specs.Laying.{LaysItem, LaysBody, LaysPart}
use Rattle.xs_loose.specs.Steps.{IsPiece}
use Rattle.xs_loose.specs.Work.{IsDone}

-- what items name is there
abbrev pub AreNamed : Grammar → List GItem → Type 0
AreNamed g is = (i : GItem) → Contains is i → NamesAreThere g i

-- items of rule p from item k on are laid, those of a stretch where no home is given, or those of a
-- rule in the component of the home
abbrev pub Lays : Grammar → Option Home → ℕ → ℕ → List GItem → Spot → List Arc → ℕ → ℕ → Type 0
Lays g None p k is s arcs after next = LaysPart g p k is s.before s.at arcs after next
Lays g (Some h) p k is s arcs after next = LaysBody g h.non h.first p k is s.before s.at arcs after next

-- the entries and the exits of the home's members are states below the bound
abbrev pub IsHome : Grammar → ℕ → Option Home → Type 0
IsHome g bound None = Unit {0}
IsHome g bound (Some h) = (h.non < g.nons) × (count : ℕ) × Members g h.non g.nons count × (h.first + 2 * count ≤ bound)

-- the item can be laid at the spot, by states below the bound
pub record HasItemRoom (g : Grammar) (bound : ℕ) (i : GItem) (s : Spot) : Type 0 where
  pub arcs : List Arc
  pub after : ℕ
  pub next : ℕ
  pub lays : LaysItem g i s.before s.at arcs after next
  pub within : next ≤ bound

-- and the items
pub record HasRoom (g : Grammar) (bound : ℕ) (home : Option Home) (p k : ℕ) (is : List GItem) (s : Spot) : Type 0 where
  pub arcs : List Arc
  pub after : ℕ
  pub next : ℕ
  pub lays : Lays g home p k is s arcs after next
  pub within : next ≤ bound

-- the item was laid, and this is the spot after it
pub record IsItemLaid (g : Grammar) (weights : List ℕ) (i : GItem) (s : Spot) (old : Graph) (olds : List Task) (new : Graph) (news : List Task) (t : Spot) : Type 0 where
  pub arcs : List Arc
  pub lays : LaysItem g i s.before s.at arcs t.before t.at
  pub low : t.before < states old
  pub done : IsDone g weights arcs s.at t.at old olds new news

-- of items the first ones were laid, and the others are still to be
pub record IsOnward (g : Grammar) (weights : List ℕ) (home : Option Home) (p : ℕ) (later : List GItem) (s : Spot) (all : List Arc) (after end : ℕ) (old : Graph) (olds : List Task) (new : Graph) (news : List Task) (k : ℕ) (t : Spot) : Type 0 where
  pub own : List Arc
  pub rest : List Arc
  pub split : all ≡ own ++ rest
  pub lays : Lays g home p k later t rest after end
  pub done : IsDone g weights own s.at t.at old olds new news

-- the outer item or the group with which the items begin was laid
pub record IsStepped (g : Grammar) (weights : List ℕ) (home : Option Home) (p k : ℕ) (items : List GItem) (s : Spot) (all : List Arc) (after end : ℕ) (old : Graph) (olds : List Task) (new : Graph) (news : List Task) (t : Next) : Type 0 where
  pub piece : List GItem
  pub later : List GItem
  pub is : IsPiece g k items t.place piece later
  pub onward : IsOnward g weights home p later s all after end old olds new news t.place t.spot

-- all items were laid
pub record AreAllLaid (g : Grammar) (weights : List ℕ) (home : Option Home) (p k : ℕ) (items : List GItem) (s : Spot) (old : Graph) (olds : List Task) (new : Graph) (news : List Task) (t : Spot) : Type 0 where
  pub arcs : List Arc
  pub lays : Lays g home p k items s arcs t.before t.at
  pub low : t.before < states old
  pub done : IsDone g weights arcs s.at t.at old olds new news
