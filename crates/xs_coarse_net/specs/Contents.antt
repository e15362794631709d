-- The covers of the insides of a grammar's groups.
use Rattle.std.specs.Prelude.{ℕ, ◌<◌, List, length, map}
use Rattle.xs_auto.specs.Nests.{Group}
use Rattle.xs_gram.specs.declared.parts.GItem.{GItem}
use Rattle.xs_gram.specs.Grammar.{Grammar}
use Rattle.xs_gram.specs.Fences.{spread, GroupAt}
use Rattle.xs_loose.specs.Nesting.{HasGroupsBefore}
use Rattle.xs_coarse.specs.Coarse.{Table}
use Rattle.xs_coarse.specs.Covers.{CoversGroup, IsUnfencedNet}
use Rattle.xs_coarse_net.specs.declared.cover.Content.{Content}
use Rattle.xs_coarse_net.specs.Covers.{cover_view}

-- the group of a content
abbrev pub group_of : Table → Content → Group
group_of t c = record { left = c.left; right = c.right; content = cover_view t c.cover }

-- the nest of contents
abbrev pub nest_of : Table → List Content → List Group
nest_of t contents = map (group_of t) contents

-- the group whose left fence is spread item k of rule p
pub record IsContentOf (g : Grammar) (p k : ℕ) (group : Group) : Type 0 where
  pub rule : p < length g.rules
  pub inside : List GItem
  pub partner : ℕ
  pub at : GroupAt g.fences (spread g p) k partner group.left inside group.right
  pub covers : CoversGroup g p k partner group.left inside group.right group
  pub plain : IsUnfencedNet g group.content

-- the nest has the groups before spread item k of rule p, each under its number with its content, and
-- no others
abbrev pub HasContentsBefore : Grammar → ℕ → ℕ → List Group → Type 0
HasContentsBefore g p k nest = HasGroupsBefore (IsContentOf g) g p k nest
