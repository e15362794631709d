-- What is computed once of a grammar for the nets of its stretches.
use Rattle.std.specs.Prelude.{◌≡◌, ℕ, ◌<◌, List, length, slice_index_or}
use Rattle.xs_gram.specs.Grammar.{Grammar}
use Rattle.xs_check_laws.specs.Weights.{Members}
use Rattle.xs_loose.specs.declared.tables.Tables.{Tables}
use Rattle.xs_loose.specs.Components.{AreComponentsOf}
use Rattle.xs_loose.specs.Groups.{groups_before}
use Rattle.xs_loose.specs.Weighing.{AreWeights}

-- for each nonterminal before the end how many members of its component are below it
pub record AreRanks (g : Grammar) (end : ℕ) (ranks : List ℕ) : Type 0 where
  pub counted : length ranks ≡ end
  pub each : (n : ℕ) → n < end → Members g n n (slice_index_or ranks n 0)

-- for each rule before the end how many groups the rules before it have
pub record AreNumbersBefore (g : Grammar) (end : ℕ) (groups : List ℕ) : Type 0 where
  pub counted : length groups ≡ end
  pub each : (p : ℕ) → p < end → slice_index_or groups p 0 ≡ groups_before g p

-- the tables of the grammar
pub record AreTables (g : Grammar) (comps : List ℕ) (tables : Tables) : Type 0 where
  pub weights : AreWeights g tables.weights
  pub ranks : AreRanks g g.nons tables.ranks
  pub lists : AreComponentsOf g comps tables.lists
  pub groups : AreNumbersBefore g (length g.rules) tables.groups
