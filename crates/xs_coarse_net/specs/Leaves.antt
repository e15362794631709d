-- The nets of a grammar's terminals and ignorables.
use Rattle.std.specs.Prelude.{◌≡◌, ℕ, List, slice_get, Some}
use Rattle.xs_gram.specs.Grammar.{Grammar, IsTermWord, IsSkipWord}
use Rattle.xs_coarse.specs.Coarse.{Table, Net}
use Rattle.xs_coarse_net.specs.declared.cover.Leaves.{Leaves}
use Rattle.xs_coarse_net.specs.Going.{Goes}
use Rattle.xs_coarse_net.specs.Stretches.{last_state}

-- each net goes from its first to its last state by each word that is one of its number
abbrev pub AreNetsOf : (ℕ → List ℕ → Type 0) → Table → List Net → Type 0
AreNetsOf IsWord t nets = (i : ℕ) (n : Net) → slice_get nets i ≡ Some n → (w : List ℕ) → IsWord i w → Goes t n 0 w (last_state n)

-- there is such a net for each terminal, and for each ignorable
pub record AreLeaves (g : Grammar) (t : Table) (l : Leaves) : Type 0 where
  pub terms : AreNetsOf (IsTermWord g) t l.terms.items
  pub skips : AreNetsOf (IsSkipWord g) t l.skips.items
