-- Nets that are joined.
use Rattle.std.specs.Prelude.{◌≡◌, ℕ, ◌<◌, List, slice_get, Some}
use Rattle.std.specs.declared.option.Option.{Option}
use Rattle.std.specs.List.{All}
use Rattle.xs_gram.specs.Grammar.{Grammar}
use Rattle.xs_coarse.specs.Coarse.{Table, Net, IsWithin, joined}
use Rattle.xs_coarse.specs.Covers.{CoversNon}
use Rattle.xs_coarse_net.specs.Stretches.{open_view, last_state}

-- the new net is the old one joined with another
pub record Joins (old other new : Net) : Type 0 where
  pub is : new ≡ joined old other
  pub some : 0 < old.states
  pub more : 0 < other.states
  pub within : All (IsWithin new.states) new.arcs

-- the net goes from its first to its last state by each word of a nonterminal
abbrev pub IsFragment : Grammar → Table → ℕ → Net → Type 0
IsFragment g t non n = CoversNon g (open_view t n) non 0 (last_state n)

-- so does each that is kept, under the number of its nonterminal
abbrev pub AreFragments : Grammar → Table → List (Option Net) → Type 0
AreFragments g t kept = (non : ℕ) (n : Net) → slice_get kept non ≡ Some (Some n) → IsFragment g t non n
