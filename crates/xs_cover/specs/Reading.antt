-- Trees that are read from the rows of a forest.
use Rattle.std.specs.Prelude.{◌≡◌, ℕ, ◌<◌, List}
use Rattle.xs_forest.specs.Rows.{Rows, HasLabel}
use Rattle.xs_gram.specs.Grammar.{Grammar}
use Rattle.xs_gram.specs.Common.{Common}
use Rattle.xs_cover.specs.declared.pick.Pick.{Pick}
use Rattle.xs_cover.specs.declared.pick.Pick.TheVariants.{Whole}
use Rattle.xs_cover.specs.Prices.{HaveTrees}
use Rattle.xs_cover.specs.Tables.{at}

-- the trees of the nonterminals whose rows stand before a place cost what the table says
pub record IsReadTo (g h : Grammar) (terms nons : List ℕ) (rows : Rows Pick) (trees : List Common) (numbers : List ℕ) (place : ℕ) : Type 0 where
  pub costs : List ℕ
  pub have : HaveTrees g h trees terms costs numbers
  pub before : (n : ℕ) → n < g.nons → at costs n < 1000000000 → (k : ℕ) × (k < place) × HasLabel rows k (Whole n)
  pub same : (k n : ℕ) → k < place → HasLabel rows k (Whole n) → at costs n ≡ at nons n
