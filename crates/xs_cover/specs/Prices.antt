-- What terminals and nonterminals cost, in tables, and trees that cost no more.
use Rattle.std.specs.Prelude.{◌≡◌, ℕ, ◌+◌, ◌<◌, ◌≤◌, List, [], ◌∷◌, length, Some, slice_set}
use Rattle.xs_gram.specs.declared.parts.GItem.{GItem}
use Rattle.xs_gram.specs.declared.parts.GItem.TheVariants.{Fixed, Term, Non, Skip}
use Rattle.xs_gram.specs.Grammar.{Grammar, rule_of, slots, IsTermWord}
use Rattle.xs_gram.specs.Common.{Common, Kind, of_term, of_non, kinds, lookup, KidFits}
use Rattle.xs_tree.specs.Flat.{tree_at}
use Rattle.xs_cover.specs.declared.prices.Prices.{Prices}
use Rattle.xs_cover.specs.Sizes.{capped, weight}
use Rattle.xs_cover.specs.Costs.{Costs, rule_cost}
use Rattle.xs_cover.specs.Tables.{at}

-- the costs that tables have
abbrev pub costs_in : List ℕ → List ℕ → List ℕ → Costs
costs_in terms nons arounds = record { terms = at terms; nons = at nons; around = at arounds }

abbrev pub costs_of : Prices → Costs
costs_of p = costs_in p.terms.items p.nons.items []

-- no word of a terminal is shorter, once for each side, than the terminal's cost
abbrev pub AreLow : Grammar → List ℕ → Type 0
AreLow g terms = (t : ℕ) (w : List ℕ) → IsTermWord g t w → at terms t ≤ length w + length w

-- tree `number` of the list is of the kind, and weighs no more than the cost, as far as weights count
pub record Stands (g h : Grammar) (trees : List Common) (kind : Kind) (cost number : ℕ) : Type 0 where
  pub there : number < length trees
  pub fits : KidFits g (Some kind) (tree_at trees number)
  pub light : capped (weight g h (tree_at trees number)) ≤ cost

-- which tree is that of a kind: terminals are numbered first
abbrev pub number_for : List ℕ → Kind → ℕ
number_for numbers (of_term t) = t
number_for numbers (of_non n) = at numbers n

-- Each terminal has a tree that weighs what it costs at most, and each nonterminal that costs less
-- than the bound has one.
pub record HaveTrees (g h : Grammar) (trees : List Common) (terms nons numbers : List ℕ) : Type 0 where
  pub terms_counted : length terms ≡ length g.terms
  pub nons_counted : length nons ≡ g.nons
  pub numbers_counted : length numbers ≡ g.nons
  pub low : (n : ℕ) → at nons n ≤ 1000000000
  pub leaves : (t : ℕ) → t < length g.terms → Stands g h trees (of_term t) (at terms t) t
  pub nodes : (n : ℕ) → n < g.nons → at nons n < 1000000000 → Stands g h trees (of_non n) (at nons n) (at numbers n)

-- the rule costs at least as much as its nonterminal
abbrev pub IsClosed : Grammar → Grammar → Prices → ℕ → Type 0
IsClosed g h p rule = at p.nons.items (rule_of g rule).non ≤ rule_cost g h (costs_of p) rule

-- at the slot of each item stands the number for its kind
pub record AreKids (numbers : List ℕ) (is : List GItem) (kids : List ℕ) : Type 0 where
  pub counted : length kids ≡ length (slots is)
  pub each : (s : ℕ) (kind : Kind) → lookup s (kinds is) ≡ Some kind → at kids s ≡ number_for numbers kind

-- the numbers for the items' kinds put at their slots
abbrev pub placed : List ℕ → List ℕ → List GItem → List ℕ
placed numbers kids [] = kids
placed numbers kids (Fixed f ∷ is) = placed numbers kids is
placed numbers kids (Term t s ∷ is) = placed numbers (slice_set kids s t) is
placed numbers kids (Non n s ∷ is) = placed numbers (slice_set kids s (at numbers n)) is
placed numbers kids (Skip k ∷ is) = placed numbers kids is
