-- The law of trees that fit.
use Rattle.std.specs.Prelude.{ℕ}
use Rattle.xs_gram.specs.Grammar.{Grammar}
use Rattle.xs_gram.specs.Derivations.{Derivation, Fits}
use Rattle.xs_gram.specs.Common.{TreeFits, strip}
use Rattle.xs_gram.specs.Laws.{HasNumberedSlots}

-- the tree of a derivation of a nonterminal is a tree of that nonterminal
abbrev pub StrippedFits : Type 0
StrippedFits = (g : Grammar) (non : ℕ) (d : Derivation) → HasNumberedSlots g → Fits g non d → TreeFits g non (strip g d)
