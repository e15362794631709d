-- What makes the rules on the two grammars of a sheet fail.
use Rattle.std.specs.Prelude.{◌≡◌, ◌⊎◌, ⊤, ℕ, ◌<◌, ◌≤◌, List, None, Some, slice_get}
use Rattle.std.specs.declared.option.Option.{Option}
use Rattle.xs_sheet.specs.declared.sheet.Sheet.{Sheet}
use Rattle.xs_gram.specs.Grammar.{Grammar, IsRuleOf}
use Rattle.xs_gram.specs.Sound.{IsProductive, DerivesItself}
use Rattle.xs_pair.specs.Grammars.{Pair, IsPairOf}
use Rattle.xs_pair.specs.Verdict.{IsFirstLine}

-- the nonterminal derives no word on one of the sides
abbrev pub IsUnproductive : Pair → ℕ → Type 0
IsUnproductive p n = (IsProductive p.text n → ⊥) ⊎ (IsProductive p.xml n → ⊥)

-- the nonterminal derives itself alone on one of the sides
abbrev pub IsLooping : Pair → ℕ → Type 0
IsLooping p n = DerivesItself p.text n ⊎ DerivesItself p.xml n

-- the rule is the first of the nonterminal
pub record IsFirstRule (g : Grammar) (n rule : ℕ) : Type 0 where
  pub of : IsRuleOf g n rule
  pub first : (k : ℕ) → k < rule → IsRuleOf g n k → ⊥

-- the line of the first production of a nonterminal of which P holds
pub record IsFirstLineOf (p : Pair) (P : ℕ → Type 0) (line : ℕ) : Type 0 where
  pub non : ℕ
  pub rule : ℕ
  pub holds : P non
  pub first : IsFirstRule p.text non rule
  pub there : slice_get p.lines rule ≡ Some line

-- the two grammars of the sheet have such a nonterminal, whose first production has this line
abbrev pub FailsAmongNons : (Pair → ℕ → Type 0) → Sheet → ℕ → Type 0
FailsAmongNons P s line = (p : Pair) × IsPairOf s p × IsFirstLineOf p (P p) line

-- no line is less than an earlier one
abbrev pub HaveOrderedLines : List ℕ → Type 0
HaveOrderedLines lines = (j k a b : ℕ) → slice_get lines j ≡ Some a → slice_get lines k ≡ Some b → j ≤ k → a ≤ b

-- each nonterminal derives a word on both sides
abbrev pub AreProductive : Pair → Type 0
AreProductive p = (n : ℕ) → n < p.text.nons → IsProductive p.text n × IsProductive p.xml n

-- the nonterminal is there, and derives no word on one of the sides
abbrev pub IsWordless : Pair → ℕ → Type 0
IsWordless p n = (n < p.text.nons) × IsUnproductive p n

-- the least nonterminal of which P holds, or none where it holds of none
abbrev pub IsFirstNon : (ℕ → Type 0) → Option ℕ → Type 0
IsFirstNon P non = IsFirstLine P non

-- the line of the first production of the nonterminal
pub record IsLineOf (p : Pair) (n line : ℕ) : Type 0 where
  pub rule : ℕ
  pub first : IsFirstRule p.text n rule
  pub there : slice_get p.lines rule ≡ Some line

-- the same of a nonterminal that may be none
abbrev pub IsLineOfSome : Pair → Option ℕ → Option ℕ → Type 0
IsLineOfSome p None None = ⊤
IsLineOfSome p None (Some line) = ⊥
IsLineOfSome p (Some n) None = ⊥
IsLineOfSome p (Some n) (Some line) = IsLineOf p n line
