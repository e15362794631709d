-- What a grammar means: its derivations, trees, prints, languages and viable prefixes, and what its check sees.
use Rattle.std.specs.Prelude.{◌≡◌, ◌↔◌, ℕ, List}
use Rattle.xs_gram.specs.Grammar.{Grammar}
use Rattle.xs_gram.specs.Derivations.{Derivation, Fits, normal}
use Rattle.xs_gram.specs.Common.{Common, TreeFits, strip, print}
use Rattle.xs_gram.specs.Languages.{Derives, InLang, HasTree, IsUnique, IsViable}
use Rattle.xs_gram.specs.Suspects.{IsVertical, IsHorizontal}
use Rattle.xs_check_laws.specs.Weights.{RuleWeighs}
use Rattle.xs_check_laws.specs.Acceptance.{IsAccepted, IsFirstHeavy, Suspect, Shows}
use Rattle.xs_sheet_laws.specs.Grammars.{AreAlike}

-- the same derivations, of each nonterminal and of each word
pub record HaveSameDerivations (g h : Grammar) : Type 0 where
  pub fits : (non : ℕ) (d : Derivation) → Fits g non d ↔ Fits h non d
  pub derives : (w : List ℕ) (d : Derivation) → Derives g w d ↔ Derives h w d
  pub normal : (d : Derivation) → normal g d ≡ normal h d
  pub unique : IsUnique g ↔ IsUnique h

-- the same common trees, of each nonterminal, derivation and word, and the same prints
pub record HaveSameTrees (g h : Grammar) : Type 0 where
  pub fits : (non : ℕ) (t : Common) → TreeFits g non t ↔ TreeFits h non t
  pub strip : (d : Derivation) → strip g d ≡ strip h d
  pub has : (w : List ℕ) (t : Common) → HasTree g w t ↔ HasTree h w t
  pub print : (t : Common) → print g t ≡ print h t

-- the same language, and the same longest viable prefix of each word
pub record HaveSameWords (g h : Grammar) : Type 0 where
  pub in_lang : (w : List ℕ) → InLang g w ↔ InLang h w
  pub viable : (w : List ℕ) (k : ℕ) → IsViable g w k ↔ IsViable h w k

-- the same weights of rules, and the same suspects
pub record HaveSameSuspects (g h : Grammar) : Type 0 where
  pub weighs : (p w : ℕ) → RuleWeighs g p w ↔ RuleWeighs h p w
  pub vertical : (p q : ℕ) (w : List ℕ) → IsVertical g p q w ↔ IsVertical h p q w
  pub horizontal : (p c : ℕ) (x a y : List ℕ) → IsHorizontal g p c x a y ↔ IsHorizontal h p c x a y

-- they mean the same
pub record MeanTheSame (g h : Grammar) : Type 0 where
  pub derivations : HaveSameDerivations g h
  pub trees : HaveSameTrees g h
  pub words : HaveSameWords g h
  pub suspects : HaveSameSuspects g h

-- grammars that are alike mean the same
abbrev pub AlikeMeanTheSame : Type 0
AlikeMeanTheSame = (g h : Grammar) → AreAlike g h → MeanTheSame g h

-- the check answers the same of two pairs of grammars: acceptance, the first heavy weight, the first suspect
pub record AreCheckedAlike (text xml text' xml' : Grammar) : Type 0 where
  pub accepted : IsAccepted text xml ↔ IsAccepted text' xml'
  pub heavy : (w : ℕ) → IsFirstHeavy text xml w ↔ IsFirstHeavy text' xml' w
  pub shows : (suspect : Suspect) → Shows text xml suspect ↔ Shows text' xml' suspect

abbrev pub AlikeAreCheckedAlike : Type 0
AlikeAreCheckedAlike = (text xml text' xml' : Grammar) → AreAlike text text' → AreAlike xml xml' → AreCheckedAlike text xml text' xml'
