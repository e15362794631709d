-- What the check accepts, and what it answers first where it refuses: a rule that is too heavy, or
-- a suspect of ambiguity. Text stands before XML.
use Rattle.std.specs.Prelude.{◌≡◌, ℕ, ◌<◌, ◌≤◌, List, length, ◌⊎◌}
use Rattle.xs_class.specs.declared.side.Side.{Side}
use Rattle.xs_class.specs.declared.side.Side.TheVariants.{Text, Xml}
use Rattle.xs_gram.specs.Grammar.{Grammar}
use Rattle.xs_gram.specs.Suspects.{IsVertical, IsHorizontal}
use Rattle.xs_check_laws.specs.Freedom.{HasNoVertical, HasNoHorizontal}
use Rattle.xs_check_laws.specs.Weights.{heaviest, RuleWeighs}

-- a rule that weighs no more than it may
abbrev pub IsLightRule : Grammar → ℕ → Type 0
IsLightRule g p = (w : ℕ) × RuleWeighs g p w × (w ≤ heaviest)

abbrev pub IsLight : Grammar → Type 0
IsLight g = (p : ℕ) → p < length g.rules → IsLightRule g p

-- no suspect of either kind
abbrev pub HasNoSuspect : Grammar → Type 0
HasNoSuspect g = HasNoVertical g × HasNoHorizontal g

-- each rule of either grammar is light, and neither has a suspect
pub record IsAccepted (text xml : Grammar) : Type 0 where
  pub light_text : IsLight text
  pub light_xml : IsLight xml
  pub clear_text : HasNoSuspect text
  pub clear_xml : HasNoSuspect xml

-- rule p weighs w, which is too heavy, and each rule before it is light
pub record IsHeavyAt (g : Grammar) (p w : ℕ) : Type 0 where
  pub rule : p < length g.rules
  pub weighs : RuleWeighs g p w
  pub heavy : heaviest < w
  pub before : (q : ℕ) → q < p → IsLightRule g q

-- the first heavy rule weighs w
abbrev pub IsHeaviness : Grammar → ℕ → Type 0
IsHeaviness g w = (p : ℕ) × IsHeavyAt g p w

-- the first heavy rule of the two grammars weighs w
abbrev pub IsFirstHeavy : Grammar → Grammar → ℕ → Type 0
IsFirstHeavy text xml w = IsHeaviness text w ⊎ (IsLight text × IsHeaviness xml w)

-- a pair of numbers comes before another
abbrev pub IsBefore : ℕ → ℕ → ℕ → ℕ → Type 0
IsBefore a b c d = (a < c) ⊎ ((a ≡ c) × (b < d))

-- rules p and q are the first vertical suspect, by the smaller rule and then the larger
pub record IsFirstVertical (g : Grammar) (p q : ℕ) : Type 0 where
  pub word : List ℕ
  pub is : IsVertical g p q word
  pub none_before : (r s : ℕ) (w : List ℕ) → IsVertical g r s w → IsBefore r s p q → ⊥

-- rule p and its cut c are the first horizontal suspect, by the rule and then the cut
pub record IsFirstHorizontal (g : Grammar) (p c : ℕ) : Type 0 where
  pub front : List ℕ
  pub middle : List ℕ
  pub rest : List ℕ
  pub is : IsHorizontal g p c front middle rest
  pub none_before : (r d : ℕ) (x a y : List ℕ) → IsHorizontal g r d x a y → IsBefore r d p c → ⊥

-- the words show the vertical, the horizontal suspect that is the first of a grammar
abbrev pub ShowsVertical : Grammar → ℕ → ℕ → List ℕ → Type 0
ShowsVertical g p q w = IsFirstVertical g p q × IsVertical g p q w

abbrev pub ShowsHorizontal : Grammar → ℕ → ℕ → List ℕ → List ℕ → List ℕ → Type 0
ShowsHorizontal g p c x a y = IsFirstHorizontal g p c × IsHorizontal g p c x a y

-- A suspect of the two grammars: its side, its rules or its rule and cut, and its words.
pub data Suspect : Type 0 where
  vertical : Side → ℕ → ℕ → List ℕ → Suspect
  horizontal : Side → ℕ → ℕ → List ℕ → List ℕ → List ℕ → Suspect

-- its side and numbers are those of the first suspect: text vertical, text horizontal, XML
-- vertical, XML horizontal
abbrev pub IsFirstSuspect : Grammar → Grammar → Suspect → Type 0
IsFirstSuspect text xml (vertical Text p q w) = IsFirstVertical text p q
IsFirstSuspect text xml (horizontal Text p c x a y) = HasNoVertical text × IsFirstHorizontal text p c
IsFirstSuspect text xml (vertical Xml p q w) = HasNoSuspect text × IsFirstVertical xml p q
IsFirstSuspect text xml (horizontal Xml p c x a y) = HasNoSuspect text × HasNoVertical xml × IsFirstHorizontal xml p c

-- its words make it one
abbrev pub IsSuspect : Grammar → Grammar → Suspect → Type 0
IsSuspect text xml (vertical Text p q w) = IsVertical text p q w
IsSuspect text xml (horizontal Text p c x a y) = IsHorizontal text p c x a y
IsSuspect text xml (vertical Xml p q w) = IsVertical xml p q w
IsSuspect text xml (horizontal Xml p c x a y) = IsHorizontal xml p c x a y

-- it is the first suspect, with words that show it
abbrev pub Shows : Grammar → Grammar → Suspect → Type 0
Shows text xml suspect = IsFirstSuspect text xml suspect × IsSuspect text xml suspect
