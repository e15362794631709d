-- More fences: what they take away from loose words and suspects, and that what is accepted stays
-- accepted where no rule is too heavy.
use Rattle.std.specs.Prelude.{◌≡◌, ℕ, List, [], ◌∷◌}
use Rattle.xs_gram.specs.declared.parts.GItem.{GItem}
use Rattle.xs_gram.specs.Grammar.{Grammar, ItemAt}
use Rattle.xs_gram.specs.Derivations.{Parts, FitsItems}
use Rattle.xs_gram.specs.Sound.{IsBuilt}
use Rattle.xs_gram.specs.Fences.{spread, IsFence}
use Rattle.xs_gram.specs.Loose.{AreOne, IsLoose}
use Rattle.xs_gram.specs.Suspects.{IsVertical}
use Rattle.xs_check_laws.specs.Freedom.{HasNoHorizontal}
use Rattle.xs_check_laws.specs.Acceptance.{IsLight, HasNoSuspect, IsAccepted}

-- the second grammar is the first but for its fences, and has each fence of the first
pub record IsMoreFenced (g h : Grammar) : Type 0 where
  pub start : g.start ≡ h.start
  pub nons : g.nons ≡ h.nons
  pub rules : g.rules ≡ h.rules
  pub terms : g.terms ≡ h.terms
  pub skips : g.skips ≡ h.skips
  pub fences : (l r : ℕ) → IsFence g.fences l r → IsFence h.fences l r

-- each item of each rule derives a word, as it does in each sound grammar
abbrev pub EachItemDerives : Grammar → Type 0
EachItemDerives g = (p n : ℕ) (i : GItem) → ItemAt g p n i → (parts : Parts) × FitsItems g (i ∷ []) parts

-- both are built, and the second is the first with more fences
pub record GainsFences (g h : Grammar) : Type 0 where
  pub built : IsBuilt g
  pub built_more : IsBuilt h
  pub more : IsMoreFenced g h

-- nonterminals of one component with more fences are of one with fewer
abbrev pub MoreFencesPartComponents : Type 0
MoreFencesPartComponents = (g h : Grammar) → GainsFences g h → (m n : ℕ) → AreOne h m n → AreOne g m n

-- what is loose for a rule with more fences is loose with fewer
abbrev pub MoreFencesMakeFewerLoose : Type 0
MoreFencesMakeFewerLoose = (g h : Grammar) → GainsFences g h → (p : ℕ) (w : List ℕ) → IsLoose h (spread h p) w → IsLoose g (spread g p) w

-- each vertical suspect with more fences is one with fewer, by the same word
abbrev pub MoreFencesMakeFewerVertical : Type 0
MoreFencesMakeFewerVertical = (g h : Grammar) → GainsFences g h → (p q : ℕ) (w : List ℕ) → IsVertical h p q w → IsVertical g p q w

-- without a horizontal suspect there is none with more fences
abbrev pub MoreFencesMakeNoHorizontal : Type 0
MoreFencesMakeNoHorizontal = (g h : Grammar) → GainsFences g h → EachItemDerives g → HasNoHorizontal g → HasNoHorizontal h

-- without a suspect there is none with more fences
abbrev pub MoreFencesMakeNoSuspect : Type 0
MoreFencesMakeNoSuspect = (g h : Grammar) → GainsFences g h → EachItemDerives g → HasNoSuspect g → HasNoSuspect h

-- what is accepted stays accepted with more fences, where no rule is too heavy
abbrev pub AcceptedStaysAccepted : Type 0
AcceptedStaysAccepted =
    (text xml text' xml' : Grammar) → GainsFences text text' → GainsFences xml xml' → EachItemDerives text → EachItemDerives xml
    → IsAccepted text xml → IsLight text' → IsLight xml' → IsAccepted text' xml'
