-- The laws for grammars with fences: it is decided which nonterminals are of one component, what
-- derivations spell is loose, without suspects each word has one derivation, and each stretch and
-- rule has one weight.
use Rattle.std.specs.Prelude.{◌≡◌, ℕ, List}
use Rattle.std.specs.List.{concat, slice_range}
use Rattle.xs_gram.specs.declared.parts.GItem.{GItem}
use Rattle.xs_gram.specs.Grammar.{Grammar}
use Rattle.xs_gram.specs.Derivations.{Derivation, Fits, yield}
use Rattle.xs_gram.specs.Languages.{IsUnique}
use Rattle.xs_gram.specs.Sound.{IsBuilt}
use Rattle.xs_gram.specs.Fences.{fence_symbols, spread, IsLevel}
use Rattle.xs_gram.specs.Laws.{IsDistinct}
use Rattle.xs_gram.specs.Loose.{AreOne, IsLoose}
use Rattle.xs_gram.specs.Suspects.{IsVertical, IsHorizontal}
use Rattle.xs_check_laws.specs.Words.{spread_words}
use Rattle.xs_check_laws.specs.Freedom.{HasNoVertical, HasNoHorizontal}
use Rattle.xs_check_laws.specs.Weights.{PartWeighs, RuleWeighs}
use Rattle.xs_check_laws.specs.Acceptance.{IsAccepted}

-- it is decided of each two nonterminals whether they are of one component
abbrev pub ComponentsAreDecided : Type 0
ComponentsAreDecided = (g : Grammar) → IsBuilt g → (m n : ℕ) → Dec (AreOne g m n)

-- the words of the spread items, joined in order, are the yield
abbrev pub WordsAreTheYield : Type 0
WordsAreTheYield = (g : Grammar) → IsBuilt g → (non : ℕ) (d : Derivation) → Fits g non d → concat (spread_words g d) ≡ yield d

-- what each level stretch of a rule's spread items spells in a derivation is loose for it
abbrev pub YieldsAreLoose : Type 0
YieldsAreLoose =
    (g : Grammar) → IsBuilt g → (non : ℕ) (d : Derivation) → Fits g non d → (start end : ℕ)
    → IsLevel g.fences (slice_range (spread g d.rule) start end)
    → IsLoose g (slice_range (spread g d.rule) start end) (concat (slice_range (spread_words g d) start end))

-- two derivations of one nonterminal with one yield are equal
abbrev pub IsUniqueAt : Grammar → ℕ → Type 0
IsUniqueAt g non = (d e : Derivation) → Fits g non d → Fits g non e → yield d ≡ yield e → d ≡ e

-- without suspects two derivations of one nonterminal with one yield are equal
abbrev pub NoSuspectIsUniqueAt : Type 0
NoSuspectIsUniqueAt = (g : Grammar) → IsBuilt g → HasNoVertical g → HasNoHorizontal g → (non : ℕ) → IsUniqueAt g non

-- and so each word of the language has one derivation
abbrev pub NoSuspectIsUnique : Type 0
NoSuspectIsUnique = (g : Grammar) → IsBuilt g → HasNoVertical g → HasNoHorizontal g → IsUnique g

-- where two grammars are accepted, each word of either language has one derivation
abbrev pub AcceptedIsUnique : Type 0
AcceptedIsUnique = (text xml : Grammar) → IsBuilt text → IsBuilt xml → IsAccepted text xml → IsUnique text × IsUnique xml

-- where no symbol stands twice in the fences, a level stretch has one weight
abbrev pub PartWeighsOnce : Type 0
PartWeighsOnce = (g : Grammar) → IsDistinct (fence_symbols g.fences) → (is : List GItem) (v w : ℕ) → PartWeighs g is v → PartWeighs g is w → v ≡ w

-- a rule has one weight
abbrev pub RuleWeighsOnce : Type 0
RuleWeighsOnce = (g : Grammar) → IsDistinct (fence_symbols g.fences) → (p v w : ℕ) → RuleWeighs g p v → RuleWeighs g p w → v ≡ w
