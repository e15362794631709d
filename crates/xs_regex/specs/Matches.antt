-- The words that a regular expression matches.
use Rattle.std.specs.Prelude.{◌≡◌, ◌⊎◌, ℕ, ◌≤◌, List, [], ◌∷◌, ◌++◌, length, None, Some}
use Rattle.std.specs.declared.option.Option.{Option}
use Rattle.xs_class.specs.Classes.{Has}
use Rattle.xs_regex.specs.declared.forms.Join.{Join}
use Rattle.xs_regex.specs.declared.forms.Join.TheVariants.{Turn, Choice}
use Rattle.xs_regex.specs.declared.regex.Regex.{Regex}
use Rattle.xs_regex.specs.declared.regex.Regex.TheVariants.{Empty, Set, Then', Or', Star', Times'}

-- the words, one after another
abbrev pub joined : List (List ℕ) → List ℕ
joined [] = []
joined (w ∷ ws) = w ++ joined ws

-- each word is one of these
abbrev pub Each : (List ℕ → Type 0) → List (List ℕ) → Type 0
Each P [] = Unit {0}
Each P (w ∷ ws) = P w × Each P ws

-- at most that many, where a greatest number is given
abbrev pub AtMost : ℕ → Option ℕ → Type 0
AtMost k None = Unit {0}
AtMost k (Some n) = k ≤ n

-- that many of these words, one after another
abbrev pub Repeats : (List ℕ → Type 0) → ℕ → Option ℕ → List ℕ → Type 0
Repeats P least most w = (ws : List (List ℕ)) × (w ≡ joined ws) × Each P ws × (least ≤ length ws) × AtMost (length ws) most

-- one word and then another, and a word of either
abbrev pub InTurn : (List ℕ → Type 0) → (List ℕ → Type 0) → List ℕ → Type 0
InTurn P Q w = (u : List ℕ) × (v : List ℕ) × (w ≡ u ++ v) × P u × Q v

abbrev pub OfEither : (List ℕ → Type 0) → (List ℕ → Type 0) → List ℕ → Type 0
OfEither P Q w = P w ⊎ Q w

-- the words of two languages that are joined so
abbrev pub Joined : Join → (List ℕ → Type 0) → (List ℕ → Type 0) → List ℕ → Type 0
Joined Turn = InTurn
Joined Choice = OfEither

-- the words of each form: the empty word, one symbol of a class, one word and then another, a word
-- of either, any number of words, and as many as the counts allow
abbrev pub Matches : Regex → List ℕ → Type 0
Matches Empty w = w ≡ []
Matches (Set class) w = (s : ℕ) × Has class s × (w ≡ s ∷ [])
Matches (Then' p a q b) w = (u : List ℕ) × (v : List ℕ) × (w ≡ u ++ v) × Matches a u × Matches b v
Matches (Or' p a q b) w = Matches a w ⊎ Matches b w
Matches (Star' p a) w = (ws : List (List ℕ)) × (w ≡ joined ws) × Each (λ u. Matches a u) ws
Matches (Times' p a least most) w = Repeats (λ u. Matches a u) least most w
