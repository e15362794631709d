-- Sessions, and what they tell of their document.
use Rattle.std.specs.Prelude.{◌≡◌, ◌↔◌, ℕ, ◌<◌, ◌≤◌, List, [], ◌∷◌, ◌++◌, length, take, Option, None, Some}
use Rattle.xs_class.specs.Classes.{Has}
use Rattle.xs_gram.specs.Grammar.{Grammar}
use Rattle.xs_gram.specs.Derivations.{Derivation}
use Rattle.xs_gram.specs.Languages.{Derives, InLang, IsFront, IsViable}
use Rattle.xs_pair.specs.Grammars.{Pair}
use Rattle.xs_earley.specs.Running.{Running, IsRunOf}
use Rattle.xs_listing.specs.declared.spelt.SpeltPart.{SpeltPart}
use Rattle.xs_listing.specs.Spelt.{IsSpeltOf}
use Rattle.xs_edit.specs.Edits.{document_limit}

-- the two grammars of a session, and its document
pub record Editing : Type 0 where
  pub pair : Pair
  pub document : List ℕ

-- the run has read symbols from the front of the document
pub record HasRead (g : Grammar) (doc : List ℕ) (run : Running) : Type 0 where
  pub of : IsRunOf g run
  pub word : run.word ≡ take (length run.word) doc

-- and as many as begin some word of the language
pub record IsFollowing (g : Grammar) (doc : List ℕ) (run : Running) : Type 0 where
  pub read : HasRead g doc run
  pub viable : IsViable g doc (length run.word)

-- what a session keeps
pub record IsKept (pair : Pair) (doc : List ℕ) (run : Running) : Type 0 where
  pub following : IsFollowing pair.text doc run
  pub short : length doc ≤ document_limit

-- a derivation of the document, written flat; there is none exactly where the document is foreign
abbrev pub IsTreeOf : Grammar → List ℕ → Option (List SpeltPart) → Type 0
IsTreeOf g doc None = InLang g doc → ⊥
IsTreeOf g doc (Some spelt) = (d : Derivation) × Derives g doc d × IsSpeltOf doc spelt d

-- The symbols that keep the first `at` symbols of the document viable; there is no answer exactly where these are more
-- than the longest viable prefix has.
abbrev pub IsNext : Grammar → List ℕ → ℕ → Option (List (ℕ × ℕ)) → Type 0
IsNext g doc at None = (k : ℕ) × IsViable g doc k × (k < at)
IsNext g doc at (Some class) = (k : ℕ) × IsViable g doc k × (at ≤ k) × ((s : ℕ) → Has class s ↔ IsFront g (take at doc ++ s ∷ []))
