-- A document that is turned or translated, and one that is foreign.
use Rattle.std.specs.Prelude.{◌≡◌, ⊤, ℕ, List, Some}
use Rattle.xs_class.specs.declared.side.Side.{Side}
use Rattle.xs_class.specs.declared.side.Side.TheVariants.{Text, Xml}
use Rattle.xs_gram.specs.Grammar.{Grammar}
use Rattle.xs_gram.specs.Derivations.{Derivation, done, sub}
use Rattle.xs_gram.specs.Common.{Common, TreeFits, print, strip}
use Rattle.xs_gram.specs.Languages.{Derives, InLang, HasTree, IsViable}
use Rattle.xs_forest_laws.specs.Forest.{Forest, Unfolding, Unfolds, read}
use Rattle.xs_pair.specs.Grammars.{Pair, grammar_of, HaveSameTrees}
use Rattle.xs_table_out.specs.Documents.{document_bytes}
use Rattle.xs_turn.specs.declared.fault.TurnFault.{TurnFault}
use Rattle.xs_turn.specs.declared.fault.TurnFault.TheVariants as F
use Rattle.xs_turn.specs.declared.rewriting.Rewritten.{Rewritten}
use Rattle.xs_turn.specs.declared.rewriting.Rewritten.TheVariants as R

-- the tree fits the start on either side
abbrev pub FitsBoth : Pair → Common → Type 0
FitsBoth p tree = (side : Side) → TreeFits (grammar_of p side) (grammar_of p side).start tree

-- the side that is not this one
abbrev pub other_side : Side → Side
other_side Text = Xml
other_side Xml = Text

-- the tree is that of a derivation of the document that is read from an unfolding of the forest's root
abbrev pub IsTreeIn : Grammar → List ℕ → Forest → ℕ → Common → Type 0
IsTreeIn g w f root tree = (u : Unfolding) × Unfolds f (Some root) u × (d : Derivation) × (read g w f (Some root) u ≡ sub d.rule d.parts done) × Derives g w d × (strip g d ≡ tree)

-- The word is the print, on another side or the same, of the tree of a derivation of the document; where both sides have
-- the same trees and the same start, the tree fits on either.
pub record IsTranslated (p : Pair) (from to : Side) (w word : List ℕ) : Type 0 where
  pub tree : Common
  pub has : HasTree (grammar_of p from) w tree
  pub printed : word ≡ print (grammar_of p to) tree
  pub fits : HaveSameTrees p.text p.xml → p.text.start ≡ p.xml.start → FitsBoth p tree

-- the bytes are the document of a word that is translated, or the word is one
abbrev pub IsRewritten : Pair → Side → Side → List ℕ → Rewritten → Type 0
IsRewritten p from to w (R.Written bytes) = (word : List ℕ) × IsTranslated p from to w word × (bytes ≡ document_bytes to p.names word)
IsRewritten p from to w (R.Print word) = IsTranslated p from to w word

-- the document has no derivation, and that many of its leading symbols are viable
pub record IsForeign (p : Pair) (side : Side) (w : List ℕ) (viable : ℕ) : Type 0 where
  pub foreign : InLang (grammar_of p side) w → ⊥
  pub longest : IsViable (grammar_of p side) w viable

-- when each refusal comes
abbrev pub IsRefusal : Pair → Side → List ℕ → TurnFault → Type 0
IsRefusal p side w (F.Foreign viable) = IsForeign p side w viable
IsRefusal p side w F.Memory = ⊤
