-- What productions print of a node whose parts stand in a table, as steps.
use Rattle.std.specs.Prelude.{◌≡◌, ℕ, ◌≤◌, List, [], length, map, take, drop, Option, None, Some, slice_get, slice_range}
use Rattle.xs_gram.specs.declared.parts.GItem.{GItem}
use Rattle.xs_gram.specs.Grammar.{Grammar, items}
use Rattle.xs_gram.specs.Common.{spelling}
use Rattle.xs_text_out.specs.declared.pieces.Piece.{Piece}
use Rattle.xs_table_out.specs.declared.steps.StepRow.{StepRow}
use Rattle.xs_text_out.specs.Pieces.{pieces_word}
use Rattle.xs_table_out.specs.declared.children.Begin.TheVariants.{Here}
use Rattle.xs_table_out.specs.declared.children.Child.{Child}
use Rattle.xs_table_out.specs.declared.children.Child.TheVariants.{Nothing}
use Rattle.xs_table_out.specs.declared.steps.Step.{Step}
use Rattle.xs_table_out.specs.declared.steps.Steps.{Steps}
use Rattle.xs_table_out.specs.Children.{child_at}

-- what stands after a piece
abbrev pub slot_child : List GItem → Option ℕ → Child
slot_child is None = Nothing
slot_child is (Some slot) = child_at Here 0 slot is

-- a piece as a step of a production that is read by these items
abbrev pub step_of : List GItem → Piece → Step
step_of is piece = record { begin = piece.begin; end = piece.end; child = slot_child is piece.slot }

-- the steps of a production, which are pieces that print what it prints
pub record IsStepRow (g h : Grammar) (text : List ℕ) (all : List Step) (production : ℕ) (row : StepRow) : Type 0 where
  pub there : row.end ≤ length all
  pub pieces : List Piece
  pub prints : (at : ℕ → List ℕ) → pieces_word text pieces at ≡ spelling h (items h production) at
  pub steps_are : drop row.begin (take row.end all) ≡ map (step_of (items g production)) pieces

-- the rows of the first productions
abbrev pub AreStepRows : Grammar → Grammar → List ℕ → List Step → List StepRow → Type 0
AreStepRows g h text all rows = (production : ℕ) (row : StepRow) → slice_get rows production ≡ Some row → IsStepRow g h text all production row

-- the steps of all productions
abbrev pub AreSteps : Grammar → Grammar → Steps → Type 0
AreSteps g h s = AreStepRows g h s.text.items s.all.items s.rows.items

-- the text of a step
abbrev pub text_of : List ℕ → Option Step → List ℕ
text_of text None = []
text_of text (Some step) = slice_range text step.begin step.end

-- the text of the step of a number
abbrev pub text_at : Steps → ℕ → List ℕ
text_at s number = text_of s.text.items (slice_get s.all.items number)

-- the texts are those of the steps
abbrev pub HasTexts : Steps → (ℕ → List ℕ) → Type 0
HasTexts s text = (number : ℕ) (step : Step) → slice_get s.all.items number ≡ Some step → text number ≡ slice_range s.text.items step.begin step.end
