-- What is still to be printed of a table on the way.
use Rattle.std.specs.Prelude.{◌≡◌, ℕ, ◌+◌, ◌≤◌, ◌⊎◌, List, [], ◌∷◌, ◌++◌, length, suc, map, take, drop, Option, None, Some, slice_get, slice_range}
use Rattle.xs_gram.specs.Grammar.{Grammar, items}
use Rattle.xs_gram.specs.Derivations.{Parts, FitsItems}
use Rattle.xs_gram.specs.Common.{children, named, print_kids, word_at}
use Rattle.xs_parse_table.specs.declared.table.Node.{Node}
use Rattle.xs_parse_table.specs.declared.table.ParseTable.{ParseTable}
use Rattle.xs_parse_table.specs.Tables.{ArePartsAt}
use Rattle.xs_text_out.specs.declared.pieces.Piece.{Piece}
use Rattle.xs_table_out.specs.declared.steps.StepRow.{StepRow}
use Rattle.xs_text_out.specs.Pieces.{pieces_word}
use Rattle.xs_table_out.specs.declared.children.Begin.{Begin}
use Rattle.xs_table_out.specs.declared.children.Begin.TheVariants.{Here, AfterWord, AfterNode}
use Rattle.xs_table_out.specs.declared.children.Child.{Child}
use Rattle.xs_table_out.specs.declared.children.Child.TheVariants as C
use Rattle.xs_table_out.specs.declared.steps.Step.{Step}
use Rattle.xs_table_out.specs.declared.steps.Steps.{Steps}
use Rattle.xs_table_out.specs.declared.walk.Task.{Task}
use Rattle.xs_table_out.specs.declared.walk.Printed.{Printed}
use Rattle.xs_table_out.specs.declared.walk.Printed.TheVariants.{Wrong, Done, Entered}
use Rattle.xs_table_out.specs.declared.walk.Next.{Next}
use Rattle.xs_table_out.specs.declared.walk.Next.TheVariants as N
use Rattle.xs_table_out.specs.Steps.{step_of}
use Rattle.xs_table_out.specs.Writing.{Writes}

-- where a node ends
abbrev pub end_of : Option Node → Option ℕ
end_of None = None
end_of (Some node) = Some node.to

-- the node of a part
abbrev pub part_node : List Node → Option ℕ → Option Node
part_node nodes None = None
part_node nodes (Some number) = slice_get nodes number

-- where a word begins, in a node whose parts begin with a number and which begins at a place
abbrev pub begin_of : List Node → List ℕ → ℕ → ℕ → Begin → Option ℕ
begin_of nodes parts first from Here = Some from
begin_of nodes parts first from (AfterWord part) = slice_get parts (first + part)
begin_of nodes parts first from (AfterNode part) = end_of (part_node nodes (slice_get parts (first + part)))

-- the word is that between where the leaf of a part begins and where it ends
pub record IsWordAt (doc : List ℕ) (nodes : List Node) (parts : List ℕ) (task : Task) (begin : Begin) (part : ℕ) (word : List ℕ) : Type 0 where
  pub at : ℕ
  pub to : ℕ
  pub begins : begin_of nodes parts task.parts task.from begin ≡ Some at
  pub ends : slice_get parts (task.parts + part) ≡ Some to
  pub is : word ≡ slice_range doc at to

-- the task is to print the node
pub record IsTaskOf (rows : List StepRow) (node : Node) (task : Task) : Type 0 where
  pub row : StepRow
  pub there : slice_get rows node.production ≡ Some row
  pub is : task ≡ record { parts = node.parts; from = node.from; place = row.begin; end = row.end }

-- the task is to print the node of a part
pub record IsChildTask (rows : List StepRow) (nodes : List Node) (parts : List ℕ) (task : Task) (part : ℕ) (child : Task) : Type 0 where
  pub number : ℕ
  pub numbered : slice_get parts (task.parts + part) ≡ Some number
  pub node : Node
  pub there : slice_get nodes number ≡ Some node
  pub task_is : IsTaskOf rows node child

-- the task is to print the last node
pub record IsLastTask (rows : List StepRow) (nodes : List Node) (task : Task) : Type 0 where
  pub root : ℕ
  pub last : suc root ≡ length nodes
  pub node : Node
  pub there : slice_get nodes root ≡ Some node
  pub task_is : IsTaskOf rows node task

-- the task after its next step
abbrev pub next_task : Task → Task
next_task task = record { parts = task.parts; from = task.from; place = task.place + 1; end = task.end }

-- the steps of a task that are still to be done
abbrev pub rest_steps : List Step → Task → List Step
rest_steps all task = drop task.place (take task.end all)

-- the text and what stands at the slot of a step are written
abbrev pub IsDone : List ℕ → List Node → List ℕ → Task → List ℕ → (List ℕ → List ℕ) → (List ℕ → List ℕ) → Child → Type 0
IsDone doc nodes parts task text old new C.Nothing = Writes old new text
IsDone doc nodes parts task text old new (C.Word begin part) = (word : List ℕ) × IsWordAt doc nodes parts task begin part word × Writes old new (text ++ word)
IsDone doc nodes parts task text old new (C.Node part) = ⊥

-- the text of a step is written, and the node at its slot is to be printed
abbrev pub IsEntered : List StepRow → List Node → List ℕ → Task → List ℕ → (List ℕ → List ℕ) → (List ℕ → List ℕ) → Child → Task → Type 0
IsEntered rows nodes parts task text old new C.Nothing child = ⊥
IsEntered rows nodes parts task text old new (C.Word begin part) child = ⊥
IsEntered rows nodes parts task text old new (C.Node part) child = IsChildTask rows nodes parts task part child × Writes old new text

-- what comes of a step
abbrev pub IsPrinted : Steps → List ℕ → List Node → List ℕ → Task → Step → (List ℕ → List ℕ) → (List ℕ → List ℕ) → Printed → Type 0
IsPrinted s doc nodes parts task step old new Wrong = Unit {0}
IsPrinted s doc nodes parts task step old new Done = IsDone doc nodes parts task (slice_range s.text.items step.begin step.end) old new step.child
IsPrinted s doc nodes parts task step old new (Entered child) = IsEntered s.rows.items nodes parts task (slice_range s.text.items step.begin step.end) old new step.child child

-- what is printed at the slots of a node
abbrev pub slots_of : Grammar → Grammar → ℕ → Parts → ℕ → List ℕ
slots_of g h production ps = word_at (print_kids h (children (named g (items g production) ps)))

-- the word is what a task still prints, of parts that the table means at its node
pub record IsOwed (g h : Grammar) (s : Steps) (doc : List ℕ) (table : ParseTable) (task : Task) (word : List ℕ) : Type 0 where
  pub production : ℕ
  pub parts : Parts
  pub to : ℕ
  pub fits : FitsItems g (items g production) parts
  pub mean : ArePartsAt table.nodes.items table.parts.items doc task.parts task.from to parts
  pub pieces : List Piece
  pub steps_are : rest_steps s.all.items task ≡ map (step_of (items g production)) pieces
  pub is : word ≡ pieces_word s.text.items pieces (slots_of g h production parts)

-- the word is what tasks still print, the last one first
abbrev pub AreOwed : Grammar → Grammar → Steps → List ℕ → ParseTable → List Task → List ℕ → Type 0
AreOwed g h s doc table [] word = word ≡ []
AreOwed g h s doc table (task ∷ tasks) word = (before : List ℕ) × (own : List ℕ) × AreOwed g h s doc table tasks before × IsOwed g h s doc table task own × (word ≡ before ++ own)

-- a task that is to be gone on with is put last, if it has more steps
abbrev pub IsAside : Task → List Task → List Task → Type 0
IsAside task old new = (new ≡ old ++ task ∷ []) ⊎ ((task.end ≤ task.place) × (new ≡ old))

-- all will be as it was to be: nothing is left, or what is left is owed
abbrev pub IsGone : Grammar → Grammar → Steps → List ℕ → ParseTable → List ℕ → (List ℕ → List ℕ) → List Task → Next → Type 0
IsGone g h s doc table whole new tasks N.Wrong = Unit {0}
IsGone g h s doc table whole new tasks N.End = new [] ≡ whole
IsGone g h s doc table whole new tasks (N.Go task) = (rest : List ℕ) × AreOwed g h s doc table (tasks ++ task ∷ []) rest × (new rest ≡ whole)
