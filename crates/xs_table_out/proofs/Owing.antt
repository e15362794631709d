-- What is owed as a walk over a table goes on.
use Rattle.std.proofs.Common.{◌≡◌, ℕ, ◌+◌, ◌≤◌, inl, inr, List, [], ◌∷◌, ◌++◌, map, take, Option, Some, None, refl, sym, ◌∙◌, ap, subst, arith, append_assoc, append-nil}
use Rattle.std.specs.Prelude.{slice_get, slice_range}
use Rattle.std.proofs.lemmas.List.{drop_all, length-take}
use Rattle.xs_class.proofs.Lists.{some_inj}
use Rattle.xs_gram.specs.Grammar.{Grammar, items}
use Rattle.xs_gram.specs.declared.parts.GItem.{GItem}
use Rattle.xs_gram.specs.Derivations.{Parts, FitsItems, Derivation}
use Rattle.xs_gram.specs.Common.{Common, made, children, lookup, named, print, strip}
use Rattle.xs_gram.specs.Languages.{Derives}
use Rattle.xs_gram.specs.Laws.{HasNumberedSlots, IsNumbered}
use Rattle.xs_gram.proofs.Entries.{keys_are}
use Rattle.xs_parse_table.specs.declared.table.Node.{Node}
use Rattle.xs_parse_table.specs.declared.table.ParseTable.{ParseTable}
use Rattle.xs_parse_table.specs.Tables.{ArePartsAt, IsTreeOf}
use Rattle.xs_text_out.specs.declared.pieces.Piece.{Piece}
use Rattle.xs_table_out.specs.declared.steps.StepRow.{StepRow}
use Rattle.xs_text_out.specs.Pieces.{end_word, pieces_word}
use Rattle.xs_table_out.specs.declared.children.Begin.TheVariants.{Here}
use Rattle.xs_table_out.specs.declared.children.Child.{Child}
use Rattle.xs_table_out.specs.declared.children.Child.TheVariants as C
use Rattle.xs_table_out.specs.declared.steps.Step.{Step}
use Rattle.xs_table_out.specs.declared.steps.Steps.{Steps}
use Rattle.xs_table_out.specs.declared.walk.Task.{Task}
use Rattle.xs_table_out.specs.Steps.{AreSteps, slot_child, step_of}
use Rattle.xs_table_out.specs.Walk.{AreOwed, IsAside, IsDone, IsEntered, IsLastTask, IsOwed, IsTaskOf, next_task, rest_steps, slots_of}
use Rattle.xs_table_out.specs.Writing.{Writes}
use Rattle.xs_table_out.proofs.Finding.{Finds, Prints, finds, prints}

-- two stretches are written one after the other
pub writes_both : (old mid new : List ℕ → List ℕ) (text word : List ℕ) → Writes old mid text → Writes mid new word → Writes old new (text ++ word)
writes_both old mid new text word first second = λ rest. second rest ∙ first (word ++ rest) ∙ ap old (sym (append_assoc text word rest))

nothing_first : {X : Type 0} (x : X) (xs : List X) → x ∷ xs ≡ [] → ⊥
nothing_first x xs e = cc

first_same : {X : Type 0} (x y : X) (xs ys : List X) → x ∷ xs ≡ y ∷ ys → x ≡ y
first_same x y xs ys e = cc

rest_same : {X : Type 0} (x y : X) (xs ys : List X) → x ∷ xs ≡ y ∷ ys → xs ≡ ys
rest_same x y xs ys e = cc

some_node : (x y : Node) → Some x ≡ Some y → x ≡ y
some_node x y e = cc

some_row : (x y : StepRow) → Some x ≡ Some y → x ≡ y
some_row x y e = cc

-- the first of the steps that pieces are
record FirstPiece (is : List GItem) (step : Step) (rest : List Step) (pieces : List Piece) : Type 0 where
  pub piece : Piece
  pub later : List Piece
  pub pieces_are : pieces ≡ piece ∷ later
  pub step_is : step ≡ step_of is piece
  pub rest_is : rest ≡ map (step_of is) later

first_piece : (is : List GItem) (step : Step) (rest : List Step) (pieces : List Piece) → step ∷ rest ≡ map (step_of is) pieces → FirstPiece is step rest pieces
first_piece is step rest [] e = absurd (nothing_first step rest e)
first_piece is step rest (piece ∷ later) e = record {
  piece = piece;
  later = later;
  pieces_are = refl;
  step_is = first_same step (step_of is piece) rest (map (step_of is) later) e;
  rest_is = rest_same step (step_of is piece) rest (map (step_of is) later) e;
}

no_pieces : (is : List GItem) (pieces : List Piece) → [] ≡ map (step_of is) pieces → pieces ≡ []
no_pieces is [] e = refl
no_pieces is (piece ∷ later) e = absurd (nothing_first (step_of is piece) (map (step_of is) later) (sym e))

-- the last task prints first
pub record FirstOwed (g h : Grammar) (s : Steps) (doc : List ℕ) (table : ParseTable) (tasks : List Task) (task : Task) (w : List ℕ) : Type 0 where
  pub own : List ℕ
  pub later : List ℕ
  pub owed : IsOwed g h s doc table task own
  pub are : AreOwed g h s doc table tasks later
  pub is : w ≡ own ++ later

-- the next step of a task: its text, what stands at its slot, and what the task owes after it
pub record StepOwed (g h : Grammar) (s : Steps) (doc : List ℕ) (table : ParseTable) (task : Task) (step : Step) (w : List ℕ) : Type 0 where
  pub there : List ℕ
  pub later : List ℕ
  pub found : Option Common
  pub finds : Finds g doc table task.parts task.from step.child found
  pub prints : Prints h found there
  pub owed : IsOwed g h s doc table (next_task task) later
  pub is : w ≡ (slice_range s.text.items step.begin step.end ++ there) ++ later

-- what is to be gone on with after a step, and what it prints
pub record OwedOn (g h : Grammar) (s : Steps) (doc : List ℕ) (table : ParseTable) (tasks : List Task) (task : Task) (new : List ℕ → List ℕ) (whole : List ℕ) : Type 0 where
  pub rest : List ℕ
  pub are : AreOwed g h s doc table (tasks ++ task ∷ []) rest
  pub is : new rest ≡ whole

module _ (g h : Grammar) (s : Steps) (doc : List ℕ) (table : ParseTable) where
  abbrev Owed : Task → List ℕ → Type 0
  Owed task w = IsOwed g h s doc table task w

  abbrev AllOwed : List Task → List ℕ → Type 0
  AllOwed tasks w = AreOwed g h s doc table tasks w

  -- one more task, which is first
  pub owed_push : (tasks : List Task) (task : Task) (before own : List ℕ) → AllOwed tasks before → Owed task own → AllOwed (tasks ++ task ∷ []) (own ++ before)
  owed_push [] task before own are is = ([], own, refl, is, ap (λ w. own ++ w) are ∙ append-nil own)
  owed_push (other ∷ tasks) task before own (more, last, are, owed, e) is =
      (own ++ more, last, owed_push tasks task more own are is, owed, ap (λ w. own ++ w) e ∙ sym (append_assoc own more last))

  pub owed_pop : (tasks : List Task) (task : Task) (w : List ℕ) → AllOwed (tasks ++ task ∷ []) w → FirstOwed g h s doc table tasks task w
  owed_pop [] task w (none, own, empty, owed, e) = record {
    own = own;
    later = [];
    owed = owed;
    are = refl;
    is = e ∙ ap (λ v. v ++ own) empty ∙ sym (append-nil own);
  }
  owed_pop (other ∷ tasks) task w (more, last, are, owed, e) =
      let first = owed_pop tasks task more are in
      record {
        own = first.own;
        later = first.later ++ last;
        owed = first.owed;
        are = (first.later, last, first.are, owed, refl);
        is = e ∙ ap (λ v. v ++ last) first.is ∙ append_assoc first.own first.later last;
      }

  -- a task without steps owes nothing
  pub nothing_owed : (task : Task) (w : List ℕ) → rest_steps s.all.items task ≡ [] → Owed task w → w ≡ []
  nothing_owed task w none owed =
      let pieces = no_pieces (items g owed.production) owed.pieces (sym none ∙ owed.steps_are) in
      owed.is ∙ ap (λ (l : List Piece). pieces_word s.text.items l (slots_of g h owed.production owed.parts)) pieces

  pub no_steps : (task : Task) → task.end ≤ task.place → rest_steps s.all.items task ≡ []
  no_steps task past =
      let long = length-take task.end s.all.items in
      drop_all task.place (take task.end s.all.items) (omega (arith, past, long))

  -- a node's task owes what its tree prints
  pub node_owed : (node : Node) (task : Task) (ps : Parts) → AreSteps g h s → IsTaskOf s.rows.items node task → FitsItems g (items g node.production) ps → ArePartsAt table.nodes.items table.parts.items doc node.parts node.from node.to ps → Owed task (print h (made node.production (children (named g (items g node.production) ps))))
  node_owed node task ps steps of fit mean =
      let row = steps node.production of.row of.there in
      subst (λ (t : Task). IsOwed g h s doc table t (print h (made node.production (children (named g (items g node.production) ps))))) (sym of.is) record {
        production = node.production;
        parts = ps;
        to = node.to;
        fits = fit;
        mean = mean;
        pieces = row.pieces;
        steps_are = row.steps_are;
        is = sym (row.prints (slots_of g h node.production ps));
      }

  slot_found : HasNumberedSlots g → (task : Task) (w : List ℕ) (owed : IsOwed g h s doc table task w) (slot : Option ℕ) → (found : Option Common) × Finds g doc table task.parts task.from (slot_child (items g owed.production) slot) found × Prints h found (end_word slot (slots_of g h owed.production owed.parts))
  slot_found numbered task w owed None = (None, refl, refl)
  slot_found numbered task w owed (Some slot) =
      let first : task.parts ≡ task.parts + 0 = omega arith in
      let mean = subst (λ k. ArePartsAt table.nodes.items table.parts.items doc k task.from owed.to owed.parts) first owed.mean in
      let own = subst IsNumbered (sym (keys_are g (items g owed.production) owed.parts owed.fits)) (numbered owed.production) in (
        lookup slot (named g (items g owed.production) owed.parts),
        finds g doc table task.parts task.from slot (items g owed.production) owed.parts Here 0 task.from owed.to refl owed.fits mean,
        prints h (named g (items g owed.production) owed.parts) slot own,
      )

  pub step_owed : HasNumberedSlots g → (task : Task) (step : Step) (w : List ℕ) → rest_steps s.all.items task ≡ step ∷ rest_steps s.all.items (next_task task) → Owed task w → StepOwed g h s doc table task step w
  step_owed numbered task step w next owed =
      let f = first_piece (items g owed.production) step (rest_steps s.all.items (next_task task)) owed.pieces (sym next ∙ owed.steps_are) in
      let found = slot_found numbered task w owed f.piece.slot in
      record {
        there = end_word f.piece.slot (slots_of g h owed.production owed.parts);
        later = pieces_word s.text.items f.later (slots_of g h owed.production owed.parts);
        found = found.0;
        finds = subst (λ (t : Step). Finds g doc table task.parts task.from t.child found.0) (sym f.step_is) found.1;
        prints = found.2;
        owed = record {
          production = owed.production;
          parts = owed.parts;
          to = owed.to;
          fits = owed.fits;
          mean = owed.mean;
          pieces = f.later;
          steps_are = f.rest_is;
          is = refl;
        };
        is = owed.is ∙ ap (λ (l : List Piece). pieces_word s.text.items l (slots_of g h owed.production owed.parts)) f.pieces_are
            ∙ ap (λ (t : Step). (slice_range s.text.items t.begin t.end ++ end_word f.piece.slot (slots_of g h owed.production owed.parts)) ++ pieces_word s.text.items f.later (slots_of g h owed.production owed.parts)) (sym f.step_is);
      }

  -- a step whose slot has no node is done
  child_done : (task : Task) (child : Child) (found : Option Common) (there text : List ℕ) (old new : List ℕ → List ℕ) → Finds g doc table task.parts task.from child found → Prints h found there → IsDone doc table.nodes.items table.parts.items task text old new child → Writes old new (text ++ there)
  child_done task C.Nothing found there text old new leads prints done = λ rest.
      let none : there ≡ [] = subst (λ (o : Option Common). Prints h o there) leads prints in
      done rest ∙ ap (λ w. old (w ++ rest)) (sym (append-nil text)) ∙ ap (λ w. old ((text ++ w) ++ rest)) (sym none)
  child_done task (C.Word begin part) found there text old new (at, to, begins, ends, leads) prints (w, is, done) = λ rest.
      let is_there : there ≡ slice_range doc at to = subst (λ (o : Option Common). Prints h o there) leads prints in
      let from : is.at ≡ at = some_inj is.at at (sym is.begins ∙ begins) in
      let up_to : is.to ≡ to = some_inj is.to to (sym is.ends ∙ ends) in
      let same : w ≡ there = is.is ∙ ap (λ k. slice_range doc k is.to) from ∙ ap (λ k. slice_range doc at k) up_to ∙ sym is_there in
      done rest ∙ ap (λ v. old ((text ++ v) ++ rest)) same
  child_done task (C.Node part) found there text old new leads prints done = absurd done

  -- the node at the slot of a step is to be printed
  child_entered : AreSteps g h s → (task kid : Task) (child : Child) (found : Option Common) (there text : List ℕ) (old new : List ℕ → List ℕ) → Finds g doc table task.parts task.from child found → Prints h found there → IsEntered s.rows.items table.nodes.items table.parts.items task text old new child kid → Owed kid there × Writes old new text
  child_entered steps task kid C.Nothing found there text old new leads prints entered = absurd entered
  child_entered steps task kid (C.Word begin part) found there text old new leads prints entered = absurd entered
  child_entered steps task kid (C.Node part) found there text old new (number, node, ps, numbered, is_node, fit, mean, leads) prints (is, writes) =
      let same : is.number ≡ number = some_inj is.number number (sym is.numbered ∙ numbered) in
      let own : is.node ≡ node = some_node is.node node (sym is.there ∙ ap (slice_get table.nodes.items) same ∙ is_node) in
      let of = subst (λ (n : Node). IsTaskOf s.rows.items n kid) own is.task_is in
      let prints_it : there ≡ print h (made node.production (children (named g (items g node.production) ps))) = subst (λ (o : Option Common). Prints h o there) leads prints in
      (subst (λ w. IsOwed g h s doc table kid w) (sym prints_it) (node_owed node kid ps steps of fit mean), writes)

  pub went_on : HasNumberedSlots g → (tasks : List Task) (task : Task) (step : Step) (w : List ℕ) (old new : List ℕ → List ℕ) → rest_steps s.all.items task ≡ step ∷ rest_steps s.all.items (next_task task) → AllOwed (tasks ++ task ∷ []) w → IsDone doc table.nodes.items table.parts.items task (slice_range s.text.items step.begin step.end) old new step.child → OwedOn g h s doc table tasks (next_task task) new (old w)
  went_on numbered tasks task step w old new next are done =
      let first = owed_pop tasks task w are in
      let so = step_owed numbered task step first.own next first.owed in
      let text = slice_range s.text.items step.begin step.end in
      let writes = child_done task step.child so.found so.there text old new so.finds so.prints done in
      record {
        rest = so.later ++ first.later;
        are = owed_push tasks (next_task task) first.later so.later first.are so.owed;
        is = writes (so.later ++ first.later)
            ∙ ap old (sym (append_assoc (text ++ so.there) so.later first.later) ∙ ap (λ v. v ++ first.later) (sym so.is) ∙ sym first.is);
      }

  -- a task that has no more steps need not be put aside
  aside_owed : (tasks pushed : List Task) (task : Task) (later own : List ℕ) → IsAside task tasks pushed → AllOwed tasks later → Owed task own → AllOwed pushed (own ++ later)
  aside_owed tasks pushed task later own (inl is) are owed = subst (λ (l : List Task). AreOwed g h s doc table l (own ++ later)) (sym is) (owed_push tasks task later own are owed)
  aside_owed tasks pushed task later own (inr (past, is)) are owed =
      let none : own ≡ [] = nothing_owed task own (no_steps task past) owed in
      subst (λ (l : List Task). AreOwed g h s doc table l (own ++ later)) (sym is) (subst (λ v. AreOwed g h s doc table tasks (v ++ later)) (sym none) are)

  pub went_in : HasNumberedSlots g → AreSteps g h s → (tasks pushed : List Task) (task kid : Task) (step : Step) (w : List ℕ) (old new : List ℕ → List ℕ) → rest_steps s.all.items task ≡ step ∷ rest_steps s.all.items (next_task task) → AllOwed (tasks ++ task ∷ []) w → IsEntered s.rows.items table.nodes.items table.parts.items task (slice_range s.text.items step.begin step.end) old new step.child kid → IsAside (next_task task) tasks pushed → OwedOn g h s doc table pushed kid new (old w)
  went_in numbered steps tasks pushed task kid step w old new next are entered aside =
      let first = owed_pop tasks task w are in
      let so = step_owed numbered task step first.own next first.owed in
      let text = slice_range s.text.items step.begin step.end in
      let in_kid = child_entered steps task kid step.child so.found so.there text old new so.finds so.prints entered in
      record {
        rest = so.there ++ (so.later ++ first.later);
        are = owed_push pushed kid (so.later ++ first.later) so.there (aside_owed tasks pushed (next_task task) first.later so.later aside first.are so.owed) in_kid.0;
        is = in_kid.1 (so.there ++ (so.later ++ first.later))
            ∙ ap old (sym (append_assoc text so.there (so.later ++ first.later)) ∙ sym (append_assoc (text ++ so.there) so.later first.later) ∙ ap (λ v. v ++ first.later) (sym so.is) ∙ sym first.is);
      }

  -- the task that was put aside last is gone on with
  pub went_back : (tasks left : List Task) (task last : Task) (w : List ℕ) (out : List ℕ → List ℕ) → rest_steps s.all.items task ≡ [] → AllOwed (tasks ++ task ∷ []) w → tasks ≡ left ++ last ∷ [] → OwedOn g h s doc table left last out (out w)
  went_back tasks left task last w out none are is =
      let first = owed_pop tasks task w are in
      let empty : first.own ≡ [] = nothing_owed task first.own none first.owed in
      record {
        rest = first.later;
        are = subst (λ (l : List Task). AreOwed g h s doc table l first.later) is first.are;
        is = ap out (ap (λ v. v ++ first.later) (sym empty) ∙ sym first.is);
      }

  -- nothing is left
  pub ended : (tasks : List Task) (task : Task) (w : List ℕ) (out : List ℕ → List ℕ) → rest_steps s.all.items task ≡ [] → AllOwed (tasks ++ task ∷ []) w → tasks ≡ [] → out [] ≡ out w
  ended tasks task w out none are is =
      let first = owed_pop tasks task w are in
      let empty : first.own ≡ [] = nothing_owed task first.own none first.owed in
      let rest : first.later ≡ [] = subst (λ (l : List Task). AreOwed g h s doc table l first.later) is first.are in
      ap out (sym rest ∙ ap (λ v. v ++ first.later) (sym empty) ∙ sym first.is)

  -- the last node's task owes what the tree of the derivation prints that the table means
  pub root_owed : AreSteps g h s → (task : Task) → IsLastTask s.rows.items table.nodes.items task → (d : Derivation) → IsTreeOf table doc d → Derives g doc d → AllOwed ([] ++ task ∷ []) (print h (strip g d))
  root_owed steps task last d is derives =
      let place : last.root ≡ is.root = let a = last.last in let b = is.last in omega (arith, a, b) in
      let own : last.node ≡ is.tree.node = some_node last.node is.tree.node (sym last.there ∙ ap (slice_get table.nodes.items) place ∙ is.tree.there) in
      let of = subst (λ (n : Node). IsTaskOf s.rows.items n task) own last.task_is in
      let rule : d.rule ≡ is.tree.node.production = is.tree.rule in
      let fit = subst (λ r. FitsItems g (items g r) d.parts) rule derives.0.1 in
      let owed = node_owed is.tree.node task d.parts steps of fit is.tree.parts in
      let same : print h (strip g d) ≡ print h (made is.tree.node.production (children (named g (items g is.tree.node.production) d.parts))) = ap (λ r. print h (made r (children (named g (items g r) d.parts)))) rule in
      ([], print h (strip g d), refl, subst (λ w. IsOwed g h s doc table task w) (sym same) owed, refl)
