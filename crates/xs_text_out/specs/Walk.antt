-- The nodes that a walk over a flat tree is in, the innermost last, and what is still to be printed of them.
use Rattle.std.specs.Prelude.{◌≡◌, ◌⊎◌, Bool, true, false, ℕ, suc, ◌+◌, ◌*◌, ◌^◌, ◌<◌, List, [], ◌∷◌, ◌++◌, length, take, drop, Option, None, Some, slice_get}
use Rattle.xs_gram.specs.Grammar.{Grammar}
use Rattle.xs_gram.specs.Common.{print}
use Rattle.xs_tree.specs.Flat.{Flat, common_at, kids_of, trees_of, word_of}
use Rattle.xs_text_out.specs.declared.pieces.Piece.{Piece}
use Rattle.xs_text_out.specs.declared.pieces.Pieces.{Pieces}
use Rattle.xs_text_out.specs.declared.walk.Child.{Child}
use Rattle.xs_text_out.specs.declared.walk.Child.TheVariants.{Word, Node}
use Rattle.xs_text_out.specs.declared.walk.Entry.{Entry}
use Rattle.xs_text_out.specs.declared.walk.Task.{Task}
use Rattle.xs_text_out.specs.Pieces.{pieces_word}
use Rattle.xs_text_out.specs.Printed.{slot_word}

-- the pieces of a node that are still to be printed
abbrev pub rest_pieces : Pieces → Task → List Piece
rest_pieces p task = drop task.place (take task.end p.all.items)

-- what is printed at the slots of a node
abbrev pub slots_at : Grammar → Flat → ℕ → ℕ → List ℕ
slots_at g f part slot = slot_word g (trees_of f.parts) (kids_of (slice_get f.parts part)) slot

-- what the pieces print that are still to be printed
abbrev pub rest_word : Grammar → Pieces → Flat → Task → List ℕ
rest_word g p f task = pieces_word p.text.items (rest_pieces p task) (slots_at g f task.part)

-- what is still to be printed in all, that of the last node first
abbrev pub pending : Grammar → Pieces → Flat → List Task → List ℕ
pending g p f [] = []
pending g p f (task ∷ tasks) = pending g p f tasks ++ rest_word g p f task

-- the nodes fall, from below a number on
abbrev pub AreFalling : ℕ → List Task → Type 0
AreFalling below [] = Unit {0}
AreFalling below (task ∷ tasks) = (task.part < below) × AreFalling task.part tasks

-- the part has begun: it is a node that the walk is in, or there is nothing more to be done of it
abbrev pub IsBegun : ℕ → List Task → List Task → Type 0
IsBegun part old new = (new ≡ old) ⊎ ((task : Task) × (task.part ≡ part) × (new ≡ old ++ task ∷ []))

-- a node that is to be gone on with is put last, if it has more pieces
abbrev pub IsAside : Bool → Task → List Task → List Task → Type 0
IsAside true task old new = new ≡ old ++ task ∷ []
IsAside false task old new = new ≡ old

-- the part is a node before another part
pub record IsNodeBefore (f : Flat) (part kid : ℕ) : Type 0 where
  pub before : kid < part
  pub node : None ≡ word_of (slice_get f.parts kid)

-- what stands at a slot of a part is a word, or a node before the part
abbrev pub IsNodeChild : Flat → ℕ → Child → Type 0
IsNodeChild f part (Word w) = Unit {0}
IsNodeChild f part (Node kid) = IsNodeBefore f part kid

-- what is printed of what stands at a slot
abbrev pub child_word : Grammar → Flat → Child → List ℕ
child_word g f (Word w) = w.now
child_word g f (Node kid) = print g (common_at f kid)

-- what is still to be printed of a piece: a child, or nothing
abbrev pub entered_word : Grammar → Flat → Option ℕ → List ℕ
entered_word g f None = []
entered_word g f (Some kid) = print g (common_at f kid)

-- what is still to be printed of a node from a child on, or nothing
abbrev pub entry_word : Grammar → Pieces → Flat → Task → Option Entry → List ℕ
entry_word g p f task None = []
entry_word g p f task (Some entry) = print g (common_at f entry.kid) ++ rest_word g p f (record { part = task.part; place = entry.next; end = task.end })

-- the child is a node before the task's part, and fewer pieces are still to be printed after it, or
-- none
pub record IsEntry (p : Pieces) (f : Flat) (task : Task) (entry : Entry) : Type 0 where
  pub kid : IsNodeBefore f task.part entry.kid
  pub less : length (rest_pieces p (record { part = task.part; place = entry.next; end = task.end })) < length (rest_pieces p task)
  pub last : entry.more ≡ false → rest_pieces p (record { part = task.part; place = entry.next; end = task.end }) ≡ []

-- a base above the number of all pieces and one
abbrev pub base : Pieces → ℕ
base p = suc (suc (length p.all.items))

-- How much there is to do at most: a number in that base, whose digit at a node's place is one more
-- than the number of its pieces that are still to be printed.
abbrev pub left_over : Pieces → List Task → ℕ
left_over p [] = 0
left_over p (task ∷ tasks) = suc (length (rest_pieces p task)) * base p ^ task.part + left_over p tasks
