-- What is still to be written of a derivation, and what one step of the writing does.
use Rattle.std.specs.Prelude.{◌≡◌, ℕ, suc, ◌-◌, ◌^◌, ◌<◌, ◌≤◌, List, [], ◌∷◌, ◌++◌, length, take, drop, map, None, Some}
use Rattle.std.specs.List.{sum_by}
use Rattle.std.specs.declared.option.Option.{Option}
use Rattle.xs_gram.specs.declared.parts.GItem.{GItem}
use Rattle.xs_gram.specs.declared.parts.GItem.TheVariants.{Fixed, Term, Non, Skip as Ignored}
use Rattle.xs_gram.specs.Grammar.{Grammar, items}
use Rattle.xs_gram.specs.Derivations.{Parts}
use Rattle.xs_forest_laws.specs.declared.span.SpanKey.{SpanKey}
use Rattle.xs_forest_laws.specs.declared.span.What.{What}
use Rattle.xs_forest_laws.specs.declared.span.What.TheVariants.{Whole, Front}
use Rattle.xs_forest_laws.specs.Forest.{Forest, key_of, alts_of, item_of, end_of, IsRight}
use Rattle.xs_forest_laws.specs.Number.{alts_count, IsCounted, IsChosen}
use Rattle.xs_forest_laws.specs.Walk.{AreAt}
use Rattle.xs_listing.specs.declared.count.Chosen.{Chosen}
use Rattle.xs_listing.specs.declared.spelt.SpeltPart.{SpeltPart}
use Rattle.xs_listing.specs.declared.spelt.SpeltPart.TheVariants.{Node, Leaf, Skip}
use Rattle.xs_listing.specs.declared.write.Source.{Source}
use Rattle.xs_listing.specs.declared.write.Task.{Task}
use Rattle.xs_listing.specs.declared.write.Task.TheVariants.{Visit, Word, Close}
use Rattle.xs_listing.specs.Spelt.{flat_of, AreInOrder}

-- the task of a child's unfolding, and none where there is no child
abbrev pub child_task : Option ℕ → ℕ → List Task
child_task None number = []
child_task (Some r) number = Visit r number ∷ []

-- the task of a front's last item
abbrev pub item_task : ℕ → ℕ → ℕ → ℕ → Option ℕ → ℕ → Task
item_task p d i j None number = Word p d i j
item_task p d i j (Some r) number = Visit r number

-- the task that comes after the left child's
abbrev pub last_task : Forest → What → SpanKey → Chosen → ℕ → Task
last_task f (Whole n) k c from = Close c.alt.rule from
last_task f (Front p d) k c from = item_task p (d - 1) (end_of f k.start c.alt.left) k.end c.alt.right c.right

-- The tasks of an unfolding of row r by its number, where the next node's kids stand from a place on; the next
-- task is the last.
pub record IsVisited (f : Forest) (cap : ℕ) (cs : List ℕ) (r number from : ℕ) (old new : List Task) : Type 0 where
  pub alt_number : ℕ
  pub found : Chosen
  pub is : IsChosen cap cs (alts_of f r) number alt_number found.left found.right found.alt
  pub tasks : new ≡ (old ++ last_task f (key_of f r).what (key_of f r) found from ∷ []) ++ child_task found.alt.left found.left

-- the parts that are written, and the places of those that are no kids yet
abbrev pub Added : List SpeltPart → List ℕ → SpeltPart → List SpeltPart → List ℕ → Type 0
Added parts places part parts' places' = (parts' ≡ parts ++ part ∷ []) × (places' ≡ places ++ length parts ∷ [])

-- the word of an item is written, which a fixed word needs not
abbrev pub IsWordWritten : GItem → ℕ → ℕ → List SpeltPart → List ℕ → List SpeltPart → List ℕ → Type 0
IsWordWritten (Fixed v) i j parts places parts' places' = (parts' ≡ parts) × (places' ≡ places)
IsWordWritten (Non n s) i j parts places parts' places' = (parts' ≡ parts) × (places' ≡ places)
IsWordWritten (Term t s) i j parts places parts' places' = Added parts places (Leaf i j) parts' places'
IsWordWritten (Ignored k) i j parts places parts' places' = Added parts places (Skip i j) parts' places'

-- what doing a task does to the tasks and to what is written
abbrev pub IsDone : Grammar → Forest → ℕ → List ℕ → Task → List Task → List SpeltPart → List ℕ → List Task → List SpeltPart → List ℕ → Type 0
IsDone g f cap cs (Visit r k) tasks parts places tasks' parts' places' = IsVisited f cap cs r k (length places) tasks tasks' × (parts' ≡ parts) × (places' ≡ places)
IsDone g f cap cs (Word p d i j) tasks parts places tasks' parts' places' = (tasks' ≡ tasks) × IsWordWritten (item_of g p d) i j parts places parts' places'
IsDone g f cap cs (Close q n) tasks parts places tasks' parts' places' = (tasks' ≡ tasks) × Added parts (take n places) (Node q (drop n places)) parts' places'

-- the forest is right, and each row's unfoldings are counted up to the cap
pub record IsSource (s : Source) : Type 0 where
  pub right : IsRight s.g.now s.doc.now s.forest.now
  pub long : length s.counts.now ≡ length s.forest.now
  pub counted : IsCounted s.forest.now s.cap s.counts.now

-- the row that is a child, if there is one, is there and begins within the document
abbrev pub HasChild : Source → Option ℕ → Type 0
HasChild s None = Unit {0}
HasChild s (Some r) = (r < length s.forest.now) × ((key_of s.forest.now r).start ≤ length s.doc.now)

-- the row has an unfolding of the number
pub record CanVisit (s : Source) (r number : ℕ) : Type 0 where
  pub there : r < length s.forest.now
  pub within : number < alts_count s.cap s.counts.now (alts_of s.forest.now r)

-- the row, the item and the places of a task are there
abbrev pub CanDo : Source → Task → ℕ → Type 0
CanDo s (Visit r k) count = CanVisit s r k
CanDo s (Word p d i j) count = (p < length s.g.now.rules) × (d < length (items s.g.now p))
CanDo s (Close q n) count = n ≤ count

-- How much a task is to do at most: a visit leaves two tasks, and those of them that are visits are of earlier rows.
abbrev pub work : Task → ℕ
work (Visit r k) = 3 ^ suc r
work (Word p d i j) = 1
work (Close q n) = 1

-- how much the tasks are to do at most
abbrev pub work_left : List Task → ℕ
work_left tasks = sum_by work tasks

-- the parts at the places are those of a derivation that are no fixed words, and the list is in order
pub record AreWritten (w : List ℕ) (ps : Parts) (parts : List SpeltPart) (places : List ℕ) : Type 0 where
  pub at : AreAt w (map flat_of parts) ps places
  pub in_order : AreInOrder w parts
