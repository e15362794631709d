-- Marks of the rows that the first alternatives reach.
use Rattle.std.specs.Prelude.{◌≡◌, ℕ, zero, ◌≤◌, List, length, Bool, true, false, None, Some, slice_get, slice_index_or, slice_set}
use Rattle.std.specs.declared.option.Option.{Option}
use Rattle.xs_forest.specs.declared.row.Alt.{Alt}
use Rattle.xs_forest_laws.specs.Forest.{Forest, key_of, alts_of, Unfolding}
use Rattle.xs_forest_laws.specs.First.{IsFirst}

-- the alternative is the row's first
abbrev pub IsFirstAlt : Forest → ℕ → Alt → Type 0
IsFirstAlt f r a = slice_get (alts_of f r) zero ≡ Some a

-- the row has an unfolding by first alternatives, and begins within the document
pub record IsReady (w : List ℕ) (f : Forest) (r : ℕ) : Type 0 where
  pub chosen : Unfolding
  pub first : IsFirst f (Some r) chosen
  pub inside : (key_of f r).start ≤ length w

-- row r is marked
abbrev pub IsMarked : List Bool → ℕ → Type 0
IsMarked marks r = slice_get marks r ≡ Some true

-- the row that is the child is marked
abbrev pub IsMarkedChild : List Bool → Option ℕ → Type 0
IsMarkedChild marks None = Unit {0}
IsMarkedChild marks (Some c) = IsMarked marks c

-- Marked rows are ready, and for those from one on the children by the first alternative are marked too.
pub record AreMarked (w : List ℕ) (f : Forest) (marks : List Bool) (from : ℕ) : Type 0 where
  pub ready : (r : ℕ) → IsMarked marks r → IsReady w f r
  pub lefts : (r : ℕ) (a : Alt) → from ≤ r → IsMarked marks r → IsFirstAlt f r a → IsMarkedChild marks a.left
  pub rights : (r : ℕ) (a : Alt) → from ≤ r → IsMarked marks r → IsFirstAlt f r a → IsMarkedChild marks a.right

-- the marks with one more, that of the child
abbrev pub with_mark : Option ℕ → List Bool → List Bool
with_mark None marks = marks
with_mark (Some c) marks = slice_set marks c true

-- the marks with those of the children of the first alternative, if there is one
abbrev pub with_children : Option Alt → List Bool → List Bool
with_children None marks = marks
with_children (Some a) marks = with_mark a.right (with_mark a.left marks)

-- the same, if the row is marked
abbrev pub passed : Bool → Option Alt → List Bool → List Bool
passed false o marks = marks
passed true o marks = with_children o marks

abbrev pub pass : Forest → ℕ → List Bool → List Bool
pass f r marks = passed (slice_index_or marks r false) (slice_get (alts_of f r) zero) marks
