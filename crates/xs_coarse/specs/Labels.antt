-- What the labels of a grammar are, and how they are found.
use Rattle.std.specs.Prelude.{◌≡◌, ℕ, zero, suc, ◌+◌, ◌*◌, ◌<◌, Bool, true, false, List, [], ◌∷◌, ◌++◌, length, map, set, get_or, slice_get, Some}
use Rattle.std.specs.List.{filter}
use Rattle.xs_class.specs.Classes.{Has}
use Rattle.xs_gram.specs.declared.parts.GItem.{GItem}
use Rattle.xs_gram.specs.declared.parts.GItem.TheVariants.{Fixed, Term, Non, Skip}
use Rattle.xs_gram.specs.Grammar.{Grammar}
use Rattle.xs_gram.specs.Fences.{spread, is_left, IsUnfenced}
use Rattle.xs_gram.specs.Spreading.{opens}
use Rattle.xs_loose.specs.Groups.{groups_count, group_number}
use Rattle.xs_coarse.specs.Coarse.{Table, class_label, group_label, label_count, MayCall, IsTable}
use Rattle.xs_coarse.specs.Covers.{AreUnfenced}

-- the label is that of the class
pub record IsClassLabel (classes : List (List (ℕ × ℕ))) (class : List (ℕ × ℕ)) (label : ℕ) : Type 0 where
  pub number : ℕ
  pub is : label ≡ class_label number
  pub there : slice_get classes number ≡ Some class

-- the labels are those of the grammar: no class has a fence symbol, each group has a label, and 16 bits
-- count them
pub record IsLabelsOf (g : Grammar) (t : Table) : Type 0 where
  pub unfenced : AreUnfenced g t
  pub groups : t.groups ≡ groups_count g
  pub few : label_count t < 65536

-- so they are, and groups with one left fence symbol may read a common word
pub record AreNewLabels (g : Grammar) (t : Table) : Type 0 where
  pub labels : IsLabelsOf g t
  pub calls : (p q j k l : ℕ) → p < length g.rules → q < length g.rules → slice_get (spread g p) j ≡ Some (Fixed (l ∷ [])) → slice_get (spread g q) k ≡ Some (Fixed (l ∷ [])) → is_left g.fences l ≡ true → MayCall t (group_number g p j) (group_number g q k)

-- the place of the bit of two labels
abbrev pub cell : Table → ℕ → ℕ → ℕ
cell t l k = l * label_count t + k

-- two groups are known to read no common word
abbrev pub parted : Table → ℕ → ℕ → Table
parted t h k = record {
  classes = t.classes;
  groups = t.groups;
  bits = set (set t.bits (cell t (group_label t h) (group_label t k)) false) (cell t (group_label t k) (group_label t h)) false;
}

-- no class has a fence symbol
abbrev pub AllUnfenced : List (ℕ × ℕ) → List (List (ℕ × ℕ)) → Type 0
AllUnfenced fences classes = (c : ℕ) → IsUnfenced fences (get_or classes c [])

-- the first symbol of an item that is a fixed word
abbrev pub first_symbol : GItem → ℕ
first_symbol (Fixed []) = 0
first_symbol (Fixed (s ∷ w)) = s
first_symbol (Term t s) = 0
first_symbol (Non n s) = 0
first_symbol (Skip k) = 0

-- the left fences among items, and those of the rules before one, in order
abbrev pub lefts_of : List (ℕ × ℕ) → List GItem → List ℕ
lefts_of fs is = map first_symbol (filter (opens fs) is)

abbrev pub lefts_before : Grammar → ℕ → List ℕ
lefts_before g zero = []
lefts_before g (suc p) = lefts_before g p ++ lefts_of g.fences (spread g p)

-- the bit of two labels, by the classes and by the left fence symbols of the groups
pub record IsCell (classes : List (List (ℕ × ℕ))) (lefts : List ℕ) (l k : ℕ) (bit : Bool) : Type 0 where
  pub by_class : (c d s : ℕ) → l ≡ suc c → k ≡ suc d → Has (get_or classes c []) s → Has (get_or classes d []) s → bit ≡ true
  pub by_fence : (h i : ℕ) → l ≡ suc (length classes + h) → k ≡ suc (length classes + i) → h < length lefts → i < length lefts → get_or lefts h 0 ≡ get_or lefts i 0 → bit ≡ true

-- what is kept of the labels
pub record AreKept (t : Table) (width : ℕ) : Type 0 where
  pub wide : width ≡ label_count t
  pub small : width < 65536
  pub table : IsTable t
