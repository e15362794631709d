-- What is found of the slots of productions by their names.
use Rattle.std.specs.Prelude.{◌≡◌, ℕ, ◌<◌, List, length, map, None, Some, slice_get, slice_index_or}
use Rattle.std.specs.declared.option.Option.{Option}
use Rattle.std.specs.Global.{Vec}
use Rattle.xs_gram.specs.Common.{Kind, of_term, of_non}
use Rattle.xs_pair.specs.Grammars.{Pair}
use Rattle.xs_outline.specs.declared.slot_table.Kind.{Kind as Known}
use Rattle.xs_outline.specs.declared.slot_table.Kind.TheVariants as K
use Rattle.xs_outline.specs.declared.slot_table.SlotTable.{SlotTable}
use Rattle.xs_outline.specs.Shapes.{names_of, slot_count, kind_at}

abbrev pub kind_meant : Known → Kind
kind_meant (K.Term t) = of_term t
kind_meant (K.Non n) = of_non n

abbrev pub known : Option Known → Option Kind
known None = None
known (Some k) = Some (kind_meant k)

abbrev pub kind_in : List (Option Known) → ℕ → Option Kind
kind_in kinds s = known (slice_index_or kinds s None)

-- the first, or else the second
abbrev pub either : Option Kind → Option Kind → Option Kind
either None second = second
either (Some k) second = Some k

-- names as lists of symbols
abbrev pub name_list : List (Vec ℕ) → List (List ℕ)
name_list keys = map (λ v. v.items) keys

-- the names of a production's slots in order, and what may stand at each
pub record IsTable (p : Pair) (q : ℕ) (row : SlotTable) : Type 0 where
  pub names : name_list row.names.keys ≡ names_of p q
  pub long : length row.kinds.items ≡ slot_count p q
  pub kinds : (s : ℕ) → s < slot_count p q → kind_in row.kinds.items s ≡ kind_at p q s

pub record AreTables (p : Pair) (rows : List SlotTable) : Type 0 where
  pub long : length rows ≡ length p.text.rules
  pub each : (q : ℕ) (row : SlotTable) → slice_get rows q ≡ Some row → IsTable p q row
