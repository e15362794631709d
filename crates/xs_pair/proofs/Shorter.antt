-- How long lists of names and of slots are.
use Rattle.std.proofs.Common.{◌≡◌, ◌≤◌, ◌+◌, refl, ℕ, suc, List, [], ◌∷◌, ◌++◌, length, map, Some, None, Bool, true, false, cond, arith, length-append}
use Rattle.std.specs.Prelude.{filter}
use Rattle.std.specs.declared.option.Option.{Option}
use Rattle.xs_class.specs.Ordered.{place_of}
use Rattle.xs_sheet.specs.declared.unit.Unit.{Unit}
use Rattle.xs_sheet.specs.declared.item.Item.{Item}
use Rattle.xs_sheet.specs.declared.item.Item.TheVariants as I
use Rattle.xs_pair.specs.declared.mark.Mark.{Mark}
use Rattle.xs_pair.specs.declared.mark.Mark.TheVariants.{Opening, Attribute, AttributeEnd, Closing, Value, Content}
use Rattle.xs_pair.specs.declared.names.Sort.{Sort}
use Rattle.xs_pair.specs.Units.{names_of, is_of, unit_name, with_name, with_names, firsts}
use Rattle.xs_pair.specs.Marks.{item_slots, mark_slots, slots_of}
use Rattle.xs_pair.specs.Weights.{item_weight, mark_weight, marks_weight}

pub names_short : (sort : Sort) (us : List Unit) → length (names_of sort us) ≤ length us
names_short sort [] = omega arith
names_short sort (u ∷ us) = by_test (is_of sort u) refl (names_short sort us)
  where
    by_test : (b : Bool) → is_of sort u ≡ b → length (names_of sort us) ≤ length us → length (map unit_name (cond b (u ∷ filter (is_of sort) us) (filter (is_of sort) us))) ≤ suc (length us)
    by_test true t rest = omega arith
    by_test false t rest = omega arith

with_name_short : (ns : List (List ℕ)) (n : List ℕ) → length (with_name ns n) ≤ length ns + 1
with_name_short ns n = by_case (place_of ns n)
  where
    by_case : (o : Option ℕ) → length {A = List ℕ} (elim o [ None ↦ ns ++ n ∷ [] | Some k ↦ ns ]) ≤ length ns + 1
    by_case None = omega (arith, length-append ns (n ∷ []))
    by_case (Some k) = omega arith

with_names_short : (ns list : List (List ℕ)) → length (with_names ns list) ≤ length ns + length list
with_names_short ns [] = omega arith
with_names_short ns (n ∷ list) = omega (arith, with_name_short ns n, with_names_short (with_name ns n) list)

pub firsts_short : (list : List (List ℕ)) → length (firsts list) ≤ length list
firsts_short list = omega (arith, with_names_short [] list)

item_slots_short : (i : Item) → length (item_slots i) ≤ item_weight i
item_slots_short (I.Fixed text) = omega arith
item_slots_short (I.Named name slot) = omega arith
item_slots_short (I.Skip name) = omega arith

mark_slots_short : (m : Mark) → length (mark_slots m) ≤ mark_weight m
mark_slots_short (Opening tag names) = omega arith
mark_slots_short (Attribute name) = omega arith
mark_slots_short AttributeEnd = omega arith
mark_slots_short (Closing tag) = omega arith
mark_slots_short (Value i) = item_slots_short i
mark_slots_short (Content i) = item_slots_short i

pub slots_short : (ms : List Mark) → length (slots_of ms) ≤ marks_weight ms
slots_short [] = omega arith
slots_short (m ∷ ms) = omega (arith, length-append (mark_slots m) (slots_of ms), mark_slots_short m, slots_short ms)
