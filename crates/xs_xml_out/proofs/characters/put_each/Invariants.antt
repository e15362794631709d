use Rattle.std.proofs.Common.{◌≡◌, ℕ, List, ◌+◌, ◌*◌, ◌-◌, ◌≤◌, length, take, drop, vec_len, vec_capacity}
use Rattle.std.specs.Str.{all_scalars}
use Rattle.xs_xml_out.specs.Spelling.{mode_of}
use Rattle.xs_xml_out.specs.Written.{IsAppended}
use Rattle.xs_xml_out.proofs.characters.put_each.Given as goal

abbrev pub invariant-symbols : goal.invariant-symbols
invariant-symbols l = record {
  characters : all_scalars l.word ≡ all_scalars (drop l.symbol-index l.word);
  so_far : (names : List (List ℕ)) → IsAppended names (mode_of l.in_value) (take l.symbol-index l.word) l.initial.out.items l.out.items (mode_of l.in_value);
  room : vec_len l.out + 6 * (length l.word - l.symbol-index) ≤ vec_capacity l.out;
}
