use Rattle.std.proofs.Common.{◌≡◌, ◌≤◌, ◌++◌, take, vec_capacity}
use Rattle.xs_text_out.proofs.walk.append_each.Given as goal

abbrev pub invariant-symbols : goal.invariant-symbols
invariant-symbols l = record {
  so_far : l.symbols.items ≡ l.initial.symbols.items ++ take l.symbol-index l.piece;
  room : vec_capacity l.initial.symbols ≤ vec_capacity l.symbols;
}
