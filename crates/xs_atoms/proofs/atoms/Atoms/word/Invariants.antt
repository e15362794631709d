use Rattle.std.proofs.Common.{◌≡◌, ◌≤◌, ◌+◌, ◌++◌, length, map, replicate, take, vec_capacity}
use Rattle.xs_atoms.specs.Alphabet.{atom_of}
use Rattle.xs_atoms.proofs.atoms.Atoms.word.Given as goal

abbrev pub invariant-symbols : goal.invariant-symbols
invariant-symbols l = record {
  so_far : l.atoms.items ≡ map (atom_of l.self) (take l.symbol-index l.doc);
  room : length l.doc + l.padding ≤ vec_capacity l.atoms;
}

abbrev pub invariant-ends : goal.invariant-ends
invariant-ends l = record {
  so_far : l.atoms.items ≡ map (atom_of l.self) l.doc ++ replicate l.counter l.self.count;
  room : length l.doc + l.padding ≤ vec_capacity l.atoms;
}
