use Rattle.std.proofs.Common.{◌≡◌, ℕ, ◌<◌, None, length}
use Rattle.xs_tree.specs.Flat.{tree_at, trees_of}
use Rattle.xs_outline.specs.Machine.{give}
use Rattle.xs_outline.specs.Reader.{frames, IsFree, IsKept}
use Rattle.xs_outline.proofs.reader.Reader.give.Given as goal

abbrev pub invariant-nodes : goal.invariant-nodes
invariant-nodes l = record {
  root : l.self.root ≡ None;
  part : l.part < length l.self.parts;
  free : IsFree (frames l.two l.self) l.slot;
  kept : (bound : ℕ) → IsKept l.two bound l.initial.self → IsKept l.two bound l.self;
  same : give (frames l.two l.self) l.slot (tree_at (trees_of l.self.parts) l.part) ≡ give (frames l.two l.initial.self) l.initial.slot (tree_at (trees_of l.initial.self.parts) l.initial.part);
}

abbrev pub decreases-nodes : goal.decreases-nodes
decreases-nodes l = length l.self.open.items
