use Rattle.std.proofs.Common.{arith, List, ℕ}
use Rattle.std.proofs.lemmas.List.{length-map}
use Rattle.xs_pair.specs.Marks.{slots_of}
use Rattle.xs_pair.proofs.Shorter.{slots_short}
use Rattle.xs_pair.proofs.slots.slot_directory.Goals as goal

pub of-requires : goal.of-requires
of-requires c = rw c.in_ok-names.ensures (omega (arith, length-map (slots_of c.args.marks.now) (λ (s : List ℕ × List ℕ). s.0), slots_short c.args.marks.now, c.requires))
