use Rattle.std.proofs.Common.{◌≡◌, length}
use Rattle.xs_table_out.specs.Encoded.{AreEncodedSoFar}
use Rattle.xs_table_out.proofs.text.encode_all.Given as goal

abbrev pub invariant-steps : goal.invariant-steps
invariant-steps l = record {
  long : length l.all.items ≡ l.step-index;
  encoded : AreEncodedSoFar l.fn.steps l.bytes.items l.all.items;
}
