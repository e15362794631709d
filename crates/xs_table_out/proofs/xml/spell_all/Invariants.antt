use Rattle.std.proofs.Common.{◌≡◌, length, string_bytes}
use Rattle.xs_table_out.specs.Spelt.{AreSpeltSoFar}
use Rattle.xs_table_out.proofs.xml.spell_all.Given as goal

abbrev pub invariant-steps : goal.invariant-steps
invariant-steps l = record {
  long : length l.all.items ≡ l.step-index;
  spelt : AreSpeltSoFar l.fn.names l.fn.steps (string_bytes l.text) l.all.items;
}
