use Rattle.std.specs.Prelude.{replicate}
use Rattle.xs_atoms.specs.Alphabet.{count_of}
use Rattle.xs_lr.specs.declared.reader.TheConstants.{PADDING}
use Rattle.std.proofs.Common.{◌∙◌}
use Rattle.xs_document_tests.proofs.tests.parse_table.passes.Goals as goal

pub validate-requires-clause-ready : goal.validate-requires-clause-ready
validate-requires-clause-ready c = record {
  atoms = c.args.atoms.now;
  are = c.requires.atoms;
  of = c.in_ok-validator.ensures;
  more = replicate PADDING (count_of c.args.atoms.now);
  front = c.deref.ensures.value ∙ c.in_ok-word.ensures;
}
