use Rattle.xs_gram.specs.Grammar.{term_of}
use Rattle.xs_parse_table.proofs.Building.{longer_moves}
use Rattle.xs_parse_table.proofs.validator.Validator.of.Goals as goal

pub returns : goal.returns
returns c = record {
  count = c.count.ensures.count;
  terms = λ t s l e. longer_moves (term_of c.args.g.now t).automaton c.args.atoms.now c.moves_of.new.cells.items c.moves_of-2.new.cells.items s c.in_ok-skips.ensures.cells (c.in_ok-terms.ensures.moves t s l e);
  skips = c.in_ok-skips.ensures.moves;
}
