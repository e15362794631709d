use Rattle.xs_tree.proofs.Shapes.{grown_shapes, stored_shape, different_parts}
use Rattle.xs_tree.proofs.table.number_of.Goals as goal

pub returns-clause-stored : goal.returns-clause-stored
returns-clause-stored c = stored_shape c.insert_full.new.self.keys c.args.shape _ c.in_ok-number.ensures.stored

pub returns-clause-grown : goal.returns-clause-grown
returns-clause-grown c = grown_shapes c.args.shapes.now.keys c.insert_full.new.self.keys c.args.shape c.in_ok-number.ensures.keys

pub returns-clause-different : goal.returns-clause-different
returns-clause-different c = different_parts c.insert_full.new.self.keys c.insert_full.ensures.unique
