use Rattle.std.proofs.Common.{arith}
use Rattle.xs_flat.proofs.Flat.{length_seen}
use Rattle.xs_flat.proofs.lists.FlatLists.len.Goals as goal

pub returns : goal.returns
returns g c = let same = length_seen c.self.inside.all.items c.self.inside.ends.items c.args.self.now c.self.view_is in omega (arith, same)
