use Rattle.std.proofs.Common.{arith}
use Rattle.xs_flat.proofs.Flat.{pushed}
use Rattle.xs_flat.proofs.lists.FlatLists.push.Goals as goal

pub invariant_of-self-2 : goal.invariant_of-self-2
invariant_of-self-2 g c =
    let is = c.len.ensures in
    (pushed c.self.inside.all.items c.args.list.now _ c.self.inside.ends.items _ _ c.len.result _ c.self.view_is c.self.invariant c.in_ok-append.ensures.ok (omega (arith, is)) c.reserve.ensures.items c.push_reserved.ensures.items).0

pub returns-clause-ok : goal.returns-clause-ok
returns-clause-ok g c =
    let is = c.len.ensures in
    (pushed c.self.inside.all.items c.args.list.now _ c.self.inside.ends.items _ _ c.len.result _ c.self.view_is c.self.invariant c.in_ok-append.ensures.ok (omega (arith, is)) c.reserve.ensures.items c.push_reserved.ensures.items).1
