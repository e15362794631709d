use Rattle.std.proofs.Common.{◌≡◌, length, ◌∙◌, ap, arith}
use Rattle.xs_flat.specs.Flat.{begin_of}
use Rattle.xs_flat.proofs.Flat.{length_seen, shortened}
use Rattle.xs_flat.proofs.lists.FlatLists.truncate.Goals as goal

pub begin_of-begin-requires : goal.begin_of-begin-requires
begin_of-begin-requires g c =
    let same = length_seen c.self.inside.all.items c.self.inside.ends.items c.args.self.now c.self.view_is in
    let view : length c.deref.result.now ≡ length c.self.inside.ends.items = ap length c.deref.ensures.value in
    omega (arith, same, c.requires, view)

pub invariant_of-self : goal.invariant_of-self
invariant_of-self g c =
    let begins = c.begin_of-begin.ensures ∙ ap (λ e. begin_of 0 e c.args.lists) c.deref.ensures.value in
    (shortened c.self.inside.all.items _ c.self.inside.ends.items _ c.args.lists _ _ c.self.view_is c.self.invariant c.requires begins c.truncate.ensures.items c.truncate-2.ensures.items).0

pub returns : goal.returns
returns g c =
    let begins = c.begin_of-begin.ensures ∙ ap (λ e. begin_of 0 e c.args.lists) c.deref.ensures.value in
    (shortened c.self.inside.all.items _ c.self.inside.ends.items _ c.args.lists _ _ c.self.view_is c.self.invariant c.requires begins c.truncate.ensures.items c.truncate-2.ensures.items).1
