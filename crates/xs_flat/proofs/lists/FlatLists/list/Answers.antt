use Rattle.std.proofs.Common.{◌≡◌, [], length, get_or, slice_range, sym, ◌∙◌, ap, arith}
use Rattle.std.proofs.lemmas.List.{get_or_default}
use Rattle.xs_flat.specs.Flat.{begin_of}
use Rattle.xs_flat.proofs.Flat.{length_seen, list_at, placed}
use Rattle.xs_flat.proofs.lists.FlatLists.list.Goals as goal

pub begin_of-begin-requires : goal.begin_of-begin-requires
begin_of-begin-requires g c =
    let p = placed c.self.inside.all.items c.self.inside.ends.items c.args.self.now c.args.k c.self.view_is c.self.invariant c.requires in
    let view : length c.deref.result.now ≡ length c.self.inside.ends.items = ap length c.deref.ensures.value in
    omega (arith, p.0, view)

pub index-requires : goal.index-requires
index-requires g c =
    let same = length_seen c.self.inside.all.items c.self.inside.ends.items c.args.self.now c.self.view_is in
    omega (arith, same, c.requires)

pub stretch-requires-clause-from : goal.stretch-requires-clause-from
stretch-requires-clause-from g c =
    let ends = c.self.inside.ends.items in
    let p = placed c.self.inside.all.items ends c.args.self.now c.args.k c.self.view_is c.self.invariant c.requires in
    let begin : c.begin_of-begin.result ≡ begin_of 0 ends c.args.k = c.begin_of-begin.ensures ∙ ap (λ e. begin_of 0 e c.args.k) c.deref.ensures.value in
    let end : c.index.result.now ≡ get_or ends c.args.k 0 = c.index.ensures ∙ get_or_default ends c.args.k c.index.result.now 0 p.0 in
    omega (arith, begin, end, p.1)

pub stretch-requires-clause-end : goal.stretch-requires-clause-end
stretch-requires-clause-end g c =
    let ends = c.self.inside.ends.items in
    let p = placed c.self.inside.all.items ends c.args.self.now c.args.k c.self.view_is c.self.invariant c.requires in
    let end : c.index.result.now ≡ get_or ends c.args.k 0 = c.index.ensures ∙ get_or_default ends c.args.k c.index.result.now 0 p.0 in
    let view : length c.deref-2.result.now ≡ length c.self.inside.all.items = ap length c.deref-2.ensures.value in
    omega (arith, end, p.2, view)

pub returns : goal.returns
returns g c =
    let all = c.self.inside.all.items in
    let ends = c.self.inside.ends.items in
    let p = placed all ends c.args.self.now c.args.k c.self.view_is c.self.invariant c.requires in
    let begin : c.begin_of-begin.result ≡ begin_of 0 ends c.args.k = c.begin_of-begin.ensures ∙ ap (λ e. begin_of 0 e c.args.k) c.deref.ensures.value in
    let end : c.index.result.now ≡ get_or ends c.args.k 0 = c.index.ensures ∙ get_or_default ends c.args.k c.index.result.now 0 p.0 in
    c.stretch.ensures
    ∙ ap (λ a. slice_range a c.begin_of-begin.result c.index.result.now) c.deref-2.ensures.value
    ∙ ap (λ b. slice_range all b c.index.result.now) begin
    ∙ ap (slice_range all (begin_of 0 ends c.args.k)) end
    ∙ sym (list_at all 0 ends c.args.k p.0)
    ∙ ap (λ l. get_or l c.args.k []) c.self.view_is
