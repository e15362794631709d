use Rattle.std.proofs.Common.{length, ap, subst, arith}
use Rattle.std.proofs.lemmas.Option.{slice_get_within}
use Rattle.xs_class.proofs.Lists.{len_is}
use Rattle.xs_grow.proofs.Marking.{IsDown, down_start, down_at, down_next, down_end}
use Rattle.xs_grow.proofs.marks.Marks.numbers.Goals as goal

pub places-init : goal.places-init
places-init g c = down_start c.args.self.now c.args.label c.last-place.result c.args.out.now.items c.last-place.ensures

pub index-requires : goal.index-requires
index-requires g c =
    let m = down_at c.args.self.now c.args.label c.places.place c.in-Some.k c.args.out.now.items c.places.out.items c.in-Some.is c.places.invariant in
    let lt = slice_get_within c.args.self.now c.in-Some.k (c.args.label, m.0) m.1 in
    omega (arith, ap length c.self.view_is, len_is c.self.inside.marks)

pub places-preserved : goal.places-preserved
places-preserved g c = down_next c.args.self.now c.args.label c.in-Some.k c.index.result.now c.self.inside.marks.items c.places.place c.earlier-place.result c.args.out.now.items c.places.out.items c.push.new.self.items c.self.view_is c.requires c.in-Some.is c.places.invariant c.index.ensures c.in_ok-push.ensures.items c.earlier-place.ensures

pub returns : goal.returns
returns g c = down_end c.args.self.now c.args.label c.args.out.now.items c.places.out.items (subst (λ z. IsDown c.args.self.now c.args.label z c.args.out.now.items c.places.out.items) c.in_default.is c.places.invariant)
