use Rattle.std.proofs.Common.{ℕ, ◌++◌, ◌∷◌, [], length, ap, ◌∙◌, arith}
use Rattle.std.specs.Map.{lookup}
use Rattle.xs_class.proofs.Lists.{len_is}
use Rattle.xs_grow.proofs.Marking.{linked_more}
use Rattle.xs_grow.proofs.marks.Marks.push.Goals as goal

pub invariant_of-self-2 : goal.invariant_of-self-2
invariant_of-self-2 g c =
    let eq = g.L.PartialEq.eq in
    let marks = c.self.inside.marks.items in
    let befores = c.self.inside.befores.items in
    let mark : g.row.L.Denot × ℕ = (c.args.label, c.args.number) in
    linked_more marks c.args.label c.args.number eq g.met.L.Eq.laws.refl g.met.L.Label.same (λ label. lookup (eq label) c.self.inside.lasts.entries) (λ label. lookup (eq label) c.insert.new.self.entries) befores c.push_reserved-2.new.self.items c.in_ok-before.before c.push_reserved.new.self.items c.len.result c.self.invariant (c.push_reserved.ensures.items ∙ ap (λ z. z ++ mark ∷ []) c.reserve.ensures.items) (omega (arith, len_is c.reserve.new.self, ap length c.reserve.ensures.items, c.len.ensures)) c.in_ok-before.ensures.old (c.push_reserved-2.ensures.items ∙ ap (λ z. z ++ c.in_ok-before.before ∷ []) c.reserve-2.ensures.items) c.in_ok-before.ensures.updates.0
