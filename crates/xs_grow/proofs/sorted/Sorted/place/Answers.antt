use Rattle.std.proofs.Common.{◌≡◌, ◌<◌, ◌+◌, ◌-◌, ℕ, List, Some, slice_get, sym, ap, ◌∙◌, subst}
use Rattle.xs_class.proofs.Lists.{len_is}
use Rattle.xs_forest_laws.specs.declared.span.SpanKey.{SpanKey}
use Rattle.xs_grow.specs.Sorted.{EndBefore, first_of}
use Rattle.xs_grow.proofs.Firsts.{first_before, none_earlier}
use Rattle.xs_grow.proofs.sorted.Sorted.place.Goals as goal

pub returns : goal.returns
returns c =
    let marks = c.self.inside.marks.items in
    let firsts = c.self.inside.firsts.items in
    let label = c.args.label in
    let first = c.first_of-first.result in
    let whole = c.deref-3.result.now in
    let place = first + c.before-2.result in
    let first_is = c.first_of-first.ensures ∙ (ap (λ (z : List ℕ). first_of z label.end c.len.result) c.deref.ensures.value ∙ ap (λ (z : ℕ). first_of firsts label.end z) (c.len.ensures ∙ len_is c.self.inside.marks)) in
    let ended : EndBefore whole first label.end = subst (λ (z : List (SpanKey × ℕ)). EndBefore z first label.end) (sym c.deref-3.ensures.value) (subst (λ (z : ℕ). EndBefore marks z label.end) (sym first_is) (first_before marks firsts c.self.invariant.1 label.end)) in
    subst (λ (z : List (SpanKey × ℕ)). (k n : ℕ) → k < place → slice_get z k ≡ Some (label, n) → ⊥) (c.deref-3.ensures.value ∙ c.self.view_is)
    (none_earlier whole label first (c.first_of-next.result - first) c.before-2.result ended c.before-2.ensures.within c.before-2.ensures.before)
