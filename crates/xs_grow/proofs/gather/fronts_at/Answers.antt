use Rattle.std.proofs.Common.{◌≡◌, ◌+◌, ℕ, suc, List, Some, length, slice_get, refl, sym, subst, arith}
use Rattle.std.specs.Prelude.{slice_index_or}
use Rattle.xs_gram.specs.declared.parts.GItem.{GItem}
use Rattle.std.proofs.lemmas.Option.{slice_get_read, slice_get_within}
use Rattle.xs_gram.specs.Grammar.{Grammar, items, ItemAt}
use Rattle.xs_grow.specs.Lists.{HasAllOf}
use Rattle.xs_grow.specs.Candidates.{IsLater, EndsAt}
use Rattle.xs_grow.proofs.Gathering.{front_inside, front_not, front_ends}
use Rattle.xs_grow.proofs.gather.fronts_at.Goals as goal

pub returns-in-Some : goal.returns-in-Some
returns-in-Some c = front_inside c.args.g.now c.args.doc.now c.args.calls.now c.args.set c.args.item c.place-place.result _ c.args.candidates.now.items c.place-place.ensures.listed c.in-Some.is

pub returns-then-not-is_later : goal.returns-then-not-is_later
returns-then-not-is_later c =
    let place = c.place-place.result in
    front_not c.args.g.now c.args.doc.now c.args.calls.now c.args.set c.args.item place c.args.candidates.now.items c.place-place.ensures.listed (λ h. c.if-not-is_later.ensures (subst (λ xs. IsLater xs place.dot) (sym c.items-items.ensures.items) h))

pub bounds-items-place : goal.bounds-items-place
bounds-items-place c = let h = c.if-not-is_later.ensures in slice_get_within c.items-items.result.now c.place-place.result.dot h.0 h.1

read : (g : Grammar) (p n : ℕ) (xs : List GItem) (item : GItem) → xs ≡ items g p → IsLater xs n → item ≡ slice_index_or xs n item → ItemAt g p n item
read g p n xs item e h is = subst (λ (z : List GItem). slice_get z n ≡ Some item) e (slice_get_read xs (length xs) n item refl (slice_get_within xs n h.0 h.1) is)

pub ends_of-requires-clause-item : goal.ends_of-requires-clause-item
ends_of-requires-clause-item c =
    let place = c.place-place.result in
    (place.rule, place.dot, read c.args.g.now place.rule place.dot c.items-items.result.now c.index-items-place.result c.items-items.ensures.items c.if-not-is_later.ensures c.index-items-place.is)

pub returns-in_ok-push_ends-in-None : goal.returns-in_ok-push_ends-in-None
returns-in_ok-push_ends-in-None c =
    let place = c.place-place.result in
    let later = subst (λ xs. IsLater xs place.dot) c.items-items.ensures.items c.if-not-is_later.ensures in
    let at = read c.args.g.now place.rule place.dot c.items-items.result.now c.index-items-place.result c.items-items.ensures.items c.if-not-is_later.ensures c.index-items-place.is in
    let all = subst (λ xs. HasAllOf (EndsAt c.args.g.now c.args.doc.now c.args.calls.now c.index-items-place.result c.args.set) xs) (sym c.deref.ensures.value) c.in_ok-ends-in-None.ensures in
    let one : place.dot + 1 ≡ suc place.dot = omega arith in
    front_ends c.args.g.now c.args.doc.now c.args.calls.now c.args.set c.args.item place c.index-items-place.result c.deref.result.now c.args.candidates.now.items c.push_ends.new.candidates.items (place.dot + 1) c.place-place.ensures.listed c.in-None.is later at all one c.in_ok-push_ends-in-None.ensures
