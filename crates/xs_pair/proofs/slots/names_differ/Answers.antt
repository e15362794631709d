use Rattle.std.proofs.Common.{◌≡◌, ◌∙◌, ◌<◌, arith, get_or, length, sym, subst, Some, None}
use Rattle.std.proofs.lemmas.Option.{slice_get-get_or}
use Rattle.xs_class.specs.Ordered.{place_of}
use Rattle.xs_pair.specs.Marks.{shown}
use Rattle.xs_pair.proofs.Places.{get_at, when_true, when_false}
use Rattle.xs_pair.proofs.Decided.{yes, no}
use Rattle.xs_pair.proofs.Twins.{slot_bound, two_here, same_here, none_here, same_more, all_same, shown_at, length_shown}
use Rattle.xs_pair.proofs.slots.names_differ.Goals as goal
use Rattle.xs_pair.proofs.slots.names_differ.Goals.{in-Some+else-not-is_same, in_default}

pub bounds-left-place : goal.bounds-left-place
bounds-left-place c =
    let bound = slot_bound c.args.slots.now (shown c.args.left.now) _ c.in-Some.place c.requires.slots (sym c.place.ensures ∙ c.in-Some.is) in
    omega (arith, length_shown c.args.left.now)

pub bounds-left-place-in-Some : goal.bounds-left-place-in-Some
bounds-left-place-in-Some c =
    let bound = slot_bound c.args.slots.now (shown c.args.left.now) _ c.in-Some.place c.requires.slots (sym c.place.ensures ∙ c.in-Some.is) in
    omega (arith, length_shown c.args.left.now)

pub returns-then-not-is_same : goal.returns-then-not-is_same
returns-then-not-is_same c =
    let slots = c.args.slots.now in
    let left = c.args.left.now in
    let right = c.args.right.now in
    let p = c.in-Some.place in
    let x = get_or left p c.index-left-place.result in
    let y = c.slot-item.result in
    let bound = slot_bound slots (shown left) _ p c.requires.slots (sym c.place.ensures ∙ c.in-Some.is) in
    let within : p < length left = omega (arith, length_shown left) in
    let found : place_of slots y.0.now ≡ Some p = subst (λ s. place_of slots s ≡ Some p) c.as_str.ensures.read (sym c.place.ensures ∙ c.in-Some.is) in
    yes (two_here slots (shown left) (shown right) p c.slots.slot-index (x.0.now, x.1.now) (y.0.now, y.1.now) c.requires.slots (shown_at left p x (slice_get-get_or left p c.index-left-place.result within)) (shown_at right c.slots.slot-index y (get_at right c.slots.slot-index y c.slots-test.true c.slot-item.is)) found (when_false c.is_same.result c.is_same.ensures c.if-not-is_same.true))

pub slots-preserved : goal.slots-preserved
slots-preserved c =
    let slots = c.args.slots.now in
    let left = c.args.left.now in
    let right = c.args.right.now in
    let i = c.slots.slot-index in
    let y = c.slot-item.result in
    let at_right = shown_at right i y (get_at right i y c.slots-test.true c.slot-item.is) in
    elim c.match-place.branch [
      | in-Some+else-not-is_same w ↦
          let p = w.in-Some.place in
          let x = get_or left p w.index-left-place.result in
          let bound = slot_bound slots (shown left) _ p c.requires.slots (sym c.place.ensures ∙ w.in-Some.is) in
          let within : p < length left = omega (arith, length_shown left) in
          let found : place_of slots y.0.now ≡ Some p = subst (λ s. place_of slots s ≡ Some p) c.as_str.ensures.read (sym c.place.ensures ∙ w.in-Some.is) in
          same_more (shown left) (shown right) i c.slots.invariant (same_here slots (shown left) (shown right) p i (x.0.now, x.1.now) (y.0.now, y.1.now) c.requires.slots c.requires.distinct (shown_at left p x (slice_get-get_or left p w.index-left-place.result within)) at_right found (when_true w.is_same.result w.is_same.ensures w.if-not-is_same.false))
      | in_default w ↦
          let none : place_of slots y.0.now ≡ None = subst (λ s. place_of slots s ≡ None) c.as_str.ensures.read (sym c.place.ensures ∙ w.in_default.is) in
          same_more (shown left) (shown right) i c.slots.invariant (none_here slots (shown left) (shown right) i (y.0.now, y.1.now) c.requires.slots at_right none)
    ]

pub returns : goal.returns
returns c =
    let right = c.args.right.now in
    no (all_same (shown c.args.left.now) (shown right) c.slots.slot-index (let test = c.slots-test.false in omega (arith, length_shown right)) c.slots.invariant)
