use Rattle.std.proofs.Common.{◌<◌, Bool, List, sym, subst, ap, arith, length, refl}
use Rattle.std.proofs.lemmas.Option.{slice_get_read}
use Rattle.xs_gram.specs.declared.parts.GItem.{GItem}
use Rattle.xs_gram.specs.Fences.{spread}
use Rattle.xs_screen.specs.Screens.{AreDoubts}
use Rattle.xs_screen.proofs.FixedWords.{fixed_front, before_more}
use Rattle.xs_screen.proofs.Seeing.{doubt_cleared}
use Rattle.xs_screen.proofs.fixed.clear_fronts.Goals as goal

pub places-init : goal.places-init
places-init c = record { fixed = λ k i low e. absurd (omega (arith, low)); doubts = c.requires.doubts }

pub returns-then-not-is_fixed : goal.returns-then-not-is_fixed
returns-then-not-is_fixed c =
    let g = c.args.g.now in
    let p = c.args.rule in
    subst (λ (ds : List Bool). AreDoubts g p ds) (sym c.clear_doubt.ensures) (doubt_cleared g p c.places.place c.places.doubts.items (fixed_front g p c.places.place c.places.invariant.fixed) c.places.invariant.doubts)

pub places-preserved : goal.places-preserved
places-preserved c =
    let g = c.args.g.now in
    let p = c.args.rule in
    let items = c.spread-items.result.now in
    let within : c.places.place < length items = omega (arith, c.places-test.true, c.spread-items.ensures.short, ap (λ (xs : List GItem). length xs) c.spread-items.ensures.items) in
    let at = slice_get_read items (length items) c.places.place c.index-items-place.result refl within c.index-items-place.is in
    record {
      fixed = before_more (spread g p) c.places.place c.index-items-place.result (rw c.spread-items.ensures.items at at) (c.is_fixed.ensures c.if-not-is_fixed.false) c.places.invariant.fixed;
      doubts = subst (λ (ds : List Bool). AreDoubts g p ds) (sym c.clear_doubt.ensures) (doubt_cleared g p c.places.place c.places.doubts.items (fixed_front g p c.places.place c.places.invariant.fixed) c.places.invariant.doubts);
    }
