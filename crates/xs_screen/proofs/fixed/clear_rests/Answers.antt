use Rattle.std.proofs.Common.{◌≡◌, ℕ, ◌+◌, ◌-◌, ◌<◌, Bool, List, sym, subst, ap, arith, length, refl}
use Rattle.std.proofs.lemmas.Option.{slice_get_read}
use Rattle.xs_gram.specs.declared.parts.GItem.{GItem}
use Rattle.xs_gram.specs.Fences.{spread}
use Rattle.xs_screen.specs.Screens.{AreDoubts}
use Rattle.xs_screen.proofs.FixedWords.{AreFixedFrom, fixed_rest, from_less, from_end}
use Rattle.xs_screen.proofs.Seeing.{doubt_cleared}
use Rattle.xs_screen.proofs.fixed.clear_rests.Goals as goal

pub places-init : goal.places-init
places-init c =
    let g = c.args.g.now in
    let p = c.args.rule in
    let long = ap (λ (xs : List GItem). length xs) c.spread-items.ensures.items in
    let end = length c.spread-items.result.now in
    let fixed = from_end (spread g p) end (omega (arith, long)) in
    record {
      within = omega (arith, long);
      fixed = fixed;
      doubts = subst (λ (ds : List Bool). AreDoubts g p ds) (sym c.clear_doubt.ensures) (doubt_cleared g p end c.args.doubts.now.items (fixed_rest g p end fixed) c.requires.doubts);
    }

pub places-preserved : goal.places-preserved
places-preserved c =
    let g = c.args.g.now in
    let p = c.args.rule in
    let items = c.spread-items.result.now in
    let place = c.places.place - 1 in
    let long = ap (λ (xs : List GItem). length xs) c.spread-items.ensures.items in
    let within : place < length items = omega (arith, c.places-test.true, c.places.invariant.within, long) in
    let at = slice_get_read items (length items) place c.index-items-place.result refl within c.index-items-place.is in
    let next : c.places.place ≡ place + 1 = omega (arith, c.places-test.true) in
    let fixed = from_less (spread g p) place c.index-items-place.result (rw c.spread-items.ensures.items at at) (c.is_fixed.ensures c.if-not-is_fixed.false) (subst (λ (n : ℕ). AreFixedFrom (spread g p) n) next c.places.invariant.fixed) in
    record {
      within = omega (arith, c.places.invariant.within);
      fixed = fixed;
      doubts = subst (λ (ds : List Bool). AreDoubts g p ds) (sym c.clear_doubt-in-places.ensures) (doubt_cleared g p place c.places.doubts.items (fixed_rest g p place fixed) c.places.invariant.doubts);
    }
