use Rattle.std.proofs.Common.{◌-◌, ◌<◌, length, refl, sym, ◌∙◌, arith}
use Rattle.std.proofs.lemmas.Option.{slice_get_read}
use Rattle.xs_screen.proofs.FixedApart.{end_differ}
use Rattle.xs_screen.proofs.apart.end_apart.Goals as goal

pub returns-then-number : goal.returns-then-number
returns-then-number c = λ e.
    let one = c.args.one.now in
    let other = c.args.other.now in
    let i = length one - 1 - c.places.done in
    let j = length other - 1 - c.places.done in
    let low : c.places.done < length one = omega (arith, c.places-test.true, c.min-done-end.ensures) in
    let low2 : c.places.done < length other = omega (arith, c.places-test.true, c.min-done-end.ensures) in
    let at = slice_get_read one (length one) i c.index-one-one.result refl (omega (arith, low)) c.index-one-one.is in
    let at2 = slice_get_read other (length other) j c.index-other-other.result refl (omega (arith, low2)) c.index-other-other.is in
    end_differ one other i j c.index-one-one.result c.index-other-other.result at at2 (omega (arith, low, low2)) (λ same. c.if-number.true (c.number.ensures ∙ same ∙ sym c.number-in-places.ensures))
