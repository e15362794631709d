use Rattle.std.proofs.Common.{◌≡◌, ◌<◌, [], length, get_or, arith, ◌∙◌, ap, length-append}
use Rattle.std.proofs.lemmas.List.{get_or_read}
use Rattle.xs_clauses.proofs.Growth.{closed_end, settled_turn, row_places, found_low}
use Rattle.xs_clauses.proofs.search.Search.close.Goals as goal

pub returns-then-place-len-clause-closed : goal.returns-then-place-len-clause-closed
returns-then-place-len-clause-closed c =
    let s = c.places.self in
    closed_end c.args.clauses.now s.flags.items s.found.items s.dots.items c.places.place c.places.invariant.fits c.places.invariant.settled (omega (arith, c.if-place-len.true, c.len.ensures, s.found.ok))

pub bounds-uses-number : goal.bounds-uses-number
bounds-uses-number c =
    let s = c.places.self in
    let low = found_low c.args.clauses.now s.flags.items s.found.items s.dots.items c.places.place c.index-number.result.now (omega (arith, c.if-place-len.false, c.len.ensures, s.found.ok)) c.index-number.ensures c.places.invariant.fits in
    omega (arith, low, c.places.invariant.count, c.requires.uses.rows)

pub advance_all-requires-clause-places : goal.advance_all-requires-clause-places
advance_all-requires-clause-places c =
    let s = c.places.self in
    let number = c.index-number.result.now in
    let low = found_low c.args.clauses.now s.flags.items s.found.items s.dots.items c.places.place number (omega (arith, c.if-place-len.false, c.len.ensures, s.found.ok)) c.index-number.ensures c.places.invariant.fits in
    let there : number < length c.args.uses.now = omega (arith, low, c.places.invariant.count, c.requires.uses.rows) in
    let row = get_or_read c.args.uses.now number c.index-uses-number.result there c.index-uses-number.is [] in
    row_places c.args.clauses.now (length c.args.clauses.now) c.args.uses.now number c.as_slice.result.now (c.as_slice.ensures ∙ row) c.requires.uses.all

pub places-preserved : goal.places-preserved
places-preserved c =
    let old = c.places.self in
    let new = c.advance_all.new.self in
    let known = c.places.invariant in
    let turn = c.in_ok-advance_all.ensures in
    let number = c.index-number.result.now in
    let l : c.places.place < length old.found.items = omega (arith, c.if-place-len.false, c.len.ensures, old.found.ok) in
    let is : number ≡ get_or old.found.items c.places.place number = c.index-number.ensures in
    let low = found_low c.args.clauses.now old.flags.items old.found.items old.dots.items c.places.place number l is known.fits in
    let there : number < length c.args.uses.now = omega (arith, low, known.count, c.requires.uses.rows) in
    let row = get_or_read c.args.uses.now number c.index-uses-number.result there c.index-uses-number.is [] in
    record {
      fits = turn.fits;
      count = turn.grows.count ∙ known.count;
      within = omega (arith, l, ap length turn.grows.longer, length-append old.found.items turn.grows.added);
      settled = λ k h. settled_turn c.args.clauses.now old.flags.items new.flags.items old.found.items new.found.items turn.grows.added c.as_slice.result.now c.places.place number k turn.grows.longer l is turn.grows.kept (λ has. rw (c.as_slice.ensures ∙ row) (c.requires.uses.all.noted k number h has)) (turn.settled k) (known.settled k h);
    }
