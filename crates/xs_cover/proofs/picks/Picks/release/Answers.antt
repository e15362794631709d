use Rattle.std.proofs.Common.{◌≡◌, ◌<◌, [], length, slice_get, sym, ap, arith, ◌∙◌}
use Rattle.std.proofs.lemmas.List.{get_or_read}
use Rattle.std.specs.BinaryHeap.{heap_items}
use Rattle.xs_cover.specs.Picks.{IsWaiter, waiters_at}
use Rattle.xs_cover.proofs.Making.{set_all, waiter_dear}
use Rattle.xs_cover.proofs.Passing.{dearest_on, grown_on, set_more_in, still_there, was_there}
use Rattle.xs_cover.proofs.picks.Picks.release.Goals as goal

pub at-waiter-requires : goal.at-waiter-requires
at-waiter-requires c =
    let first = c.args.self.now in
    let now = c.waiters.self in
    let non = c.args.non in
    let row_first : c.index.result.now ≡ waiters_at first.waiting.items non = get_or_read first.waiting.items non c.index.result.now (omega (arith, c.requires.non, c.requires.picks.counted)) c.index.ensures [] in
    let row : c.index-in-waiters.result.now ≡ waiters_at now.waiting.items non = get_or_read now.waiting.items non c.index-in-waiters.result.now (omega (arith, c.requires.non, c.waiters.invariant.picks.counted)) c.index-in-waiters.ensures [] in
    let less : c.waiters.place < length (waiters_at first.waiting.items non) = omega (arith, c.waiters-test.true, c.len-count.ensures, ap length row_first) in
    omega (arith, still_there first now non c.waiters.place c.waiters.invariant.grown less, ap length row)

pub pass-requires-clause-rule : goal.pass-requires-clause-rule
pass-requires-clause-rule c =
    let now = c.waiters.self in
    let row : c.index-in-waiters.result.now ≡ waiters_at now.waiting.items c.args.non = get_or_read now.waiting.items c.args.non c.index-in-waiters.result.now (omega (arith, c.requires.non, c.waiters.invariant.picks.counted)) c.index-in-waiters.ensures [] in
    (c.waiters.invariant.picks.waiters c.args.non c.waiters.place c.at-waiter.result.now (ap (λ l. slice_get l c.waiters.place) (sym row) ∙ c.at-waiter.ensures)).there

pub pass-requires-clause-past : goal.pass-requires-clause-past
pass-requires-clause-past c =
    let now = c.waiters.self in
    let row : c.index-in-waiters.result.now ≡ waiters_at now.waiting.items c.args.non = get_or_read now.waiting.items c.args.non c.index-in-waiters.result.now (omega (arith, c.requires.non, c.waiters.invariant.picks.counted)) c.index-in-waiters.ensures [] in
    (c.waiters.invariant.picks.waiters c.args.non c.waiters.place c.at-waiter.result.now (ap (λ l. slice_get l c.waiters.place) (sym row) ∙ c.at-waiter.ensures)).past

pub pass-requires-clause-dear : goal.pass-requires-clause-dear
pass-requires-clause-dear c =
    let g = c.args.two.now.text in
    let now = c.waiters.self in
    let row : c.index-in-waiters.result.now ≡ waiters_at now.waiting.items c.args.non = get_or_read now.waiting.items c.args.non c.index-in-waiters.result.now (omega (arith, c.requires.non, c.waiters.invariant.picks.counted)) c.index-in-waiters.ensures [] in
    let is : IsWaiter g now.prices.nons.items now.forest c.args.non c.at-waiter.result.now = c.waiters.invariant.picks.waiters c.args.non c.waiters.place c.at-waiter.result.now (ap (λ l. slice_get l c.waiters.place) (sym row) ∙ c.at-waiter.ensures) in
    waiter_dear g c.args.two.now.xml now.prices.terms.items now.prices.nons.items now.forest c.args.non c.at-waiter.result.now is (dearest_on g c.args.self.now now c.args.non c.waiters.invariant.grown c.requires.dearest).most

pub waiters-preserved : goal.waiters-preserved
waiters-preserved c =
    let first = c.args.self.now in
    let now = c.waiters.self in
    let non = c.args.non in
    let known = c.waiters.invariant in
    let done = c.in_ok-pass.ensures in
    let row_first : c.index.result.now ≡ waiters_at first.waiting.items non = get_or_read first.waiting.items non c.index.result.now (omega (arith, c.requires.non, c.requires.picks.counted)) c.index.ensures [] in
    let row : c.index-in-waiters.result.now ≡ waiters_at now.waiting.items non = get_or_read now.waiting.items non c.index-in-waiters.result.now (omega (arith, c.requires.non, known.picks.counted)) c.index-in-waiters.ensures [] in
    let less : c.waiters.place < length (waiters_at first.waiting.items non) = omega (arith, c.waiters-test.true, c.len-count.ensures, ap length row_first) in
    let was = was_there first now non c.waiters.place c.at-waiter.result.now known.grown less (ap (λ l. slice_get l c.waiters.place) (sym row) ∙ c.at-waiter.ensures) in
    record {
      picks = done.picks;
      grown = grown_on first now c.pass.new.self known.grown done.grown;
      set = λ r there. set_more_in c.args.two.now.text c.args.two.now.xml first now c.pass.new.self non c.waiters.place r c.at-waiter.result.now done.grown was done.set (known.set r there);
    }

pub returns-clause-set : goal.returns-clause-set
returns-clause-set c = λ r there.
    let first = c.args.self.now in
    let now = c.waiters.self in
    let row_first : c.index.result.now ≡ waiters_at first.waiting.items c.args.non = get_or_read first.waiting.items c.args.non c.index.result.now (omega (arith, c.requires.non, c.requires.picks.counted)) c.index.ensures [] in
    set_all c.args.two.now.text c.args.two.now.xml now.prices.terms.items now.prices.nons.items first.waiting.items now.waiting.items (heap_items now.ready) c.args.non c.waiters.place r (omega (arith, c.waiters-test.false, c.len-count.ensures, ap length row_first)) (c.waiters.invariant.set r there)
