use Rattle.std.proofs.Common.{◌+◌, ◌≤◌, ◌∙◌, arith}
use Rattle.std.proofs.lemmas.Result.{IfOk-weaker}
use Rattle.xs_coarse.proofs.LayerLemmas.{inside_more}
use Rattle.xs_coarse.proofs.SetLemmas.{copied, clear_from}
use Rattle.xs_coarse.proofs.search.Search.clear.Goals as goal

pub find_middles-requires-clause-inside : goal.find_middles-requires-clause-inside
find_middles-requires-clause-inside c =
    let u = c.in_ok-find_turns.ensures.ok c.if-not-branch.false in
    let e = c.deref-3.ensures.value ∙ copied c.clear.ensures.items c.in_ok-extend_from_slice.ensures.items c.deref-2.ensures.value in
    rw e (inside_more (c.args.here + 1) c.args.net.now.states c.args.net.now.states c.find_turns.new.self.pairs.items (omega (arith, c.requires.here)) u.inside)

pub find_rests-requires-clause-inside : goal.find_rests-requires-clause-inside
find_rests-requires-clause-inside c =
    let m = c.in_ok-find_middles.ensures.ok c.if-not-branch-2.false in
    let e = c.deref-5.ensures.value ∙ copied c.clear-2.ensures.items c.in_ok-extend_from_slice-2.ensures.items c.deref-4.ensures.value in
    rw e (inside_more (c.args.here + 1) c.args.net.now.states c.args.net.now.states c.find_middles.new.self.pairs.items (omega (arith, c.requires.here)) m.inside)

pub returns : goal.returns
returns c =
    let u = c.in_ok-find_turns.ensures.ok c.if-not-branch.false in
    let m = c.in_ok-find_middles.ensures.ok c.if-not-branch-2.false in
    let e = c.deref-3.ensures.value ∙ copied c.clear.ensures.items c.in_ok-extend_from_slice.ensures.items c.deref-2.ensures.value in
    let f = c.deref-5.ensures.value ∙ copied c.clear-2.ensures.items c.in_ok-extend_from_slice-2.ensures.items c.deref-4.ensures.value in
    let low : c.args.here ≤ c.args.doubles.now.top = omega (arith, c.if-here-doubles.false) in
    let never = c.never_returns.ensures c.if-not-never_returns.false in
    IfOk-weaker c.find_rests.result _ _ (λ none rests yes. clear_from c.args.labels.now c.args.net.now c.args.here c.args.last c.args.doubles.now.top c.args.doubles.now.pairs.items _ _ _ _ _ _ c.see_table.ensures low never c.deref.ensures.value e f c.requires.doubles u m (rests yes)) c.find_rests.ensures.ok
