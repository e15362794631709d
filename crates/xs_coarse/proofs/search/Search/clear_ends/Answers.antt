use Rattle.std.proofs.Common.{List, ◌+◌, ◌≤◌, ◌∙◌, arith, subst}
use Rattle.std.proofs.lemmas.Result.{IfOk-weaker}
use Rattle.xs_coarse.specs.declared.pair.Pair.{Pair}
use Rattle.xs_coarse.specs.Sets.{AreRests}
use Rattle.xs_coarse.proofs.LayerLemmas.{inside_more}
use Rattle.xs_coarse.proofs.SetLemmas.{copied, ends_clear}
use Rattle.xs_coarse.proofs.search.Search.clear_ends.Goals as goal

pub find_last_middles-requires-clause-inside : goal.find_last_middles-requires-clause-inside
find_last_middles-requires-clause-inside c = rw c.deref.ensures.value c.in_ok-push_end_pairs.ensures.inside

pub find_last_middles-requires-clause-pairs : goal.find_last_middles-requires-clause-pairs
find_last_middles-requires-clause-pairs c = rw c.deref.ensures.value c.in_ok-push_end_pairs.ensures.each

pub find_rests-requires-clause-inside : goal.find_rests-requires-clause-inside
find_rests-requires-clause-inside c =
    let m = c.in_ok-find_last_middles.ensures.ok c.if-not-branch.false in
    let e = c.deref-3.ensures.value ∙ copied c.clear-2.ensures.items c.in_ok-extend_from_slice.ensures.items c.deref-2.ensures.value in
    rw e (inside_more (c.args.here + 1) c.args.net.now.states c.args.net.now.states c.find_last_middles.new.self.pairs.items (omega (arith, c.requires)) m.inside)

pub returns : goal.returns
returns c =
    let m = c.in_ok-find_last_middles.ensures.ok c.if-not-branch.false in
    let e = c.deref-3.ensures.value ∙ copied c.clear-2.ensures.items c.in_ok-extend_from_slice.ensures.items c.deref-2.ensures.value in
    let low : c.args.gate ≤ c.args.here = omega (arith, c.if-gate-here.false) in
    let t = c.args.labels.now in
    let n = c.args.net.now in
    IfOk-weaker c.find_rests.result _ _ (λ none rests yes. ends_clear t n c.args.here c.args.last c.see_table.ensures c.args.gate c.find_last_middles.new.self.pairs.items c.find_rests.new.self.pairs.items c.requires low (c.is_gate.ensures c.if-not-is_gate.false) (c.is_source.ensures c.if-not-is_source.false) m (subst (λ (ps : List Pair). AreRests t n c.args.here c.args.last ps c.find_rests.new.self.pairs.items) e (rests yes))) c.find_rests.ensures.ok
