use Rattle.std.proofs.Common.{sym, ◌∙◌}
use Rattle.xs_closed.specs.Search.{Turns}
use Rattle.xs_closed.proofs.AddLemmas.{adds_none, adds_more, adds_all}
use Rattle.xs_closed.proofs.SeedLemmas.{end_within, turns_new, turns_none}
use Rattle.xs_closed.proofs.seeds.turn_ends.Goals as goal
use Rattle.xs_closed.proofs.seeds.turn_ends.Goals.{then-is_final+in_ok-visit, else-is_final}

pub ends-init : goal.ends-init
ends-init c = record { listed = c.requires.listed; more = adds_none (Turns c.args.seat c.args.front.now c.args.start) c.args.set.now c.args.pairs.now.items }

pub visit-requires-clause-first : goal.visit-requires-clause-first
visit-requires-clause-first c = (end_within c.args.seat c.args.front.now c.args.ends.now c.ends.at-index _ _ c.args.start c.ends.invariant.more.size c.requires.inside c.requires.start c.ends-test.true c.pair-first.ensures.start c.pair-first.ensures.other).0

pub visit-requires-clause-second : goal.visit-requires-clause-second
visit-requires-clause-second c = (end_within c.args.seat c.args.front.now c.args.ends.now c.ends.at-index _ _ c.args.start c.ends.invariant.more.size c.requires.inside c.requires.start c.ends-test.true c.pair-first.ensures.start c.pair-first.ensures.other).1

pub ends-preserved : goal.ends-preserved
ends-preserved c =
    let Q = Turns c.args.seat c.args.front.now c.args.start in
    elim c.if-is_final.branch [
      | then-is_final+in_ok-visit w ↦ rw (w.set-is, w.pairs-is) (record {
        listed = w.in_ok-visit.ensures.listed;
        more = adds_more Q c.args.ends.now c.ends.at-index _ c.ends-test.true c.ends.invariant.more (turns_new c.args.seat c.args.front.now c.args.start _ _ _ w.pair-first.ensures.start w.pair-first.ensures.other (sym c.is_final.ensures ∙ w.if-is_final.true) w.in_ok-visit.ensures.ok);
      })
      | else-is_final w ↦ rw (w.set-is, w.pairs-is) (record {
        listed = c.ends.invariant.listed;
        more = adds_more Q c.args.ends.now c.ends.at-index _ c.ends-test.true c.ends.invariant.more (turns_none c.args.seat c.args.front.now c.args.start _ c.ends.set c.ends.pairs.items (sym c.is_final.ensures ∙ w.if-is_final.false));
      })
    ]

pub returns-clause-ok : goal.returns-clause-ok
returns-clause-ok c = adds_all (Turns c.args.seat c.args.front.now c.args.start) c.args.ends.now c.ends.at-index c.ends-test.false c.ends.invariant.more
