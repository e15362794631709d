use Rattle.std.proofs.Common.{◌≡◌, ◌≢◌, ◌<◌, ◌++◌, [], ◌∷◌, List, ℕ, length, ◌∙◌, subst}
use Rattle.xs_class.proofs.Lists.{len_is}
use Rattle.xs_chart.specs.Charted.{items_of, waiting_of}
use Rattle.xs_earley.specs.Growing.{Grown, IsSettledAt}
use Rattle.xs_earley.specs.Waiting.{WaitsBelow}
use Rattle.xs_earley.proofs.Steadiness.{repeats_again}
use Rattle.xs_earley.proofs.Steppings.{next_opened, next_open, next_called, next_waits, next_run, push_taken, firsts_kept}
use Rattle.xs_earley.proofs.stage.next_set.Goals as goal

pub close-requires-clause-open : goal.close-requires-clause-open
close-requires-clause-open c =
    let opens = next_opened c.args.g.now c.args.word.now.items c.args.symbol c.args.facts.now c.args.chart.now c.args.begun.now (length c.args.called.now) c.args.due.now c.open_set.new.chart c.put_all.new.chart c.len-at.result c.push.new.self.items c.args.repeats c.requires.run c.if-repeats.false c.requires.due c.in_ok-open_set.ensures.sets c.open_set.ensures.waiting c.in_ok-open_set.ensures.last (c.len-at.ensures ∙ len_is c.push.new.self) c.in_ok-push.ensures.items c.in_ok-put_all.ensures.puts c.in_ok-put_all.ensures.there c.put_all.ensures.waits in
    next_open opens c.deref.result.now (c.deref.ensures.value ∙ c.in_ok-push.ensures.items)

pub close-requires-clause-called : goal.close-requires-clause-called
close-requires-clause-called c =
    let opens = next_opened c.args.g.now c.args.word.now.items c.args.symbol c.args.facts.now c.args.chart.now c.args.begun.now (length c.args.called.now) c.args.due.now c.open_set.new.chart c.put_all.new.chart c.len-at.result c.push.new.self.items c.args.repeats c.requires.run c.if-repeats.false c.requires.due c.in_ok-open_set.ensures.sets c.open_set.ensures.waiting c.in_ok-open_set.ensures.last (c.len-at.ensures ∙ len_is c.push.new.self) c.in_ok-push.ensures.items c.in_ok-put_all.ensures.puts c.in_ok-put_all.ensures.there c.put_all.ensures.waits in
    next_called opens c.clear.new.self c.clear.ensures.unmarked

pub close-requires-clause-waits : goal.close-requires-clause-waits
close-requires-clause-waits c = next_waits (next_opened c.args.g.now c.args.word.now.items c.args.symbol c.args.facts.now c.args.chart.now c.args.begun.now (length c.args.called.now) c.args.due.now c.open_set.new.chart c.put_all.new.chart c.len-at.result c.push.new.self.items c.args.repeats c.requires.run c.if-repeats.false c.requires.due c.in_ok-open_set.ensures.sets c.open_set.ensures.waiting c.in_ok-open_set.ensures.last (c.len-at.ensures ∙ len_is c.push.new.self) c.in_ok-push.ensures.items c.in_ok-put_all.ensures.puts c.in_ok-put_all.ensures.there c.put_all.ensures.waits)

pub returns-clause-run : goal.returns-clause-run
returns-clause-run c =
    let opens = next_opened c.args.g.now c.args.word.now.items c.args.symbol c.args.facts.now c.args.chart.now c.args.begun.now (length c.args.called.now) c.args.due.now c.open_set.new.chart c.put_all.new.chart c.len-at.result c.push.new.self.items c.args.repeats c.requires.run c.if-repeats.false c.requires.due c.in_ok-open_set.ensures.sets c.open_set.ensures.waiting c.in_ok-open_set.ensures.last (c.len-at.ensures ∙ len_is c.push.new.self) c.in_ok-push.ensures.items c.in_ok-put_all.ensures.puts c.in_ok-put_all.ensures.there c.put_all.ensures.waits in
    let w = c.args.word.now.items in
    let mid = c.put_all.new.chart in
    let new = c.close.new.chart in
    let e = opens.is_at in
    let ens = c.in_ok-close.ensures in
    let grown = subst (λ k. Grown c.args.g.now (w ++ c.args.symbol ∷ []) k mid.sets new.sets) e (subst (λ (u : List ℕ). Grown c.args.g.now u c.len-at.result mid.sets new.sets) (c.deref.ensures.value ∙ c.in_ok-push.ensures.items) ens.grown) in
    let settled = subst (λ m. (k : ℕ) → k < length (items_of new m) → IsSettledAt c.args.g.now new.sets m k) e ens.settled in
    let earlier = subst (λ m. (j non : ℕ) → j ≢ m → waiting_of new j non ≡ waiting_of mid j non) e ens.earlier in
    let waits = subst (λ m. WaitsBelow c.args.g.now new m (length (items_of new m))) e ens.waits in
    next_run opens new grown settled earlier waits c.sets-different.ensures.different c.args.fresh.now c.requires.fresh c.push-2.new.self c.in_ok-push-2.ensures.ok c.requires.more c.requires.front c.push.new.self.items c.in_ok-push.ensures.items (length c.close.new.called) (c.close.ensures.marks ∙ c.clear.ensures.counted)

-- where the last set is repeated

pub returns-then-repeats-clause-run : goal.returns-then-repeats-clause-run
returns-then-repeats-clause-run c =
    let steady = c.requires.steady c.if-repeats.true in
    (repeats_again c.args.g.now c.args.word.now.items c.args.symbol steady.0 c.args.facts.now c.args.chart.now c.open_set.new.chart c.args.begun.now c.push-2.new.self (length c.args.called.now) c.args.repeats c.args.fresh.now c.push.new.self.items c.requires.run steady.2 steady.1 c.if-repeats.true c.requires.none c.in_ok-open_set.ensures.sets c.open_set.ensures.waiting c.in_ok-open_set.ensures.last c.in_ok-push-2.ensures.ok c.in_ok-push.ensures.items).0 c.requires.more

pub returns-then-repeats-clause-steady : goal.returns-then-repeats-clause-steady
returns-then-repeats-clause-steady c t atom is steady = (repeats_again c.args.g.now c.args.word.now.items c.args.symbol atom c.args.facts.now c.args.chart.now c.open_set.new.chart c.args.begun.now c.push-2.new.self (length c.args.called.now) c.args.repeats c.args.fresh.now c.push.new.self.items c.requires.run steady is c.if-repeats.true c.requires.none c.in_ok-open_set.ensures.sets c.open_set.ensures.waiting c.in_ok-open_set.ensures.last c.in_ok-push-2.ensures.ok c.in_ok-push.ensures.items).1

-- WHAT IS KEPT

pub returns-then-repeats-clause-kept : goal.returns-then-repeats-clause-kept
returns-then-repeats-clause-kept c = record {
  word_kept = push_taken c.args.word.now.items c.push.new.self.items c.args.symbol c.in_ok-push.ensures.items;
  begun_kept = push_taken c.args.begun.now c.push-2.new.self c.args.fresh.now c.in_ok-push-2.ensures.ok;
  chart_kept = c.open_set.ensures.before;
}

pub returns-in_err-put_all-clause-kept : goal.returns-in_err-put_all-clause-kept
returns-in_err-put_all-clause-kept c = record {
  word_kept = push_taken c.args.word.now.items c.push.new.self.items c.args.symbol c.in_ok-push.ensures.items;
  begun_kept = push_taken c.args.begun.now c.push-2.new.self c.args.fresh.now c.in_ok-push-2.ensures.ok;
  chart_kept = firsts_kept c.args.chart.now c.open_set.new.chart c.put_all.new.chart _ c.in_ok-open_set.ensures.sets c.open_set.ensures.before c.put_all.ensures.before;
}

pub returns-in_err-close-clause-kept : goal.returns-in_err-close-clause-kept
returns-in_err-close-clause-kept c = record {
  word_kept = push_taken c.args.word.now.items c.push.new.self.items c.args.symbol c.in_ok-push.ensures.items;
  begun_kept = push_taken c.args.begun.now c.push-2.new.self c.args.fresh.now c.in_ok-push-2.ensures.ok;
  chart_kept = firsts_kept c.args.chart.now c.open_set.new.chart c.close.new.chart _ c.in_ok-open_set.ensures.sets c.open_set.ensures.before (c.close.ensures.before ∙ c.put_all.ensures.before);
}

pub returns-clause-kept : goal.returns-clause-kept
returns-clause-kept c = record {
  word_kept = push_taken c.args.word.now.items c.push.new.self.items c.args.symbol c.in_ok-push.ensures.items;
  begun_kept = push_taken c.args.begun.now c.push-2.new.self c.args.fresh.now c.in_ok-push-2.ensures.ok;
  chart_kept = firsts_kept c.args.chart.now c.open_set.new.chart c.close.new.chart _ c.in_ok-open_set.ensures.sets c.open_set.ensures.before (c.close.ensures.before ∙ c.put_all.ensures.before);
}
