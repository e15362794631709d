use Rattle.std.proofs.Common.{rules}
use Rattle.xs_cover.proofs.Sweeping.{passed_more}
use Rattle.xs_cover.proofs.contexts.Contexts.sweep.Goals as goal

pub rules-preserved : goal.rules-preserved
rules-preserved c =
    let done = c.in_ok-lowered.ensures in
    record {
      contexts = done.contexts;
      lowered = search rules;
      passed = passed_more c.args.two.now.text c.args.two.now.xml c.args.prices.now c.rules.self.arounds.items c.pass.new.self.arounds.items c.rules.rule c.rules.lowered c.in_ok-lowered.field-0 done.lowered c.rules.invariant.passed done.passed;
    }
