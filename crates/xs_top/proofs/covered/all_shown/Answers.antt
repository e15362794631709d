use Rattle.xs_talk.specs.declared.covers.Shown.TheVariants as S
use Rattle.xs_top.specs.Covering.{IsShown}
use Rattle.xs_top.proofs.Showing.{each_pushed, pushed_long}
use Rattle.xs_top.proofs.covered.all_shown.Goals as goal

pub rules-preserved : goal.rules-preserved
rules-preserved c = record {
  counted = pushed_long c.rules.rule c.rules.all.items c.push.new.self.items c.in_ok-shown.shown c.rules.invariant.counted c.in_ok-push.ensures.items;
  each = each_pushed (IsShown c.args.two.now) S.Unreached c.rules.rule c.rules.all.items c.push.new.self.items c.in_ok-shown.shown c.rules.invariant.counted c.rules.invariant.each c.in_ok-shown.ensures c.in_ok-push.ensures.items;
}
