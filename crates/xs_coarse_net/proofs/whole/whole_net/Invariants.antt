use Rattle.std.proofs.Common.{◌≡◌}
use Rattle.xs_coarse_net.specs.Whole.{rule_base, RulesLaid}
use Rattle.xs_coarse_net.proofs.whole.whole_net.Given as goal

abbrev pub invariant-rules : goal.invariant-rules
invariant-rules l = record {
  base : l.base ≡ rule_base l.site.g.now l.rule;
  laid : RulesLaid l.site.g.now l.site.labels.now l.draft l.rule;
}
