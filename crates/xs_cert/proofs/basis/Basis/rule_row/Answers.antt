use Rattle.std.proofs.Common.{suc, length, ◌∙◌, arith}
use Rattle.xs_cert_laws.specs.Blocks.{for_rules}
use Rattle.xs_cert.specs.Heads.{is_of_one}
use Rattle.xs_cert.proofs.Standing.{place_past}
use Rattle.xs_cert.proofs.Composing.{whole_none}
use Rattle.xs_cert.proofs.Loops.{kept_at, list_whole, list_broken, list_end}
use Rattle.xs_cert.proofs.basis.Basis.rule_row.Goals as goal

pub partners-init : goal.partners-init
partners-init c = whole_none c.args.place c.requires.place.within

pub rule_pair-requires-clause-place : goal.rule_pair-requires-clause-place
rule_pair-requires-clause-place c = place_past c.requires.place c.partners.invariant.past

pub rule_pair-requires-clause-second : goal.rule_pair-requires-clause-second
rule_pair-requires-clause-second c =
    let b = c.args.self.now in
    kept_at (is_of_one b.site.g.now c.args.first) (suc c.args.first) (length b.site.g.now.rules) c.deref-second-items.result.now c.partners.second-index (c.deref-second-items.ensures.value ∙ c.in_ok-rule_partners.ensures) c.partners-test.true

pub returns-in-Broken : goal.returns-in-Broken
returns-in-Broken c =
    let block = rw c.in-Broken.is at c.in_ok-next.ensures in
    list_broken (for_rules c.args.first) c.deref-second-items.result.now _ c.partners.second-index c.args.place c.partners.at c.in-Broken.lines (c.deref-second-items.ensures.value ∙ c.in_ok-rule_partners.ensures) c.partners-test.true c.partners.invariant block

pub partners-preserved : goal.partners-preserved
partners-preserved c =
    let block = rw c.in-Whole.is at c.in_ok-next.ensures in
    list_whole (for_rules c.args.first) c.deref-second-items.result.now c.partners.second-index c.args.place c.partners.at c.in-Whole.next c.partners-test.true c.partners.invariant block

pub returns : goal.returns
returns c =
    list_end (for_rules c.args.first) c.deref-second-items.result.now _ c.partners.second-index c.args.place c.partners.at (c.deref-second-items.ensures.value ∙ c.in_ok-rule_partners.ensures) (omega arith) c.partners.invariant
