use Rattle.std.proofs.Common.{length, ◌∙◌, arith}
use Rattle.xs_closed.specs.Rows.{marked}
use Rattle.xs_cert_laws.specs.Blocks.{for_groups}
use Rattle.xs_cert.specs.Heads.{is_open}
use Rattle.xs_cert.proofs.Standing.{place_past}
use Rattle.xs_cert.proofs.Composing.{whole_none}
use Rattle.xs_cert.proofs.Loops.{kept_at, list_whole, list_broken, list_end}
use Rattle.xs_cert.proofs.basis.Basis.group_row.Goals as goal

pub partners-init : goal.partners-init
partners-init c = whole_none c.args.place c.requires.place.within

pub group_block-requires-clause-place : goal.group_block-requires-clause-place
group_block-requires-clause-place c = place_past c.requires.place c.partners.invariant.past

pub group_block-requires-clause-second : goal.group_block-requires-clause-second
group_block-requires-clause-second c =
    let b = c.args.self.now in
    kept_at (is_open b.nest.now (marked b.related.now) c.args.first) c.args.first (length b.nest.now) c.deref-second-items.result.now c.partners.second-index (c.deref-second-items.ensures.value ∙ c.in_ok-group_partners.ensures) c.partners-test.true

pub returns-in-Broken : goal.returns-in-Broken
returns-in-Broken c =
    let b = c.args.self.now in
    let block = rw c.in-Broken.is at c.in_ok-next.ensures in
    list_broken (for_groups c.args.first) c.deref-second-items.result.now _ c.partners.second-index c.args.place c.partners.at c.in-Broken.lines (c.deref-second-items.ensures.value ∙ c.in_ok-group_partners.ensures) c.partners-test.true c.partners.invariant block

pub partners-preserved : goal.partners-preserved
partners-preserved c =
    let block = rw c.in-Whole.is at c.in_ok-next.ensures in
    list_whole (for_groups c.args.first) c.deref-second-items.result.now c.partners.second-index c.args.place c.partners.at c.in-Whole.next c.partners-test.true c.partners.invariant block

pub returns : goal.returns
returns c =
    list_end (for_groups c.args.first) c.deref-second-items.result.now _ c.partners.second-index c.args.place c.partners.at (c.deref-second-items.ensures.value ∙ c.in_ok-group_partners.ensures) (omega arith) c.partners.invariant
