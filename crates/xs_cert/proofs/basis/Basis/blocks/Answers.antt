use Rattle.xs_cert.specs.Sides.{all_rule_heads, all_cut_heads}
use Rattle.xs_cert.proofs.Standing.{place_past}
use Rattle.xs_cert.proofs.Composing.{three_broken, two_broken, one_reading}
use Rattle.xs_cert.proofs.basis.Basis.blocks.Goals as goal

pub returns-in-Broken : goal.returns-in-Broken
returns-in-Broken c =
    let g = c.args.self.now.site.g.now in
    let groups = rw c.in-Broken.is at c.in_ok-next.ensures in
    three_broken (all_rule_heads g) (all_cut_heads g) groups

pub all_rules-requires-clause-place : goal.all_rules-requires-clause-place
all_rules-requires-clause-place c =
    let groups = rw c.in-Whole.is at c.in_ok-next.ensures in
    place_past c.requires.place groups.past

pub returns-in-Broken-2 : goal.returns-in-Broken-2
returns-in-Broken-2 c =
    let groups = rw c.in-Whole.is at c.in_ok-next.ensures in
    let rules = rw c.in-Broken-2.is at c.in_ok-next-2.ensures in
    two_broken (all_cut_heads c.args.self.now.site.g.now) groups rules

pub all_cuts-requires-clause-place : goal.all_cuts-requires-clause-place
all_cuts-requires-clause-place c =
    let groups = rw c.in-Whole.is at c.in_ok-next.ensures in
    let rules = rw c.in-Whole-2.is at c.in_ok-next-2.ensures in
    place_past (place_past c.requires.place groups.past) rules.past

pub returns : goal.returns
returns c =
    let groups = rw c.in-Whole.is at c.in_ok-next.ensures in
    let rules = rw c.in-Whole-2.is at c.in_ok-next-2.ensures in
    one_reading (all_cut_heads c.args.self.now.site.g.now) groups rules c.all_cuts.result c.all_cuts.ensures
