use Rattle.std.proofs.Common.{rules}
use Rattle.xs_coarse.proofs.ArcLemmas.{none_reads}
use Rattle.xs_coarse.proofs.Walks.{found_by, joint_target, joins_by}
use Rattle.xs_coarse.proofs.found.Found.visit_partners.Goals as goal

pub returns-then-arc-eq0-clause-ok : goal.returns-then-arc-eq0-clause-ok
returns-then-arc-eq0-clause-ok c = none_reads c.args.labels.now c.args.self.now c.args.arc c.args.others.now c.if-arc-eq0.true

pub returns-clause-ok : goal.returns-clause-ok
returns-clause-ok c = joins_by c.args.labels.now c.visit_each.new.self c.args.arc c.args.others.now (found_by (joint_target c.args.labels.now c.args.arc) c.in_ok-visit_each.ensures.ok (λ x o given. search rules))
