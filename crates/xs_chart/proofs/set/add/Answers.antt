use Rattle.xs_chart.proofs.Different.{added_iff, different}
use Rattle.xs_chart.proofs.set.add.Goals as goal

pub returns-clause-added : goal.returns-clause-added
returns-clause-added c = added_iff c.args.set.now.keys c.args.item c.in_ok-added.added c.in_ok-added.ensures.added

pub returns-clause-different : goal.returns-clause-different
returns-clause-different c = different c.insert.new.self.keys c.insert.ensures.unique

pub returns-in_err-added-clause-different : goal.returns-in_err-added-clause-different
returns-in_err-added-clause-different c = different c.insert.new.self.keys c.insert.ensures.unique
