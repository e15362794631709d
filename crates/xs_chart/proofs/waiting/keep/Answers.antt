use Rattle.std.proofs.Common.{◌∙◌, ap}
use Rattle.xs_chart.specs.Charted.{grouped}
use Rattle.xs_chart.proofs.Grouping.{grouped_again}
use Rattle.xs_chart.proofs.waiting.keep.Goals as goal

pub returns-in_err-push-clause-same : goal.returns-in_err-push-clause-same
returns-in_err-push-clause-same c = ap grouped c.in_ok-group.ensures.grouped ∙ grouped_again c.args.waiting.now.items

pub returns-in-Ok-clause-same : goal.returns-in-Ok-clause-same
returns-in-Ok-clause-same c = ap grouped c.in_ok-group.ensures.grouped ∙ grouped_again c.args.waiting.now.items

pub returns-in-Err-clause-same : goal.returns-in-Err-clause-same
returns-in-Err-clause-same c = ap grouped c.in_ok-group.ensures.grouped ∙ grouped_again c.args.waiting.now.items
