use Rattle.std.proofs.Common.{rules}
use Rattle.std.specs.Prelude.{IsTrue}
use Rattle.std.proofs.lemmas.Bool.{not-false}
use Rattle.xs_earley.proofs.Settlings.{passes_made}
use Rattle.xs_earley.proofs.adding.pass.Goals as goal

pub returns-clause-adds : goal.returns-clause-adds
returns-clause-adds c g letters place is =
    let passes : IsTrue c.args.row.passes = search (rules, not-false, c.if-not-row.false) in
    passes_made g letters c.args.at c.args.origin place c.args.row c.args.chart.now.sets c.put.new.chart.sets is passes c.in_ok-put.ensures.adds
