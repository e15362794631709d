use Rattle.std.proofs.Common.{◌≡◌, rules}
use Rattle.std.proofs.lemmas.List.Sorted.{IsNonDecreasingBy-from_sort_by_key}
use Rattle.std.proofs.lemmas.Fn.{always_returns_same}
use Rattle.xs_chart.specs.Charted.{non_of}
use Rattle.xs_chart.proofs.Grouping.{sorted_grouped}
use Rattle.xs_chart.proofs.waiting.group.Goals as goal

pub returns-clause-rising : goal.returns-clause-rising
returns-clause-rising c = IsNonDecreasingBy-from_sort_by_key non_of _ c.in_ok-sort_by_key.ensures.sorted (λ a r q k. search rules)

pub returns-clause-grouped : goal.returns-clause-grouped
returns-clause-grouped c =
    sorted_grouped c.args.waits.now.items c.sort_by_key.new.self.items (returns-clause-rising c)
    (c.sort_by_key.ensures.stable non_of (always_returns_same _ (λ a r. r ≡ non_of a.0.now) _ (λ a r q k. search rules)))
