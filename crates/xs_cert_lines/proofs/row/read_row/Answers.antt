use Rattle.std.proofs.Common.{drop, refl, subst, sym}
use Rattle.xs_cert_lines.specs.Reading.{HasPartners}
use Rattle.xs_cert_lines.proofs.Numerals.{within_found}
use Rattle.xs_cert_lines.proofs.Marking.{no_state, no_rest, no_feed, row_added, cleared_same}
use Rattle.xs_cert_lines.proofs.row.read_row.Goals as goal

pub returns-then-not-has_feed-clause-same : goal.returns-then-not-has_feed-clause-same
returns-then-not-has_feed-clause-same c = record { sized = λ high wide was. was; same = λ a b. refl }

pub returns-then-not-has_feed-clause-none : goal.returns-then-not-has_feed-clause-none
returns-then-not-has_feed-clause-none c = no_feed c.args.first c.args.high c.args.wide (drop c.args.start c.args.bytes.now) (sym c.if-not-has_feed.ensures)

pub returns-in_err-state-clause-same : goal.returns-in_err-state-clause-same
returns-in_err-state-clause-same c = rw c.from_residual.ensures (record { sized = λ high wide was. was; same = λ a b. refl })

pub returns-in_err-state-clause-none : goal.returns-in_err-state-clause-none
returns-in_err-state-clause-none c = rw c.from_residual.ensures (no_state c.args.first c.args.high c.args.wide (drop c.args.start c.args.bytes.now) c.ranges.high.fits c.in_err-state.ensures.value)

pub returns-in_default-clause-same : goal.returns-in_default-clause-same
returns-in_default-clause-same c =
    let found = within_found c.args.first c.args.high (drop c.args.start c.args.bytes.now) c.in_ok-state.state (drop c.in_ok-state.partners c.args.bytes.now) (sym c.in_ok-state.ensures.value) in
    cleared_same c.args.first c.args.set.now c.read_partners.new.set c.clear_row.new.self c.in_ok-state.state c.requires.blank found.order c.in_default.ensures.row c.clear_row.ensures.sized c.clear_row.ensures.clear

pub returns-in_default-clause-none : goal.returns-in_default-clause-none
returns-in_default-clause-none c =
    no_rest c.args.first c.args.high c.args.wide (drop c.args.start c.args.bytes.now) c.in_ok-state.state (drop c.in_ok-state.partners c.args.bytes.now) c.ranges.high.fits c.in_ok-state.ensures.value
    (λ rest has. c.in_default.ensures.none rest (subst (λ k. HasPartners 0 k (drop c.in_ok-state.partners c.args.bytes.now) rest) c.requires.wide has))

pub returns-clause-some : goal.returns-clause-some
returns-clause-some c = row_added c.args.first c.args.high c.args.set.now c.read_partners.new.set (drop c.args.start c.args.bytes.now) c.in_ok-state.state (drop c.in_ok-state.partners c.args.bytes.now) (drop c.in-Some.end c.args.bytes.now) c.requires.high c.in_ok-state.ensures.value c.in-Some.ensures.some
