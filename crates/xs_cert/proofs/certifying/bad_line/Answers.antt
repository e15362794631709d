use Rattle.std.proofs.Common.{ℕ, sym, subst, ◌∙◌}
use Rattle.xs_cert_laws.specs.Certificates.{IsBadAt}
use Rattle.xs_cert.proofs.Opening.{true_false}
use Rattle.xs_cert.proofs.Fronts.{front_short, bad_at, certificate, no_end_read}
use Rattle.xs_cert.proofs.certifying.bad_line.Goals as goal

pub line_after-requires : goal.line_after-requires
line_after-requires c =
    let front = rw c.in-Broken.is at c.in_ok-end.ensures in
    front_short c.args.two.now c.args.bytes.now c.in-Broken.lines front

pub returns-in-Broken-clause-some : goal.returns-in-Broken-clause-some
returns-in-Broken-clause-some c =
    let front = rw c.in-Broken.is at c.in_ok-end.ensures in
    subst (λ (n : ℕ). IsBadAt c.args.two.now c.args.bytes.now n) (sym c.line_after.ensures) (bad_at c.args.two.now c.args.bytes.now c.in-Broken.lines front)

pub returns-then-is_last_line-clause-none : goal.returns-then-is_last_line-clause-none
returns-then-is_last_line-clause-none c =
    let all = rw c.in-Whole.is at c.in_ok-end.ensures in
    certificate c.args.two.now c.args.bytes.now c.in-Whole.end all (c.is_last_line.ensures.0 c.if-is_last_line.true)

pub line_after-requires-else-is_last_line : goal.line_after-requires-else-is_last_line
line_after-requires-else-is_last_line c =
    let all = rw c.in-Whole.is at c.in_ok-end.ensures in
    front_short c.args.two.now c.args.bytes.now c.in-Whole.end.lines (no_end_read c.args.two.now c.args.bytes.now c.in-Whole.end all (λ e. true_false (sym (c.is_last_line.ensures.1 e) ∙ c.if-is_last_line.false)))

pub returns-else-is_last_line-clause-some : goal.returns-else-is_last_line-clause-some
returns-else-is_last_line-clause-some c =
    let all = rw c.in-Whole.is at c.in_ok-end.ensures in
    subst (λ (n : ℕ). IsBadAt c.args.two.now c.args.bytes.now n) (sym c.line_after-else-is_last_line.ensures)
    (bad_at c.args.two.now c.args.bytes.now c.in-Whole.end.lines (no_end_read c.args.two.now c.args.bytes.now c.in-Whole.end all (λ e. true_false (sym (c.is_last_line.ensures.1 e) ∙ c.if-is_last_line.false))))
