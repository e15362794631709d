use Rattle.std.proofs.Common.{◌∙◌, ◌++◌, ap, add-one}
use Rattle.xs_leiden.specs.Made.{line, after_line}
use Rattle.xs_leiden.proofs.More.{line_more}
use Rattle.xs_leiden.proofs.lines.push_lines.Goals as goal

pub lines-preserved : goal.lines-preserved
lines-preserved c =
    rw (add-one c.lines.before) (
      line_more c.args.text.now c.lines.text c.push_line.new.text c.push.new.self c.lines.before c.args.draws.now.state c.lines.draws.state c.lines.invariant.0 c.lines.invariant.1
          (c.in_ok-push_line.ensures.text ∙ ap (λ k. c.lines.text ++ line k c.lines.draws.state) (add-one c.lines.before)) c.in_ok-push.ensures.ok,
      c.in_ok-push_line.ensures.state ∙ ap after_line c.lines.invariant.1,
    )
