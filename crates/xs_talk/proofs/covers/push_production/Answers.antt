use Rattle.std.proofs.Common.{◌++◌, ◌∙◌, List, ℕ, ap, append_assoc, codes}
use Rattle.xs_talk.specs.Lines.{numbered}
use Rattle.xs_talk.specs.Covers.{shown_lines}
use Rattle.xs_talk.proofs.covers.push_production.Goals as goal

pub returns : goal.returns
returns c =
    let said = shown_lines c.args.names.now c.args.shown.now in
    let begun = numbered (codes "production ") c.args.number (codes ": ") in
    c.in_ok-push_shown.ensures ∙ ap (λ (out : List ℕ). out ++ said) c.in_ok-push_numbered.ensures ∙ append_assoc c.args.out.now begun said
