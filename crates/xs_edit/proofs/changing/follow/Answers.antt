use Rattle.std.proofs.Common.{◌≡◌, false, true, rules, arith, ◌∙◌, sym}
use Rattle.std.proofs.lemmas.Bool.{false≢true, not-true, not-false}
use Rattle.xs_edit.proofs.Prefixes.{read_on, stopped, finished}
use Rattle.xs_edit.proofs.changing.follow.Goals as goal

pub returns-then-not-branch-clause-following : goal.returns-then-not-branch-clause-following
returns-then-not-branch-clause-following c =
    let no : c.in_ok-step.field-0 ≡ false = search (rules, not-true, c.if-not-branch.true) in
    stopped c.args.g.now c.args.doc.now c.symbols.run c.step.new.self c.symbols.place c.at.result c.symbols.invariant.run c.symbols.invariant.word (c.in_ok-step.ensures.unchanged no) c.at.ensures
    (λ h. false≢true (sym no ∙ c.in_ok-step.ensures.next.1 h))

pub symbols-preserved : goal.symbols-preserved
symbols-preserved c =
    let yes : c.in_ok-step.field-0 ≡ true = search (rules, not-false, c.if-not-branch.false) in
    record {
      run = c.step.ensures.run;
      word = read_on c.args.doc.now c.symbols.run.word c.step.new.self.word c.symbols.place c.at.result c.symbols.invariant.word c.at.ensures (c.in_ok-step.ensures.word yes);
    }

pub returns-clause-following : goal.returns-clause-following
returns-clause-following c = finished c.args.g.now c.args.doc.now c.symbols.run c.symbols.place c.symbols.invariant.run c.symbols.invariant.word (omega (arith, c.symbols-test.false, c.len-place-end.ensures))
