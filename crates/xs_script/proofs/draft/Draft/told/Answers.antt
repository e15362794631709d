use Rattle.std.proofs.Common.{◌≡◌, ◌∙◌, ℕ, List, Some, sym, subst}
use Rattle.std.specs.Prelude.{MatchOption}
use Rattle.std.specs.declared.option.Option.{Option}
use Rattle.xs_script.specs.Drafts.{Drafting}
use Rattle.xs_script.specs.Playing.{IsTreeAnswer}
use Rattle.xs_script.proofs.draft.Draft.told.Goals as goal

pub returns-in-Some-clause-answer : goal.returns-in-Some-clause-answer
returns-in-Some-clause-answer c =
    let i = c.self.inside in
    let kept : i.line ≡ Some c.in-Some.line = sym c.take.ensures.value ∙ c.in-Some.is in
    let told = subst (λ (o : Option (List ℕ)). MatchOption o (Unit {0}) (IsTreeAnswer i.two.now i.doc.items)) kept c.self.invariant.told in
    subst (λ (d : Drafting). IsTreeAnswer d.pair d.document c.in-Some.line) c.self.view_is told
