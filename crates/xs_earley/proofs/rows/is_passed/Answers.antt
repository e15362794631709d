use Rattle.std.proofs.Common.{subst}
use Rattle.xs_gram.specs.declared.parts.GItem.{GItem}
use Rattle.xs_gram.specs.declared.parts.GItem.TheVariants.{Term, Skip}
use Rattle.xs_gram.specs.Grammar.{ItemAt}
use Rattle.xs_earley.proofs.Rowings.{passed_lex}
use Rattle.xs_earley.proofs.rows.is_passed.Goals as goal

pub returns-in-Term : goal.returns-in-Term
returns-in-Term c =
    let g = c.args.g.now in
    let place = c.args.place in
    let here : ItemAt g place.rule place.dot (Term c.in-Term.term c.in-Term.slot) = subst (λ (x : GItem). ItemAt g place.rule place.dot x) c.in-Term.is c.requires.item in
    let iff = passed_lex g place c.term.result.now (Term c.in-Term.term c.in-Term.slot, here, c.term.ensures) in
    ((λ h. iff.1 (c.may_end.ensures.0 h)), (λ h. c.may_end.ensures.1 (iff.0 h)))

pub returns-in-Skip : goal.returns-in-Skip
returns-in-Skip c =
    let g = c.args.g.now in
    let place = c.args.place in
    let here : ItemAt g place.rule place.dot (Skip c.in-Skip.skip) = subst (λ (x : GItem). ItemAt g place.rule place.dot x) c.in-Skip.is c.requires.item in
    let iff = passed_lex g place c.skip.result.now (Skip c.in-Skip.skip, here, c.skip.ensures) in
    ((λ h. iff.1 (c.may_end-in-Skip.ensures.0 h)), (λ h. c.may_end-in-Skip.ensures.1 (iff.0 h)))
