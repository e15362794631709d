use Rattle.std.proofs.Common.{◌≡◌, ◌∙◌, ◌++◌, ℕ, List, OnOk, ap, subst}
use Rattle.xs_pair.specs.Grammars.{Pair}
use Rattle.xs_script.specs.Drafts.{Drafting}
use Rattle.xs_script.specs.Playing.{IsNextAnswer}
use Rattle.xs_script.proofs.draft.Draft.next.Goals as goal

pub returns-clause-answer : goal.returns-clause-answer
returns-clause-answer c =
    let i = c.self.inside in
    let pair : i.two.now ≡ c.args.self.now.pair = ap (λ (d : Drafting). d.pair) c.self.view_is ∙ c.catch_up.ensures.pair in
    let doc : i.session.document ≡ c.args.self.now.document = ap (λ (d : Drafting). d.read) c.self.view_is ∙ c.in_ok-catch_up.ensures.read ∙ c.catch_up.ensures.document in
    subst (λ (p : Pair). OnOk c.next.result ((line : List ℕ) × IsNextAnswer p c.args.self.now.document c.args.at line × (c.next.new.out ≡ c.args.out.now ++ line))) pair
    (subst (λ (d : List ℕ). OnOk c.next.result ((line : List ℕ) × IsNextAnswer i.two.now d c.args.at line × (c.next.new.out ≡ c.args.out.now ++ line))) doc c.next.ensures)
