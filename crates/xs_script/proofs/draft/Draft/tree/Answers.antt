use Rattle.std.proofs.Common.{sym, subst}
use Rattle.xs_script.specs.Drafts.{Drafting}
use Rattle.xs_script.specs.Playing.{IsTreeAnswer}
use Rattle.xs_script.proofs.Drafts.{draft_told}
use Rattle.xs_script.proofs.draft.Draft.tree.Goals as goal

pub invariant_of-self : goal.invariant_of-self
invariant_of-self c =
    let i = c.self.inside in
    let line = c.in_ok-line.line in
    let told = rw (← c.told.ensures.pair, ← c.told.ensures.document) at c.in_ok-line.ensures.answer in
    draft_told i.two.now i.session i.doc.items line i.same i.line c.self.invariant (subst (λ (d : Drafting). IsTreeAnswer d.pair d.document line) (sym c.self.view_is) told)
