use Rattle.std.proofs.Common.{◌≡◌, ◌∙◌, length, refl}
use Rattle.xs_class.proofs.Lists.{len_is}
use Rattle.xs_atoms.proofs.Paging.{page_of_same, same_at, whole_set, whole_stays, whole_is}
use Rattle.xs_atoms.proofs.pages.page.Goals as goal

pub returns-then-place-whole-clause-page : goal.returns-then-place-whole-clause-page
returns-then-place-whole-clause-page c =
    let first : c.in-Ok.first ≡ length c.args.cells.now.items = c.in-Ok.ensures.1 ∙ c.len.ensures ∙ len_is c.args.cells.now in
    page_of_same c.args.stretches.now c.push_same.new.cells.items c.in-Ok.first c.args.begin c.args.at _ _ (same_at c.push_same.new.cells.items c.in-Ok.first (length c.args.cells.now.items) _ first c.in_ok-push_same.ensures.same) refl (c.is_whole.ensures c.if-not-is_whole.false)

pub returns-in-Some-clause-page : goal.returns-in-Some-clause-page
returns-in-Some-clause-page c =
    page_of_same c.args.stretches.now c.args.cells.now.items c.in-Some.before c.args.begin c.args.at _ _ (whole_is c.args.cells.now.items c.args.whole.now _ c.in-Some.before _ c.requires.whole c.if-place-whole.false c.in-Some.is) refl (c.is_whole.ensures c.if-not-is_whole.false)

pub returns-clause-whole : goal.returns-clause-whole
returns-clause-whole c =
    let first : c.in-Ok.first ≡ length c.args.cells.now.items = c.in-Ok.ensures.1 ∙ c.len.ensures ∙ len_is c.args.cells.now in
    whole_set c.push_same-2.new.cells.items c.args.whole.now _ c.in-Ok.first (whole_stays c.args.cells.now.items c.push_same-2.new.cells.items c.args.whole.now c.requires.whole c.in_ok-push_same-2.ensures.longer) (same_at c.push_same-2.new.cells.items c.in-Ok.first (length c.args.cells.now.items) _ first c.in_ok-push_same-2.ensures.same)

pub returns-clause-page : goal.returns-clause-page
returns-clause-page c =
    let first : c.in-Ok.first ≡ length c.args.cells.now.items = c.in-Ok.ensures.1 ∙ c.len.ensures ∙ len_is c.args.cells.now in
    page_of_same c.args.stretches.now c.push_same-2.new.cells.items c.in-Ok.first c.args.begin c.args.at _ _ (same_at c.push_same-2.new.cells.items c.in-Ok.first (length c.args.cells.now.items) _ first c.in_ok-push_same-2.ensures.same) refl (c.is_whole.ensures c.if-not-is_whole.false)
