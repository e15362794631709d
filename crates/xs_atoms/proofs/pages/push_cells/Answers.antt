use Rattle.std.proofs.Common.{◌≡◌, ◌∙◌, ◌+◌, refl, arith}
use Rattle.xs_atoms.proofs.Paging.{cells_more, in_facts, page_filled}
use Rattle.xs_atoms.proofs.pages.push_cells.Goals as goal

pub cells-preserved : goal.cells-preserved
cells-preserved c =
    let old = c.cells.invariant in
    let m = cells_more c.args.stretches.now c.args.cells.now.items c.cells.cells.items c.push.new.self.items old.0.0 c.args.begin c.cells.low c.current-at.result _ (record { start = 0; atom = 0 }) old.0.1 old.0.2 c.in_ok-push.ensures.items old.1 c.current-at.ensures refl in
    let f = in_facts c.args.stretches.now c.current-at.result (c.args.begin + c.cells.low) c.current-at.ensures in
    (m.0, m.1, f.0, λ t e. omega (arith, f.1 t e))

pub returns-clause-page : goal.returns-clause-page
returns-clause-page c =
    let old = c.cells.invariant in
    let done : c.cells.low ≡ 256 = omega arith in
    page_filled c.args.stretches.now c.args.cells.now.items old.0.0 c.cells.cells.items c.args.begin (old.0.1 ∙ done) old.0.2 (λ k h. old.1 k (omega arith))
