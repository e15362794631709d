use Rattle.std.proofs.Common.{◌*◌, arith}
use Rattle.xs_atoms.proofs.Paging.{in_facts, pages_more}
use Rattle.xs_atoms.proofs.pages.push_pages.Goals as goal

pub pages-preserved : goal.pages-preserved
pages-preserved c =
    let old = c.pages.invariant in
    let f = in_facts c.args.stretches.now c.current-at.result (c.pages.number * 256) c.current-at.ensures in (
      f.0,
      λ t e. omega (arith, f.1 t e),
      omega (arith, c.in_ok-push.ensures.len, old.2),
      c.in_ok-first.ensures.whole,
      pages_more c.args.stretches.now c.pages.cells.items c.page.new.cells.items c.pages.pages.items c.push.new.self.items c.in_ok-first.first c.pages.number old.4 c.in_ok-first.ensures.longer old.2 c.in_ok-first.ensures.page c.in_ok-push.ensures.items,
    )
