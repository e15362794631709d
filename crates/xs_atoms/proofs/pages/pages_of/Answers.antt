use Rattle.std.proofs.Common.{refl}
use Rattle.xs_atoms.proofs.Paging.{table_has}
use Rattle.xs_atoms.proofs.pages.pages_of.Goals as goal

pub returns : goal.returns
returns c = table_has c.args.stretches.now c.push_pages.new.cells.items c.in_ok-pages.pages.items _ _ _ c.requires.some c.in_ok-pages.ensures.count refl refl c.in_ok-pages.ensures.pages
