use Rattle.xs_loose.specs.Parts.{part_items}
use Rattle.xs_searches.proofs.Lightness.{part_not_heavy}
use Rattle.xs_searches.proofs.nets.Site.net.Goals as goal

pub unreachable-requires : goal.unreachable-requires
unreachable-requires c =
    let g = c.args.self.now.g.now in
    let heavy = rw c.in-Err-Heavy.field-0-is at c.in-Err-Heavy.ensures.fault in
    part_not_heavy g c.requires.site.built (part_items g c.args.part) c.in-Err-Heavy.field-0-0 c.requires.light heavy.0 heavy.1
