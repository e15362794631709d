use Rattle.std.proofs.Common.{length, ap, map, arith}
use Rattle.xs_gram.specs.Fences.{spread}
use Rattle.xs_cert_laws.specs.Blocks.{for_cut}
use Rattle.xs_cert_laws.specs.Certificates.{cut_heads}
use Rattle.xs_cert.proofs.Standing.{place_past}
use Rattle.xs_cert.proofs.Loops.{no_numbers, map_whole, map_broken, map_end, none_whole}
use Rattle.xs_cert.proofs.basis.Basis.cut_row.Goals as goal

pub returns-then-count-lt2 : goal.returns-then-count-lt2
returns-then-count-lt2 c =
    let g = c.args.self.now.site.g.now in
    none_whole c.args.place (cut_heads g c.args.rule) c.requires.place.within (ap (map (for_cut c.args.rule)) (no_numbers 1 (length (spread g c.args.rule)) (omega (arith, ap length c.spread.ensures.items))))

pub cuts-init : goal.cuts-init
cuts-init c = none_whole c.args.place _ c.requires.place.within (ap (map (for_cut c.args.rule)) (no_numbers 1 1 (omega arith)))

pub cut_block-requires-clause-place : goal.cut_block-requires-clause-place
cut_block-requires-clause-place c = place_past c.requires.place c.cuts.invariant.past

pub returns-in-Broken : goal.returns-in-Broken
returns-in-Broken c =
    let block = rw c.in-Broken.is at c.in_ok-next.ensures in
    map_broken (for_cut c.args.rule) 1 c.cuts.cut (length (spread c.args.self.now.site.g.now c.args.rule)) c.args.place c.cuts.at c.in-Broken.lines (omega arith) (omega (arith, ap length c.spread.ensures.items)) c.cuts.invariant block

pub cuts-preserved : goal.cuts-preserved
cuts-preserved c =
    let block = rw c.in-Whole.is at c.in_ok-next.ensures in
    map_whole (for_cut c.args.rule) 1 c.cuts.cut c.args.place c.cuts.at c.in-Whole.next (omega arith) c.cuts.invariant block

pub returns : goal.returns
returns c = map_end (for_cut c.args.rule) 1 c.cuts.cut (length (spread c.args.self.now.site.g.now c.args.rule)) c.args.place c.cuts.at (omega (arith, ap length c.spread.ensures.items)) c.cuts.invariant
