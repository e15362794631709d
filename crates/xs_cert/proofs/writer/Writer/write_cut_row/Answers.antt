use Rattle.std.proofs.Common.{◌≡◌, ◌-◌, List, length, map, ap, subst, arith}
use Rattle.std.specs.List.{range_with_len}
use Rattle.xs_gram.specs.Fences.{spread}
use Rattle.xs_meet.specs.Closed.{Marked}
use Rattle.xs_closed.specs.Rows.{marked}
use Rattle.xs_cert_laws.specs.Blocks.{Head, for_cut}
use Rattle.xs_cert_laws.specs.Certificates.{between, cut_heads}
use Rattle.xs_cert.specs.Writing.{AddsBlocks}
use Rattle.xs_cert.proofs.Ranges.{map_more}
use Rattle.xs_cert.proofs.Adding.{adds_one}
use Rattle.xs_cert.proofs.writer.Writer.write_cut_row.Goals as goal

pub cuts-preserved : goal.cuts-preserved
cuts-preserved c =
    let source = c.args.source in
    let more = adds_one source.site.g.now source.nest.now (Marked (marked source.related.now)) (map (for_cut c.args.rule) (between 1 c.cuts.cut)) (for_cut c.args.rule c.cuts.cut) c.cuts.invariant c.in_ok-write_cut.ensures in
    rw (map_more (for_cut c.args.rule) 1 c.cuts.cut c.cuts.auto.cut) more

pub returns : goal.returns
returns c =
    let source = c.args.source in
    let items = spread source.site.g.now c.args.rule in
    let e = c.cuts.auto.cut-end in
    let f = c.cuts-test.false in
    let same : c.cuts.cut - 1 ≡ length items - 1 = omega (arith, c.cuts.auto.cut, c.cuts.auto.cut-end, c.cuts-test.false, c.spread.ensures.short, ap length c.spread.ensures.items) in
    let are : map (for_cut c.args.rule) (between 1 c.cuts.cut) ≡ cut_heads source.site.g.now c.args.rule = ap (λ n. map (for_cut c.args.rule) (range_with_len 1 n)) same in
    subst (λ (hs : List Head). AddsBlocks source.site.g.now source.nest.now (Marked (marked source.related.now)) hs c.args.self.now.out c.cuts.self.out) are c.cuts.invariant
