use Rattle.std.proofs.Common.{length, ◌++◌, flat_map}
use Rattle.std.proofs.lemmas.Result.{on_ok_weaker}
use Rattle.xs_meet.specs.Closed.{Marked}
use Rattle.xs_closed.specs.Rows.{marked}
use Rattle.xs_cert_laws.specs.Certificates.{between, rule_heads, cut_heads}
use Rattle.xs_cert.specs.Sides.{open_heads}
use Rattle.xs_cert.proofs.Adding.{adds_both}
use Rattle.xs_cert.proofs.writer.Writer.write_blocks.Goals as goal

pub returns : goal.returns
returns c =
    let g = c.args.source.site.g.now in
    let nest = c.args.source.nest.now in
    let r = marked c.args.source.related.now in
    let groups = flat_map (open_heads nest r) (between 0 (length nest)) in
    let rules = flat_map (rule_heads g) (between 0 (length g.rules)) in
    let cuts = flat_map (cut_heads g) (between 0 (length g.rules)) in
    on_ok_weaker c.write_all_cuts.result (λ last. adds_both g nest (Marked r) groups (rules ++ cuts) c.in_ok-write_all_groups.ensures (adds_both g nest (Marked r) rules cuts c.in_ok-write_all_rules.ensures last)) c.write_all_cuts.ensures
