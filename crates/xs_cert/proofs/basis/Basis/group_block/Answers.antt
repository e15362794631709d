use Rattle.std.proofs.Common.{sym, subst, ◌∷◌, []}
use Rattle.xs_meet.specs.Closed.{Marked}
use Rattle.xs_closed.specs.Rows.{marked}
use Rattle.xs_cert_laws.specs.Blocks.{for_groups}
use Rattle.xs_cert.specs.declared.place.Reading.{Reading}
use Rattle.xs_cert.specs.Basis.{AreReadBy}
use Rattle.xs_cert.proofs.Standing.{place_past}
use Rattle.xs_cert.proofs.BlocksRead.{no_title, groups_read_by}
use Rattle.xs_cert.proofs.basis.Basis.group_block.Goals as goal

pub returns-in_default : goal.returns-in_default
returns-in_default c =
    let b = c.args.self.now in
    no_title b.site.g.now b.nest.now (Marked (marked b.related.now)) b.bytes.now c.args.place (for_groups c.args.first c.args.second) (rw c.in_default.is at c.pair_title.ensures.none)

pub read_apart-requires : goal.read_apart-requires
read_apart-requires c = place_past c.requires.place c.in-Some.ensures.some

pub returns : goal.returns
returns c =
    let b = c.args.self.now in
    subst (λ (r : Reading). AreReadBy b c.args.place (for_groups c.args.first c.args.second ∷ []) r) (sym c.reading_or.ensures)
    (groups_read_by b.site.g.now b.nest.now (Marked (marked b.related.now)) b.bytes.now c.args.place c.in-Some.start c.args.first c.args.second c.content-m.result.now c.content-n.result.now c.content-m.ensures c.content-n.ensures c.in-Some.ensures.some c.in_ok-rows.rows c.in_ok-rows.ensures)
