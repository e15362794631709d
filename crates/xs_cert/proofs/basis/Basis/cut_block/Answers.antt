use Rattle.std.proofs.Common.{sym, subst, ◌∷◌, []}
use Rattle.xs_meet.specs.Closed.{Marked}
use Rattle.xs_closed.specs.Rows.{marked}
use Rattle.xs_cert_laws.specs.Blocks.{for_cut}
use Rattle.xs_cert.specs.declared.place.Reading.{Reading}
use Rattle.xs_cert.specs.Basis.{AreReadBy}
use Rattle.xs_cert.proofs.Standing.{place_past}
use Rattle.xs_cert.proofs.BlocksRead.{no_title, cut_read}
use Rattle.xs_cert.proofs.basis.Basis.cut_block.Goals as goal

pub returns-in_default : goal.returns-in_default
returns-in_default c =
    let b = c.args.self.now in
    no_title b.site.g.now b.nest.now (Marked (marked b.related.now)) b.bytes.now c.args.place (for_cut c.args.rule c.args.cut) (rw c.in_default.is at c.pair_title.ensures.none)

pub read_clear-requires : goal.read_clear-requires
read_clear-requires c = place_past c.requires.place c.in-Some.ensures.some

pub returns : goal.returns
returns c =
    let b = c.args.self.now in
    let n = c.in_ok-nets.ensures in
    subst (λ (r : Reading). AreReadBy b c.args.place (for_cut c.args.rule c.args.cut ∷ []) r) (sym c.reading_or.ensures)
    (cut_read b.site.g.now b.nest.now (Marked (marked b.related.now)) b.bytes.now c.args.place c.in-Some.start c.laid_in_one_way.ensures.once c.cuts_are_one.ensures c.requires.basis.site.built c.args.rule c.args.cut c.in-Some.ensures.some c.in_ok-nets.nets.front c.in_ok-nets.nets.rest
    (record { start = n.start; end = n.end; at = n.at; front = n.front; rest = n.rest }) c.in_ok-rows.rows c.in_ok-rows.ensures)
