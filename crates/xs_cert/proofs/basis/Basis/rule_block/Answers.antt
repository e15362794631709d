use Rattle.std.proofs.Common.{sym, subst, ◌∷◌, []}
use Rattle.xs_meet.specs.Closed.{Marked}
use Rattle.xs_closed.specs.Rows.{marked}
use Rattle.xs_cert_laws.specs.Blocks.{for_rules}
use Rattle.xs_cert.specs.declared.place.Reading.{Reading}
use Rattle.xs_cert.specs.Basis.{AreReadBy}
use Rattle.xs_cert.proofs.Standing.{place_past}
use Rattle.xs_cert.proofs.BlocksRead.{no_title, rules_read}
use Rattle.xs_cert.proofs.basis.Basis.rule_block.Goals as goal

pub returns-in_default : goal.returns-in_default
returns-in_default c =
    let b = c.args.self.now in
    no_title b.site.g.now b.nest.now (Marked (marked b.related.now)) b.bytes.now c.args.place (for_rules c.args.first c.args.second) (rw c.in_default.is at c.pair_title.ensures.none)

pub read_apart-requires : goal.read_apart-requires
read_apart-requires c = place_past c.requires.place c.in-Some.ensures.some

pub returns : goal.returns
returns c =
    let b = c.args.self.now in
    subst (λ (r : Reading). AreReadBy b c.args.place (for_rules c.args.first c.args.second ∷ []) r) (sym c.reading_or.ensures)
    (rules_read b.site.g.now b.nest.now (Marked (marked b.related.now)) b.bytes.now c.args.place c.in-Some.start c.laid_in_one_way.ensures.once c.requires.basis.site.built c.args.first c.args.second c.in-Some.ensures.some c.args.m.now c.args.n.now c.requires.nets c.in_ok-rows.rows c.in_ok-rows.ensures)
