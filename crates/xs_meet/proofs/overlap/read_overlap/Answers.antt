use Rattle.std.proofs.Common.{rules, ◌≡◌, ◌∷◌, arith}
use Rattle.std.proofs.lemmas.List.Elements.{All-cons}
use Rattle.std.proofs.lemmas.Option.{slice_get_within}
use Rattle.xs_meet.specs.Traces.{IsRelated}
use Rattle.xs_meet.specs.Sharing.{AreKnown}
use Rattle.xs_meet.proofs.OverlapLemmas.{overlap, at_seed, departed_from, some_unless, some_holds}
use Rattle.xs_meet.proofs.TraceLemmas.{bridge_related}
use Rattle.xs_meet.proofs.overlap.read_overlap.Goals as goal

pub read_trace-requires-2-clause-place : goal.read_trace-requires-2-clause-place
read_trace-requires-2-clause-place c =
    let b = c.args.b.now in
    let r = c.args.reached.now in
    let rest = c.in_ok-rest.rest in
    let end = c.index.result.now in
    let at = at_seed (AreKnown c.args.shared.now) b b r.rests c.args.place rest end c.in_ok-rest.ensures c.index.ensures in
    let seeded = c.requires.reached.rests.seeded rest.seed end c.in_ok-rest.ensures.seed at in
    slice_get_within r.middles.steps.items end.from seeded.end seeded.at

pub index-departure-requires : goal.index-departure-requires
index-departure-requires c =
    let steps = c.args.reached.now.middles.steps in
    let u = c.in_ok-middle.ensures in
    let l = slice_get_within steps.items c.in_ok-middle.middle.seed u.traced.first u.traced.begins in
    omega (arith, l, steps.ok)

pub index-turn-requires : goal.index-turn-requires
index-turn-requires c =
    let a = c.args.a.now in
    let b = c.args.b.now in
    let r = c.args.reached.now in
    let u = c.in_ok-middle.ensures in
    let departure = c.index-departure.result.now in
    let at = at_seed (AreKnown c.args.shared.now) a b r.middles _ c.in_ok-middle.middle departure u c.index-departure.ensures in
    let x = c.requires.reached.middles.seeded c.in_ok-middle.middle.seed departure u.seed at in
    let l = slice_get_within r.turns.steps.items departure.from x.before x.at in
    omega (arith, l, r.turns.steps.ok)

pub piece_between-requires-clause-first : goal.piece_between-requires-clause-first
piece_between-requires-clause-first c = (c.requires.reached.turns.range _ _ (departed_from (AreKnown c.args.shared.now) c.args.a.now c.args.b.now c.args.reached.now _ c.in_ok-middle.middle c.index-departure.result.now c.index-turn.result.now c.requires.reached c.in_ok-middle.ensures c.index-departure.ensures c.index-turn.ensures).0).0

pub piece_between-requires-clause-second : goal.piece_between-requires-clause-second
piece_between-requires-clause-second c = (c.requires.reached.turns.range _ _ (departed_from (AreKnown c.args.shared.now) c.args.a.now c.args.b.now c.args.reached.now _ c.in_ok-middle.middle c.index-departure.result.now c.index-turn.result.now c.requires.reached c.in_ok-middle.ensures c.index-departure.ensures c.index-turn.ensures).0).1

pub unwrap-piece-requires : goal.unwrap-piece-requires
unwrap-piece-requires c = some_unless c.piece_between.result c.piece_between.ensures.none (departed_from (AreKnown c.args.shared.now) c.args.a.now c.args.b.now c.args.reached.now _ c.in_ok-middle.middle c.index-departure.result.now c.index-turn.result.now c.requires.reached c.in_ok-middle.ensures c.index-departure.ensures c.index-turn.ensures).1

pub read_trace-requires-3-clause-place : goal.read_trace-requires-3-clause-place
read_trace-requires-3-clause-place c =
    let from = c.requires.reached.turns.turned _ _ (departed_from (AreKnown c.args.shared.now) c.args.a.now c.args.b.now c.args.reached.now _ c.in_ok-middle.middle c.index-departure.result.now c.index-turn.result.now c.requires.reached c.in_ok-middle.ensures c.index-departure.ensures c.index-turn.ensures).0 in
    slice_get_within c.args.reached.now.fronts.steps.items c.index-turn.result.now.from from.front from.at

pub returns : goal.returns
returns c =
    let a = c.args.a.now in
    let b = c.args.b.now in
    let r = c.args.reached.now in
    let t = c.in_ok-rest.ensures in
    let u = c.in_ok-middle.ensures in
    let rest = c.in_ok-rest.rest in
    let middle = c.in_ok-middle.middle in
    let end = c.index.result.now in
    let departure = c.index-departure.result.now in
    let turn = c.index-turn.result.now in
    let ended = at_seed (AreKnown c.args.shared.now) b b r.rests c.args.place rest end t c.index.ensures in
    let crosses = at_seed (AreKnown c.args.shared.now) a b r.middles end.from middle departure u c.index-departure.ensures in
    let turned = departed_from (AreKnown c.args.shared.now) c.args.a.now c.args.b.now c.args.reached.now _ c.in_ok-middle.middle c.index-departure.result.now c.index-turn.result.now c.requires.reached c.in_ok-middle.ensures c.index-departure.ensures c.index-turn.ensures in
    let sides = some_holds _ c.piece_between.result c.unwrap-piece.result c.unwrap-piece.ensures c.piece_between.ensures.some in
    let pieces : c.extend_from_slice.new.self.items ≡ c.unwrap-piece.result ∷ middle.pieces.items = search rules in
    record {
      related_x = c.in_ok-front.ensures.traced.related;
      related_a = rw pieces (All-cons (IsRelated (AreKnown c.args.shared.now)) c.unwrap-piece.result middle.pieces.items (bridge_related (AreKnown c.args.shared.now) a b turn.first turn.second departure.first departure.second c.unwrap-piece.result sides) u.traced.related);
      related_y = t.traced.related;
      overlap = λ nest x m y sx sm sy. overlap (AreKnown c.args.shared.now) a b r c.args.place c.unwrap-piece.result c.in_ok-front.front middle rest end departure turn c.requires.reached c.requires.place t ended u crosses turned.0 sides c.in_ok-front.ensures nest x m y sx (rw pieces at sm) sy;
    }
