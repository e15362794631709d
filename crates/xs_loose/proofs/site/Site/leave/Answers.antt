use Rattle.std.proofs.Common.{arith, refl}
use Rattle.xs_auto.specs.Nets.{states}
use Rattle.xs_gram.specs.Loose.{here}
use Rattle.xs_loose.proofs.Pushing.{element_is}
use Rattle.xs_loose.proofs.Leaving.{left_room, left_laid, other_slot}
use Rattle.xs_loose.proofs.Moving.{rank_in}
use Rattle.xs_loose.proofs.site.Site.leave.Goals as goal

pub overflow_cast-weight : goal.overflow_cast-weight
overflow_cast-weight c = let left = left_room c.args.self.now.g.now c.requires.site.built c.args.self.now.tables.now.weights c.requires.site.tables.weights (states c.args.into.now.net) c.args.non c.requires.room.0 c.at-rank.result.now c.at.result.now c.args.spot c.requires.few c.requires.there (rank_in c.args.self.now.g.now c.args.self.now.tables.now.ranks c.args.non c.args.non c.at-rank.result.now c.requires.site.tables.ranks c.requires.there c.at-rank.ensures (here, here)) (element_is c.args.self.now.tables.now.weights c.args.non c.at.result.now 0 c.at.ensures) c.requires.room.1 in omega (arith, left.exit, left.within, c.requires.few)

pub overflow_mul-entry : goal.overflow_mul-entry
overflow_mul-entry c = let left = left_room c.args.self.now.g.now c.requires.site.built c.args.self.now.tables.now.weights c.requires.site.tables.weights (states c.args.into.now.net) c.args.non c.requires.room.0 c.at-rank.result.now c.at.result.now c.args.spot c.requires.few c.requires.there (rank_in c.args.self.now.g.now c.args.self.now.tables.now.ranks c.args.non c.args.non c.at-rank.result.now c.requires.site.tables.ranks c.requires.there c.at-rank.ensures (here, here)) (element_is c.args.self.now.tables.now.weights c.args.non c.at.result.now 0 c.at.ensures) c.requires.room.1 in omega (arith, left.exit, left.within, c.requires.few)

pub overflow_add-entry : goal.overflow_add-entry
overflow_add-entry c = let left = left_room c.args.self.now.g.now c.requires.site.built c.args.self.now.tables.now.weights c.requires.site.tables.weights (states c.args.into.now.net) c.args.non c.requires.room.0 c.at-rank.result.now c.at.result.now c.args.spot c.requires.few c.requires.there (rank_in c.args.self.now.g.now c.args.self.now.tables.now.ranks c.args.non c.args.non c.at-rank.result.now c.requires.site.tables.ranks c.requires.there c.at-rank.ensures (here, here)) (element_is c.args.self.now.tables.now.weights c.args.non c.at.result.now 0 c.at.ensures) c.requires.room.1 in omega (arith, left.exit, left.within, c.requires.few)

pub pass-requires-clause-to : goal.pass-requires-clause-to
pass-requires-clause-to c = let left = left_room c.args.self.now.g.now c.requires.site.built c.args.self.now.tables.now.weights c.requires.site.tables.weights (states c.args.into.now.net) c.args.non c.requires.room.0 c.at-rank.result.now c.at.result.now c.args.spot c.requires.few c.requires.there (rank_in c.args.self.now.g.now c.args.self.now.tables.now.ranks c.args.non c.args.non c.at-rank.result.now c.requires.site.tables.ranks c.requires.there c.at-rank.ensures (here, here)) (element_is c.args.self.now.tables.now.weights c.args.non c.at.result.now 0 c.at.ensures) c.requires.room.1 in omega (arith, left.exit, left.within, c.requires.few)

pub overflow_add-result : goal.overflow_add-result
overflow_add-result c = let left = left_room c.args.self.now.g.now c.requires.site.built c.args.self.now.tables.now.weights c.requires.site.tables.weights (states c.args.into.now.net) c.args.non c.requires.room.0 c.at-rank.result.now c.at.result.now c.args.spot c.requires.few c.requires.there (rank_in c.args.self.now.g.now c.args.self.now.tables.now.ranks c.args.non c.args.non c.at-rank.result.now c.requires.site.tables.ranks c.requires.there c.at-rank.ensures (here, here)) (element_is c.args.self.now.tables.now.weights c.args.non c.at.result.now 0 c.at.ensures) c.requires.room.1 in omega (arith, left.exit, left.within, c.requires.few)

pub overflow_add-result-2 : goal.overflow_add-result-2
overflow_add-result-2 c = let left = left_room c.args.self.now.g.now c.requires.site.built c.args.self.now.tables.now.weights c.requires.site.tables.weights (states c.args.into.now.net) c.args.non c.requires.room.0 c.at-rank.result.now c.at.result.now c.args.spot c.requires.few c.requires.there (rank_in c.args.self.now.g.now c.args.self.now.tables.now.ranks c.args.non c.args.non c.at-rank.result.now c.requires.site.tables.ranks c.requires.there c.at-rank.ensures (here, here)) (element_is c.args.self.now.tables.now.weights c.args.non c.at.result.now 0 c.at.ensures) c.requires.room.1 in omega (arith, left.exit, left.within, c.requires.few)

pub returns : goal.returns
returns c = λ slot.
    let left = left_room c.args.self.now.g.now c.requires.site.built c.args.self.now.tables.now.weights c.requires.site.tables.weights (states c.args.into.now.net) c.args.non slot c.at-rank.result.now c.at.result.now c.args.spot c.requires.few c.requires.there (rank_in c.args.self.now.g.now c.args.self.now.tables.now.ranks c.args.non c.args.non c.at-rank.result.now c.requires.site.tables.ranks c.requires.there c.at-rank.ensures (here, here)) (element_is c.args.self.now.tables.now.weights c.args.non c.at.result.now 0 c.at.ensures) (other_slot slot c.requires.room.1) in
    left_laid c.args.self.now.g.now c.requires.site.built c.args.self.now.tables.now.weights c.args.into.now.net c.pass.new.net c.args.into.now.tasks.items c.push.new.self.items c.args.non slot c.at-rank.result.now c.at.result.now c.args.spot _ c.requires.there (element_is c.args.self.now.tables.now.weights c.args.non c.at.result.now 0 c.at.ensures) left c.in_ok-pass.ensures c.in_ok-push.ensures.items (omega arith) refl
