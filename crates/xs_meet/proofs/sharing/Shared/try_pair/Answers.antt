use Rattle.std.proofs.Common.{◌≡◌, refl, sym, false}
use Rattle.xs_auto.specs.Nests.{group_at, HaveOneFence}
use Rattle.xs_meet.specs.Rounds.{AreThese}
use Rattle.xs_meet.specs.Sharing.{has_at, AreKnown}
use Rattle.xs_meet.specs.Traces.{ArePieces}
use Rattle.xs_meet.proofs.SharingLemmas.{tries_added, pieces_share, shared_add, shared_less}
use Rattle.xs_meet.proofs.sharing.Shared.try_pair.Goals as goal

pub returns-in_ok-add-in-Some-clause-ok : goal.returns-in_ok-add-in-Some-clause-ok
returns-in_ok-add-in-Some-clause-ok c =
    let nest = c.args.nest.now in
    let s = c.args.self.now in
    let g = c.args.first in
    let h = c.args.second in
    let found : ArePieces (AreKnown s) c.content.result.now c.content-2.result.now c.in-Some.pieces.items = rw c.in-Some.is at c.in_ok-found.ensures.some in
    let pieces : ArePieces (AreKnown s) (group_at nest g).content (group_at nest h).content c.deref.result.now = rw (c.deref.ensures.value, ← c.content.ensures, ← c.content-2.ensures) found in
    let fence : HaveOneFence (group_at nest g) (group_at nest h) = c.if-not-have_one_fence.ensures.0 refl in
    let unknown : has_at s g h ≡ false = sym c.if-has.ensures in
    tries_added nest (AreThese g h) s c.add.new.self
    (shared_add nest s c.add.new.self g h c.deref.result.now c.requires.ready.sharing c.in_ok-add-in-Some.ensures.ok c.requires.first c.requires.second pieces.related (pieces_share nest (AreKnown s) g h c.deref.result.now c.requires.first c.requires.second fence pieces))
    (shared_less s c.add.new.self g h c.deref.result.now c.requires.ready.sharing.cells c.in_ok-add-in-Some.ensures.ok (rw c.requires.ready.sharing.groups c.requires.first) (rw c.requires.ready.sharing.groups c.requires.second) unknown)
