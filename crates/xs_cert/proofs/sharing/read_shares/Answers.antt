use Rattle.xs_cert.proofs.Standing.{place_past}
use Rattle.xs_cert.proofs.SharesRead.{shares_start, row_next}
use Rattle.xs_cert.proofs.sharing.read_shares.Goals as goal

pub groups-init : goal.groups-init
groups-init c = shares_start c.args.place 0 0 c.args.related.now c.requires.place.within

pub read_row-at-requires-clause-place : goal.read_row-at-requires-clause-place
read_row-at-requires-clause-place c = place_past c.requires.place c.groups.invariant.past

pub groups-preserved : goal.groups-preserved
groups-preserved c = row_next c.groups.first c.groups.invariant c.read_row-at.ensures
