use Rattle.std.proofs.Common.{arith}
use Rattle.xs_cert.proofs.Standing.{place_past}
use Rattle.xs_cert.proofs.SharesRead.{shares_start, pair_next, row_end}
use Rattle.xs_cert.proofs.sharing.read_row.Goals as goal

pub partners-init : goal.partners-init
partners-init c = shares_start c.args.place c.args.first c.args.first c.args.related.now c.requires.place.within

pub read_pair-at-requires-clause-place : goal.read_pair-at-requires-clause-place
read_pair-at-requires-clause-place c = place_past c.requires.place c.partners.invariant.past

pub partners-preserved : goal.partners-preserved
partners-preserved c = pair_next c.args.first c.partners.second (omega arith) c.partners.invariant c.read_pair-at.ensures

pub returns : goal.returns
returns c = row_end c.args.first c.partners.second c.requires.first (omega arith) c.partners.invariant.past.from.within c.partners.invariant
