use Rattle.std.proofs.Common.{length}
use Rattle.xs_cert.proofs.Standing.{place_past}
use Rattle.xs_cert.proofs.HalvesRead.{half_result, shares_of_blank}
use Rattle.xs_cert.proofs.half.read_half.Goals as goal

pub blocks-requires-clause-place : goal.blocks-requires-clause-place
blocks-requires-clause-place c = place_past c.requires.place c.read_shares-start.ensures.past

pub returns : goal.returns
returns c =
    half_result c.laid_in_one_way.ensures.once c.requires.site.built c.in_ok-nest.ensures c.args.place c.read_shares-start.result (length c.in_ok-nest.nest) c.read_shares-start.new.related
    (shares_of_blank c.in_ok-reset.ensures.ok c.len.ensures c.len-2.ensures c.read_shares-start.ensures) c.blocks-2.result c.blocks-2.ensures
