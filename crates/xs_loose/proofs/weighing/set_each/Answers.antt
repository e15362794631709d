use Rattle.std.proofs.Common.{◌<◌, ◌∙◌, get_or, set, length, refl, arith, length-set}
use Rattle.std.proofs.lemmas.List.{take_all}
use Rattle.xs_loose.proofs.Summing.{set_more, kept_more}
use Rattle.xs_loose.proofs.weighing.set_each.Goals as goal

pub nons-preserved : goal.nons-preserved
nons-preserved c =
    let table = c.nons.weights in
    let nons = c.args.nons.now in
    let i = c.nons.non-index in
    let n = get_or nons i 0 in
    let low : n < length table = omega (arith, c.requires i 0 c.nons-test.true, c.nons.invariant.length) in
    record {
      length = length-set table n c.args.weight ∙ c.nons.invariant.length;
      set = set_more table nons (set table n c.args.weight) i n c.args.weight refl c.nons-test.true low refl c.nons.invariant.set;
      kept = kept_more c.args.weights.now table nons (set table n c.args.weight) i n c.args.weight refl c.nons-test.true refl c.nons.invariant.kept;
    }

pub returns-clause-set : goal.returns-clause-set
returns-clause-set c = rw (take_all c.nons.non-index c.args.nons.now c.nons-test.false) at c.nons.invariant.set
