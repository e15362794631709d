use Rattle.std.proofs.Common.{◌≡◌, ap, drop, [], arith}
use Rattle.std.proofs.lemmas.List.{drop_all}
use Rattle.xs_forest_laws.specs.Number.{alts_sum}
use Rattle.xs_forest_laws.proofs.Counts.{alts_count-is}
use Rattle.xs_listing.proofs.count.all_count.Goals as goal

pub returns : goal.returns
returns c =
    let cap = c.args.cap in
    let counts = c.args.counts.now in
    let alts = c.args.alts.now in
    let none : drop c.alts.alt-index alts ≡ [] = drop_all c.alts.alt-index alts (omega arith) in
    let zero : alts_sum cap counts (drop c.alts.alt-index alts) ≡ 0 = ap (alts_sum cap counts) none in
    let is = alts_count-is cap counts alts in
    let sum = c.alts.invariant.sum in
    let within = c.alts.invariant.within in
    omega arith
