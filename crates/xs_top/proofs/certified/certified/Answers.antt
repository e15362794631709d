use Rattle.std.proofs.lemmas.Result.{err_from_is_err_and}
use Rattle.xs_words.specs.Meaning.{sheet_meant}
use Rattle.xs_top.specs.Devices.{shelves_of}
use Rattle.xs_top.proofs.Going.{stops_as}
use Rattle.xs_top.proofs.Certifying.{uncertain_since, uncertain_stops}
use Rattle.xs_top.proofs.certified.certified.Goals as goal

pub returns-in_err-tested-clause-stop : goal.returns-in_err-tested-clause-stop
returns-in_err-tested-clause-stop g c =
    let fault = err_from_is_err_and c.from_residual-in_err-tested.result c.from_residual-in_err-tested.ensures.1 in
    let shelf = shelves_of g.H.Shelf.files g.H.Shelf.faults g.H.Shelf.name_faults c.args.shelf.now c.tested.new.shelf in
    let since = uncertain_since g.H.Shelf.files g.H.Shelf.faults g.H.Shelf.name_faults c.args.shelf.now c.pair_for.new.shelf c.tested.new.shelf c.args.cert.now c.in_ok-two.ensures.files c.in_ok-two.ensures.later (c.in_ok-two.ensures.name_later c.args.cert.now) c.in_ok-two.two in
    rw (fault.1, fault.2) (uncertain_stops shelf (sheet_meant c.args.sheet) c.args.cert.now c.in_ok-two.two c.in_ok-two.ensures.pair _ (stops_as since _ c.in_err-tested.ensures.stop))
