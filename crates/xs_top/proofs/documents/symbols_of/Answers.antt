use Rattle.std.proofs.lemmas.Result.{err_from_is_err_and}
use Rattle.xs_top.proofs.Reading.{xml_stops}
use Rattle.xs_top.proofs.documents.symbols_of.Goals as goal

pub returns-in_err-word-clause-stop : goal.returns-in_err-word-clause-stop
returns-in_err-word-clause-stop c =
    let fault = err_from_is_err_and c.from_residual-in_err-word.result c.from_residual-in_err-word.ensures.1 in
    rw (fault.1, fault.2) (xml_stops c.args.names.now c.args.bytes.now c.in_ok-characters.characters _ c.in_ok-characters.ensures.text c.in_err-word.ensures.fault)
