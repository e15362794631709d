use Rattle.xs_top.specs.Devices.{output_of}
use Rattle.xs_top.proofs.Going.{told_all, told_part}
use Rattle.xs_top.proofs.notes.told.Goals as goal

pub returns-in-Ok : goal.returns-in-Ok
returns-in-Ok g c = told_all (output_of g.N.Sink.taken g.N.Sink.faults c.args.notes.now c.put_all.new.sink) c.args.names.now c.args.outcome c.args.line.now c.requires c.in-Ok.ensures.all

pub returns-in-Err : goal.returns-in-Err
returns-in-Err g c =
    told_part (output_of g.N.Sink.taken g.N.Sink.faults c.args.notes.now c.put_all.new.sink) c.args.names.now c.args.outcome c.status.result c.in-Err.field-0.written c.args.line.now c.requires c.status.ensures
    c.in-Err.ensures.part c.in-Err.ensures.shorter c.in-Err.ensures.fault
