use Rattle.std.proofs.Common.{arith}
use Rattle.xs_text_out.proofs.Counting.{lengths_all}
use Rattle.xs_text_out.proofs.printing.Printer.print.Goals as goal

pub index-length-requires : goal.index-length-requires
index-length-requires c =
    let long = lengths_all c.args.g.now c.args.t.now.parts c.in_ok-lengths.lengths.items c.in_ok-lengths.ensures in
    omega (arith, long, c.root.ensures.root, c.root.ensures.flat.root, c.in_ok-lengths.lengths.ok.0)

pub walk-word-requires-clause-stack : goal.walk-word-requires-clause-stack
walk-word-requires-clause-stack c =
    let long = lengths_all c.args.g.now c.args.t.now.parts c.in_ok-lengths.lengths.items c.in_ok-lengths.ensures in
    omega (arith, long, c.len.ensures, c.in_ok-tasks.ensures.capacity, c.in_ok-lengths.lengths.ok.0)
