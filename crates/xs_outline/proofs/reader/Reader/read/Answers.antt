use Rattle.xs_outline.specs.Lines.{line}
use Rattle.xs_outline.specs.Parsed.{entry_meant}
use Rattle.xs_outline.proofs.ReadLines.{first_stuck, stuck_unread}
use Rattle.xs_outline.proofs.reader.Reader.read.Goals as goal

pub returns-in_default : goal.returns-in_default
returns-in_default c = stuck_unread c.args.two.now c.args.self.now c.args.text.now c.args.number c.requires.built c.requires.kept c.ranges.number.fits (rw c.in_default.is at c.in_ok-parsed.ensures)

pub returns-else-branch : goal.returns-else-branch
returns-else-branch c =
    first_stuck c.args.two.now c.args.self.now c.args.text.now c.in-Some.more.now (line c.in-Some.parsed.depth c.in-Some.parsed.name.now (entry_meant c.in-Some.parsed.entry))
    (rw c.in-Some.is at c.in_ok-parsed.ensures) (rw c.if-branch.false at c.in_ok-take.ensures)
