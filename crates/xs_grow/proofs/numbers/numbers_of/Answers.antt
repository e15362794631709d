use Rattle.std.proofs.Common.{List, ℕ, subst}
use Rattle.std.specs.Prelude.{Contains}
use Rattle.xs_grow.specs.Lists.{Appends}
use Rattle.xs_grow.proofs.Numbering.{whole_of}
use Rattle.xs_grow.proofs.numbers.numbers_of.Goals as goal

pub returns-in_ok-numbers-in-Whole : goal.returns-in_ok-numbers-in-Whole
returns-in_ok-numbers-in-Whole c =
    let s = c.args.source.now in
    let appended = subst (λ (z : List ℕ). Appends (λ q. Contains s.wholes.now (c.args.key, q)) z c.numbers.new.out.items) c.clear.ensures.items c.in_ok-numbers-in-Whole.ensures in
    whole_of s.g.now s.doc.now c.args.key c.numbers.new.out.items c.in-Whole.field-0 s.wholes.now c.in-Whole.is c.requires.source.wholes appended
