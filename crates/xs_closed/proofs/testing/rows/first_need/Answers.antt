use Rattle.std.proofs.Common.{refl, sym, arith}
use Rattle.std.proofs.lemmas.Bool.{true≢false}
use Rattle.xs_closed.specs.Search.{IsPair}
use Rattle.xs_closed.proofs.PartnerLemmas.{first_has, first_lacks, no_partners}
use Rattle.xs_closed.proofs.testing.rows.first_need.Goals as goal

pub returns-then-has_row : goal.returns-then-has_row
returns-then-has_row c = rw c.max.ensures (first_has c.args.set.now c.args.into.now c.args.a c.args.c c.in-Some.field-0 c.args.need c.in-Some.ensures.some.there (c.if-has_row.ensures.0 refl))

pub returns-else-has_row : goal.returns-else-has_row
returns-else-has_row c = first_lacks c.args.set.now c.args.into.now c.args.a c.args.c (λ h. true≢false (sym (c.if-has_row.ensures.1 h)))

pub returns-in-None : goal.returns-in-None
returns-in-None c = no_partners c.args.set.now c.args.into.now c.args.a (IsPair c.args.c) c.args.need (λ b. c.in-None.ensures.none b (omega arith))
