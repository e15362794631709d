use Rattle.std.proofs.Common.{◌+◌, ◌∷◌, ◌++◌, [], length, refl, ap, ◌∙◌, inl, inr, arith}
use Rattle.xs_chart_laws.proofs.Words.{Reads-within}
use Rattle.xs_grow.proofs.Ending.{fixed_ends}
use Rattle.xs_grow.proofs.ends.fixed_end.Goals as goal
use Rattle.xs_grow.proofs.ends.fixed_end.Goals.{then-reads+in_ok-push, else-reads}

pub overflow_add-at : goal.overflow_add-at
overflow_add-at c =
    let within = Reads-within c.args.doc.now c.args.at c.args.word.now _ c.requires.within (c.reads.ensures.0 c.if-reads.true) in
    omega (arith, within)

pub overflow_cast-at-then-reads-2 : goal.overflow_cast-at-then-reads-2
overflow_cast-at-then-reads-2 c =
    let within = Reads-within c.args.doc.now c.args.at c.args.word.now _ c.requires.within (c.reads.ensures.0 c.if-reads.true) in
    omega (arith, within)

pub returns : goal.returns
returns c = fixed_ends c.args.doc.now c.args.word.now c.args.at (c.args.at + length c.args.word.now) c.if-reads.ends.items c.reads.result c.reads.ensures (elim c.if-reads.branch [
  | then-reads+in_ok-push w ↦ inl (w.if-reads.true, refl, ap (λ v. v.items) w.ends-is ∙ (w.in_ok-push.ensures.items ∙ (ap (λ z. z ++ (c.args.at + w.len.result) ∷ []) c.new-ends.ensures.items ∙ ap (λ z. (c.args.at + z) ∷ []) w.len.ensures)))
  | else-reads w ↦ inr (w.if-reads.false, ap (λ v. v.items) w.ends-is ∙ c.new-ends.ensures.items)
])
