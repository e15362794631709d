use Rattle.std.proofs.Common.{◌∙◌, ◌<◌, ap, length, subst, take}
use Rattle.xs_tree.specs.Flat.{trees_of}
use Rattle.xs_text_out.proofs.Counting.{lengths_long, lengths_step}
use Rattle.xs_text_out.proofs.lengths.lengths_of.Goals as goal

pub part_length-length-requires-clause-before : goal.part_length-length-requires-clause-before
part_length-length-requires-clause-before c =
    let within = subst (λ n. c.parts.part < n) c.len-count.ensures c.parts-test.true in
    ap length c.deref.ensures.value ∙ lengths_long c.args.g.now c.parts.lengths.items c.args.t.now.parts c.parts.part within c.parts.invariant

pub parts-preserved : goal.parts-preserved
parts-preserved c =
    let within = subst (λ n. c.parts.part < n) c.len-count.ensures c.parts-test.true in
    lengths_step c.args.g.now c.parts.lengths.items c.push.new.self.items c.args.t.now.parts c.parts.part c.part_length-length.result within c.parts.invariant
    (λ found there. c.part_length-length.ensures (trees_of (take c.parts.part c.args.t.now.parts)) found there (c.deref.ensures.value ∙ c.parts.invariant)) c.in_ok-push.ensures.items
