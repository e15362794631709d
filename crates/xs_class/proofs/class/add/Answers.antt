use Rattle.std.proofs.Common.{◌≡◌, ◌∙◌, ◌<◌, ◌^◌, [], List, ℕ, arith}
use Rattle.std.proofs.lemmas.List.{nil_from_length}
use Rattle.xs_class.proofs.Adding.{added_in_place, added_after, added_apart, EndBefore}
use Rattle.xs_class.proofs.class.add.Goals.{then-len-gt0+else-range-saturating_add, else-len-gt0}
use Rattle.xs_class.proofs.class.add.Goals as goal

pub returns-then-range-saturating_add : goal.returns-then-range-saturating_add
returns-then-range-saturating_add c =
    let old = c.args.ranges.now in
    added_in_place old.items c.len-len.result c.index-last.result.now c.args.range c.max.result (c.len-len.ensures ∙ old.ok.0) c.if-len-gt0.true c.index-last.ensures c.requires.sorted c.requires.begun c.if-range.false (omega arith) (omega arith) c.max.ensures

none_before : (xs : List (ℕ × ℕ)) (n : ℕ) → xs ≡ [] → EndBefore n xs
none_before xs n e = rw e tt

pub returns : goal.returns
returns c =
    let old = c.args.ranges.now in
    let bound : c.args.range.1 < 2 ^ 32 = omega arith in
    rw c.in_ok-push.ensures.items (elim c.if-len-gt0.branch [
      | then-len-gt0+else-range-saturating_add w ↦ added_after old.items c.len-len.result w.index-last.result.now c.args.range (c.len-len.ensures ∙ old.ok.0) w.if-len-gt0.true w.index-last.ensures c.requires.sorted c.requires.begun c.if-range.false bound (omega arith)
      | else-len-gt0 w ↦ added_apart old.items c.args.range c.requires.sorted (none_before old.items c.args.range.0 (nil_from_length old.items (omega arith))) c.requires.begun c.if-range.false bound
    ])
