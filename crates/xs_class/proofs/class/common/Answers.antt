use Rattle.std.proofs.Common.{◌≡◌, List, ℕ, arith, max, min, get_or}
use Rattle.xs_class.specs.Classes.{IsAdded}
use Rattle.xs_class.proofs.Merging.{met_left, met_right, overlap}
use Rattle.xs_class.proofs.class.common.Goals as goal

as_overlap : (out new : List (ℕ × ℕ)) (x y : ℕ × ℕ) (low high : ℕ) → low ≡ max x.0 y.0 → high ≡ min x.1 y.1 → IsAdded out (low, high) new → IsAdded out (overlap x y) new
as_overlap out new x y low high e f h = rw (← e, ← f) h

pub pairs-preserved-then-one-two : goal.pairs-preserved-then-one-two
pairs-preserved-then-one-two c =
    let a : List (ℕ × ℕ) = c.args.a.now in
    let b : List (ℕ × ℕ) = c.args.b.now in
    met_left a b c.pairs.i c.pairs.j c.pairs.ranges.items c.add.new.ranges.items c.requires.one c.requires.two c.pairs-test.true c.if-j-b.true c.pairs.invariant (as_overlap _ _ (get_or a c.pairs.i (0, 0)) (get_or b c.pairs.j (0, 0)) _ _ c.max.ensures c.min.ensures c.in_ok-add.ensures) (omega (arith, c.if-one-two.true))

pub pairs-preserved : goal.pairs-preserved
pairs-preserved c =
    let a : List (ℕ × ℕ) = c.args.a.now in
    let b : List (ℕ × ℕ) = c.args.b.now in
    met_right a b c.pairs.i c.pairs.j c.pairs.ranges.items c.add.new.ranges.items c.requires.one c.requires.two c.pairs-test.true c.if-j-b.true c.pairs.invariant (as_overlap _ _ (get_or a c.pairs.i (0, 0)) (get_or b c.pairs.j (0, 0)) _ _ c.max.ensures c.min.ensures c.in_ok-add.ensures) c.if-one-two.false
