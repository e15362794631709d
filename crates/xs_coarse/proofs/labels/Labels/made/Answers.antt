use Rattle.std.proofs.Common.{◌≡◌, ℕ, suc, ◌+◌, ◌<◌, List, length, subst, ap, arith, rules}
use Rattle.xs_coarse.specs.Labels.{AllUnfenced, AreNewLabels}
use Rattle.xs_coarse.proofs.Labelling.{AreCells, labels_of}
use Rattle.xs_coarse.proofs.labels.Labels.made.Goals as goal

pub returns : goal.returns
returns c =
    let classes = c.in_ok-known.known.classes.items in
    let all = c.in_ok-lefts.lefts.items in
    let bits = c.in_ok-bits.bits.items in
    let given = c.as_slice-classes.result.now in
    let width = 1 + length given + c.len-2.result in
    let same : given ≡ classes = c.as_slice-classes.ensures.value in
    let listed : c.deref.result.now ≡ all = c.deref.ensures.value in
    let checked : AllUnfenced c.fences.result.now given = search rules in
    let unfenced : AllUnfenced c.args.g.now.fences classes = subst (λ xs. AllUnfenced c.args.g.now.fences xs) same (subst (λ fs. AllUnfenced fs given) c.fences.ensures checked) in
    let cells : AreCells classes all width bits = subst (λ xs. AreCells xs all width bits) same (subst (λ ys. AreCells given ys width bits) listed c.in_ok-bits.ensures.each) in
    let count : c.len-2.result ≡ length all = omega (arith, c.len-2.ensures, c.in_ok-lefts.lefts.ok) in
    let groups : length all ≡ c.len-3.result = omega (arith, c.len-3.ensures, c.in_ok-lefts.lefts.ok) in
    let long : length given ≡ length classes = ap (λ (xs : List (List (ℕ × ℕ))). length xs) same in
    let wide : width ≡ suc (length classes + length all) = omega (arith, long, count) in
    let low : width < 65536 = search rules in
    subst (λ n. AreNewLabels c.args.g.now (record { classes = classes; groups = n; bits = bits })) groups
    (labels_of c.args.g.now classes width bits all c.in_ok-lefts.ensures wide unfenced cells low)
