use Rattle.std.proofs.Common.{◌≡◌, ◌∙◌, ◌-◌, suc, sym, ap, arith}
use Rattle.xs_regex.specs.Pattern.{both, either}
use Rattle.xs_regex.specs.Scan.{regex_at, pieces_at}
use Rattle.xs_regex.proofs.Chains.{flat_reported, class_reported, group_reported}
use Rattle.xs_regex.proofs.Fronts.{begun, after_more, after_last, after_none, piece_none, piece_followed, piece_last, sequence_none, sequence_followed, sequence_last}
use Rattle.xs_regex.proofs.reader.+reader.Goals as goal

pub atom-returns-then-depth-eq0 : goal.atom-returns-then-depth-eq0
atom-returns-then-depth-eq0 t c =
    let step : c.args.steps ≡ suc (c.args.steps - 1) = omega arith in
    flat_reported c.args.steps (c.args.steps - 1) c.args.depth c.args.cs.now c.in-Some.rest.now c.in-Some.c c.class.result step c.if-depth-eq0.true c.in-Some.ensures c.class.ensures

pub atom-returns-then-c-eq40 : goal.atom-returns-then-c-eq40
atom-returns-then-c-eq40 t c =
    let step : c.args.steps ≡ suc (c.args.steps - 1) = omega arith in
    let level : c.args.depth ≡ suc (c.args.depth - 1) = omega arith in
    group_reported c.args.steps (c.args.steps - 1) c.args.depth (c.args.depth - 1) c.args.cs.now c.in-Some.rest.now c.in-Some.c c.group.result step level c.in-Some.ensures c.if-c-eq40.true c.group.ensures

pub atom-returns : goal.atom-returns
atom-returns t c =
    let step : c.args.steps ≡ suc (c.args.steps - 1) = omega arith in
    let level : c.args.depth ≡ suc (c.args.depth - 1) = omega arith in
    class_reported c.args.steps (c.args.steps - 1) c.args.depth (c.args.depth - 1) c.args.cs.now c.in-Some.rest.now c.in-Some.c c.class-2.result step level c.in-Some.ensures c.if-c-eq40.false c.class-2.ensures

pub pieces-pieces-init : goal.pieces-pieces-init
pieces-pieces-init t c = (omega arith, rw c.new-front.ensures.items (begun both (pieces_at c.args.steps c.args.depth c.args.cs.now)))

pub pieces-pieces-preserved : goal.pieces-pieces-preserved
pieces-pieces-preserved t c =
    let step : c.pieces.bound ≡ suc (c.pieces.bound - 1) = omega arith in
    let followed = piece_followed c.pieces.bound (c.pieces.bound - 1) c.args.depth c.pieces.here.now step c.in-Ok.part c.in-Ok.left.now c.in-Ok.ensures (sym c.ends.ensures ∙ c.if-ends.false) in
    (omega arith, rw c.in_ok-push-in-Ok.ensures.items (after_more both c.pieces.front.items c.in-Ok.part _ _ _ followed c.pieces.invariant.1))

pub pieces-returns-then-ends : goal.pieces-returns-then-ends
pieces-returns-then-ends t c =
    let step : c.pieces.bound ≡ suc (c.pieces.bound - 1) = omega arith in
    let last = piece_last c.pieces.bound (c.pieces.bound - 1) c.args.depth c.pieces.here.now step c.in-Ok.part c.in-Ok.left.now c.in-Ok.ensures (sym c.ends.ensures ∙ c.if-ends.true) in
    after_last both c.pieces.front.items c.in-Ok.part c.in_ok-whole-in-Ok.whole c.in-Ok.left.now _ _ last c.in_ok-whole-in-Ok.ensures c.pieces.invariant.1

pub pieces-returns-in-Err : goal.pieces-returns-in-Err
pieces-returns-in-Err t c = λ k.
    let step : c.pieces.bound ≡ suc (c.pieces.bound - 1) = omega arith in
    after_none both c.pieces.front.items _ _ (piece_none c.pieces.bound (c.pieces.bound - 1) c.args.depth c.pieces.here.now step (c.in-Err.ensures k)) c.pieces.invariant.1

pub pieces-returns : goal.pieces-returns
pieces-returns t c = λ k.
    let zero : c.pieces.bound ≡ 0 = omega arith in
    after_none both c.pieces.front.items _ _ (ap (λ n. pieces_at n c.args.depth c.pieces.here.now) zero) c.pieces.invariant.1

pub regex-sequences-init : goal.regex-sequences-init
regex-sequences-init t c = (omega arith, rw c.new-front.ensures.items (begun either (regex_at c.args.steps c.args.depth c.args.cs.now)))

pub regex-sequences-preserved : goal.regex-sequences-preserved
regex-sequences-preserved t c =
    let step : c.sequences.bound ≡ suc (c.sequences.bound - 1) = omega arith in
    let followed = sequence_followed c.sequences.bound (c.sequences.bound - 1) c.args.depth c.sequences.here.now step c.in-Ok.part c.in-Ok.left.now c.in-Some.rest.now c.in-Ok.ensures (sym c.in-Some.ensures) in
    (omega arith, rw c.in_ok-push-in-Ok.ensures.items (after_more either c.sequences.front.items c.in-Ok.part _ _ _ followed c.sequences.invariant.1))

pub regex-returns-in_default : goal.regex-returns-in_default
regex-returns-in_default t c =
    let step : c.sequences.bound ≡ suc (c.sequences.bound - 1) = omega arith in
    let last = sequence_last c.sequences.bound (c.sequences.bound - 1) c.args.depth c.sequences.here.now step c.in-Ok.part c.in-Ok.left.now c.in-Ok.ensures (sym c.in_default.ensures) in
    after_last either c.sequences.front.items c.in-Ok.part c.in_ok-whole-in-Ok.whole c.in-Ok.left.now _ _ last c.in_ok-whole-in-Ok.ensures c.sequences.invariant.1

pub regex-returns-in-Err : goal.regex-returns-in-Err
regex-returns-in-Err t c = λ k.
    let step : c.sequences.bound ≡ suc (c.sequences.bound - 1) = omega arith in
    after_none either c.sequences.front.items _ _ (sequence_none c.sequences.bound (c.sequences.bound - 1) c.args.depth c.sequences.here.now step (c.in-Err.ensures k)) c.sequences.invariant.1

pub regex-returns : goal.regex-returns
regex-returns t c = λ k.
    let zero : c.sequences.bound ≡ 0 = omega arith in
    after_none either c.sequences.front.items _ _ (ap (λ n. regex_at n c.args.depth c.sequences.here.now) zero) c.sequences.invariant.1
