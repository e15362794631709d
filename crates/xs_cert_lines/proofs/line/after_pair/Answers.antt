use Rattle.std.proofs.Common.{[], ◌∷◌, ◌++◌, decimal}
use Rattle.xs_cert_lines.proofs.Pieces.{no_first, no_second, both, piece_after}
use Rattle.xs_cert_lines.proofs.line.after_pair.Goals as goal

pub returns-in_err-last : goal.returns-in_err-last
returns-in_err-last c =
    rw c.from_residual-in_err-last.ensures
    (no_first c.args.bytes.now ((c.args.text.now ++ 32 ∷ decimal c.args.first) ++ 32 ∷ decimal c.args.second) (10 ∷ [])
    (no_first c.args.bytes.now (c.args.text.now ++ 32 ∷ decimal c.args.first) (32 ∷ decimal c.args.second)
    (no_second c.args.bytes.now c.args.text.now (32 ∷ decimal c.args.first) c.in_ok-numbers.numbers.now c.in_ok-numbers.ensures c.in_err-last.ensures)))

pub returns-in_err-end : goal.returns-in_err-end
returns-in_err-end c =
    let first = both c.args.bytes.now c.args.text.now c.in_ok-numbers.numbers.now (32 ∷ decimal c.args.first) c.in_ok-last.last.now c.in_ok-numbers.ensures c.in_ok-last.ensures in
    rw c.from_residual-in_err-end.ensures
    (no_first c.args.bytes.now ((c.args.text.now ++ 32 ∷ decimal c.args.first) ++ 32 ∷ decimal c.args.second) (10 ∷ [])
    (no_second c.args.bytes.now (c.args.text.now ++ 32 ∷ decimal c.args.first) (32 ∷ decimal c.args.second) c.in_ok-last.last.now first c.in_err-end.ensures))

pub returns : goal.returns
returns c =
    let first = both c.args.bytes.now c.args.text.now c.in_ok-numbers.numbers.now (32 ∷ decimal c.args.first) c.in_ok-last.last.now c.in_ok-numbers.ensures c.in_ok-last.ensures in
    let second = both c.args.bytes.now (c.args.text.now ++ 32 ∷ decimal c.args.first) c.in_ok-last.last.now (32 ∷ decimal c.args.second) c.in_ok-end.end.now first c.in_ok-end.ensures in
    piece_after c.args.bytes.now ((c.args.text.now ++ 32 ∷ decimal c.args.first) ++ 32 ∷ decimal c.args.second) c.in_ok-end.end.now (10 ∷ []) c.after-2.result second c.after-2.ensures
