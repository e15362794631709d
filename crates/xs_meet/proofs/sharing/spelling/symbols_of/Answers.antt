use Rattle.std.proofs.lemmas.List.{take_all}
use Rattle.xs_meet.specs.Pieces.{no_piece}
use Rattle.xs_meet.proofs.SpellingLemmas.{symbol_next, no_groups}
use Rattle.xs_meet.proofs.sharing.spelling.symbols_of.Goals as goal
use Rattle.xs_meet.proofs.sharing.spelling.symbols_of.Goals.{in-Symbol+in_ok-push, in_default}

pub pieces-init : goal.pieces-init
pieces-init c = record { spelt = λ nest. rw c.new-word.ensures no_piece }

pub pieces-preserved : goal.pieces-preserved
pieces-preserved c = record {
  spelt = λ nest. elim c.match-piece.branch [
    | in-Symbol+in_ok-push w ↦ rw w.word-is (symbol_next nest c.args.pieces.now c.pieces.piece-index c.piece-item.result w.in-Symbol.symbol c.pieces.word _ c.pieces-test.true c.piece-item.is w.in-Symbol.is w.in_ok-push.ensures.ok (c.pieces.invariant.spelt nest))
    | in_default w ↦ absurd (no_groups c.args.pieces.now c.pieces.piece-index c.piece-item.result c.requires c.pieces-test.true c.piece-item.is w.in_default.field-0 w.in_default.field-1 w.in_default.is)
  ];
}

pub returns : goal.returns
returns c = λ nest. rw (take_all c.pieces.piece-index c.args.pieces.now c.pieces-test.false) at (c.pieces.invariant.spelt nest)
