use Rattle.std.proofs.Common.{◌≡◌, ◌∙◌, ℕ, ◌+◌, [], ◌∷◌, ◌++◌, length, take, sym, ap, inl, inr, arith}
use Rattle.std.proofs.lemmas.List.{take_more}
use Rattle.xs_regex.specs.Automaton.{begins, goes}
use Rattle.xs_parse_table.proofs.Marks.{is_unmarked, filled, some_from_test}
use Rattle.xs_parse_table.proofs.runs.accepts.Goals as goal

pub symbols-init : goal.symbols-init
symbols-init c = λ k m. elim (c.enter.ensures.marked k m) [
  | inl a ↦ absurd (is_unmarked 512 k a)
  | inr b ↦ begins c.index-word-0.result (rw c.as_slice.ensures at b.0) b.1 (filled c.args.word.now c.index-word-0.result (some_from_test (length c.args.word.now) c.is_empty.result c.is_empty.ensures c.if-is_empty.false) c.index-word-0.is)
]

pub symbols-preserved : goal.symbols-preserved
symbols-preserved c = λ k m.
    let h = c.step.ensures.marked k m in
    let e : take (c.symbols.place + 1) c.args.word.now ≡ take c.symbols.place c.args.word.now ++ c.index-word-place.result ∷ [] =
    take_more c.args.word.now c.symbols.place c.index-word-place.result (omega arith) ∙ ap (λ (y : ℕ). take c.symbols.place c.args.word.now ++ y ∷ []) (sym c.index-word-place.is) in
    goes (take c.symbols.place c.args.word.now) h.0 c.index-word-place.result (c.symbols.invariant h.0 h.1) h.2 h.3 e
