use Rattle.std.proofs.Common.{◌<◌, length, sym, subst, ap, arith, Contains, ◌∙◌}
use Rattle.xs_cover.specs.Tables.{at}
use Rattle.xs_cover.specs.Shortest.{IsLowest}
use Rattle.xs_cover.proofs.Ways.{accepted_long, some_first}
use Rattle.xs_cover.proofs.words.least_word.Goals as goal

pub lowest-requires : goal.lowest-requires
lowest-requires c = λ k has.
    let low : k < length c.args.automaton.now.classes = c.requires.formed.first_in k (subst (λ xs. Contains xs k) c.as_slice.ensures has) in
    omega (arith, low, c.in_ok-rests.ensures.rests.counted)

pub unreachable-requires : goal.unreachable-requires
unreachable-requires c = some_first c.args.automaton.now c.requires.some.0 c.if-automaton.false (sym c.as_slice.ensures ∙ c.in_default.ensures) c.requires.some.1

pub word_from-requires-clause-near : goal.word_from-requires-clause-near
word_from-requires-clause-near c =
    let p = c.args.automaton.now in
    let rests = c.in_ok-rests.rests.items in
    let first = c.in-Some.first in
    let low : IsLowest p.first rests first = subst (λ r. IsLowest p.first r first) c.as_slice-known.ensures.value (subst (λ l. IsLowest l c.as_slice-known.result.now first) c.as_slice.ensures c.in-Some.ensures) in
    omega (arith, ap (λ r. at r first) c.as_slice-known.ensures.value, c.requires.some.2, accepted_long p rests c.requires.some.0 first c.requires.formed c.in_ok-rests.ensures.rests c.if-automaton.false c.in_ok-rests.ensures.settled low c.requires.some.1)

pub returns : goal.returns
returns c =
    let p = c.args.automaton.now in
    let rests = c.in_ok-rests.rests.items in
    let first = c.in-Some.first in
    let low : IsLowest p.first rests first = subst (λ r. IsLowest p.first r first) c.as_slice-known.ensures.value (subst (λ l. IsLowest l c.as_slice-known.result.now first) c.as_slice.ensures c.in-Some.ensures) in
    record {
      accepted = c.in_ok-word.ensures.accepted;
      shortest = λ v accepted. omega (arith, ap (λ r. at r first) c.as_slice-known.ensures.value, c.in_ok-word.ensures.short, accepted_long p rests v first c.requires.formed c.in_ok-rests.ensures.rests c.if-automaton.false c.in_ok-rests.ensures.settled low accepted);
    }
