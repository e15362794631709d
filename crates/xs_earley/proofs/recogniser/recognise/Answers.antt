use Rattle.std.proofs.Common.{◌≡◌, ◌<◌, ◌++◌, ◌+◌, ◌∷◌, [], List, ℕ, Some, true, false, length, take, sym, ◌∙◌, ap, subst, arith, rules}
use Rattle.std.specs.Prelude.{slice_get}
use Rattle.std.proofs.lemmas.Bool.{false≢true, not-true}
use Rattle.std.proofs.lemmas.List.{take_all}
use Rattle.std.proofs.lemmas.Option.{slice_get-get_or}
use Rattle.std.proofs.lemmas.Result.{err_from_is_err_and}
use Rattle.xs_class.proofs.Lists.{take_next}
use Rattle.xs_gram.specs.Languages.{InLang}
use Rattle.xs_earley.proofs.Steppings.{fault_stop, fault_whole}
use Rattle.xs_earley.proofs.recogniser.recognise.Goals as goal

pub symbols-preserved : goal.symbols-preserved
symbols-preserved c =
    let i = c.symbols.symbol-index in
    let items = c.as_slice-symbol-items.result.now in
    let goes : c.in_ok-step.field-0 ≡ true = search (rules) in
    let next = take_next items i c.symbol-item.result c.symbols-test.true c.symbol-item.is in
    record {
      run = c.in_ok-step.ensures.run;
      word = c.in_ok-step.ensures.word goes ∙ ap (λ (w : List ℕ). w ++ c.symbol-item.result ∷ []) (c.symbols.invariant.word ∙ ap (λ (l : List ℕ). take i l) (sym c.as_slice-symbol-items.ensures)) ∙ sym next ∙ ap (λ (l : List ℕ). take (i + 1) l) c.as_slice-symbol-items.ensures;
    }

pub returns-in_err-step-clause-fault : goal.returns-in_err-step-clause-fault
returns-in_err-step-clause-fault c =
    let fault = err_from_is_err_and c.from_residual-in_err-step.result c.from_residual-in_err-step.ensures.1 in
    rw (fault.1, fault.2) (record {})

pub returns-then-not-branch-clause-fault : goal.returns-then-not-branch-clause-fault
returns-then-not-branch-clause-fault c =
    let g = c.args.g.now in
    let doc = c.args.doc.now in
    let items = c.as_slice-symbol-items.result.now in
    let n = c.symbols.symbol-index in
    let symbol = c.symbol-item.result in
    let lt : n < length items = omega arith in
    let at : slice_get doc n ≡ Some symbol = subst (λ (l : List ℕ). slice_get l n ≡ Some symbol) c.as_slice-symbol-items.ensures (slice_get-get_or items n symbol lt ∙ ap (λ (x : ℕ). Some x) (sym c.symbol-item.is)) in
    let stopped : c.in_ok-step.field-0 ≡ false = search (rules, not-true, c.if-not-branch.true) in
    fault_stop g doc c.len-viable.result n symbol c.symbols.run c.step.new.self c.symbols.invariant.word c.symbols.invariant.run (c.in_ok-step.ensures.unchanged stopped) c.len-viable.ensures at (λ h. false≢true (sym stopped ∙ c.in_ok-step.ensures.next.1 h))

pub returns-clause-fault : goal.returns-clause-fault
returns-clause-fault c =
    let g = c.args.g.now in
    let doc = c.args.doc.now in
    let same = ap (λ (l : List ℕ). length l) c.as_slice-symbol-items.ensures in
    let all : c.symbols.run.word ≡ doc = c.symbols.invariant.word ∙ take_all c.symbols.symbol-index doc (omega (arith, same)) in
    fault_whole g doc c.len-viable-2.result c.symbols.run all c.symbols.invariant.run c.len-viable-2.ensures (λ h. false≢true (sym c.if-whole.false ∙ (c.whole.ensures g c.symbols.invariant.run).1 h))

pub returns-then-whole-clause-language : goal.returns-then-whole-clause-language
returns-then-whole-clause-language c =
    let g = c.args.g.now in
    let doc = c.args.doc.now in
    let same = ap (λ (l : List ℕ). length l) c.as_slice-symbol-items.ensures in
    let all : c.symbols.run.word ≡ doc = c.symbols.invariant.word ∙ take_all c.symbols.symbol-index doc (omega (arith, same)) in
    subst (λ (w : List ℕ). InLang g w) all ((c.whole.ensures g c.symbols.invariant.run).0 c.if-whole.true)
