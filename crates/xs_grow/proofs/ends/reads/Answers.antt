use Rattle.std.proofs.Common.{◌≡◌, ◌+◌, ℕ, suc, Some, Bool, refl, true, false, not, true≢false, ◌∙◌, sym, ap, arith}
use Rattle.std.proofs.lemmas.Bool.{eq-eqb, eqb-true}
use lib.Dec.{eqb}
use Rattle.xs_grow.proofs.Ending.{reads_more, not_read, too_long}
use Rattle.xs_grow.proofs.ends.reads.Goals as goal

equal : (b : Bool) → not b ≡ false → b ≡ true
equal true e = refl
equal false e = absurd (true≢false e)

pub returns-then-len-at : goal.returns-then-len-at
returns-then-len-at c = ((λ e. cc), (λ r. absurd (too_long c.args.doc.now c.args.word.now c.args.at _ (omega arith) (omega arith) r)))

pub returns-then-ne : goal.returns-then-ne
returns-then-ne c =
    let differ : c.at.result ≡ c.at-in-symbols.result → ⊥ = λ e. true≢false (sym c.if-ne.true ∙ (c.ne.ensures ∙ ap not (eq-eqb c.at.result c.at-in-symbols.result e))) in
    ((λ e. cc), (λ r. absurd (not_read c.args.doc.now c.args.word.now c.args.at c.symbols.k c.at.result c.at-in-symbols.result _ c.at.ensures c.at-in-symbols.ensures differ r)))

pub symbols-preserved : goal.symbols-preserved
symbols-preserved c =
    let k = c.symbols.k in
    let one : k + 1 ≡ suc k = omega arith in
    let same = eqb-true c.at.result c.at-in-symbols.result (equal (eqb c.at.result c.at-in-symbols.result) (sym c.ne.ensures ∙ c.if-ne.false)) in
    reads_more c.args.doc.now c.args.word.now c.args.at k c.at.result (k + 1) c.symbols.invariant (c.at-in-symbols.ensures ∙ ap (λ (z : ℕ). Some z) (sym same)) c.at.ensures one
