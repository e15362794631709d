use Rattle.std.proofs.Common.{◌≡◌, ◌∙◌, sym, ap, arith}
use Rattle.xs_gram.specs.Grammar.{Grammar}
use Rattle.xs_wf.proofs.Wordless.{set_more, unset_first, all_set, none_wordless}
use Rattle.xs_wf.proofs.nonterminals.first_unset.Goals as goal

pub returns-then-not-is_set-clause-first : goal.returns-then-not-is_set-clause-first
returns-then-not-is_set-clause-first c =
    let count : c.nons-nons.result ≡ c.args.two.now.text.nons = c.nons-nons.ensures ∙ ap (λ (g : Grammar). g.nons) c.gram.ensures in
    let within = c.nons-test.true in
    unset_first c.args.two.now c.args.text.now c.args.xml.now c.nons.non c.requires.same c.requires.text c.requires.xml (omega arith) (sym c.is_set.ensures ∙ c.if-not-is_set.true) c.nons.invariant

pub nons-preserved : goal.nons-preserved
nons-preserved c =
    let count : c.nons-nons.result ≡ c.args.two.now.text.nons = c.nons-nons.ensures ∙ ap (λ (g : Grammar). g.nons) c.gram.ensures in
    let within = c.nons-test.true in
    set_more c.args.two.now c.args.text.now c.args.xml.now c.nons.non c.requires.same c.requires.text c.requires.xml (omega arith) (sym c.is_set.ensures ∙ c.if-not-is_set.false) c.nons.invariant

pub returns-clause-first : goal.returns-clause-first
returns-clause-first c =
    let count : c.nons-nons.result ≡ c.args.two.now.text.nons = c.nons-nons.ensures ∙ ap (λ (g : Grammar). g.nons) c.gram.ensures in
    let past = c.nons-test.false in
    none_wordless c.args.two.now (all_set c.args.two.now c.nons.non (omega arith) c.nons.invariant)

pub returns-clause-fine : goal.returns-clause-fine
returns-clause-fine c =
    let count : c.nons-nons.result ≡ c.args.two.now.text.nons = c.nons-nons.ensures ∙ ap (λ (g : Grammar). g.nons) c.gram.ensures in
    let past = c.nons-test.false in
    λ none. all_set c.args.two.now c.nons.non (omega arith) c.nons.invariant
