use Rattle.std.proofs.Common.{◌≡◌, ◌∙◌, subst, ℕ, List}
use Rattle.xs_pair.specs.Rules.{SomeOf}
use Rattle.xs_pair.proofs.Places.{get_at, when_true, when_false}
use Rattle.xs_pair.proofs.Lines.{some_at, some_later}
use Rattle.xs_pair.proofs.Decided.{yes}
use Rattle.xs_wf.specs.Units.{IsStrange}
use Rattle.xs_wf.proofs.units.has_strange.Goals as goal

pub returns-then-is_strange : goal.returns-then-is_strange
returns-then-is_strange c =
    let list : List ℕ = c.deref-letter-items.result.now in
    let whole : list ≡ c.args.text.now = c.deref-letter-items.ensures.value ∙ c.in_ok-letters.ensures ∙ c.as_str.ensures.read in
    yes (subst (λ l. SomeOf IsStrange l) whole
    (some_at IsStrange list c.letters.letter-index c.letter-item.result (get_at list c.letters.letter-index c.letter-item.result c.letters-test.true c.letter-item.is)
    (when_true c.is_strange.result c.is_strange.ensures c.if-is_strange.true)))

pub letters-preserved : goal.letters-preserved
letters-preserved c = λ some.
    some_later IsStrange c.deref-letter-items.result.now c.letters.letter-index c.letter-item.result c.letters-test.true c.letter-item.is
    (when_false c.is_strange.result c.is_strange.ensures c.if-is_strange.false) (c.letters.invariant some)
