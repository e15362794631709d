use Rattle.std.proofs.Common.{◌≡◌, ℕ, List, take, arith, sym, subst}
use Rattle.std.specs.List.{Contains}
use Rattle.std.proofs.lemmas.List.{take_all}
use Rattle.std.proofs.lemmas.List.Elements.{Contains-get_or}
use Rattle.xs_regex.proofs.matching.some_marked.Goals as goal

pub bounds-flags-number : goal.bounds-flags-number
bounds-flags-number c = omega (arith, c.requires _ (Contains-get_or c.args.numbers.now c.numbers.number-index 0 (omega arith)))

pub returns : goal.returns
returns c =
    let whole : take c.numbers.number-index c.args.numbers.now ≡ c.args.numbers.now = take_all _ _ (omega arith) in
    (λ e. cc, λ h. absurd (c.numbers.invariant h.0 (subst (λ (t : List ℕ). Contains t h.0) (sym whole) h.1) h.2))
