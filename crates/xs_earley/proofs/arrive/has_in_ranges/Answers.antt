use Rattle.std.proofs.Common.{◌≡◌, ℕ, List, Some, sym, ◌∙◌, ap, subst}
use Rattle.std.specs.Prelude.{slice_get}
use Rattle.std.proofs.lemmas.Option.{slice_get-get_or}
use Rattle.xs_earley.proofs.Arrivals.{has_same}
use Rattle.xs_earley.proofs.arrive.has_in_ranges.Goals as goal

pub returns-in-Some : goal.returns-in-Some
returns-in-Some c =
    let e = c.in-Some.ensures.lookup in
    let row = c.as_slice.result.now in
    let class = c.in-Some.class.now in
    has_same c.args.automaton.now c.args.position c.args.symbol class c.has.result (subst (λ (l : List (List (ℕ × ℕ))). slice_get l c.args.position ≡ Some class) c.as_slice.ensures (slice_get-get_or row c.args.position class e.3.0 ∙ ap (λ (x : List (ℕ × ℕ)). Some x) (sym e.1))) c.has.ensures
