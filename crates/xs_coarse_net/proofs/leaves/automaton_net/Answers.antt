use Rattle.std.proofs.Common.{ℕ, ◌-◌, refl, sym, ap, ◌∙◌}
use Rattle.xs_coarse_net.proofs.Going.{goes_as, goes_grown, automaton_goes}
use Rattle.xs_coarse_net.proofs.leaves.automaton_net.Goals as goal

pub returns : goal.returns
returns c =
    let laid = rw c.deref.ensures.value at c.in_ok-lay_automaton.ensures.laid in
    let last = ap (λ (s : ℕ). s - 1) (sym (c.in_ok-net.ensures.states ∙ c.in_ok-lay_automaton.ensures.grows.states ∙ c.new-draft.ensures.states)) in
    λ w word. goes_as refl refl last (goes_grown c.in_ok-net.ensures (automaton_goes c.in_ok-names.ensures.labels laid.1 w word))
