use Rattle.std.proofs.Common.{rules, ◌∙◌, ◌++◌, List, None, ap}
use Rattle.std.proofs.lemmas.List.Sorted.{IsNonDecreasingBy-from_sort_by_key}
use Rattle.xs_atoms.specs.declared.turns.Turn.{Turn}
use Rattle.xs_atoms.specs.Turns.{range_turns, class_turns}
use Rattle.xs_atoms.proofs.Turning.{turns_are}
use Rattle.xs_atoms.proofs.turns.turns_of.Goals as goal

pub returns-clause-turns : goal.returns-clause-turns
returns-clause-turns c =
    turns_are c.args.distinct.now c.args.fixed.now _ _ c.in_ok-push_classes.ensures.formed
    (c.in_ok-push_classes.ensures.turns ∙ ap (λ (ts : List Turn). ts ++ class_turns 0 c.args.distinct.now) (c.in_ok-push_turns.ensures ∙ ap (λ (ts : List Turn). ts ++ range_turns None c.args.fixed.now) c.new-turns.ensures.items))
    c.sort_unstable_by_key.ensures.permutation

pub returns-clause-sorted : goal.returns-clause-sorted
returns-clause-sorted c = IsNonDecreasingBy-from_sort_by_key (λ (t : Turn). t.place) _ c.sort_unstable_by_key.ensures.sorted (λ a r q k. search rules)
