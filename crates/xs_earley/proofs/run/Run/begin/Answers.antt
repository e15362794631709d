use Rattle.std.proofs.Common.{◌≡◌, ◌++◌, [], ◌∷◌, List, length, ◌∙◌, ap, arith}
use Rattle.xs_earley.specs.declared.begun.Begun.{Begun}
use Rattle.xs_earley.proofs.Steppings.{run_first}
use Rattle.xs_earley.proofs.run.Run.begin.Goals as goal

pub returns-clause-run : goal.returns-clause-run
returns-clause-run c =
    let g = c.args.g.now in
    let marks : length c.first_set.new.called ≡ g.nons = omega (arith, c.first_set.ensures.marks, c.in_ok-called.ensures.counted, c.nons.ensures) in
    let one : c.push.new.self ≡ [] ∷ [] = c.in_ok-push.ensures.ok ∙ ap (λ (l : List (List Begun)). l ++ [] ∷ []) c.new-begun.ensures in
    rw c.new-3.ensures.items (run_first g c.in_ok-facts.facts c.first_set.new.chart c.push.new.self (length c.first_set.new.called) c.requires.sound c.in_ok-facts.ensures.facts c.in_ok-facts.ensures.masks marks c.in_ok-first_set.ensures.chart c.in_ok-first_set.ensures.waiters one)
