use Rattle.xs_regex.proofs.Copies.{empty_repeat}
use Rattle.xs_regex.proofs.Shapes.{none_repeated}
use Rattle.xs_regex.proofs.repeat.repeated.Goals as goal

pub returns-then-is_empty-clause-automaton : goal.returns-then-is_empty-clause-automaton
returns-then-is_empty-clause-automaton c = empty_repeat c.args.one.now c.nothing.result c.args.least c.args.most c.allows_none.result c.requires.formed (c.is_empty.ensures.0 c.if-is_empty.true) c.nothing.ensures c.allows_none.ensures

pub returns-then-is_empty-clause-links : goal.returns-then-is_empty-clause-links
returns-then-is_empty-clause-links c = λ s h. none_repeated c.args.least c.args.most c.allows_none.result (c.is_empty.ensures.0 c.if-is_empty.true) c.nothing.ensures c.allows_none.ensures h

pub returns-in-None-clause-automaton : goal.returns-in-None-clause-automaton
returns-in-None-clause-automaton c = rw c.in-None.is c.at_least.ensures.automaton

pub returns-in-None-clause-links : goal.returns-in-None-clause-links
returns-in-None-clause-links c = rw c.in-None.is c.at_least.ensures.links

pub returns-in-Some-clause-automaton : goal.returns-in-Some-clause-automaton
returns-in-Some-clause-automaton c = rw c.in-Some.is c.between.ensures.automaton

pub returns-in-Some-clause-links : goal.returns-in-Some-clause-links
returns-in-Some-clause-links c = rw c.in-Some.is c.between.ensures.links
