use Rattle.std.proofs.Common.{◌+◌, arith}
use Rattle.std.proofs.lemmas.Option.{slice_get_within}
use Rattle.xs_gram.specs.Places.{all_places}
use Rattle.xs_gram.proofs.Numbers.{place_once, number_inside, number_dot}
use Rattle.xs_gram.proofs.gram.Gram.number.Goals as goal

pub overflow_add-result-in-Some : goal.overflow_add-result-in-Some
overflow_add-result-in-Some c =
    let there = number_inside c.args.self.now c.args.place c.in-Some.position c.start_of-start.result c.requires c.in-Some.is c.start_of-start.ensures.place in
    let below = slice_get_within (all_places c.args.self.now) (c.start_of-start.result + 1 + c.in-Some.position) c.args.place there in
    omega (arith, below, c.start_of-start.ensures.few)

pub returns-in-None-clause-found : goal.returns-in-None-clause-found
returns-in-None-clause-found c = number_dot c.args.self.now c.args.place c.start_of-start.result c.in-None.is c.start_of-start.ensures.place

pub returns-in-None-clause-once : goal.returns-in-None-clause-once
returns-in-None-clause-once c k is = place_once c.args.self.now c.args.place k c.start_of-start.result is (number_dot c.args.self.now c.args.place c.start_of-start.result c.in-None.is c.start_of-start.ensures.place)

pub returns-in-Some-clause-found : goal.returns-in-Some-clause-found
returns-in-Some-clause-found c = number_inside c.args.self.now c.args.place c.in-Some.position c.start_of-start.result c.requires c.in-Some.is c.start_of-start.ensures.place

pub returns-in-Some-clause-once : goal.returns-in-Some-clause-once
returns-in-Some-clause-once c k is = place_once c.args.self.now c.args.place k (c.start_of-start.result + 1 + c.in-Some.position) is (number_inside c.args.self.now c.args.place c.in-Some.position c.start_of-start.result c.requires c.in-Some.is c.start_of-start.ensures.place)
