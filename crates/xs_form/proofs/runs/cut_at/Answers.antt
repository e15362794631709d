use Rattle.std.proofs.Common.{arith}
use Rattle.xs_xml_laws.proofs.Steps.{cut_found, cut_kept, cut_none}
use Rattle.xs_form.proofs.runs.cut_at.Goals as goal

pub returns-in-Some : goal.returns-in-Some
returns-in-Some c = cut_found c.args.delimiter.now c.args.text.now c.in-Some.rest.now c.places.at c.places-test.true c.places.invariant.so_far c.in-Some.ensures

pub places-preserved : goal.places-preserved
places-preserved c = record { within = omega (arith, c.places-test.true); so_far = cut_kept c.args.delimiter.now c.args.text.now c.places.at c.places-test.true c.places.invariant.so_far c.in_default.ensures }

pub returns : goal.returns
returns c = cut_none c.args.delimiter.now c.args.text.now c.places.at c.places-test.false c.places.invariant.so_far
