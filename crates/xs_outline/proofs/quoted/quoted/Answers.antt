use Rattle.std.proofs.Common.{◌≡◌, false, sym, rules}
use Rattle.xs_outline.specs.Reading.{ends_at}
use Rattle.xs_outline.proofs.Units.{can_more, no_unit, begun_more}
use Rattle.xs_outline.proofs.quoted.quoted.Goals as goal

pub returns-in_default : goal.returns-in_default
returns-in_default c v quoted =
    let open_ : ends_at c.units.rest.now ≡ false = search (rules) in
    no_unit c.units.rest.now (c.units.invariant.still v quoted) open_ (sym c.in_default.ensures.value)

pub units-preserved : goal.units-preserved
units-preserved c =
    let open_ : ends_at c.units.rest.now ≡ false = search (rules) in
    record {
      still = λ v quoted. can_more c.units.rest.now c.in-Some.read.0 c.in-Some.read.1.now (c.units.invariant.still v quoted) open_ (sym c.in-Some.ensures.value);
      begun = begun_more c.args.text.now c.units.rest.now c.in-Some.read.1.now c.units.word c.push.new.self c.in-Some.read.0 c.units.invariant.begun (sym c.in-Some.ensures.value) c.in_ok-push.ensures.ok;
    }
