use Rattle.std.proofs.Common.{refl}
use Rattle.xs_cert.proofs.Standing.{place_past}
use Rattle.xs_cert.proofs.SetsRead.{no_third, three_result}
use Rattle.xs_cert.proofs.sets.first_sets.Goals as goal

pub titled_set-requires-2-clause-place : goal.titled_set-requires-2-clause-place
titled_set-requires-2-clause-place c =
    let second = rw c.in-Some-2.is at c.in_ok-pauses.ensures in
    place_past (place_past c.requires c.in-Some.ensures.some) second.1

pub returns-in_default-3 : goal.returns-in_default-3
returns-in_default-3 c =
    let second = rw c.in-Some-2.is at c.in_ok-pauses.ensures in
    let third = rw c.in_default-3.is at c.in_ok-middles.ensures in
    no_third c.args.bytes.now c.args.place c.args.front c.args.rest c.in-Some.fronts c.in-Some.ensures.some c.in-Some-2.pauses c.titled_set.new.set second c.args.sets.now c.titled_set-2.new.set third

pub titled_set-requires-3-clause-place : goal.titled_set-requires-3-clause-place
titled_set-requires-3-clause-place c =
    let second = rw c.in-Some-2.is at c.in_ok-pauses.ensures in
    let third = rw c.in-Some-3.is at c.in_ok-middles.ensures in
    place_past (place_past (place_past c.requires c.in-Some.ensures.some) second.1) third.1

pub returns : goal.returns
returns c =
    let second = rw c.in-Some-2.is at c.in_ok-pauses.ensures in
    let third = rw c.in-Some-3.is at c.in_ok-middles.ensures in
    three_result c.args.bytes.now c.args.place c.args.front c.args.rest c.in-Some.fronts c.in-Some.ensures.some c.in-Some-2.pauses c.titled_set.new.set second c.in-Some-3.middles c.titled_set-2.new.set third (record { fronts = c.titled_set.new.set; pauses = c.titled_set-2.new.set; middles = c.titled_set-3.new.set; rests = c.args.sets.now.rests }) refl refl c.titled_set-3.result c.titled_set-3.ensures
