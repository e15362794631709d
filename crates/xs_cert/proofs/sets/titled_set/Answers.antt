use Rattle.xs_cert.proofs.Standing.{place_past}
use Rattle.xs_cert.proofs.SetsRead.{titled}
use Rattle.xs_cert.proofs.sets.titled_set.Goals as goal

pub title-requires : goal.title-requires
title-requires c = place_past c.requires.place c.in_ok-end.ensures.past

pub returns : goal.returns
returns c = titled c.in_ok-end.ensures c.args.line.now c.requires.line c.requires.word c.title.result c.title.ensures.some c.title.ensures.none
