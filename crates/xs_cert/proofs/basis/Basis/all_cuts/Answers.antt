use Rattle.std.proofs.Common.{length, arith}
use Rattle.xs_cert_laws.specs.Certificates.{cut_heads}
use Rattle.xs_cert.proofs.Standing.{place_past}
use Rattle.xs_cert.proofs.Loops.{flat_whole, flat_broken, flat_end}
use Rattle.xs_cert.proofs.Composing.{whole_none}
use Rattle.xs_cert.proofs.basis.Basis.all_cuts.Goals as goal

pub rules-init : goal.rules-init
rules-init c = whole_none c.args.place c.requires.place.within

pub cut_row-requires-clause-place : goal.cut_row-requires-clause-place
cut_row-requires-clause-place c = place_past c.requires.place c.rules.invariant.past

pub returns-in-Broken : goal.returns-in-Broken
returns-in-Broken c =
    let b = c.args.self.now in
    let row = rw c.in-Broken.is at c.in_ok-next.ensures in
    flat_broken (cut_heads b.site.g.now) 0 c.rules.rule (length b.site.g.now.rules) c.args.place c.rules.at c.in-Broken.lines (omega arith) (omega arith) c.rules.invariant row

pub rules-preserved : goal.rules-preserved
rules-preserved c =
    let b = c.args.self.now in
    let row = rw c.in-Whole.is at c.in_ok-next.ensures in
    flat_whole (cut_heads b.site.g.now) 0 c.rules.rule c.args.place c.rules.at c.in-Whole.next (omega arith) c.rules.invariant row

pub returns : goal.returns
returns c =
    let b = c.args.self.now in
    flat_end (cut_heads b.site.g.now) 0 c.rules.rule (length b.site.g.now.rules) c.args.place c.rules.at (omega arith) c.rules.invariant
