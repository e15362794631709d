use Rattle.std.proofs.Common.{sym, ◌∙◌, drop, []}
use Rattle.xs_cert_laws.specs.Certificates.{share_line}
use Rattle.xs_cert.proofs.SetsRead.{one_line}
use Rattle.xs_cert.proofs.Opening.{true_false}
use Rattle.xs_cert.proofs.SharesRead.{shares_skip, shares_one}
use Rattle.xs_cert.proofs.sharing.read_pair.Goals as goal

pub returns-then-not-have_one_fence : goal.returns-then-not-have_one_fence
returns-then-not-have_one_fence c = shares_skip c.args.place c.args.first c.args.second c.args.related.now c.requires.place.within (λ pair stand. true_false (sym pair.fence ∙ sym c.have_one_fence.ensures ∙ c.if-not-have_one_fence.true))

pub returns-in_default : goal.returns-in_default
returns-in_default c =
    let none = rw c.in_default.is at c.pair_title.ensures.none in
    shares_skip c.args.place c.args.first c.args.second c.args.related.now c.requires.place.within (λ pair stand. none (one_line (drop c.args.place.byte c.args.bytes.now) (share_line (c.args.first, c.args.second)) [] stand))

pub returns : goal.returns
returns c = shares_one c.args.place c.in-Some.next c.args.first c.args.second c.args.related.now c.insert.new.self c.insert-2.new.self c.requires.few (record { order = c.requires.order; within = c.requires.second; fence = sym c.if-not-have_one_fence.ensures }) c.in-Some.ensures.some c.insert.ensures.marks c.insert-2.ensures.marks
