use Rattle.std.proofs.Common.{◌≡◌, ◌+◌, ap, arith, refl}
use Rattle.xs_regex.proofs.Passed.{nodes}
use Rattle.xs_pair.proofs.RegexFrames.{within_push, copy_first, copy_one, copy_any, copy_counted}
use Rattle.xs_pair.proofs.regex.+copied_regex.Goals as goal

pub copied_regex-requires : goal.copied_regex-requires
copied_regex-requires t c =
    let n : nodes c.parts.rest.now ≡ 1 + nodes c.in-Then.first.value + nodes c.in-Then.next.value = ap nodes c.in-Then.is in
    omega (arith, c.decreases, n, c.parts.invariant.no_larger, ap nodes c.deref.ensures)

pub parts-smaller-in-Then : goal.parts-smaller-in-Then
parts-smaller-in-Then t c =
    let n : nodes c.parts.rest.now ≡ 1 + nodes c.in-Then.first.value + nodes c.in-Then.next.value = ap nodes c.in-Then.is in
    rw c.deref-rest.ensures (omega (arith, n))

pub parts-preserved-in-Then : goal.parts-preserved-in-Then
parts-preserved-in-Then t c =
    let n : nodes c.parts.rest.now ≡ 1 + nodes c.in-Then.first.value + nodes c.in-Then.next.value = ap nodes c.in-Then.is in
    record {
      within =
          rw c.in_ok-push-in-Then.ensures.items (within_push c.parts.frames.items _ c.args.regex.now c.parts.rest.now c.deref-rest.result.now c.parts.invariant.within
          (rw (c.in-Then.is, c.deref-rest.ensures) (rw c.deref.ensures at c.in_ok-copied_regex-in-Then.ensures, refl)));
      no_larger = rw c.deref-rest.ensures (omega (arith, n, c.parts.invariant.no_larger));
    }

pub copied_regex-requires-in-Or : goal.copied_regex-requires-in-Or
copied_regex-requires-in-Or t c =
    let n : nodes c.parts.rest.now ≡ 1 + nodes c.in-Or.one.value + nodes c.in-Or.other.value = ap nodes c.in-Or.is in
    omega (arith, c.decreases, n, c.parts.invariant.no_larger, ap nodes c.deref-in-Or.ensures)

pub parts-smaller-in-Or : goal.parts-smaller-in-Or
parts-smaller-in-Or t c =
    let n : nodes c.parts.rest.now ≡ 1 + nodes c.in-Or.one.value + nodes c.in-Or.other.value = ap nodes c.in-Or.is in
    rw c.deref-rest-in-Or.ensures (omega (arith, n))

pub parts-preserved-in-Or : goal.parts-preserved-in-Or
parts-preserved-in-Or t c =
    let n : nodes c.parts.rest.now ≡ 1 + nodes c.in-Or.one.value + nodes c.in-Or.other.value = ap nodes c.in-Or.is in
    record {
      within =
          rw c.in_ok-push-in-Or.ensures.items (within_push c.parts.frames.items _ c.args.regex.now c.parts.rest.now c.deref-rest-in-Or.result.now c.parts.invariant.within
          (rw (c.in-Or.is, c.deref-rest-in-Or.ensures) (rw c.deref-in-Or.ensures at c.in_ok-copied_regex-in-Or.ensures, refl)));
      no_larger = rw c.deref-rest-in-Or.ensures (omega (arith, n, c.parts.invariant.no_larger));
    }

pub parts-smaller-in-Star : goal.parts-smaller-in-Star
parts-smaller-in-Star t c =
    let n : nodes c.parts.rest.now ≡ 1 + nodes c.in-Star.inner.value = ap nodes c.in-Star.is in
    rw c.deref-rest-in-Star.ensures (omega (arith, n))

pub parts-preserved-in-Star : goal.parts-preserved-in-Star
parts-preserved-in-Star t c =
    let n : nodes c.parts.rest.now ≡ 1 + nodes c.in-Star.inner.value = ap nodes c.in-Star.is in
    record {
      within =
          rw c.in_ok-push-in-Star.ensures.items (within_push c.parts.frames.items _ c.args.regex.now c.parts.rest.now c.deref-rest-in-Star.result.now c.parts.invariant.within
          (rw (c.in-Star.is, c.deref-rest-in-Star.ensures) refl));
      no_larger = rw c.deref-rest-in-Star.ensures (omega (arith, n, c.parts.invariant.no_larger));
    }

pub parts-smaller : goal.parts-smaller
parts-smaller t c =
    let n : nodes c.parts.rest.now ≡ 1 + nodes c.in-Times.inner.value = ap nodes c.in-Times.is in
    rw c.deref-rest-in-Times.ensures (omega (arith, n))

pub parts-preserved : goal.parts-preserved
parts-preserved t c =
    let n : nodes c.parts.rest.now ≡ 1 + nodes c.in-Times.inner.value = ap nodes c.in-Times.is in
    record {
      within =
          rw c.in_ok-push-in-Times.ensures.items (within_push c.parts.frames.items _ c.args.regex.now c.parts.rest.now c.deref-rest-in-Times.result.now c.parts.invariant.within
          (rw (c.in-Times.is, c.deref-rest-in-Times.ensures) (refl, refl, refl)));
      no_larger = rw c.deref-rest-in-Times.ensures (omega (arith, n, c.parts.invariant.no_larger));
    }

pub frames-preserved-in_ok-new-in-First : goal.frames-preserved-in_ok-new-in-First
frames-preserved-in_ok-new-in-First t c =
    copy_first c.frames.frames.items c.pop.new.self.items c.in-Some.frame c.args.regex.now c.in-First.first _ c.frames.copy _ _ _ c.in-Some.ensures.items c.in-First.is c.in_ok-new-in-First.ensures.ok c.in_ok-inner.ensures.ok c.frames.invariant

pub frames-preserved-in_ok-new-in-One : goal.frames-preserved-in_ok-new-in-One
frames-preserved-in_ok-new-in-One t c =
    copy_one c.frames.frames.items c.pop.new.self.items c.in-Some.frame c.args.regex.now c.in-One.one _ c.frames.copy _ _ _ c.in-Some.ensures.items c.in-One.is c.in_ok-new-in-One.ensures.ok c.in_ok-inner.ensures.ok c.frames.invariant

pub frames-preserved-in-Any : goal.frames-preserved-in-Any
frames-preserved-in-Any t c =
    copy_any c.frames.frames.items c.pop.new.self.items c.in-Some.frame c.args.regex.now c.frames.copy _ _ c.in-Some.ensures.items c.in-Any.is c.in_ok-inner.ensures.ok c.frames.invariant

pub frames-preserved : goal.frames-preserved
frames-preserved t c =
    copy_counted c.in-Counted.least c.in-Counted.most c.frames.frames.items c.pop.new.self.items c.in-Some.frame c.args.regex.now c.frames.copy _ _ c.in-Some.ensures.items c.in-Counted.is c.in_ok-inner.ensures.ok c.frames.invariant
