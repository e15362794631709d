use Rattle.std.proofs.Common.{◌≡◌, ℕ, Bool, List, false, get_or, sym, subst}
use Rattle.xs_auto.specs.Nests.{Crossing}
use Rattle.xs_coarse.specs.Covers.{Follows}
use Rattle.xs_coarse_net.specs.Reaching.{IsIn, IsClosedIn, left_net}
use Rattle.xs_coarse_net.specs.Renaming.{name_of}
use Rattle.xs_coarse_net.specs.Stretches.{open_view, last_state}
use Rattle.xs_coarse_net.specs.Whole.{exit_state, spot_state}
use Rattle.xs_coarse_net.proofs.Leftover.{left_restricted, left_within}
use Rattle.xs_coarse_net.proofs.Renaming.{left_renamed, renamed_crossing}
use Rattle.xs_coarse_net.proofs.Wholes.{covers_from}
use Rattle.xs_coarse_net.proofs.reach.block.Goals as goal

pub returns : goal.returns
returns c =
    let t = c.args.ground.now.site.labels.now in
    let w = c.args.ground.now.whole.now in
    let has = c.deref-3.result.now in
    let net = left_net has w.net in
    let merged = left_net has w.merged in
    let made = c.in_ok-made.made in
    let from = open_view t net in
    let to = open_view t made in
    let same = sym c.deref-3.ensures.value in
    let own : IsIn has c.args.non = subst (λ (bits : List Bool). IsIn bits c.args.non) same c.in_ok-has.ensures.own in
    let closed : IsClosedIn w.net has = subst (λ (bits : List Bool). IsClosedIn w.net bits) same c.in_ok-has.ensures.closed in
    let start : c.in_ok-start.start ≡ name_of w.names.items c.in_ok-entry.entry = subst (λ (l : List ℕ). c.in_ok-start.start ≡ get_or l c.in_ok-entry.entry 0) c.deref.ensures.value c.in_ok-start.ensures in
    let end : c.in_ok-end.end ≡ name_of w.names.items c.in_ok-entry.exit = subst (λ (l : List ℕ). c.in_ok-end.end ≡ get_or l c.in_ok-entry.exit 0) c.deref-2.ensures.value c.in_ok-end.ensures in
    let renamed = left_renamed has w.names.items w.net w.merged c.requires.ground.whole.renamed in
    let follows : Follows from c.in_ok-entry.entry c.in_ok-entry.exit to 0 (last_state made) = λ nest v p.
    c.in_ok-made.ensures t nest v (subst (λ (a : ℕ). Crossing nest (open_view t merged) a v c.in_ok-end.end) (sym start) (subst (λ (b : ℕ). Crossing nest (open_view t merged) (name_of w.names.items c.in_ok-entry.entry) v b) (sym end) (renamed_crossing t renamed 0 0 0 0 p))) in
    record {
      block = from;
      state = spot_state c.args.ground.now.site.g.now;
      has = λ m. get_or has m false;
      covers = covers_from c.requires.ground.site.ready.labels c.requires.ground.whole.laid (left_restricted has w.net) (left_within has w.net c.requires.ground.whole.within) c.args.non own closed;
      follows = subst (λ (a : ℕ). Follows from a (exit_state c.args.non) to 0 (last_state made)) c.in_ok-entry.ensures.entry (subst (λ (b : ℕ). Follows from c.in_ok-entry.entry b to 0 (last_state made)) c.in_ok-entry.ensures.exit follows);
    }
