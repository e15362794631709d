use Rattle.std.proofs.Common.{ℕ, List, rules, subst}
use Rattle.xs_meet.specs.Closed.{IsSettled}
use Rattle.xs_coarse.specs.Coarse.{MayCall}
use Rattle.xs_coarse.specs.Labels.{AreNewLabels}
use Rattle.xs_coarse_net.specs.declared.cover.Content.{Content}
use Rattle.xs_coarse_net.specs.Contents.{nest_of}
use Rattle.xs_coarse_net.specs.Having.{IsCovers}
use Rattle.xs_screen.specs.Screens.{AreNone}
use Rattle.xs_screen.proofs.Seeing.{screen_made}
use Rattle.xs_screen.proofs.screen.Screen.of.Goals as goal

pub part_groups-requires : goal.part_groups-requires
part_groups-requires c = search rules

pub returns : goal.returns
returns c =
    let g = c.args.g.now in
    let labels = c.in-Some.labels in
    let parted = c.part_groups.new.labels in
    let made : AreNewLabels g labels = rw c.in-Some.is at c.in_ok-labels.ensures in
    let covers : IsCovers g labels c.in-Some-2.covers = rw c.in-Some-2.is at c.in_ok-covers.ensures in
    let settled = subst (λ (items : List Content). IsSettled (nest_of parted items) (MayCall parted)) c.deref.ensures.value (c.in_ok-part_groups.ensures.settled c.if-not-branch.false) in
    let none = subst (λ (rules : ℕ). AreNone rules c.in_ok-kept.kept) c.rules.ensures c.in_ok-kept.ensures in
    screen_made g labels _ c.in_ok-part_groups.ensures.parts made.labels covers settled none
