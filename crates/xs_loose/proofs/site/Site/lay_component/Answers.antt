use Rattle.std.proofs.Common.{ℕ, suc, ◌+◌, ◌*◌, length, get_or, refl, sym, subst, arith, Some}
use Rattle.xs_auto.specs.Nets.{states}
use Rattle.xs_gram.specs.Fences.{spread}
use Rattle.xs_loose.specs.Walking.{IsHome, HasRoom}
use Rattle.xs_loose.proofs.Bounds.{IsUpTo, up_to_all}
use Rattle.xs_loose.proofs.Placing.{task_facts, rules_listed, placed_none, own_rule, own_member, placed_room, placed_more, task_done}
use Rattle.xs_loose.proofs.site.Site.lay_component.Goals as goal

pub overflow_cast-members : goal.overflow_cast-members
overflow_cast-members c = omega (arith, c.requires.few, (task_facts c.args.self.now c.requires.site (states c.args.into.now.net) c.requires.few c.args.task c.requires.task c.at.result.now c.at.ensures c.index.result.now c.index.ensures c.len-members.result c.len-members.ensures).room)

pub index-requires-2 : goal.index-requires-2
index-requires-2 c = omega (arith, (task_facts c.args.self.now c.requires.site (states c.args.into.now.net) c.requires.few c.args.task c.requires.task c.at.result.now c.at.ensures c.index.result.now c.index.ensures c.len-members.result c.len-members.ensures).rules_low)

pub overflow_mul-place : goal.overflow_mul-place
overflow_mul-place c = omega (arith, c.requires.few, (task_facts c.args.self.now c.requires.site (states c.args.into.now.net) c.requires.few c.args.task c.requires.task c.at.result.now c.at.ensures c.index.result.now c.index.ensures c.len-members.result c.len-members.ensures).room)

pub overflow_add-place : goal.overflow_add-place
overflow_add-place c = omega (arith, c.requires.few, (task_facts c.args.self.now c.requires.site (states c.args.into.now.net) c.requires.few c.args.task c.requires.task c.at.result.now c.at.ensures c.index.result.now c.index.ensures c.len-members.result c.len-members.ensures).room)

pub rules-init : goal.rules-init
rules-init c =
    let f = task_facts c.args.self.now c.requires.site (states c.args.into.now.net) c.requires.few c.args.task c.requires.task c.at.result.now c.at.ensures c.index.result.now c.index.ensures c.len-members.result c.len-members.ensures in
    let listed = rules_listed c.args.self.now c.requires.site c.at.result.now f.rules_low c.as_slice-rules.result.now c.index-2.result.now c.as_slice-rules.ensures c.index-2.ensures in
    placed_none c.args.self.now c.requires.site c.at.result.now c.as_slice-rules.result.now listed (record { non = c.args.task.non; first = c.args.task.at }) f.of (c.args.task.at + 2 * c.len-members.result) c.args.into.now.net c.args.into.now.tasks.items

pub lay_rule-requires-clause-few : goal.lay_rule-requires-clause-few
lay_rule-requires-clause-few c = omega (arith, c.requires.few, c.rules.invariant.done.gains.states)

pub lay_rule-requires-clause-home : goal.lay_rule-requires-clause-home
lay_rule-requires-clause-home c =
    let f = task_facts c.args.self.now c.requires.site (states c.args.into.now.net) c.requires.few c.args.task c.requires.task c.at.result.now c.at.ensures c.index.result.now c.index.ensures c.len-members.result c.len-members.ensures in
    subst (λ (n : ℕ). IsHome c.args.self.now.g.now n (Some (record { non = c.args.task.non; first = c.args.task.at }))) (sym c.rules.invariant.done.gains.states) f.home

pub lay_rule-requires-clause-rule : goal.lay_rule-requires-clause-rule
lay_rule-requires-clause-rule c =
    let f = task_facts c.args.self.now c.requires.site (states c.args.into.now.net) c.requires.few c.args.task c.requires.task c.at.result.now c.at.ensures c.index.result.now c.index.ensures c.len-members.result c.len-members.ensures in
    let listed = rules_listed c.args.self.now c.requires.site c.at.result.now f.rules_low c.as_slice-rules.result.now c.index-2.result.now c.as_slice-rules.ensures c.index-2.ensures in
    (own_rule c.args.self.now c.requires.site c.at.result.now c.as_slice-rules.result.now listed (record { non = c.args.task.non; first = c.args.task.at }) f.of c.rules.rule-index (get_or c.as_slice-rules.result.now c.rules.rule-index 0) c.rules-test.true refl).0

pub lay_rule-requires-clause-member : goal.lay_rule-requires-clause-member
lay_rule-requires-clause-member c =
    let f = task_facts c.args.self.now c.requires.site (states c.args.into.now.net) c.requires.few c.args.task c.requires.task c.at.result.now c.at.ensures c.index.result.now c.index.ensures c.len-members.result c.len-members.ensures in
    let listed = rules_listed c.args.self.now c.requires.site c.at.result.now f.rules_low c.as_slice-rules.result.now c.index-2.result.now c.as_slice-rules.ensures c.index-2.ensures in
    own_member c.args.self.now c.requires.site c.at.result.now c.as_slice-rules.result.now listed (record { non = c.args.task.non; first = c.args.task.at }) f.of c.rules.rule-index (get_or c.as_slice-rules.result.now c.rules.rule-index 0) c.rules-test.true refl

pub lay_rule-requires-clause-room : goal.lay_rule-requires-clause-room
lay_rule-requires-clause-room c =
    let f = task_facts c.args.self.now c.requires.site (states c.args.into.now.net) c.requires.few c.args.task c.requires.task c.at.result.now c.at.ensures c.index.result.now c.index.ensures c.len-members.result c.len-members.ensures in
    let listed = rules_listed c.args.self.now c.requires.site c.at.result.now f.rules_low c.as_slice-rules.result.now c.index-2.result.now c.as_slice-rules.ensures c.index-2.ensures in
    let room = placed_room c.args.self.now c.requires.site c.at.result.now c.as_slice-rules.result.now listed (record { non = c.args.task.non; first = c.args.task.at }) f.of c.rules.rule-index (get_or c.as_slice-rules.result.now c.rules.rule-index 0) c.rules-test.true refl (c.args.task.at + 2 * c.len-members.result) c.rules.place c.args.into.now.net c.args.into.now.tasks.items c.rules.into.net c.rules.into.tasks.items c.rules.invariant (states c.args.into.now.net) f.whole in
    subst (λ (n : ℕ). HasRoom c.args.self.now.g.now n (Some (record { non = c.args.task.non; first = c.args.task.at })) (get_or c.as_slice-rules.result.now c.rules.rule-index 0) 0 (spread c.args.self.now.g.now (get_or c.as_slice-rules.result.now c.rules.rule-index 0)) (record { before = c.rules.place; at = suc c.rules.place })) (sym c.rules.invariant.done.gains.states) room

pub rules-preserved : goal.rules-preserved
rules-preserved c =
    let f = task_facts c.args.self.now c.requires.site (states c.args.into.now.net) c.requires.few c.args.task c.requires.task c.at.result.now c.at.ensures c.index.result.now c.index.ensures c.len-members.result c.len-members.ensures in
    let listed = rules_listed c.args.self.now c.requires.site c.at.result.now f.rules_low c.as_slice-rules.result.now c.index-2.result.now c.as_slice-rules.ensures c.index-2.ensures in
    placed_more c.args.self.now c.requires.site c.at.result.now c.as_slice-rules.result.now listed (record { non = c.args.task.non; first = c.args.task.at }) f.of c.rules.rule-index (get_or c.as_slice-rules.result.now c.rules.rule-index 0) c.rules-test.true refl (c.args.task.at + 2 * c.len-members.result) c.rules.place c.args.into.now.net c.args.into.now.tasks.items c.rules.into.net c.rules.into.tasks.items c.rules.invariant c.in_ok-place.place c.lay_rule.new.into.net c.lay_rule.new.into.tasks.items c.in_ok-place.ensures

pub returns : goal.returns
returns c =
    let f = task_facts c.args.self.now c.requires.site (states c.args.into.now.net) c.requires.few c.args.task c.requires.task c.at.result.now c.at.ensures c.index.result.now c.index.ensures c.len-members.result c.len-members.ensures in
    let listed = rules_listed c.args.self.now c.requires.site c.at.result.now f.rules_low c.as_slice-rules.result.now c.index-2.result.now c.as_slice-rules.ensures c.index-2.ensures in
    let up = subst (λ (i : ℕ). IsUpTo c.as_slice-rules.result.now i (length c.args.self.now.g.now.rules)) (omega (arith, c.rules-test.false, c.rules.auto.rule-index-end)) (up_to_all c.as_slice-rules.result.now listed (length c.args.self.now.g.now.rules) (λ p h. h.0)) in
    task_done c.args.self.now.g.now c.requires.site.built c.args.self.now.tables.now.weights c.requires.site.tables.weights (states c.args.into.now.net) c.args.task c.requires.task c.requires.few c.len-members.result f.members c.rules.rule-index c.rules.place c.as_slice-rules.result.now c.args.into.now.net c.args.into.now.tasks.items c.rules.into.net c.rules.into.tasks.items up c.rules.invariant
