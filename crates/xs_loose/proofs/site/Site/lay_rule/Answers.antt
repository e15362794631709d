use Rattle.std.proofs.Common.{ℕ, ap, length, subst, sym, arith}
use Rattle.xs_auto.specs.Nets.{states}
use Rattle.xs_check_laws.specs.Weights.{Members}
use Rattle.xs_loose.proofs.Placing.{place_low, rule_laid}
use Rattle.xs_loose.proofs.site.Site.lay_rule.Goals as goal

pub pass-requires-clause-from : goal.pass-requires-clause-from
pass-requires-clause-from c = omega (arith, c.entry_of-entry.ensures.exit (states c.args.into.now.net) c.requires.home)

pub pass-requires-clause-to : goal.pass-requires-clause-to
pass-requires-clause-to c = place_low c.args.self.now.g.now c.requires.site.built (states c.args.into.now.net) c.args.home c.args.rule c.args.place c.requires.room

pub overflow_add-spot : goal.overflow_add-spot
overflow_add-spot c = omega (arith, c.requires.few, place_low c.args.self.now.g.now c.requires.site.built (states c.args.into.now.net) c.args.home c.args.rule c.args.place c.requires.room)

pub lay_items-requires-clause-before : goal.lay_items-requires-clause-before
lay_items-requires-clause-before c = omega (arith, c.in_ok-pass.ensures.states, place_low c.args.self.now.g.now c.requires.site.built (states c.args.into.now.net) c.args.home c.args.rule c.args.place c.requires.room)

pub overflow_add-entry : goal.overflow_add-entry
overflow_add-entry c = omega (arith, c.requires.few, c.entry_of-entry.ensures.exit (states c.args.into.now.net) c.requires.home)

pub pass-requires-2-clause-to : goal.pass-requires-2-clause-to
pass-requires-2-clause-to c = omega (arith, c.in_ok-pass.ensures.states, c.in_ok-last.ensures.done.gains.states, c.entry_of-entry.ensures.exit (states c.args.into.now.net) c.requires.home)

pub returns : goal.returns
returns c = rule_laid c.args.self.now.g.now c.requires.site.built (states c.args.into.now.net) c.args.home c.args.rule c.args.place c.args.self.now.tables.now.weights c.entry_of-entry.result (length c.spread.result.now) c.in_ok-last.last c.args.into.now.net c.pass.new.net c.lay_items.new.into.net c.pass-2.new.net c.args.into.now.tasks.items c.lay_items.new.into.tasks.items c.requires.home c.requires.rule c.requires.member (ap length c.spread.ensures.items) (λ j members. c.entry_of-entry.ensures.entry j (subst (λ (n : ℕ). Members c.args.self.now.g.now c.args.home.non n j) (sym c.non_of.ensures) members)) c.in_ok-pass.ensures c.in_ok-last.ensures c.in_ok-pass-2.ensures
