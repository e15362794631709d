use Rattle.std.proofs.Common.{◌<◌, ℕ, subst, sym, ◌∙◌, length, get_or}
use Rattle.xs_loose.specs.Components.{AreListed}
use Rattle.xs_loose.proofs.Listing.{members_listed, rules_listed, keys_below, components_below}
use Rattle.xs_loose.proofs.components.Components.of.Goals as goal

pub listed-requires-2-clause-below : goal.listed-requires-2-clause-below
listed-requires-2-clause-below c = rw c.deref.ensures.value (keys_below c.args.g.now c.args.comps.now c.in_ok-keys.keys.items c.bound-count.result c.requires.built.range c.requires.comps c.in_ok-keys.ensures (rw c.as_slice.ensures at c.bound-count.ensures))

pub returns : goal.returns
returns c =
    let g = c.args.g.now in
    let comps = c.args.comps.now in
    let members : AreListed comps g.nons c.in_ok-members.members.items = rw (c.as_slice-2.ensures, c.nons.ensures) at c.in_ok-members.ensures.lists in
    let rules : AreListed c.in_ok-keys.keys.items (length g.rules) c.in_ok-rules.rules.items = rw (c.deref.ensures.value, c.rules.ensures) at c.in_ok-rules.ensures.lists in
    record {
      members = members_listed g comps c.in_ok-members.members.items c.requires.comps members;
      rules = rules_listed g comps c.in_ok-keys.keys.items c.in_ok-rules.rules.items c.in_ok-keys.ensures rules;
      counted = c.in_ok-rules.ensures.counted ∙ sym c.in_ok-members.ensures.counted;
      below = λ n l. subst (λ (k : ℕ). get_or comps n 0 < k) (sym c.in_ok-members.ensures.counted) (components_below g comps c.bound-count.result c.requires.comps (rw c.as_slice.ensures at c.bound-count.ensures) n l);
    }
