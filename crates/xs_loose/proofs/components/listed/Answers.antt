use Rattle.std.proofs.Common.{◌≡◌, ℕ, List, [], ◌∙◌, ap, get_or, set, subst, arith, length, length-set, refl, ◌<◌}
use Rattle.std.proofs.lemmas.List.{get_or_read}
use Rattle.xs_loose.specs.Components.{AreListed}
use Rattle.xs_loose.proofs.Listing.{lists_none, lists_more}
use Rattle.xs_loose.proofs.components.listed.Goals as goal

pub keys-init : goal.keys-init
keys-init c = record { counted = c.in_ok-lists.ensures.counted; lists = lists_none c.args.keys.now c.in_ok-lists.lists.items c.in_ok-lists.ensures.empty }

pub keys-preserved : goal.keys-preserved
keys-preserved c =
    let lists = c.keys.lists.items in
    let key = get_or c.args.keys.now c.keys.place 0 in
    let low : key < length lists = omega (arith, c.requires.below c.keys.place 0 (omega (arith, c.keys-test.true, c.requires.end)), c.keys.invariant.counted) in
    record {
      counted = length-set lists key c.push.new.self ∙ c.keys.invariant.counted;
      lists = lists_more c.args.keys.now lists (set lists key c.push.new.self) c.keys.place key c.index_mut-list.result.now refl low (get_or_read lists key _ low c.index_mut-list.ensures.value []) (ap (λ (list : List ℕ). set lists key list) c.in_ok-push.ensures.ok) c.keys.invariant.lists;
    }

pub returns-clause-lists : goal.returns-clause-lists
returns-clause-lists c =
    let end : c.keys.place ≡ c.args.end = omega (arith, c.keys-test.false, c.keys.auto.place-end) in
    subst (λ (k : ℕ). AreListed c.args.keys.now k c.keys.lists.items) end c.keys.invariant.lists
