use Rattle.xs_gram.specs.declared.parts.GItem.TheVariants.{Non}
use Rattle.xs_coarse_net.proofs.Extending.{joins_item}
use Rattle.xs_coarse_net.proofs.Leaving.{joins_walks}
use Rattle.xs_coarse_net.proofs.Viewing.{goes_walks}
use Rattle.xs_coarse_net.proofs.pieces.add_item.Goals as goal

pub returns-in_ok-add_word-in-Fixed-clause-covers : goal.returns-in_ok-add_word-in-Fixed-clause-covers
returns-in_ok-add_word-in-Fixed-clause-covers c =
    let one = c.in_ok-add_word-in-Fixed.ensures in
    rw c.in-Fixed.is (goes_walks 0 0 one.placed.within (rw c.as_slice.ensures at one.goes))

pub returns-in_ok-join_net-in-Term-clause-covers : goal.returns-in_ok-join_net-in-Term-clause-covers
returns-in_ok-join_net-in-Term-clause-covers c =
    let there = rw c.deref.ensures.value at c.in_ok-leaf_at-in-Term.ensures in
    rw c.in-Term.is (λ w word. joins_walks c.args.net.now c.in_ok-leaf_at-in-Term.field-0.now c.join_net.new.net w c.in_ok-join_net-in-Term.ensures.joins (c.requires.site.leaves.terms c.in-Term.term _ there w word))

pub returns-in_ok-join_net-in-Skip-clause-covers : goal.returns-in_ok-join_net-in-Skip-clause-covers
returns-in_ok-join_net-in-Skip-clause-covers c =
    let there = rw c.deref-in-Skip.ensures.value at c.in_ok-leaf_at-in-Skip.ensures in
    rw c.in-Skip.is (λ w word. joins_walks c.args.net.now c.in_ok-leaf_at-in-Skip.field-0.now c.join_net-in-Skip.new.net w c.in_ok-join_net-in-Skip.ensures.joins (c.requires.site.leaves.skips c.in-Skip.skip _ there w word))

pub returns-in_ok-join_net-in-Non-clause-covers : goal.returns-in_ok-join_net-in-Non-clause-covers
returns-in_ok-join_net-in-Non-clause-covers c =
    let fragment = c.in_ok-fragment_at-in-Non.field-0.now in
    rw c.in-Non.is (joins_item c.args.site.now.g.now c.args.site.now.labels.now c.args.net.now fragment c.join_net-in-Non.new.net (Non c.in-Non.non c.in-Non.slot) c.in_ok-join_net-in-Non.ensures.joins (c.requires.kept c.in-Non.non fragment c.in_ok-fragment_at-in-Non.ensures))
