use Rattle.std.proofs.Common.{◌≡◌, map, replicate, ap, arith, ◌∙◌}
use Rattle.xs_gram.specs.Common.{word}
use Rattle.xs_gram.specs.Grammar.{Grammar}
use Rattle.xs_tree.specs.Flat.{trees_of}
use Rattle.xs_cover.proofs.Reading.{read_all, read_first}
use Rattle.xs_cover.proofs.trees.Trees.of.Goals as goal

pub rows-init : goal.rows-init
rows-init c =
    let g = c.args.two.now.text in
    let t = c.args.tables.now in
    let nons : c.nons-count.result ≡ g.nons = c.nons-count.ensures ∙ ap (λ (k : Grammar). k.nons) c.gram.ensures in
    read_first g c.args.two.now.xml t.prices.terms.items t.prices.nons.items t.words.items t.forest (trees_of c.in_ok-leaf_parts.field-0) c.in_ok-vec.field-0.items c.requires.sound.text c.requires.tables.leaves (c.in_ok-leaf_parts.ensures ∙ ap (map word) c.deref.ensures.value)
    (c.in_ok-vec.ensures.items_if_clones_equal (λ y e. e) ∙ ap (λ k. replicate k 0) nons)

pub returns : goal.returns
returns c =
    let t = c.args.tables.now in
    let read = c.requires.tables.read in
    record {
      have = read_all c.args.two.now.text c.args.two.now.xml t.prices.terms.items t.prices.nons.items t.forest (trees_of c.rows.trees.builder) c.rows.trees.numbers.items c.rows.at c.requires.tables.trees c.requires.tables.numbers c.requires.tables.rows read.have (omega (arith, c.rows-test.false, c.len-at-end.ensures.len)) c.rows.invariant;
      low = read.low;
      closed = read.closed;
      contexts = read.contexts;
      passed = read.passed;
    }
