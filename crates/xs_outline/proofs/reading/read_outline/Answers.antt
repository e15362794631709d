use Rattle.std.proofs.Common.{◌≡◌, ◌+◌, ℕ, Bool, List, [], true, false, sym, subst, add-one, rules}
use Rattle.xs_gram.specs.Common.{Common}
use Rattle.xs_tree.specs.Flat.{common_of}
use Rattle.xs_regex.proofs.Flags.{empty_test}
use Rattle.xs_outline.specs.Outline.{IsOutline}
use Rattle.xs_outline.specs.Reader.{state, IsKept, IsRead}
use Rattle.xs_outline.proofs.Pairs.{pair_has_slot_names, pair_has_distinct_slots}
use Rattle.xs_outline.proofs.TextLines.{first_shorter, some_first}
use Rattle.xs_outline.proofs.Whole.{read_none, read_more, read_whole, bad_line, bad_end}
use Rattle.xs_outline.proofs.ReadLines.{new_state, new_kept, not_whole, whole_state, finished}
use Rattle.xs_outline.proofs.Grown.{outline_fits}
use Rattle.xs_outline.proofs.reading.read_outline.Goals as goal

true_no_false : (b : Bool) → b ≡ true → b ≡ false → ⊥
true_no_false b e f = cc

pub tables-requires-clause-names : goal.tables-requires-clause-names
tables-requires-clause-names c = pair_has_slot_names c.see.ensures.pair.0 c.args.two.now c.see.ensures.pair.1

pub tables-requires-clause-distinct : goal.tables-requires-clause-distinct
tables-requires-clause-distinct c = pair_has_distinct_slots c.see.ensures.pair.0 c.args.two.now c.see.ensures.pair.1 c.requires.sound.built.slots

pub lines-init : goal.lines-init
lines-init c =
    let p = c.args.two.now in
    let r = c.in_ok-reader.reader in
    record {
      kept = new_kept p r c.in_ok-reader.ensures;
      read = subst (λ (z : List ℕ). IsRead p c.args.doc.now z 0 (state p r)) (sym c.as_slice-rest.ensures) (read_none p c.args.doc.now (state p r) (new_state p r c.in_ok-reader.ensures));
    }

pub returns-in_default-clause-bad : goal.returns-in_default-clause-bad
returns-in_default-clause-bad c =
    let more : c.is_empty.result ≡ false = search (rules) in
    let first = some_first c.lines.rest.now (λ none. true_no_false _ ((empty_test c.is_empty.result c.lines.rest.now c.is_empty.ensures).1 none) more) in
    bad_line c.see.ensures.pair.0 c.args.two.now c.see.ensures.pair.1 c.requires.sound c.args.doc.now c.lines.rest.now first.front first.rest c.lines.number (c.lines.number + 1) _ c.lines.invariant.read
    first.is ((rw c.in_default.is at c.in_ok-more.ensures) first.front first.rest first.is) (add-one c.lines.number)

pub lines-preserved : goal.lines-preserved
lines-preserved c =
    let read = rw c.in-Some.is at c.in_ok-more.ensures in
    let at = read.0 in
    let p = c.args.two.now in
    record {
      kept = subst (λ n. IsKept p n c.read.new.self) (sym (add-one c.lines.number)) read.1;
      read = subst (λ n. IsRead p c.args.doc.now c.in-Some.more.now n (state p c.read.new.self)) (sym (add-one c.lines.number))
          (read_more p c.args.doc.now c.lines.rest.now at.front c.in-Some.more.now c.lines.number _ _ c.lines.invariant.read at.first (first_shorter c.lines.rest.now at.front c.in-Some.more.now at.first) at.goes);
    }

pub returns-in-Some-root-clause-tree : goal.returns-in-Some-root-clause-tree
returns-in-Some-root-clause-tree c =
    let p = c.args.two.now in
    let over : c.is_empty.result ≡ true = search (rules) in
    let none : c.lines.rest.now ≡ [] = (empty_test c.is_empty.result c.lines.rest.now c.is_empty.ensures).0 over in
    subst (λ (t : Common). IsOutline p c.args.doc.now t) (finished c.lines.reader c.finish.result c.in-Some-root.root c.finish.ensures.parts c.finish.ensures.root)
    (read_whole c.see.ensures.pair.0 p c.see.ensures.pair.1 c.requires.sound c.args.doc.now c.lines.rest.now c.lines.number _ _ c.lines.invariant.read none (whole_state p c.lines.reader c.in-Some-root.root c.in-Some-root.is))

pub returns-in-Some-root-clause-fits : goal.returns-in-Some-root-clause-fits
returns-in-Some-root-clause-fits c = outline_fits c.args.two.now (pair_has_slot_names c.see.ensures.pair.0 c.args.two.now c.see.ensures.pair.1) c.args.doc.now (common_of c.finish.result) (returns-in-Some-root-clause-tree c)

pub returns-clause-bad : goal.returns-clause-bad
returns-clause-bad c =
    let over : c.is_empty.result ≡ true = search (rules) in
    let none : c.lines.rest.now ≡ [] = (empty_test c.is_empty.result c.lines.rest.now c.is_empty.ensures).0 over in
    bad_end c.see.ensures.pair.0 c.args.two.now c.see.ensures.pair.1 c.requires.sound c.args.doc.now c.lines.rest.now c.lines.number (c.lines.number + 1) _ c.lines.invariant.read none (λ t is. not_whole c.args.two.now c.lines.reader c.in-None.is t is) (add-one c.lines.number)
