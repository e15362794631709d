use Rattle.std.proofs.Common.{◌≡◌, ℕ, List, [], ◌∷◌, ◌++◌, length, length-append, sym, ap, arith, ◌∙◌}
use Rattle.xs_regex.specs.Automaton.{begins, goes}
use Rattle.xs_cover.proofs.Ways.{follow_below, is_next, some_next}
use Rattle.xs_cover.proofs.words.word_from.Goals as goal

pub push_symbol-requires-clause-position : goal.push_symbol-requires-clause-position
push_symbol-requires-clause-position c = c.requires.formed.first_in c.args.first c.requires.first

pub push_symbol-requires-clause-symbol : goal.push_symbol-requires-clause-symbol
push_symbol-requires-clause-symbol c = c.requires.rests.symbols c.args.first c.requires.near (c.requires.formed.first_in c.args.first c.requires.first)

pub positions-init : goal.positions-init
positions-init c =
    let pushed = c.in_ok-push_symbol.ensures in
    let is : c.push_symbol.new.word ≡ pushed.0 ∷ [] = pushed.2 ∙ ap (λ (w : List ℕ). w ++ pushed.0 ∷ []) c.new-word.ensures in
    record {
      run = begins pushed.0 c.requires.first pushed.1 is;
      within = c.requires.formed.first_in c.args.first c.requires.first;
      near = c.requires.near;
      short = omega (arith, ap length is);
    }

pub lowest-requires : goal.lowest-requires
lowest-requires c = follow_below c.args.automaton.now c.positions.position (length c.args.rests.now) c.followers.result.now c.requires.formed (sym c.requires.rests.counted) c.followers.ensures

pub unreachable-requires : goal.unreachable-requires
unreachable-requires c = some_next c.args.automaton.now c.args.rests.now c.positions.position c.followers.result.now c.requires.rests c.positions.invariant.within c.positions.invariant.near c.positions-test.true c.followers.ensures c.in_default.ensures

pub push_symbol-requires-in-positions-clause-position : goal.push_symbol-requires-in-positions-clause-position
push_symbol-requires-in-positions-clause-position c = (is_next c.args.automaton.now c.args.rests.now c.positions.position c.in-Some.next c.followers.result.now c.requires.formed c.requires.rests c.positions.invariant.within c.positions.invariant.near c.positions-test.true c.followers.ensures c.in-Some.ensures).within

pub push_symbol-requires-in-positions-clause-symbol : goal.push_symbol-requires-in-positions-clause-symbol
push_symbol-requires-in-positions-clause-symbol c =
    let next = is_next c.args.automaton.now c.args.rests.now c.positions.position c.in-Some.next c.followers.result.now c.requires.formed c.requires.rests c.positions.invariant.within c.positions.invariant.near c.positions-test.true c.followers.ensures c.in-Some.ensures in
    c.requires.rests.symbols c.in-Some.next (omega (arith, next.less, c.positions.invariant.near)) next.within

pub positions-smaller : goal.positions-smaller
positions-smaller c = (is_next c.args.automaton.now c.args.rests.now c.positions.position c.in-Some.next c.followers.result.now c.requires.formed c.requires.rests c.positions.invariant.within c.positions.invariant.near c.positions-test.true c.followers.ensures c.in-Some.ensures).less

pub positions-preserved : goal.positions-preserved
positions-preserved c =
    let known = c.positions.invariant in
    let next = is_next c.args.automaton.now c.args.rests.now c.positions.position c.in-Some.next c.followers.result.now c.requires.formed c.requires.rests c.positions.invariant.within c.positions.invariant.near c.positions-test.true c.followers.ensures c.in-Some.ensures in
    let pushed = c.in_ok-push_symbol-2.ensures in
    record {
      run = goes c.positions.word c.positions.position pushed.0 known.run next.leads pushed.1 pushed.2;
      within = next.within;
      near = omega (arith, next.less, known.near);
      short = omega (arith, ap length pushed.2, length-append c.positions.word (pushed.0 ∷ []), next.less, known.short);
    }
