use Rattle.std.proofs.Common.{◌≡◌, ◌<◌, ℕ, length, subst, arith, Contains, List, ◌∙◌}
use Rattle.std.proofs.Math.ListN.{length-set}
use Rattle.xs_cover.specs.Tables.{at}
use Rattle.xs_cover.proofs.Ways.{contains_at, ends_set, low_set, symbols_set, onward_set, all_ends}
use Rattle.xs_cover.proofs.words.ends_of.Goals as goal

in_last : (last row : List ℕ) (i : ℕ) → row ≡ last → i < length row → Contains last (at row i)
in_last last row i e h = subst (λ xs. Contains xs (at row i)) e (contains_at row i h)

pub returns : goal.returns
returns c =
    let known = c.ends.invariant in
    record {
      counted = known.counted;
      low = known.low;
      symbols = known.symbols;
      ends = all_ends c.args.automaton.now c.ends.rests.items c.as_slice-position-items.result.now c.ends.position-index c.as_slice-position-items.ensures (omega arith) known.ends;
      onward = known.onward;
    }

pub has_symbol-requires : goal.has_symbol-requires
has_symbol-requires c =
    let row = c.as_slice-position-items.result.now in
    c.requires.last_in (at row c.ends.position-index) (in_last c.args.automaton.now.last row c.ends.position-index c.as_slice-position-items.ensures (omega arith))

pub index_mut-requires : goal.index_mut-requires
index_mut-requires c =
    let row = c.as_slice-position-items.result.now in
    let low : at row c.ends.position-index < length c.args.automaton.now.classes = c.requires.last_in (at row c.ends.position-index) (in_last c.args.automaton.now.last row c.ends.position-index c.as_slice-position-items.ensures (omega arith)) in
    omega (arith, low, c.ends.invariant.counted)

pub ends-preserved : goal.ends-preserved
ends-preserved c =
    let p = c.args.automaton.now in
    let row = c.as_slice-position-items.result.now in
    let i = c.ends.position-index in
    let rests = c.ends.rests.items in
    let known = c.ends.invariant in
    let last = in_last p.last row i c.as_slice-position-items.ensures (omega arith) in
    let there : at row i < length rests = omega (arith, c.requires.last_in (at row i) last, known.counted) in
    let symbol = c.has_symbol.ensures.some c.if-not-has_symbol.false in
    record {
      counted = length-set rests (at row i) 0 ∙ known.counted;
      low = low_set rests (at row i) there known.low;
      symbols = symbols_set p rests (at row i) there symbol known.symbols;
      ends = ends_set p rests row i (omega arith) there known.ends;
      onward = onward_set p rests (at row i) there last known.onward;
    }
