use Rattle.std.proofs.Common.{ℕ, ◌∷◌, [], refl, ap}
use Rattle.std.proofs.lemmas.List.{get_or_read}
use Rattle.xs_coarse_net.specs.Going.{goes_none}
use Rattle.xs_coarse_net.proofs.Going.{goes_as}
use Rattle.xs_coarse_net.proofs.Leaving.{placed_none, placed_on, word_more}
use Rattle.xs_coarse_net.proofs.pieces.add_word.Goals as goal

pub symbols-init : goal.symbols-init
symbols-init c = record { placed = placed_none c.args.net.now c.len-states.ensures.within; goes = goes_none }

pub symbols-preserved : goal.symbols-preserved
symbols-preserved c =
    let w = c.args.word.now in
    let i = c.symbols.symbol-index in
    let one = c.in_ok-add_symbol.ensures in
    let is = get_or_read w i c.symbol-item.result c.symbols-test.true c.symbol-item.is 0 in
    record {
      placed = placed_on c.symbols.invariant.placed one.placed;
      goes = word_more c.args.site.now.labels.now c.args.net.now c.symbols.net c.add_symbol.new.net w i c.symbols-test.true c.symbols.invariant.goes one.placed (goes_as refl (ap (λ (s : ℕ). s ∷ []) is) refl one.goes);
    }
