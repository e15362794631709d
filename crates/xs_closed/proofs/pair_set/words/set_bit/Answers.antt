use Rattle.std.proofs.Common.{◌∙◌, ◌+◌, ◌*◌, ◌/◌, ◌%◌, not, nat_eq, refl, ap}
use Rattle.std.specs.Int.{bit_at}
use Rattle.std.proofs.lemmas.List.{get_or_read}
use Rattle.xs_auto.proofs.BitLemmas.{fresh_bit}
use Rattle.xs_closed.proofs.pair_set.words.set_bit.Goals as goal

pub returns-clause-words : goal.returns-clause-words
returns-clause-words c =
    let word = get_or_read c.args.words.now.items (c.args.row * c.args.step + c.args.column / 64) c.index-word.result.now c.requires c.index-word.ensures 0 in
    rw word refl

pub returns-clause-fresh : goal.returns-clause-fresh
returns-clause-fresh c =
    let word = get_or_read c.args.words.now.items (c.args.row * c.args.step + c.args.column / 64) c.index-word.result.now c.requires c.index-word.ensures 0 in
    fresh_bit c.index-word.result.now (c.args.column % 64) ∙ ap (λ w. not (nat_eq (bit_at w (c.args.column % 64)) 1)) word
