use Rattle.std.proofs.Common.{◌<◌, ◌∙◌, length, arith}
use Rattle.std.proofs.lemmas.List.{get_or_read}
use Rattle.xs_gram.specs.Grammar.{items}
use Rattle.xs_text_out.specs.Printed.{slot_word}
use Rattle.xs_text_out.proofs.Sharing.{node_counted_by}
use Rattle.xs_text_out.proofs.lengths.node_length.Goals as goal

pub returns : goal.returns
returns c trees are =
    let g = c.args.g.now in
    let p = c.args.production in
    let known = c.requires.shares in
    let there : p < length g.rules = omega arith in
    let own = get_or_read c.args.shares.now.owns.items p c.index-own.result.now (omega (arith, there, known.owns_counted)) c.index-own.ensures 0 ∙ known.owns p there in
    node_counted_by g (items g p) (slot_word g trees c.args.kids.now) c.index-own.result.now c.children_length.result c.list.result.now own (c.list.ensures ∙ known.slots_are p there) (c.children_length.ensures g trees are)
