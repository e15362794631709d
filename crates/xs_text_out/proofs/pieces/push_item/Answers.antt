use Rattle.std.proofs.Common.{◌++◌, ◌∙◌, ◌∷◌, [], ℕ, List, Some, length, ap}
use Rattle.xs_gram.specs.Grammar.{normal_word}
use Rattle.xs_gram.specs.declared.parts.GItem.{GItem}
use Rattle.xs_text_out.specs.Pieces.{piece_to}
use Rattle.xs_text_out.specs.Printed.{item_word}
use Rattle.xs_text_out.proofs.Laying.{slot_put, text_put}
use Rattle.xs_text_out.proofs.pieces.push_item.Goals as goal

pub returns-in_ok-extend_from_slice-in-Fixed : goal.returns-in_ok-extend_from_slice-in-Fixed
returns-in_ok-extend_from_slice-in-Fixed c =
    let g = c.args.g.now in
    text_put g c.args.item.now c.args.begin c.args.all.now.items c.args.text.now.items c.in-Fixed.word c.extend_from_slice.new.self.items c.requires.starts c.requires.within
    (c.in_ok-extend_from_slice-in-Fixed.ensures.items ∙ ap (λ (l : List ℕ). c.args.text.now.items ++ l) c.as_slice.ensures) (λ at. ap (λ (i : GItem). item_word g i at) c.in-Fixed.is)

pub returns-in_ok-extend_from_slice-in-Skip : goal.returns-in_ok-extend_from_slice-in-Skip
returns-in_ok-extend_from_slice-in-Skip c =
    let g = c.args.g.now in
    text_put g c.args.item.now c.args.begin c.args.all.now.items c.args.text.now.items (normal_word g c.in-Skip.skip) c.extend_from_slice-in-Skip.new.self.items c.requires.starts c.requires.within
    (c.in_ok-extend_from_slice-in-Skip.ensures.items ∙ ap (λ (l : List ℕ). c.args.text.now.items ++ l) (c.as_slice-in-Skip.ensures ∙ c.normal.ensures)) (λ at. ap (λ (i : GItem). item_word g i at) c.in-Skip.is)

pub returns-in_ok-end-in-Term : goal.returns-in_ok-end-in-Term
returns-in_ok-end-in-Term c =
    let g = c.args.g.now in
    slot_put g c.args.item.now c.args.begin c.in_ok-end-in-Term.end c.in-Term.slot c.args.all.now.items c.end_piece.new.all.items c.args.text.now.items c.requires.starts c.requires.within
    (c.in_ok-end-in-Term.ensures.end ∙ ap length c.deref.ensures.value) (c.in_ok-end-in-Term.ensures.put ∙ ap (λ (t : List ℕ). c.args.all.now.items ++ piece_to t c.args.begin (Some c.in-Term.slot) ∷ []) c.deref.ensures.value)
    (λ at. ap (λ (i : GItem). item_word g i at) c.in-Term.is)

pub returns-in_ok-end-in-Non : goal.returns-in_ok-end-in-Non
returns-in_ok-end-in-Non c =
    let g = c.args.g.now in
    slot_put g c.args.item.now c.args.begin c.in_ok-end-in-Non.end c.in-Non.slot c.args.all.now.items c.end_piece-in-Non.new.all.items c.args.text.now.items c.requires.starts c.requires.within
    (c.in_ok-end-in-Non.ensures.end ∙ ap length c.deref-in-Non.ensures.value) (c.in_ok-end-in-Non.ensures.put ∙ ap (λ (t : List ℕ). c.args.all.now.items ++ piece_to t c.args.begin (Some c.in-Non.slot) ∷ []) c.deref-in-Non.ensures.value)
    (λ at. ap (λ (i : GItem). item_word g i at) c.in-Non.is)
