-- What productions print, as pieces: what is put next prints next, and what was put stays.
use Rattle.std.proofs.Common.{◌≡◌, inl, inr, ℕ, zero, suc, ◌+◌, ◌<◌, ◌≤◌, List, [], ◌∷◌, ◌++◌, length, take, drop, get_or, Option, None, Some, slice_get, refl, sym, ◌∙◌, ap, subst, arith, add-one, drop-cons, append_assoc, length-append}
use Rattle.std.proofs.lemmas.List.{append-nil, drop_all, drop-append-le, take-append-le, take_all, take_rest}
use Rattle.xs_class.proofs.Lists.{get_push, some_inj}
use Rattle.xs_gram.specs.declared.parts.GItem.{GItem}
use Rattle.xs_gram.specs.Common.{spelling}
use Rattle.xs_gram.specs.Grammar.{Grammar, items}
use Rattle.xs_text_out.specs.declared.pieces.Piece.{Piece}
use Rattle.xs_text_out.specs.declared.pieces.Row.{Row}
use Rattle.xs_text_out.specs.Pieces.{AreRows, AreWithin, GoesOn, IsClosed, IsPut, IsRow, IsRowPut, IsWithin, end_word, open_word, piece_to, piece_word, pieces_word, row_pieces}
use Rattle.xs_text_out.specs.Printed.{item_word}
use Rattle.xs_tree.proofs.Rows.{slice_append}
use Rattle.xs_text_out.proofs.Words.{spelling_first}

pub on_none : {X : Type 0} (xs : List X) → GoesOn xs xs
on_none xs = ([], sym (append-nil xs))

pub on_all : {X : Type 0} (xs ys zs : List X) → GoesOn xs ys → GoesOn ys zs → GoesOn xs zs
on_all {X} xs ys zs (a, e) (b, h) = (a ++ b, h ∙ ap (λ (l : List X). l ++ b) e ∙ append_assoc xs a b)

pub on_longer : {X : Type 0} (xs ys : List X) → GoesOn xs ys → length xs ≤ length ys
on_longer xs ys (a, e) = let n = ap length e in omega (arith, n, length-append xs a)

-- pieces after others
pieces_append : (text : List ℕ) (ps qs : List Piece) (at : ℕ → List ℕ) → pieces_word text (ps ++ qs) at ≡ pieces_word text ps at ++ pieces_word text qs at
pieces_append text [] qs at = refl
pieces_append text (p ∷ ps) qs at = ap (λ w. piece_word text p at ++ w) (pieces_append text ps qs at) ∙ sym (append_assoc (piece_word text p at) (pieces_word text ps at) (pieces_word text qs at))

-- a longer text
piece_grows : (text more : List ℕ) (p : Piece) (at : ℕ → List ℕ) → IsWithin text p → piece_word (text ++ more) p at ≡ piece_word text p at
piece_grows text more p at is = ap (λ w. w ++ end_word p.slot at) (slice_append text more p.begin p.end is.risen is.within)

pieces_grow : (text more : List ℕ) (ps : List Piece) (at : ℕ → List ℕ) → AreWithin text ps → pieces_word (text ++ more) ps at ≡ pieces_word text ps at
pieces_grow text more [] at are = refl
pieces_grow text more (p ∷ ps) at are =
    ap (λ w. w ++ pieces_word (text ++ more) ps at) (piece_grows text more p at are.0) ∙ ap (λ w. piece_word text p at ++ w) (pieces_grow text more ps at are.1)

pub within_grows : (text more : List ℕ) (ps : List Piece) → AreWithin text ps → AreWithin (text ++ more) ps
within_grows text more [] are = tt
within_grows text more (p ∷ ps) are =
    (record { risen = are.0.risen; within = omega (arith, are.0.within, length-append text more) }, within_grows text more ps are.1)

within_on : (text longer : List ℕ) (ps : List Piece) → GoesOn text longer → AreWithin text ps → AreWithin longer ps
within_on text longer ps (more, e) are = subst (λ (t : List ℕ). AreWithin t ps) (sym e) (within_grows text more ps are)

within_push : (text : List ℕ) (ps : List Piece) (p : Piece) → AreWithin text ps → IsWithin text p → AreWithin text (ps ++ p ∷ [])
within_push text [] p are is = (is, tt)
within_push text (q ∷ ps) p are is = (are.0, within_push text ps p are.1 is)

within_drop : (text : List ℕ) (n : ℕ) (ps : List Piece) → AreWithin text ps → AreWithin text (drop n ps)
within_drop text zero ps are = are
within_drop text (suc n) [] are = tt
within_drop text (suc n) (p ∷ ps) are = within_drop text n ps are.1

within_take : (text : List ℕ) (n : ℕ) (ps : List Piece) → AreWithin text ps → AreWithin text (take n ps)
within_take text zero ps are = tt
within_take text (suc n) [] are = tt
within_take text (suc n) (p ∷ ps) are = (are.0, within_take text n ps are.1)

pub within_at : (text : List ℕ) (ps : List Piece) (k : ℕ) (p : Piece) → AreWithin text ps → slice_get ps k ≡ Some p → IsWithin text p
within_at text [] k p are e = cc
within_at text (q ∷ ps) zero p are e = subst (IsWithin text) (some_inj q p e) are.0
within_at text (q ∷ ps) (suc k) p are e = within_at text ps k p are.1 e

-- text of an item goes to the end of the text
pub text_put : (g : Grammar) (item : GItem) (begin : ℕ) (ps : List Piece) (text w longer : List ℕ) → begin ≤ length text → AreWithin text ps → longer ≡ text ++ w → ((at : ℕ → List ℕ) → item_word g item at ≡ w) → IsPut g item begin begin ps text ps longer
text_put g item begin ps text w longer starts are is prints = record {
  pieces_on = on_none ps;
  text_on = (w, is);
  starts = omega (arith, starts, ap length is, length-append text w);
  within = within_on text longer ps (w, is) are;
  prints = λ from at le.
      ap (λ (t : List ℕ). open_word t ps from begin at) is
      ∙ ap (λ l. l ++ drop begin (text ++ w)) (pieces_grow text w (drop from ps) at (within_drop text from ps are))
      ∙ ap (λ l. pieces_word text (drop from ps) at ++ l) (drop-append-le begin text w starts)
      ∙ sym (append_assoc (pieces_word text (drop from ps) at) (drop begin text) w)
      ∙ ap (λ l. open_word text ps from begin at ++ l) (sym (prints at));
}

-- a last piece with the text that no piece has yet
pushed_word : (text : List ℕ) (ps : List Piece) (from begin : ℕ) (slot : Option ℕ) (at : ℕ → List ℕ) → from ≤ length ps → pieces_word text (drop from (ps ++ piece_to text begin slot ∷ [])) at ≡ open_word text ps from begin at ++ end_word slot at
pushed_word text ps from begin slot at le =
    let p : Piece = piece_to text begin slot in
    ap (λ (l : List Piece). pieces_word text l at) (drop-append-le from ps (p ∷ []) le)
    ∙ pieces_append text (drop from ps) (p ∷ []) at
    ∙ ap (λ w. pieces_word text (drop from ps) at ++ w) (append-nil (piece_word text p at))
    ∙ ap (λ w. pieces_word text (drop from ps) at ++ (w ++ end_word slot at)) (take_rest text begin)
    ∙ sym (append_assoc (pieces_word text (drop from ps) at) (drop begin text) (end_word slot at))

within_to : (text : List ℕ) (ps : List Piece) (begin : ℕ) (slot : Option ℕ) → begin ≤ length text → AreWithin text ps → AreWithin text (ps ++ piece_to text begin slot ∷ [])
within_to text ps begin slot starts are = within_push text ps (piece_to text begin slot) are (record { risen = starts; within = omega arith })

-- a piece ends with the slot of an item
pub slot_put : (g : Grammar) (item : GItem) (begin next slot : ℕ) (ps more : List Piece) (text : List ℕ) → begin ≤ length text → AreWithin text ps → next ≡ length text → more ≡ ps ++ piece_to text begin (Some slot) ∷ [] → ((at : ℕ → List ℕ) → item_word g item at ≡ at slot) → IsPut g item begin next ps text more text
slot_put g item begin next slot ps more text starts are long is prints =
    let p : Piece = piece_to text begin (Some slot) in
    record {
      pieces_on = (p ∷ [], is);
      text_on = on_none text;
      starts = omega (arith, long);
      within = subst (AreWithin text) (sym is) (within_to text ps begin (Some slot) starts are);
      prints = λ from at le.
          ap (λ (l : List Piece). open_word text l from next at) is
          ∙ ap (λ w. pieces_word text (drop from (ps ++ p ∷ [])) at ++ w) (drop_all next text (omega (arith, long)))
          ∙ append-nil (pieces_word text (drop from (ps ++ p ∷ [])) at)
          ∙ pushed_word text ps from begin (Some slot) at le
          ∙ ap (λ w. open_word text ps from begin at ++ w) (sym (prints at));
    }

-- the text that no piece has yet has one
pub rest_closed : (begin : ℕ) (ps more : List Piece) (text : List ℕ) → begin ≤ length text → AreWithin text ps → more ≡ ps ++ piece_to text begin None ∷ [] → IsClosed begin text ps more
rest_closed begin ps more text starts are is =
    record {
      pieces_on = (piece_to text begin None ∷ [], is);
      within = subst (AreWithin text) (sym is) (within_to text ps begin None starts are);
      prints = λ from at le.
          ap (λ (l : List Piece). pieces_word text (drop from l) at) is
          ∙ pushed_word text ps from begin None at le ∙ append-nil (open_word text ps from begin at);
    }

-- no text is without a piece
pub none_closed : (begin : ℕ) (ps : List Piece) (text : List ℕ) → length text ≤ begin → AreWithin text ps → IsClosed begin text ps ps
none_closed begin ps text le are = record {
  pieces_on = on_none ps;
  within = are;
  prints = λ from at lt.
      sym (append-nil (pieces_word text (drop from ps) at)) ∙ ap (λ w. pieces_word text (drop from ps) at ++ w) (sym (drop_all begin text le));
}

-- one more item is put
pub items_put : (g : Grammar) (is : List GItem) (i : ℕ) (item : GItem) (from begin next : ℕ) (ps more : List Piece) (text longer : List ℕ) (at : ℕ → List ℕ) → i < length is → item ≡ get_or is i item → from ≤ length ps → IsPut g item begin next ps text more longer → open_word text ps from begin at ++ spelling g (drop i is) at ≡ spelling g is at → open_word longer more from next at ++ spelling g (drop (i + 1) is) at ≡ spelling g is at
items_put g is i item from begin next ps more text longer at lt read le put so_far =
    let rest = spelling g (drop (suc i) is) at in
    ap (λ n. open_word longer more from next at ++ spelling g (drop n is) at) (add-one i)
    ∙ ap (λ w. w ++ rest) (put.prints from at le)
    ∙ append_assoc (open_word text ps from begin at) (item_word g item at) rest
    ∙ ap (λ w. open_word text ps from begin at ++ w) (sym (ap (λ l. spelling g l at) (drop-cons is i item lt ∙ ap (λ (x : GItem). x ∷ drop (suc i) is) (sym read)) ∙ spelling_first g item (drop (suc i) is) at))
    ∙ so_far

-- before any item is put
pub nothing_put : (g : Grammar) (is : List GItem) (ps : List Piece) (text : List ℕ) (from begin : ℕ) (at : ℕ → List ℕ) → from ≡ length ps → begin ≡ length text → open_word text ps from begin at ++ spelling g is at ≡ spelling g is at
nothing_put g is ps text from begin at none nothing =
    let pieces : drop from ps ≡ [] = drop_all from ps (omega (arith, none)) in
    let rest : drop begin text ≡ [] = drop_all begin text (omega (arith, nothing)) in
    ap (λ (l : List Piece). (pieces_word text l at ++ drop begin text) ++ spelling g is at) pieces ∙ ap (λ w. w ++ spelling g is at) rest

-- all items are put
pub row_put : (g : Grammar) (is : List GItem) (i from begin : ℕ) (old ps more : List Piece) (first text : List ℕ) → length is ≤ i → from ≡ length old → GoesOn old ps → GoesOn first text → ((at : ℕ → List ℕ) → open_word text ps from begin at ++ spelling g (drop i is) at ≡ spelling g is at) → IsClosed begin text ps more → IsRowPut g is old first more text
row_put g is i from begin old ps more first text le at_old pieces_on text_on so_far closed = record {
  pieces_on = on_all old ps more pieces_on closed.pieces_on;
  text_on = text_on;
  within = closed.within;
  prints = λ at.
      let long = on_longer old ps pieces_on in
      ap (λ n. pieces_word text (drop n more) at) (sym at_old) ∙ closed.prints from at (omega (arith, at_old, long))
      ∙ sym (append-nil (open_word text ps from begin at)) ∙ ap (λ (l : List GItem). open_word text ps from begin at ++ spelling g l at) (sym (drop_all i is le)) ∙ so_far at;
}

-- a row stays as it is
row_stays : (g : Grammar) (text longer : List ℕ) (all more : List Piece) (p : ℕ) (row : Row) → GoesOn text longer → GoesOn all more → AreWithin text all → IsRow g text all p row → IsRow g longer more p row
row_stays g text longer all more p row (w, e) (ps, h) are is =
    let same : take row.end more ≡ take row.end all = ap (take row.end) h ∙ take-append-le row.end all ps is.there in
    record {
      there = omega (arith, is.there, ap length h, length-append all ps);
      prints = λ at.
          ap (λ (l : List Piece). pieces_word longer (drop row.begin l) at) same
          ∙ ap (λ (t : List ℕ). pieces_word t (row_pieces all row) at) e
          ∙ pieces_grow text w (row_pieces all row) at (within_drop text row.begin (take row.end all) (within_take text row.end all are)) ∙ is.prints at;
    }

-- the row of the next production
pub rows_put : (g : Grammar) (text longer : List ℕ) (all more : List Piece) (rows next : List Row) (is : List GItem) (begin end : ℕ) → AreRows g text all rows → AreWithin text all → is ≡ items g (length rows) → IsRowPut g is all text more longer → begin ≡ length all → end ≡ length more → next ≡ rows ++ record { begin = begin; end = end } ∷ [] → AreRows g longer more next
rows_put g text longer all more rows next is begin end are within its put begin_is end_is next_is p row there =
    let last : Row = record { begin = begin; end = end } in
    let is_last : IsRow g longer more (length rows) last = record {
      there = omega (arith, end_is);
      prints = λ at.
          ap (λ (l : List Piece). pieces_word longer (drop begin l) at) (take_all end more (omega (arith, end_is)))
          ∙ ap (λ n. pieces_word longer (drop n more) at) begin_is ∙ put.prints at ∙ ap (λ (l : List GItem). spelling g l at) its;
    } in
    let found : slice_get (rows ++ last ∷ []) p ≡ Some row = ap (λ (l : List Row). slice_get l p) (sym next_is) ∙ there in
    elim (get_push rows last row p found) [
      | inl old ↦ row_stays g text longer all more p row put.text_on put.pieces_on within (are p row old)
      | inr latest ↦ subst (λ (n : ℕ). IsRow g longer more n row) (sym latest.0) (subst (λ (r : Row). IsRow g longer more (length rows) r) latest.1 is_last)
    ]
