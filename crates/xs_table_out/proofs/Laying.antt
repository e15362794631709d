-- The steps of productions are laid out one after another.
use Rattle.std.proofs.Common.{◌≡◌, ℕ, zero, suc, add-one, drop-cons, None, ◌+◌, ◌-◌, ◌<◌, ◌≤◌, inl, inr, List, [], ◌∷◌, ◌++◌, length, map, take, drop, Some, sym, ◌∙◌, ap, subst, arith, length-append}
use Rattle.std.specs.Prelude.{slice_get, slice_range}
use Rattle.std.proofs.lemmas.List.{drop_all, drop-append-le, drop-take, length-take, take-append-le, take_all}
use Rattle.std.proofs.lemmas.Option.{get_or_from_slice_get, slice_get_within}
use Rattle.xs_class.proofs.Lists.{get_push, get_taken}
use Rattle.xs_gram.specs.Grammar.{Grammar, items}
use Rattle.xs_gram.specs.Common.{spelling}
use Rattle.xs_text_out.specs.declared.pieces.Piece.{Piece}
use Rattle.xs_table_out.specs.declared.steps.StepRow.{StepRow}
use Rattle.xs_text_out.specs.Pieces.{pieces_word}
use Rattle.xs_table_out.specs.declared.steps.Step.{Step}
use Rattle.xs_table_out.specs.Steps.{AreStepRows, IsStepRow, step_of}

-- a stretch of a list
pub stretch_is : {X : Type 0} (xs : List X) (at to : ℕ) → at ≤ to → slice_range xs at to ≡ drop at (take to xs)
stretch_is xs at to le =
    let e : at + (to - at) ≡ to = omega (arith, le) in
    sym (drop-take at (to - at) xs) ∙ ap (λ n. drop at (take n xs)) e

pub no_stretch : {X : Type 0} (xs : List X) (at to : ℕ) → to < at → drop at (take to xs) ≡ []
no_stretch xs at to lt =
    let long = length-take to xs in
    drop_all at (take to xs) (omega (arith, long, lt))

-- an empty stretch
pub empty_stretch : {X : Type 0} (xs : List X) (at to : ℕ) → to ≤ at → slice_range xs at to ≡ []
empty_stretch xs at to le =
    let e : to - at ≡ 0 = omega (arith, le) in
    ap (λ n. take n (drop at xs)) e

-- the next of the elements up to a place
pub next_is : {X : Type 0} (all : List X) (place end : ℕ) (x : X) → slice_get all place ≡ Some x → place < end → drop place (take end all) ≡ x ∷ drop (place + 1) (take end all)
next_is {X} all place end x is lt =
    let there : slice_get (take end all) place ≡ Some x = get_taken all end place x lt is in
    drop-cons (take end all) place x (slice_get_within (take end all) place x there)
    ∙ ap (λ (y : X). y ∷ drop (suc place) (take end all)) (get_or_from_slice_get (take end all) place x x there) ∙ ap (λ n. x ∷ drop n (take end all)) (sym (add-one place))

none_some : {X : Type 0} (x : X) → None ≡ Some x → ⊥
none_some x e = cc

past_last : {X : Type 0} (xs : List X) (k : ℕ) → None ≡ slice_get xs k → length xs ≤ k
past_last [] k is = omega arith
past_last (x ∷ xs) zero is = absurd (none_some x is)
past_last (x ∷ xs) (suc k) is = let rest = past_last xs k is in omega arith

-- none is left where none stands
pub none_left : {X : Type 0} (all : List X) (place end : ℕ) → None ≡ slice_get all place → drop place (take end all) ≡ []
none_left all place end is =
    let long = length-take end all in
    let le = past_last all place is in
    drop_all place (take end all) (omega (arith, long, le))

pub past_end : {X : Type 0} (all : List X) (place end : ℕ) → end ≤ place → drop place (take end all) ≡ []
past_end all place end le =
    let long = length-take end all in
    drop_all place (take end all) (omega (arith, long, le))

-- a row stays as it is where the list goes on
row_stays : (g h : Grammar) (text : List ℕ) (all more : List Step) (p : ℕ) (row : StepRow) → IsStepRow g h text all p row → IsStepRow g h text (all ++ more) p row
row_stays g h text all more p row is = record {
  there = let l = length-append all more in omega (arith, is.there, l);
  pieces = is.pieces;
  prints = is.prints;
  steps_are = ap (drop row.begin) (take-append-le row.end all more is.there) ∙ is.steps_are;
}

-- one more row
pub rows_push : (g h : Grammar) (text : List ℕ) (all new : List Step) (rows next : List StepRow) (begin end : ℕ) (pieces : List Piece) → AreStepRows g h text all rows → ((at : ℕ → List ℕ) → pieces_word text pieces at ≡ spelling h (items h (length rows)) at) → new ≡ all ++ map (step_of (items g (length rows))) pieces → begin ≡ length all → end ≡ length new → next ≡ rows ++ record { begin = begin; end = end } ∷ [] → AreStepRows g h text new next
rows_push g h text all new rows next begin end pieces are prints new_is begin_is end_is next_is p row there =
    let last : StepRow = record { begin = begin; end = end } in
    let more : List Step = map (step_of (items g (length rows))) pieces in
    let steps : drop begin (take end new) ≡ map (step_of (items g (length rows))) pieces =
    ap (drop begin) (take_all end new (omega (arith, end_is))) ∙ ap (drop begin) new_is ∙ drop-append-le begin all more (omega (arith, begin_is))
    ∙ ap (λ (l : List Step). l ++ map (step_of (items g (length rows))) pieces) (drop_all begin all (omega (arith, begin_is))) in
    let is_last : IsStepRow g h text new (length rows) last = record {
      there = omega (arith, end_is);
      pieces = pieces;
      prints = prints;
      steps_are = steps;
    } in
    let found : slice_get (rows ++ last ∷ []) p ≡ Some row = ap (λ (l : List StepRow). slice_get l p) (sym next_is) ∙ there in
    elim (get_push rows last row p found) [
      | inl old ↦ subst (λ (l : List Step). IsStepRow g h text l p row) (sym new_is) (row_stays g h text all more p row (are p row old))
      | inr latest ↦ subst (λ (n : ℕ). IsStepRow g h text new n row) (sym latest.0) (subst (λ (r : StepRow). IsStepRow g h text new (length rows) r) latest.1 is_last)
    ]
