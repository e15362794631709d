-- A step over a piece, and the rules.
use Rattle.std.proofs.Common.{◌≡◌, ℕ, List, map, Bool, true, false, not, ◌==◌, ◌&&◌, ◌||◌, if◌then◌else◌, None, refl, sym, ◌∙◌, ap, eqb-true}
use Rattle.std.specs.declared.option.Option.{Option}
use Rattle.xs_xml_laws.specs.Tables.{is_white}
use Rattle.xs_xml_laws.specs.Piece.{Piece, Attribute, declaration, character, line_end, reference, start_tag, empty_tag, end_tag, comment, instruction, cdata, is_piece, is_name, are_attributes, distinct, all_of}
use Rattle.xs_xml_laws.specs.Legal.{Spot, ahead, inside, beyond, passed, is_that}
use Rattle.xs_xml_laws.specs.Reads.{symbols, in_order, attribute_symbols}
use Rattle.xs_class.proofs.Truth.{and_true}
use Rattle.xs_form.specs.Attributes.{held}
use Rattle.xs_form.specs.Sorted.{keyed, held_in_order, entry_symbols}
use Rattle.xs_form.specs.Seen.{seen, letter}
use Rattle.xs_form.specs.State.{State, moved, step, is_named}
use Rattle.xs_form.proofs.SortedLaws.{sorted_give}
use Rattle.xs_form.proofs.SettingLaws.{swap}
use Rattle.xs_form.proofs.RuleLaws.{is_declaration, run_after}

-- the piece may not stand here, for the rules on declarations and on ]]>
abbrev pub is_refused : State → Piece → Bool
is_refused st q = (is_declaration q && not st.fresh) || (is_that 62 q && st.run == 2)

abbrev pub next : List (List ℕ) → State → Piece → Option State
next names st q = if is_refused st q then None else moved st (passed st.spot q) (symbols names st.spot q) (run_after st.run q)

return_step : (names : List (List ℕ)) (st : State) (s : Spot) → st.spot ≡ s → step names st (letter 10) ≡ next names st (character 13)
unfolding is_white
return_step names st ahead is = rw is refl
return_step names st (inside m ms) is = rw is refl
return_step names st beyond is = rw is refl

declared_step : (names : List (List ℕ)) (st : State) (as_ : List Attribute) (gap : List ℕ) (s : Spot) (f : Bool) → st.spot ≡ s → st.fresh ≡ f → step names st (seen (declaration as_ gap)) ≡ next names st (declaration as_ gap)
declared_step names st as_ gap ahead true is e = rw (is, e) refl
declared_step names st as_ gap ahead false is e = rw (is, e) refl
declared_step names st as_ gap (inside m ms) true is e = rw (is, e) refl
declared_step names st as_ gap (inside m ms) false is e = rw (is, e) refl
declared_step names st as_ gap beyond true is e = rw (is, e) refl
declared_step names st as_ gap beyond false is e = rw (is, e) refl

letter_step : (names : List (List ℕ)) (st : State) (c : ℕ) (s : Spot) → (c == 13) ≡ false → st.spot ≡ s → step names st (letter c) ≡ next names st (character c)
letter_step names st c ahead other is = rw (is, swap c 62, swap c 93) refl
letter_step names st c (inside m ms) other is = rw (is, other, swap c 62, swap c 93) refl
letter_step names st c beyond other is = rw (is, swap c 62, swap c 93) refl

character_step : (names : List (List ℕ)) (st : State) (c : ℕ) (t : Bool) → (c == 13) ≡ t → step names st (letter (if t then 10 else c)) ≡ next names st (character c)
character_step names st c true e = return_step names st st.spot refl ∙ ap (λ (x : ℕ). next names st (character x)) (sym (eqb-true c 13 e))
character_step names st c false e = letter_step names st c st.spot e refl

line_step : (names : List (List ℕ)) (st : State) (s : Spot) → st.spot ≡ s → step names st (letter 10) ≡ next names st line_end
unfolding is_white
line_step names st ahead is = rw is refl
line_step names st (inside m ms) is = rw is refl
line_step names st beyond is = rw is refl

reference_step : (names : List (List ℕ)) (st : State) (body : List ℕ) (s : Spot) → st.spot ≡ s → step names st (seen (reference body)) ≡ next names st (reference body)
reference_step names st body ahead is = rw is refl
reference_step names st body (inside m ms) is = rw is refl
reference_step names st body beyond is = rw is refl

start_step : (names : List (List ℕ)) (st : State) (n : List ℕ) (as_ : List Attribute) (gap : List ℕ) (s : Spot) → st.spot ≡ s → entry_symbols names (map keyed (held_in_order (map held as_))) ≡ attribute_symbols names (in_order as_) → step names st (seen (start_tag n as_ gap)) ≡ next names st (start_tag n as_ gap)
start_step names st n as_ gap ahead is e = rw (is, e) refl
start_step names st n as_ gap (inside m ms) is e = rw (is, e) refl
start_step names st n as_ gap beyond is e = rw is refl

empty_step : (names : List (List ℕ)) (st : State) (n : List ℕ) (as_ : List Attribute) (gap : List ℕ) (s : Spot) → st.spot ≡ s → entry_symbols names (map keyed (held_in_order (map held as_))) ≡ attribute_symbols names (in_order as_) → step names st (seen (empty_tag n as_ gap)) ≡ next names st (empty_tag n as_ gap)
empty_step names st n as_ gap ahead is e = rw (is, e) refl
empty_step names st n as_ gap (inside m ms) is e = rw (is, e) refl
empty_step names st n as_ gap beyond is e = rw is refl

end_step : (names : List (List ℕ)) (st : State) (n gap : List ℕ) (s : Spot) → st.spot ≡ s → step names st (seen (end_tag n gap)) ≡ next names st (end_tag n gap)
end_step names st n gap ahead is = rw is refl
end_step names st n gap (inside m ms) is = rw is refl
end_step names st n gap beyond is = rw is refl

instruction_step : (names : List (List ℕ)) (st : State) (n body : List ℕ) (s : Spot) → st.spot ≡ s → step names st (seen (instruction n body)) ≡ next names st (instruction n body)
instruction_step names st n body ahead is = rw is refl
instruction_step names st n body (inside m ms) is = rw is refl
instruction_step names st n body beyond is = rw is refl

comment_step : (names : List (List ℕ)) (st : State) (body : List ℕ) (s : Spot) → st.spot ≡ s → step names st (seen (comment body)) ≡ next names st (comment body)
comment_step names st body ahead is = rw is refl
comment_step names st body (inside m ms) is = rw is refl
comment_step names st body beyond is = rw is refl

section_step : (names : List (List ℕ)) (st : State) (body : List ℕ) (s : Spot) → st.spot ≡ s → step names st (seen (cdata body)) ≡ next names st (cdata body)
section_step names st body ahead is = rw is refl
section_step names st body (inside m ms) is = rw is refl
section_step names st body beyond is = rw is refl

tag_are : (n : List ℕ) (as_ : List Attribute) (gap : List ℕ) → is_piece (start_tag n as_ gap) ≡ true → (is_name n ≡ true) × (are_attributes as_ ≡ true)
tag_are n as_ gap is =
    let p = and_true (is_name n) (are_attributes as_ && (distinct as_ && all_of is_white gap)) is in
    (p.0, (and_true (are_attributes as_) (distinct as_ && all_of is_white gap) p.1).0)

-- a step over what is kept of a piece is one over the piece
pub step_is : (names : List (List ℕ)) (st : State) (q : Piece) → is_piece q ≡ true → step names st (seen q) ≡ next names st q
step_is names st (declaration as_ gap) is = declared_step names st as_ gap st.spot st.fresh refl refl
step_is names st (character c) is = character_step names st c (c == 13) refl
step_is names st line_end is = line_step names st st.spot refl
step_is names st (reference body) is = reference_step names st body st.spot refl
step_is names st (start_tag n as_ gap) is = start_step names st n as_ gap st.spot refl (sorted_give names as_ (tag_are n as_ gap is).1)
step_is names st (empty_tag n as_ gap) is = empty_step names st n as_ gap st.spot refl (sorted_give names as_ (tag_are n as_ gap is).1)
step_is names st (end_tag n gap) is = end_step names st n gap st.spot refl
step_is names st (comment body) is = comment_step names st body st.spot refl
step_is names st (instruction n body) is = instruction_step names st n body st.spot refl
step_is names st (cdata body) is = section_step names st body st.spot refl

pub piece_named : (q : Piece) → is_piece q ≡ true → is_named (seen q) ≡ true
piece_named (declaration as_ gap) is = refl
piece_named (character c) is = refl
piece_named line_end is = refl
piece_named (reference body) is = refl
piece_named (start_tag n as_ gap) is = (tag_are n as_ gap is).0
piece_named (empty_tag n as_ gap) is = (tag_are n as_ gap is).0
piece_named (end_tag n gap) is = (and_true (is_name n) (all_of is_white gap) is).0
piece_named (comment body) is = refl
piece_named (instruction n body) is = refl
piece_named (cdata body) is = refl
