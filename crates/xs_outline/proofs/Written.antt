-- The lines that are written of a tree are spelt by the lines of the text.
use Rattle.std.proofs.Common.{◌≡◌, inl, ℕ, suc, List, [], ◌∷◌, ◌++◌, append_assoc, refl, sym, ap, ◌∙◌, subst}
use Rattle.xs_gram.specs.Building.{EachOf}
use Rattle.xs_gram.proofs.Each.{each_append}
use Rattle.xs_pair.specs.Grammars.{Pair}
use Rattle.xs_outline.specs.Lines.{Entry, production, leaf_word, Line, Lacks, SpellsEntry, SpellsLine, AreSpelt, text_lines, number_text, entry_text, line_text, lines_text}
use Rattle.xs_outline.specs.Shapes.{Shape, leaf, node, Branches, none, branch, slot_name, lines, branch_lines, root_name}
use Rattle.xs_outline.proofs.Decimals.{numeral_is}
use Rattle.xs_sheet.proofs.Escapes.{quoted_is}
use Rattle.xs_outline.proofs.Quoting.{is_other, lacks_by_test, lacks_append, quoted_lacks}
use Rattle.xs_outline.proofs.SlotNames.{IsOneWord}
use Rattle.xs_outline.proofs.Spelling.{digits_lack_other}
use Rattle.xs_outline.proofs.TextLines.{first_then}

-- a line as it is written, without its LF
abbrev spelling : Line → List ℕ
spelling l = number_text l.depth ++ 32 ∷ (l.name ++ 32 ∷ entry_text l.entry)

line_is : (l : Line) (rest : List ℕ) → line_text l ++ rest ≡ spelling l ++ 10 ∷ rest
line_is l rest =
    let inner = append_assoc l.name (32 ∷ entry_text l.entry) (10 ∷ []) in
    let outer = append_assoc (number_text l.depth) (32 ∷ (l.name ++ 32 ∷ entry_text l.entry)) (10 ∷ []) in
    ap (λ (z : List ℕ). (number_text l.depth ++ 32 ∷ z) ++ rest) (sym inner) ∙ ap (λ (z : List ℕ). z ++ rest) (sym outer) ∙ append_assoc (spelling l) (10 ∷ []) rest

entry_spells : (e : Entry) → SpellsEntry e (entry_text e)
entry_spells (production q) = numeral_is (suc q)
entry_spells (leaf_word w) = quoted_is w

number_lacks : (n : ℕ) → Lacks 10 (number_text n)
number_lacks n = digits_lack_other 10 refl (number_text n) (numeral_is n).each

entry_lacks : (e : Entry) → Lacks 10 (entry_text e)
entry_lacks (production q) = number_lacks (suc q)
entry_lacks (leaf_word w) = quoted_lacks w

-- the name of the line has no space and no LF
abbrev IsNamed : Line → Type 0
IsNamed l = IsOneWord l.name

spelling_lacks : (l : Line) → IsNamed l → Lacks 10 (spelling l)
spelling_lacks l named =
    lacks_append 10 (number_text l.depth) (32 ∷ (l.name ++ 32 ∷ entry_text l.entry)) (number_lacks l.depth) (is_other 10 32 refl, lacks_append 10 l.name (32 ∷ entry_text l.entry) named.1 (is_other 10 32 refl, entry_lacks l.entry))

line_spells : (l : Line) → IsNamed l → SpellsLine l (spelling l)
line_spells l named = record { depth = number_text l.depth; entry = entry_text l.entry; is = refl; depth_is = numeral_is l.depth; name_is = named.0; entry_is = entry_spells l.entry }

pub lines_spelt : (ls : List Line) → EachOf IsNamed ls → AreSpelt ls (text_lines (lines_text ls))
lines_spelt [] named = tt
lines_spelt (l ∷ ls) named =
    let cut : text_lines (lines_text (l ∷ ls)) ≡ spelling l ∷ text_lines (lines_text ls) = first_then (lines_text (l ∷ ls)) (spelling l) (lines_text ls) (spelling_lacks l named.0, inl (line_is l (lines_text ls))) in
    subst (AreSpelt (l ∷ ls)) (sym cut) (line_spells l named.0, lines_spelt ls named.1)

pub root_lacks : IsOneWord root_name
root_lacks = (lacks_by_test 32 root_name refl, lacks_by_test 10 root_name refl)

module _ (p : Pair) (words : (q s : ℕ) → IsOneWord (slot_name p q s)) where
  mutual
    pub shape_named : (depth : ℕ) (name : List ℕ) (sh : Shape) → IsOneWord name → EachOf IsNamed (lines p depth name sh)
    shape_named depth name (leaf w) own = (own, tt)
    shape_named depth name (node q bs) own = (own, branches_named q (suc depth) bs)

    branches_named : (q depth : ℕ) (bs : Branches) → EachOf IsNamed (branch_lines p q depth bs)
    branches_named q depth none = tt
    branches_named q depth (branch s sh bs) =
        each_append IsNamed (lines p depth (slot_name p q s) sh) (branch_lines p q depth bs) (shape_named depth (slot_name p q s) sh (words q s)) (branches_named q depth bs)
