-- A node's parts lead to the child at a slot, and what is printed there is what the child prints.
use Rattle.std.proofs.Common.{◌≡◌, Bool, true, false, inl, inr, ℕ, zero, suc, ◌+◌, ◌<◌, ◌≤◌, ◌⊎◌, List, [], ◌∷◌, length, Option, Some, None, refl, sym, ◌∙◌, ap, subst, arith}
use Rattle.std.specs.Prelude.{◌==◌, if◌then◌else◌, slice_get, slice_range}
use Rattle.std.proofs.lemmas.Bool.Decides.{eqb_tells}
use Rattle.xs_gram.specs.declared.parts.GItem.{GItem}
use Rattle.xs_gram.specs.declared.parts.GItem.TheVariants.{Fixed, Term, Non, Skip}
use Rattle.xs_gram.specs.Grammar.{Grammar, items}
use Rattle.xs_gram.specs.Derivations.{Parts, done, fixed, leaf, skip, sub, FitsItems}
use Rattle.xs_gram.specs.Common.{Common, word, made, lookup, child_of, in_order, children, named, print, print_kids, word_at}
use Rattle.xs_gram.specs.Laws.{Every, IsNumbered}
use Rattle.xs_gram.proofs.Lookup.{keys, length-keys}
use Rattle.xs_gram.proofs.Entries.{lookup_other}
use Rattle.xs_parse_table.specs.declared.table.Node.{Node}
use Rattle.xs_parse_table.specs.declared.table.ParseTable.{ParseTable}
use Rattle.xs_parse_table.specs.Tables.{ArePartsAt}
use Rattle.xs_table_out.specs.declared.children.Begin.{Begin}
use Rattle.xs_table_out.specs.declared.children.Begin.TheVariants.{AfterWord, AfterNode}
use Rattle.xs_table_out.specs.declared.children.Child.{Child}
use Rattle.xs_table_out.specs.declared.children.Child.TheVariants as C
use Rattle.xs_table_out.specs.Children.{child_at, or_later}
use Rattle.xs_table_out.specs.Walk.{begin_of, end_of, part_node}

-- what a child leads to in the parts of a node
abbrev pub Finds : Grammar → List ℕ → ParseTable → ℕ → ℕ → Child → Option Common → Type 0
Finds g doc table first from C.Nothing o = o ≡ None
Finds g doc table first from (C.Word begin part) o = (at : ℕ) × (to : ℕ) × (begin_of table.nodes.items table.parts.items first from begin ≡ Some at) × (slice_get table.parts.items (first + part) ≡ Some to) × (o ≡ Some (word (slice_range doc at to)))
Finds g doc table first from (C.Node part) o = (number : ℕ) × (node : Node) × (ps : Parts) × (slice_get table.parts.items (first + part) ≡ Some number) × (slice_get table.nodes.items number ≡ Some node) × FitsItems g (items g node.production) ps × ArePartsAt table.nodes.items table.parts.items doc node.parts node.from node.to ps × (o ≡ Some (made node.production (children (named g (items g node.production) ps))))

by_test : (P : Child → Option Common → Type 0) (b : Bool) (child later : Child) (t : Common) (o : Option Common) → P child (Some t) → P later o → P (or_later (if b then Some child else None) later) (if b then Some t else o)
by_test P true child later t o here after = here
by_test P false child later t o here after = after

module _ (g : Grammar) (doc : List ℕ) (table : ParseTable) (first from slot : ℕ) where
  onward : (part at end : ℕ) (ps : Parts) → ArePartsAt table.nodes.items table.parts.items doc (suc (first + part)) at end ps → ArePartsAt table.nodes.items table.parts.items doc (first + (part + 1)) at end ps
  onward part at end ps mean =
      let e : suc (first + part) ≡ first + (part + 1) = omega arith in
      subst (λ k. ArePartsAt table.nodes.items table.parts.items doc k at end ps) e mean

  pub finds : (is : List GItem) (ps : Parts) (begin : Begin) (part at end : ℕ) → begin_of table.nodes.items table.parts.items first from begin ≡ Some at → FitsItems g is ps → ArePartsAt table.nodes.items table.parts.items doc (first + part) at end ps → Finds g doc table first from (child_at begin part slot is) (lookup slot (named g is ps))
  finds [] done begin part at end b fit mean = refl
  finds (Fixed f ∷ is) (fixed u ps) begin part at end b fit mean = finds is ps (AfterWord part) (part + 1) mean.0 end mean.1 fit.1 (onward part mean.0 end ps mean.3)
  finds (Skip k ∷ is) (skip u ps) begin part at end b fit mean = finds is ps (AfterWord part) (part + 1) mean.0 end mean.1 fit.1 (onward part mean.0 end ps mean.3)
  finds (Term t s ∷ is) (leaf u ps) begin part at end b fit mean =
      by_test (Finds g doc table first from) (s == slot) (C.Word begin part) (child_at (AfterWord part) (part + 1) slot is) (word u) (lookup slot (named g is ps))
      (at, mean.0, b, mean.1, ap (λ w. Some (word w)) mean.2.word)
      (finds is ps (AfterWord part) (part + 1) mean.0 end mean.1 fit.1 (onward part mean.0 end ps mean.3))
  finds (Non n s ∷ is) (sub q qs ps) begin part at end b fit (number, node, numbered, there, rule, begins, within, inner, outer) =
      by_test (Finds g doc table first from) (s == slot) (C.Node part) (child_at (AfterNode part) (part + 1) slot is) (made q (children (named g (items g q) qs))) (lookup slot (named g is ps))
      (number, node, qs, numbered, there, subst (λ r. FitsItems g (items g r) qs) (sym rule) fit.1, inner, ap (λ r. Some (made r (children (named g (items g r) qs)))) (sym rule))
      (finds is ps (AfterNode part) (part + 1) node.to end (ap (λ o. end_of (part_node table.nodes.items o)) numbered ∙ ap end_of there) fit.2 (onward part node.to end ps outer))
  finds is ps begin part at end b fit mean = absurd fit

-- the word of a child at a slot
kids_word : (h : Grammar) (es : List (ℕ × Common)) (n begin slot : ℕ) → slot < n → word_at (print_kids h (in_order n begin es)) slot ≡ print h (child_of (lookup (begin + slot) es))
kids_word h es zero begin slot lt = absurd (omega (arith, lt))
kids_word h es (suc n) begin zero lt =
    let e : begin ≡ begin + 0 = omega arith in
    ap (λ k. print h (child_of (lookup k es))) e
kids_word h es (suc n) begin (suc slot) lt =
    let e : begin + 1 + slot ≡ begin + suc slot = omega arith in
    kids_word h es n (begin + 1) slot (omega (arith, lt)) ∙ ap (λ k. print h (child_of (lookup k es))) e

first_word : (h : Grammar) (es : List (ℕ × Common)) (slot : ℕ) → slot < length es → word_at (print_kids h (children es)) slot ≡ print h (child_of (lookup slot es))
first_word h es slot lt =
    let e : 0 + slot ≡ slot = omega arith in
    kids_word h es (length es) 0 slot lt ∙ ap (λ k. print h (child_of (lookup k es))) e

-- past the last slot there is none
past_word : (h : Grammar) (es : List (ℕ × Common)) (n begin slot : ℕ) → n ≤ slot → word_at (print_kids h (in_order n begin es)) slot ≡ []
past_word h es zero begin slot le = refl
past_word h es (suc n) begin zero le = absurd (omega (arith, le))
past_word h es (suc n) begin (suc slot) le = past_word h es n (begin + 1) slot (omega (arith, le))

some_none : (t : Common) → None ≡ Some t → ⊥
some_none t e = cc

-- a slot at which something stands is one of the slots
below : (es : List (ℕ × Common)) (n slot : ℕ) (t : Common) → Every (λ m. m < n) (keys es) → lookup slot es ≡ Some t → slot < n
below [] n slot t all e = absurd (some_none t e)
below ((s, u) ∷ es) n slot t all e = elim (eqb_tells slot s) [
  | inl (one, same) ↦ let lt = all.0 in omega (arith, same, lt)
  | inr (two, ne) ↦ below es n slot t all.1 (sym (lookup_other s slot u es ne) ∙ e)
]

-- the word is what stands at a slot prints, and empty where nothing does
abbrev pub Prints : Grammar → Option Common → List ℕ → Type 0
Prints h None w = w ≡ []
Prints h (Some t) w = w ≡ print h t

prints_at : (h : Grammar) (es : List (ℕ × Common)) (slot : ℕ) → IsNumbered (keys es) → (o : Option Common) → lookup slot es ≡ o → (slot < length es) ⊎ (length es ≤ slot) → Prints h o (word_at (print_kids h (children es)) slot)
prints_at h es slot numbered None e (inl lt) = first_word h es slot lt ∙ ap (λ o. print h (child_of o)) e
prints_at h es slot numbered None e (inr le) = past_word h es (length es) 0 slot le
prints_at h es slot numbered (Some t) e (inl lt) = first_word h es slot lt ∙ ap (λ o. print h (child_of o)) e
prints_at h es slot numbered (Some t) e (inr le) =
    let lt = below es (length (keys es)) slot t numbered.below e in
    let long = length-keys es in
    absurd (omega (arith, lt, long, le))

side : (a b : ℕ) → (a < b) ⊎ (b ≤ a)
side a zero = inr (omega arith)
side zero (suc b) = inl (omega arith)
side (suc a) (suc b) = elim (side a b) [ inl lt ↦ inl (omega (arith, lt)) | inr le ↦ inr (omega (arith, le)) ]

pub prints : (h : Grammar) (es : List (ℕ × Common)) (slot : ℕ) → IsNumbered (keys es) → Prints h (lookup slot es) (word_at (print_kids h (children es)) slot)
prints h es slot numbered = prints_at h es slot numbered (lookup slot es) refl (side slot (length es))
