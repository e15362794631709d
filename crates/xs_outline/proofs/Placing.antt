-- Where a line leads.
use Rattle.std.proofs.Common.{◌≡◌, ℕ, suc, ◌+◌, ◌<◌, true, false, List, [], ◌∷◌, ◌++◌, length, length-append, get_or, Some, None, refl, sym, ap, ◌∙◌, subst, arith, Bool, ◌==◌, if◌then◌else◌}
use Rattle.std.specs.Prelude.{slice_get, IsSome}
use Rattle.std.specs.declared.option.Option.{Option}
use Rattle.std.proofs.lemmas.Option.{none-some, same_Some, slice_get_within, slice_get-get_or, get_or_from_slice_get}
use Rattle.xs_class.specs.Ordered.{place_of}
use Rattle.xs_gram.specs.declared.parts.GItem.{GItem}
use Rattle.xs_gram.specs.declared.parts.GItem.TheVariants.{Fixed, Term, Non, Skip}
use Rattle.xs_gram.specs.Grammar.{Grammar, items}
use Rattle.xs_gram.specs.Sound.{IsBuilt}
use Rattle.xs_gram.specs.Common.{Common, Kind, of_term, of_non, kinds, lookup}
use Rattle.xs_tree.specs.Flat.{trees_of}
use Rattle.xs_pair.specs.Units.{or_zero}
use Rattle.xs_pair.specs.Grammars.{Pair}
use Rattle.xs_pair.proofs.Places.{found_there}
use Rattle.xs_outline.specs.declared.slot_table.Kind.{Kind as Known}
use Rattle.xs_outline.specs.declared.slot_table.SlotTable.{SlotTable}
use Rattle.xs_outline.specs.declared.reader.Open.{Open}
use Rattle.xs_outline.specs.declared.reader.Reader.{Reader}
use Rattle.xs_outline.specs.Lines.{Entry, line}
use Rattle.xs_outline.specs.Shapes.{names_of, slot_count, kind_at, root_name}
use Rattle.xs_outline.specs.Machine.{Frame, at_start, within, enter, EntryFits, IsWelcome, MayCome}
use Rattle.xs_outline.specs.Tables.{known, name_list, IsTable, AreTables}
use Rattle.xs_outline.specs.Reader.{child_at, tree_in, frame_of, frames_onto, frames, IsThere, state, state_at, state_within, AreOpen, IsKept, IsPlaceFor, NoPlaceFor}
use Rattle.xs_outline.proofs.Keeping.{frames_push, open_pop, cell_at, none_there}

pub frames_long : (p : Pair) (trees : List Common) (look : ℕ → ℕ → Option ℕ) (fs : List Frame) (os : List Open) → length (frames_onto p trees look fs os) ≡ length fs + length os
frames_long p trees look fs [] = omega arith
frames_long p trees look fs (o ∷ os) = omega (arith, frames_long p trees look (frame_of p trees look o ∷ fs) os)

pub row_at : {A : Type 0} (rows : List A) (q : ℕ) (row : A) → q < length rows → row ≡ get_or rows q row → slice_get rows q ≡ Some row
row_at rows q row lt is = slice_get-get_or rows q row lt ∙ ap (λ z. Some z) (sym is)

pub top_rule : (p : Pair) (r : Reader) (front : List Open) (top : Open) (bound : ℕ) → r.open.items ≡ front ++ top ∷ [] → IsKept p bound r → top.rule < length p.text.rules
top_rule p r front top bound are kept = (open_pop p (trees_of r.parts) (child_at r.children) [] 0 bound front top (subst (λ os. AreOpen p (trees_of r.parts) (child_at r.children) [] 0 bound os) are kept.open_)).own.rule

-- at the root
pub root_state : (p : Pair) (r : Reader) → r.root ≡ None → r.open.items ≡ [] → state p r ≡ at_start
root_state p r root none =
    ap (state_at (trees_of r.parts) (frames p r)) root ∙ ap (λ os. state_within (frames_onto p (trees_of r.parts) (child_at r.children) [] os)) none

pub root_found : (p : Pair) (r : Reader) (depth start : ℕ) (name : List ℕ) → r.root ≡ None → r.open.items ≡ [] → depth ≡ 0 → name ≡ root_name → start ≡ p.text.start → IsPlaceFor p (state p r) (frames p r) depth name (of_non start) 0
root_found p r depth start name root none deep named is =
    let begun = root_state p r root none in
    let no_frames : frames p r ≡ [] = ap (λ os. frames_onto p (trees_of r.parts) (child_at r.children) [] os) none in
    subst (λ s. IsPlaceFor p s (frames p r) depth name (of_non start) 0) (sym begun)
    (subst (λ fs. IsPlaceFor p at_start fs depth name (of_non start) 0) (sym no_frames)
    (record {
      may = λ e fits. (deep, named, subst (λ n. EntryFits p (Some (of_non n)) e) is fits);
      only = λ e may. subst (λ n. EntryFits p (Some (of_non n)) e) (sym is) may.2;
      goes = λ e. refl;
      free = tt;
    }))

pub root_deep : (p : Pair) (r : Reader) (depth : ℕ) (name : List ℕ) → r.root ≡ None → r.open.items ≡ [] → (depth ≡ 0 → name ≡ root_name → ⊥) → NoPlaceFor p (state p r) depth name
root_deep p r depth name root none other e may = let at = subst (λ s. MayCome p s (line depth name e)) (root_state p r root none) may in other at.0 at.1

module _ (p : Pair) (r : Reader) (front : List Open) (top : Open) (root : r.root ≡ None) (are : r.open.items ≡ front ++ top ∷ []) where
  abbrev inner : Frame
  inner = frame_of p (trees_of r.parts) (child_at r.children) top

  abbrev outer : List Frame
  outer = frames_onto p (trees_of r.parts) (child_at r.children) [] front

  pub frames_are : frames p r ≡ inner ∷ outer
  frames_are = ap (frames_onto p (trees_of r.parts) (child_at r.children) []) are ∙ frames_push p (trees_of r.parts) (child_at r.children) [] front top

  pub state_is : state p r ≡ within inner outer
  state_is = ap (state_at (trees_of r.parts) (frames p r)) root ∙ ap state_within frames_are

  deep_is : suc (length outer) ≡ length r.open.items
  deep_is = omega (arith, frames_long p (trees_of r.parts) (child_at r.children) [] front, ap (λ (z : List Open). length z) are ∙ length-append front (top ∷ []))

  may_here : (depth : ℕ) (name : List ℕ) (e : Entry) → MayCome p (state p r) (line depth name e) → (depth ≡ suc (length outer)) × IsWelcome p inner name e
  may_here depth name e may = subst (λ s. MayCome p s (line depth name e)) state_is may

  pub inner_deep : (depth long : ℕ) (name : List ℕ) → (depth ≡ long → ⊥) → long ≡ length r.open.items → NoPlaceFor p (state p r) depth name
  inner_deep depth long name other is e may = other ((may_here depth name e may).0 ∙ deep_is ∙ sym is)

  pub inner_unnamed : (depth : ℕ) (name : List ℕ) → place_of (names_of p top.rule) name ≡ None → NoPlaceFor p (state p r) depth name
  inner_unnamed depth name none e may = let at = (may_here depth name e may).1 in none-some at.slot (sym none ∙ at.named)

  slot_same : (depth slot : ℕ) (name : List ℕ) (e : Entry) → place_of (names_of p top.rule) name ≡ Some slot → (may : MayCome p (state p r) (line depth name e)) → (may_here depth name e may).1.slot ≡ slot
  slot_same depth slot name e named may = let at = (may_here depth name e may).1 in same_Some at.slot slot (sym at.named ∙ named)

  pub slot_below : (slot : ℕ) (name : List ℕ) → place_of (names_of p top.rule) name ≡ Some slot → slot < slot_count p top.rule
  slot_below slot name named = slice_get_within (names_of p top.rule) slot name (found_there (names_of p top.rule) name slot named)

  cell_is : (slot : ℕ) (name : List ℕ) → place_of (names_of p top.rule) name ≡ Some slot → slice_get inner.cells slot ≡ Some (tree_in (trees_of r.parts) (child_at r.children top.node slot))
  cell_is slot name named = cell_at (trees_of r.parts) (child_at r.children top.node) (slot_count p top.rule) slot (slot_below slot name named)

  pub inner_taken : (depth slot : ℕ) (name : List ℕ) → place_of (names_of p top.rule) name ≡ Some slot → IsSome (child_at r.children top.node slot) → NoPlaceFor p (state p r) depth name
  inner_taken depth slot name named taken e may =
      let at = (may_here depth name e may).1 in
      let free : slice_get inner.cells slot ≡ Some None = subst (λ s. slice_get inner.cells s ≡ Some None) (slot_same depth slot name e named may) at.free in
      not_free (child_at r.children top.node slot) taken (same_Some _ None (sym (cell_is slot name named) ∙ free))
    where
      not_free : (o : Option ℕ) → IsSome o → tree_in (trees_of r.parts) o ≡ None → ⊥
      not_free None some none = cc
      not_free (Some part) some none = cc

  -- a node that lacks all its children has none
  pub inner_free : (bound slot : ℕ) (name : List ℕ) → IsKept p bound r → place_of (names_of p top.rule) name ≡ Some slot → top.missing ≡ slot_count p top.rule → child_at r.children top.node slot ≡ None
  inner_free bound slot name kept named all =
      let own = (open_pop p (trees_of r.parts) (child_at r.children) [] 0 bound front top (subst (λ os. AreOpen p (trees_of r.parts) (child_at r.children) [] 0 bound os) are kept.open_)).own in
      none_there (trees_of r.parts) (child_at r.children top.node) (slot_count p top.rule) (sym own.missing ∙ all) slot (slot_below slot name named)

  pub inner_strange : (depth slot : ℕ) (name : List ℕ) → place_of (names_of p top.rule) name ≡ Some slot → kind_at p top.rule slot ≡ None → NoPlaceFor p (state p r) depth name
  inner_strange depth slot name named none e may =
      let at = (may_here depth name e may).1 in
      no_kind e (subst (λ o. EntryFits p o e) (ap (kind_at p top.rule) (slot_same depth slot name e named may) ∙ none) at.fits)
    where
      no_kind : (x : Entry) → EntryFits p None x → ⊥
      no_kind x fits = fits

  pub inner_found : (depth slot : ℕ) (name : List ℕ) (kind : Kind) → depth ≡ length r.open.items → place_of (names_of p top.rule) name ≡ Some slot → child_at r.children top.node slot ≡ None → kind_at p top.rule slot ≡ Some kind → IsPlaceFor p (state p r) (frames p r) depth name kind slot
  inner_found depth slot name kind deep named none is =
      let free : slice_get inner.cells slot ≡ Some None = cell_is slot name named ∙ ap (λ o. Some (tree_in (trees_of r.parts) o)) none in
      subst (λ s. IsPlaceFor p s (frames p r) depth name kind slot) (sym state_is)
      (subst (λ fs. IsPlaceFor p (within inner outer) fs depth name kind slot) (sym frames_are)
      (record {
        may = λ e fits. (deep ∙ sym deep_is, record { slot = slot; named = named; free = free; fits = subst (λ o. EntryFits p o e) (sym is) fits });
        only = λ e may. subst (λ o. EntryFits p o e) (ap (kind_at p top.rule) (same_Some may.1.slot slot (sym may.1.named ∙ named)) ∙ is) may.1.fits;
        goes = λ e. ap (λ o. enter p (inner ∷ outer) (or_zero o) e) named;
        free = free;
      }))

-- a slot's terminal is there
slot_there : (g : Grammar) (its : List GItem) (s : ℕ) (kind : Kind) → lookup s (kinds its) ≡ Some kind → ((n t r : ℕ) → slice_get its n ≡ Some (Term t r) → t < length g.terms) → (t : ℕ) → kind ≡ of_term t → t < length g.terms
slot_there g [] s kind is range t same = absurd (none-some kind is)
slot_there g (Fixed f ∷ its) s kind is range t same = slot_there g its s kind is (λ n u r e. range (suc n) u r e) t same
slot_there g (Skip k ∷ its) s kind is range t same = slot_there g its s kind is (λ n u r e. range (suc n) u r e) t same
slot_there g (Non m r ∷ its) s kind is range t same = by (r == s) is (slot_there g its s kind) (λ n u q e. range (suc n) u q e)
  where
    non_term : of_non m ≡ of_term t → ⊥
    non_term e = cc

    by : (b : Bool) → (if b then Some (of_non m) else lookup s (kinds its)) ≡ Some kind → (lookup s (kinds its) ≡ Some kind → ((n u q : ℕ) → slice_get its n ≡ Some (Term u q) → u < length g.terms) → (v : ℕ) → kind ≡ of_term v → v < length g.terms) → ((n u q : ℕ) → slice_get its n ≡ Some (Term u q) → u < length g.terms) → t < length g.terms
    by true e again all = absurd (non_term (same_Some (of_non m) kind e ∙ same))
    by false e again all = again e all t same
slot_there g (Term u r ∷ its) s kind is range t same = by (r == s) is (slot_there g its s kind) (λ n w q e. range (suc n) w q e)
  where
    same_term : of_term u ≡ of_term t → u ≡ t
    same_term e = cc

    by : (b : Bool) → (if b then Some (of_term u) else lookup s (kinds its)) ≡ Some kind → (lookup s (kinds its) ≡ Some kind → ((n w q : ℕ) → slice_get its n ≡ Some (Term w q) → w < length g.terms) → (v : ℕ) → kind ≡ of_term v → v < length g.terms) → ((n w q : ℕ) → slice_get its n ≡ Some (Term w q) → w < length g.terms) → t < length g.terms
    by true e again all = subst (λ z. z < length g.terms) (same_term (same_Some (of_term u) kind e ∙ same)) (range 0 u r refl)
    by false e again all = again e all t same

pub kind_there : (p : Pair) (q s : ℕ) (kind : Kind) → IsBuilt p.text → kind_at p q s ≡ Some kind → IsThere p kind
kind_there p q s (of_term t) built is = slot_there p.text (items p.text q) s (of_term t) is (λ n u r e. built.range.terms q n u r e) t refl
kind_there p q s (of_non n) built is = tt

-- the row of a production that the code reads, and that of the innermost node's production
pub row_is : (p : Pair) (rows : List SlotTable) (q : ℕ) (row : SlotTable) → AreTables p rows → q < length p.text.rules → row ≡ get_or rows q row → IsTable p q row
row_is p rows q row are lt is = are.each q row (row_at rows q row (omega (arith, are.long)) is)

pub top_row : (p : Pair) (r : Reader) (front : List Open) (top : Open) (bound : ℕ) (rows : List SlotTable) (row : SlotTable) → r.open.items ≡ front ++ top ∷ [] → IsKept p bound r → AreTables p rows → row ≡ get_or rows top.rule row → IsTable p top.rule row
top_row p r front top bound rows row are kept tables is = row_is p rows top.rule row tables (top_rule p r front top bound are kept) is

-- a place by a table's row
pub named_by : (p : Pair) (q : ℕ) (row : SlotTable) (name : List ℕ) (o : Option ℕ) → IsTable p q row → o ≡ place_of (name_list row.names.keys) name → place_of (names_of p q) name ≡ o
named_by p q row name o table is = sym (is ∙ ap (λ ns. place_of ns name) table.names)

pub kind_by : (p : Pair) (q slot : ℕ) (row : SlotTable) (x : Option Known) → IsTable p q row → slot < slot_count p q → slice_get row.kinds.items slot ≡ Some x → kind_at p q slot ≡ known x
kind_by p q slot row x table lt at = sym (table.kinds slot lt) ∙ ap known (get_or_from_slice_get row.kinds.items slot x None at)

-- what may stand at a slot of the innermost node, as the code reads it
pub top_kind : (p : Pair) (r : Reader) (front : List Open) (top : Open) (row : SlotTable) (slot : ℕ) (name : List ℕ) (x : Option Known) → r.root ≡ None → r.open.items ≡ front ++ top ∷ [] → IsTable p top.rule row → place_of (names_of p top.rule) name ≡ Some slot → x ≡ get_or row.kinds.items slot x → kind_at p top.rule slot ≡ known x
top_kind p r front top row slot name x root are table named is =
    let below = slot_below p r front top root are slot name named in
    kind_by p top.rule slot row x table below (row_at row.kinds.items slot x (omega (arith, below, table.long)) is)
