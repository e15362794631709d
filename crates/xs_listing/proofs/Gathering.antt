-- The kids of a node, from the last item of its rule to the first.
use Rattle.std.proofs.Common.{◌≡◌, ℕ, zero, suc, ◌-◌, ◌<◌, ◌≤◌, List, [], ◌∷◌, ◌++◌, length, get_or, Option, Some, None, refl, sym, ◌∙◌, ap, arith, subst, drop, length-append}
use Rattle.std.specs.Prelude.{slice_get, slice_index, slice_set, slice_range}
use Rattle.std.proofs.Math.ListN.{length-set}
use Rattle.std.proofs.lemmas.List.{drop_all}
use Rattle.std.proofs.lemmas.Option.{slice_get_read}
use Rattle.xs_gram.specs.declared.parts.GItem.{GItem}
use Rattle.xs_gram.specs.declared.parts.GItem.TheVariants.{Fixed, Term, Non, Skip}
use Rattle.xs_gram.specs.Grammar.{Grammar, items, slots, ItemAt}
use Rattle.xs_gram.specs.Derivations.{Parts, done, sub, parts_yield}
use Rattle.xs_gram.specs.Common.{word, named}
use Rattle.xs_gram.specs.Laws.{Every, IsNumbered}
use Rattle.xs_chart_laws.proofs.Words.{get_drop, Reads-is}
use Rattle.xs_chart_laws.specs.Parts.{parts_then}
use Rattle.xs_forest.specs.declared.row.Alt.{Alt}
use Rattle.xs_tree.specs.Flat.{TreePart, Leaf, tree_at, trees_of}
use Rattle.xs_tree.proofs.Longer.{longer_none, longer_length}
use Rattle.xs_forest_laws.specs.declared.span.SpanKey.{SpanKey}
use Rattle.xs_forest_laws.specs.declared.span.What.TheVariants.{Front}
use Rattle.xs_forest_laws.specs.Forest.{Forest, key_of, alts_of, IsRow, Unfolding, bare, pick, last_part, read, end_of, IsSpelt, FrontAt, ItemRow, FrontAlt, IsRight}
use Rattle.xs_forest_laws.specs.First.{IsFirst}
use Rattle.xs_forest_laws.proofs.Read.{end_is, read_front}
use Rattle.xs_forest_laws.proofs.All.{then_done, then_assoc}
use Rattle.xs_forest_laws.proofs.Number.{contains_of}
use Rattle.xs_forest_laws.proofs.Once.{pick_is}
use Rattle.xs_listing.specs.declared.rows.FirstAlternative.{FirstAlternative}
use Rattle.xs_listing.specs.Marks.{IsFirstAlt}
use Rattle.xs_listing.specs.Making.{IsFirstAlternative, IsTreeOf, IsMade, IsMadeChild, IsPrepared, CanGather, Extends, Fills, CanPlace, IsPlaced}
use Rattle.xs_listing.proofs.Children.{spelt_inside}
use Rattle.xs_listing.proofs.Filling.{tree_extends, fills_more, fills_none, fills_put, last_tree}

-- there is only one unfolding by first alternatives
pub one_first : (f : Forest) (o : Option ℕ) (u v : Unfolding) → IsFirst f o u → IsFirst f o v → u ≡ v
one_first f None bare bare h k = refl
one_first f None bare (pick b s q) h k = absurd k
one_first f None (pick a l t) v h k = absurd h
one_first f (Some r) bare v h k = absurd h
one_first f (Some r) (pick a l t) bare h k = absurd k
one_first f (Some r) (pick a l t) (pick b s q) (lt, at, hl, ht) (lt', at', hs, hq) =
    let same : a ≡ b = cc in
    let hs' : IsFirst f a.left s = subst (λ (x : Alt). IsFirst f x.left s) (sym same) hs in
    let hq' : IsFirst f a.right q = subst (λ (x : Alt). IsFirst f x.right q) (sym same) hq in
    pick_is a b l s t q same (one_first f a.left l s hl hs') (one_first f a.right t q ht hq')

module _ (g : Grammar) (w : List ℕ) (f : Forest) where
  -- what is made stays made where the list goes on
  pub made_more : (a b : List TreePart) (r v : ℕ) → Extends a b → IsMade g w f a r v → IsMade g w f b r v
  made_more a b r v ex made =
      let le = longer_length a b ex in
      let there = made.there in
      record {
        there = omega arith;
        tree = λ u h. subst (λ t. IsTreeOf g (read g w f (Some r) u) t) (sym (tree_extends a b v ex made.there)) (made.tree u h);
      }

  child_more : (a b : List TreePart) (numbers : List ℕ) (o : Option ℕ) → Extends a b → IsMadeChild g w f a numbers o → IsMadeChild g w f b numbers o
  child_more a b numbers None ex h = tt
  child_more a b numbers (Some c) ex h = (h.0, made_more a b c (slice_index numbers c) ex h.1)

  prepared_more : (a b : List TreePart) (numbers : List ℕ) (u : Unfolding) → Extends a b → IsPrepared g w f a numbers u → IsPrepared g w f b numbers u
  prepared_more a b numbers bare ex h = tt
  prepared_more a b numbers (pick x l t) ex h = (child_more a b numbers x.right ex h.0, prepared_more a b numbers l ex h.1)

-- The kids so far: those of the items from a dot on, by the unfolding's rest up to the dot.
pub record Gathers (g : Grammar) (w : List ℕ) (f : Forest) (q : ℕ) (left : Option ℕ) (numbers : List ℕ) (dot : ℕ) (front : Option ℕ) (parts : List TreePart) (kids : List ℕ) : Type 0 where
  pub start : ℕ
  pub stop : ℕ
  pub inside : start ≤ length w
  pub front_is : FrontAt f q dot start stop front
  pub whole : Unfolding
  pub whole_first : IsFirst f left whole
  pub rest : Unfolding
  pub rest_first : IsFirst f front rest
  pub prepared : IsPrepared g w f parts numbers rest
  pub tail : Parts
  pub reads : read g w f left whole ≡ parts_then (read g w f front rest) tail
  pub filled : Fills parts kids (named g (drop dot (items g q)) tail)

-- The last step of a front: its first alternative, and the item and the stretch that it gives.
pub record Last (g : Grammar) (w : List ℕ) (f : Forest) (q d row i j : ℕ) (rest : Unfolding) : Type 0 where
  pub alt : Alt
  pub l : Unfolding
  pub t : Unfolding
  pub rest_is : rest ≡ pick alt l t
  pub there : row < length f
  pub first : IsFirstAlt f row alt
  pub left_first : IsFirst f alt.left l
  pub right_first : IsFirst f alt.right t
  pub m : ℕ
  pub item : GItem
  pub by : FrontAlt g w f q d i j m item alt

-- what holds of each slot holds of an item's, if it has one
abbrev AtSlot : (ℕ → Type 0) → GItem → Type 0
AtSlot P (Fixed v) = Unit {0}
AtSlot P (Skip k) = Unit {0}
AtSlot P (Term t s) = P s
AtSlot P (Non n s) = P s

at_slot : (P : ℕ → Type 0) (is : List GItem) (d : ℕ) (item : GItem) → slice_get is d ≡ Some item → Every P (slots is) → AtSlot P item
at_slot P [] d item e h = cc
at_slot P (Fixed v ∷ is) zero item e h = let same : Fixed v ≡ item = cc in subst (λ i. AtSlot P i) same tt
at_slot P (Skip k ∷ is) zero item e h = let same : Skip k ≡ item = cc in subst (λ i. AtSlot P i) same tt
at_slot P (Term t s ∷ is) zero item e h = let same : Term t s ≡ item = cc in subst (λ i. AtSlot P i) same h.0
at_slot P (Non n s ∷ is) zero item e h = let same : Non n s ≡ item = cc in subst (λ i. AtSlot P i) same h.0
at_slot P (Fixed v ∷ is) (suc d) item e h = at_slot P is d item e h
at_slot P (Skip k ∷ is) (suc d) item e h = at_slot P is d item e h
at_slot P (Term t s ∷ is) (suc d) item e h = at_slot P is d item e h.1
at_slot P (Non n s ∷ is) (suc d) item e h = at_slot P is d item e h.1

pub length_placed : (w numbers : List ℕ) (item : GItem) (step : FirstAlternative) (parts parts' : List TreePart) (kids kids' : List ℕ) → IsPlaced w numbers item step parts kids parts' kids' → length kids' ≡ length kids
length_placed w numbers (Fixed v) step parts parts' kids kids' h = ap length h.1
length_placed w numbers (Skip k) step parts parts' kids kids' h = ap length h.1
length_placed w numbers (Term t s) step parts parts' kids kids' h = ap length h.1 ∙ length-set kids s (length parts)
length_placed w numbers (Non n s) step parts parts' kids kids' h = ap length h.3 ∙ length-set kids s (slice_index numbers h.0)

module _ (g : Grammar) (w : List ℕ) (f : Forest) (right : IsRight g w f) (q : ℕ) (left : Option ℕ) (numbers : List ℕ) where
  last_of : (d row i j : ℕ) (rest : Unfolding) → IsRow f row (Front q (suc d)) i j → IsFirst f (Some row) rest → Last g w f q d row i j rest
  last_of d row i j bare is h = absurd h
  last_of d row i j (pick a l t) is (lt, at, hl, ht) =
      let b = right.sound row (Front q (suc d)) i j a is (contains_of (alts_of f row) 0 a at) in
      record { alt = a; l = l; t = t; rest_is = refl; there = lt; first = at; left_first = hl; right_first = ht; m = b.0; item = b.1; by = b.2 }

  pub gathers_all : (parts : List TreePart) (kids : List ℕ) → CanGather g w f parts numbers q left → Gathers g w f q left numbers (length (items g q)) left parts kids
  gathers_all parts kids can = record {
    start = can.start;
    stop = can.end;
    inside = can.inside;
    front_is = can.front;
    whole = can.chosen;
    whole_first = can.first;
    rest = can.chosen;
    rest_first = can.first;
    prepared = can.prepared;
    tail = done;
    reads = sym (then_done (read g w f left can.chosen));
    filled = subst (λ (l : List GItem). Fills parts kids (named g l done)) (sym (drop_all (length (items g q)) (items g q) (omega arith))) (fills_none parts kids);
  }

  pub gathered : (front : Option ℕ) (parts : List TreePart) (kids : List ℕ) → Gathers g w f q left numbers 0 front parts kids → (u : Unfolding) → IsFirst f left u → Fills parts kids (named g (items g q) (read g w f left u))
  gathered front parts kids so u first =
      let same = one_first f left so.whole u so.whole_first first in
      let none : read g w f front so.rest ≡ done = ap (λ o. read g w f o so.rest) so.front_is.0 in
      let is : read g w f left u ≡ so.tail = ap (λ x. read g w f left x) (sym same) ∙ so.reads ∙ ap (λ x. parts_then x so.tail) none in
      subst (λ x. Fills parts kids (named g (items g q) x)) (sym is) so.filled

  -- an item is placed: its entry is filled
  new_filled : (item : GItem) (is : List GItem) (tail : Parts) (m j : ℕ) (o : Option ℕ) (t : Unfolding) (step : FirstAlternative) (parts parts' : List TreePart) (kids kids' : List ℕ) → ItemRow f item m j o → IsMadeChild g w f parts numbers o → IsFirst f o t → step.right ≡ o → step.start ≡ m → step.end ≡ j → CanPlace w numbers (length kids) item step → IsPlaced w numbers item step parts kids parts' kids' → Fills parts kids (named g is tail) → Extends parts parts' × Fills parts' kids' (named g (item ∷ is) (parts_then (last_part item (slice_range w m j) o (read g w f o t)) tail))
  new_filled (Fixed v) is tail m j (Some c) t step parts parts' kids kids' row made first re se ee can placed fills = cc
  new_filled (Skip k) is tail m j (Some c) t step parts parts' kids kids' row made first re se ee can placed fills = cc
  new_filled (Term n s) is tail m j (Some c) t step parts parts' kids kids' row made first re se ee can placed fills = cc
  new_filled (Fixed v) is tail m j None t step parts parts' kids kids' row made first re se ee can placed fills = (
    subst (λ (l : List TreePart). Extends parts l) (sym placed.0) (longer_none parts),
    subst (λ (l : List TreePart). Fills l kids' (named g is tail)) (sym placed.0) (subst (λ (l : List ℕ). Fills parts l (named g is tail)) (sym placed.1) fills),
  )
  new_filled (Skip k) is tail m j None t step parts parts' kids kids' row made first re se ee can placed fills = (
    subst (λ (l : List TreePart). Extends parts l) (sym placed.0) (longer_none parts),
    subst (λ (l : List TreePart). Fills l kids' (named g is tail)) (sym placed.0) (subst (λ (l : List ℕ). Fills parts l (named g is tail)) (sym placed.1) fills),
  )
  new_filled (Term n s) is tail m j None t step parts parts' kids kids' row made first re se ee can placed fills = (ex, done_here)
    where
      u : List ℕ
      u = slice_range w m j

      new : parts' ≡ parts ++ Leaf (slice_range w m j) ∷ []
      new = placed.0 ∙ ap (λ x. parts ++ Leaf (slice_range w x step.end) ∷ []) se ∙ ap (λ x. parts ++ Leaf (slice_range w m x) ∷ []) ee

      ex : Extends parts parts'
      ex = (Leaf (slice_range w m j) ∷ [], new)

      there : length parts < length parts'
      there = let e = ap length new in omega (arith, length-append parts (Leaf (slice_range w m j) ∷ []))

      tree : tree_at (trees_of parts') (length parts) ≡ word (slice_range w m j)
      tree = ap (λ (l : List TreePart). tree_at (trees_of l) (length parts)) new ∙ last_tree parts (Leaf (slice_range w m j))

      done_here : Fills parts' kids' ((s, word (slice_range w m j)) ∷ named g is tail)
      done_here = subst (λ (l : List ℕ). Fills parts' l ((s, word (slice_range w m j)) ∷ named g is tail)) (sym placed.1) (fills_put parts' kids (named g is tail) s (length parts) (word (slice_range w m j)) (fills_more parts parts' kids (named g is tail) ex fills) can.0 there tree)
  new_filled (Non n s) is tail m j None t step parts parts' kids kids' row made first re se ee can placed fills = absurd (none row.0 row.1)
    where
      none : (c : ℕ) → None ≡ Some c → ⊥
      none c e = cc
  new_filled (Non n s) is tail m j (Some c) t step parts parts' kids kids' row made first re se ee can (b, be, pe, ke) fills =
      let same : b ≡ c = cc in
      let is_tree = made.1.tree t first in
      let v = slice_index numbers c in
      let kids_is : kids' ≡ slice_set kids s v = ke ∙ ap (λ x. slice_set kids s (slice_index numbers x)) same in
      let put = fills_put parts kids (named g is tail) s v (tree_at (trees_of parts) v) fills can.0 made.1.there refl in
      let entry : Fills parts (slice_set kids s v) (named g (Non n s ∷ is) (sub is_tree.rule is_tree.parts tail)) = subst (λ x. Fills parts (slice_set kids s v) ((s, x) ∷ named g is tail)) is_tree.tree_is put in
      let named_is : Fills parts (slice_set kids s v) (named g (Non n s ∷ is) (parts_then (read g w f (Some c) t) tail)) = subst (λ x. Fills parts (slice_set kids s v) (named g (Non n s ∷ is) (parts_then x tail))) (sym is_tree.parts_are) entry in (
        subst (λ (l : List TreePart). Extends parts l) (sym pe) (longer_none parts),
        subst (λ (l : List TreePart). Fills l kids' (named g (Non n s ∷ is) (parts_then (read g w f (Some c) t) tail))) (sym pe) (subst (λ (l : List ℕ). Fills parts l (named g (Non n s ∷ is) (parts_then (read g w f (Some c) t) tail))) (sym kids_is) named_is),
      )

  -- one item more
  step_on : (d row : ℕ) (front : Option ℕ) (item : GItem) (step : FirstAlternative) (parts parts' : List TreePart) (kids kids' : List ℕ) → Gathers g w f q left numbers (suc d) front parts kids → front ≡ Some row → IsFirstAlternative f row step → ItemAt g q d item → CanPlace w numbers (length kids) item step → IsPlaced w numbers item step parts kids parts' kids' → Extends parts parts' × Gathers g w f q left numbers d step.left parts' kids'
  step_on d row front item step parts parts' kids kids' so at st item_at can placed = (filled.0, gathers)
    where
      same_row : so.front_is.0 ≡ row
      same_row = let e = so.front_is.1 in cc

      is_row : IsRow f row (Front q (suc d)) so.start so.stop
      is_row = subst (λ r. IsRow f r (Front q (suc d)) so.start so.stop) same_row so.front_is.2

      first : IsFirst f (Some row) so.rest
      first = subst (λ o. IsFirst f o so.rest) at so.rest_first

      last : Last g w f q d row so.start so.stop so.rest
      last = last_of d row so.start so.stop so.rest is_row first

      same_item : last.item ≡ item
      same_item = let e = last.by.item_is in cc

      same_alt : st.alt ≡ last.alt
      same_alt = let e = last.first in let h = st.first in cc

      left_is : step.left ≡ last.alt.left
      left_is = st.left_is ∙ ap (λ (a : Alt). a.left) same_alt

      right_is : step.right ≡ last.alt.right
      right_is = st.right_is ∙ ap (λ (a : Alt). a.right) same_alt

      start_is : step.start ≡ last.m
      start_is =
          st.start_is ∙ ap (λ (a : Alt). end_of f (key_of f row).start a.left) same_alt ∙ ap (λ (k : SpanKey). end_of f k.start last.alt.left) is_row.1 ∙ end_is f q d so.start last.m last.alt.left last.by.left_is

      stop_is : step.end ≡ so.stop
      stop_is = st.end_is ∙ ap (λ (k : SpanKey). k.end) is_row.1

      prepared : IsPrepared g w f parts numbers (pick last.alt last.l last.t)
      prepared = subst (λ u. IsPrepared g w f parts numbers u) last.rest_is so.prepared

      filled : Extends parts parts' × Fills parts' kids' (named g (last.item ∷ drop (suc d) (items g q)) (parts_then (last_part last.item (slice_range w last.m so.stop) last.alt.right (read g w f last.alt.right last.t)) so.tail))
      filled =
          new_filled last.item (drop (suc d) (items g q)) so.tail last.m so.stop last.alt.right last.t step parts parts' kids kids' last.by.right_is prepared.0 last.right_first right_is start_is stop_is
          (subst (λ x. CanPlace w numbers (length kids) x step) (sym same_item) can) (subst (λ x. IsPlaced w numbers x step parts kids parts' kids') (sym same_item) placed) so.filled

      from_here : last.item ∷ drop (suc d) (items g q) ≡ drop d (items g q)
      from_here = sym (get_drop (items g q) d last.item last.by.item_is)

      reads : read g w f left so.whole ≡ parts_then (read g w f last.alt.left last.l) (parts_then (last_part last.item (slice_range w last.m so.stop) last.alt.right (read g w f last.alt.right last.t)) so.tail)
      reads =
          so.reads ∙ ap (λ o. parts_then (read g w f o so.rest) so.tail) at ∙ ap (λ u. parts_then (read g w f (Some row) u) so.tail) last.rest_is ∙
          ap (λ x. parts_then x so.tail) (read_front g w f row q d so.start so.stop last.m last.item last.alt last.l last.t is_row last.by) ∙
          then_assoc (read g w f last.alt.left last.l) (last_part last.item (slice_range w last.m so.stop) last.alt.right (read g w f last.alt.right last.t)) so.tail

      gathers : Gathers g w f q left numbers d step.left parts' kids'
      gathers = record {
        start = so.start;
        stop = last.m;
        inside = so.inside;
        front_is = subst (λ o. FrontAt f q d so.start last.m o) (sym left_is) last.by.left_is;
        whole = so.whole;
        whole_first = so.whole_first;
        rest = last.l;
        rest_first = subst (λ o. IsFirst f o last.l) (sym left_is) last.left_first;
        prepared = prepared_more g w f parts parts' numbers last.l filled.0 prepared.1;
        tail = parts_then (last_part last.item (slice_range w last.m so.stop) last.alt.right (read g w f last.alt.right last.t)) so.tail;
        reads = reads ∙ ap (λ o. parts_then (read g w f o last.l) (parts_then (last_part last.item (slice_range w last.m so.stop) last.alt.right (read g w f last.alt.right last.t)) so.tail)) (sym left_is);
        filled = subst (λ (l : List GItem). Fills parts' kids' (named g l (parts_then (last_part last.item (slice_range w last.m so.stop) last.alt.right (read g w f last.alt.right last.t)) so.tail))) from_here filled.1;
      }

  -- the next item can be placed
  can_place_item : (d m j : ℕ) (o : Option ℕ) (item : GItem) (step : FirstAlternative) (count : ℕ) (parts : List TreePart) → ItemAt g q d item → Every (λ s. s < count) (slots (items g q)) → m ≤ length w → IsSpelt g w (item ∷ []) m j → ItemRow f item m j o → IsMadeChild g w f parts numbers o → step.right ≡ o → step.start ≡ m → step.end ≡ j → CanPlace w numbers count item step
  can_place_item d m j o (Fixed v) step count parts at slots le sp row made re se ee = tt
  can_place_item d m j o (Skip k) step count parts at slots le sp row made re se ee = tt
  can_place_item d m j o (Term t s) step count parts at slots le sp row made re se ee =
      let stop = spelt_inside g w f right (Term t s ∷ []) m j sp le in
      let is = Reads-is w m (parts_yield sp.0) j sp.1.1 in
      (at_slot (λ x. x < count) (items g q) d (Term t s) at slots, omega arith, omega arith)
  can_place_item d m j None (Non n s) step count parts at slots le sp row made re se ee = absurd (none row.0 row.1)
    where
      none : (c : ℕ) → None ≡ Some c → ⊥
      none c e = cc
  can_place_item d m j (Some c) (Non n s) step count parts at slots le sp row made re se ee =
      (at_slot (λ x. x < count) (items g q) d (Non n s) at slots, c, re, made.0)

  can_place : (d row : ℕ) (front : Option ℕ) (item : GItem) (step : FirstAlternative) (parts : List TreePart) (kids : List ℕ) → IsNumbered (slots (items g q)) → length kids ≡ length (slots (items g q)) → Gathers g w f q left numbers (suc d) front parts kids → front ≡ Some row → IsFirstAlternative f row step → ItemAt g q d item → CanPlace w numbers (length kids) item step
  can_place d row front item step parts kids numbered long so at st item_at =
      let same_row : so.front_is.0 ≡ row = let e = so.front_is.1 in cc in
      let is_row : IsRow f row (Front q (suc d)) so.start so.stop = subst (λ r. IsRow f r (Front q (suc d)) so.start so.stop) same_row so.front_is.2 in
      let last = last_of d row so.start so.stop so.rest is_row (subst (λ o. IsFirst f o so.rest) at so.rest_first) in
      let same_item : last.item ≡ item = let e = last.by.item_is in cc in
      let same_alt : st.alt ≡ last.alt = let e = last.first in let h = st.first in cc in
      let right_is : step.right ≡ last.alt.right = st.right_is ∙ ap (λ (a : Alt). a.right) same_alt in
      let start_is : step.start ≡ last.m =
      st.start_is ∙ ap (λ (a : Alt). end_of f (key_of f row).start a.left) same_alt ∙ ap (λ (k : SpanKey). end_of f k.start last.alt.left) is_row.1 ∙ end_is f q d so.start last.m last.alt.left last.by.left_is in
      let stop_is : step.end ≡ so.stop = st.end_is ∙ ap (λ (k : SpanKey). k.end) is_row.1 in
      let prepared : IsPrepared g w f parts numbers (pick last.alt last.l last.t) = subst (λ u. IsPrepared g w f parts numbers u) last.rest_is so.prepared in
      let below : Every (λ s. s < length kids) (slots (items g q)) = subst (λ n. Every (λ s. s < n) (slots (items g q))) (sym long) numbered.below in
      let inside = spelt_inside g w f right _ so.start last.m last.by.before so.inside in
      let can = can_place_item d last.m so.stop last.alt.right last.item step (length kids) parts last.by.item_is below inside last.by.last last.by.right_is prepared.0 right_is start_is stop_is in
      subst (λ x. CanPlace w numbers (length kids) x step) same_item can

  -- the item before the dot is placed, where the loop over a rule's items has come down to it
  module _ (is : List GItem) (same : is ≡ items g q) (numbered : IsNumbered (slots (items g q))) (dot row : ℕ) (front : Option ℕ) (item : GItem) (step : FirstAlternative) (parts : List TreePart) (kids : List ℕ) (some : 0 < dot) (within : dot ≤ length is) (read_at : item ≡ get_or is (dot - 1) item) (long : length kids ≡ length (slots is)) (so : Gathers g w f q left numbers dot front parts kids) (at : front ≡ Some row) (st : IsFirstAlternative f row step) where
    so_next : Gathers g w f q left numbers (suc (dot - 1)) front parts kids
    so_next = let one : dot ≡ suc (dot - 1) = omega arith in subst (λ n. Gathers g w f q left numbers n front parts kids) one so

    item_at : ItemAt g q (dot - 1) item
    item_at = subst (λ (l : List GItem). slice_get l (dot - 1) ≡ Some item) same (slice_get_read is (length is) (dot - 1) item refl (omega arith) read_at)

    pub can_place_next : CanPlace w numbers (length kids) item step
    can_place_next = can_place (dot - 1) row front item step parts kids numbered (long ∙ ap (λ l. length (slots l)) same) so_next at st item_at

    pub step_on_next : (parts' : List TreePart) (kids' : List ℕ) → IsPlaced w numbers item step parts kids parts' kids' → Extends parts parts' × Gathers g w f q left numbers (dot - 1) step.left parts' kids'
    step_on_next parts' kids' placed = step_on (dot - 1) row front item step parts parts' kids kids' so_next at st item_at can_place_next placed
