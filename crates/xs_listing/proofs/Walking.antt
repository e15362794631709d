-- Each step of the writing keeps what it ends with.
use Rattle.std.proofs.Common.{◌≡◌, inl, inr, ℕ, zero, suc, ◌-◌, ◌<◌, ◌≤◌, List, [], ◌∷◌, ◌++◌, length, map, reverse, take, drop, All, Option, Some, None, refl, sym, ◌∙◌, ap, arith, subst, append-nil, length-append}
use Rattle.std.specs.Prelude.{slice_get, slice_index_or, slice_range}
use Rattle.std.proofs.Math.Seq.{take-length}
use Rattle.std.proofs.lemmas.List.{drop_all, reverse-append, map-append, length-map, take-append-le, drop-append-le}
use Rattle.std.proofs.lemmas.List.Elements.{All-nil, All-cons}
use Rattle.xs_gram.specs.declared.parts.GItem.{GItem}
use Rattle.xs_gram.specs.declared.parts.GItem.TheVariants.{Fixed, Term, Non, Skip as Ignored}
use Rattle.xs_gram.specs.declared.parts.RulePart.{RulePart}
use Rattle.xs_gram.specs.Grammar.{Grammar, no_rule, items, ItemAt}
use Rattle.xs_gram.specs.Derivations.{Parts, done, fixed, leaf, skip, sub, parts_yield}
use Rattle.xs_chart_laws.proofs.Words.{get_lt, Reads-is}
use Rattle.xs_chart_laws.specs.Parts.{parts_then}
use Rattle.xs_forest.specs.declared.row.Alt.{Alt}
use Rattle.xs_forest_laws.specs.declared.span.What.{What}
use Rattle.xs_forest_laws.specs.declared.span.What.TheVariants.{Whole, Front}
use Rattle.xs_forest_laws.specs.Forest.{Forest, key_at, key_of, alts_of, IsRow, Unfolding, bare, pick, word_part, item_of, last_part, read, end_of, FrontAlt, IsAlt, IsRight}
use Rattle.xs_forest_laws.specs.Number.{count_of, At, IsChosen}
use Rattle.xs_forest_laws.specs.Walk.{Flat, node, leaf_at, skip_at, AreAt}
use Rattle.xs_forest_laws.proofs.Read.{get_or_is, end_is, read_front, read_whole}
use Rattle.xs_forest_laws.proofs.All.{then_done, then_assoc}
use Rattle.xs_forest_laws.proofs.Counts.{left_within, chosen_at}
use Rattle.xs_forest_laws.proofs.Number.{contains_of, numbered}
use Rattle.xs_forest_laws.proofs.Walk.{are_more, are_then}
use Rattle.xs_listing.specs.declared.count.Chosen.{Chosen}
use Rattle.xs_listing.specs.declared.spelt.SpeltPart.{SpeltPart}
use Rattle.xs_listing.specs.declared.spelt.SpeltPart.TheVariants.{Node, Leaf, Skip}
use Rattle.xs_listing.specs.declared.write.Source.{Source}
use Rattle.xs_listing.specs.declared.write.Task.{Task}
use Rattle.xs_listing.specs.declared.write.Task.TheVariants.{Visit, Word, Close}
use Rattle.xs_listing.specs.Spelt.{flat_of, IsInOrder, AreInOrder}
use Rattle.xs_listing.specs.Writing.{child_task, item_task, last_task, Added, IsWordWritten, IsDone, AreWritten, IsSource, HasChild, CanDo}
use Rattle.xs_listing.proofs.Children.{IsInside, children_inside, spelt_inside}
use Rattle.xs_class.proofs.Lists.{get_push}

-- the next task is the last of the list
pub rev_push : (ts : List Task) (t : Task) → reverse (ts ++ t ∷ []) ≡ t ∷ reverse ts
rev_push ts t = reverse-append ts (t ∷ [])

pub rev_child : (ts : List Task) (o : Option ℕ) (k : ℕ) → reverse (ts ++ child_task o k) ≡ child_task o k ++ reverse ts
rev_child ts None k = ap reverse (append-nil ts)
rev_child ts (Some r) k = rev_push ts (Visit r k)

-- What the tasks, the next one first, make of the open node's parts so far and of those of the nodes around it.
abbrev pub Walks : Grammar → List ℕ → Forest → ℕ → List ℕ → List Task → Parts → List Parts → Parts → Type 0
Walks g w f cap cs [] ps [] end = ps ≡ end
Walks g w f cap cs [] ps (qs ∷ around) end = ⊥
Walks g w f cap cs (Visit r k ∷ ts) ps around end = (u : Unfolding) × At f cap cs (Some r) k u × (k < count_of cs (Some r)) × ((key_of f r).start ≤ length w) × Walks g w f cap cs ts (parts_then ps (read g w f (Some r) u)) around end
Walks g w f cap cs (Word p d i j ∷ ts) ps around end = (item : GItem) × ItemAt g p d item × (i ≤ j) × (j ≤ length w) × Walks g w f cap cs ts (parts_then ps (word_part item (slice_range w i j))) around end
Walks g w f cap cs (Close q n ∷ ts) ps [] end = ⊥
Walks g w f cap cs (Close q n ∷ ts) ps (qs ∷ around) end = Walks g w f cap cs ts (parts_then qs (sub q ps done)) around end

-- the places of the open node's parts, and of those of the nodes around it
abbrev pub Holds : List ℕ → List Flat → List Task → List ℕ → Parts → List Parts → Type 0
Holds w out [] places ps [] = AreAt w out ps places
Holds w out [] places ps (qs ∷ around) = ⊥
Holds w out (Visit r k ∷ ts) places ps around = Holds w out ts places ps around
Holds w out (Word p d i j ∷ ts) places ps around = Holds w out ts places ps around
Holds w out (Close q n ∷ ts) places ps [] = ⊥
Holds w out (Close q n ∷ ts) places ps (qs ∷ around) = (n ≤ length places) × AreAt w out ps (drop n places) × Holds w out ts (take n places) qs around

-- what is written and what is still to be written come to these parts
pub record Goes (g : Grammar) (w : List ℕ) (f : Forest) (cap : ℕ) (cs : List ℕ) (ts : List Task) (parts : List SpeltPart) (places : List ℕ) (end : Parts) : Type 0 where
  pub open_parts : Parts
  pub around : List Parts
  pub walks : Walks g w f cap cs ts open_parts around end
  pub holds : Holds w (map flat_of parts) ts places open_parts around
  pub in_order : AreInOrder w parts

module _ (w : List ℕ) where
  holds_more : (out more : List Flat) (ts : List Task) (places : List ℕ) (ps : Parts) (around : List Parts) → Holds w out ts places ps around → Holds w (out ++ more) ts places ps around
  holds_more out more [] places ps [] h = are_more w out more ps places h
  holds_more out more [] places ps (qs ∷ around) h = h
  holds_more out more (Visit r k ∷ ts) places ps around h = holds_more out more ts places ps around h
  holds_more out more (Word p d i j ∷ ts) places ps around h = holds_more out more ts places ps around h
  holds_more out more (Close q n ∷ ts) places ps [] h = h
  holds_more out more (Close q n ∷ ts) places ps (qs ∷ around) h = (h.0, are_more w out more ps (drop n places) h.1, holds_more out more ts (take n places) qs around h.2)

  -- more parts of the open node
  holds_then : (out : List Flat) (ts : List Task) (places vs : List ℕ) (ps rs : Parts) (around : List Parts) → Holds w out ts places ps around → AreAt w out rs vs → Holds w out ts (places ++ vs) (parts_then ps rs) around
  holds_then out [] places vs ps rs [] h at = are_then w out ps rs places vs h at
  holds_then out [] places vs ps rs (qs ∷ around) h at = h
  holds_then out (Visit r k ∷ ts) places vs ps rs around h at = holds_then out ts places vs ps rs around h at
  holds_then out (Word p d i j ∷ ts) places vs ps rs around h at = holds_then out ts places vs ps rs around h at
  holds_then out (Close q n ∷ ts) places vs ps rs [] h at = h
  holds_then out (Close q n ∷ ts) places vs ps rs (qs ∷ around) h at =
      let long = length-append places vs in
      let le = h.0 in (
        omega arith,
        subst (λ (l : List ℕ). AreAt w out (parts_then ps rs) l) (sym (drop-append-le n places vs le)) (are_then w out ps rs (drop n places) vs h.1 at),
        subst (λ (l : List ℕ). Holds w out ts l qs around) (sym (take-append-le n places vs le)) h.2,
      )

  -- the places are those of parts that are there
  at_below : (out : List Flat) (ps : Parts) (vs : List ℕ) → AreAt w out ps vs → All (λ v. v < length out) vs
  at_below out done vs e = subst (λ (l : List ℕ). All (λ v. v < length out) l) (sym e) (All-nil (λ v. v < length out))
  at_below out (fixed u ps) vs h = at_below out ps vs h
  at_below out (leaf u ps) vs (v, i, j, us, e, at, is, h) = subst (λ (l : List ℕ). All (λ v. v < length out) l) (sym e) (All-cons (λ v. v < length out) v us (get_lt out v (leaf_at i j) at) (at_below out ps us h))
  at_below out (skip u ps) vs (v, i, j, us, e, at, is, h) = subst (λ (l : List ℕ). All (λ v. v < length out) l) (sym e) (All-cons (λ v. v < length out) v us (get_lt out v (skip_at i j) at) (at_below out ps us h))
  at_below out (sub q qs ps) vs (v, kids, us, e, at, hq, h) = subst (λ (l : List ℕ). All (λ v. v < length out) l) (sym e) (All-cons (λ v. v < length out) v us (get_lt out v (node q kids) at) (at_below out ps us h))

-- a rule that has an item is there
pub item_rule : (g : Grammar) (p d : ℕ) → d < length (items g p) → p < length g.rules
item_rule g p d lt = by_rules g.rules p lt
  where
    by_rules : (rs : List RulePart) (p : ℕ) → d < length (slice_index_or rs p no_rule).items → p < length rs
    by_rules [] p lt = absurd (omega arith)
    by_rules (r ∷ rs) zero lt = omega arith
    by_rules (r ∷ rs) (suc p) lt = omega (arith, by_rules rs p lt)

last_at : {X : Type 0} (xs : List X) (y : X) → slice_get (xs ++ y ∷ []) (length xs) ≡ Some y
last_at [] y = refl
last_at (x ∷ xs) y = last_at xs y

-- one more part, in order
pub order_push : (w : List ℕ) (parts : List SpeltPart) (part : SpeltPart) → AreInOrder w parts → IsInOrder (length w) (length parts) part → AreInOrder w (parts ++ part ∷ [])
order_push w parts part all here k x e = elim (get_push parts part x k e) [
  | inl old ↦ all k x old
  | inr new ↦ subst (λ n. IsInOrder (length w) n x) (sym new.0) (subst (λ p. IsInOrder (length w) (length parts) p) new.1 here)
]

pub order_none : (w : List ℕ) → AreInOrder w []
order_none w k x e = cc

flat_push : (parts : List SpeltPart) (part : SpeltPart) → map flat_of (parts ++ part ∷ []) ≡ map flat_of parts ++ flat_of part ∷ []
flat_push parts part = map-append flat_of parts (part ∷ [])

flat_last : (parts : List SpeltPart) (part : SpeltPart) → slice_get (map flat_of (parts ++ part ∷ [])) (length parts) ≡ Some (flat_of part)
flat_last parts part =
    ap (λ (l : List Flat). slice_get l (length parts)) (flat_push parts part) ∙ ap (λ n. slice_get (map flat_of parts ++ flat_of part ∷ []) n) (sym (length-map parts flat_of)) ∙ last_at (map flat_of parts) (flat_of part)

-- the places of parts stay where one more is written
pub flat_more : (w : List ℕ) (parts : List SpeltPart) (part : SpeltPart) (ps : Parts) (vs : List ℕ) → AreAt w (map flat_of parts) ps vs → AreAt w (map flat_of (parts ++ part ∷ [])) ps vs
flat_more w parts part ps vs h = subst (λ (l : List Flat). AreAt w l ps vs) (sym (flat_push parts part)) (are_more w (map flat_of parts) (flat_of part ∷ []) ps vs h)

pub places_below : (w : List ℕ) (parts : List SpeltPart) (ps : Parts) (vs : List ℕ) → AreAt w (map flat_of parts) ps vs → All (λ v. v < length parts) vs
places_below w parts ps vs h = subst (λ n. All (λ v. v < n) vs) (length-map parts flat_of) (at_below w (map flat_of parts) ps vs h)

module _ (g : Grammar) (w : List ℕ) (f : Forest) (cap : ℕ) (cs : List ℕ) where
  -- a new last part, which is one of the open node
  goes_added : (ts : List Task) (parts parts' : List SpeltPart) (places places' : List ℕ) (part : SpeltPart) (ps rs : Parts) (around : List Parts) (end : Parts) → Walks g w f cap cs ts (parts_then ps rs) around end → Holds w (map flat_of parts) ts places ps around → AreInOrder w parts → IsInOrder (length w) (length parts) part → AreAt w (map flat_of (parts ++ part ∷ [])) rs (length parts ∷ []) → Added parts places part parts' places' → Goes g w f cap cs ts parts' places' end
  goes_added ts parts parts' places places' part ps rs around end walks holds order here at added =
      let holds' : Holds w (map flat_of (parts ++ part ∷ [])) ts places ps around = subst (λ (l : List Flat). Holds w l ts places ps around) (sym (flat_push parts part)) (holds_more w (map flat_of parts) (flat_of part ∷ []) ts places ps around holds) in
      let then' = holds_then w (map flat_of (parts ++ part ∷ [])) ts places (length parts ∷ []) ps rs around holds' at in
      record {
        open_parts = parts_then ps rs;
        around = around;
        walks = walks;
        holds = subst (λ (l : List ℕ). Holds w (map flat_of parts') ts l (parts_then ps rs) around) (sym added.1) (subst (λ (l : List SpeltPart). Holds w (map flat_of l) ts (places ++ length parts ∷ []) (parts_then ps rs) around) (sym added.0) then');
        in_order = subst (λ (l : List SpeltPart). AreInOrder w l) (sym added.0) (order_push w parts part order here);
      }

  -- nothing is written
  goes_same : (ts : List Task) (parts parts' : List SpeltPart) (places places' : List ℕ) (ps rs : Parts) (around : List Parts) (end : Parts) → Walks g w f cap cs ts (parts_then ps rs) around end → Holds w (map flat_of parts) ts places ps around → AreInOrder w parts → AreAt w (map flat_of parts) rs [] → parts' ≡ parts → places' ≡ places → Goes g w f cap cs ts parts' places' end
  goes_same ts parts parts' places places' ps rs around end walks holds order at ep el =
      let then' = holds_then w (map flat_of parts) ts places [] ps rs around holds at in
      let same : Holds w (map flat_of parts) ts places (parts_then ps rs) around = subst (λ (l : List ℕ). Holds w (map flat_of parts) ts l (parts_then ps rs) around) (append-nil places) then' in
      record {
        open_parts = parts_then ps rs;
        around = around;
        walks = walks;
        holds = subst (λ (l : List ℕ). Holds w (map flat_of parts') ts l (parts_then ps rs) around) (sym el) (subst (λ (l : List SpeltPart). Holds w (map flat_of l) ts places (parts_then ps rs) around) (sym ep) same);
        in_order = subst (λ (l : List SpeltPart). AreInOrder w l) (sym ep) order;
      }

  word_goes : (item : GItem) (i j : ℕ) (ts : List Task) (parts parts' : List SpeltPart) (places places' : List ℕ) (ps : Parts) (around : List Parts) (end : Parts) → i ≤ j → j ≤ length w → Walks g w f cap cs ts (parts_then ps (word_part item (slice_range w i j))) around end → Holds w (map flat_of parts) ts places ps around → AreInOrder w parts → IsWordWritten item i j parts places parts' places' → Goes g w f cap cs ts parts' places' end
  word_goes (Fixed v) i j ts parts parts' places places' ps around end le lw walks holds order wr = goes_same ts parts parts' places places' ps (fixed (slice_range w i j) done) around end walks holds order refl wr.0 wr.1
  word_goes (Non n s) i j ts parts parts' places places' ps around end le lw walks holds order wr = goes_same ts parts parts' places places' ps done around end walks holds order refl wr.0 wr.1
  word_goes (Term t s) i j ts parts parts' places places' ps around end le lw walks holds order wr =
      goes_added ts parts parts' places places' (Leaf i j) ps (leaf (slice_range w i j) done) around end walks holds order (le, lw) (length parts, i, j, [], refl, flat_last parts (Leaf i j), refl, refl) wr
  word_goes (Ignored k) i j ts parts parts' places places' ps around end le lw walks holds order wr =
      goes_added ts parts parts' places places' (Skip i j) ps (skip (slice_range w i j) done) around end walks holds order (le, lw) (length parts, i, j, [], refl, flat_last parts (Skip i j), refl, refl) wr

  pub goes_word : (p d i j : ℕ) (ts : List Task) (parts parts' : List SpeltPart) (places places' : List ℕ) (end : Parts) → Goes g w f cap cs (Word p d i j ∷ ts) parts places end → IsWordWritten (item_of g p d) i j parts places parts' places' → Goes g w f cap cs ts parts' places' end
  goes_word p d i j ts parts parts' places places' end h wr =
      let k = h.walks in
      let same : item_of g p d ≡ k.0 = get_or_is (items g p) d k.0 _ k.1 in
      word_goes k.0 i j ts parts parts' places places' h.open_parts h.around end k.2 k.3 k.4 h.holds h.in_order (subst (λ x. IsWordWritten x i j parts places parts' places') same wr)

  pub goes_close : (q n : ℕ) (ts : List Task) (parts parts' : List SpeltPart) (places places' : List ℕ) (end : Parts) → Goes g w f cap cs (Close q n ∷ ts) parts places end → Added parts (take n places) (Node q (drop n places)) parts' places' → Goes g w f cap cs ts parts' places' end
  goes_close q n ts parts parts' places places' end h added = go h.open_parts h.around h.walks h.holds
    where
      go : (ps : Parts) (around : List Parts) → Walks g w f cap cs (Close q n ∷ ts) ps around end → Holds w (map flat_of parts) (Close q n ∷ ts) places ps around → Goes g w f cap cs ts parts' places' end
      go ps [] walks holds = absurd walks
      go ps (qs ∷ around) walks (le, at, rest) =
          goes_added ts parts parts' (take n places) places' (Node q (drop n places)) qs (sub q ps done) around end walks rest h.in_order
          (places_below w parts ps (drop n places) at)
          (length parts, drop n places, [], refl, flat_last parts (Node q (drop n places)), flat_more w parts (Node q (drop n places)) ps (drop n places) at, refl)
          added

  -- nothing is left to be written
  pub goes_end : (parts : List SpeltPart) (places : List ℕ) (end : Parts) → Goes g w f cap cs [] parts places end → AreWritten w end parts places
  goes_end parts places end h = go h.open_parts h.around h.walks h.holds
    where
      go : (ps : Parts) (around : List Parts) → Walks g w f cap cs [] ps around end → Holds w (map flat_of parts) [] places ps around → AreWritten w end parts places
      go ps [] walks holds = record { at = subst (λ x. AreAt w (map flat_of parts) x places) walks holds; in_order = h.in_order }
      go ps (qs ∷ around) walks holds = absurd walks

  -- where a node is closed, its kids' places are there
  pub close_can : (q n : ℕ) (ts : List Task) (parts : List SpeltPart) (places : List ℕ) (end : Parts) → Goes g w f cap cs (Close q n ∷ ts) parts places end → n ≤ length places
  close_can q n ts parts places end h = go h.open_parts h.around h.walks h.holds
    where
      go : (ps : Parts) (around : List Parts) → Walks g w f cap cs (Close q n ∷ ts) ps around end → Holds w (map flat_of parts) (Close q n ∷ ts) places ps around → n ≤ length places
      go ps [] walks holds = absurd walks
      go ps (qs ∷ around) walks holds = holds.0

  holds_child : (o : Option ℕ) (k : ℕ) (out : List Flat) (ts : List Task) (places : List ℕ) (ps : Parts) (around : List Parts) → Holds w out ts places ps around → Holds w out (child_task o k ++ ts) places ps around
  holds_child None k out ts places ps around h = h
  holds_child (Some r) k out ts places ps around h = h

  module _ (right : IsRight g w f) where
    walks_child : (o : Option ℕ) (k : ℕ) (u : Unfolding) (ts : List Task) (ps : Parts) (around : List Parts) (end : Parts) → At f cap cs o k u → k < count_of cs o → IsInside g w f right o → Walks g w f cap cs ts (parts_then ps (read g w f o u)) around end → Walks g w f cap cs (child_task o k ++ ts) ps around end
    walks_child None k u ts ps around end at lt inside h = subst (λ x. Walks g w f cap cs ts x around end) (then_done ps) h
    walks_child (Some r) k u ts ps around end at lt inside h = (u, at, lt, inside, h)

    -- the first task
    pub goes_first : (o : Option ℕ) (k : ℕ) (u : Unfolding) → At f cap cs o k u → k < count_of cs o → IsInside g w f right o → Goes g w f cap cs (child_task o k) [] [] (read g w f o u)
    goes_first o k u at lt inside = record {
      open_parts = done;
      around = [];
      walks = subst (λ (l : List Task). Walks g w f cap cs l done [] (read g w f o u)) (append-nil (child_task o k)) (walks_child o k u [] done [] (read g w f o u) at lt inside refl);
      holds = subst (λ (l : List Task). Holds w [] l [] done []) (append-nil (child_task o k)) (holds_child o k [] [] [] done [] refl);
      in_order = order_none w;
    }

    -- the alternatives of a front that is a row, and where its last item lies
    module _ (ts : List Task) (parts : List SpeltPart) (places : List ℕ) (end : Parts) (ps : Parts) (around : List Parts) (holds : Holds w (map flat_of parts) ts places ps around) (order : AreInOrder w parts) where
      item_walks : (p d i j : ℕ) (item : GItem) (o : Option ℕ) (y : ℕ) (t : Unfolding) (qs : Parts) → ItemAt g p d item → i ≤ j → j ≤ length w → At f cap cs o y t → y < count_of cs o → IsInside g w f right o → Walks g w f cap cs ts (parts_then qs (last_part item (slice_range w i j) o (read g w f o t))) around end → Walks g w f cap cs (item_task p d i j o y ∷ ts) qs around end
      item_walks p d i j item None y t qs item_at le lw at lt inside h = (item, item_at, le, lw, h)
      item_walks p d i j item (Some c) y t qs item_at le lw at lt inside h = (t, at, lt, inside, h)

      item_holds : (p d i j : ℕ) (o : Option ℕ) (y : ℕ) → Holds w (map flat_of parts) (item_task p d i j o y ∷ ts) places ps around
      item_holds p d i j None y = holds
      item_holds p d i j (Some c) y = holds

      -- a front is taken apart
      front_goes : (r p d i j m : ℕ) (item : GItem) (a : Alt) (x y e : ℕ) (l t : Unfolding) → IsRow f r (Front p (suc d)) i j → FrontAlt g w f p d i j m item a → i ≤ length w → e ≡ d → At f cap cs a.left x l → x < count_of cs a.left → At f cap cs a.right y t → y < count_of cs a.right → IsInside g w f right a.left → IsInside g w f right a.right → Walks g w f cap cs ts (parts_then ps (read g w f (Some r) (pick a l t))) around end → Goes g w f cap cs (child_task a.left x ++ item_task p e (end_of f i a.left) j a.right y ∷ ts) parts places end
      front_goes r p d i j m item a x y e l t row by inside same al lx at ly il it walks =
          let m_in = spelt_inside g w f right (take d (items g p)) i m by.before inside in
          let j_in = spelt_inside g w f right (item ∷ []) m j by.last m_in in
          let m_le = Reads-is w m (parts_yield by.last.0) j by.last.1.1 in
          let stop : end_of f i a.left ≡ m = end_is f p d i m a.left by.left_is in
          let reads = read_front g w f r p d i j m item a l t row by in
          let walks' : Walks g w f cap cs ts (parts_then (parts_then ps (read g w f a.left l)) (last_part item (slice_range w m j) a.right (read g w f a.right t))) around end = subst (λ z. Walks g w f cap cs ts z around end) (ap (parts_then ps) reads ∙ sym (then_assoc ps (read g w f a.left l) (last_part item (slice_range w m j) a.right (read g w f a.right t)))) walks in
          let after = item_walks p d m j item a.right y t (parts_then ps (read g w f a.left l)) by.item_is (omega arith) j_in at ly it walks' in
          let all = walks_child a.left x l (item_task p d m j a.right y ∷ ts) ps around end al lx il after in
          let goes : Goes g w f cap cs (child_task a.left x ++ item_task p d m j a.right y ∷ ts) parts places end = record { open_parts = ps; around = around; walks = all; holds = holds_child a.left x (map flat_of parts) (item_task p d m j a.right y ∷ ts) places ps around (item_holds p d m j a.right y); in_order = order } in
          subst (λ n. Goes g w f cap cs (child_task a.left x ++ item_task p n (end_of f i a.left) j a.right y ∷ ts) parts places end) (sym same) (subst (λ n. Goes g w f cap cs (child_task a.left x ++ item_task p d n j a.right y ∷ ts) parts places end) (sym stop) goes)

      -- a row of a nonterminal is taken apart
      whole_goes : (r n i j : ℕ) (a : Alt) (x : ℕ) (l t : Unfolding) → IsRow f r (Whole n) i j → At f cap cs a.left x l → x < count_of cs a.left → IsInside g w f right a.left → Walks g w f cap cs ts (parts_then ps (read g w f (Some r) (pick a l t))) around end → Goes g w f cap cs (child_task a.left x ++ Close a.rule (length places) ∷ ts) parts places end
      whole_goes r n i j a x l t row al lx il walks =
          let walks' : Walks g w f cap cs ts (parts_then ps (sub a.rule (read g w f a.left l) done)) around end = subst (λ z. Walks g w f cap cs ts (parts_then ps z) around end) (read_whole g w f r n i j a l t row) walks in
          record {
            open_parts = done;
            around = ps ∷ around;
            walks = walks_child a.left x l (Close a.rule (length places) ∷ ts) done (ps ∷ around) end al lx il walks';
            holds = holds_child a.left x (map flat_of parts) (Close a.rule (length places) ∷ ts) places done (ps ∷ around) (omega arith, drop_all (length places) places (omega arith), subst (λ (l : List ℕ). Holds w (map flat_of parts) ts l ps around) (sym (take-length places)) holds);
            in_order = order;
          }

    -- a row's unfolding is taken apart
    pub goes_visit : (r k : ℕ) (ts : List Task) (parts : List SpeltPart) (places : List ℕ) (end : Parts) (n : ℕ) (c : Chosen) → Goes g w f cap cs (Visit r k ∷ ts) parts places end → r < length f → IsChosen cap cs (alts_of f r) k n c.left c.right c.alt → Goes g w f cap cs (child_task c.alt.left c.left ++ last_task f (key_of f r).what (key_of f r) c (length places) ∷ ts) parts places end
    goes_visit r k ts parts places end n c h lt is = by_kind (key_of f r).what refl (right.sound r (key_of f r).what (key_of f r).start (key_of f r).end c.alt (lt, refl) (contains_of (alts_of f r) n c.alt is.alt))
      where
        v : (u : Unfolding) × At f cap cs (Some r) k u × (k < count_of cs (Some r)) × ((key_of f r).start ≤ length w) × Walks g w f cap cs ts (parts_then h.open_parts (read g w f (Some r) u)) h.around end
        v = h.walks

        ch : (l : Unfolding) × (t : Unfolding) × (v.0 ≡ pick c.alt l t) × At f cap cs c.alt.left c.left l × At f cap cs c.alt.right c.right t
        ch = chosen_at f cap cs r k n c.left c.right c.alt is v.0 v.1

        walks : Walks g w f cap cs ts (parts_then h.open_parts (read g w f (Some r) (pick c.alt ch.0 ch.1))) h.around end
        walks = subst (λ u. Walks g w f cap cs ts (parts_then h.open_parts (read g w f (Some r) u)) h.around end) ch.2 v.4

        inside : IsInside g w f right c.alt.left × IsInside g w f right c.alt.right
        inside = children_inside g w f right r n c.alt lt is.alt v.3

        lx : c.left < count_of cs c.alt.left
        lx = left_within cap cs (alts_of f r) k n c.left c.right c.alt is

        by_kind : (what : What) → (key_of f r).what ≡ what → IsAlt g w f (key_of f r).what (key_of f r).start (key_of f r).end c.alt → Goes g w f cap cs (child_task c.alt.left c.left ++ last_task f (key_of f r).what (key_of f r) c (length places) ∷ ts) parts places end
        by_kind (Whole m) e alt =
            let row : IsRow f r (Whole m) (key_of f r).start (key_of f r).end = (lt, ap (λ x. key_at x (key_of f r).start (key_of f r).end) e) in
            subst (λ x. Goes g w f cap cs (child_task c.alt.left c.left ++ last_task f x (key_of f r) c (length places) ∷ ts) parts places end) (sym e)
            (whole_goes ts parts places end h.open_parts h.around h.holds h.in_order r m (key_of f r).start (key_of f r).end c.alt c.left ch.0 ch.1 row ch.3 lx inside.0 walks)
        by_kind (Front p zero) e alt = absurd (subst (λ x. IsAlt g w f x (key_of f r).start (key_of f r).end c.alt) e alt)
        by_kind (Front p (suc d)) e alt =
            let row : IsRow f r (Front p (suc d)) (key_of f r).start (key_of f r).end = (lt, ap (λ x. key_at x (key_of f r).start (key_of f r).end) e) in
            let b = subst (λ x. IsAlt g w f x (key_of f r).start (key_of f r).end c.alt) e alt in
            subst (λ x. Goes g w f cap cs (child_task c.alt.left c.left ++ last_task f x (key_of f r) c (length places) ∷ ts) parts places end) (sym e)
            (front_goes ts parts places end h.open_parts h.around h.holds h.in_order r p d (key_of f r).start (key_of f r).end b.0 b.1 c.alt c.left c.right (suc d - 1) ch.0 ch.1 row b.2 v.3 (omega arith) ch.3 lx ch.4 is.within inside.0 inside.1 walks)

    pub visit_there : (r k : ℕ) (ts : List Task) (parts : List SpeltPart) (places : List ℕ) (end : Parts) → Goes g w f cap cs (Visit r k ∷ ts) parts places end → r < length f
    visit_there r k ts parts places end h = there h.walks.0 h.walks.1
      where
        there : (u : Unfolding) → At f cap cs (Some r) k u → r < length f
        there bare at = absurd at
        there (pick a l t) at = at.0

    pub visit_within : (r k : ℕ) (ts : List Task) (parts : List SpeltPart) (places : List ℕ) (end : Parts) → Goes g w f cap cs (Visit r k ∷ ts) parts places end → k < count_of cs (Some r)
    visit_within r k ts parts places end h = h.walks.2

    -- a row of first items has one at least
    pub dotted : (r p d : ℕ) → r < length f → (key_of f r).what ≡ Front p d → zero < d
    dotted r p d lt e =
        let h = right.dotted r p d (key_of f r).start (key_of f r).end (lt, ap (λ x. key_at x (key_of f r).start (key_of f r).end) e) in
        h.0

  pub word_can : (p d i j : ℕ) (ts : List Task) (parts : List SpeltPart) (places : List ℕ) (end : Parts) → Goes g w f cap cs (Word p d i j ∷ ts) parts places end → (p < length g.rules) × (d < length (items g p))
  word_can p d i j ts parts places end h = let lt = get_lt (items g p) d h.walks.0 h.walks.1 in (item_rule g p d lt, lt)

-- what is written, and what the tasks write then, ends with all parts of the unfolding
abbrev pub Remains : Source → Option ℕ → ℕ → List Task → List SpeltPart → List ℕ → Type 0
Remains s o k tasks parts places = (u : Unfolding) → At s.forest.now s.cap s.counts.now o k u → Goes s.g.now s.doc.now s.forest.now s.cap s.counts.now (reverse tasks) parts places (read s.g.now s.doc.now s.forest.now o u)

module _ (s : Source) (is : IsSource s) where
  child_inside : (o : Option ℕ) → HasChild s o → IsInside s.g.now s.doc.now s.forest.now is.right o
  child_inside None h = tt
  child_inside (Some r) h = h.1

  pub some_unfolding : (o : Option ℕ) (k : ℕ) → HasChild s o → k < count_of s.counts.now o → (u : Unfolding) × At s.forest.now s.cap s.counts.now o k u
  some_unfolding None k h lt = (bare, omega arith)
  some_unfolding (Some r) k h lt = numbered s.g.now s.doc.now s.forest.now is.right s.cap s.counts.now is.counted (Some r) (h.0, h.0) k lt

  pub remains_first : (o : Option ℕ) (k : ℕ) (tasks : List Task) (parts : List SpeltPart) (places : List ℕ) → HasChild s o → k < count_of s.counts.now o → tasks ≡ child_task o k → parts ≡ [] → places ≡ [] → Remains s o k tasks parts places
  remains_first o k tasks parts places h lt first no_parts no_places u at =
      let end = read s.g.now s.doc.now s.forest.now o u in
      let back : reverse tasks ≡ child_task o k = ap reverse first ∙ (rev_child [] o k ∙ append-nil (child_task o k)) in
      rw (back, no_parts, no_places) (goes_first s.g.now s.doc.now s.forest.now s.cap s.counts.now is.right o k u at lt (child_inside o h))

  -- what the next task needs is there
  task_can : (task : Task) (ts : List Task) (parts : List SpeltPart) (places : List ℕ) (end : Parts) → Goes s.g.now s.doc.now s.forest.now s.cap s.counts.now (task ∷ ts) parts places end → CanDo s task (length places)
  task_can (Visit r k) ts parts places end h =
      let there = visit_there s.g.now s.doc.now s.forest.now s.cap s.counts.now is.right r k ts parts places end h in
      let lt = visit_within s.g.now s.doc.now s.forest.now s.cap s.counts.now is.right r k ts parts places end h in
      record { there = there; within = subst (λ n. k < n) (is.counted r there) lt }
  task_can (Word p d i j) ts parts places end h = word_can s.g.now s.doc.now s.forest.now s.cap s.counts.now p d i j ts parts places end h
  task_can (Close q n) ts parts places end h = close_can s.g.now s.doc.now s.forest.now s.cap s.counts.now q n ts parts places end h

  -- the next task is done
  task_done : (task : Task) (old new : List Task) (parts parts' : List SpeltPart) (places places' : List ℕ) (end : Parts) → Goes s.g.now s.doc.now s.forest.now s.cap s.counts.now (task ∷ reverse old) parts places end → IsDone s.g.now s.forest.now s.cap s.counts.now task old parts places new parts' places' → Goes s.g.now s.doc.now s.forest.now s.cap s.counts.now (reverse new) parts' places' end
  task_done (Visit r k) old new parts parts' places places' end h (v, ep, el) =
      let there = visit_there s.g.now s.doc.now s.forest.now s.cap s.counts.now is.right r k (reverse old) parts places end h in
      let goes = goes_visit s.g.now s.doc.now s.forest.now s.cap s.counts.now is.right r k (reverse old) parts places end v.alt_number v.found h there v.is in
      let last = last_task s.forest.now (key_of s.forest.now r).what (key_of s.forest.now r) v.found (length places) in
      let back : reverse new ≡ child_task v.found.alt.left v.found.left ++ last_task s.forest.now (key_of s.forest.now r).what (key_of s.forest.now r) v.found (length places) ∷ reverse old = ap reverse v.tasks ∙ (rev_child (old ++ last ∷ []) v.found.alt.left v.found.left ∙ ap (λ (l : List Task). child_task v.found.alt.left v.found.left ++ l) (rev_push old last)) in
      subst (λ (l : List Task). Goes s.g.now s.doc.now s.forest.now s.cap s.counts.now l parts' places' end) (sym back)
      (subst (λ (l : List SpeltPart). Goes s.g.now s.doc.now s.forest.now s.cap s.counts.now (child_task v.found.alt.left v.found.left ++ last_task s.forest.now (key_of s.forest.now r).what (key_of s.forest.now r) v.found (length places) ∷ reverse old) l places' end) (sym ep)
      (subst (λ (l : List ℕ). Goes s.g.now s.doc.now s.forest.now s.cap s.counts.now (child_task v.found.alt.left v.found.left ++ last_task s.forest.now (key_of s.forest.now r).what (key_of s.forest.now r) v.found (length places) ∷ reverse old) parts l end) (sym el) goes))
  task_done (Word p d i j) old new parts parts' places places' end h (e, wr) = subst (λ (l : List Task). Goes s.g.now s.doc.now s.forest.now s.cap s.counts.now (reverse l) parts' places' end) (sym e) (goes_word s.g.now s.doc.now s.forest.now s.cap s.counts.now p d i j (reverse old) parts parts' places places' end h wr)
  task_done (Close q n) old new parts parts' places places' end h (e, added) = subst (λ (l : List Task). Goes s.g.now s.doc.now s.forest.now s.cap s.counts.now (reverse l) parts' places' end) (sym e) (goes_close s.g.now s.doc.now s.forest.now s.cap s.counts.now q n (reverse old) parts parts' places places' end h added)

  next_goes : (o : Option ℕ) (k : ℕ) (all tasks : List Task) (task : Task) (parts : List SpeltPart) (places : List ℕ) → Remains s o k all parts places → all ≡ tasks ++ task ∷ [] → (u : Unfolding) → At s.forest.now s.cap s.counts.now o k u → Goes s.g.now s.doc.now s.forest.now s.cap s.counts.now (task ∷ reverse tasks) parts places (read s.g.now s.doc.now s.forest.now o u)
  next_goes o k all tasks task parts places remains popped u at =
      subst (λ (l : List Task). Goes s.g.now s.doc.now s.forest.now s.cap s.counts.now l parts places (read s.g.now s.doc.now s.forest.now o u)) (ap reverse popped ∙ rev_push tasks task) (remains u at)

  pub remains_can : (o : Option ℕ) (k : ℕ) (all tasks : List Task) (task : Task) (parts : List SpeltPart) (places : List ℕ) → HasChild s o → k < count_of s.counts.now o → Remains s o k all parts places → all ≡ tasks ++ task ∷ [] → CanDo s task (length places)
  remains_can o k all tasks task parts places h lt remains popped =
      let u = some_unfolding o k h lt in
      task_can task (reverse tasks) parts places (read s.g.now s.doc.now s.forest.now o u.0) (next_goes o k all tasks task parts places remains popped u.0 u.1)

  pub remains_next : (o : Option ℕ) (k : ℕ) (all tasks new : List Task) (task : Task) (parts parts' : List SpeltPart) (places places' : List ℕ) → Remains s o k all parts places → all ≡ tasks ++ task ∷ [] → IsDone s.g.now s.forest.now s.cap s.counts.now task tasks parts places new parts' places' → Remains s o k new parts' places'
  remains_next o k all tasks new task parts parts' places places' remains popped done' u at =
      task_done task tasks new parts parts' places places' (read s.g.now s.doc.now s.forest.now o u) (next_goes o k all tasks task parts places remains popped u at) done'

  pub remains_none : (o : Option ℕ) (k : ℕ) (tasks : List Task) (parts : List SpeltPart) (places : List ℕ) (u : Unfolding) → Remains s o k tasks parts places → tasks ≡ [] → At s.forest.now s.cap s.counts.now o k u → AreWritten s.doc.now (read s.g.now s.doc.now s.forest.now o u) parts places
  remains_none o k tasks parts places u remains empty at =
      let end = read s.g.now s.doc.now s.forest.now o u in
      goes_end s.g.now s.doc.now s.forest.now s.cap s.counts.now parts places end
      (subst (λ (l : List Task). Goes s.g.now s.doc.now s.forest.now s.cap s.counts.now l parts places end) (ap reverse empty) (remains u at))
