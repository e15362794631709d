-- The last set grows by items that stand.
use Rattle.std.proofs.Common.{◌≡◌, ◌≢◌, ℕ, ◌<◌, List, ◌++◌, length, get_or, Some, inl, inr, sym, ◌∙◌, ap, subst, arith, length-append}
use Rattle.std.specs.Prelude.{Contains, slice_get}
use Rattle.std.proofs.lemmas.Bool.{cases_eq}
use Rattle.std.proofs.lemmas.List.{get_or_append_left}
use Rattle.std.proofs.lemmas.List.Elements.{Contains-append_cases}
use Rattle.std.proofs.lemmas.Option.{slice_get_within, slice_get-get_or, get_or_from_slice_get}
use Rattle.xs_chart.specs.declared.item.Item.{Item}
use Rattle.xs_chart.specs.Charted.{Charted, items_of, waiting_of}
use Rattle.xs_gram.specs.declared.places.Place.{Place}
use Rattle.xs_gram.specs.Grammar.{Grammar}
use Rattle.xs_gram.specs.Places.{at_dot}
use Rattle.xs_chart_laws.specs.Steps.{next_of, IsSettled}
use Rattle.xs_chart_laws.specs.Charts.{set_at, HasPlace, ItemStands, AllItemsStand}
use Rattle.xs_chart_laws.proofs.Settling.{has_place_more}
use Rattle.xs_earley.specs.Adding.{Puts}
use Rattle.xs_earley.specs.Growing.{Standing, Grown, IsSettledAt, IsExact, IsOpen}
use Rattle.xs_earley.proofs.Additions.{puts_none, puts_then, puts_kept}

-- an item keeps its number
pub put_item : (at : ℕ) (P : Item → Type 0) (a b : List (List Item)) → Puts at P a b → (k : ℕ) (item : Item) → k < length (set_at a at) → slice_get (set_at b at) k ≡ Some item → slice_get (set_at a at) k ≡ Some item
put_item at P a b puts k item lt e =
    let there : get_or (set_at b at) k item ≡ item = get_or_from_slice_get (set_at b at) k item item e in
    let front = get_or_append_left (set_at a at) puts.more item k lt in
    slice_get-get_or (set_at a at) k item lt ∙ ap (λ x. Some x) (sym front ∙ sym (ap (λ (l : List Item). get_or l k item) puts.last) ∙ there)

pub put_item_more : (at : ℕ) (P : Item → Type 0) (a b : List (List Item)) → Puts at P a b → (k : ℕ) (item : Item) → slice_get (set_at a at) k ≡ Some item → slice_get (set_at b at) k ≡ Some item
put_item_more at P a b puts k item e =
    let lt = slice_get_within (set_at a at) k item e in
    let front = get_or_append_left (set_at a at) puts.more item k lt in
    let longer : k < length (set_at b at) = longer_of (set_at a at) puts.more (set_at b at) puts.last lt in
    slice_get-get_or (set_at b at) k item longer ∙ ap (λ x. Some x) (ap (λ (l : List Item). get_or l k item) puts.last ∙ front ∙ get_or_from_slice_get (set_at a at) k item item e)
  where
    longer_of : (xs more ys : List Item) → ys ≡ xs ++ more → k < length xs → k < length ys
    longer_of xs more ys is lt = rw is (omega (arith, length-append {A = Item}))

-- the waiting list of a set that is the same is exact where it was
pub exact_same : (g : Grammar) (old new : Charted) (j non : ℕ) → items_of new j ≡ items_of old j → waiting_of new j non ≡ waiting_of old j non → IsExact g old j non → IsExact g new j non
exact_same g old new j non items same exact n = (
  (λ h. let x = (exact n).0 (subst (λ (l : List ℕ). Contains l n) same h) in (x.0, subst (λ (l : List Item). slice_get l n ≡ Some x.0) (sym items) x.1, x.2)),
  (λ x. subst (λ (l : List ℕ). Contains l n) (sym same) ((exact n).1 (x.0, subst (λ (l : List Item). slice_get l n ≡ Some x.0) items x.1, x.2))),
)

module _ (g : Grammar) (w : List ℕ) (at : ℕ) where
  pub grown_none : (a : List (List Item)) → Grown g w at a a
  grown_none a = puts_none at (Standing g w at) a

  pub grown_then : (a b c : List (List Item)) → Grown g w at a b → Grown g w at b c → Grown g w at a c
  grown_then a b c first next = puts_then at (Standing g w at) (Standing g w at) (Standing g w at) a b c (λ item h. h) (λ item h. h) first next

  pub grown_stand : (a b : List (List Item)) → Grown g w at a b → AllItemsStand g w a → AllItemsStand g w b
  grown_stand a b grown all k item h = elim (cases_eq k at) [
    | inl e ↦ subst (λ j. ItemStands g w item j) (sym e) (here (subst (λ j. Contains (set_at b j) item) e h))
    | inr ne ↦ all k item (subst (λ (l : List Item). Contains l item) (grown.others k ne) h)
  ]
    where
      here : Contains (set_at b at) item → ItemStands g w item at
      here x = elim (Contains-append_cases (set_at a at) grown.more item (subst (λ (l : List Item). Contains l item) grown.last x)) [ inl y ↦ all at item y | inr y ↦ grown.each item y ]

  -- an item of this set that is settled stays so
  pub settled_more : (a b : List (List Item)) → Grown g w at a b → (c : Place) (i : ℕ) → IsSettled g (HasPlace g a) at c i → IsSettled g (HasPlace g b) at c i
  settled_more a b grown c i h = record {
    passed = λ p. more (next_of c) i (h.passed p);
    called = λ non q before rule. more (at_dot q 0) at (h.called non q before rule);
    completed = λ non d o end lt has before. more (next_of d) o (h.completed non d o end lt (back i d o lt has) before);
  }
    where
      more : (d : Place) (o : ℕ) → HasPlace g a at d o → HasPlace g b at d o
      more d o x = has_place_more g a b at d o (puts_kept at (Standing g w at) a b grown at) x

      back : (j : ℕ) (d : Place) (o : ℕ) → j < at → HasPlace g b j d o → HasPlace g a j d o
      back j d o lt x = let ne : j ≢ at = omega arith in has_place_more g b a j d o (λ item. subst (λ (l : List Item). Contains l item) (grown.others j ne)) x

  pub settled_at_more : (a b : List (List Item)) → Grown g w at a b → (k : ℕ) → k < length (set_at a at) → IsSettledAt g a at k → IsSettledAt g b at k
  settled_at_more a b grown k lt h item c e num = settled_more a b grown c item.origin (h item c (put_item at (Standing g w at) a b grown k item lt e) num)

  -- the set stays open
  pub open_more : (old new : Charted) → Grown g w at old.sets new.sets → ((j non : ℕ) → j < at → waiting_of new j non ≡ waiting_of old j non) → IsOpen g w at old → IsOpen g w at new
  open_more old new grown same ready = record {
    last = grown.counted ∙ ready.last;
    within = ready.within;
    stand = grown_stand old.sets new.sets grown ready.stand;
    waiting = λ j non lt. exact_same g old new j non (let ne : j ≢ at = omega arith in grown.others j ne) (same j non lt) (ready.waiting j non lt);
  }
