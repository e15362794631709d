-- Waiting lists of the set that is closed.
use Rattle.std.proofs.Common.{◌≡◌, ◌≢◌, ℕ, zero, suc, ◌+◌, ◌<◌, List, [], ◌∷◌, ◌++◌, length, Some, refl, sym, ◌∙◌, ap, subst, arith, ◌⊎◌, inl, inr, ◌↔◌}
use Rattle.std.specs.Prelude.{Contains, slice_get}
use Rattle.std.proofs.lemmas.Bool.{cases_eq, cases_lt}
use Rattle.std.proofs.lemmas.Option.{slice_get_within}
use Rattle.std.proofs.lemmas.List.Elements.{Contains-append_left, Contains-push, Contains-push_cases}
use Rattle.xs_class.proofs.Lists.{contains_of, some_same}
use Rattle.xs_chart.specs.declared.item.Item.{Item}
use Rattle.xs_chart.specs.Charted.{Charted, items_of, waiting_of, last_set}
use Rattle.xs_gram.specs.declared.parts.GItem.TheVariants.{Non}
use Rattle.xs_gram.specs.declared.places.Place.{Place}
use Rattle.xs_gram.specs.Grammar.{Grammar, items}
use Rattle.xs_chart_laws.specs.Steps.{IsBefore}
use Rattle.xs_chart_laws.specs.Charts.{IsNumber, IsNumberBefore}
use Rattle.xs_earley.specs.Growing.{Grown, Standing, IsExact}
use Rattle.xs_gram.specs.Places.{all_places}
use Rattle.xs_chart_laws.proofs.Words.{get_some}
use Rattle.xs_earley.specs.declared.facts.Facts.{Facts}
use Rattle.xs_earley.specs.declared.rows.Row.{Row}
use Rattle.xs_earley.specs.declared.rows.Stand.TheVariants.{AtNon}
use Rattle.xs_earley.specs.Facts.{row_at, IsStand, AreFacts}
use Rattle.xs_earley.proofs.Settlings.{row_is, before_stand}
use Rattle.xs_earley.specs.Waiting.{Waited, IsWaiting, WaitsBelow}
use Rattle.xs_chart.proofs.Advancing.{no_element}
use Rattle.xs_earley.proofs.Additions.{last_at}
use Rattle.xs_earley.proofs.Completing.{before_at, waiting_same}
use Rattle.xs_earley.proofs.Growths.{put_item, put_item_more}
use Rattle.xs_chart_laws.proofs.Settling.{same_non}

-- a place is before one nonterminal
before_once : (g : Grammar) (c : Place) (m n : ℕ) → IsBefore g c m → IsBefore g c n → m ≡ n
before_once g c m n a b = same_non m n a.1 b.1 (some_same (slice_get (items g c.rule) c.dot) (Non m a.1) (Non n b.1) a.2 b.2)

-- a number is put in the list of the nonterminal before which it stands
pub waited_some : (g : Grammar) (old new : Charted) (at k state non : ℕ) (place : Place) → length old.sets ≡ suc at → IsNumber g state place → IsBefore g place non → waiting_of new (last_set old) non ≡ waiting_of old (last_set old) non ++ k ∷ [] → ((other : ℕ) → other ≢ non → waiting_of new (last_set old) other ≡ waiting_of old (last_set old) other) → ((set other : ℕ) → set ≢ last_set old → waiting_of new set other ≡ waiting_of old set other) → Waited g at k state old new
waited_some g old new at k state non place last num before here others earlier = record { elsewhere = elsewhere; there = there }
  where
    e : last_set old ≡ at
    e = last_at old at last

    elsewhere : (j m : ℕ) → j ≢ at → waiting_of new j m ≡ waiting_of old j m
    elsewhere j m ne = earlier j m (λ f. ne (f ∙ e))

    there : (m : ℕ) → (IsNumberBefore g state m × (waiting_of new at m ≡ waiting_of old at m ++ k ∷ [])) ⊎ ((IsNumberBefore g state m → ⊥) × (waiting_of new at m ≡ waiting_of old at m))
    there m = elim (cases_eq m non) [
      | inl same ↦ inl (subst (λ n. IsNumberBefore g state n) (sym same) (place, num, before), subst (λ n. waiting_of new at n ≡ waiting_of old at n ++ k ∷ []) (sym same) (subst (λ j. waiting_of new j non ≡ waiting_of old j non ++ k ∷ []) e here))
      | inr ne ↦ inr ((λ h. ne (before_once g place m non (before_at g state m place h num) before)), subst (λ j. waiting_of new j m ≡ waiting_of old j m) e (others m ne))
    ]

-- and in none where it stands before none
pub waited_none : (g : Grammar) (old new : Charted) (at k state : ℕ) (place : Place) → new.waits ≡ old.waits → IsNumber g state place → ((non : ℕ) → IsBefore g place non → ⊥) → Waited g at k state old new
waited_none g old new at k state place same num never = record {
  elsewhere = λ j m ne. waiting_same old new j m same;
  there = λ m. inr ((λ h. never m (before_at g state m place h num)), waiting_same old new at m same);
}

-- where the waiting lists were as they are when the number is put there
pub waited_after : (g : Grammar) (old mid new : Charted) (at k state : ℕ) → mid.waits ≡ old.waits → Waited g at k state mid new → Waited g at k state old new
waited_after g old mid new at k state same waited = record {
  elsewhere = λ j m ne. waited.elsewhere j m ne ∙ waiting_same old mid j m same;
  there = λ m. elim (waited.there m) [
    | inl h ↦ inl (h.0, h.1 ∙ ap (λ (l : List ℕ). l ++ k ∷ []) (waiting_same old mid at m same))
    | inr h ↦ inr (h.0, h.1 ∙ waiting_same old mid at m same)
  ];
}

-- the list has the numbers below k that have the property, each once
record AreBelow (list : List ℕ) (k : ℕ) (P : ℕ → Type 0) : Type 0 where
  exact : (n : ℕ) → Contains list n ↔ ((n < k) × P n)
  once : (a b n : ℕ) → slice_get list a ≡ Some n → slice_get list b ≡ Some n → a ≡ b

get_push : (xs : List ℕ) (y a n : ℕ) → slice_get (xs ++ y ∷ []) a ≡ Some n → (slice_get xs a ≡ Some n) ⊎ ((a ≡ length xs) × (n ≡ y))
get_push [] y zero n e = inr (refl, cc)
get_push [] y (suc a) n e = absurd (cc)
get_push (x ∷ xs) y zero n e = inl e
get_push (x ∷ xs) y (suc a) n e = elim (get_push xs y a n e) [ inl h ↦ inl h | inr h ↦ inr (ap suc h.0, h.1) ]

below_push : (list : List ℕ) (k : ℕ) (P : ℕ → Type 0) → P k → AreBelow list k P → AreBelow (list ++ k ∷ []) (k + 1) P
below_push list k P p below = record { exact = λ n. (to n, from n); once = once }
  where
    never : (n : ℕ) → n ≡ k → Contains list n → ⊥
    never n e h = let lt = ((below.exact n).0 h).0 in absurd (omega arith)

    to : (n : ℕ) → Contains (list ++ k ∷ []) n → (n < k + 1) × P n
    to n h = elim (Contains-push_cases list k n h) [
      | inl x ↦ (let y = (below.exact n).0 x in (omega (arith, y.0), y.1))
      | inr e ↦ (omega (arith, e), subst P e p)
    ]

    from : (n : ℕ) → (n < k + 1) × P n → Contains (list ++ k ∷ []) n
    from n h = elim (cases_lt n k) [
      | inl lt ↦ Contains-append_left list (k ∷ []) n ((below.exact n).1 (lt, h.1))
      | inr le ↦ (let e : k ≡ n = omega (arith, h.0) in subst (λ m. Contains (list ++ k ∷ []) m) e (Contains-push list k))
    ]

    first : (a b n : ℕ) → slice_get list a ≡ Some n → (slice_get list b ≡ Some n) ⊎ ((b ≡ length list) × (n ≡ k)) → a ≡ b
    first a b n x (inl y) = below.once a b n x y
    first a b n x (inr y) = absurd (never n y.1 (contains_of list a n x))

    last : (a b n : ℕ) → a ≡ length list → n ≡ k → (slice_get list b ≡ Some n) ⊎ ((b ≡ length list) × (n ≡ k)) → a ≡ b
    last a b n x e (inl y) = absurd (never n e (contains_of list b n y))
    last a b n x e (inr y) = x ∙ sym y.0

    once : (a b n : ℕ) → slice_get (list ++ k ∷ []) a ≡ Some n → slice_get (list ++ k ∷ []) b ≡ Some n → a ≡ b
    once a b n x y = elim (get_push list k a n x) [
      | inl z ↦ first a b n z (get_push list k b n y)
      | inr z ↦ last a b n z.0 z.1 (get_push list k b n y)
    ]

below_skip : (list : List ℕ) (k : ℕ) (P : ℕ → Type 0) → (P k → ⊥) → AreBelow list k P → AreBelow list (k + 1) P
below_skip list k P never below = record { exact = λ n. (to n, from n); once = below.once }
  where
    to : (n : ℕ) → Contains list n → (n < k + 1) × P n
    to n h = let y = (below.exact n).0 h in (omega (arith, y.0), y.1)

    from : (n : ℕ) → (n < k + 1) × P n → Contains list n
    from n h = elim (cases_lt n k) [
      | inl lt ↦ (below.exact n).1 (lt, h.1)
      | inr le ↦ (let e : n ≡ k = omega (arith, h.0) in absurd (never (subst P e h.1)))
    ]

below_same : (list : List ℕ) (k : ℕ) (P Q : ℕ → Type 0) → ((n : ℕ) → n < k → P n ↔ Q n) → AreBelow list k P → AreBelow list k Q
below_same list k P Q same below = record {
  exact = λ n. ((λ h. let y = (below.exact n).0 h in (y.0, (same n y.0).0 y.1)), (λ y. (below.exact n).1 (y.0, (same n y.0).1 y.1)));
  once = below.once;
}

waits_list : (g : Grammar) (chart : Charted) (at k : ℕ) → WaitsBelow g chart at k → (non : ℕ) → AreBelow (waiting_of chart at non) k (IsWaiting g (items_of chart at) non)
waits_list g chart at k waits non = record { exact = waits.exact non; once = waits.once non }

waits_from : (g : Grammar) (chart : Charted) (at k : ℕ) → ((non : ℕ) → AreBelow (waiting_of chart at non) k (IsWaiting g (items_of chart at) non)) → WaitsBelow g chart at k
waits_from g chart at k all = record { exact = λ non. (all non).exact; once = λ non. (all non).once }

-- item k is put in its list, and the set grows
pub waits_more : (g : Grammar) (w : List ℕ) (old new : Charted) (at k : ℕ) (item : Item) → WaitsBelow g old at k → slice_get (items_of old at) k ≡ Some item → Waited g at k item.state old new → Grown g w at old.sets new.sets → WaitsBelow g new at (k + 1)
waits_more g w old new at k item waits there waited grows = waits_from g new at (k + 1) each
  where
    lt : k < length (items_of old at)
    lt = slice_get_within (items_of old at) k item there

    now : slice_get (items_of new at) k ≡ Some item
    now = put_item_more at (Standing g w at) old.sets new.sets grows k item there

    alike : (non n : ℕ) → n < k → IsWaiting g (items_of old at) non n ↔ IsWaiting g (items_of new at) non n
    alike non n below = (
      (λ h. (h.0, put_item_more at (Standing g w at) old.sets new.sets grows n h.0 h.1, h.2)),
      (λ h. let before : n < length (items_of old at) = omega (arith, lt) in (h.0, put_item at (Standing g w at) old.sets new.sets grows n h.0 before h.1, h.2)),
    )

    first : (non : ℕ) → AreBelow (waiting_of old at non) k (IsWaiting g (items_of new at) non)
    first non = below_same (waiting_of old at non) k (IsWaiting g (items_of old at) non) (IsWaiting g (items_of new at) non) (alike non) (waits_list g old at k waits non)

    each : (non : ℕ) → AreBelow (waiting_of new at non) (k + 1) (IsWaiting g (items_of new at) non)
    each non = elim (waited.there non) [
      | inl h ↦ subst (λ l. AreBelow l (k + 1) (IsWaiting g (items_of new at) non)) (sym h.1) (below_push (waiting_of old at non) k (IsWaiting g (items_of new at) non) (item, now, h.0) (first non))
      | inr h ↦ subst (λ l. AreBelow l (k + 1) (IsWaiting g (items_of new at) non)) (sym h.1) (below_skip (waiting_of old at non) k (IsWaiting g (items_of new at) non) (λ x. h.0 (subst (λ (y : Item). IsNumberBefore g y.state non) (some_same (slice_get (items_of new at) k) x.0 item x.1 now) x.2)) (first non))
    ]

-- the lists of all items are exact
pub waits_exact : (g : Grammar) (chart : Charted) (at : ℕ) → WaitsBelow g chart at (length (items_of chart at)) → (non : ℕ) → IsExact g chart at non
waits_exact g chart at waits non n = ((λ h. ((waits.exact non n).0 h).1), (λ h. (waits.exact non n).1 (slice_get_within (items_of chart at) n h.0 h.1, h)))

-- nothing waits
pub waits_none : (g : Grammar) (chart : Charted) (at : ℕ) → ((non : ℕ) → waiting_of chart at non ≡ []) → WaitsBelow g chart at 0
waits_none g chart at none = record {
  exact = λ non n. ((λ h. absurd (no_element n (subst (λ (l : List ℕ). Contains l n) (none non) h))), (λ h. absurd (omega (arith, h.0))));
  once = λ non a b n x y. absurd (no_element n (subst (λ (l : List ℕ). Contains l n) (none non) (contains_of (waiting_of chart at non) a n x)));
}

-- a state before a nonterminal, by its row
pub waited_at : (g : Grammar) (f : Facts) → AreFacts g f → (old new : Charted) (at k state : ℕ) (row : Row) (non : ℕ) → length old.sets ≡ suc at → state < length (all_places g) → row ≡ row_at f.rows.items state → row.stand ≡ AtNon non → waiting_of new (last_set old) non ≡ waiting_of old (last_set old) non ++ k ∷ [] → ((other : ℕ) → other ≢ non → waiting_of new (last_set old) other ≡ waiting_of old (last_set old) other) → ((set other : ℕ) → set ≢ last_set old → waiting_of new set other ≡ waiting_of old set other) → Waited g at k state old new
waited_at g f facts old new at k state row non last lt is stand here others earlier =
    let p = get_some (all_places g) state lt in
    let before : IsBefore g p.0 non = subst (λ s. IsStand g f.letters.items p.0 s) stand (row_is g f facts state p.0 p.1 row is).stand in
    waited_some g old new at k state non p.0 last p.1 before here others earlier

-- and one that stands before none
pub waited_not : (g : Grammar) (f : Facts) → AreFacts g f → (old new : Charted) (at k state : ℕ) (row : Row) → new.waits ≡ old.waits → state < length (all_places g) → row ≡ row_at f.rows.items state → ((non : ℕ) → row.stand ≡ AtNon non → ⊥) → Waited g at k state old new
waited_not g f facts old new at k state row same lt is never =
    let p = get_some (all_places g) state lt in
    let r = row_is g f facts state p.0 p.1 row is in
    waited_none g old new at k state p.0 same p.1 (λ non before. never non (before_stand g f.letters.items p.0 row.stand non r.stand before))
