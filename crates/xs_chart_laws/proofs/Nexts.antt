-- The chart of a document with one symbol more.
use Rattle.std.proofs.Common.{◌≡◌, ℕ, zero, suc, ◌+◌, ◌<◌, ◌≤◌, List, [], ◌∷◌, ◌++◌, length, take, drop, Some, None, refl, sym, ◌∙◌, ap, subst, arith, inl, inr, ◌↔◌, length-append, take-append-drop}
use Rattle.std.proofs.lemmas.Bool.{cases_lt, cases_eq}
use Rattle.std.proofs.lemmas.List.{take_all, get_or_past, get_or-take, length-take-le}
use Rattle.std.specs.Prelude.{Contains, slice_get}
use Rattle.xs_class.proofs.Lists.{some_same, get_last}
use Rattle.xs_chart.specs.declared.item.Item.{Item}
use Rattle.xs_chart.specs.Different.{AreDifferent}
use Rattle.xs_gram.specs.declared.parts.GItem.TheVariants.{Fixed}
use Rattle.xs_gram.specs.declared.places.Place.{Place}
use Rattle.xs_gram.specs.Grammar.{Grammar, IsRuleOf, ItemAt}
use Rattle.xs_gram.specs.Languages.{IsFront}
use Rattle.xs_gram.specs.Sound.{IsBuilt, IsSound}
use Rattle.xs_gram.specs.Chart.{Stands}
use Rattle.xs_gram.specs.Places.{at_dot}
use Rattle.xs_chart_laws.specs.Reading.{Reads}
use Rattle.xs_chart_laws.specs.Closed.{IsReached}
use Rattle.xs_chart_laws.specs.Steps.{next_of, Arrives, IsSettled}
use Rattle.xs_chart_laws.specs.Charts.{IsNumber, set_at, HasPlace, ItemStands, AllItemsStand, IsChartOf}
use Rattle.xs_chart_laws.specs.Next.{IsDue, IsBegun}
use Rattle.xs_chart_laws.proofs.Words.{get_lt, get_some, get_take, Reads-split, Reads-join, Reads-is}
use Rattle.xs_chart_laws.proofs.Standing.{standing_is_closed}
use Rattle.xs_chart_laws.proofs.Fronts.{front_is_reached}
use Rattle.xs_chart_laws.proofs.Charts.{chart_stands, chart_all_stand, chart_has_all}
use Rattle.xs_chart_laws.proofs.Steps.{passed_stands, called_stands, completed_stands, arrived_stands, start_stands}
use Rattle.xs_chart_laws.proofs.Settling.{settled_is_chart, has_place_more}
use Rattle.xs_chart_laws.proofs.Longer.{reads_longer, reads_shorter, stands_longer, stands_shorter}

no_item : (item : Item) → Contains [] item → ⊥
no_item item h = absurd (omega (arith, h.1))

-- what arrives, arrives in a later set
pub arrives_later : (g : Grammar) (w : List ℕ) → IsBuilt g → (j k : ℕ) (c d : Place) → Arrives g w j c k d → j < k
arrives_later g w built j k c d (inl (next, x, e, a, h, m, by, is)) = omega (arith, next)
arrives_later g w built j k c d (inr (f, none, at, r, is)) =
    let some = built.range.words c.rule c.dot f at in
    let end = Reads-is w j f k r in
    omega (arith, some, end)

-- the one set of the empty document is its chart
pub chart_first : (g : Grammar) (sets : List (List Item)) → IsBuilt g → length sets ≡ 1 → AllItemsStand g [] sets → ((j : ℕ) → AreDifferent (set_at sets j)) → ((p : ℕ) → IsRuleOf g g.start p → HasPlace g sets 0 (at_dot p 0) 0) → ((item : Item) (c : Place) → Contains (set_at sets 0) item → IsNumber g item.state c → IsSettled g (HasPlace g sets) 0 c item.origin) → IsChartOf g [] sets
chart_first g sets built counted stand different starts settled = settled_is_chart g [] sets built counted stand different starts all arrived
  where
    all : (j : ℕ) (item : Item) (c : Place) → Contains (set_at sets j) item → IsNumber g item.state c → IsSettled g (HasPlace g sets) j c item.origin
    all zero item c h num = settled item c h num
    all (suc j) item c h num = absurd (no_item item (subst (λ (l : List Item). Contains l item) (get_or_past sets (suc j) [] (omega (arith, counted))) h))

    arrived : (j k : ℕ) (c d : Place) (i : ℕ) → HasPlace g sets j c i → Arrives g [] j c k d → HasPlace g sets k d i
    arrived j k c d i has arr =
        let st = arrived_stands g [] built c i j k d (chart_stands g [] sets stand c i j has) arr in
        let later = arrives_later g [] built j k c d arr in
        let within = st.4 in
        absurd (omega (arith, later, within))

module _ (g : Grammar) (w : List ℕ) (s : ℕ) (sets : List (List Item)) (chart : IsChartOf g w sets) (built : IsBuilt g) where
  end : length (w ++ s ∷ []) ≡ suc (length w)
  end = let e = length-append w (s ∷ []) in omega (arith, e)

  -- what stands in a set of the shorter document is in that set
  stood : (c : Place) (i j : ℕ) → j ≤ length w → Stands g (w ++ s ∷ []) c i j → HasPlace g sets j c i
  stood c i j le st = chart_has_all g w sets chart c i j (stands_shorter g w (s ∷ []) c i j le st)

  stands : (c : Place) (i j : ℕ) → HasPlace g sets j c i → Stands g (w ++ s ∷ []) c i j
  stands c i j has = stands_longer g w (s ∷ []) c i j (chart_all_stand g w sets chart c i j has)

  -- what is due stands
  pub due_stands : (d : Place) (i k : ℕ) → IsDue g (w ++ s ∷ []) sets k d i → Stands g (w ++ s ∷ []) d i k
  due_stands d i k (j, c, has, arr) = arrived_stands g (w ++ s ∷ []) built c i j k d (stands c i j has) arr

  -- The sets with one more are the chart of the longer document, where what is due is in the last one, and
  -- all in it stands and is settled.
  pub chart_more : (more : List (List Item)) → length more ≡ suc (suc (length w)) → ((j : ℕ) → j ≤ length w → set_at more j ≡ set_at sets j) → ((item : Item) → Contains (set_at more (suc (length w))) item → ItemStands g (w ++ s ∷ []) item (suc (length w))) → AreDifferent (set_at more (suc (length w))) → ((d : Place) (i : ℕ) → IsDue g (w ++ s ∷ []) sets (suc (length w)) d i → HasPlace g more (suc (length w)) d i) → ((item : Item) (c : Place) → Contains (set_at more (suc (length w))) item → IsNumber g item.state c → IsSettled g (HasPlace g more) (suc (length w)) c item.origin) → IsChartOf g (w ++ s ∷ []) more
  chart_more more counted same stand different due settled = settled_is_chart g (w ++ s ∷ []) more built (counted ∙ ap suc (sym end)) all_stand all_different starts all_settled arrived
    where
      old : (j : ℕ) (c : Place) (i : ℕ) → j ≤ length w → HasPlace g more j c i → HasPlace g sets j c i
      old j c i le = has_place_more g more sets j c i (λ item. subst (λ (l : List Item). Contains l item) (same j le))

      new : (j : ℕ) (c : Place) (i : ℕ) → j ≤ length w → HasPlace g sets j c i → HasPlace g more j c i
      new j c i le = has_place_more g sets more j c i (λ item. subst (λ (l : List Item). Contains l item) (sym (same j le)))

      -- a set is one of the shorter document, the last one, or beyond
      by_set : (P : ℕ → Type 0) (j : ℕ) → (j ≤ length w → P j) → P (suc (length w)) → (length more ≤ j → P j) → P j
      by_set P j first last beyond = elim (cases_lt (length w) j) [
        | inr le ↦ first le
        | inl lt ↦ elim (cases_eq j (suc (length w))) [ inl e ↦ subst P (sym e) last | inr ne ↦ beyond (omega (arith, lt, ne, counted)) ]
      ]

      none : (j : ℕ) (item : Item) → length more ≤ j → Contains (set_at more j) item → ⊥
      none j item le h = no_item item (subst (λ (l : List Item). Contains l item) (get_or_past more j [] le) h)

      all_stand : AllItemsStand g (w ++ s ∷ []) more
      all_stand j item = by_set (λ k. Contains (set_at more k) item → ItemStands g (w ++ s ∷ []) item k) j
          (λ le h. let st = (chart.stand j item).0 (subst (λ (l : List Item). Contains l item) (same j le) h) in (st.0, st.1, stands_longer g w (s ∷ []) st.0 item.origin j st.2))
          (stand item)
          (λ le h. absurd (none j item le h))

      all_different : (j : ℕ) → AreDifferent (set_at more j)
      all_different j = by_set (λ k. AreDifferent (set_at more k)) j
          (λ le. subst (λ (l : List Item). AreDifferent l) (sym (same j le)) (chart.different j))
          different
          (λ le. subst (λ (l : List Item). AreDifferent l) (sym (get_or_past more j [] le)) (λ a b item x y. absurd (no_item item (a, get_lt [] a item x, cc))))

      there : (c : Place) (i j : ℕ) → j ≤ length w → Stands g (w ++ s ∷ []) c i j → HasPlace g more j c i
      there c i j le st = new j c i le (stood c i j le st)

      starts : (p : ℕ) → IsRuleOf g g.start p → HasPlace g more 0 (at_dot p 0) 0
      starts p rule = there (at_dot p 0) 0 0 (omega arith) (start_stands g (w ++ s ∷ []) built p rule)

      place_stands : (j : ℕ) (item : Item) (c : Place) → Contains (set_at more j) item → IsNumber g item.state c → Stands g (w ++ s ∷ []) c item.origin j
      place_stands j item c h num = chart_stands g (w ++ s ∷ []) more all_stand c item.origin j (item.state, num, h)

      before : (j : ℕ) (item : Item) (c : Place) → j ≤ length w → Contains (set_at more j) item → IsNumber g item.state c → IsSettled g (HasPlace g more) j c item.origin
      before j item c le h num =
          let st = place_stands j item c h num in
          record {
            passed = λ p. there (next_of c) item.origin j le (passed_stands g (w ++ s ∷ []) built c item.origin j st p);
            called = λ non q b rule. there (at_dot q 0) j j le (called_stands g (w ++ s ∷ []) built c item.origin j non q st b rule);
            completed = λ non d o e lt has b. there (next_of d) o j le (completed_stands g (w ++ s ∷ []) built c item.origin j non d o st e (chart_stands g (w ++ s ∷ []) more all_stand d o item.origin has) b);
          }

      all_settled : (j : ℕ) (item : Item) (c : Place) → Contains (set_at more j) item → IsNumber g item.state c → IsSettled g (HasPlace g more) j c item.origin
      all_settled j item c = by_set (λ k. Contains (set_at more k) item → IsNumber g item.state c → IsSettled g (HasPlace g more) k c item.origin) j
          (λ le h num. before j item c le h num)
          (settled item c)
          (λ le h num. absurd (none j item le h))

      arrived : (j k : ℕ) (c d : Place) (i : ℕ) → HasPlace g more j c i → Arrives g (w ++ s ∷ []) j c k d → HasPlace g more k d i
      arrived j k c d i has arr =
          let later = arrives_later g (w ++ s ∷ []) built j k c d arr in
          let st = arrived_stands g (w ++ s ∷ []) built c i j k d (chart_stands g (w ++ s ∷ []) more all_stand c i j has) arr in
          let within = st.4 in
          elim (cases_lt (length w) k) [
            | inr le ↦ there d i k le st
            | inl lt ↦
                let is : k ≡ suc (length w) = omega (arith, lt, within, end) in
                let le : j ≤ length w = omega (arith, is, later) in
                subst (λ n. HasPlace g more n d i) (sym is) (due d i (j, c, old j c i le has, subst (λ n. Arrives g (w ++ s ∷ []) j c n d) is arr))
          ]

  module _ (sound : IsSound g) where
    front_iff : IsFront g (w ++ s ∷ []) ↔ IsReached g (w ++ s ∷ []) (λ j c i. Stands g (w ++ s ∷ []) c i j) (suc (length w))
    front_iff =
        let w' = w ++ s ∷ [] in
        let all : take (suc (length w)) w' ≡ w' = take_all (suc (length w)) w' (omega (arith, end)) in
        subst (λ u. IsFront g u ↔ IsReached g w' (λ j c i. Stands g w' c i j) (suc (length w))) all (front_is_reached g w' (λ j c i. Stands g w' c i j) sound (standing_is_closed g w' sound.built) (λ c i j st. st) (suc (length w)) (omega (arith, end)))

    -- where something is due in the next set, or a fixed word is begun there, the longer document begins a word of the language
    pub due_front : (d : Place) (i : ℕ) → IsDue g (w ++ s ∷ []) sets (suc (length w)) d i → IsFront g (w ++ s ∷ [])
    due_front d i due = front_iff.1 (suc (length w), d, i, due_stands d i (suc (length w)) due, inl refl)

    pub begun_front : (state origin count : ℕ) → IsBegun g (w ++ s ∷ []) sets (suc (length w)) state origin count → IsFront g (w ++ s ∷ [])
    begun_front state origin count b = front_iff.1 (b.from, b.place, origin, stands b.place origin b.from (state, b.number, b.there), inr (take count b.word, drop count b.word, b.outside, subst (λ f. ItemAt g b.place.rule b.place.dot (Fixed f)) (sym (take-append-drop count b.word)) b.item, b.reads))

    -- and where there is neither, it does not
    pub no_front : ((d : Place) (i : ℕ) → IsDue g (w ++ s ∷ []) sets (suc (length w)) d i → ⊥) → ((state origin count : ℕ) → IsBegun g (w ++ s ∷ []) sets (suc (length w)) state origin (suc count) → ⊥) → IsFront g (w ++ s ∷ []) → ⊥
    no_front no_due no_begun front = reached (front_iff.0 front)
      where
        pushed : (xs : List (List Item)) (k : ℕ) → set_at (xs ++ [] ∷ []) k ≡ set_at xs k
        pushed [] zero = refl
        pushed [] (suc k) = refl
        pushed (x ∷ xs) zero = refl
        pushed (x ∷ xs) (suc k) = pushed xs k

        last : set_at (sets ++ [] ∷ []) (suc (length w)) ≡ []
        last = pushed sets (suc (length w)) ∙ get_or_past sets (suc (length w)) [] (let e = chart.counted in omega (arith, e))

        in_last : (item : Item) → Contains (set_at (sets ++ [] ∷ []) (suc (length w))) item → ⊥
        in_last item h = no_item item (subst (λ (l : List Item). Contains l item) last h)

        empty : IsChartOf g (w ++ s ∷ []) (sets ++ [] ∷ [])
        empty = chart_more (sets ++ [] ∷ []) (let e = length-append sets ([] ∷ []) in let f = chart.counted in omega (arith, e, f)) (λ j le. pushed sets j) (λ item h. absurd (in_last item h)) (subst (λ (l : List Item). AreDifferent l) (sym last) (λ a b item x y. absurd (no_item item (a, get_lt [] a item x, cc)))) (λ d i due. absurd (no_due d i due)) (λ item c h num. absurd (in_last item h))

        not_next : (c : Place) (i j : ℕ) → j ≡ suc (length w) → Stands g (w ++ s ∷ []) c i j → ⊥
        not_next c i j e st =
            let h = chart_has_all g (w ++ s ∷ []) (sets ++ [] ∷ []) empty c i j st in
            in_last (record { state = h.0; origin = i }) (subst (λ n. Contains (set_at (sets ++ [] ∷ []) n) (record { state = h.0; origin = i })) e h.2)

        before : (j : ℕ) (c : Place) (i : ℕ) (u rest : List ℕ) → j ≤ length w → HasPlace g sets j c i → c.inside ≡ None → ItemAt g c.rule c.dot (Fixed (u ++ rest)) → Reads (w ++ s ∷ []) j u (suc (length w)) → ⊥
        before j c i [] rest le has none at r = omega (arith, r, le)
        before j c i (x ∷ u) [] le has none at r = no_due (next_of c) i (j, c, has, inr ((x ∷ u) ++ [], none, at, (subst (λ f. Reads (w ++ s ∷ []) j f (suc (length w))) (sym (all (x ∷ u))) r), refl))
          where
            all : (xs : List ℕ) → xs ++ [] ≡ xs
            all [] = refl
            all (y ∷ xs) = ap (λ l. y ∷ l) (all xs)
        before j c i (x ∷ u) (y ∷ rest) le has none at r = no_begun has.0 i (length u) (record {
          from = j;
          place = c;
          word = (x ∷ u) ++ y ∷ rest;
          number = has.1;
          outside = none;
          item = at;
          there = has.2;
          more = (let e = length-append u (y ∷ rest) in omega (arith, e));
          is = (let e = Reads-is (w ++ s ∷ []) j (x ∷ u) (suc (length w)) r in omega (arith, e));
          reads = subst (λ f. Reads (w ++ s ∷ []) j f (suc (length w))) (sym (fronted (x ∷ u) (y ∷ rest))) r;
        })
          where
            fronted : (a b : List ℕ) → take (length a) (a ++ b) ≡ a
            fronted [] b = refl
            fronted (z ∷ a) b = ap (λ l. z ∷ l) (fronted a b)

        reached : IsReached g (w ++ s ∷ []) (λ j c i. Stands g (w ++ s ∷ []) c i j) (suc (length w)) → ⊥
        reached (j, c, i, st, inl e) = not_next c i j (sym e) st
        reached (j, c, i, st, inr (u, rest, none, at, r)) = elim (cases_lt (length w) j) [
          | inr le ↦ before j c i u rest le (stood c i j le st) none at r
          | inl lt ↦ (let within = st.4 in not_next c i j (omega (arith, lt, within, end)) st)
        ]

-- a word that is begun by an item is begun in another document too, as far as its symbols are read there, where the item is there
begun_over : {g : Grammar} {w v : List ℕ} {sets more : List (List Item)} {k m state origin count n : ℕ} → (b : IsBegun g w sets k state origin count) → set_at more b.from ≡ set_at sets b.from → n < length b.word → b.from + n ≡ m → Reads v b.from (take n b.word) m → IsBegun g v more m state origin n
begun_over {state = state} {origin = origin} b same long is reads =
    let there = subst (λ (l : List Item). Contains l (record { state = state; origin = origin })) (sym same) b.there in
    record { from = b.from; place = b.place; word = b.word; number = b.number; outside = b.outside; item = b.item; there = there; more = long; is = is; reads = reads }

-- fixed words that are begun, with the symbol after them
module _ (g : Grammar) (w : List ℕ) (s : ℕ) (sets : List (List Item)) (state origin count : ℕ) where
  next_reads : (b : IsBegun g w sets (length w) state origin count) → slice_get b.word count ≡ Some s → Reads (w ++ s ∷ []) b.from (take (suc count) b.word) (suc (length w))
  next_reads b at =
      subst (λ f. Reads (w ++ s ∷ []) b.from f (suc (length w))) (sym (get_take b.word count s at))
      (Reads-join (w ++ s ∷ []) b.from (take count b.word) (s ∷ []) (length w) (suc (length w)) (reads_longer w (s ∷ []) b.from (take count b.word) (length w) b.reads) (get_last w s, refl))

  -- one more symbol is read, and the word has more
  pub begun_on : (more : List (List Item)) → ((j : ℕ) → j ≤ length w → set_at more j ≡ set_at sets j) → (b : IsBegun g w sets (length w) state origin count) → slice_get b.word count ≡ Some s → suc count < length b.word → IsBegun g (w ++ s ∷ []) more (suc (length w)) state origin (suc count)
  begun_on more same b at long = let e = b.is in begun_over b (same b.from (omega (arith, e))) long (omega (arith, e)) (next_reads b at)

  -- or it was the last one
  pub begun_due : (b : IsBegun g w sets (length w) state origin count) → slice_get b.word count ≡ Some s → suc count ≡ length b.word → IsDue g (w ++ s ∷ []) sets (suc (length w)) (next_of b.place) origin
  begun_due b at long = (b.from, b.place, (state, b.number, b.there), inr (b.word, b.outside, b.item, subst (λ f. Reads (w ++ s ∷ []) b.from f (suc (length w))) (take_all (suc count) b.word (omega (arith, long))) (next_reads b at), refl))

  -- where a symbol more was read, the word was begun before it
  pub begun_read : (more : List (List Item)) → ((j : ℕ) → j ≤ length w → set_at more j ≡ set_at sets j) → (from : ℕ) (place : Place) (word : List ℕ) → IsNumber g state place → place.inside ≡ None → ItemAt g place.rule place.dot (Fixed word) → Contains (set_at more from) (record { state = state; origin = origin }) → count < length word → from + count ≡ length w → Reads (w ++ s ∷ []) from (take (suc count) word) (suc (length w)) → (a : IsBegun g w sets (length w) state origin count) × (a.word ≡ word) × (a.place ≡ place) × (slice_get word count ≡ Some s)
  begun_read more same from place word number outside item there lt is r =
      let x = get_some word count lt in
      let r' = Reads-split (w ++ s ∷ []) from (take count word) (x.0 ∷ []) (suc (length w)) (subst (λ f. Reads (w ++ s ∷ []) from f (suc (length w))) (get_take word count x.0 x.1) r) in
      let at : r'.0 ≡ length w = let e = r'.2.1 in omega (arith, e) in
      let here : x.0 ≡ s = some_same (slice_get (w ++ s ∷ []) (length w)) x.0 s (subst (λ n. slice_get (w ++ s ∷ []) n ≡ Some x.0) at r'.2.0) (get_last w s) in
      let kept = subst (λ (l : List Item). Contains l (record { state = state; origin = origin })) (same from (omega (arith, is))) there in
      let read = reads_shorter w (s ∷ []) from (take count word) (length w) (omega arith) (subst (λ n. Reads (w ++ s ∷ []) from (take count word) n) at r'.1) in (
        record { from = from; place = place; word = word; number = number; outside = outside; item = item; there = kept; more = lt; is = is; reads = read },
        refl,
        refl,
        subst (λ y. slice_get word count ≡ Some y) here x.1,
      )

  pub begun_before : (more : List (List Item)) → ((j : ℕ) → j ≤ length w → set_at more j ≡ set_at sets j) → (b : IsBegun g (w ++ s ∷ []) more (suc (length w)) state origin (suc count)) → (a : IsBegun g w sets (length w) state origin count) × (a.word ≡ b.word) × (a.place ≡ b.place) × (slice_get b.word count ≡ Some s)
  begun_before more same b = begun_read more same b.from b.place b.word b.number b.outside b.item b.there (let lt = b.more in omega (arith, lt)) (let e = b.is in omega (arith, e)) b.reads

-- a word that is begun at a place of a shorter document is begun there in the longer one, and the other way round
pub begun_longer : (g : Grammar) (w v : List ℕ) (sets more : List (List Item)) (k state origin count : ℕ) → k ≤ length w → ((j : ℕ) → j ≤ k → set_at more j ≡ set_at sets j) → IsBegun g w sets k state origin count → IsBegun g (w ++ v) more k state origin count
begun_longer g w v sets more k state origin count le same b = let e = b.is in begun_over b (same b.from (omega (arith, e))) b.more e (reads_longer w v b.from (take count b.word) k b.reads)

pub begun_shorter : (g : Grammar) (w v : List ℕ) (sets more : List (List Item)) (k state origin count : ℕ) → k ≤ length w → ((j : ℕ) → j ≤ k → set_at more j ≡ set_at sets j) → IsBegun g (w ++ v) more k state origin count → IsBegun g w sets k state origin count
begun_shorter g w v sets more k state origin count le same b = let e = b.is in begun_over b (sym (same b.from (omega (arith, e)))) b.more e (reads_shorter w v b.from (take count b.word) k le b.reads)

-- the first sets are the chart of a front of the document
pub chart_shorter : (g : Grammar) (w v : List ℕ) (sets : List (List Item)) → IsChartOf g (w ++ v) sets → IsChartOf g w (take (suc (length w)) sets)
chart_shorter g w v sets chart = record { counted = counted; stand = stand; different = different }
  where
    long : suc (length w) ≤ length sets
    long = let e = length-append w v in let f = chart.counted in omega (arith, e, f)

    counted : length (take (suc (length w)) sets) ≡ suc (length w)
    counted = length-take-le (suc (length w)) sets long

    same : (j : ℕ) → j ≤ length w → set_at (take (suc (length w)) sets) j ≡ set_at sets j
    same j le = get_or-take (suc (length w)) sets j [] (omega (arith, le))

    beyond : (j : ℕ) → length w < j → set_at (take (suc (length w)) sets) j ≡ []
    beyond j lt = get_or_past (take (suc (length w)) sets) j [] (omega (arith, lt, counted))

    stand : (j : ℕ) (item : Item) → Contains (set_at (take (suc (length w)) sets) j) item ↔ ItemStands g w item j
    stand j item = elim (cases_lt (length w) j) [
      | inr le ↦ (
        (λ h. let st = (chart.stand j item).0 (subst (λ (l : List Item). Contains l item) (same j le) h) in (st.0, st.1, stands_shorter g w v st.0 item.origin j le st.2)),
        (λ st. subst (λ (l : List Item). Contains l item) (sym (same j le)) ((chart.stand j item).1 (st.0, st.1, stands_longer g w v st.0 item.origin j st.2))),
      )
      | inl lt ↦ (
        (λ h. absurd (no_item item (subst (λ (l : List Item). Contains l item) (beyond j lt) h))),
        (λ st. let within = st.2.4 in absurd (omega (arith, within, lt))),
      )
    ]

    different : (j : ℕ) → AreDifferent (set_at (take (suc (length w)) sets) j)
    different j = elim (cases_lt (length w) j) [
      | inr le ↦ subst (λ (l : List Item). AreDifferent l) (sym (same j le)) (chart.different j)
      | inl lt ↦ subst (λ (l : List Item). AreDifferent l) (sym (beyond j lt)) (λ a b item x y. absurd (no_item item (a, get_lt [] a item x, cc)))
    ]
