-- A run that begins, goes on by a symbol, and goes back.
use Rattle.std.proofs.Common.{◌≡◌, ◌≢◌, ℕ, zero, suc, ◌+◌, ◌-◌, ◌<◌, ◌≤◌, Bool, true, false, if◌then◌else◌, List, [], ◌∷◌, ◌++◌, length, take, drop, Some, refl, sym, ◌∙◌, ap, subst, arith, inl, inr, length-append, take-append-drop, append-nil}
use Rattle.std.specs.Prelude.{Contains, slice_get, slice_index_or}
use Rattle.std.proofs.lemmas.Bool.{cases_eq, cases_lt, false≢true}
use Rattle.std.proofs.lemmas.List.{take_all, get_or_past, get_or_append_left, get_or_at, get_or-take, length-take-le}
use Rattle.xs_class.proofs.Lists.{contains_of, get_of, first_in, one_longer}
use Rattle.xs_chart.specs.declared.item.Item.{Item}
use Rattle.xs_chart.specs.declared.waiting.Waiter.{Waiter}
use Rattle.xs_chart.specs.Different.{AreDifferent}
use Rattle.xs_chart.specs.Charted.{Charted, items_of, waiting_of, waiting_for, last_set, first_sets, before_last, set_limit}
use Rattle.xs_gram.specs.declared.places.Place.{Place}
use Rattle.xs_gram.specs.Grammar.{Grammar}
use Rattle.xs_gram.specs.Derivations.{yield}
use Rattle.xs_gram.specs.Sound.{IsSound}
use Rattle.xs_gram.specs.Languages.{InLang, IsFront, IsViable}
use Rattle.xs_gram.specs.Chart.{Stands}
use Rattle.xs_gram.specs.Places.{at_dot, all_places}
use Rattle.xs_chart_laws.specs.Charts.{IsNumber, set_at, HasPlace, ItemStands, AllItemsStand, IsChartOf, HasWaiters}
use Rattle.xs_chart_laws.specs.Next.{IsDue, IsBegun}
use Rattle.xs_chart_laws.proofs.Words.{get_take, get_lt}
use Rattle.xs_chart_laws.proofs.Numbers.{has_number, one_place, stands_at_place}
use Rattle.xs_chart_laws.proofs.Steps.{start_stands}
use Rattle.xs_chart_laws.proofs.Settling.{has_place_more}
use Rattle.xs_chart_laws.proofs.Longer.{stands_longer, front_shorter}
use Rattle.xs_chart_laws.proofs.Nexts.{chart_first, due_front, begun_front, no_front, due_stands, chart_more, begun_longer, begun_shorter, chart_shorter}
use Rattle.xs_earley.specs.declared.begun.Begun.{Begun}
use Rattle.xs_earley.specs.declared.facts.Facts.{Facts}
use Rattle.xs_earley.specs.Adding.{Puts, Adds, AreCalled, Calls}
use Rattle.xs_earley.specs.Arriving.{AreBegun}
use Rattle.xs_earley.specs.Masks.{AreMasks}
use Rattle.xs_earley.specs.Facts.{AreFacts}
use Rattle.xs_earley.specs.Growing.{Standing, Grown, IsSettledAt, IsExact, IsOpen}
use Rattle.xs_earley.specs.Running.{Running, unsteady, IsRunOf}
use Rattle.xs_earley.specs.Stages.{AreDue, KeepsFirst}
use Rattle.xs_earley.specs.Waiting.{WaitsBelow}
use Rattle.xs_chart.proofs.Advancing.{no_element}
use Rattle.xs_earley.proofs.Additions.{puts_kept}
use Rattle.xs_earley.proofs.Completing.{waiting_same}
use Rattle.xs_earley.proofs.Growths.{grown_stand, exact_same}
use Rattle.xs_earley.proofs.Predicting.{arrives_later, called_none}
use Rattle.xs_earley.proofs.Queues.{waits_exact, waits_none}
use Rattle.xs_earley.proofs.Settlings.{adds_grown}

-- a run that is not known to be steady says nothing of it
never_steady : {A : Type 0} → false ≡ true → A
never_steady e = absurd (false≢true e)

length-take-most : {A : Type 0} (n : ℕ) (xs : List A) → length (take n xs) ≤ n
length-take-most zero xs = omega arith
length-take-most (suc n) [] = omega arith
length-take-most (suc n) (x ∷ xs) = let h = length-take-most n xs in omega (arith, h)

-- an empty set more is there as none is
pub set_pushed : (sets : List (List Item)) (k : ℕ) → set_at (sets ++ [] ∷ []) k ≡ set_at sets k
set_pushed [] zero = refl
set_pushed [] (suc k) = refl
set_pushed (s ∷ sets) zero = refl
set_pushed (s ∷ sets) (suc k) = set_pushed sets k

no_elements : (list : List ℕ) → ((n : ℕ) → Contains list n → ⊥) → list ≡ []
no_elements [] never = refl
no_elements (x ∷ list) never = absurd (never x (0, omega arith, refl))

-- nothing waits in a set that is not there
pub waits_beyond : (g : Grammar) (chart : Charted) → HasWaiters g chart → (j non : ℕ) → length chart.sets ≤ j → waiting_of chart j non ≡ []
waits_beyond g chart waiters j non le = no_elements (waiting_of chart j non) never
  where
    never : (n : ℕ) → Contains (waiting_of chart j non) n → ⊥
    never n h =
        let x = (waiters.exact j non n).0 h in
        no_element x.0 (contains_of [] n x.0 (subst (λ (l : List Item). slice_get l n ≡ Some x.0) (get_or_past chart.sets j [] le) x.1))

-- a set that is opened and does not repeat the last one is empty, and nothing waits in it
sets_opened : (old new : List (List Item)) (repeats : Bool) (last : List Item) → repeats ≡ false → new ≡ old ++ (if repeats then last else []) ∷ [] → new ≡ old ++ [] ∷ []
sets_opened old new repeats last off is = subst (λ b. new ≡ old ++ (if b then last else []) ∷ []) off is

waits_opened : (g : Grammar) (old new : Charted) (repeats : Bool) (last : ℕ → List ℕ) → HasWaiters g old → repeats ≡ false → ((j non : ℕ) → j ≢ length old.sets → waiting_of new j non ≡ waiting_of old j non) → ((non : ℕ) → waiting_of new (length old.sets) non ≡ (if repeats then last non else [])) → (j non : ℕ) → waiting_of new j non ≡ waiting_of old j non
waits_opened g old new repeats last waiters off kept own j non = elim (cases_eq j (length old.sets)) [
  | inr ne ↦ kept j non ne
  | inl e ↦ (
      let none : waiting_of new j non ≡ [] = ap (λ k. waiting_of new k non) e ∙ own non ∙ ap (λ b. if b then last non else []) off in
      none ∙ sym (waits_beyond g old waiters j non (omega (arith, e))))
]

-- what waits in one more set that was closed
waiters_more : (g : Grammar) (old new : Charted) (at : ℕ) → HasWaiters g old → ((j : ℕ) → j ≢ at → items_of new j ≡ items_of old j) → ((j non : ℕ) → j ≢ at → waiting_of new j non ≡ waiting_of old j non) → WaitsBelow g new at (length (items_of new at)) → HasWaiters g new
waiters_more g old new at waiters items same waits = record { exact = exact; once = once }
  where
    exact : (j non : ℕ) → IsExact g new j non
    exact j non = elim (cases_eq j at) [
      | inl e ↦ subst (λ i. IsExact g new i non) (sym e) (waits_exact g new at waits non)
      | inr ne ↦ exact_same g old new j non (items j ne) (same j non ne) (waiters.exact j non)
    ]

    once_last : (j non a b n : ℕ) → j ≡ at → slice_get (waiting_of new j non) a ≡ Some n → slice_get (waiting_of new j non) b ≡ Some n → a ≡ b
    once_last j non a b n e x y = waits.once non a b n (subst (λ i. slice_get (waiting_of new i non) a ≡ Some n) e x) (subst (λ i. slice_get (waiting_of new i non) b ≡ Some n) e y)

    once : (j non a b n : ℕ) → slice_get (waiting_of new j non) a ≡ Some n → slice_get (waiting_of new j non) b ≡ Some n → a ≡ b
    once j non a b n x y = elim (cases_eq j at) [
      | inl e ↦ once_last j non a b n e x y
      | inr ne ↦ waiters.once j non a b n (subst (λ (l : List ℕ). slice_get l a ≡ Some n) (same j non ne) x) (subst (λ (l : List ℕ). slice_get l b ≡ Some n) (same j non ne) y)
    ]

-- THE FIRST SET

module _ (g : Grammar) (sound : IsSound g) (pushed begun new : Charted) (sets : pushed.sets ≡ [] ∷ []) (none : (j non : ℕ) → waiting_of pushed j non ≡ []) (adds : Adds g 0 (Calls g 0 g.start) pushed.sets begun.sets) (same : begun.waits ≡ pushed.waits) where
  first_grown : Grown g [] 0 pushed.sets begun.sets
  first_grown = adds_grown g [] 0 (Calls g 0 g.start) pushed.sets begun.sets (λ c i h. subst (λ d. Stands g [] d i 0) (sym h.2.0) (subst (λ o. Stands g [] (at_dot h.0 0) o 0) (sym h.2.1) (start_stands g [] sound.built h.0 h.1))) adds

  pushed_none : (j : ℕ) (item : Item) → Contains (set_at pushed.sets j) item → ⊥
  pushed_none j item h = no_element item (subst (λ (l : List Item). Contains l item) (by j) h)
    where
      one : (j : ℕ) → set_at ([] ∷ []) j ≡ []
      one zero = refl
      one (suc j) = refl

      by : (j : ℕ) → set_at pushed.sets j ≡ []
      by j = ap (λ (s : List (List Item)). set_at s j) sets ∙ one j

  pub first_open : IsOpen g [] 0 begun
  first_open = record {
    last = adds.puts.counted ∙ ap (λ (s : List (List Item)). length s) sets;
    within = omega arith;
    stand = grown_stand g [] 0 pushed.sets begun.sets first_grown (λ j item h. absurd (pushed_none j item h));
    waiting = λ j non lt. absurd (omega (arith, lt));
  }

  pub first_waits : WaitsBelow g begun 0 0
  first_waits = waits_none g begun 0 (λ non. waiting_same pushed begun 0 non same ∙ none 0 non)

  module _ (grown : Grown g [] 0 begun.sets new.sets) (settled : (k : ℕ) → k < length (items_of new 0) → IsSettledAt g new.sets 0 k) (earlier : (j non : ℕ) → j ≢ 0 → waiting_of new j non ≡ waiting_of begun j non) (waits : WaitsBelow g new 0 (length (items_of new 0))) (different : (j : ℕ) → AreDifferent (set_at new.sets j)) where
    pub first_chart : IsChartOf g [] new.sets
    first_chart = chart_first g new.sets sound.built (grown.counted ∙ first_open.last) (grown_stand g [] 0 begun.sets new.sets grown first_open.stand) different
        (λ p rule. has_place_more g begun.sets new.sets 0 (at_dot p 0) 0 (puts_kept 0 (Standing g [] 0) begun.sets new.sets grown 0) (adds.there (at_dot p 0) 0 (p, rule, (refl, refl))))
        (λ item c h num. let n = get_of (set_at new.sets 0) item h in settled n.0 (get_lt (set_at new.sets 0) n.0 item n.1) item c n.1 num)

    pub first_waiters : HasWaiters g new
    first_waiters = waiters_more g pushed new 0 pushed_waiters items same_waits waits
      where
        items : (j : ℕ) → j ≢ 0 → items_of new j ≡ items_of pushed j
        items j ne = grown.others j ne ∙ adds.puts.others j ne

        same_waits : (j non : ℕ) → j ≢ 0 → waiting_of new j non ≡ waiting_of pushed j non
        same_waits j non ne = earlier j non ne ∙ waiting_same pushed begun j non same

        pushed_waiters : HasWaiters g pushed
        pushed_waiters = record {
          exact = λ j non n. ((λ h. absurd (no_element n (subst (λ (l : List ℕ). Contains l n) (none j non) h))), (λ h. absurd (pushed_none j h.0 (contains_of (items_of pushed j) n h.0 h.1))));
          once = λ j non a b n x y. absurd (no_element n (subst (λ (l : List ℕ). Contains l n) (none j non) (contains_of (waiting_of pushed j non) a n x)));
        }

-- no word is begun in the first set
begun_first : (g : Grammar) (sets : List (List Item)) → AreBegun g [] sets 0 []
begun_first g sets b = ((λ h. absurd (no_element b h)), (λ h. let e = h.1.is in let some = h.0 in absurd (omega (arith, e, some))))

-- a run over the empty word
pub run_first : (g : Grammar) (f : Facts) (chart : Charted) (begun : List (List Begun)) (marks : ℕ) → IsSound g → AreFacts g f → AreMasks g f (length (all_places g)) f.masks.items → marks ≡ g.nons → IsChartOf g [] chart.sets → HasWaiters g chart → begun ≡ [] ∷ [] → IsRunOf g (unsteady [] chart begun f marks)
run_first g f chart begun marks sound facts masks counted is waiters one = record {
  sound = sound;
  facts = facts;
  masks = masks;
  marks = counted;
  few = omega arith;
  chart = is;
  waiters = waiters;
  counted = ap (λ (l : List (List Begun)). length l) one;
  begun = λ k le. subst (λ j. AreBegun g [] chart.sets j (slice_index_or begun j [])) (omega (arith, le)) (subst (λ (l : List (List Begun)). AreBegun g [] chart.sets 0 (slice_index_or l 0 [])) (sym one) (begun_first g chart.sets));
  front = (let d = sound.productive g.start sound.built.range.start in (yield d.0, (d.0, (d.1, refl))));
  steady = never_steady;
}

-- BEGUN WORDS

module _ (g : Grammar) (w : List ℕ) (s : ℕ) (old new : List (List Item)) (begun : List (List Begun)) (counted : length begun ≡ suc (length w)) (known : (k : ℕ) → k ≤ length w → AreBegun g w old k (slice_index_or begun k [])) (before : (j : ℕ) → j ≤ length w → set_at new j ≡ set_at old j) (fresh : List Begun) (exact : AreBegun g (w ++ s ∷ []) old (suc (length w)) fresh) (on : List (List Begun)) (is : on ≡ begun ++ fresh ∷ []) where
  last_sets : (state origin count : ℕ) → 0 < count → IsBegun g (w ++ s ∷ []) old (suc (length w)) state origin count → IsBegun g (w ++ s ∷ []) new (suc (length w)) state origin count
  last_sets state origin count some b = record { from = b.from; place = b.place; word = b.word; number = b.number; outside = b.outside; item = b.item; there = (let e = b.is in subst (λ (l : List Item). Contains l (record { state = state; origin = origin })) (sym (before b.from (omega (arith, e, some)))) b.there); more = b.more; is = b.is; reads = b.reads }

  old_sets : (state origin count : ℕ) → 0 < count → IsBegun g (w ++ s ∷ []) new (suc (length w)) state origin count → IsBegun g (w ++ s ∷ []) old (suc (length w)) state origin count
  old_sets state origin count some b = record { from = b.from; place = b.place; word = b.word; number = b.number; outside = b.outside; item = b.item; there = (let e = b.is in subst (λ (l : List Item). Contains l (record { state = state; origin = origin })) (before b.from (omega (arith, e, some))) b.there); more = b.more; is = b.is; reads = b.reads }

  last : AreBegun g (w ++ s ∷ []) new (suc (length w)) fresh
  last b = ((λ h. let x = (exact b).0 h in (x.0, last_sets b.state b.origin b.count x.0 x.1)), (λ x. (exact b).1 (x.0, old_sets b.state b.origin b.count x.0 x.1)))

  front_of : (k : ℕ) → k ≤ length w → AreBegun g (w ++ s ∷ []) new k (slice_index_or begun k [])
  front_of k le b =
      let iff = known k le b in (
        (λ h. let x = iff.0 h in (x.0, begun_longer g w (s ∷ []) old new k b.state b.origin b.count le (λ j lej. before j (omega (arith, le, lej))) x.1)),
        (λ x. iff.1 (x.0, begun_shorter g w (s ∷ []) old new k b.state b.origin b.count le (λ j lej. before j (omega (arith, le, lej))) x.1)),
      )

  -- beside the sets with one more stand the words that were begun before, and the fresh ones
  pub begun_next : (k : ℕ) → k ≤ length (w ++ s ∷ []) → AreBegun g (w ++ s ∷ []) new k (slice_index_or on k [])
  begun_next k le = subst (λ (l : List (List Begun)). AreBegun g (w ++ s ∷ []) new k (slice_index_or l k [])) (sym is) (elim (cases_lt (length w) k) [
    | inr under ↦ subst (λ (l : List Begun). AreBegun g (w ++ s ∷ []) new k l) (sym (get_or_append_left begun (fresh ∷ []) [] k (omega (arith, counted, under)))) (front_of k under)
    | inl over ↦
        let e : k ≡ suc (length w) = let l = length-append w (s ∷ []) in omega (arith, le, over, l) in
        let row : slice_index_or (begun ++ fresh ∷ []) k [] ≡ fresh = get_or_at begun fresh [] [] k (omega (arith, e, counted)) in
        subst (λ (l : List Begun). AreBegun g (w ++ s ∷ []) new k l) (sym row) (subst (λ j. AreBegun g (w ++ s ∷ []) new j fresh) (sym e) last)
  ])

-- ONE SYMBOL MORE

-- a set more was opened, `at` is its number, and it has got what is due there
pub record Opens (g : Grammar) (w : List ℕ) (s : ℕ) (f : Facts) (old : Charted) (begun : List (List Begun)) (marks : ℕ) (due : List Item) (pushed mid : Charted) (at : ℕ) : Type 0 where
  pub run : IsRunOf g (unsteady w old begun f marks)
  pub are_due : AreDue g w s old.sets due
  pub sets : pushed.sets ≡ old.sets ++ [] ∷ []
  pub waiting : (j non : ℕ) → waiting_of pushed j non ≡ waiting_of old j non
  pub is_at : at ≡ suc (length w)
  pub puts : Puts (suc (length w)) (Contains due) pushed.sets mid.sets
  pub there : (item : Item) → Contains due item → Contains (items_of mid (suc (length w))) item
  pub same : mid.waits ≡ pushed.waits

-- by what a step does where it repeats no set
pub next_opened : (g : Grammar) (w : List ℕ) (s : ℕ) (f : Facts) (old : Charted) (begun : List (List Begun)) (marks : ℕ) (due : List Item) (pushed mid : Charted) (at : ℕ) (word : List ℕ) (repeats : Bool) → IsRunOf g (unsteady w old begun f marks) → repeats ≡ false → (repeats ≡ false → AreDue g w s old.sets due)
    → pushed.sets ≡ old.sets ++ (if repeats then items_of old (last_set old) else []) ∷ [] → ((j non : ℕ) → j ≢ length old.sets → waiting_of pushed j non ≡ waiting_of old j non) → ((non : ℕ) → waiting_of pushed (length old.sets) non ≡ (if repeats then waiting_of old (last_set old) non else []))
    → at ≡ length word → word ≡ w ++ s ∷ [] → Puts at (Contains due) pushed.sets mid.sets → ((item : Item) → Contains due item → Contains (items_of mid at) item) → mid.waits ≡ pushed.waits → Opens g w s f old begun marks due pushed mid at
next_opened g w s f old begun marks due pushed mid at word repeats run off are_due sets waiting last long is puts there same =
    let e : at ≡ suc (length w) = long ∙ ap (λ (l : List ℕ). length l) is ∙ one_longer w s in
    record {
      run = run;
      are_due = are_due off;
      sets = sets_opened old.sets pushed.sets repeats (items_of old (last_set old)) off sets;
      waiting = waits_opened g old pushed repeats (waiting_of old (last_set old)) run.waiters off waiting last;
      is_at = e;
      puts = subst (λ k. Puts k (Contains due) pushed.sets mid.sets) e puts;
      there = subst (λ k. (item : Item) → Contains due item → Contains (items_of mid k) item) e there;
      same = same;
    }

module _ {g : Grammar} {w : List ℕ} {s : ℕ} {f : Facts} {old : Charted} {begun : List (List Begun)} {marks : ℕ} {due : List Item} {pushed mid : Charted} {at : ℕ} (o : Opens g w s f old begun marks due pushed mid at) where
  end : length (w ++ s ∷ []) ≡ suc (length w)
  end = let e = length-append w (s ∷ []) in omega (arith, e)

  mid_items : (j : ℕ) → j ≢ suc (length w) → items_of mid j ≡ items_of old j
  mid_items j ne = o.puts.others j ne ∙ ap (λ (l : List (List Item)). set_at l j) o.sets ∙ set_pushed old.sets j

  mid_waits : (j non : ℕ) → waiting_of mid j non ≡ waiting_of old j non
  mid_waits j non = waiting_same pushed mid j non o.same ∙ o.waiting j non

  mid_counted : length mid.sets ≡ suc (suc (length w))
  mid_counted = o.puts.counted ∙ ap (λ (l : List (List Item)). length l) o.sets ∙ (let e = length-append old.sets ([] ∷ []) in let c = o.run.chart.counted in omega (arith, e, c))

  mid_last : set_at mid.sets (suc (length w)) ≡ o.puts.more
  mid_last =
      let none : set_at pushed.sets (suc (length w)) ≡ [] = ap (λ (l : List (List Item)). set_at l (suc (length w))) o.sets ∙ set_pushed old.sets (suc (length w)) ∙ get_or_past old.sets (suc (length w)) [] (let c = o.run.chart.counted in omega (arith, c)) in
      o.puts.last ∙ ap (λ (l : List Item). l ++ o.puts.more) none

  due_stand : (item : Item) → Contains due item → ItemStands g (w ++ s ∷ []) item (suc (length w))
  due_stand item h = let d = (o.are_due item).0 h in (d.0, d.1, due_stands g w s old.sets o.run.chart o.run.sound.built d.0 item.origin (suc (length w)) d.2)

  mid_stand : AllItemsStand g (w ++ s ∷ []) mid.sets
  mid_stand j item h = elim (cases_eq j (suc (length w))) [
    | inl e ↦ subst (λ k. ItemStands g (w ++ s ∷ []) item k) (sym e) (due_stand item (o.puts.each item (subst (λ (l : List Item). Contains l item) mid_last (subst (λ k. Contains (set_at mid.sets k) item) e h))))
    | inr ne ↦ (let st = (o.run.chart.stand j item).0 (subst (λ (l : List Item). Contains l item) (mid_items j ne) h) in (st.0, st.1, stands_longer g w (s ∷ []) st.0 item.origin j st.2))
  ]

  mid_open : IsOpen g (w ++ s ∷ []) (suc (length w)) mid
  mid_open = record {
    last = mid_counted;
    within = omega (arith, end);
    stand = mid_stand;
    waiting = λ j non lt. let ne : j ≢ suc (length w) = omega arith in exact_same g old mid j non (mid_items j ne) (mid_waits j non) (o.run.waiters.exact j non);
  }

  -- no rule is begun there
  mid_unbegun : (item : Item) (q : ℕ) → Contains (set_at mid.sets (suc (length w))) item → IsNumber g item.state (at_dot q 0) → ⊥
  mid_unbegun item q h num =
      let d = (o.are_due item).0 (o.puts.each item (subst (λ (l : List Item). Contains l item) mid_last h)) in
      arrives_later g (w ++ s ∷ []) d.2.0 d.2.1 (suc (length w)) d.0 d.2.3 q (one_place g item.state d.0 (at_dot q 0) d.1 num)

  pub next_waits : WaitsBelow g mid at 0
  next_waits = subst (λ k. WaitsBelow g mid k 0) (sym o.is_at)
      (waits_none g mid (suc (length w)) (λ non. mid_waits (suc (length w)) non ∙ waits_beyond g old o.run.waiters (suc (length w)) non (let c = o.run.chart.counted in omega (arith, c))))

  pub next_open : (doc : List ℕ) → doc ≡ w ++ s ∷ [] → IsOpen g doc at mid
  next_open doc is = subst (λ (u : List ℕ). IsOpen g u at mid) (sym is) (subst (λ k. IsOpen g (w ++ s ∷ []) k mid) (sym o.is_at) mid_open)

  pub next_called : (called : List Bool) → ((non : ℕ) → slice_index_or called non false ≡ false) → AreCalled g at mid.sets called
  next_called called unmarked = subst (λ k. AreCalled g k mid.sets called) (sym o.is_at) (called_none g (suc (length w)) mid.sets called unmarked mid_unbegun)

  module _ (new : Charted) (grown : Grown g (w ++ s ∷ []) (suc (length w)) mid.sets new.sets) (settled : (k : ℕ) → k < length (items_of new (suc (length w))) → IsSettledAt g new.sets (suc (length w)) k) (earlier : (j non : ℕ) → j ≢ suc (length w) → waiting_of new j non ≡ waiting_of mid j non) (waits : WaitsBelow g new (suc (length w)) (length (items_of new (suc (length w))))) (different : (j : ℕ) → AreDifferent (set_at new.sets j)) where
    new_items : (j : ℕ) → j ≢ suc (length w) → items_of new j ≡ items_of old j
    new_items j ne = grown.others j ne ∙ mid_items j ne

    before : (j : ℕ) → j ≤ length w → set_at new.sets j ≡ set_at old.sets j
    before j le = let ne : j ≢ suc (length w) = omega arith in new_items j ne

    next_chart : IsChartOf g (w ++ s ∷ []) new.sets
    next_chart = chart_more g w s old.sets o.run.chart o.run.sound.built new.sets (grown.counted ∙ mid_counted) before
        (λ item h. grown_stand g (w ++ s ∷ []) (suc (length w)) mid.sets new.sets grown mid_stand (suc (length w)) item h)
        (different (suc (length w)))
        (λ d i x. placed d i x)
        (λ item c h num. let n = get_of (set_at new.sets (suc (length w))) item h in settled n.0 (get_lt (set_at new.sets (suc (length w))) n.0 item n.1) item c n.1 num)
      where
        placed : (d : Place) (i : ℕ) → IsDue g (w ++ s ∷ []) old.sets (suc (length w)) d i → HasPlace g new.sets (suc (length w)) d i
        placed d i x =
            let st = due_stands g w s old.sets o.run.chart o.run.sound.built d i (suc (length w)) x in
            let n = has_number g d (stands_at_place g (w ++ s ∷ []) d i (suc (length w)) st) in
            let item : Item = record { state = n.0; origin = i } in
            let h = o.there item ((o.are_due item).1 (d, n.1, x)) in
            (n.0, n.1, puts_kept (suc (length w)) (Standing g (w ++ s ∷ []) (suc (length w))) mid.sets new.sets grown (suc (length w)) item h)

    pub next_run : (fresh : List Begun) → AreBegun g (w ++ s ∷ []) old.sets (suc (length w)) fresh → (on : List (List Begun)) → on ≡ begun ++ fresh ∷ [] → length w + 1 < set_limit → IsFront g (w ++ s ∷ []) → (word : List ℕ) → word ≡ w ++ s ∷ [] → (more : ℕ) → more ≡ marks → IsRunOf g (unsteady word new on f more)
    next_run fresh exact on is few front word same_word more same_marks = subst (λ (u : List ℕ). IsRunOf g (unsteady u new on f more)) (sym same_word) (record {
      sound = o.run.sound;
      facts = o.run.facts;
      masks = o.run.masks;
      marks = same_marks ∙ o.run.marks;
      few = omega (arith, end, few);
      chart = next_chart;
      waiters = waiters_more g old new (suc (length w)) o.run.waiters new_items (λ j non ne. earlier j non ne ∙ mid_waits j non) waits;
      counted = ap (λ (l : List (List Begun)). length l) is ∙ (let e = length-append begun (fresh ∷ []) in let c = o.run.counted in omega (arith, e, c, end));
      begun = begun_next g w s old.sets new.sets begun o.run.counted o.run.begun before fresh exact on is;
      front = front;
      steady = never_steady;
    })

-- BACK

module _ (g : Grammar) (w : List ℕ) (f : Facts) (chart : Charted) (begun : List (List Begun)) (marks : ℕ) (run : IsRunOf g (unsteady w chart begun f marks)) (len : ℕ) (within : len ≤ length w) where
  all : take len w ++ drop len w ≡ w
  all = take-append-drop len w

  long : length (take len w) ≡ len
  long = length-take-le len w within

  first : Charted
  first = first_sets (len + 1) chart

  few_sets : suc (length (take len w)) ≡ len + 1
  few_sets = omega (arith, long)

  back_chart : IsChartOf g (take len w) (take (len + 1) chart.sets)
  back_chart = subst (λ n. IsChartOf g (take len w) (take n chart.sets)) few_sets (chart_shorter g (take len w) (drop len w) chart.sets (subst (λ (u : List ℕ). IsChartOf g u chart.sets) (sym all) run.chart))

  kept_set : (j : ℕ) → j ≤ len → set_at (take (len + 1) chart.sets) j ≡ set_at chart.sets j
  kept_set j le = get_or-take (len + 1) chart.sets j [] (omega (arith, le))

  back_waiters : HasWaiters g (first_sets (len + 1) chart)
  back_waiters = record { exact = exact; once = once }
    where
      none : (j non : ℕ) → len < j → waiting_of (first_sets (len + 1) chart) j non ≡ []
      none j non lt = ap (λ (l : List Waiter). waiting_for l non) (get_or_past (take (len + 1) chart.waits) j [] (omega (arith, lt, length-take-most (len + 1) chart.waits)))

      same : (j non : ℕ) → j ≤ len → waiting_of (first_sets (len + 1) chart) j non ≡ waiting_of chart j non
      same j non le = ap (λ (l : List Waiter). waiting_for l non) (get_or-take (len + 1) chart.waits j [] (omega (arith, le)))

      no_set : (j : ℕ) → len < j → items_of (first_sets (len + 1) chart) j ≡ []
      no_set j lt = get_or_past (take (len + 1) chart.sets) j [] (omega (arith, lt, length-take-most (len + 1) chart.sets))

      exact : (j non : ℕ) → IsExact g (first_sets (len + 1) chart) j non
      exact j non = elim (cases_lt len j) [
        | inr le ↦ exact_same g chart (first_sets (len + 1) chart) j non (kept_set j le) (same j non le) (run.waiters.exact j non)
        | inl lt ↦ (λ n. (
          (λ h. absurd (no_element n (subst (λ (l : List ℕ). Contains l n) (none j non lt) h))),
          (λ x. absurd (no_element x.0 (contains_of [] n x.0 (subst (λ (l : List Item). slice_get l n ≡ Some x.0) (no_set j lt) x.1)))),
        ))
      ]

      once : (j non a b n : ℕ) → slice_get (waiting_of (first_sets (len + 1) chart) j non) a ≡ Some n → slice_get (waiting_of (first_sets (len + 1) chart) j non) b ≡ Some n → a ≡ b
      once j non a b n x y = elim (cases_lt len j) [
        | inr le ↦ run.waiters.once j non a b n (subst (λ (l : List ℕ). slice_get l a ≡ Some n) (same j non le) x) (subst (λ (l : List ℕ). slice_get l b ≡ Some n) (same j non le) y)
        | inl lt ↦ absurd (no_element n (contains_of [] a n (subst (λ (l : List ℕ). slice_get l a ≡ Some n) (none j non lt) x)))
      ]

  pub run_back : IsRunOf g (unsteady (take len w) (first_sets (len + 1) chart) (take (len + 1) begun) f marks)
  run_back = record {
    sound = run.sound;
    facts = run.facts;
    masks = run.masks;
    marks = run.marks;
    few = (let few = run.few in omega (arith, long, few, within));
    chart = back_chart;
    waiters = back_waiters;
    counted = length-take-le (len + 1) begun (let c = run.counted in omega (arith, c, within)) ∙ sym few_sets;
    begun = each;
    front = front_shorter g (take len w) (drop len w) (subst (λ (u : List ℕ). IsFront g u) (sym all) run.front);
    steady = never_steady;
  }
    where
      shorter : (k state origin count : ℕ) → k ≤ len → IsBegun g w chart.sets k state origin count → IsBegun g (take len w) (take (len + 1) chart.sets) k state origin count
      shorter k state origin count le b = begun_shorter g (take len w) (drop len w) (take (len + 1) chart.sets) chart.sets k state origin count (omega (arith, long, le)) (λ j lej. sym (kept_set j (omega (arith, le, lej)))) (subst (λ (u : List ℕ). IsBegun g u chart.sets k state origin count) (sym all) b)

      longer : (k state origin count : ℕ) → k ≤ len → IsBegun g (take len w) (take (len + 1) chart.sets) k state origin count → IsBegun g w chart.sets k state origin count
      longer k state origin count le b = subst (λ (u : List ℕ). IsBegun g u chart.sets k state origin count) all (begun_longer g (take len w) (drop len w) (take (len + 1) chart.sets) chart.sets k state origin count (omega (arith, long, le)) (λ j lej. sym (kept_set j (omega (arith, le, lej)))) b)

      each : (k : ℕ) → k ≤ length (take len w) → AreBegun g (take len w) (take (len + 1) chart.sets) k (slice_index_or (take (len + 1) begun) k [])
      each k le b =
          let under : k ≤ len = omega (arith, le, long) in
          let row : slice_index_or (take (len + 1) begun) k [] ≡ slice_index_or begun k [] = get_or-take (len + 1) begun k [] (omega (arith, under)) in
          let iff = run.begun k (omega (arith, under, within)) b in (
            (λ h. let x = iff.0 (subst (λ (l : List Begun). Contains l b) row h) in (x.0, shorter k b.state b.origin b.count under x.1)),
            (λ x. subst (λ (l : List Begun). Contains l b) (sym row) (iff.1 (x.0, longer k b.state b.origin b.count under x.1))),
          )

-- WHAT A STEP KEEPS WHILE IT ADDS

pub push_taken : {A : Type 0} (xs more : List A) (y : A) → more ≡ xs ++ y ∷ [] → take (length xs) more ≡ xs
push_taken {A} xs more y is = ap (λ (l : List A). take (length xs) l) is ∙ front xs
  where
    front : (zs : List A) → take (length zs) (zs ++ y ∷ []) ≡ zs
    front [] = refl
    front (z ∷ zs) = ap (λ l. z ∷ l) (front zs)

-- a set was added, and then something to it alone
pub firsts_kept : (old pushed new : Charted) (set : List Item) → pushed.sets ≡ old.sets ++ set ∷ [] → first_sets (length old.sets) pushed ≡ old → before_last new ≡ before_last pushed → first_sets (length old.sets) new ≡ old
firsts_kept old pushed new set sets kept before = ap (λ n. first_sets n new) (sym last) ∙ before ∙ ap (λ n. first_sets n pushed) at ∙ kept
  where
    at : last_set pushed ≡ length old.sets
    at = let e = ap (λ (l : List (List Item)). length l) sets in let f = length-append old.sets (set ∷ []) in omega (arith, e, f)

    firsts_long : (l : List (List Item)) → length (take (length l - 1) l) ≡ length l - 1
    firsts_long l = length-take-le (length l - 1) l (omega arith)

    last : last_set new ≡ length old.sets
    last = sym (firsts_long new.sets) ∙ ap (λ (c : Charted). length c.sets) before ∙ firsts_long pushed.sets ∙ at

-- a run with these facts
abbrev pub running : Facts → ℕ → Bool → List ℕ → Charted → List (List Begun) → ℕ → Running
running facts atom steady word chart begun marks = record { word = word; chart = chart; begun = begun; facts = facts; marks = marks; atom = atom; steady = steady }

-- what a step that failed leaves is the run before it
pub same_run : (f : Facts) (atom : ℕ) (steady : Bool) (w more : List ℕ) (old new : Charted) (begun on : List (List Begun)) (marks others n : ℕ) → KeepsFirst w more begun on old new → others ≡ marks → n ≡ length w → n + 1 ≡ length old.sets → n + 1 ≡ length begun
    → running f atom steady (take n more) (first_sets (n + 1) new) (take (n + 1) on) others ≡ running f atom steady w old begun marks
same_run f atom steady w more old new begun on marks others n kept same is sets rows =
    ap (λ u. running f atom steady u (first_sets (n + 1) new) (take (n + 1) on) others) (ap (λ m. take m more) is ∙ kept.word_kept)
    ∙ ap (λ c. running f atom steady w c (take (n + 1) on) others) (ap (λ m. first_sets m new) sets ∙ kept.chart_kept)
    ∙ ap (λ b. running f atom steady w old b others) (ap (λ m. take m on) rows ∙ kept.begun_kept)
    ∙ ap (λ m. running f atom steady w old begun m) same

-- LANGUAGE

pub viable_stop : (g : Grammar) (w : List ℕ) (k x : ℕ) → slice_get w k ≡ Some x → IsFront g (take k w) → (IsFront g (take k w ++ x ∷ []) → ⊥) → (InLang g w → ⊥) × IsViable g w k
viable_stop g w k x at front never = (not_in, (omega (arith, get_lt w k x at), front, most))
  where
    next : take (suc k) w ≡ take k w ++ x ∷ []
    next = get_take w k x at

    beyond : (m : ℕ) → k < m → IsFront g (take m w) → ⊥
    beyond m lt h =
        let split : take (suc k) (take m w) ++ drop (suc k) (take m w) ≡ take m w = take-append-drop (suc k) (take m w) in
        let same : take (suc k) (take m w) ≡ take k w ++ x ∷ [] = taken (suc k) m w (omega (arith, lt)) ∙ next in
        never (subst (λ (u : List ℕ). IsFront g u) same (front_shorter g (take (suc k) (take m w)) (drop (suc k) (take m w)) (subst (λ (u : List ℕ). IsFront g u) (sym split) h)))
      where
        taken : (a b : ℕ) (u : List ℕ) → a ≤ b → take a (take b u) ≡ take a u
        taken zero b u le = refl
        taken (suc a) zero u le = absurd (omega (arith, le))
        taken (suc a) (suc b) [] le = refl
        taken (suc a) (suc b) (y ∷ u) le = ap (λ (l : List ℕ). y ∷ l) (taken a b u (omega (arith, le)))

    most : (m : ℕ) → m ≤ length w → IsFront g (take m w) → m ≤ k
    most m le h = elim (cases_lt k m) [ inl lt ↦ absurd (beyond m lt h) | inr under ↦ under ]

    not_in : InLang g w → ⊥
    not_in h = beyond (length w) (get_lt w k x at) ([], subst (λ (u : List ℕ). InLang g u) (sym (append-nil (take (length w) w) ∙ take_all (length w) w (omega arith))) h)

pub viable_whole : (g : Grammar) (w : List ℕ) → IsFront g w → IsViable g w (length w)
viable_whole g w front = (omega arith, subst (λ (u : List ℕ). IsFront g u) (sym (take_all (length w) w (omega arith))) front, λ m le h. le)

-- where nothing was gathered, no word of the language begins so
pub step_stops : (g : Grammar) (w : List ℕ) (s : ℕ) (f : Facts) (chart : Charted) (begun : List (List Begun)) (marks : ℕ) → IsRunOf g (unsteady w chart begun f marks) → (due : List Item) (fresh : List Begun) → AreDue g w s chart.sets due → AreBegun g (w ++ s ∷ []) chart.sets (suc (length w)) fresh → due ≡ [] → fresh ≡ [] → IsFront g (w ++ s ∷ []) → ⊥
step_stops g w s f chart begun marks run due fresh are_due are_fresh none nothing = no_front g w s chart.sets run.chart run.sound.built run.sound no_due no_begun
  where
    no_due : (d : Place) (i : ℕ) → IsDue g (w ++ s ∷ []) chart.sets (suc (length w)) d i → ⊥
    no_due d i x =
        let st = due_stands g w s chart.sets run.chart run.sound.built d i (suc (length w)) x in
        let n = has_number g d (stands_at_place g (w ++ s ∷ []) d i (suc (length w)) st) in
        no_element (record { state = n.0; origin = i }) (subst (λ (l : List Item). Contains l (record { state = n.0; origin = i })) none ((are_due (record { state = n.0; origin = i })).1 (d, n.1, x)))

    no_begun : (state origin count : ℕ) → IsBegun g (w ++ s ∷ []) chart.sets (suc (length w)) state origin (suc count) → ⊥
    no_begun state origin count b = no_element (record { state = state; origin = origin; count = suc count }) (subst (λ (l : List Begun). Contains l (record { state = state; origin = origin; count = suc count })) nothing ((are_fresh (record { state = state; origin = origin; count = suc count })).1 (omega arith, b)))

-- and where something was, one does
pub step_goes : (g : Grammar) (w : List ℕ) (s : ℕ) (f : Facts) (chart : Charted) (begun : List (List Begun)) (marks : ℕ) → IsRunOf g (unsteady w chart begun f marks) → (due : List Item) (fresh : List Begun) → AreDue g w s chart.sets due → AreBegun g (w ++ s ∷ []) chart.sets (suc (length w)) fresh → (due ≡ [] → fresh ≡ [] → ⊥) → IsFront g (w ++ s ∷ [])
step_goes g w s f chart begun marks run [] [] are_due are_fresh some = absurd (some refl refl)
step_goes g w s f chart begun marks run [] (b ∷ fresh) are_due are_fresh some = begun_front g w s chart.sets run.chart run.sound.built run.sound b.state b.origin b.count ((are_fresh b).0 (first_in b fresh)).1
step_goes g w s f chart begun marks run (x ∷ due) fresh are_due are_fresh some = let d = (are_due x).0 (first_in x due) in due_front g w s chart.sets run.chart run.sound.built run.sound d.0 x.origin d.2

pub no_length : {A : Type 0} (xs : List A) → length xs ≡ 0 → xs ≡ []
no_length [] e = refl
no_length (x ∷ xs) e = absurd (omega (arith, e))

-- a run that did not go on by the next symbol shows how far the document can be read
pub fault_stop : (g : Grammar) (doc : List ℕ) (k n x : ℕ) (was now : Running) → was.word ≡ take n doc → IsRunOf g was → now ≡ was → k ≡ length now.word → slice_get doc n ≡ Some x → (IsFront g (was.word ++ x ∷ []) → ⊥) → (InLang g doc → ⊥) × IsViable g doc k
fault_stop g doc k n x was now word run same long at never =
    let lt = get_lt doc n x at in
    let is : k ≡ n = long ∙ ap (λ (r : Running). length r.word) same ∙ ap (λ (u : List ℕ). length u) word ∙ length-take-le n doc (omega (arith, lt)) in
    let stop = viable_stop g doc n x at (subst (λ (u : List ℕ). IsFront g u) word run.front) (λ h. never (subst (λ (u : List ℕ). IsFront g (u ++ x ∷ [])) (sym word) h)) in
    (stop.0, subst (λ m. IsViable g doc m) (sym is) stop.1)

-- and so does one that has read all of it, where that is not of the language
pub fault_whole : (g : Grammar) (doc : List ℕ) (k : ℕ) (run : Running) → run.word ≡ doc → IsRunOf g run → k ≡ length doc → (InLang g run.word → ⊥) → (InLang g doc → ⊥) × IsViable g doc k
fault_whole g doc k run word is long never =
    ((λ h. never (subst (λ (u : List ℕ). InLang g u) (sym word) h)), subst (λ m. IsViable g doc m) (sym long) (viable_whole g doc (subst (λ (u : List ℕ). IsFront g u) word is.front)))
