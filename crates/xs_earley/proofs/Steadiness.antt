-- A run whose last set is repeated by each symbol of an atom.
use Rattle.std.proofs.Common.{◌≡◌, ◌≢◌, ℕ, suc, ◌+◌, ◌<◌, ◌≤◌, Bool, true, List, [], ◌∷◌, ◌++◌, length, take, Some, if◌then◌else◌, sym, ◌∙◌, ap, subst, arith, ◌↔◌, inl, inr, append-nil}
use Rattle.std.specs.Prelude.{Contains, slice_get, slice_index_or, IsTrue}
use Rattle.std.proofs.lemmas.Bool.{cases_eq, false≢true}
use Rattle.std.proofs.lemmas.List.{get_or_append_left, get_or_at, get_or-take}
use Rattle.xs_class.proofs.Lists.{one_longer}
use Rattle.xs_chart.specs.declared.item.Item.{Item}
use Rattle.xs_chart.specs.Charted.{Charted, items_of, last_set, waiting_of, set_limit}
use Rattle.xs_chart.proofs.Sets.{pushed_elsewhere}
use Rattle.xs_gram.specs.declared.places.Place.{Place}
use Rattle.xs_gram.specs.Grammar.{Grammar}
use Rattle.xs_gram.specs.Languages.{IsFront}
use Rattle.xs_gram.specs.Sound.{IsBuilt}
use Rattle.xs_gram.specs.Places.{all_places}
use Rattle.xs_gram.specs.Chart.{Stands}
use Rattle.xs_atoms.specs.declared.atoms.Atoms.{Atoms}
use Rattle.xs_atoms.specs.Alphabet.{atom_of}
use Rattle.xs_chart_laws.specs.Charts.{set_at, IsChartOf, HasWaiters}
use Rattle.xs_chart_laws.specs.Next.{IsDue}
use Rattle.xs_chart_laws.proofs.Charts.{chart_all_stand}
use Rattle.xs_chart_laws.proofs.Numbers.{has_number, one_place, stands_at_place}
use Rattle.xs_chart_laws.proofs.Steps.{arrived_stands}
use Rattle.xs_chart_laws.proofs.Nexts.{arrives_later, due_stands}
use Rattle.xs_chart_laws.proofs.Repeats.{chart_again}
use Rattle.xs_earley.specs.declared.begun.Begun.{Begun}
use Rattle.xs_earley.specs.declared.facts.Facts.{Facts}
use Rattle.xs_earley.specs.Arriving.{gathered, item_due, item_begun, more_due, more_begun, AreBegun}
use Rattle.xs_earley.specs.Facts.{IsAtom}
use Rattle.xs_earley.specs.Growing.{IsExact}
use Rattle.xs_earley.specs.Running.{Running, unsteady, IsSteady, IsRunOf}
use Rattle.xs_earley.specs.Stages.{AreDueAt, AreDue}
use Rattle.xs_earley.proofs.Alike.{gathered_alike, due_alike, begun_alike}
use Rattle.xs_earley.proofs.Arrivals.{due_iff, fresh_iff, item_number}
use Rattle.xs_earley.proofs.Growths.{exact_same}
use Rattle.xs_earley.proofs.Steppings.{begun_next, step_goes, step_stops}

-- a run, with what it says of its last set left out
pub at_rest : (g : Grammar) (run : Running) → IsRunOf g run → IsRunOf g (unsteady run.word run.chart run.begun run.facts run.marks)
at_rest g run is = record { sound = is.sound; facts = is.facts; masks = is.masks; marks = is.marks; few = is.few; chart = is.chart; waiters = is.waiters; counted = is.counted; begun = is.begun; front = is.front; steady = λ e. absurd (false≢true e) }

-- of a run that is seen as another one
pub at_rest_now : (g : Grammar) (run now : Running) → run ≡ now → IsRunOf g now → IsRunOf g (unsteady run.word run.chart run.begun run.facts run.marks)
at_rest_now g run now same is = at_rest g run (subst (λ (r : Running). IsRunOf g r) (sym same) is)

-- the same with its word read from a slice, and the grammar's number of marks
pub at_rest_read : (g : Grammar) (run now : Running) → run ≡ now → IsRunOf g now → (word : List ℕ) → word ≡ run.word → IsRunOf g (unsteady word run.chart run.begun run.facts g.nons)
at_rest_read g run now same is word read =
    let rest = at_rest_now g run now same is in
    subst (λ (u : List ℕ). IsRunOf g (unsteady u run.chart run.begun run.facts g.nons)) (sym read) (subst (λ n. IsRunOf g (unsteady run.word run.chart run.begun run.facts n)) rest.marks rest)

pub steady_now : (g : Grammar) (run now : Running) → run ≡ now → IsRunOf g now → run.steady ≡ true → IsSteady g run.atom run.word run.chart run.begun run.facts
steady_now g run now same is = (subst (λ (r : Running). IsRunOf g r) (sym same) is).steady

-- and put in, where it is so
pub with_steady : (g : Grammar) (word : List ℕ) (chart : Charted) (begun : List (List Begun)) (facts : Facts) (marks atom : ℕ) (steady : Bool) → IsRunOf g (unsteady word chart begun facts marks) → (steady ≡ true → IsSteady g atom word chart begun facts) → IsRunOf g (record { word = word; chart = chart; begun = begun; facts = facts; marks = marks; atom = atom; steady = steady })
with_steady g word chart begun facts marks atom steady is so = record { sound = is.sound; facts = is.facts; masks = is.masks; marks = is.marks; few = is.few; chart = is.chart; waiters = is.waiters; counted = is.counted; begun = is.begun; front = is.front; steady = so }

-- what is due in a set depends on the sets before it alone
due_moved : (g : Grammar) (w : List ℕ) (built : IsBuilt g) (sets more : List (List Item)) (k : ℕ) → ((j : ℕ) → j < k → set_at more j ≡ set_at sets j) → (d : Place) (i : ℕ) → IsDue g w sets k d i → IsDue g w more k d i
due_moved g w built sets more k same d i (j, c, (n, num, there), arr) =
    (j, c, (n, num, subst (λ (l : List Item). Contains l (record { state = n; origin = i })) (sym (same j (arrives_later g w built j k c d arr))) there), arr)

are_due_moved : (g : Grammar) (w : List ℕ) (built : IsBuilt g) (sets more : List (List Item)) (k : ℕ) (due : List Item) → ((j : ℕ) → j < k → set_at more j ≡ set_at sets j) → AreDueAt g w sets k due → AreDueAt g w more k due
are_due_moved g w built sets more k due same are item = (
  (λ h. let d = (are item).0 h in (d.0, d.1, due_moved g w built sets more k same d.0 item.origin d.2)),
  (λ x. (are item).1 (x.0, x.1, due_moved g w built more sets k (λ j lt. sym (same j lt)) x.0 item.origin x.2)),
)

-- a run that read a symbol of the atom, and whose last two sets came to be the same, is steady
module _ (g : Grammar) (w : List ℕ) (s : ℕ) (f : Facts) (old : Charted) (begun : List (List Begun)) (marks : ℕ) (run : IsRunOf g (unsteady w old begun f marks)) (due : List Item) (fresh : List Begun) (are_due : AreDue g w s old.sets due) (are_fresh : AreBegun g (w ++ s ∷ []) old.sets (suc (length w)) fresh)
    (due_is : due ≡ gathered (item_due g f s) (items_of old (length w)) ++ gathered (more_due f s) (slice_index_or begun (length w) []))
    (fresh_is : fresh ≡ gathered (item_begun f s) (items_of old (length w)) ++ gathered (more_begun f s) (slice_index_or begun (length w) []))
    (goes : IsFront g (w ++ s ∷ [])) (row : slice_index_or begun (length w) [] ≡ []) (none : fresh ≡ [])
    (new : Charted) (on : List (List Begun)) (before : (j : ℕ) → j ≤ length w → set_at new.sets j ≡ set_at old.sets j) (last : items_of new (suc (length w)) ≡ items_of new (length w)) (pushed : on ≡ begun ++ fresh ∷ []) (atoms : Atoms) (told : f.atoms ≡ Some atoms) (atom : ℕ) (is : atom ≡ atom_of atoms s) where
  of_last : items_of new (suc (length w)) ≡ items_of old (length w)
  of_last = last ∙ before (length w) (omega arith)

  within : (item : Item) → Contains (items_of old (length w)) item → item.state < length (all_places g)
  within item h = item_number g w s old.sets run.chart run.sound.built f run.facts (slice_index_or begun (length w) []) (run.begun (length w) (omega arith)) item h

  all_due : due ≡ gathered (item_due g f s) (items_of old (length w))
  all_due = due_is ∙ ap (λ (l : List Begun). gathered (item_due g f s) (items_of old (length w)) ++ gathered (more_due f s) l) row ∙ append-nil (gathered (item_due g f s) (items_of old (length w)))

  all_fresh : gathered (item_begun f s) (items_of old (length w)) ≡ []
  all_fresh = sym (append-nil (gathered (item_begun f s) (items_of old (length w)))) ∙ sym (ap (λ (l : List Begun). gathered (item_begun f s) (items_of old (length w)) ++ gathered (more_begun f s) l) row) ∙ sym fresh_is ∙ none

  some : due ≡ [] → ⊥
  some e = step_stops g w s f old begun marks run due fresh are_due are_fresh e none goes

  next : (t : ℕ) → atom_of atoms t ≡ atom → gathered (item_due g f t) (items_of new (suc (length w))) ≡ due
  next t e =
      let same : atom_of atoms t ≡ atom_of atoms s = e ∙ is in
      ap (gathered (item_due g f t)) of_last ∙ gathered_alike (item_due g f t) (item_due g f s) (items_of old (length w)) (λ item h. due_alike g f run.sound.built run.facts atoms told t s same item (within item h)) ∙ sym all_due

  idle : (t : ℕ) → atom_of atoms t ≡ atom → gathered (item_begun f t) (items_of new (suc (length w))) ≡ []
  idle t e =
      let same : atom_of atoms t ≡ atom_of atoms s = e ∙ is in
      ap (gathered (item_begun f t)) of_last ∙ gathered_alike (item_begun f t) (item_begun f s) (items_of old (length w)) (λ item h. begun_alike g f run.sound.built run.facts atoms told t s same item (within item h)) ∙ all_fresh

  unbegun : slice_index_or on (suc (length w)) [] ≡ []
  unbegun = ap (λ (l : List (List Begun)). slice_index_or l (suc (length w)) []) pushed ∙ get_or_at begun fresh [] [] (suc (length w)) run.counted ∙ none

  pub steady_begins : (word : List ℕ) → word ≡ w ++ s ∷ [] → IsSteady g atom word new on f
  steady_begins word same_word = subst (λ (u : List ℕ). IsSteady g atom u new on f) (sym same_word) (record {
    atoms = atoms;
    told = told;
    before = length w;
    long = end;
    same = ap (items_of new) end ∙ last;
    unbegun = ap (λ k. slice_index_or on k []) end ∙ unbegun;
    due = due;
    some = some;
    was = subst (λ k. AreDueAt g (w ++ s ∷ []) new.sets k due) (sym end) (are_due_moved g (w ++ s ∷ []) run.sound.built old.sets new.sets (suc (length w)) due (λ j lt. before j (omega (arith, lt))) are_due);
    next = λ t e. ap (λ k. gathered (item_due g f t) (items_of new k)) end ∙ next t e;
    idle = λ t e. ap (λ k. gathered (item_begun f t) (items_of new k)) end ∙ idle t e;
  })
    where
      end : length (w ++ s ∷ []) ≡ suc (length w)
      end = one_longer w s

-- a steady run that reads a symbol of its atom
module _ (g : Grammar) (w : List ℕ) (s atom : ℕ) (f : Facts) (old : Charted) (begun : List (List Begun)) (marks : ℕ) (run : IsRunOf g (unsteady w old begun f marks)) (steady : IsSteady g atom w old begun f) (is : atom_of steady.atoms s ≡ atom) where
  row : slice_index_or begun (length w) [] ≡ []
  row = steady.unbegun

  -- what is due by the symbol
  pub due_again : AreDue g w s old.sets steady.due
  due_again = due_iff g w s old.sets run.chart run.sound.built f run.facts (slice_index_or begun (length w) []) (run.begun (length w) (omega arith)) steady.due
      (sym (steady.next s is) ∙ sym (append-nil (gathered (item_due g f s) (set_at old.sets (length w)))) ∙ sym (ap (λ (l : List Begun). gathered (item_due g f s) (set_at old.sets (length w)) ++ gathered (more_due f s) l) row))

  pub begun_again : AreBegun g (w ++ s ∷ []) old.sets (suc (length w)) []
  begun_again = fresh_iff g w s old.sets run.chart run.sound.built f run.facts (slice_index_or begun (length w) []) (run.begun (length w) (omega arith)) []
      (sym (steady.idle s is) ∙ sym (append-nil (gathered (item_begun f s) (set_at old.sets (length w)))) ∙ sym (ap (λ (l : List Begun). gathered (item_begun f s) (set_at old.sets (length w)) ++ gathered (more_begun f s) l) row))

  pub front_again : IsFront g (w ++ s ∷ [])
  front_again = step_goes g w s f old begun marks run steady.due [] due_again begun_again (λ e h. steady.some e)

  -- just that was due in the last set
  due_twice : (d : Place) (i : ℕ) → IsDue g w old.sets (length w) d i ↔ IsDue g (w ++ s ∷ []) old.sets (suc (length w)) d i
  due_twice d i = (there, back)
    where
      there : IsDue g w old.sets (length w) d i → IsDue g (w ++ s ∷ []) old.sets (suc (length w)) d i
      there x =
          let st : Stands g w d i (length w) = arrived_stands g w run.sound.built x.1 i x.0 (length w) d (chart_all_stand g w old.sets run.chart x.1 i x.0 x.2) x.3 in
          let n = has_number g d (stands_at_place g w d i (length w) st) in
          let item : Item = record { state = n.0; origin = i } in
          let y = (due_again item).0 ((steady.was item).1 (d, n.1, x)) in
          subst (λ (c : Place). IsDue g (w ++ s ∷ []) old.sets (suc (length w)) c i) (one_place g n.0 y.0 d y.1 n.1) y.2

      back : IsDue g (w ++ s ∷ []) old.sets (suc (length w)) d i → IsDue g w old.sets (length w) d i
      back x =
          let st = due_stands g w s old.sets run.chart run.sound.built d i (suc (length w)) x in
          let n = has_number g d (stands_at_place g (w ++ s ∷ []) d i (suc (length w)) st) in
          let item : Item = record { state = n.0; origin = i } in
          let y = (steady.was item).0 ((due_again item).1 (d, n.1, x)) in
          subst (λ (c : Place). IsDue g w old.sets (length w) c i) (one_place g n.0 y.0 d y.1 n.1) y.2

  module _ (new : Charted) (on : List (List Begun)) (sets : new.sets ≡ old.sets ++ items_of old (length w) ∷ []) (kept : (j non : ℕ) → j ≢ suc (length w) → waiting_of new j non ≡ waiting_of old j non) (repeated : (non : ℕ) → waiting_of new (suc (length w)) non ≡ waiting_of old (length w) non) (pushed : on ≡ begun ++ [] ∷ []) where
    before : (j : ℕ) → j ≤ length w → set_at new.sets j ≡ set_at old.sets j
    before j le = ap (λ (l : List (List Item)). set_at l j) sets ∙ get_or_append_left old.sets (items_of old (length w) ∷ []) [] j (let c = run.chart.counted in omega (arith, c, le))

    last : items_of new (suc (length w)) ≡ items_of old (length w)
    last = ap (λ (l : List (List Item)). set_at l (suc (length w))) sets ∙ get_or_at old.sets (items_of old (length w)) [] [] (suc (length w)) run.chart.counted

    counted : length new.sets ≡ suc (suc (length w))
    counted = ap (λ (l : List (List Item)). length l) sets ∙ one_longer old.sets (items_of old (length w)) ∙ ap suc run.chart.counted

    end : length (w ++ s ∷ []) ≡ suc (length w)
    end = one_longer w s

    chart : IsChartOf g (w ++ s ∷ []) new.sets
    chart = chart_again g w s old.sets run.chart run.sound.built steady.before steady.long steady.same due_twice new.sets counted before last

    beyond : (j : ℕ) → j ≢ suc (length w) → items_of new j ≡ items_of old j
    beyond j ne = ap (λ (l : List (List Item)). set_at l j) sets ∙ pushed_elsewhere old.sets (items_of old (length w)) j (subst (λ n. j ≢ n) (sym run.chart.counted) ne)

    waiters : HasWaiters g new
    waiters = record { exact = exact; once = once }
      where
        exact_last : (non : ℕ) → IsExact g new (suc (length w)) non
        exact_last non n =
            let x = run.waiters.exact (length w) non n in (
              (λ h. let y = x.0 (subst (λ (l : List ℕ). Contains l n) (repeated non) h) in (y.0, subst (λ (l : List Item). slice_get l n ≡ Some y.0) (sym last) y.1, y.2)),
              (λ y. subst (λ (l : List ℕ). Contains l n) (sym (repeated non)) (x.1 (y.0, subst (λ (l : List Item). slice_get l n ≡ Some y.0) last y.1, y.2))),
            )

        exact : (j non : ℕ) → IsExact g new j non
        exact j non = elim (cases_eq j (suc (length w))) [
          | inl e ↦ subst (λ k. IsExact g new k non) (sym e) (exact_last non)
          | inr ne ↦ exact_same g old new j non (beyond j ne) (kept j non ne) (run.waiters.exact j non)
        ]

        once_last : (j non a b n : ℕ) → j ≡ suc (length w) → slice_get (waiting_of new j non) a ≡ Some n → slice_get (waiting_of new j non) b ≡ Some n → a ≡ b
        once_last j non a b n e x y =
            let list : waiting_of new j non ≡ waiting_of old (length w) non = ap (λ k. waiting_of new k non) e ∙ repeated non in
            run.waiters.once (length w) non a b n (subst (λ (l : List ℕ). slice_get l a ≡ Some n) list x) (subst (λ (l : List ℕ). slice_get l b ≡ Some n) list y)

        once : (j non a b n : ℕ) → slice_get (waiting_of new j non) a ≡ Some n → slice_get (waiting_of new j non) b ≡ Some n → a ≡ b
        once j non a b n x y = elim (cases_eq j (suc (length w))) [
          | inl e ↦ once_last j non a b n e x y
          | inr ne ↦ run.waiters.once j non a b n (subst (λ (l : List ℕ). slice_get l a ≡ Some n) (kept j non ne) x) (subst (λ (l : List ℕ). slice_get l b ≡ Some n) (kept j non ne) y)
        ]

    run_again : length w + 1 < set_limit → (word : List ℕ) → word ≡ w ++ s ∷ [] → IsRunOf g (unsteady word new on f marks)
    run_again few word same_word = subst (λ (u : List ℕ). IsRunOf g (unsteady u new on f marks)) (sym same_word) (record {
      sound = run.sound;
      facts = run.facts;
      masks = run.masks;
      marks = run.marks;
      few = omega (arith, end, few);
      chart = chart;
      waiters = waiters;
      counted = ap (λ (l : List (List Begun)). length l) pushed ∙ one_longer begun [] ∙ ap suc run.counted ∙ sym (ap suc end);
      begun = begun_next g w s old.sets new.sets begun run.counted run.begun before [] begun_again on pushed;
      front = front_again;
      steady = λ e. absurd (false≢true e);
    })

    steady_again : (word : List ℕ) → word ≡ w ++ s ∷ [] → IsSteady g atom word new on f
    steady_again word same_word = subst (λ (u : List ℕ). IsSteady g atom u new on f) (sym same_word) (record {
      atoms = steady.atoms;
      told = steady.told;
      before = length w;
      long = end;
      same = ap (items_of new) end ∙ last ∙ sym (before (length w) (omega arith));
      unbegun = ap (λ k. slice_index_or on k []) end ∙ ap (λ (l : List (List Begun)). slice_index_or l (suc (length w)) []) pushed ∙ get_or_at begun [] [] [] (suc (length w)) run.counted;
      due = steady.due;
      some = steady.some;
      was = subst (λ k. AreDueAt g (w ++ s ∷ []) new.sets k steady.due) (sym end) (are_due_moved g (w ++ s ∷ []) run.sound.built old.sets new.sets (suc (length w)) steady.due (λ j lt. before j (omega (arith, lt))) due_again);
      next = λ t e. ap (λ k. gathered (item_due g f t) (items_of new k)) end ∙ ap (gathered (item_due g f t)) last ∙ steady.next t e;
      idle = λ t e. ap (λ k. gathered (item_begun f t) (items_of new k)) end ∙ ap (gathered (item_begun f t)) last ∙ steady.idle t e;
    })

-- THE NEXT SET, WHERE IT REPEATS THE LAST ONE

sets_repeated : (g : Grammar) (w : List ℕ) (old new : Charted) (repeats : Bool) → IsChartOf g w old.sets → repeats ≡ true → new.sets ≡ old.sets ++ (if repeats then items_of old (last_set old) else []) ∷ [] → new.sets ≡ old.sets ++ items_of old (length w) ∷ []
sets_repeated g w old new repeats chart is_on is =
    let last : last_set old ≡ length w = let c = chart.counted in omega (arith, c) in
    is ∙ ap (λ b. old.sets ++ (if b then items_of old (last_set old) else []) ∷ []) is_on ∙ ap (λ k. old.sets ++ items_of old k ∷ []) last

waits_repeated : (g : Grammar) (w : List ℕ) (old new : Charted) (repeats : Bool) → IsChartOf g w old.sets → repeats ≡ true → ((non : ℕ) → waiting_of new (length old.sets) non ≡ (if repeats then waiting_of old (last_set old) non else [])) → (non : ℕ) → waiting_of new (suc (length w)) non ≡ waiting_of old (length w) non
waits_repeated g w old new repeats chart is_on own non =
    let last : last_set old ≡ length w = let c = chart.counted in omega (arith, c) in
    ap (λ k. waiting_of new k non) (sym chart.counted) ∙ own non ∙ ap (λ b. if b then waiting_of old (last_set old) non else []) is_on ∙ ap (λ k. waiting_of old k non) last

waits_kept : (g : Grammar) (w : List ℕ) (old new : Charted) → IsChartOf g w old.sets → ((j non : ℕ) → j ≢ length old.sets → waiting_of new j non ≡ waiting_of old j non) → (j non : ℕ) → j ≢ suc (length w) → waiting_of new j non ≡ waiting_of old j non
waits_kept g w old new chart same j non ne = same j non (subst (λ n. j ≢ n) (sym chart.counted) ne)

-- so the run goes on, and stays steady
pub repeats_again : (g : Grammar) (w : List ℕ) (s atom : ℕ) (f : Facts) (old new : Charted) (begun on : List (List Begun)) (marks : ℕ) (repeats : Bool) (fresh : List Begun) (word : List ℕ) → IsRunOf g (unsteady w old begun f marks) → IsSteady g atom w old begun f → IsAtom f s atom → repeats ≡ true → (IsTrue repeats → fresh ≡ [])
    → new.sets ≡ old.sets ++ (if repeats then items_of old (last_set old) else []) ∷ [] → ((j non : ℕ) → j ≢ length old.sets → waiting_of new j non ≡ waiting_of old j non) → ((non : ℕ) → waiting_of new (length old.sets) non ≡ (if repeats then waiting_of old (last_set old) non else []))
    → on ≡ begun ++ fresh ∷ [] → word ≡ w ++ s ∷ [] → (length w + 1 < set_limit → IsRunOf g (unsteady word new on f marks)) × IsSteady g atom word new on f
repeats_again g w s atom f old new begun on marks repeats fresh word run steady is it none sets waiting last on_is word_is = (
  λ few. run_again g w s atom f old begun marks run steady own new on (sets_repeated g w old new repeats run.chart it sets) (waits_kept g w old new run.chart waiting) (waits_repeated g w old new repeats run.chart it last) (on_is ∙ ap (λ (l : List Begun). begun ++ l ∷ []) (none it)) few word word_is,
  steady_again g w s atom f old begun marks run steady own new on (sets_repeated g w old new repeats run.chart it sets) (waits_kept g w old new run.chart waiting) (waits_repeated g w old new repeats run.chart it last) (on_is ∙ ap (λ (l : List Begun). begun ++ l ∷ []) (none it)) word word_is,
)
  where
    own : atom_of steady.atoms s ≡ atom
    own = sym (is steady.atoms steady.told)

-- what a step keeps of the sets before
pub kept_before : (g : Grammar) (w : List ℕ) (old new : Charted) → IsChartOf g w old.sets → take (length old.sets) new.sets ≡ old.sets → (j : ℕ) → j ≤ length w → set_at new.sets j ≡ set_at old.sets j
kept_before g w old new chart kept j le = sym (get_or-take (length old.sets) new.sets j [] (let c = chart.counted in omega (arith, c, le))) ∙ ap (λ (l : List (List Item)). set_at l j) kept
