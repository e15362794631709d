-- Each item that is written leaves fewer steps to the walk.
use Rattle.std.proofs.Common.{◌≡◌, ℕ, zero, suc, ◌+◌, ◌<◌, ◌≤◌, List, [], ◌∷◌, ◌++◌, length, All, Option, None, Some, refl, sym, ◌∙◌, ap, arith}
use Rattle.std.specs.Prelude.{slice_get}
use Rattle.std.specs.List.{sum_by}
use Rattle.std.proofs.lemmas.List.Elements.{All-head, All-tail}
use Rattle.std.proofs.lemmas.List.Sums.{sum_by-cons, sum_by_push}
use Rattle.std.proofs.lemmas.Option.{slice_get_within}
use Rattle.xs_gram.specs.declared.parts.GItem.{GItem}
use Rattle.xs_gram.specs.declared.parts.GItem.TheVariants.{Fixed, Term, Non, Skip as Ignored}
use Rattle.xs_gram.specs.Grammar.{items}
use Rattle.xs_listing.specs.declared.spelt.SpeltPart.{SpeltPart}
use Rattle.xs_listing.specs.declared.spelt.SpeltPart.TheVariants.{Node, Leaf, Skip}
use Rattle.xs_listing.specs.Spelt.{AreInOrder}
use Rattle.xs_pair.specs.Grammars.{Pair}
use Rattle.xs_talk.specs.declared.walk.Task.{Task}
use Rattle.xs_talk.specs.Walk.{IsOpened, IsWritten, IsKidWritten, IsDone}

module _ (p : Pair) (spelt : List SpeltPart) where
  -- a node takes a step for each item, one to be closed, and those of its kids
  abbrev part_steps : (ℕ → ℕ) → Option SpeltPart → ℕ
  part_steps of_kid (Some (Node q ks)) = suc (length (items p.text q) + sum_by of_kid ks)
  part_steps of_kid (Some (Leaf i j)) = 0
  part_steps of_kid (Some (Skip i j)) = 0
  part_steps of_kid None = 0

  -- the steps that part v takes, and those that are not so far below it
  abbrev steps : ℕ → ℕ → ℕ
  steps zero v = 0
  steps (suc depth) v = part_steps (steps depth) (slice_get spelt v)

  abbrev kid_steps : List ℕ → ℕ
  kid_steps ks = sum_by (steps (length spelt)) ks

  abbrev task_steps : Task → ℕ
  task_steps task = suc (length task.items.now + kid_steps task.kids.now)

  -- the steps that the open nodes still take
  abbrev pub steps_left : List Task → ℕ
  steps_left tasks = sum_by task_steps tasks

  kids_same : (f g : ℕ → ℕ) (v : ℕ) (ks : List ℕ) → All (λ k. k < v) ks → ((k : ℕ) → k < v → f k ≡ g k) → sum_by f ks ≡ sum_by g ks
  kids_same f g v [] all same = refl
  kids_same f g v (k ∷ ks) all same =
      let first = same k (All-head (λ k. k < v) k ks all) in
      let rest = kids_same f g v ks (All-tail (λ k. k < v) k ks all) same in
      omega (arith, sum_by-cons f k ks, sum_by-cons g k ks, first, rest)

  module _ (w : List ℕ) (order : AreInOrder w spelt) where
    steps_same : (depth v : ℕ) → v < depth → steps (suc depth) v ≡ steps depth v
    steps_same zero v lt = absurd (omega arith)
    steps_same (suc depth) v lt = at (λ k below. steps_same depth k (omega arith)) (slice_get spelt v) refl
      where
        at : ((k : ℕ) → k < v → steps (suc depth) k ≡ steps depth k) → (o : Option SpeltPart) → slice_get spelt v ≡ o → part_steps (steps (suc depth)) o ≡ part_steps (steps depth) o
        at same None e = refl
        at same (Some (Leaf i j)) e = refl
        at same (Some (Skip i j)) e = refl
        at same (Some (Node q ks)) e =
            ap (λ n. suc (length (items p.text q) + n)) (kids_same (steps (suc depth)) (steps depth) v ks (order v (Node q ks) e) same)

    node_steps : (v q : ℕ) (ks : List ℕ) → slice_get spelt v ≡ Some (Node q ks) → steps (length spelt) v ≡ suc (length (items p.text q) + kid_steps ks)
    node_steps v q ks e = sym (steps_same (length spelt) v (slice_get_within spelt v (Node q ks) e)) ∙ ap (part_steps (steps (length spelt))) e

    opened_left : (rule : ℕ) (is : List GItem) (vs : List ℕ) (old new : List Task) → IsOpened rule is vs old new → steps_left new ≡ steps_left old + suc (length is + kid_steps vs)
    opened_left rule is vs old new o =
        omega (arith, ap steps_left o.last, sum_by_push task_steps old o.task, ap length o.of_items, ap kid_steps o.of_kids)

    written_left : (v : ℕ) (old new : List Task) (out out' : List ℕ) → IsWritten p w (slice_get spelt v) old out new out' → steps_left new ≤ steps_left old + steps (length spelt) v
    written_left v old new out out' = at (slice_get spelt v) refl
      where
        at : (o : Option SpeltPart) → slice_get spelt v ≡ o → IsWritten p w o old out new out' → steps_left new ≤ steps_left old + steps (length spelt) v
        at None e written = absurd written
        at (Some (Leaf i j)) e written = omega (arith, ap steps_left written.1)
        at (Some (Skip i j)) e written = omega (arith, ap steps_left written.1)
        at (Some (Node q ks)) e written = omega (arith, opened_left q (items p.text q) ks old new written.1, node_steps v q ks e)

    kid_less : (rule : ℕ) (item : GItem) (is : List GItem) (vs : List ℕ) (old new : List Task) (out out' : List ℕ) → IsKidWritten p w spelt rule item is vs old out new out' → steps_left new < steps_left old + suc (suc (length is) + kid_steps vs)
    kid_less rule item is [] old new out out' written = absurd written
    kid_less rule item is (v ∷ vs) old new out out' written =
        omega (arith, opened_left rule is vs old written.0 written.1, written_left v written.0 new _ out' written.2, sum_by-cons (steps (length spelt)) v vs)

    items_less : (rule : ℕ) (is : List GItem) (vs : List ℕ) (old new : List Task) (out out' : List ℕ) → IsDone p w spelt rule is vs old out new out' → steps_left new < steps_left old + suc (length is + kid_steps vs)
    items_less rule [] vs old new out out' done = omega (arith, ap steps_left done.1)
    items_less rule (Fixed f ∷ is) vs old new out out' done = omega (arith, opened_left rule is vs old new done.1)
    items_less rule (Term t s ∷ is) vs old new out out' done = kid_less rule (Term t s) is vs old new out out' done
    items_less rule (Non n s ∷ is) vs old new out out' done = kid_less rule (Non n s) is vs old new out out' done
    items_less rule (Ignored k ∷ is) vs old new out out' done = kid_less rule (Ignored k) is vs old new out out' done

    pub done_less : (task : Task) (tasks new : List Task) (out out' : List ℕ) → IsDone p w spelt task.rule task.items.now task.kids.now tasks out new out' → steps_left new < steps_left (tasks ++ task ∷ [])
    done_less task tasks new out out' done =
        omega (arith, sum_by_push task_steps tasks task, items_less task.rule task.items.now task.kids.now tasks new out out' done)
