-- Each task that is done leaves less to do.
use Rattle.std.proofs.Common.{◌≡◌, ℕ, suc, ◌*◌, ◌^◌, ◌<◌, ◌≤◌, List, [], ◌∷◌, ◌++◌, length, Option, Some, None, ap, arith}
use Rattle.std.proofs.Math.Nat.{one-le-pow, pow-le-pow_right, pow-succ'}
use Rattle.std.proofs.lemmas.List.Sums.{sum_by-append, sum_by_push}
use Rattle.xs_forest.specs.Rows.{IsEarlier}
use Rattle.xs_forest_laws.specs.declared.span.SpanKey.{SpanKey}
use Rattle.xs_forest_laws.specs.declared.span.What.{What}
use Rattle.xs_forest_laws.specs.declared.span.What.TheVariants.{Whole, Front}
use Rattle.xs_forest_laws.specs.Forest.{Forest, key_of}
use Rattle.xs_listing.specs.declared.count.Chosen.{Chosen}
use Rattle.xs_listing.specs.declared.spelt.SpeltPart.{SpeltPart}
use Rattle.xs_listing.specs.declared.write.Source.{Source}
use Rattle.xs_listing.specs.declared.write.Task.{Task}
use Rattle.xs_listing.specs.declared.write.Task.TheVariants.{Visit, Word, Close}
use Rattle.xs_listing.specs.Writing.{child_task, item_task, last_task, IsVisited, IsDone, IsSource, CanDo, work, work_left}
use Rattle.xs_listing.proofs.Children.{children_earlier}

power_some : (r : ℕ) → 1 ≤ 3 ^ r
power_some r = one-le-pow r 3 (omega arith)

visit_small : (c r : ℕ) → c < r → 3 ^ suc c ≤ 3 ^ r
visit_small c r lt = pow-le-pow_right {n = 3} (omega arith) {i = suc c} {j = r} (omega arith)

child_small : (r : ℕ) (o : Option ℕ) (k : ℕ) → IsEarlier o r → work_left (child_task o k) ≤ 3 ^ r
child_small r None k early = omega (arith, power_some r)
child_small r (Some c) k early = omega (arith, visit_small c r early)

item_small : (r p d i j : ℕ) (o : Option ℕ) (k : ℕ) → IsEarlier o r → work (item_task p d i j o k) ≤ 3 ^ r
item_small r p d i j None k early = power_some r
item_small r p d i j (Some c) k early = visit_small c r early

last_small : (f : Forest) (r : ℕ) (what : What) (key : SpanKey) (c : Chosen) (from : ℕ) → IsEarlier c.alt.right r → work (last_task f what key c from) ≤ 3 ^ r
last_small f r (Whole n) key c from early = power_some r
last_small f r (Front p d) key c from early = item_small r p _ _ _ c.alt.right c.right early

work_some : (task : Task) → 0 < work task
work_some (Visit r k) = omega (arith, power_some (suc r))
work_some (Word p d i j) = omega arith
work_some (Close q n) = omega arith

-- a task that leaves none
pub gone_less : (tasks : List Task) (task : Task) → work_left tasks < work_left (tasks ++ task ∷ [])
gone_less tasks task = omega (arith, sum_by_push work tasks task, work_some task)

module _ (s : Source) (is : IsSource s) where
  pub visited_less : (r k from : ℕ) (old new : List Task) → r < length s.forest.now → IsVisited s.forest.now s.cap s.counts.now r k from old new → work_left new < work_left (old ++ Visit r k ∷ [])
  visited_less r k from old new there v =
      let c = v.found in
      let key = key_of s.forest.now r in
      let last = last_task s.forest.now key.what key c from in
      let earlier = children_earlier s.g.now s.doc.now s.forest.now is.right r v.alt_number r c.alt there (omega arith) v.is.alt in
      let left : work_left (child_task c.alt.left c.left) ≤ 3 ^ r = child_small r c.alt.left c.left earlier.0 in
      let right : work last ≤ 3 ^ r = last_small s.forest.now r key.what key c from earlier.1 in
      let whole : 3 ^ suc r ≡ 3 * 3 ^ r = pow-succ' 3 r in
      omega (arith, ap work_left v.tasks, sum_by-append work (old ++ last ∷ []) (child_task c.alt.left c.left), sum_by_push work old last, sum_by_push work old (Visit r k), left, right, whole, power_some r)

  pub done_less : (task : Task) (old new : List Task) (parts parts' : List SpeltPart) (places places' : List ℕ) → CanDo s task (length places) → IsDone s.g.now s.forest.now s.cap s.counts.now task old parts places new parts' places' → work_left new < work_left (old ++ task ∷ [])
  done_less (Visit r k) old new parts parts' places places' can done = visited_less r k (length places) old new can.there done.0
  done_less (Word p d i j) old new parts parts' places places' can done = omega (arith, ap work_left done.0, gone_less old (Word p d i j))
  done_less (Close q n) old new parts parts' places places' can done = omega (arith, ap work_left done.0, gone_less old (Close q n))
