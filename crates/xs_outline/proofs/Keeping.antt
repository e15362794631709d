-- What the reader keeps, from one line to the next.
use Rattle.std.proofs.Common.{◌≡◌, ◌⊎◌, inl, inr, ℕ, zero, suc, ◌+◌, ◌-◌, ◌<◌, ◌≤◌, Bool, true, false, nat_eq, ◌&&◌, ◌==◌, if◌then◌else◌, eqb-true, List, [], ◌∷◌, ◌++◌, length, set, replicate, Some, None, refl, sym, ap, ◌∙◌, subst, arith}
use Rattle.std.specs.Prelude.{slice_get, slice_index_or}
use Rattle.std.specs.declared.option.Option.{Option}
use Rattle.std.proofs.lemmas.Bool.Decides.{nat_tests}
use Rattle.std.proofs.lemmas.Option.{same_Some, slice_get_within}
use Rattle.xs_gram.specs.Common.{Common, made, kid, child_of}
use Rattle.xs_tree.specs.Flat.{TreePart, tree_at, kids_at}
use Rattle.xs_pair.specs.Grammars.{Pair}
use Rattle.xs_outline.specs.Shapes.{slot_count, is_full, kids_in}
use Rattle.xs_class.proofs.Truth.{eq_self, if_true, if_false}
use Rattle.xs_outline.specs.Machine.{Frame, frame, frame_tree, within, give}
use Rattle.xs_outline.specs.declared.reader.Open.{Open}
use Rattle.xs_outline.specs.Reader.{tree_in, cells_from, missing, cells_of, frame_of, frames_onto, less, with_child, IsFree, IsOpen, AreOpen, AreChildren}
use Rattle.xs_outline.proofs.Viable.{none_missing}
use Rattle.xs_outline.proofs.Fitting.{missing_set}

pub pair_apart : (node n slot s : ℕ) → (n ≡ node → s ≡ slot → ⊥) → (nat_eq node n && nat_eq slot s) ≡ false
pair_apart node n slot s apart = by (nat_eq node n) (nat_eq slot s) refl refl
  where
    by : (a b : Bool) → nat_eq node n ≡ a → nat_eq slot s ≡ b → (a && b) ≡ false
    by false b e f = refl
    by true false e f = refl
    by true true e f = absurd (apart (let P : n ≡ node = grind (arith, nat_tests) in P) (let Q : s ≡ slot = grind (arith, nat_tests) in Q))

-- cells
cells_same : (trees more : List Common) (f g : ℕ → Option ℕ) (s n : ℕ) → ((k : ℕ) → tree_in more (g k) ≡ tree_in trees (f k)) → cells_from more g s n ≡ cells_from trees f s n
cells_same trees more f g s zero same = refl
cells_same trees more f g s (suc n) same = ap (λ c. c ∷ cells_from more g (suc s) n) (same s) ∙ ap (λ cs. tree_in trees (f s) ∷ cs) (cells_same trees more f g (suc s) n same)

pub cells_long : (trees : List Common) (f : ℕ → Option ℕ) (s n : ℕ) → length (cells_from trees f s n) ≡ n
cells_long trees f s zero = refl
cells_long trees f s (suc n) = ap suc (cells_long trees f (suc s) n)

cell_after : (trees : List Common) (f : ℕ → Option ℕ) (s n k : ℕ) → k < n → slice_get (cells_from trees f s n) k ≡ Some (tree_in trees (f (s + k)))
cell_after trees f s zero k lt = absurd (omega (arith, lt))
cell_after trees f s (suc n) zero lt = ap (λ m. Some (tree_in trees (f m))) (none_more s)
  where
    none_more : (m : ℕ) → m ≡ m + 0
    none_more m = omega arith
cell_after trees f s (suc n) (suc k) lt = cell_after trees f (suc s) n k (omega (arith, lt)) ∙ ap (λ m. Some (tree_in trees (f m))) (moved s k)
  where
    moved : (m j : ℕ) → suc m + j ≡ m + suc j
    moved m j = omega arith

pub cell_at : (trees : List Common) (f : ℕ → Option ℕ) (n k : ℕ) → k < n → slice_get (cells_from trees f 0 n) k ≡ Some (tree_in trees (f k))
cell_at trees f n k lt = cell_after trees f 0 n k lt ∙ ap (λ m. Some (tree_in trees (f m))) (let P : 0 + k ≡ k = omega arith in P)

-- one more child
cells_put : (trees : List Common) (f g : ℕ → Option ℕ) (s n slot : ℕ) (part : ℕ) → g (s + slot) ≡ Some part → ((k : ℕ) → (k ≡ s + slot → ⊥) → g k ≡ f k) → slot < n → cells_from trees g s n ≡ set (cells_from trees f s n) slot (Some (tree_at trees part))
cells_put trees f g s zero slot part here others lt = absurd (omega (arith, lt))
cells_put trees f g s (suc n) zero part here others lt =
    ap (λ o. tree_in trees o ∷ cells_from trees g (suc s) n) (ap g (let P : s ≡ s + 0 = omega arith in P) ∙ here)
    ∙ ap (λ cs. Some (tree_at trees part) ∷ cs) (tail_same s n)
  where
    tail_same : (m j : ℕ) → cells_from trees g (suc s) n ≡ cells_from trees f (suc s) n
    tail_same m j = cells_below (suc s) n (omega arith)
      where
        cells_below : (r i : ℕ) → s < r → cells_from trees g r i ≡ cells_from trees f r i
        cells_below r zero lt = refl
        cells_below r (suc i) lt = ap (λ o. tree_in trees o ∷ cells_from trees g (suc r) i) (others r (λ e. let P : ⊥ = omega (arith, e, lt) in P)) ∙ ap (λ cs. tree_in trees (f r) ∷ cs) (cells_below (suc r) i (omega (arith, lt)))
cells_put trees f g s (suc n) (suc slot) part here others lt =
    ap (λ o. tree_in trees o ∷ cells_from trees g (suc s) n) (others s (λ e. let P : ⊥ = omega (arith, e) in P))
    ∙ ap (λ cs. tree_in trees (f s) ∷ cs) (cells_put trees f g (suc s) n slot part (ap g (moved s slot) ∙ here) (λ k differ. others k (λ e. differ (e ∙ sym (moved s slot)))) (omega (arith, lt)))
  where
    moved : (m j : ℕ) → suc m + j ≡ m + suc j
    moved m j = omega arith

-- no child yet
pub cells_none : (trees : List Common) (f : ℕ → Option ℕ) (s n : ℕ) → ((k : ℕ) → f k ≡ None) → cells_from trees f s n ≡ replicate n None
cells_none trees f s zero none = refl
cells_none trees f s (suc n) none = ap (λ o. tree_in trees o ∷ cells_from trees f (suc s) n) (none s) ∙ ap (λ cs. None ∷ cs) (cells_none trees f (suc s) n none)

-- a node that is open within others
pub frames_push : (p : Pair) (trees : List Common) (look : ℕ → ℕ → Option ℕ) (fs : List Frame) (os : List Open) (o : Open) → frames_onto p trees look fs (os ++ o ∷ []) ≡ frame_of p trees look o ∷ frames_onto p trees look fs os
frames_push p trees look fs [] o = refl
frames_push p trees look fs (x ∷ os) o = frames_push p trees look (frame_of p trees look x ∷ fs) os o

open_low : (p : Pair) (trees : List Common) (look : ℕ → ℕ → Option ℕ) (fs : List Frame) (low bound : ℕ) (os : List Open) → AreOpen p trees look fs low bound os → low ≤ bound
open_low p trees look fs low bound [] open_ = open_
open_low p trees look fs low bound (o ∷ os) open_ = let rest = open_low p trees look (frame_of p trees look o ∷ fs) (suc o.node) bound os open_.3 in omega (arith, open_.0, rest)

pub open_wider : (p : Pair) (trees : List Common) (look : ℕ → ℕ → Option ℕ) (fs : List Frame) (low bound more : ℕ) (os : List Open) → AreOpen p trees look fs low bound os → bound ≤ more → AreOpen p trees look fs low more os
open_wider p trees look fs low bound more [] open_ le = omega (arith, open_, le)
open_wider p trees look fs low bound more (o ∷ os) open_ le = (open_.0, open_.1, open_.2, open_wider p trees look (frame_of p trees look o ∷ fs) (suc o.node) bound more os open_.3 le)

pub open_push : (p : Pair) (trees : List Common) (look : ℕ → ℕ → Option ℕ) (fs : List Frame) (low bound more : ℕ) (os : List Open) (o : Open) → AreOpen p trees look fs low bound os → bound ≤ o.node → IsOpen p trees look o → IsFree (frames_onto p trees look fs os) o.slot → suc o.node ≤ more → AreOpen p trees look fs low more (os ++ o ∷ [])
open_push p trees look fs low bound more [] o open_ le own free lt = (omega (arith, open_, le), own, free, lt)
open_push p trees look fs low bound more (x ∷ os) o open_ le own free lt = (open_.0, open_.1, open_.2, open_push p trees look (frame_of p trees look x ∷ fs) (suc x.node) bound more os o open_.3 le own free lt)

-- the innermost node taken out
pub record Popped (p : Pair) (trees : List Common) (look : ℕ → ℕ → Option ℕ) (fs : List Frame) (low bound : ℕ) (os : List Open) (o : Open) : Type 0 where
  pub front : AreOpen p trees look fs low o.node os
  pub own : IsOpen p trees look o
  pub free : IsFree (frames_onto p trees look fs os) o.slot
  pub below : suc o.node ≤ bound

pub open_pop : (p : Pair) (trees : List Common) (look : ℕ → ℕ → Option ℕ) (fs : List Frame) (low bound : ℕ) (os : List Open) (o : Open) → AreOpen p trees look fs low bound (os ++ o ∷ []) → Popped p trees look fs low bound os o
open_pop p trees look fs low bound [] o open_ = record { front = open_.0; own = open_.1; free = open_.2; below = open_.3 }
open_pop p trees look fs low bound (x ∷ os) o open_ =
    let rest = open_pop p trees look (frame_of p trees look x ∷ fs) (suc x.node) bound os o open_.3 in
    record { front = (open_.0, open_.1, open_.2, rest.front); own = rest.own; free = rest.free; below = rest.below }

-- nodes below a number see the same children
abbrev pub AgreeBelow : ℕ → List Common → (ℕ → ℕ → Option ℕ) → List Common → (ℕ → ℕ → Option ℕ) → Type 0
AgreeBelow bound trees look more new = (node slot : ℕ) → node < bound → tree_in more (new node slot) ≡ tree_in trees (look node slot)

pub record StayOpen (p : Pair) (trees : List Common) (look : ℕ → ℕ → Option ℕ) (more : List Common) (new : ℕ → ℕ → Option ℕ) (fs : List Frame) (low bound : ℕ) (os : List Open) : Type 0 where
  pub open_ : AreOpen p more new fs low bound os
  pub frames : frames_onto p more new fs os ≡ frames_onto p trees look fs os

pub stay_open : (p : Pair) (trees : List Common) (look : ℕ → ℕ → Option ℕ) (more : List Common) (new : ℕ → ℕ → Option ℕ) (fs : List Frame) (low bound : ℕ) (os : List Open) → AgreeBelow bound trees look more new → AreOpen p trees look fs low bound os → StayOpen p trees look more new fs low bound os
stay_open p trees look more new fs low bound [] agree open_ = record { open_ = open_; frames = refl }
stay_open p trees look more new fs low bound (o ∷ os) agree open_ =
    let above = open_low p trees look (frame_of p trees look o ∷ fs) (suc o.node) bound os open_.3 in
    let cells : cells_of p more new o ≡ cells_of p trees look o = cells_same trees more (look o.node) (new o.node) 0 (slot_count p o.rule) (λ k. agree o.node k (omega (arith, above))) in
    let own : frame_of p more new o ≡ frame_of p trees look o = ap (λ z. frame o.rule o.slot z) cells in
    let rest = stay_open p trees look more new (frame_of p trees look o ∷ fs) (suc o.node) bound os agree open_.3 in
    record {
      open_ = (open_.0, record { rule = open_.1.rule; missing = open_.1.missing ∙ ap missing (sym cells); some = open_.1.some }, open_.2, subst (λ z. AreOpen p more new (z ∷ fs) (suc o.node) bound os) (sym own) rest.open_);
      frames = ap (λ z. frames_onto p more new (z ∷ fs) os) own ∙ rest.frames;
    }

pub tree_kept : (trees more : List Common) (n : ℕ) (o : Option ℕ) → ((k : ℕ) → k < n → tree_at more k ≡ tree_at trees k) → ((part : ℕ) → o ≡ Some part → part < n) → tree_in more o ≡ tree_in trees o
tree_kept trees more n None same below = refl
tree_kept trees more n (Some part) same below = ap (λ t. Some t) (same part (below part refl))

-- all parts keep their trees where parts follow
pub parts_keep : (trees ys : List Common) (k : ℕ) → k < length trees → tree_at (trees ++ ys) k ≡ tree_at trees k
parts_keep [] ys k lt = absurd (omega (arith, lt))
parts_keep (t ∷ trees) ys zero lt = refl
parts_keep (t ∷ trees) ys (suc k) lt = parts_keep trees ys k (omega (arith, lt))

pub last_part : (trees : List Common) (t : Common) → tree_at (trees ++ t ∷ []) (length trees) ≡ t
last_part [] t = refl
last_part (x ∷ trees) t = last_part trees t

-- a full node lacks nothing, and the other way round
full_missing : (cells : List (Option Common)) → is_full cells ≡ true → missing cells ≡ 0
full_missing [] full = refl
full_missing (None ∷ cells) full = absurd (not_true full)
  where
    not_true : false ≡ true → ⊥
    not_true e = cc
full_missing (Some t ∷ cells) full = full_missing cells full

pub not_full_yet : (cells : List (Option Common)) → 0 < missing cells → is_full cells ≡ false
not_full_yet cells some = by (is_full cells) refl
  where
    by : (b : Bool) → is_full cells ≡ b → b ≡ false
    by true e = let none = full_missing cells e in absurd (omega (arith, none, some))
    by false e = refl

-- where nothing is missing each slot has a child
all_there : (trees : List Common) (f : ℕ → Option ℕ) (s n : ℕ) → missing (cells_from trees f s n) ≡ 0 → (k : ℕ) → k < n → (part : ℕ) × (f (s + k) ≡ Some part)
all_there trees f s zero none k lt = absurd (omega (arith, lt))
all_there trees f s (suc n) none k lt = by (f s) refl none k lt (λ j less_ rest. all_there trees f (suc s) n rest j less_)
  where
    moved : (m j : ℕ) → suc m + j ≡ m + suc j
    moved m j = omega arith

    none_more : (m : ℕ) → m + 0 ≡ m
    none_more m = omega arith

    by : (o : Option ℕ) → f s ≡ o → missing (tree_in trees o ∷ cells_from trees f (suc s) n) ≡ 0 → (k : ℕ) → k < suc n → ((j : ℕ) → j < n → missing (cells_from trees f (suc s) n) ≡ 0 → (part : ℕ) × (f (suc s + j) ≡ Some part)) → (part : ℕ) × (f (s + k) ≡ Some part)
    by None e lack k lt again = absurd (omega (arith, lack))
    by (Some part) e lack zero lt again = (part, ap f (none_more s) ∙ e)
    by (Some part) e lack (suc j) lt again =
        let rest = again j (omega (arith, lt)) lack in
        (rest.0, ap f (sym (moved s j)) ∙ rest.1)

-- a node lacks at most as many as it has slots, and where it lacks them all no slot has a child
missing_most : (trees : List Common) (f : ℕ → Option ℕ) (s n : ℕ) → missing (cells_from trees f s n) ≤ n
missing_most trees f s zero = omega arith
missing_most trees f s (suc n) = by (f s) (missing_most trees f (suc s) n)
  where
    by : (o : Option ℕ) → missing (cells_from trees f (suc s) n) ≤ n → missing (tree_in trees o ∷ cells_from trees f (suc s) n) ≤ suc n
    by None most = omega (arith, most)
    by (Some part) most = omega (arith, most)

none_after : (trees : List Common) (f : ℕ → Option ℕ) (s n : ℕ) → missing (cells_from trees f s n) ≡ n → (k : ℕ) → k < n → f (s + k) ≡ None
none_after trees f s zero all k lt = absurd (omega (arith, lt))
none_after trees f s (suc n) all k lt = by (f s) refl all k lt (missing_most trees f (suc s) n) (λ lack j less_. none_after trees f (suc s) n lack j less_)
  where
    moved : (m j : ℕ) → suc m + j ≡ m + suc j
    moved m j = omega arith

    none_more : (m : ℕ) → m + 0 ≡ m
    none_more m = omega arith

    by : (o : Option ℕ) → f s ≡ o → missing (tree_in trees o ∷ cells_from trees f (suc s) n) ≡ suc n → (k : ℕ) → k < suc n → missing (cells_from trees f (suc s) n) ≤ n → (missing (cells_from trees f (suc s) n) ≡ n → (j : ℕ) → j < n → f (suc s + j) ≡ None) → f (s + k) ≡ None
    by (Some part) e lack k lt most again = absurd (omega (arith, lack, most))
    by None e lack zero lt most again = ap f (none_more s) ∙ e
    by None e lack (suc j) lt most again = ap f (sym (moved s j)) ∙ again (omega (arith, lack)) j (omega (arith, lt))

pub none_there : (trees : List Common) (f : ℕ → Option ℕ) (n : ℕ) → missing (cells_from trees f 0 n) ≡ n → (k : ℕ) → k < n → f k ≡ None
none_there trees f n all k lt = ap f (let P : k ≡ 0 + k = omega arith in P) ∙ none_after trees f 0 n all k lt

-- the children of a full node
kids_are : (trees : List Common) (f : ℕ → Option ℕ) (ks : List ℕ) (s n : ℕ) → length ks ≡ n → ((k : ℕ) → k < n → slice_get ks k ≡ f (s + k)) → kids_in (cells_from trees f s n) ≡ kids_at trees ks
kids_are trees f [] s zero long each = refl
kids_are trees f [] s (suc n) long each = absurd (omega (arith, long))
kids_are trees f (x ∷ ks) s zero long each = absurd (omega (arith, long))
kids_are trees f (x ∷ ks) s (suc n) long each =
    let first : f s ≡ Some x = ap f (none_more s) ∙ sym (each 0 (omega arith)) in
    ap (λ o. kid (child_of (tree_in trees o)) (kids_in (cells_from trees f (suc s) n))) first
    ∙ ap (λ z. kid (tree_at trees x) z) (kids_are trees f ks (suc s) n (omega (arith, long)) (λ k lt. each (suc k) (omega (arith, lt)) ∙ ap f (sym (moved s k))))
  where
    none_more : (m : ℕ) → m ≡ m + 0
    none_more m = omega arith

    moved : (m j : ℕ) → suc m + j ≡ m + suc j
    moved m j = omega arith

-- the children of all nodes, where a node has one more
abbrev pub with_last : (ℕ → ℕ → Option ℕ) → ℕ → ℕ → ℕ → ℕ → ℕ → Option ℕ
with_last look node slot part n s = if n == node then with_child (look n) slot part s else look n s

pub with_own : (look : ℕ → ℕ → Option ℕ) (node slot part s : ℕ) → with_last look node slot part node s ≡ with_child (look node) slot part s
with_own look node slot part s = if_true (node == node) (with_child (look node) slot part s) (look node s) (eq_self node)

pub with_here : (look : ℕ → ℕ → Option ℕ) (node slot part : ℕ) → with_last look node slot part node slot ≡ Some part
unfolding with_child
with_here look node slot part = with_own look node slot part slot ∙ if_true (slot == slot) (Some part) (look node slot) (eq_self slot)

pub with_others : (look : ℕ → ℕ → Option ℕ) (node slot part n s : ℕ) → (n ≡ node → s ≡ slot → ⊥) → with_last look node slot part n s ≡ look n s
unfolding with_child
with_others look node slot part n s apart = by (n == node) (s == slot) refl refl
  where
    by : (a b : Bool) → (n == node) ≡ a → (s == slot) ≡ b → (if a then (if b then Some part else look n s) else look n s) ≡ look n s
    by false b e f = refl
    by true false e f = refl
    by true true e f = absurd (apart (eqb-true n node e) (eqb-true s slot f))

-- the child of a single slot is the one that is given
pub one_child : (look : ℕ → Option ℕ) (slot part count : ℕ) → count ≡ 1 → slot < count → (s : ℕ) → s < count → slice_get (part ∷ []) s ≡ with_child look slot part s
unfolding with_child
one_child look zero part count one lt zero below = refl
one_child look zero part count one lt (suc s) below = absurd (omega (arith, one, below))
one_child look (suc slot) part count one lt s below = absurd (omega (arith, one, lt))

pub given_child : (look : ℕ → Option ℕ) (slot part : ℕ) → with_child look slot part slot ≡ Some part
unfolding with_child
given_child look slot part = if_true (slot == slot) (Some part) (look slot) (eq_self slot)

pub one_below : (part n : ℕ) → part < n → (k d : ℕ) → k < 1 → slice_index_or (part ∷ []) k d < n
one_below part n lt zero d below = lt
one_below part n lt (suc k) d below = absurd (omega (arith, below))

-- a child is put at a free slot of the innermost node, and what comes of it
module _ (p : Pair) (trees : List Common) (parts : List TreePart) (look new : ℕ → ℕ → Option ℕ) (os : List Open) (o : Open) (slot part bound : ℕ) (sized : length trees ≡ length parts) (children : AreChildren parts look bound) (popped : Popped p trees look [] 0 bound os o) (free : slice_get (cells_of p trees look o) slot ≡ Some None) (own : part < length parts) (here : new o.node slot ≡ Some part) (others : (n s : ℕ) → (n ≡ o.node → s ≡ slot → ⊥) → new n s ≡ look n s) where
  slot_below : slot < slot_count p o.rule
  slot_below = subst (λ n. slot < n) (cells_long trees (look o.node) 0 (slot_count p o.rule)) (slice_get_within (cells_of p trees look o) slot None free)

  pub cells_now : cells_of p trees new o ≡ set (cells_of p trees look o) slot (Some (tree_at trees part))
  cells_now = cells_put trees (look o.node) (new o.node) 0 (slot_count p o.rule) slot part (ap (new o.node) (none_before slot) ∙ here) (λ k differ. others o.node k (λ e f. differ (f ∙ sym (none_before slot)))) slot_below
    where
      none_before : (k : ℕ) → 0 + k ≡ k
      none_before k = omega arith

  pub missing_now : suc (missing (cells_of p trees new o)) ≡ o.missing
  missing_now = ap (λ z. suc (missing z)) cells_now ∙ missing_set (cells_of p trees look o) slot (tree_at trees part) free ∙ sym popped.own.missing

  agree_put : AgreeBelow o.node trees look trees new
  agree_put node s lt = ap (tree_in trees) (others node s (λ e f. let P : ⊥ = omega (arith, e, lt) in P))

  pub children_now : AreChildren parts new bound
  children_now = record {
    below = λ node s k is. by_case node s k is (same_or node s);
    fresh = λ node s le. others node s (λ e f. let b = popped.below in let P : ⊥ = omega (arith, e, le, b) in P) ∙ children.fresh node s le;
  }
    where
      same_or : (node s : ℕ) → ((node ≡ o.node) × (s ≡ slot)) ⊎ (node ≡ o.node → s ≡ slot → ⊥)
      same_or node s = at (nat_eq node o.node) (nat_eq s slot) refl refl
        where
          at : (a b : Bool) → nat_eq node o.node ≡ a → nat_eq s slot ≡ b → ((node ≡ o.node) × (s ≡ slot)) ⊎ (node ≡ o.node → s ≡ slot → ⊥)
          at true true e f = inl (let P : node ≡ o.node = grind (arith, nat_tests) in P, let Q : s ≡ slot = grind (arith, nat_tests) in Q)
          at true false e f = inr (λ g h. let P : ⊥ = grind (arith, nat_tests) in P)
          at false b e f = inr (λ g h. let P : ⊥ = grind (arith, nat_tests) in P)

      by_case : (node s k : ℕ) → new node s ≡ Some k → ((node ≡ o.node) × (s ≡ slot)) ⊎ (node ≡ o.node → s ≡ slot → ⊥) → k < length parts
      by_case node s k is (inl (e, f)) = subst (λ z. z < length parts) (same_Some part k (sym here ∙ ap (λ m. new m slot) (sym e) ∙ ap (new node) (sym f) ∙ is)) own
      by_case node s k is (inr apart) = children.below node s k (sym (others node s apart) ∙ is)

  -- it lacks more
  pub put_back : (all : List Open) → 1 < o.missing → all ≡ os ++ less o ∷ [] → AreOpen p trees new [] 0 bound all × (give (frame_of p trees look o ∷ frames_onto p trees look [] os) slot (tree_at trees part) ≡ within (frame o.rule o.slot (set (cells_of p trees look o) slot (Some (tree_at trees part)))) (frames_onto p trees look [] os)) × (frames_onto p trees new [] all ≡ frame o.rule o.slot (set (cells_of p trees look o) slot (Some (tree_at trees part))) ∷ frames_onto p trees look [] os)
  put_back all some is =
      let stay = stay_open p trees look trees new [] 0 o.node os agree_put popped.front in
      let lacks : missing (cells_of p trees new o) ≡ o.missing - 1 = omega (arith, missing_now) in
      let own_open : IsOpen p trees new (less o) = record { rule = popped.own.rule; missing = sym lacks; some = omega (arith, some) } in
      let cells = set (cells_of p trees look o) slot (Some (tree_at trees part)) in
      let open_ : is_full cells ≡ false = not_full_yet cells (let m = ap missing (sym cells_now) ∙ lacks in omega (arith, m, some)) in (
        subst (λ z. AreOpen p trees new [] 0 bound z) (sym is)
            (open_push p trees new [] 0 o.node bound os (less o) stay.open_ (omega arith) own_open (subst (λ z. IsFree z o.slot) (sym stay.frames) popped.free) popped.below),
        if_false (is_full cells) (give (frames_onto p trees look [] os) o.slot (frame_tree o.rule cells)) (within (frame o.rule o.slot cells) (frames_onto p trees look [] os)) open_,
        ap (frames_onto p trees new []) is ∙ frames_push p trees new [] os (less o) ∙ ap (λ z. frame o.rule o.slot z ∷ frames_onto p trees new [] os) cells_now ∙ ap (λ z. frame o.rule o.slot cells ∷ z) stay.frames,
      )

  -- it has all its children, and a part is made of them; those of the others stay
  pub all_children : o.missing ≤ 1 → (s : ℕ) → s < slot_count p o.rule → (k : ℕ) × (new o.node s ≡ Some k)
  all_children few s lt =
      let none : missing (cells_of p trees new o) ≡ 0 = omega (arith, missing_now, few) in
      let at = all_there trees (new o.node) 0 (slot_count p o.rule) none s lt in
      (at.0, ap (new o.node) (let P : s ≡ 0 + s = omega arith in P) ∙ at.1)

  pub record Closed (more : List Common) (kids : List ℕ) : Type 0 where
    pub open_ : AreOpen p more look [] 0 bound os
    pub wanted : IsFree (frames_onto p more look [] os) o.slot
    pub goes : give (frame_of p trees look o ∷ frames_onto p trees look [] os) slot (tree_at trees part) ≡ give (frames_onto p more look [] os) o.slot (tree_at more (length trees))

  pub closed : (more : List Common) (kids : List ℕ) → o.missing ≤ 1 → more ≡ trees ++ made o.rule (kids_at trees kids) ∷ [] → length kids ≡ slot_count p o.rule → ((s : ℕ) → s < slot_count p o.rule → slice_get kids s ≡ new o.node s) → Closed more kids
  closed more kids few is long each =
      let same : (k : ℕ) → k < length trees → tree_at more k ≡ tree_at trees k = λ k lt. ap (λ z. tree_at z k) is ∙ parts_keep trees (made o.rule (kids_at trees kids) ∷ []) k lt in
      let kept : (n s : ℕ) → tree_in more (look n s) ≡ tree_in trees (look n s) = λ n s. tree_kept trees more (length trees) (look n s) same (λ k e. subst (λ m. k < m) (sym sized) (children.below n s k e)) in
      let stay = stay_open p trees look more look [] 0 o.node os (λ n s lt. kept n s) popped.front in
      let cells = set (cells_of p trees look o) slot (Some (tree_at trees part)) in
      let full : is_full cells ≡ true = none_missing cells (let m = ap missing cells_now in omega (arith, missing_now, m, few)) in
      let none_before : (k : ℕ) → 0 + k ≡ k = λ k. omega arith in
      let tree : frame_tree o.rule cells ≡ tree_at more (length trees) =
      ap (λ z. frame_tree o.rule z) (sym cells_now) ∙ ap (λ z. made o.rule z) (kids_are trees (new o.node) kids 0 (slot_count p o.rule) long (λ k lt. each k lt ∙ ap (new o.node) (sym (none_before k))))
      ∙ sym (ap (λ z. tree_at z (length trees)) is ∙ last_part trees (made o.rule (kids_at trees kids))) in
      record {
        open_ = open_wider p more look [] 0 o.node bound os stay.open_ (let b = popped.below in omega (arith, b));
        wanted = subst (λ z. IsFree z o.slot) (sym stay.frames) popped.free;
        goes = if_true (is_full cells) (give (frames_onto p trees look [] os) o.slot (frame_tree o.rule cells)) (within (frame o.rule o.slot cells) (frames_onto p trees look [] os)) full
            ∙ ap (λ t. give (frames_onto p trees look [] os) o.slot t) tree ∙ ap (λ z. give z o.slot (tree_at more (length trees))) (sym stay.frames);
      }
