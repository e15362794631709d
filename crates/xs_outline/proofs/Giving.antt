-- A tree is given to the innermost node, of what the reader keeps.
use Rattle.std.proofs.Common.{◌≡◌, false, replicate, ℕ, suc, ◌<◌, ◌≤◌, List, [], ◌∷◌, ◌++◌, length, length-append, Some, None, refl, sym, ap, ◌∙◌, subst, arith}
use Rattle.std.specs.Prelude.{slice_get, IsSome}
use Rattle.std.specs.declared.option.Option.{Option}
use Rattle.std.proofs.lemmas.Option.{none-some, same_Some, slice_get_within}
use Rattle.xs_gram.specs.Common.{Common, made, no_kid}
use Rattle.xs_tree.specs.Flat.{TreePart, Node, tree_at, tree_of, trees_of, kids_at}
use Rattle.xs_tree.proofs.Trees.{length-trees}
use Rattle.xs_pair.specs.Grammars.{Pair}
use Rattle.xs_outline.specs.Lines.{production}
use Rattle.xs_outline.specs.Shapes.{slot_count, is_full, empty_cells}
use Rattle.xs_outline.specs.Machine.{Frame, frame, frame_tree, within, complete, give, settle, enter}
use Rattle.xs_outline.specs.declared.reader.Open.{Open}
use Rattle.xs_outline.specs.declared.reader.Reader.{Reader}
use Rattle.xs_outline.specs.Reader.{child_at, missing, cells_of, frame_of, frames_onto, frames, state, state_at, state_within, less, with_child, IsFree, IsOpen, AreOpen, AreChildren, IsKept, IsClosed}
use Rattle.xs_outline.proofs.Fitting.{missing_none}
use Rattle.xs_outline.proofs.Keeping.{Popped, open_pop, open_push, open_wider, frames_push, put_back, closed, all_children, children_now, cells_none, cells_long, with_last, with_own, with_here, with_others, tree_kept, parts_keep, stay_open, not_full_yet, last_part, Closed}
use Rattle.xs_class.proofs.Truth.{if_false}

no_root : (p : Pair) (bound : ℕ) (r : Reader) → r.root ≡ None → (part : ℕ) → r.root ≡ Some part → (part < length r.parts) × (r.open.items ≡ [])
no_root p bound r root part is = absurd (none-some part (sym root ∙ is))

-- the innermost node has one child more
module _ (p : Pair) (r : Reader) (os : List Open) (o : Open) (slot part : ℕ) (are : r.open.items ≡ os ++ o ∷ []) (root : r.root ≡ None) (own : part < length r.parts) (free : IsFree (frames p r) slot) where
  abbrev trees : List Common
  trees = trees_of r.parts

  abbrev look : ℕ → ℕ → Option ℕ
  look = child_at r.children

  frames_are : frames p r ≡ frame_of p trees look o ∷ frames_onto p trees look [] os
  frames_are = ap (frames_onto p trees look []) are ∙ frames_push p trees look [] os o

  free_here : slice_get (cells_of p trees look o) slot ≡ Some None
  free_here = subst (λ fs. IsFree fs slot) frames_are free

  pub given_below : slot < slot_count p o.rule
  given_below = subst (λ n. slot < n) (cells_long trees (look o.node) 0 (slot_count p o.rule)) (slice_get_within (cells_of p trees look o) slot None free_here)

  popped : (bound : ℕ) → IsKept p bound r → Popped p trees look [] 0 bound os o
  popped bound kept = open_pop p trees look [] 0 bound os o (subst (λ z. AreOpen p trees look [] 0 bound z) are kept.open_)

  pub given_rule : (bound : ℕ) → IsKept p bound r → o.rule < length p.text.rules
  given_rule bound kept = (popped bound kept).own.rule

  -- it lacks more
  module _ (s : Reader) (here : child_at s.children o.node slot ≡ Some part) (others : (n k : ℕ) → (n ≡ o.node → k ≡ slot → ⊥) → child_at s.children n k ≡ look n k) (parts : s.parts ≡ r.parts) (stays : s.root ≡ r.root) where
    pub filled_kept : (bound : ℕ) → IsKept p bound r → 1 < o.missing → s.open.items ≡ os ++ less o ∷ [] → IsKept p bound s
    filled_kept bound kept some is =
        let back = put_back p trees r.parts look (child_at s.children) os o slot part bound (length-trees r.parts) kept.children (popped bound kept) free_here own here others s.open.items some is in
        record {
          children = subst (λ z. AreChildren z (child_at s.children) bound) (sym parts) (children_now p trees r.parts look (child_at s.children) os o slot part bound (length-trees r.parts) kept.children (popped bound kept) free_here own here others);
          open_ = subst (λ z. AreOpen p (trees_of z) (child_at s.children) [] 0 bound s.open.items) (sym parts) back.0;
          whole = no_root p bound s (stays ∙ root);
        }

    pub filled_state : (bound : ℕ) → IsKept p bound r → 1 < o.missing → s.open.items ≡ os ++ less o ∷ [] → state p s ≡ give (frames p r) slot (tree_at trees part)
    filled_state bound kept some is =
        let back = put_back p trees r.parts look (child_at s.children) os o slot part bound (length-trees r.parts) kept.children (popped bound kept) free_here own here others s.open.items some is in
        ap (state_at (trees_of s.parts) (frames p s)) (stays ∙ root)
        ∙ ap (λ z. state_within (frames_onto p (trees_of z) (child_at s.children) [] s.open.items)) parts
        ∙ ap state_within back.2 ∙ sym back.1 ∙ ap (λ fs. give fs slot (tree_at trees part)) (sym frames_are)

  -- it has all its children
  abbrev look_last : ℕ → ℕ → Option ℕ
  look_last = with_last look o.node slot part

  last_here : look_last o.node slot ≡ Some part
  last_here = with_here look o.node slot part

  last_others : (n k : ℕ) → (n ≡ o.node → k ≡ slot → ⊥) → look_last n k ≡ look n k
  last_others n k apart = with_others look o.node slot part n k apart

  pub last_all : (bound : ℕ) → IsKept p bound r → o.missing ≤ 1 → (k : ℕ) → k < slot_count p o.rule → IsSome (with_child (look o.node) slot part k)
  last_all bound kept few k lt =
      let at = all_children p trees r.parts look look_last os o slot part bound (length-trees r.parts) kept.children (popped bound kept) free_here own last_here last_others few k lt in
      subst IsSome (sym (sym (with_own look o.node slot part k) ∙ at.1)) refl

  pub last_below : (bound : ℕ) → IsKept p bound r → (k n : ℕ) → with_child (look o.node) slot part k ≡ Some n → n < length r.parts
  last_below bound kept k n is =
      (children_now p trees r.parts look look_last os o slot part bound (length-trees r.parts) kept.children (popped bound kept) free_here own last_here last_others).below o.node k n (with_own look o.node slot part k ∙ is)

  -- and is closed
  module _ (s t : Reader) (count number : ℕ) (few : o.missing ≤ 1) (parts : s.parts ≡ r.parts) (children : s.children ≡ r.children) (stays : s.root ≡ r.root) (all : s.open.items ≡ os) (long : count ≡ slot_count p o.rule) (c : IsClosed s t o.node o.rule count slot part number) where
    more_is : trees_of t.parts ≡ trees ++ made o.rule (kids_at trees c.kids) ∷ []
    more_is = c.means ∙ ap (λ z. trees_of z ++ tree_of (trees_of z) (Node o.rule c.kids) ∷ []) parts

    number_is : number ≡ length trees
    number_is = c.number ∙ ap (λ (z : List TreePart). length z) parts ∙ sym (length-trees r.parts)

    open_is : t.open.items ≡ os
    open_is = ap (λ v. v.items) c.open_ ∙ all

    each_is : (k : ℕ) → k < slot_count p o.rule → slice_get c.kids k ≡ look_last o.node k
    each_is k lt = c.each k (subst (λ n. k < n) (sym long) lt) ∙ ap (λ m. with_child (child_at m o.node) slot part k) children ∙ sym (with_own look o.node slot part k)

    closing : (bound : ℕ) (kept : IsKept p bound r) → Closed p trees r.parts look look_last os o slot part bound (length-trees r.parts) kept.children (popped bound kept) free_here own last_here last_others (trees_of t.parts) c.kids
    closing bound kept =
        closed p trees r.parts look look_last os o slot part bound (length-trees r.parts) kept.children (popped bound kept) free_here own last_here last_others (trees_of t.parts) c.kids few more_is (c.long ∙ long) each_is

    look_is : child_at t.children ≡ look
    look_is = ap (λ m. child_at m) (c.children ∙ children)

    pub closed_part : number < length t.parts
    closed_part = let n = ap (λ (z : List TreePart). length z) c.parts in omega (arith, c.number, n, length-append s.parts (Node o.rule c.kids ∷ []))

    frames_now : frames p t ≡ frames_onto p (trees_of t.parts) look [] os
    frames_now = ap (λ f. frames_onto p (trees_of t.parts) f [] t.open.items) look_is ∙ ap (frames_onto p (trees_of t.parts) look []) open_is

    pub closed_free : (bound : ℕ) → IsKept p bound r → IsFree (frames p t) o.slot
    closed_free bound kept = subst (λ fs. IsFree fs o.slot) (sym frames_now) (closing bound kept).wanted

    pub closed_same : (bound : ℕ) → IsKept p bound r → give (frames p t) o.slot (tree_at (trees_of t.parts) number) ≡ give (frames p r) slot (tree_at trees part)
    closed_same bound kept =
        ap (λ fs. give fs o.slot (tree_at (trees_of t.parts) number)) frames_now
        ∙ ap (λ n. give (frames_onto p (trees_of t.parts) look [] os) o.slot (tree_at (trees_of t.parts) n)) number_is
        ∙ sym (closing bound kept).goes ∙ ap (λ fs. give fs slot (tree_at trees part)) (sym frames_are)

    pub closed_root : t.root ≡ None
    closed_root = c.root ∙ stays ∙ root

    pub closed_kept : (bound : ℕ) → IsKept p bound r → IsKept p bound t
    closed_kept bound kept = record {
      children = subst (λ f. AreChildren t.parts f bound) (sym look_is) (record {
        below = λ n k m is. let lt = kept.children.below n k m is in let longer = ap (λ (z : List TreePart). length z) c.parts in let same = ap (λ (z : List TreePart). length z) parts in omega (arith, lt, longer, same, length-append s.parts (Node o.rule c.kids ∷ []));
        fresh = kept.children.fresh;
      });
      open_ = subst (λ f. AreOpen p (trees_of t.parts) f [] 0 bound t.open.items) (sym look_is) (subst (λ z. AreOpen p (trees_of t.parts) look [] 0 bound z) (sym open_is) (closing bound kept).open_);
      whole = no_root p bound t closed_root;
    }

-- no node is open: the tree is whole
pub given_state : (p : Pair) (r s : Reader) (slot part : ℕ) → r.open.items ≡ [] → s.parts ≡ r.parts → s.root ≡ Some part → state p s ≡ give (frames p r) slot (tree_at (trees_of r.parts) part)
given_state p r s slot part none parts root =
    ap (state_at (trees_of s.parts) (frames p s)) root ∙ ap (λ z. complete (tree_at (trees_of z) part)) parts
    ∙ ap (λ os. give (frames_onto p (trees_of r.parts) (child_at r.children) [] os) slot (tree_at (trees_of r.parts) part)) (sym none)

pub given_kept : (p : Pair) (r s : Reader) (part bound : ℕ) → r.open.items ≡ [] → s.open.items ≡ [] → s.parts ≡ r.parts → s.children ≡ r.children → s.root ≡ Some part → part < length r.parts → IsKept p bound r → IsKept p bound s
given_kept p r s part bound none none_now parts children root own kept = record {
  children = subst (λ m. AreChildren s.parts (child_at m) bound) (sym children) (subst (λ z. AreChildren z (child_at r.children) bound) (sym parts) kept.children);
  open_ = subst (λ os. AreOpen p (trees_of s.parts) (child_at s.children) [] 0 bound os) (sym none_now) (omega arith);
  whole = λ k is. (subst (λ n. n < length s.parts) (same_Some part k (sym root ∙ is)) (subst (λ z. part < length z) (sym parts) own), none_now);
}

-- a part is added
pub added_frames : (p : Pair) (r : Reader) (more : List TreePart) (bound : ℕ) (t : Common) → trees_of more ≡ trees_of r.parts ++ t ∷ [] → IsKept p bound r → frames_onto p (trees_of more) (child_at r.children) [] r.open.items ≡ frames p r
added_frames p r more bound t means kept =
    let keep : (k : ℕ) → k < length (trees_of r.parts) → tree_at (trees_of more) k ≡ tree_at (trees_of r.parts) k = λ k lt. ap (λ z. tree_at z k) means ∙ parts_keep (trees_of r.parts) (t ∷ []) k lt in
    (stay_open p (trees_of r.parts) (child_at r.children) (trees_of more) (child_at r.children) [] 0 bound r.open.items
    (λ n k lt. tree_kept (trees_of r.parts) (trees_of more) (length (trees_of r.parts)) (child_at r.children n k) keep (λ m e. subst (λ z. m < z) (sym (length-trees r.parts)) (kept.children.below n k m e))) kept.open_).frames

pub added_kept : (p : Pair) (r s : Reader) (x : TreePart) (bound : ℕ) (t : Common) → s.parts ≡ r.parts ++ x ∷ [] → trees_of s.parts ≡ trees_of r.parts ++ t ∷ [] → s.children ≡ r.children → s.open ≡ r.open → s.root ≡ r.root → r.root ≡ None → IsKept p bound r → IsKept p bound s
added_kept p r s x bound t parts means children opened root none kept =
    let keep : (k : ℕ) → k < length (trees_of r.parts) → tree_at (trees_of s.parts) k ≡ tree_at (trees_of r.parts) k = λ k lt. ap (λ z. tree_at z k) means ∙ parts_keep (trees_of r.parts) (t ∷ []) k lt in
    let stay = stay_open p (trees_of r.parts) (child_at r.children) (trees_of s.parts) (child_at r.children) [] 0 bound r.open.items
    (λ n k lt. tree_kept (trees_of r.parts) (trees_of s.parts) (length (trees_of r.parts)) (child_at r.children n k) keep (λ m e. subst (λ z. m < z) (sym (length-trees r.parts)) (kept.children.below n k m e))) kept.open_ in
    record {
      children = subst (λ m. AreChildren s.parts (child_at m) bound) (sym children) (record {
        below = λ n k m is. let lt = kept.children.below n k m is in let long = ap (λ (z : List TreePart). length z) parts in omega (arith, lt, long, length-append r.parts (x ∷ []));
        fresh = kept.children.fresh;
      });
      open_ = subst (λ m. AreOpen p (trees_of s.parts) (child_at m) [] 0 bound s.open.items) (sym children) (subst (λ v. AreOpen p (trees_of s.parts) (child_at r.children) [] 0 bound v.items) (sym opened) stay.open_);
      whole = no_root p bound s (root ∙ none);
    }

-- the tree of the part that was added
pub added_tree : (parts more : List TreePart) (part : ℕ) (t : Common) → part ≡ length parts → trees_of more ≡ trees_of parts ++ t ∷ [] → tree_at (trees_of more) part ≡ t
added_tree parts more part t is means =
    ap (tree_at (trees_of more)) (is ∙ sym (length-trees parts)) ∙ ap (λ z. tree_at z (length (trees_of parts))) means ∙ last_part (trees_of parts) t

pub wider_kept : (p : Pair) (r : Reader) (bound more : ℕ) → bound ≤ more → IsKept p bound r → IsKept p more r
wider_kept p r bound more le kept = record {
  children = record { below = kept.children.below; fresh = λ n k lt. kept.children.fresh n k (omega (arith, lt, le)) };
  open_ = open_wider p (trees_of r.parts) (child_at r.children) [] 0 bound more r.open.items kept.open_ le;
  whole = kept.whole;
}

-- a node is open
module _ (p : Pair) (r s : Reader) (o : Open) (bound : ℕ) (parts : s.parts ≡ r.parts) (children : s.children ≡ r.children) (root : r.root ≡ None) (stays : s.root ≡ r.root) (opened : s.open.items ≡ r.open.items ++ o ∷ []) (kept : IsKept p bound r) (node : o.node ≡ bound) (rule : o.rule < length p.text.rules) (lacks : o.missing ≡ slot_count p o.rule) (some : 0 < o.missing) (free : IsFree (frames p r) o.slot) where
  abbrev trees_now : List Common
  trees_now = trees_of r.parts

  cells_empty : cells_of p trees_now (child_at r.children) o ≡ empty_cells p o.rule
  cells_empty = cells_none trees_now (child_at r.children o.node) 0 (slot_count p o.rule) (λ k. kept.children.fresh o.node k (omega (arith, node)))

  frames_more : frames p s ≡ frame o.rule o.slot (empty_cells p o.rule) ∷ frames p r
  frames_more =
      ap (λ m. frames_onto p (trees_of s.parts) (child_at m) [] s.open.items) children ∙ ap (λ z. frames_onto p (trees_of z) (child_at r.children) [] s.open.items) parts
      ∙ ap (frames_onto p trees_now (child_at r.children) []) opened ∙ frames_push p trees_now (child_at r.children) [] r.open.items o ∙ ap (λ z. frame o.rule o.slot z ∷ frames p r) cells_empty

  pub opened_state : state p s ≡ enter p (frames p r) o.slot (production o.rule)
  opened_state =
      ap (state_at (trees_of s.parts) (frames p s)) (stays ∙ root) ∙ ap state_within frames_more
      ∙ sym (if_false (is_full (empty_cells p o.rule)) (give (frames p r) o.slot (frame_tree o.rule (empty_cells p o.rule))) (within (frame o.rule o.slot (empty_cells p o.rule)) (frames p r)) not_yet)
    where
      not_yet : is_full (empty_cells p o.rule) ≡ false
      not_yet = not_full_yet (empty_cells p o.rule) (let m = missing_none (slot_count p o.rule) in omega (arith, m, lacks, some))

  pub opened_kept : IsKept p (suc bound) s
  opened_kept =
      let own : IsOpen p trees_now (child_at r.children) o = record { rule = rule; missing = lacks ∙ sym (ap missing cells_empty ∙ missing_none (slot_count p o.rule)); some = some } in
      record {
        children = subst (λ m. AreChildren s.parts (child_at m) (suc bound)) (sym children) (subst (λ z. AreChildren z (child_at r.children) (suc bound)) (sym parts) (record { below = kept.children.below; fresh = λ n k le. kept.children.fresh n k (omega (arith, le)) }));
        open_ = subst (λ m. AreOpen p (trees_of s.parts) (child_at m) [] 0 (suc bound) s.open.items) (sym children) (subst (λ z. AreOpen p (trees_of z) (child_at r.children) [] 0 (suc bound) s.open.items) (sym parts)
            (subst (λ os. AreOpen p trees_now (child_at r.children) [] 0 (suc bound) os) (sym opened) (open_push p trees_now (child_at r.children) [] 0 bound (suc bound) r.open.items o kept.open_ (omega (arith, node)) own free (omega (arith, node)))));
        whole = no_root p (suc bound) s (stays ∙ root);
      }

-- a node without slots is whole at once
pub entered_whole : (p : Pair) (fs : List Frame) (slot rule : ℕ) → slot_count p rule ≡ 0 → enter p fs slot (production rule) ≡ give fs slot (made rule no_kid)
entered_whole p fs slot rule none =
    ap (λ n. settle (frame rule slot (replicate n None)) fs) none
