-- What a step of the walk over a flat tree writes.
use Rattle.std.proofs.Common.{◌≡◌, ℕ, zero, suc, ◌+◌, ◌*◌, ◌-◌, ◌<◌, ◌≤◌, List, [], ◌∷◌, ◌++◌, length, drop, get_or, refl, sym, ◌∙◌, ap, subst, arith, Some, None, append_assoc, append-nil, drop-cons, true, length-append}
use Rattle.std.specs.Prelude.{slice_get}
use Rattle.std.specs.Str.{all_scalars}
use Rattle.std.specs.declared.option.Option.{Option}
use Rattle.std.proofs.lemmas.List.{drop_all}
use Rattle.std.proofs.lemmas.Option.{none-some, same_Some, get_or_from_slice_get, slice_get-get_or}
use Rattle.xs_gram.specs.declared.parts.GItem.{GItem}
use Rattle.xs_gram.specs.Grammar.{Grammar, items, IsTermWord}
use Rattle.xs_gram.specs.Common.{Common, word, made, Kids, Kind, of_term, of_non, kinds, lookup, TreeFits, KidsFit, KidFits}
use Rattle.xs_tree.specs.Flat.{TreePart, Leaf, Node, Flat, IsFlat, common_at, common_of, production_of, kids_of, word_of, kids_at, tree_at, tree_of, trees_of}
use Rattle.xs_tree.proofs.Trees.{tree_is}
use Rattle.xs_sheet.specs.declared.sheet.Sheet.{Sheet}
use Rattle.xs_pair.specs.Grammars.{Pair, IsPairOf}
use Rattle.xs_class.specs.declared.side.Side.TheVariants.{Text}
use Rattle.xs_writing_laws.proofs.Characters.{chars_are_characters}
use Rattle.xs_writing_laws.proofs.Spelling.{gram_spelt}
use Rattle.xs_outline.specs.Lines.{Line, line, production, leaf_word, number_text, entry_text, line_text, lines_text}
use Rattle.xs_outline.specs.Shapes.{leaf, names_of, slot_count, slot_name, lines, branch_lines, root_name}
use Rattle.xs_outline.specs.Order.{order_of, branches_at, shape_of, shapes_of, outline_of}
use Rattle.xs_outline.proofs.Ordering.{order_below}
use Rattle.xs_outline.specs.Walk.{tree_text, rest_text, IsNode, CanWrite, AreOpen, AreOrders, pending, task_at}
use Rattle.xs_outline.specs.declared.writer.Task.{Task}

pub lines_text-append : (ls ms : List Line) → lines_text (ls ++ ms) ≡ lines_text ls ++ lines_text ms
lines_text-append [] ms = refl
lines_text-append (l ∷ ls) ms = ap (λ z. line_text l ++ z) (lines_text-append ls ms) ∙ sym (append_assoc (line_text l) (lines_text ls) (lines_text ms))

-- the last node is the next
pub pending_push : (p : Pair) (f : Flat) (d : ℕ) (tasks : List Task) (task : Task) → pending p f d (tasks ++ task ∷ []) ≡ rest_text p (suc (d + length tasks)) task.dot (common_at f task.part) ++ pending p f d tasks
pending_push p f d [] task = ap (λ n. rest_text p (suc n) task.dot (common_at f task.part)) (none_more d) ∙ sym (append-nil (rest_text p (suc (d + 0)) task.dot (common_at f task.part)))
  where
    none_more : (n : ℕ) → n ≡ n + 0
    none_more n = omega arith
pending_push p f d (first ∷ tasks) task =
    ap (λ w. w ++ rest_text p (suc d) first.dot (common_at f first.part)) (pending_push p f (suc d) tasks task)
    ∙ append_assoc (rest_text p (suc (suc d + length tasks)) task.dot (common_at f task.part)) (pending p f (suc d) tasks) (rest_text p (suc d) first.dot (common_at f first.part))
    ∙ ap (λ n. rest_text p (suc n) task.dot (common_at f task.part) ++ (pending p f (suc d) tasks ++ rest_text p (suc d) first.dot (common_at f first.part))) (moved d (length tasks))
  where
    moved : (m n : ℕ) → suc m + n ≡ m + suc n
    moved m n = omega arith

pub open_push : (p : Pair) (f : Flat) (tasks : List Task) (part dot : ℕ) → AreOpen p f tasks → part < length f.parts → IsNode p (common_at f part) → AreOpen p f (tasks ++ task_at part dot ∷ [])
open_push p f [] part dot all lt node = (lt, node, tt)
open_push p f (first ∷ tasks) part dot all lt node = (all.0, all.1, open_push p f tasks part dot all.2 lt node)

pub open_front : (p : Pair) (f : Flat) (tasks : List Task) (task : Task) → AreOpen p f (tasks ++ task ∷ []) → (task.part < length f.parts) × IsNode p (common_at f task.part) × AreOpen p f tasks
open_front p f [] task all = (all.0, all.1, tt)
open_front p f (first ∷ tasks) task all =
    let rest = open_front p f tasks task all.2 in
    (rest.0, rest.1, (all.0, all.1, rest.2))

-- a part that is there
found : (f : Flat) (part : ℕ) → IsFlat f → part < length f.parts → common_at f part ≡ tree_of (trees_of f.parts) (get_or f.parts part (Leaf []))
found f part flat lt = tree_is f.parts part (get_or f.parts part (Leaf [])) flat.rising (slice_get-get_or f.parts part (Leaf []) lt)

leaf_of : (trees : List Common) (x : TreePart) (w : List ℕ) → Some w ≡ word_of (Some x) → tree_of trees x ≡ word w
leaf_of trees (Leaf u) w is = ap (λ z. word z) (sym (same_Some w u is))
leaf_of trees (Node q ks) w is = absurd (none-some w (sym is))

pub leaf_is : (f : Flat) (part : ℕ) (w : List ℕ) → IsFlat f → part < length f.parts → Some w ≡ word_of (slice_get f.parts part) → common_at f part ≡ word w
leaf_is f part w flat lt is = found f part flat lt ∙ leaf_of (trees_of f.parts) (get_or f.parts part (Leaf [])) w (is ∙ ap word_of (slice_get-get_or f.parts part (Leaf []) lt))

node_of : (trees : List Common) (x : TreePart) (q : ℕ) → Some q ≡ production_of (Some x) → tree_of trees x ≡ made q (kids_at trees (kids_of (Some x)))
node_of trees (Leaf u) q is = absurd (none-some q (sym is))
node_of trees (Node r ks) q is = ap (λ z. made z (kids_at trees ks)) (sym (same_Some q r is))

pub node_is : (f : Flat) (part q : ℕ) → IsFlat f → part < length f.parts → Some q ≡ production_of (slice_get f.parts part) → common_at f part ≡ made q (kids_at (trees_of f.parts) (kids_of (slice_get f.parts part)))
node_is f part q flat lt is =
    found f part flat lt ∙ node_of (trees_of f.parts) (get_or f.parts part (Leaf [])) q (is ∙ ap production_of (slice_get-get_or f.parts part (Leaf []) lt))
    ∙ ap (λ o. made q (kids_at (trees_of f.parts) (kids_of o))) (sym (slice_get-get_or f.parts part (Leaf []) lt))

-- a part is a leaf or a node
not_both : (x : TreePart) → None ≡ word_of (Some x) → None ≡ production_of (Some x) → ⊥
not_both (Leaf w) a b = absurd (none-some w a)
not_both (Node q ks) a b = absurd (none-some q b)

pub no_third : (f : Flat) (part : ℕ) → part < length f.parts → None ≡ word_of (slice_get f.parts part) → None ≡ production_of (slice_get f.parts part) → ⊥
no_third f part lt a b = not_both (get_or f.parts part (Leaf [])) (a ∙ ap word_of (slice_get-get_or f.parts part (Leaf []) lt)) (b ∙ ap production_of (slice_get-get_or f.parts part (Leaf []) lt))

leaf_no_node : (x : TreePart) (trees : List Common) → (p : Pair) → None ≡ production_of (Some x) → IsNode p (tree_of trees x) → ⊥
leaf_no_node (Leaf w) trees p is node = node
leaf_no_node (Node q ks) trees p is node = absurd (none-some q is)

pub node_has : (p : Pair) (f : Flat) (part : ℕ) → IsFlat f → part < length f.parts → IsNode p (common_at f part) → None ≡ production_of (slice_get f.parts part) → ⊥
node_has p f part flat lt node is =
    leaf_no_node (get_or f.parts part (Leaf [])) (trees_of f.parts) p (is ∙ ap production_of (slice_get-get_or f.parts part (Leaf []) lt)) (subst (IsNode p) (found f part flat lt) node)

-- the shape of a child
shape_at : (p : Pair) (trees : List Common) (ks : List ℕ) (s : ℕ) → s < length ks → get_or (shapes_of p (kids_at trees ks)) s (leaf []) ≡ shape_of p (tree_at trees (get_or ks s 0))
shape_at p trees [] s lt = absurd (omega (arith, lt))
shape_at p trees (k ∷ ks) zero lt = refl
shape_at p trees (k ∷ ks) (suc s) lt = shape_at p trees ks s (omega (arith, lt))

kid_count : (g : Grammar) (is : List GItem) (slot : ℕ) (trees : List Common) (ks : List ℕ) → KidsFit g is slot (kids_at trees ks) → slot + length ks ≡ length (kinds is)
kid_count g is slot trees [] fit = omega (arith, fit)
kid_count g is slot trees (k ∷ ks) fit = omega (arith, kid_count g is (slot + 1) trees ks fit.1)

kid_fits : (g : Grammar) (is : List GItem) (slot : ℕ) (trees : List Common) (ks : List ℕ) (s : ℕ) → KidsFit g is slot (kids_at trees ks) → s < length ks → KidFits g (lookup (slot + s) (kinds is)) (tree_at trees (get_or ks s 0))
kid_fits g is slot trees [] s fit lt = absurd (omega (arith, lt))
kid_fits g is slot trees (k ∷ ks) zero fit lt = subst (λ n. KidFits g (lookup n (kinds is)) (tree_at trees k)) (omega arith) fit.0
kid_fits g is slot trees (k ∷ ks) (suc s) fit lt = subst (λ n. KidFits g (lookup n (kinds is)) (tree_at trees (get_or ks s 0))) (omega arith) (kid_fits g is (slot + 1) trees ks s fit.1 (omega (arith, lt)))

fitting_can : (p : Pair) → ((t : ℕ) (w : List ℕ) → IsTermWord p.text t w → all_scalars w ≡ true) → (kind : Option Kind) (t : Common) → KidFits p.text kind t → CanWrite p t
fitting_can p spelt (Some (of_term k)) (word w) fit = spelt k w fit
fitting_can p spelt (Some (of_non n)) (made q kids) fit = (fit.0.0, fit.1)
fitting_can p spelt kind t fit = absurd fit

pub terms_spelt : (s : Sheet) (p : Pair) → IsPairOf s p → (t : ℕ) (w : List ℕ) → IsTermWord p.text t w → all_scalars w ≡ true
terms_spelt s p pair t w is = chars_are_characters w ((gram_spelt s p.names Text p.text pair.text).terms t w is)

-- a node has as many children as its production has slots
pub node_kids : (p : Pair) (f : Flat) (part q : ℕ) → IsFlat f → part < length f.parts → Some q ≡ production_of (slice_get f.parts part) → IsNode p (common_at f part) → (q < length p.text.rules) × (length (kids_of (slice_get f.parts part)) ≡ length (kinds (items p.text q)))
node_kids p f part q flat lt is node =
    let n = subst (IsNode p) (node_is f part q flat lt is) node in
    (n.0, omega (arith, kid_count p.text (items p.text q) 0 (trees_of f.parts) (kids_of (slice_get f.parts part)) n.1))

-- the next child can be written
pub kid_can : (s : Sheet) (p : Pair) (f : Flat) (part q slot child : ℕ) → IsPairOf s p → IsFlat f → part < length f.parts → Some q ≡ production_of (slice_get f.parts part) → IsNode p (common_at f part) → slice_get (kids_of (slice_get f.parts part)) slot ≡ Some child → slot < length (kids_of (slice_get f.parts part)) → CanWrite p (common_at f child)
kid_can s p f part q slot k pair flat lt is node at small =
    let n = subst (IsNode p) (node_is f part q flat lt is) node in
    let ks = kids_of (slice_get f.parts part) in
    let fits = kid_fits p.text (items p.text q) 0 (trees_of f.parts) ks slot n.1 small in
    subst (λ z. CanWrite p (common_at f z)) (get_or_from_slice_get ks slot k 0 at)
    (fitting_can p (terms_spelt s p pair) (lookup (0 + slot) (kinds (items p.text q))) (tree_at (trees_of f.parts) (get_or ks slot 0)) fits)

-- the next child's lines, then those of the others
pub rest_first : (p : Pair) (f : Flat) (part q dot slot child depth : ℕ) → IsFlat f → part < length f.parts → Some q ≡ production_of (slice_get f.parts part) → dot < length (order_of p q) → slot ≡ get_or (order_of p q) dot 0 → slice_get (kids_of (slice_get f.parts part)) slot ≡ Some child → slot < length (kids_of (slice_get f.parts part)) → rest_text p depth dot (common_at f part) ≡ tree_text p depth (slot_name p q slot) (common_at f child) ++ rest_text p depth (dot + 1) (common_at f part)
rest_first p f part q dot slot k depth flat lt is less read at small =
    let ks = kids_of (slice_get f.parts part) in
    let shapes = shapes_of p (kids_at (trees_of f.parts) ks) in
    let order = order_of p q in
    let node = node_is f part q flat lt is in
    let next : drop dot order ≡ slot ∷ drop (dot + 1) order = drop-cons order dot 0 less ∙ ap (λ z. z ∷ drop (suc dot) order) (sym read) ∙ ap (λ n. slot ∷ drop n order) (one_more dot) in
    let own : get_or shapes slot (leaf []) ≡ shape_of p (common_at f k) = shape_at p (trees_of f.parts) ks slot small ∙ ap (λ z. shape_of p (tree_at (trees_of f.parts) z)) (get_or_from_slice_get ks slot k 0 at) in
    ap (rest_text p depth dot) node
    ∙ ap (λ (z : List ℕ). lines_text (branch_lines p q depth (branches_at z shapes))) next
    ∙ lines_text-append (lines p depth (slot_name p q slot) (get_or shapes slot (leaf []))) (branch_lines p q depth (branches_at (drop (dot + 1) order) shapes))
    ∙ ap (λ sh. lines_text (lines p depth (slot_name p q slot) sh) ++ lines_text (branch_lines p q depth (branches_at (drop (dot + 1) order) shapes))) own
    ∙ ap (λ t. tree_text p depth (slot_name p q slot) (common_at f k) ++ rest_text p depth (dot + 1) t) (sym node)
  where
    one_more : (n : ℕ) → suc n ≡ n + 1
    one_more n = omega arith

-- where no child is left nothing is
pub rest_none : (p : Pair) (f : Flat) (part q dot depth : ℕ) → IsFlat f → part < length f.parts → Some q ≡ production_of (slice_get f.parts part) → length (order_of p q) ≤ dot → rest_text p depth dot (common_at f part) ≡ []
rest_none p f part q dot depth flat lt is le =
    let shapes = shapes_of p (kids_at (trees_of f.parts) (kids_of (slice_get f.parts part))) in
    ap (rest_text p depth dot) (node_is f part q flat lt is) ∙ ap (λ (z : List ℕ). lines_text (branch_lines p q depth (branches_at z shapes))) (drop_all dot (order_of p q) le)

-- a page with one more line is longer
pub line_grows : (page new : List ℕ) (l : Line) → new ≡ page ++ line_text l → length page < length new
line_grows page new l is =
    let front = length-append (number_text l.depth) (32 ∷ (l.name ++ 32 ∷ (entry_text l.entry ++ 10 ∷ []))) in
    subst (λ (z : List ℕ). length page < length z) (sym is) (omega (arith, length-append page (line_text l), front))

-- a leaf is written whole
pub leaf_writes : (p : Pair) (f : Flat) (part depth : ℕ) (name w : List ℕ) → IsFlat f → part < length f.parts → Some w ≡ word_of (slice_get f.parts part) → tree_text p depth name (common_at f part) ≡ line_text (line depth name (leaf_word w))
leaf_writes p f part depth name w flat lt is = ap (tree_text p depth name) (leaf_is f part w flat lt is) ∙ append-nil (line_text (line depth name (leaf_word w)))

-- a node is its line, and then its children's
pub node_writes : (p : Pair) (f : Flat) (part depth q : ℕ) (name : List ℕ) → IsFlat f → part < length f.parts → Some q ≡ production_of (slice_get f.parts part) → tree_text p depth name (common_at f part) ≡ line_text (line depth name (production q)) ++ rest_text p (suc depth) 0 (common_at f part)
node_writes p f part depth q name flat lt is =
    let node = node_is f part q flat lt is in
    ap (tree_text p depth name) node ∙ ap (λ t. line_text (line depth name (production q)) ++ rest_text p (suc depth) 0 t) (sym node)

can_node : (p : Pair) (t : Common) (q : ℕ) (kids : Kids) → t ≡ made q kids → CanWrite p t → IsNode p t
can_node p t q kids is can = subst (IsNode p) (sym is) (let P : Common → Type 0 = CanWrite p in subst P is can)

pub node_can : (p : Pair) (f : Flat) (part q : ℕ) → IsFlat f → part < length f.parts → Some q ≡ production_of (slice_get f.parts part) → CanWrite p (common_at f part) → IsNode p (common_at f part)
node_can p f part q flat lt is can = can_node p (common_at f part) q (kids_at (trees_of f.parts) (kids_of (slice_get f.parts part))) (node_is f part q flat lt is) can

pub leaf_can : (p : Pair) (f : Flat) (part : ℕ) (w : List ℕ) → IsFlat f → part < length f.parts → Some w ≡ word_of (slice_get f.parts part) → CanWrite p (common_at f part) → all_scalars w ≡ true
leaf_can p f part w flat lt is can = let P : Common → Type 0 = CanWrite p in subst P (leaf_is f part w flat lt is) can

root_can_of : (p : Pair) (t : Common) → TreeFits p.text p.text.start t → CanWrite p t
root_can_of p (word w) fits = absurd fits
root_can_of p (made q kids) fits = (fits.0.0, fits.1)

pub root_can : (p : Pair) (f : Flat) → TreeFits p.text p.text.start (common_of f) → CanWrite p (common_of f)
root_can p f fits = root_can_of p (common_of f) fits

-- a node has no word
wordless : (p : Pair) (trees : List Common) (x : TreePart) → IsNode p (tree_of trees x) → None ≡ word_of (Some x)
wordless p trees (Leaf w) node = absurd node
wordless p trees (Node q ks) node = refl

pub node_wordless : (p : Pair) (f : Flat) (part : ℕ) → IsFlat f → part < length f.parts → IsNode p (common_at f part) → None ≡ word_of (slice_get f.parts part)
node_wordless p f part flat lt node =
    wordless p (trees_of f.parts) (get_or f.parts part (Leaf [])) (subst (IsNode p) (found f part flat lt) node) ∙ ap word_of (sym (slice_get-get_or f.parts part (Leaf []) lt))

-- the line of a leaf is written
pub leaf_step : (p : Pair) (f : Flat) (part n : ℕ) (name w page new : List ℕ) (tasks : List Task) → IsFlat f → part < length f.parts → Some w ≡ word_of (slice_get f.parts part) → n ≡ length tasks → new ≡ page ++ line_text (line n name (leaf_word w)) → new ++ pending p f 0 tasks ≡ page ++ (tree_text p (length tasks) name (common_at f part) ++ pending p f 0 tasks)
leaf_step p f part n name w page new tasks flat lt is deep written =
    ap (λ z. z ++ pending p f 0 tasks) (written ∙ ap (λ k. page ++ line_text (line k name (leaf_word w))) deep ∙ ap (λ z. page ++ z) (sym (leaf_writes p f part (length tasks) name w flat lt is)))
    ∙ append_assoc page (tree_text p (length tasks) name (common_at f part)) (pending p f 0 tasks)

-- the line of a node is written, and its children are to be written next
pub node_step : (p : Pair) (f : Flat) (part n q : ℕ) (name page new : List ℕ) (tasks more : List Task) → IsFlat f → part < length f.parts → Some q ≡ production_of (slice_get f.parts part) → n ≡ length tasks → new ≡ page ++ line_text (line n name (production q)) → more ≡ tasks ++ task_at part 0 ∷ [] → new ++ pending p f 0 more ≡ page ++ (tree_text p (length tasks) name (common_at f part) ++ pending p f 0 tasks)
node_step p f part n q name page new tasks more flat lt is deep written pushed =
    let own = line_text (line (length tasks) name (production q)) in
    let rest = rest_text p (suc (length tasks)) 0 (common_at f part) in
    ap (λ z. new ++ pending p f 0 z) pushed
    ∙ ap (λ z. new ++ z) (pending_push p f 0 tasks (task_at part 0))
    ∙ ap (λ k. new ++ (rest_text p (suc k) 0 (common_at f part) ++ pending p f 0 tasks)) (none_before (length tasks))
    ∙ ap (λ z. z ++ (rest ++ pending p f 0 tasks)) (written ∙ ap (λ k. page ++ line_text (line k name (production q))) deep)
    ∙ append_assoc page own (rest ++ pending p f 0 tasks)
    ∙ ap (λ z. page ++ z) (sym (append_assoc own rest (pending p f 0 tasks)) ∙ ap (λ z. z ++ pending p f 0 tasks) (sym (node_writes p f part (length tasks) q name flat lt is)))
  where
    none_before : (k : ℕ) → 0 + k ≡ k
    none_before k = omega arith

pub opened : (p : Pair) (f : Flat) (tasks more : List Task) (part dot : ℕ) → AreOpen p f tasks → part < length f.parts → IsNode p (common_at f part) → more ≡ tasks ++ task_at part dot ∷ [] → AreOpen p f more
opened p f tasks more part dot all lt node is = subst (λ (z : List Task). AreOpen p f z) (sym is) (open_push p f tasks part dot all lt node)

long_push : (tasks : List Task) (task : Task) → length (tasks ++ task ∷ []) ≡ suc (length tasks)
long_push [] task = refl
long_push (t ∷ ts) task = ap suc (long_push ts task)

zero_plus : (k : ℕ) → 0 + k ≡ k
zero_plus k = omega arith

pub one_more : (tasks more : List Task) (task : Task) → more ≡ tasks ++ task ∷ [] → length more ≤ length tasks + 1
one_more tasks more task is = omega (arith, ap (λ (z : List Task). length z) is ∙ long_push tasks task)

-- with each task less is to be done
pub walk_falls : (p : Pair) (f : Flat) (page new whole : List ℕ) (all tasks left : List Task) (task : Task) → all ≡ tasks ++ task ∷ [] → new ++ pending p f 0 left ≡ whole → 2 * length page + length left ≤ 2 * length new + length tasks → 2 * (length whole - length new) + length left < 2 * (length whole - length page) + length all
walk_falls p f page new whole all tasks left task popped writes falls =
    let long = length-append new (pending p f 0 left) in
    let total = ap (λ (z : List ℕ). length z) writes in
    let more = ap (λ (z : List Task). length z) popped ∙ long_push tasks task in
    omega (arith, long, total, more, falls)

-- a child is written, and the node goes on
pub child_step : (p : Pair) (f : Flat) (part dot next child : ℕ) (name page new : List ℕ) (tasks pushed left : List Task) → next ≡ dot + 1 → pushed ≡ tasks ++ task_at part next ∷ [] → ((depth : ℕ) → rest_text p depth dot (common_at f part) ≡ tree_text p depth name (common_at f child) ++ rest_text p depth (dot + 1) (common_at f part)) → new ++ pending p f 0 left ≡ page ++ (tree_text p (length pushed) name (common_at f child) ++ pending p f 0 pushed) → new ++ pending p f 0 left ≡ page ++ (rest_text p (suc (length tasks)) dot (common_at f part) ++ pending p f 0 tasks)
child_step p f part dot next child name page new tasks pushed left one is first written =
    let depth = suc (length tasks) in
    let rest = rest_text p depth (dot + 1) (common_at f part) in
    let text = tree_text p depth name (common_at f child) in
    let whole : pushed ≡ tasks ++ task_at part (dot + 1) ∷ [] = is ∙ ap (λ n. tasks ++ task_at part n ∷ []) one in
    let deep : length pushed ≡ depth = ap (λ (z : List Task). length z) whole ∙ long_push tasks (task_at part (dot + 1)) in
    let after : pending p f 0 pushed ≡ rest ++ pending p f 0 tasks = ap (λ (z : List Task). pending p f 0 z) whole ∙ pending_push p f 0 tasks (task_at part (dot + 1)) ∙ ap (λ k. rest_text p (suc k) (dot + 1) (common_at f part) ++ pending p f 0 tasks) (zero_plus (length tasks)) in
    written ∙ ap (λ k. page ++ (tree_text p k name (common_at f child) ++ pending p f 0 pushed)) deep ∙ ap (λ (z : List ℕ). page ++ (text ++ z)) after
    ∙ ap (λ (z : List ℕ). page ++ z) (sym (append_assoc text rest (pending p f 0 tasks)) ∙ ap (λ (z : List ℕ). z ++ pending p f 0 tasks) (sym (first depth)))

-- the next of the nodes has been written on
pub task_step : (p : Pair) (f : Flat) (page new whole : List ℕ) (all tasks left : List Task) (task : Task) → all ≡ tasks ++ task ∷ [] → page ++ pending p f 0 all ≡ whole → new ++ pending p f 0 left ≡ page ++ (rest_text p (suc (length tasks)) task.dot (common_at f task.part) ++ pending p f 0 tasks) → new ++ pending p f 0 left ≡ whole
task_step p f page new whole all tasks left task popped so_far written =
    written ∙ ap (λ (z : List ℕ). page ++ z) (sym (ap (λ (z : List Task). pending p f 0 z) popped ∙ pending_push p f 0 tasks task ∙ ap (λ k. rest_text p (suc k) task.dot (common_at f task.part) ++ pending p f 0 tasks) (zero_plus (length tasks)))) ∙ so_far

pub popped_task : (p : Pair) (f : Flat) (all tasks : List Task) (task : Task) → all ≡ tasks ++ task ∷ [] → AreOpen p f all → (task.part < length f.parts) × IsNode p (common_at f task.part) × AreOpen p f tasks
popped_task p f all tasks task popped are = open_front p f tasks task (subst (λ (z : List Task). AreOpen p f z) popped are)

-- the root's line is written
pub root_step : (p : Pair) (f : Flat) (root : ℕ) (page new name : List ℕ) (tasks left : List Task) → tasks ≡ [] → page ≡ [] → root ≡ f.root → name ≡ root_name → new ++ pending p f 0 left ≡ page ++ (tree_text p (length tasks) name (common_at f root) ++ pending p f 0 tasks) → new ++ pending p f 0 left ≡ outline_of p (common_of f)
root_step p f root page new name tasks left none empty is named written =
    written ∙ ap (λ (z : List Task). page ++ (tree_text p (length z) name (common_at f root) ++ pending p f 0 z)) none
    ∙ ap (λ (z : List ℕ). z ++ (tree_text p 0 name (common_at f root) ++ [])) empty
    ∙ append-nil (tree_text p 0 name (common_at f root)) ∙ ap (λ r. tree_text p 0 name (common_at f r)) is ∙ ap (λ z. tree_text p 0 z (common_of f)) named

-- the slots of a production as the walk has them
pub order_is : (p : Pair) (orders : List (List ℕ)) (rule : ℕ) (order x : List ℕ) → AreOrders p orders → rule < length p.text.rules → order ≡ x → x ≡ get_or orders rule x → order ≡ order_of p rule
order_is p orders rule order x are lt same is = same ∙ is ∙ get_or_from_slice_get orders rule (order_of p rule) x (are rule lt)

pub slot_below : (p : Pair) (rule dot : ℕ) (order : List ℕ) → order ≡ order_of p rule → dot < length order → get_or order dot 0 < slot_count p rule
slot_below p rule dot order is lt =
    let below = order_below (names_of p rule) (slot_count p rule) (slot_count p rule) (omega arith) in
    subst (λ (z : List ℕ). get_or z dot 0 < slot_count p rule) (sym is) (below dot 0 (subst (λ (z : List ℕ). dot < length z) is lt))
