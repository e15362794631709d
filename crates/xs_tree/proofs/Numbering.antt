-- Numbers of trees in a table of different parts: equal trees have equal numbers.
use Rattle.std.proofs.Common.{◌≡◌, IsTrue, Bool, ◌↔◌, inl, inr, ℕ, ◌+◌, ◌<◌, List, [], ◌∷◌, ◌++◌, length, map, take, All, get_or, slice_get, Some, refl, sym, ◌∙◌, ap, subst, append_assoc, length-append, arith, ◌≤◌}
use Rattle.std.proofs.lemmas.List.{append-nil, get_or-map, map-append, length-map, length-take-le, take_all}
use Rattle.std.proofs.lemmas.List.Elements.{All-nil, All-cons, All-head, All-tail}
use Rattle.std.proofs.lemmas.Option.{none-some, slice_get-get_or, slice_get_within}
use Rattle.xs_gram.specs.Common.{Common, word, made, Kids, no_kid, kid}
use Rattle.xs_tree.specs.Flat.{TreePart, Leaf, Node, Flat, IsFlat, common_of, IsAfter, AreRising, tree_at, kids_at, tree_of, trees_of}
use Rattle.xs_tree.specs.Tables.{AreDifferent, AreNumbered, Extends, IsGrown, IsTable, picked, renumbered}
use Rattle.xs_tree.proofs.Trees.{length-trees, part_ready, rising_none, rising_push, tree_is, tree_stays, trees_onward, trees_step}

-- the trees of a table that goes on stay where they are
pub extended_trees : (old new : List TreePart) (k : ℕ) → Extends old new → k < length old → tree_at (trees_of new) k ≡ tree_at (trees_of old) k
extended_trees old new k ext lt =
    let long = length-trees old in
    ap (λ ps. tree_at (trees_of ps) k) ext.is ∙ ap (λ ts. tree_at ts k) (trees_onward [] old ext.more) ∙ tree_stays (trees_of old) ext.more k (omega (arith, long))

-- the children that the numbers name are those that the places name
picked_kids : (trees others : List Common) (numbers kids : List ℕ) → map (λ n. tree_at others n) numbers ≡ trees → All (λ k. k < length numbers) kids → kids_at others (picked numbers kids) ≡ kids_at trees kids
picked_kids trees others numbers [] is below = refl
picked_kids trees others numbers (k ∷ ks) is below =
    let here = get_or-map (λ n. tree_at others n) numbers k 0 (word []) (All-head (λ j. j < length numbers) k ks below) in
    let first : tree_at others (get_or numbers k 0) ≡ tree_at trees k = sym here ∙ ap (λ ts. tree_at ts k) is in
    let later = picked_kids trees others numbers ks is (All-tail (λ j. j < length numbers) k ks below) in
    ap (λ t. kid t (kids_at others (picked numbers ks))) first ∙ ap (kid (tree_at trees k)) later

pub renumbered_tree : (trees others : List Common) (numbers : List ℕ) (part : TreePart) → map (λ n. tree_at others n) numbers ≡ trees → IsAfter part (length numbers) → tree_of others (renumbered numbers part) ≡ tree_of trees part
renumbered_tree trees others numbers (Leaf w) is after = refl
renumbered_tree trees others numbers (Node production kids) is after = ap (made production) (picked_kids trees others numbers kids is after)

picked_below : (numbers kids : List ℕ) (n : ℕ) → All (λ j. j < n) numbers → All (λ k. k < length numbers) kids → All (λ j. j < n) (picked numbers kids)
picked_below numbers [] n below within = All-nil (λ j. j < n)
picked_below numbers (k ∷ ks) n below within =
    All-cons (λ j. j < n) (get_or numbers k 0) (picked numbers ks) (below k 0 (All-head (λ j. j < length numbers) k ks within)) (picked_below numbers ks n below (All-tail (λ j. j < length numbers) k ks within))

pub renumbered_after : (numbers : List ℕ) (part : TreePart) (n : ℕ) → All (λ j. j < n) numbers → IsAfter part (length numbers) → IsAfter (renumbered numbers part) n
renumbered_after numbers (Leaf w) n below after = tt
renumbered_after numbers (Node production kids) n below after = picked_below numbers kids n below after

map_same : {A : Type 0} (f g : ℕ → A) (ns : List ℕ) (n : ℕ) → ((k : ℕ) → k < n → f k ≡ g k) → All (λ k. k < n) ns → map f ns ≡ map g ns
map_same f g [] n same below = refl
map_same f g (k ∷ ks) n same below =
    let later = map_same f g ks n same (All-tail (λ j. j < n) k ks below) in
    ap (λ a. a ∷ map f ks) (same k (All-head (λ j. j < n) k ks below)) ∙ ap (λ l. g k ∷ l) later

-- numbers serve a table that goes on
pub numbered_still : (old new : List TreePart) (trees : List Common) (numbers : List ℕ) → Extends old new → AreNumbered old trees numbers → AreNumbered new trees numbers
numbered_still old new trees numbers ext numbered =
    let long : length new ≡ length old + length ext.more = ap length ext.is ∙ length-append old ext.more in
    record {
      means = map_same (λ n. tree_at (trees_of new) n) (λ n. tree_at (trees_of old) n) numbers (length old) (λ k lt. extended_trees old new k ext lt) numbered.there ∙ numbered.means;
      there = λ k d lt. let before = numbered.there k d lt in omega (arith, before, long);
    }

numbers_push : (ns : List ℕ) (m n : ℕ) → All (λ k. k < m) ns → n < m → All (λ k. k < m) (ns ++ n ∷ [])
numbers_push [] m n below lt = All-cons (λ k. k < m) n [] lt (All-nil (λ k. k < m))
numbers_push (k ∷ ks) m n below lt =
    All-cons (λ j. j < m) k (ks ++ n ∷ []) (All-head (λ j. j < m) k ks below) (numbers_push ks m n (All-tail (λ j. j < m) k ks below) lt)

pub grown_extends : (old : List TreePart) (part : TreePart) (new : List TreePart) → IsGrown old part new → Extends old new
grown_extends old part new (inl same) = record { more = []; is = same ∙ sym (append-nil old) }
grown_extends old part new (inr more) = record { more = part ∷ []; is = more }

pub grown_rising : (old : List TreePart) (part : TreePart) (new : List TreePart) → AreRising old → IsAfter part (length old) → IsGrown old part new → AreRising new
grown_rising old part new rising after (inl same) = subst AreRising (sym same) rising
grown_rising old part new rising after (inr more) = subst AreRising (sym more) (rising_push old part rising after)

pub extends_twice : (a b c : List TreePart) → Extends a b → Extends b c → Extends a c
extends_twice a b c first second =
    record { more = first.more ++ second.more; is = second.is ∙ ap (λ l. l ++ second.more) first.is ∙ append_assoc a first.more second.more }

-- what holds of a table and the numbers so far, where the table began with another
pub record SoFar (start table : List TreePart) (trees : List Common) (numbers : List ℕ) : Type 0 where
  pub is_table : IsTable table
  pub goes_on : Extends start table
  pub numbered : AreNumbered table trees numbers

-- a number for each of the parts so far
pub numbered_long : (table parts : List TreePart) (numbers : List ℕ) (i : ℕ) → i ≤ length parts → AreNumbered table (trees_of (take i parts)) numbers → length numbers ≡ i
numbered_long table parts numbers i le numbered =
    sym (length-map numbers (λ n. tree_at (trees_of table) n)) ∙ ap length numbered.means ∙ length-trees (take i parts) ∙ length-take-le i parts le

one_more : (start table new parts : List TreePart) (numbers : List ℕ) (i number : ℕ) (part : TreePart) → SoFar start table (trees_of (take i parts)) numbers → AreRising parts → slice_get parts i ≡ Some part
    → IsGrown table (renumbered numbers part) new → slice_get new number ≡ Some (renumbered numbers part) → AreDifferent new → SoFar start new (trees_of (take (i + 1) parts)) (numbers ++ number ∷ [])
one_more start table new parts numbers i number part so rising is grown stored different =
    let shape = renumbered numbers part in
    let trees = trees_of (take i parts) in
    let means : ℕ → Common = λ n. tree_at (trees_of new) n in
    let lt = slice_get_within parts i part is in
    let long = numbered_long table parts numbers i (omega arith) so.numbered in
    let after = part_ready parts numbers i part rising is long in
    let ext = grown_extends table shape new grown in
    let risen = grown_rising table shape new so.is_table.rising (renumbered_after numbers part (length table) so.numbered.there after) grown in
    let still = numbered_still table new trees numbers ext so.numbered in
    let found : means number ≡ tree_of trees part = tree_is new number shape risen stored ∙ renumbered_tree trees (trees_of new) numbers part still.means after in
    record {
      is_table = record { rising = risen; different = different };
      goes_on = extends_twice start table new so.goes_on ext;
      numbered = record {
        means = map-append means numbers (number ∷ []) ∙ ap (λ l. l ++ means number ∷ []) still.means ∙ ap (λ t. trees ++ t ∷ []) found ∙ sym (trees_step parts i part is);
        there = numbers_push numbers (length new) number still.there (slice_get_within new number shape stored);
      };
    }

-- one more part is numbered
pub one_more_item : (start table new parts : List TreePart) (numbers now items : List ℕ) (i number : ℕ) (part shape : TreePart) → SoFar start table (trees_of (take i parts)) numbers → AreRising parts → slice_get parts i ≡ Some part
    → now ≡ numbers → shape ≡ renumbered now part → IsGrown table shape new → slice_get new number ≡ Some shape → AreDifferent new → items ≡ numbers ++ number ∷ [] → SoFar start new (trees_of (take (i + 1) parts)) items
one_more_item start table new parts numbers now items i number part shape so rising is same made_so grown stored different pushed =
    let is_shape : shape ≡ renumbered numbers part = made_so ∙ ap (λ l. renumbered l part) same in
    let next = one_more start table new parts numbers i number part so rising is (subst (λ p. IsGrown table p new) is_shape grown) (stored ∙ ap (λ p. Some p) is_shape) different in
    subst (SoFar start new (trees_of (take (i + 1) parts))) (sym pushed) next

word_same : (v w : List ℕ) → word v ≡ word w → v ≡ w
word_same v w h = cc

made_word : (production : ℕ) (kids : Kids) (w : List ℕ) → made production kids ≡ word w → ⊥
made_word production kids w h = cc

made_rule : (p q : ℕ) (ks ls : Kids) → made p ks ≡ made q ls → p ≡ q
made_rule p q ks ls h = cc

made_kids : (p q : ℕ) (ks ls : Kids) → made p ks ≡ made q ls → ks ≡ ls
made_kids p q ks ls h = cc

kid_none : (t : Common) (ks : Kids) → kid t ks ≡ no_kid → ⊥
kid_none t ks h = cc

kid_first : (t u : Common) (ks ls : Kids) → kid t ks ≡ kid u ls → t ≡ u
kid_first t u ks ls h = cc

kid_rest : (t u : Common) (ks ls : Kids) → kid t ks ≡ kid u ls → ks ≡ ls
kid_rest t u ks ls h = cc

leaf_only : (parts : List TreePart) (i : ℕ) (w : List ℕ) → AreRising parts → i < length parts → tree_at (trees_of parts) i ≡ word w → slice_get parts i ≡ Some (Leaf w)
leaf_only parts i w rising lt is = by (get_or parts i (Leaf [])) (slice_get-get_or parts i (Leaf []) lt)
  where
    by : (part : TreePart) → slice_get parts i ≡ Some part → slice_get parts i ≡ Some (Leaf w)
    by (Leaf v) found =
        let same : word v ≡ word w = sym (tree_is parts i (Leaf v) rising found) ∙ is in
        found ∙ ap (λ x. Some (Leaf x)) (word_same v w same)
    by (Node production kids) found = absurd (made_word production (kids_at (trees_of parts) kids) w (sym (tree_is parts i (Node production kids) rising found) ∙ is))

node_only : (parts : List TreePart) (i production : ℕ) (kids : Kids) → AreRising parts → i < length parts → tree_at (trees_of parts) i ≡ made production kids → (ks : List ℕ) × (slice_get parts i ≡ Some (Node production ks)) × (kids_at (trees_of parts) ks ≡ kids)
node_only parts i production kids rising lt is = by (get_or parts i (Leaf [])) (slice_get-get_or parts i (Leaf []) lt)
  where
    by : (part : TreePart) → slice_get parts i ≡ Some part → (ks : List ℕ) × (slice_get parts i ≡ Some (Node production ks)) × (kids_at (trees_of parts) ks ≡ kids)
    by (Leaf v) found = absurd (made_word production kids v (sym is ∙ tree_is parts i (Leaf v) rising found))
    by (Node other ks) found =
        let same : made other (kids_at (trees_of parts) ks) ≡ made production kids = sym (tree_is parts i (Node other ks) rising found) ∙ is in
        (ks, found ∙ ap (λ p. Some (Node p ks)) (made_rule other production _ _ same), made_kids other production _ _ same)

below_length : (parts : List TreePart) (i production : ℕ) (ks : List ℕ) → AreRising parts → slice_get parts i ≡ Some (Node production ks) → All (λ k. k < length parts) ks
below_length parts i production ks rising found =
    let lt = slice_get_within parts i (Node production ks) found in
    let below = rising i (Node production ks) found in
    λ k d in'. let before = below k d in' in omega (arith, lt, before)

mutual
  -- equal trees of a table stand at one place
  one_place : (parts : List TreePart) → IsTable parts → (t : Common) (i j : ℕ) → i < length parts → j < length parts → tree_at (trees_of parts) i ≡ t → tree_at (trees_of parts) j ≡ t → i ≡ j
  one_place parts table (word w) i j lt lu is ju = table.different i j (Leaf w) (leaf_only parts i w table.rising lt is) (leaf_only parts j w table.rising lu ju)
  one_place parts table (made p kids) i j lt lu is ju =
      let a = node_only parts i p kids table.rising lt is in
      let b = node_only parts j p kids table.rising lu ju in
      let same = one_list parts table kids a.0 b.0 (below_length parts i p a.0 table.rising a.1) (below_length parts j p b.0 table.rising b.1) a.2 b.2 in
      table.different i j (Node p a.0) a.1 (b.1 ∙ ap (λ ks. Some (Node p ks)) (sym same))

  one_list : (parts : List TreePart) → IsTable parts → (kids : Kids) (ks ls : List ℕ) → All (λ k. k < length parts) ks → All (λ k. k < length parts) ls → kids_at (trees_of parts) ks ≡ kids → kids_at (trees_of parts) ls ≡ kids → ks ≡ ls
  one_list parts table no_kid [] [] below under is ju = refl
  one_list parts table no_kid [] (l ∷ ls) below under is ju = absurd (kid_none _ _ ju)
  one_list parts table no_kid (k ∷ ks) ls below under is ju = absurd (kid_none _ _ is)
  one_list parts table (kid t kids) [] ls below under is ju = absurd (kid_none _ _ (sym is))
  one_list parts table (kid t kids) (k ∷ ks) [] below under is ju = absurd (kid_none _ _ (sym ju))
  one_list parts table (kid t kids) (k ∷ ks) (l ∷ ls) below under is ju =
      let P : ℕ → Type 0 = λ n. n < length parts in
      let first = one_place parts table t k l (All-head P k ks below) (All-head P l ls under) (kid_first _ _ _ _ is) (kid_first _ _ _ _ ju) in
      let later = one_list parts table kids ks ls (All-tail P k ks below) (All-tail P l ls under) (kid_rest _ _ _ _ is) (kid_rest _ _ _ _ ju) in
      ap (λ n. n ∷ ks) first ∙ ap (λ ns. l ∷ ns) later

-- two numbers are equal exactly where the trees are
pub same_number : (parts : List TreePart) (i j : ℕ) → IsTable parts → i < length parts → j < length parts → (i ≡ j) ↔ (tree_at (trees_of parts) i ≡ tree_at (trees_of parts) j)
same_number parts i j table lt lu =
    ((λ e. ap (tree_at (trees_of parts)) e), (λ e. one_place parts table (tree_at (trees_of parts) j) i j lt lu e refl))

pub so_far_first : (start parts : List TreePart) (numbers : List ℕ) → IsTable start → numbers ≡ [] → SoFar start start (trees_of (take 0 parts)) numbers
so_far_first start parts numbers table none =
    record {
      is_table = table;
      goes_on = record { more = []; is = sym (append-nil start) };
      numbered = subst (AreNumbered start []) (sym none) (record { means = refl; there = All-nil (λ n. n < length start) });
    }

pub so_far_end : (start table parts : List TreePart) (numbers : List ℕ) (i : ℕ) → SoFar start table (trees_of (take i parts)) numbers → length parts ≤ i → AreNumbered table (trees_of parts) numbers
so_far_end start table parts numbers i so le = subst (λ (ps : List TreePart). AreNumbered table (trees_of ps) numbers) (take_all i parts le) so.numbered

pub no_table : IsTable []
no_table = record { rising = rising_none; different = λ j k part at_j at_k. absurd (none-some part at_j) }

-- the number of the root
numbered_root : (table : List TreePart) (f : Flat) (numbers : List ℕ) → IsFlat f → AreNumbered table (trees_of f.parts) numbers → (f.root < length numbers) × (get_or numbers f.root 0 < length table) × (tree_at (trees_of table) (get_or numbers f.root 0) ≡ common_of f)
numbered_root table f numbers flat numbered =
    let means : ℕ → Common = λ n. tree_at (trees_of table) n in
    let long : length numbers ≡ length f.parts = sym (length-map numbers means) ∙ ap length numbered.means ∙ length-trees f.parts in
    let root = flat.root in
    let lt : f.root < length numbers = omega (arith, long, root) in
    (lt, numbered.there f.root 0 lt, sym (get_or-map means numbers f.root 0 (word []) lt) ∙ ap (λ ts. tree_at ts f.root) numbered.means)

pub root_within : (table : List TreePart) (f : Flat) (numbers list : List ℕ) (root : ℕ) → IsFlat f → AreNumbered table (trees_of f.parts) numbers → list ≡ numbers → root ≡ f.root → root < length list
root_within table f numbers list root flat numbered same is =
    subst (λ (l : List ℕ). root < length l) (sym same) (subst (λ r. r < length numbers) (sym is) (numbered_root table f numbers flat numbered).0)

-- equal numbers of the roots, exactly where the flat trees mean one common tree
pub same_end : (first table : List TreePart) (a b : Flat) (of_a of_b : List ℕ) (one other : ℕ) (answer : Bool) → IsTable table → Extends first table → IsFlat a → IsFlat b → AreNumbered first (trees_of a.parts) of_a → AreNumbered table (trees_of b.parts) of_b
    → one ≡ get_or of_a a.root 0 → other ≡ get_or of_b b.root 0 → IsTrue answer ↔ (one ≡ other) → IsTrue answer ↔ (common_of a ≡ common_of b)
same_end first table a b of_a of_b one other answer is_table ext flat_a flat_b numbered_a numbered_b one_is other_is told =
    let root_a = numbered_root table a of_a flat_a (numbered_still first table (trees_of a.parts) of_a ext numbered_a) in
    let root_b = numbered_root table b of_b flat_b numbered_b in
    let both = same_number table (get_or of_a a.root 0) (get_or of_b b.root 0) is_table root_a.1 root_b.1 in (
      (λ yes. sym root_a.2 ∙ both.0 (sym one_is ∙ told.0 yes ∙ other_is) ∙ root_b.2),
      (λ trees. told.1 (one_is ∙ both.1 (root_a.2 ∙ trees ∙ sym root_b.2) ∙ sym other_is)),
    )
