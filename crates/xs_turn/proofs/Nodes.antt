-- A node's items, placed one after another, and the trees of a table's nodes.
use Rattle.std.proofs.Common.{◌≡◌, ℕ, suc, ◌+◌, ◌-◌, ◌<◌, ◌≤◌, List, [], ◌∷◌, ◌++◌, length, All, Some, refl, sym, ◌∙◌, ap, subst, arith, inl, inr, drop, drop-cons, get_or, add-one, append-nil, append_assoc}
use Rattle.std.specs.Prelude.{slice_get, slice_index, slice_range, slice_set}
use Rattle.std.proofs.Math.ListN.{length-set}
use Rattle.std.proofs.lemmas.List.{drop_all}
use Rattle.std.proofs.lemmas.Option.{get_or_from_slice_get, slice_get-get_or}
use Rattle.xs_class.proofs.Lists.{get_push, some_inj}
use Rattle.xs_gram.specs.declared.parts.GItem.{GItem}
use Rattle.xs_gram.specs.declared.parts.GItem.TheVariants.{Fixed, Term, Non, Skip}
use Rattle.xs_gram.specs.Grammar.{Grammar, items, slots}
use Rattle.xs_gram.specs.Derivations.{Parts, done, fixed, leaf, skip, sub, FitsItems, Derivation}
use Rattle.xs_gram.specs.Common.{Common, word, made, children, named, strip}
use Rattle.xs_gram.specs.Languages.{Derives}
use Rattle.xs_gram.specs.Laws.{IsDistinct, IsNumbered, HasNumberedSlots}
use Rattle.xs_parse_table.specs.declared.table.Node.{Node}
use Rattle.xs_parse_table.specs.declared.table.ParseTable.{ParseTable}
use Rattle.xs_parse_table.specs.Tables.{ArePartsAt, IsTreeOf}
use Rattle.xs_tree.specs.Flat.{tree_at, kids_at}
use Rattle.xs_turn.specs.Tables.{AreNodeParts, IsNodeTree, AreNodeTrees, Grows, AreKids, slots_of, AreNodeKids, IsPlaced}
use Rattle.xs_turn.proofs.Kids.{grows_none, grows_longer, tree_grows, last_tree, last_there, kids_grow, kids_put, slot_apart, kids_there, kids_are_children}

some_node : (x y : Node) → Some x ≡ Some y → x ≡ y
some_node x y e = cc

-- the trees of nodes stay where the list goes on
pub node_tree_grows : (g : Grammar) (doc : List ℕ) (table : ParseTable) (a b : List Common) (node : Node) (number : ℕ) → Grows a b → IsNodeTree g doc table a node number → IsNodeTree g doc table b node number
node_tree_grows g doc table a b node number more h =
    let le = grows_longer a b more in
    let there = h.there in
    record {
      there = omega arith;
      tree = λ ps are. tree_grows a b number more h.there ∙ h.tree ps are;
    }

pub node_trees_grow : (g : Grammar) (doc : List ℕ) (table : ParseTable) (a b : List Common) (numbers : List ℕ) → Grows a b → AreNodeTrees g doc table a numbers → AreNodeTrees g doc table b numbers
node_trees_grow g doc table a b numbers more h u number node at there = node_tree_grows g doc table a b node number more (h u number node at there)

-- what is placed of an item: the entry of its slot
abbrev pub entries_of : List ℕ → List ℕ → List Common → GItem → ℕ → ℕ → List (ℕ × Common)
entries_of doc numbers trees (Fixed f) at part = []
entries_of doc numbers trees (Skip k) at part = []
entries_of doc numbers trees (Term t s) at part = (s, word (slice_range doc at part)) ∷ []
entries_of doc numbers trees (Non n s) at part = (s, tree_at trees (slice_index numbers part)) ∷ []

-- the parts after an item
pub record Onward (g : Grammar) (doc : List ℕ) (table : ParseTable) (js : List GItem) (k to end : ℕ) (entries es : List (ℕ × Common)) : Type 0 where
  pub parts : Parts
  pub fits : FitsItems g js parts
  pub mean : ArePartsAt table.nodes.items table.parts.items doc (suc k) to end parts
  pub named_are : es ≡ entries ++ named g js parts

-- What is left of a node's items from a dot on, of parts that the table means at the node.
pub record Rest (g : Grammar) (doc : List ℕ) (table : ParseTable) (node : Node) (dot at : ℕ) (entries : List (ℕ × Common)) (ps : Parts) : Type 0 where
  pub parts : Parts
  pub fits : FitsItems g (drop dot (items g node.production)) parts
  pub mean : ArePartsAt table.nodes.items table.parts.items doc (node.parts + dot) at node.to parts
  pub named_are : named g (items g node.production) ps ≡ entries ++ named g (drop dot (items g node.production)) parts

-- The kids of the items before a dot.
pub record Gathers (g : Grammar) (doc : List ℕ) (table : ParseTable) (node : Node) (dot at : ℕ) (trees : List Common) (ks : List ℕ) : Type 0 where
  pub entries : List (ℕ × Common)
  pub slots_are : slots_of entries ++ slots (drop dot (items g node.production)) ≡ slots (items g node.production)
  pub kids_are : AreKids trees ks entries
  pub rest : (ps : Parts) → AreNodeParts g doc table node ps → Rest g doc table node dot at entries ps

module _ (g : Grammar) (doc : List ℕ) (table : ParseTable) (numbers : List ℕ) where
  abbrev Placed : GItem → ℕ → ℕ → List Common → List ℕ → List Common → List ℕ → ℕ → Type 0
  Placed item at part a ks b ks' to = IsPlaced doc table.nodes.items numbers item at part a ks b ks' to

  pub placed_grows : (item : GItem) (at part : ℕ) (a : List Common) (ks : List ℕ) (b : List Common) (ks' : List ℕ) (to : ℕ) → Placed item at part a ks b ks' to → Grows a b
  placed_grows (Fixed f) at part a ks b ks' to h = subst (λ (l : List Common). Grows a l) (sym h.0) (grows_none a)
  placed_grows (Skip k) at part a ks b ks' to h = subst (λ (l : List Common). Grows a l) (sym h.0) (grows_none a)
  placed_grows (Term t s) at part a ks b ks' to h = (word (slice_range doc at part) ∷ [], h.0.leaf)
  placed_grows (Non n s) at part a ks b ks' to h = subst (λ (l : List Common). Grows a l) (sym h.1) (grows_none a)

  pub placed_long : (item : GItem) (at part : ℕ) (a : List Common) (ks : List ℕ) (b : List Common) (ks' : List ℕ) (to : ℕ) → Placed item at part a ks b ks' to → length ks' ≡ length ks
  placed_long (Fixed f) at part a ks b ks' to h = ap length h.1
  placed_long (Skip k) at part a ks b ks' to h = ap length h.1
  placed_long (Term t s) at part a ks b ks' to h = ap length h.0.put ∙ length-set ks s (length a)
  placed_long (Non n s) at part a ks b ks' to h = ap length h.0.put ∙ length-set ks s h.0.number

  slots_after : (item : GItem) (at part : ℕ) (a : List Common) (js : List GItem) → slots_of (entries_of doc numbers a item at part) ++ slots js ≡ slots (item ∷ js)
  slots_after (Fixed f) at part a js = refl
  slots_after (Skip k) at part a js = refl
  slots_after (Term t s) at part a js = refl
  slots_after (Non n s) at part a js = refl

  number_at : (part number : ℕ) → slice_get numbers part ≡ Some number → slice_index numbers part ≡ number
  number_at part number e = get_or_from_slice_get numbers part number 0 e

  kids_after : (item : GItem) (at part : ℕ) (a : List Common) (ks : List ℕ) (b : List Common) (ks' : List ℕ) (to : ℕ) (js : List GItem) (es : List (ℕ × Common)) → Placed item at part a ks b ks' to → AreNodeTrees g doc table a numbers → IsDistinct (slots_of es ++ slots (item ∷ js)) → AreKids a ks es → AreKids b ks' (es ++ entries_of doc numbers a item at part)
  kids_after (Fixed f) at part a ks b ks' to js es h trees apart are =
      let same = subst (λ (l : List ℕ). AreKids b l es) (sym h.1) (subst (λ (l : List Common). AreKids l ks es) (sym h.0) are) in
      subst (λ (l : List (ℕ × Common)). AreKids b ks' l) (sym (append-nil es)) same
  kids_after (Skip k) at part a ks b ks' to js es h trees apart are =
      let same = subst (λ (l : List ℕ). AreKids b l es) (sym h.1) (subst (λ (l : List Common). AreKids l ks es) (sym h.0) are) in
      subst (λ (l : List (ℕ × Common)). AreKids b ks' l) (sym (append-nil es)) same
  kids_after (Term t s) at part a ks b ks' to js es h trees apart are =
      let u : Common = word (slice_range doc at part) in
      let new : List Common = a ++ u ∷ [] in
      let grown = kids_grow a new ks es (u ∷ [], refl) are in
      let put = kids_put new ks es s (length a) u h.0.below (last_there a u) (last_tree a u) (slot_apart es s (slots js) apart) grown in
      subst (λ (l : List ℕ). AreKids b l (es ++ (s, u) ∷ [])) (sym h.0.put) (subst (λ (l : List Common). AreKids l (slice_set ks s (length a)) (es ++ (s, u) ∷ [])) (sym h.0.leaf) put)
  kids_after (Non n s) at part a ks b ks' to js es h trees apart are =
      let v = h.0.number in
      let t : Common = tree_at a (slice_index numbers part) in
      let is : tree_at a v ≡ t = ap (tree_at a) (sym (number_at part v h.0.numbered)) in
      let one = trees part v h.0.node h.0.numbered h.0.there in
      let put = kids_put a ks es s v t h.0.below one.there is (slot_apart es s (slots js) apart) are in
      subst (λ (l : List ℕ). AreKids b l (es ++ (s, t) ∷ [])) (sym h.0.put) (subst (λ (l : List Common). AreKids l (slice_set ks s v) (es ++ (s, t) ∷ [])) (sym h.1) put)

  same_end : (k part to end : ℕ) → slice_get table.parts.items k ≡ Some part → slice_get table.parts.items k ≡ Some end → to ≡ part → end ≡ to
  same_end k part to end p q e = some_inj end part (sym q ∙ p) ∙ sym e

  -- the parts of an item and those after it
  after : (item : GItem) (ps : Parts) (js : List GItem) (k at part to end : ℕ) (a : List Common) (ks : List ℕ) (b : List Common) (ks' : List ℕ) → slice_get table.parts.items k ≡ Some part → Placed item at part a ks b ks' to → AreNodeTrees g doc table a numbers → FitsItems g (item ∷ js) ps → ArePartsAt table.nodes.items table.parts.items doc k at end ps → Onward g doc table js k to end (entries_of doc numbers a item at part) (named g (item ∷ js) ps)
  after (Fixed f) (fixed w qs) js k at part to end a ks b ks' p h made_are fit mean = record {
    parts = qs;
    fits = fit.1;
    mean = subst (λ x. ArePartsAt table.nodes.items table.parts.items doc (suc k) x end qs) (same_end k part to mean.0 p mean.1 h.2) mean.3;
    named_are = refl;
  }
  after (Skip j) (skip w qs) js k at part to end a ks b ks' p h made_are fit mean = record {
    parts = qs;
    fits = fit.1;
    mean = subst (λ x. ArePartsAt table.nodes.items table.parts.items doc (suc k) x end qs) (same_end k part to mean.0 p mean.1 h.2) mean.3;
    named_are = refl;
  }
  after (Term t s) (leaf w qs) js k at part to end a ks b ks' p h made_are fit mean =
      let there : mean.0 ≡ part = same_end k part part mean.0 p mean.1 refl in
      let is : w ≡ slice_range doc at part = mean.2.word ∙ ap (slice_range doc at) there in
      record {
        parts = qs;
        fits = fit.1;
        mean = subst (λ x. ArePartsAt table.nodes.items table.parts.items doc (suc k) x end qs) (same_end k part to mean.0 p mean.1 h.1) mean.3;
        named_are = ap (λ (v : List ℕ). (s, word v) ∷ named g js qs) is;
      }
  after (Non n s) (sub q qs rest) js k at part to end a ks b ks' p h made_are fit (v, node, ev, en, rule, from, within, inner, outer) =
      let same : v ≡ part = same_end k part part v p ev refl in
      let there : slice_get table.nodes.items part ≡ Some node = subst (λ x. slice_get table.nodes.items x ≡ Some node) same en in
      let own : h.0.node ≡ node = some_node h.0.node node (sym h.0.there ∙ there) in
      let goes : node.to ≡ to = ap (λ (m : Node). m.to) (sym own) ∙ sym h.0.end in
      let one = made_are part h.0.number node h.0.numbered there in
      let are : AreNodeParts g doc table node qs = (subst (λ r. FitsItems g (items g r) qs) (sym rule) fit.1, inner) in
      let tree : tree_at a h.0.number ≡ made q (children (named g (items g q) qs)) = one.tree qs are ∙ ap (λ r. made r (children (named g (items g r) qs))) rule in
      let found : made q (children (named g (items g q) qs)) ≡ tree_at a (slice_index numbers part) = sym tree ∙ ap (tree_at a) (sym (number_at part h.0.number h.0.numbered)) in
      record {
        parts = rest;
        fits = fit.2;
        mean = subst (λ x. ArePartsAt table.nodes.items table.parts.items doc (suc k) x end rest) goes outer;
        named_are = ap (λ (t : Common). (s, t) ∷ named g js rest) found;
      }
  after item ps js k at part to end a ks b ks' p h made_are fit mean = absurd fit

  slots_append : (es xs : List (ℕ × Common)) → slots_of (es ++ xs) ≡ slots_of es ++ slots_of xs
  slots_append [] xs = refl
  slots_append (e ∷ es) xs = ap (λ (l : List ℕ). e.0 ∷ l) (slots_append es xs)

  -- before the first item
  pub gathers_none : (node : Node) (a : List Common) (ks : List ℕ) → Gathers g doc table node 0 node.from a ks
  gathers_none node a ks = record {
    entries = [];
    slots_are = refl;
    kids_are = tt;
    rest = λ ps are. record {
      parts = ps;
      fits = are.0;
      mean = subst (λ x. ArePartsAt table.nodes.items table.parts.items doc x node.from node.to ps) from_zero are.1;
      named_are = refl;
    };
  }
    where
      from_zero : node.parts ≡ node.parts + 0
      from_zero = omega arith

  -- one more item
  pub gathers_step : (node : Node) (dot at to part : ℕ) (item : GItem) (a : List Common) (ks : List ℕ) (b : List Common) (ks' : List ℕ) → IsNumbered (slots (items g node.production)) → dot < length (items g node.production) → item ≡ get_or (items g node.production) dot item → slice_get table.parts.items (node.parts + dot) ≡ Some part → Placed item at part a ks b ks' to → AreNodeTrees g doc table a numbers → Gathers g doc table node dot at a ks → Gathers g doc table node (dot + 1) to b ks'
  gathers_step node dot at to part item a ks b ks' numbered lt read p h made_are so = record {
    entries = so.entries ++ new;
    slots_are = slots_go;
    kids_are = kids_after item at part a ks b ks' to js so.entries h made_are (subst IsDistinct (sym old_slots) numbered.once) so.kids_are;
    rest = λ ps are. onward ps (so.rest ps are);
  }
    where
      is : List GItem
      is = items g node.production

      js : List GItem
      js = drop (dot + 1) (items g node.production)

      new : List (ℕ × Common)
      new = entries_of doc numbers a item at part

      here : drop dot (items g node.production) ≡ item ∷ drop (dot + 1) (items g node.production)
      here = drop-cons (items g node.production) dot item lt ∙ rw add-one (ap (λ (x : GItem). x ∷ drop (suc dot) (items g node.production)) (sym read))

      old_slots : slots_of so.entries ++ slots (item ∷ drop (dot + 1) (items g node.production)) ≡ slots (items g node.production)
      old_slots = ap (λ (l : List GItem). slots_of so.entries ++ slots l) (sym here) ∙ so.slots_are

      slots_go : slots_of (so.entries ++ entries_of doc numbers a item at part) ++ slots (drop (dot + 1) (items g node.production)) ≡ slots (items g node.production)
      slots_go =
          ap (λ (l : List ℕ). l ++ slots (drop (dot + 1) (items g node.production))) (slots_append so.entries (entries_of doc numbers a item at part))
          ∙ append_assoc (slots_of so.entries) (slots_of (entries_of doc numbers a item at part)) (slots (drop (dot + 1) (items g node.production)))
          ∙ ap (λ (l : List ℕ). slots_of so.entries ++ l) (slots_after item at part a (drop (dot + 1) (items g node.production)))
          ∙ old_slots

      onward : (ps : Parts) → Rest g doc table node dot at so.entries ps → Rest g doc table node (dot + 1) to (so.entries ++ entries_of doc numbers a item at part) ps
      onward ps r =
          let fit = subst (λ (l : List GItem). FitsItems g l r.parts) here r.fits in
          let o = after item r.parts (drop (dot + 1) (items g node.production)) (node.parts + dot) at part to node.to a ks b ks' p h made_are fit r.mean in
          let one : suc (node.parts + dot) ≡ node.parts + (dot + 1) = omega arith in
          let at_item : named g (items g node.production) ps ≡ so.entries ++ named g (item ∷ drop (dot + 1) (items g node.production)) r.parts = r.named_are ∙ ap (λ (l : List GItem). so.entries ++ named g l r.parts) here in
          record {
            parts = o.parts;
            fits = o.fits;
            mean = subst (λ x. ArePartsAt table.nodes.items table.parts.items doc x to node.to o.parts) one o.mean;
            named_are = at_item ∙ ap (λ (l : List (ℕ × Common)). so.entries ++ l) o.named_are ∙ sym (append_assoc so.entries (entries_of doc numbers a item at part) (named g (drop (dot + 1) (items g node.production)) o.parts));
          }

  no_more : (ps : Parts) → FitsItems g [] ps → named g [] ps ≡ []
  no_more done fit = refl
  no_more ps fit = absurd fit

  -- after the last item
  pub gathered : (node : Node) (dot at : ℕ) (a : List Common) (ks : List ℕ) → length (items g node.production) ≤ dot → Gathers g doc table node dot at a ks → AreNodeKids g doc table a ks node
  gathered node dot at a ks le so =
      let none : drop dot (items g node.production) ≡ [] = drop_all dot (items g node.production) le in
      record {
        entries = so.entries;
        slots_are = sym (append-nil (slots_of so.entries)) ∙ ap (λ (l : List GItem). slots_of so.entries ++ slots l) (sym none) ∙ so.slots_are;
        kids_are = so.kids_are;
        named_are = λ ps are. all ps (so.rest ps are) none;
      }
    where
      all : (ps : Parts) → Rest g doc table node dot at so.entries ps → drop dot (items g node.production) ≡ [] → named g (items g node.production) ps ≡ so.entries
      all ps r none =
          r.named_are ∙ ap (λ (l : List GItem). so.entries ++ named g l r.parts) none
          ∙ ap (λ (l : List (ℕ × Common)). so.entries ++ l) (no_more r.parts (subst (λ (l : List GItem). FitsItems g l r.parts) none r.fits)) ∙ append-nil so.entries

module _ (g : Grammar) (doc : List ℕ) (table : ParseTable) where
  -- the kids of a node are trees
  pub node_kids_there : (node : Node) (a : List Common) (ks : List ℕ) → HasNumberedSlots g → length ks ≡ length (slots (items g node.production)) → AreNodeKids g doc table a ks node → All (λ v. v < length a) ks
  node_kids_there node a ks numbered long are = kids_there a ks are.entries (slots (items g node.production)) (numbered node.production) are.slots_are long are.kids_are

  -- a node made of its kids
  pub node_made : (node : Node) (a b : List Common) (ks : List ℕ) (number : ℕ) → HasNumberedSlots g → length ks ≡ length (slots (items g node.production)) → AreNodeKids g doc table a ks node → number ≡ length a → b ≡ a ++ made node.production (kids_at a ks) ∷ [] → IsNodeTree g doc table b node number
  node_made node a b ks number numbered long are is new =
      let t : Common = made node.production (kids_at a ks) in
      let kids_is : kids_at a ks ≡ children are.entries = kids_are_children a ks are.entries (slots (items g node.production)) (numbered node.production) are.slots_are long are.kids_are in
      subst (λ n. IsNodeTree g doc table b node n) (sym is) (subst (λ (l : List Common). IsNodeTree g doc table l node (length a)) (sym new) record {
        there = last_there a t;
        tree = λ ps h. last_tree a t ∙ ap (made node.production) (kids_is ∙ ap children (sym (are.named_are ps h)));
      })

  -- one more node
  pub node_trees_push : (a b : List Common) (numbers : List ℕ) (node : Node) (number : ℕ) → Grows a b → AreNodeTrees g doc table a numbers → slice_get table.nodes.items (length numbers) ≡ Some node → IsNodeTree g doc table b node number → AreNodeTrees g doc table b (numbers ++ number ∷ [])
  node_trees_push a b numbers node number more old there new u v m at here = elim (get_push numbers number v u at) [
    | inl before ↦ node_tree_grows g doc table a b m v more (old u v m before here)
    | inr last ↦
        let same : node ≡ m = some_node node m (sym there ∙ ap (λ k. slice_get table.nodes.items k) (sym last.0) ∙ here) in
        subst (λ (x : Node). IsNodeTree g doc table b x v) same (subst (λ n. IsNodeTree g doc table b node n) last.1 new)
  ]

  -- the next node of the table, by its place
  pub node_trees_next : (a b : List Common) (numbers : List ℕ) (xs : List Node) (d : Node) (i number : ℕ) → xs ≡ table.nodes.items → length numbers ≡ i → i < length xs → Grows a b → AreNodeTrees g doc table a numbers → IsNodeTree g doc table b (get_or xs i d) number → AreNodeTrees g doc table b (numbers ++ number ∷ [])
  node_trees_next a b numbers xs d i number same long lt more old new =
      let here : slice_get table.nodes.items i ≡ Some (get_or xs i d) = subst (λ (l : List Node). slice_get l i ≡ Some (get_or xs i d)) same (slice_get-get_or xs i d lt) in
      node_trees_push a b numbers (get_or xs i d) number more old (subst (λ k. slice_get table.nodes.items k ≡ Some (get_or xs i d)) (sym long) here) new

  module _ (a : List Common) (numbers xs : List ℕ) (are : AreNodeTrees g doc table a numbers) (long : length numbers ≡ length table.nodes.items) (same : xs ≡ numbers) (some : 0 < length xs) where
    at_root : slice_get numbers (length xs - 1) ≡ Some (slice_index xs (length xs - 1))
    at_root = subst (λ (l : List ℕ). slice_get l (length xs - 1) ≡ Some (slice_index xs (length xs - 1))) same (slice_get-get_or xs (length xs - 1) 0 (omega arith))

    last_is : suc (length xs - 1) ≡ length table.nodes.items
    last_is = let e = ap length same in omega arith

    pub root_there : slice_index xs (length xs - 1) < length a
    root_there =
        let none : Node = record { production = 0; parts = 0; from = 0; to = 0 } in
        let e = last_is in
        (are (length xs - 1) (slice_index xs (length xs - 1)) (get_or table.nodes.items (length xs - 1) none) at_root (slice_get-get_or table.nodes.items (length xs - 1) none (omega arith))).there

    -- the tree of the last node is that of the derivation that the table means
    pub root_tree : (d : Derivation) → IsTreeOf table doc d → Derives g doc d → tree_at a (slice_index xs (length xs - 1)) ≡ strip g d
    root_tree d is derives =
        let place : is.root ≡ length xs - 1 = let l = is.last in let e = last_is in omega arith in
        let there : slice_get table.nodes.items (length xs - 1) ≡ Some is.tree.node = subst (λ k. slice_get table.nodes.items k ≡ Some is.tree.node) place is.tree.there in
        let one = are (length xs - 1) (slice_index xs (length xs - 1)) is.tree.node at_root there in
        let rule : d.rule ≡ is.tree.node.production = is.tree.rule in
        one.tree d.parts (subst (λ r. FitsItems g (items g r) d.parts) rule derives.0.1, is.tree.parts) ∙ ap (λ r. made r (children (named g (items g r) d.parts))) (sym rule)
