-- What the node of a row needs is made where the rows before it are.
use Rattle.std.proofs.Common.{◌≡◌, ℕ, zero, suc, ◌<◌, List, [], ◌∷◌, ◌++◌, length, get_or, Bool, Option, Some, None, refl, sym, ◌∙◌, ap, arith, subst, All, inl, inr, length-append}
use Rattle.std.specs.Prelude.{slice_index}
use Rattle.std.proofs.Math.Seq.{take-length, get_or-append_seam}
use Rattle.std.proofs.lemmas.Bool.{cases_lt}
use Rattle.std.proofs.lemmas.List.{get_or_append_left, get_or_read}
use Rattle.xs_gram.specs.declared.parts.GItem.{GItem}
use Rattle.xs_gram.specs.declared.parts.GItem.TheVariants.{Fixed, Term, Non, Skip}
use Rattle.xs_gram.specs.Grammar.{Grammar, items, slots}
use Rattle.xs_gram.specs.Derivations.{done, sub, FitsItems}
use Rattle.xs_gram.specs.Common.{made, named, children, strip}
use Rattle.xs_gram.specs.Languages.{InLang, HasTree}
use Rattle.xs_gram.specs.Laws.{IsNumbered}
use Rattle.xs_chart_laws.proofs.Words.{get_lt}
use Rattle.xs_forest.specs.declared.row.Alt.{Alt}
use Rattle.xs_forest.specs.Rows.{IsEarlier}
use Rattle.xs_tree.specs.Flat.{TreePart, Node, tree_at, trees_of}
use Rattle.xs_forest_laws.specs.declared.span.SpanKey.{SpanKey}
use Rattle.xs_forest_laws.specs.declared.span.What.TheVariants.{Whole, Front}
use Rattle.xs_forest_laws.specs.Forest.{Forest, key_at, key_of, alts_of, IsRow, Unfolding, bare, pick, read, FrontAt, ItemRow, WholeAlt, IsRight}
use Rattle.xs_forest_laws.specs.First.{IsFirst}
use Rattle.xs_forest_laws.specs.Laws.{IsRoot}
use Rattle.xs_forest_laws.proofs.Read.{read_whole, front_good, unfolding_fits}
use Rattle.xs_forest_laws.proofs.Root.{exact}
use Rattle.xs_forest_laws.proofs.Once.{sub_rule, sub_parts}
use Rattle.xs_forest_laws.proofs.Number.{contains_of}
use Rattle.xs_forest_laws.proofs.First.{has_first, first_unfolds}
use Rattle.xs_listing.specs.Marks.{IsFirstAlt, IsReady, IsMarked, IsMarkedChild, AreMarked}
use Rattle.xs_listing.specs.Making.{IsMade, IsWhole, AreMade, IsMadeChild, IsPrepared, CanMake, CanGather, Extends, Fills}
use Rattle.xs_listing.proofs.Children.{children_earlier}
use Rattle.xs_listing.proofs.Filling.{last_tree, kids_there, kids_are}
use Rattle.xs_listing.proofs.Gathering.{one_first, made_more}

-- A row of a nonterminal: its first alternative, and the unfolding of its left child.
pub record IsNode (g : Grammar) (w : List ℕ) (f : Forest) (r : ℕ) (u : Unfolding) : Type 0 where
  pub non : ℕ
  pub row : IsRow f r (Whole non) (key_of f r).start (key_of f r).end
  pub alt : Alt
  pub l : Unfolding
  pub t : Unfolding
  pub u_is : u ≡ pick alt l t
  pub first : IsFirstAlt f r alt
  pub left_first : IsFirst f alt.left l
  pub by : WholeAlt g w f non (key_of f r).start (key_of f r).end alt.rule alt

module _ (g : Grammar) (w : List ℕ) (f : Forest) (right : IsRight g w f) where
  pub node_of : (r : ℕ) (u : Unfolding) → IsWhole f r → IsFirst f (Some r) u → IsNode g w f r u
  node_of r bare (n, e) h = absurd h
  node_of r (pick a l t) (n, e) (lt, at, hl, ht) =
      let row : IsRow f r (Whole n) (key_of f r).start (key_of f r).end = (lt, ap (λ x. key_at x (key_of f r).start (key_of f r).end) e) in
      record { non = n; row = row; alt = a; l = l; t = t; u_is = refl; first = at; left_first = hl; by = right.sound r (Whole n) (key_of f r).start (key_of f r).end a row (contains_of (alts_of f r) 0 a at) }

  pub some_alt : (r : ℕ) (u : Unfolding) → IsFirst f (Some r) u → zero < length (alts_of f r)
  some_alt r bare h = absurd h
  some_alt r (pick a l t) (lt, at, hl, ht) = get_lt (alts_of f r) 0 a at

  module _ (marks : List Bool) (marked : AreMarked w f marks 0) (parts : List TreePart) (numbers : List ℕ) (made_all : AreMade g w f marks parts numbers) where
    item_whole : (item : GItem) (m j c : ℕ) → ItemRow f item m j (Some c) → IsWhole f c
    item_whole (Fixed v) m j c h = cc
    item_whole (Term t s) m j c h = cc
    item_whole (Skip k) m j c h = cc
    item_whole (Non n s) m j c (k, e, row) =
        let same : k ≡ c = cc in
        (n, subst (λ x. (key_of f x).what ≡ Whole n) same (ap (λ (x : SpanKey). x.what) row.1))

    child_made : (item : GItem) (m j : ℕ) (o : Option ℕ) → ItemRow f item m j o → IsMarkedChild marks o → IsEarlier o (length numbers) → IsMadeChild g w f parts numbers o
    child_made item m j None row mark lt = tt
    child_made item m j (Some c) row mark lt = (lt, made_all c lt mark (item_whole item m j c row))

    front_prepared : (l : Unfolding) (q d i j : ℕ) (o : Option ℕ) → FrontAt f q d i j o → IsFirst f o l → IsMarkedChild marks o → IsEarlier o (length numbers) → IsPrepared g w f parts numbers l
    front_prepared bare q d i j o at first mark lt = tt
    front_prepared (pick a l t) q zero i j o at first mark lt = absurd (subst (λ x. IsFirst f x (pick a l t)) at.0 first)
    front_prepared (pick a l t) q (suc d) i j None at first mark lt = absurd first
    front_prepared (pick a l t) q (suc d) i j (Some r) (n, e, row) (there, first, hl, ht) mark lt =
        let same : n ≡ r = cc in
        let row' = subst (λ x. IsRow f x (Front q (suc d)) i j) same row in
        let b = right.sound r (Front q (suc d)) i j a row' (contains_of (alts_of f r) 0 a first) in
        let earlier = children_earlier g w f right r 0 (length numbers) a there (omega arith) first in
        let ml = marked.lefts r a (omega arith) mark first in
        let mr = marked.rights r a (omega arith) mark first in (
          child_made b.1 b.0 j a.right b.2.right_is mr earlier.1,
          front_prepared l q d i b.0 a.left b.2.left_is hl ml earlier.0,
        )

    -- the next row, where it is marked and one of a nonterminal
    pub can_make : IsMarked marks (length numbers) → IsWhole f (length numbers) → CanMake g w f parts numbers (length numbers)
    can_make mark whole = record { whole = whole; inside = ready.inside; chosen = ready.chosen; first = ready.first; prepared = subst (λ u. IsPrepared g w f parts numbers u) (sym node.u_is) prepared }
      where
        ready : IsReady w f (length numbers)
        ready = marked.ready (length numbers) mark

        node : IsNode g w f (length numbers) ready.chosen
        node = node_of (length numbers) ready.chosen whole ready.first

        prepared : IsPrepared g w f parts numbers (pick node.alt node.l node.t)
        prepared =
            let earlier = children_earlier g w f right (length numbers) 0 (length numbers) node.alt node.row.0 (omega arith) node.first in
            let ml = marked.lefts (length numbers) node.alt (omega arith) mark node.first in (
              subst (λ o. IsMadeChild g w f parts numbers o) (sym node.by.right_is) tt,
              front_prepared node.l node.alt.rule (length (items g node.alt.rule)) (key_of f (length numbers)).start (key_of f (length numbers)).end node.alt.left node.by.left_is node.left_first ml earlier.0,
            )

  same_first : (r : ℕ) (a b : Alt) → IsFirstAlt f r a → IsFirstAlt f r b → a ≡ b
  same_first r a b h k = cc

  module _ (parts : List TreePart) (numbers : List ℕ) (r : ℕ) (can : CanMake g w f parts numbers r) where
    pub the_node : IsNode g w f r can.chosen
    the_node = node_of r can.chosen can.whole can.first

    -- the kids of its node can be gathered
    pub can_gather : (a : Alt) → IsFirstAlt f r a → CanGather g w f parts numbers a.rule a.left
    can_gather a first =
        subst (λ (x : Alt). CanGather g w f parts numbers x.rule x.left) (same_first r the_node.alt a the_node.first first)
        (record { start = (key_of f r).start; end = (key_of f r).end; inside = can.inside; front = the_node.by.left_is; chosen = the_node.l; first = the_node.left_first; prepared = prepared.1 })
      where
        prepared : IsPrepared g w f parts numbers (pick the_node.alt the_node.l the_node.t)
        prepared = subst (λ u. IsPrepared g w f parts numbers u) the_node.u_is can.prepared

    pub rule_there : (a : Alt) → IsFirstAlt f r a → a.rule < length g.rules
    rule_there a first = subst (λ (x : Alt). x.rule < length g.rules) (same_first r the_node.alt a the_node.first first) the_node.by.of.0

    -- the parts of the rule's items
    fits : FitsItems g (items g the_node.alt.rule) (read g w f the_node.alt.left the_node.l)
    fits =
        let a = the_node.alt in
        let s = front_good g w f the_node.l a.rule (length (items g a.rule)) (key_of f r).start (key_of f r).end a.left (unfolding_fits g w f right the_node.l) the_node.by.left_is (first_unfolds f a.left the_node.l the_node.left_first) in
        rw take-length at s.0

    module _ (a : Alt) (first : IsFirstAlt f r a) (parts' : List TreePart) (kids : List ℕ) (numbered : (p : ℕ) → IsNumbered (slots (items g p))) (long : length kids ≡ length (slots (items g a.rule))) (are : (u : Unfolding) → IsFirst f a.left u → Fills parts' kids (named g (items g a.rule) (read g w f a.left u))) where
      same : the_node.alt ≡ a
      same = same_first r the_node.alt a the_node.first first

      long_node : length kids ≡ length (slots (items g the_node.alt.rule))
      long_node = subst (λ (x : Alt). length kids ≡ length (slots (items g x.rule))) (sym same) long

      fills : Fills parts' kids (named g (items g the_node.alt.rule) (read g w f the_node.alt.left the_node.l))
      fills = subst (λ (x : Alt). (u : Unfolding) → IsFirst f x.left u → Fills parts' kids (named g (items g x.rule) (read g w f x.left u))) (sym same) are the_node.l the_node.left_first

      pub kids_before : All (λ kid. kid < length parts') kids
      kids_before = kids_there g (items g the_node.alt.rule) (read g w f the_node.alt.left the_node.l) parts' kids (numbered the_node.alt.rule) fits long_node fills

      pub node_made : IsMade g w f (parts' ++ Node a.rule kids ∷ []) r (length parts')
      node_made = record {
        there = (let e = length-append parts' (Node a.rule kids ∷ []) in omega arith);
        tree = λ u h. record {
          rule = a.rule;
          parts = read g w f the_node.alt.left the_node.l;
          parts_are = ap (λ x. read g w f (Some r) x) (one_first f (Some r) u can.chosen h can.first ∙ the_node.u_is) ∙ read_whole g w f r the_node.non (key_of f r).start (key_of f r).end the_node.alt the_node.l the_node.t the_node.row ∙ ap (λ (x : Alt). sub x.rule (read g w f the_node.alt.left the_node.l) done) same;
          tree_is =
              last_tree parts' (Node a.rule kids) ∙ ap (made a.rule) (kids_are g (items g the_node.alt.rule) (read g w f the_node.alt.left the_node.l) parts' kids (numbered the_node.alt.rule) fits long_node fills) ∙
              ap (λ (x : Alt). made a.rule (children (named g (items g x.rule) (read g w f the_node.alt.left the_node.l)))) same;
        };
      }

  -- one more row has its number
  pub made_next : (marks : List Bool) (parts parts' : List TreePart) (numbers new : List ℕ) (v : ℕ) → AreMade g w f marks parts numbers → Extends parts parts' → (IsMarked marks (length numbers) → IsWhole f (length numbers) → IsMade g w f parts' (length numbers) v) → new ≡ numbers ++ v ∷ [] → AreMade g w f marks parts' new
  made_next marks parts parts' numbers new v all ex made_here grown = rw grown (λ r lt mark whole. elim (cases_lt r (length numbers)) [
    | inl old ↦ subst (λ n. IsMade g w f parts' r n) (sym (get_or_append_left numbers (v ∷ []) 0 r old)) (made_more g w f parts parts' r (slice_index numbers r) ex (all r old mark whole))
    | inr ge ↦
        let e = length-append numbers (v ∷ []) in
        let is : r ≡ length numbers = omega arith in
        let here : slice_index (numbers ++ v ∷ []) r ≡ v = ap (slice_index (numbers ++ v ∷ [])) is ∙ get_or-append_seam numbers v [] 0 in
        let last = made_here (subst (λ x. IsMarked marks x) is mark) (subst (λ x. IsWhole f x) is whole) in
        subst (λ n. IsMade g w f parts' r n) (sym here) (subst (λ x. IsMade g w f parts' x v) (sym is) last)
  ])

  -- the root has an unfolding by first alternatives, and its tree is that of a derivation
  module _ (root : ℕ) (row : IsRoot g w f root) where
    root_start : (key_of f root).start ≡ 0
    root_start = ap (λ (k : SpanKey). k.start) row.1

    pub root_ready : InLang g w → IsReady w f root
    root_ready (d, h) =
        let x = exact g w f right root row in
        let u = x.unfolds d h in
        let v = has_first g w f right root u.0 u.1 in
        let start = root_start in
        record { chosen = v.0; first = v.1; inside = omega arith }

    root_whole : IsWhole f root
    root_whole = (g.start, ap (λ (k : SpanKey). k.what) row.1)

    -- and it is made by the part of its number
    pub root_made : (marks : List Bool) (parts : List TreePart) (numbers : List ℕ) (number : ℕ) → AreMade g w f marks parts numbers → length numbers ≡ length f → IsMarked marks root → number ≡ get_or numbers root number → IsMade g w f parts root number
    root_made marks parts numbers number made_all long mark read_at =
        let there = row.0 in
        let at : number ≡ slice_index numbers root = get_or_read numbers root number (omega arith) read_at 0 in
        subst (λ v. IsMade g w f parts root v) (sym at) (made_all root (omega arith) mark root_whole)

    pub root_tree : (parts : List TreePart) (v : ℕ) → IsReady w f root → IsMade g w f parts root v → HasTree g w (tree_at (trees_of parts) v)
    root_tree parts v ready made_root =
        let t = made_root.tree ready.chosen ready.first in
        let x = exact g w f right root row in
        let d = x.derives ready.chosen (first_unfolds f (Some root) ready.chosen ready.first) in
        let e : sub d.0.rule d.0.parts done ≡ sub t.rule t.parts done = sym d.2 ∙ t.parts_are in
        let same : strip g d.0 ≡ strip g (record { rule = t.rule; parts = t.parts }) = ap (λ q. strip g (record { rule = q; parts = d.0.parts })) (sub_rule d.0.rule t.rule d.0.parts t.parts e) ∙ ap (λ ps. strip g (record { rule = t.rule; parts = ps })) (sub_parts d.0.rule t.rule d.0.parts t.parts e) in
        (d.0, d.1, same ∙ sym t.tree_is)
