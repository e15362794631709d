-- The nonterminals among outer items, and the components by them.
use Rattle.std.proofs.Common.{◌≡◌, ◌↔◌, inl, inr, ℕ, zero, suc, ◌+◌, ◌<◌, ◌≤◌, List, [], ◌∷◌, ◌++◌, length, drop, get_or, refl, sym, ap, subst, ◌∙◌, arith, append_assoc, append-nil, slice_get, Some}
use Rattle.std.specs.List.{Contains}
use Rattle.std.proofs.lemmas.Option.{slice_get-get_or}
use Rattle.std.proofs.lemmas.List.Elements.{Contains-append_left, Contains-append_right, Contains-append_cases}
use Rattle.xs_graph.specs.Graphs.{HasEdge, Reaches as Leads, stays, passes, AreComponents as AreParts}
use Rattle.xs_gram.specs.declared.parts.GItem.{GItem}
use Rattle.xs_gram.specs.declared.parts.GItem.TheVariants.{Fixed, Term, Non, Skip}
use Rattle.xs_gram.specs.Grammar.{Grammar}
use Rattle.xs_gram.specs.Laws.{IsDistinct}
use Rattle.xs_gram.specs.Sound.{IsInRange}
use Rattle.xs_gram.specs.Fences.{fence_symbols, spread, IsFence, IsLevel, OuterAt, IsPartner, IsLeftFence}
use Rattle.xs_gram.specs.Loose.{Uses, Reaches, here, onward, AreComponents}
use Rattle.xs_gram.proofs.Fences.{is_left_of}
use Rattle.xs_gram.proofs.Spreading.{spread_names}
use Rattle.xs_gram.proofs.Levels.{level_first, group_opened, after_group, outer_at, outer_none, outer_here, outer_later, outer_then, outer_after, outer_group}
use Rattle.xs_gram.proofs.Building.{drop_next}
use Rattle.xs_order.specs.Graphs.{AreByRule, IsGraphTo}
use Rattle.xs_order.specs.Rules.{nons_of}
use Rattle.xs_order.specs.Outer.{AreOuterNons, no_nons, item_nons, group_nons, IsPast}

-- the nonterminal n is an outer item
abbrev pub HasOuter : List (ℕ × ℕ) → List GItem → ℕ → Type 0
HasOuter fs is n = (k : ℕ) × (s : ℕ) × OuterAt fs is k (Non n s)

nothing : (n : ℕ) → Contains [] n → ⊥
nothing n h = omega (arith, h.1)

one_non : (i : GItem) (n : ℕ) → Contains (nons_of (i ∷ [])) n → (s : ℕ) × (i ≡ Non n s)
one_non (Fixed f) n h = absurd (nothing n h)
one_non (Term t s) n h = absurd (nothing n h)
one_non (Skip k) n h = absurd (nothing n h)
one_non (Non m s) n (zero, lt, e) = (s, ap (λ (x : ℕ). Non x s) e)
one_non (Non m s) n (suc k, lt, e) = absurd (omega arith)

non_one : (i : GItem) (n s : ℕ) → i ≡ Non n s → Contains (nons_of (i ∷ [])) n
non_one i n s e = subst (λ (x : GItem). Contains (nons_of (x ∷ [])) n) (sym e) (0, omega arith, refl)

pub nons_are_outer : {fs : List (ℕ × ℕ)} {is : List GItem} {ns : List ℕ} → AreOuterNons fs is ns → (n : ℕ) → Contains ns n → HasOuter fs is n
nons_are_outer no_nons n h = absurd (nothing n h)
nons_are_outer {fs} (item_nons {i = i} {is = is} {ns = ns} plain t e) n h =
    elim (Contains-append_cases (nons_of (i ∷ [])) ns n (subst (λ (l : List ℕ). Contains l n) e h)) [
      | inl own ↦ let o = one_non i n own in (0, o.0, subst (λ (x : GItem). OuterAt fs (i ∷ is) 0 x) o.1 (outer_here is plain))
      | inr later ↦ let o = nons_are_outer t n later in (suc o.0, o.1, outer_later plain o.2)
    ]
nons_are_outer (group_nons f i t e) n h = let o = nons_are_outer t n h in (_, o.1, outer_after f i e o.2)

pub outer_are_nons : {fs : List (ℕ × ℕ)} {is : List GItem} {ns : List ℕ} → IsDistinct (fence_symbols fs) → AreOuterNons fs is ns → (n k s : ℕ) → OuterAt fs is k (Non n s) → Contains ns n
outer_are_nons once no_nons n k s o = absurd (outer_none o)
outer_are_nons once (item_nons {i = i} {ns = ns} plain t e) n k s o =
    subst (λ (l : List ℕ). Contains l n) (sym e) (elim (outer_then plain o) [
      | inl h ↦ Contains-append_left (nons_of (i ∷ [])) ns n (non_one i n s h.1)
      | inr h ↦ Contains-append_right (nons_of (i ∷ [])) ns n (outer_are_nons once t n h.0 s h.2)
    ])
outer_are_nons once (group_nons f i t e) n k s o = let h = outer_group once f i e o in outer_are_nons once t n h.0 s h.2

get_here : {A : Type 0} (xs : List A) (k : ℕ) (x : A) → k < length xs → x ≡ get_or xs k x → slice_get xs k ≡ Some x
get_here xs k x lt e = slice_get-get_or xs k x lt ∙ ap (λ z. Some z) (sym e)

-- past an item that is no left fence
pub item_past : (fs : List (ℕ × ℕ)) (is : List GItem) (place : ℕ) (item : GItem) (old new : List ℕ) → place < length is → item ≡ get_or is place item → IsLevel fs (drop place is) → (IsLeftFence fs is place → ⊥) → new ≡ old ++ nons_of (item ∷ []) → IsPast fs is place (place + 1) old new
item_past fs is place item old new lt at level other adds =
    let opened = drop_next is place item lt at in
    let no_left : (l r : ℕ) → IsFence fs l r → item ≡ Fixed (l ∷ []) → ⊥ = λ l r f e. other record { symbol = l; item = get_here is place item lt at ∙ ap (λ (x : GItem). Some x) e; left = is_left_of f } in
    let first = level_first no_left (subst (λ (x : List GItem). IsLevel fs x) opened level) in
    record {
      later = omega arith;
      within = omega arith;
      level = first.1;
      added = nons_of (item ∷ []);
      adds = adds;
      nons = λ ns t. subst (λ (x : List GItem). AreOuterNons fs x (nons_of (item ∷ []) ++ ns)) (sym opened) (item_nons first.0 t refl);
    }

-- past a group
pub group_past : (fs : List (ℕ × ℕ)) (is : List GItem) (place m : ℕ) (old : List ℕ) → IsDistinct (fence_symbols fs) → IsLevel fs (drop place is) → IsPartner fs is place m → IsPast fs is place (m + 1) old old
group_past fs is place m old once level p =
    let a = p.group in
    let opened = group_opened a in
    let here = opened.0 in
    let more : m + 1 ≡ suc m = omega arith in
    let next : drop (m + 1) is ≡ a.after = ap (λ (k : ℕ). drop k is) more ∙ opened.1 in
    record {
      later = omega (arith, a.partner);
      within = omega (arith, opened.2);
      level = subst (λ (x : List GItem). IsLevel fs x) (sym next) (after_group fs once a.fence a.within here level);
      added = [];
      adds = sym (append-nil old);
      nons = λ ns t. group_nons a.fence a.within (subst (λ (x : List GItem). AreOuterNons fs x ns) next t) here;
    }

-- one more item, or group, was gone past
pub nons_step : (fs : List (ℕ × ℕ)) (is : List GItem) (place next : ℕ) (old new : List ℕ) → IsPast fs is place next old new → ((ns : List ℕ) → AreOuterNons fs (drop place is) ns → AreOuterNons fs is (old ++ ns)) → (ns : List ℕ) → AreOuterNons fs (drop next is) ns → AreOuterNons fs is (new ++ ns)
nons_step fs is place next old new past so_far ns t =
    subst (λ (x : List ℕ). AreOuterNons fs is x) (sym (append_assoc old past.added ns) ∙ ap (λ (x : List ℕ). x ++ ns) (sym past.adds)) (so_far (past.added ++ ns) (past.nons ns t))

pub nons_end : (fs : List (ℕ × ℕ)) (is : List GItem) (next : ℕ) (nons : List ℕ) → length is ≤ next → ((ns : List ℕ) → AreOuterNons fs (drop next is) ns → AreOuterNons fs is (nons ++ ns)) → AreOuterNons fs is nons
nons_end fs is next nons le so_far =
    subst (λ (x : List ℕ). AreOuterNons fs is x) (append-nil nons) (so_far [] (subst (λ (x : List GItem). AreOuterNons fs x []) (sym (drop_past is next le)) no_nons))
  where
    drop_past : (xs : List GItem) (k : ℕ) → length xs ≤ k → drop k xs ≡ []
    drop_past [] zero le = refl
    drop_past [] (suc k) le = refl
    drop_past (x ∷ xs) zero le = absurd (omega arith)
    drop_past (x ∷ xs) (suc k) le = drop_past xs k (omega arith)

-- the graph of what uses what
abbrev AreNons : Grammar → List (List ℕ) → Type 0
AreNons g targets = AreByRule (λ p list. AreOuterNons g.fences (spread g p) list) (length g.rules) targets

pub uses_are_edges : (g : Grammar) (targets graph : List (List ℕ)) → IsDistinct (fence_symbols g.fences) → AreNons g targets → IsGraphTo g targets (length g.rules) graph → (m n : ℕ) → Uses g m n ↔ HasEdge graph m n
uses_are_edges g targets graph once nons known m n = (
  λ u. known.there m n (record { rule = u.rule; before = u.of.0; non = u.of.1; target = outer_are_nons once (nons.each u.rule u.of.0) n u.dot u.slot u.item }),
  λ h.
      let edge = known.only m n h in
      let at = nons_are_outer (nons.each edge.rule edge.before) n edge.target in
      record { rule = edge.rule; dot = at.0; slot = at.1; of = (edge.before, edge.non); item = at.2 },
)

-- each target is a nonterminal
pub uses_in_range : (g : Grammar) (targets : List (List ℕ)) → IsInRange g → AreNons g targets → (p m : ℕ) → p < length g.rules → Contains (get_or targets p []) m → m < g.nons
uses_in_range g targets range nons p m l h =
    let at = nons_are_outer (nons.each p l) m h in
    spread_names g range p at.0 (Non m at.1) (outer_at at.2)

module _ (g : Grammar) (graph : List (List ℕ)) (edges : (m n : ℕ) → Uses g m n ↔ HasEdge graph m n) where
  reaches_by_edges : (m n : ℕ) → Reaches g m n → Leads graph m n
  reaches_by_edges m n here = stays
  reaches_by_edges m n (onward {n = k} step rest) = passes ((edges m k).0 step) (reaches_by_edges k n rest)

  reaches_by_uses : (m n : ℕ) → Leads graph m n → Reaches g m n
  reaches_by_uses m n stays = here
  reaches_by_uses m n (passes {b = k} edge rest) = onward ((edges m k).1 edge) (reaches_by_uses k n rest)

  -- so the graph's components are the grammar's
  pub are_components : (comps : List ℕ) → length graph ≡ g.nons → AreParts graph comps → AreComponents g comps
  are_components comps counted parts = record {
    counted = parts.counted ∙ counted;
    one = λ m n l k.
        let known = parts.one m n (omega (arith, counted)) (omega (arith, counted)) in
        (λ e. let both = known.0 e in (reaches_by_uses m n both.0, reaches_by_uses n m both.1), λ both. known.1 (reaches_by_edges m n both.0, reaches_by_edges n m both.1));
    falls = λ m n l step. parts.falls m n ((edges m n).0 step);
  }
