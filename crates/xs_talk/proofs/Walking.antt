-- A stack of open nodes, the innermost last, and what is still to be written of them.
use Rattle.std.proofs.Common.{◌≡◌, ℕ, zero, suc, ◌<◌, ◌+◌, ◌-◌, List, [], ◌∷◌, ◌++◌, length, map, Some, refl, sym, ◌∙◌, ap, subst, append_assoc, arith}
use Rattle.std.specs.Prelude.{codes, decimal, slice_get, slice_range}
use Rattle.std.proofs.lemmas.List.{append-nil, length-append}
use Rattle.std.proofs.lemmas.Option.{same_Some}
use Rattle.xs_gram.specs.declared.parts.GItem.{GItem}
use Rattle.xs_gram.specs.declared.parts.GItem.TheVariants.{Fixed, Term, Non, Skip as Ignored}
use Rattle.xs_gram.specs.Grammar.{items}
use Rattle.xs_gram.specs.Derivations.{Parts, fixed, leaf, skip, sub, Derivation, FitsItems}
use Rattle.xs_gram.specs.Languages.{Derives}
use Rattle.xs_forest_laws.specs.Walk.{AreAt}
use Rattle.xs_listing.specs.declared.spelt.SpeltPart.{SpeltPart}
use Rattle.xs_listing.specs.declared.spelt.SpeltPart.TheVariants.{Node, Leaf, Skip}
use Rattle.xs_listing.specs.Spelt.{flat_of, AreInOrder, IsSpeltOf}
use Rattle.xs_pair.specs.Grammars.{Pair}
use Rattle.xs_talk.specs.Words.{quoted}
use Rattle.xs_talk.specs.declared.walk.Task.{Task}
use Rattle.xs_talk.specs.Derivations.{node_text, parts_text, derivation_line}
use Rattle.xs_talk.specs.Slots.{AreNamed, HasSlotNames}
use Rattle.xs_talk.specs.Walk.{IsSpelt, IsLineOf, label, IsOpened, CanWrite, IsWritten, HasKid, IsKidWritten, CanDo, IsDone}

-- parts that are one part of a flat list are one
flat_same : (r s : SpeltPart) → flat_of r ≡ flat_of s → r ≡ s
flat_same (Node p ls) (Node q ks) e = cc
flat_same (Node p ls) (Leaf i j) e = cc
flat_same (Node p ls) (Skip i j) e = cc
flat_same (Leaf a b) (Node q ks) e = cc
flat_same (Leaf a b) (Leaf i j) e = cc
flat_same (Leaf a b) (Skip i j) e = cc
flat_same (Skip a b) (Node q ks) e = cc
flat_same (Skip a b) (Leaf i j) e = cc
flat_same (Skip a b) (Skip i j) e = cc

-- what stands in the flat list where a part is
part_there : (ss : List SpeltPart) (v : ℕ) (s : SpeltPart) → slice_get (map flat_of ss) v ≡ Some (flat_of s) → slice_get ss v ≡ Some s
part_there [] v s e = cc
part_there (r ∷ ss) zero s e = ap (λ (x : SpeltPart). Some x) (flat_same r s (same_Some (flat_of r) (flat_of s) e))
part_there (r ∷ ss) (suc v) s e = part_there ss v s e

at_last : (ss : List SpeltPart) (s : SpeltPart) → slice_get (ss ++ s ∷ []) (length ss) ≡ Some s
at_last [] s = refl
at_last (r ∷ ss) s = at_last ss s

last_there : (ss : List SpeltPart) (s : SpeltPart) → slice_get (ss ++ s ∷ []) (length (ss ++ s ∷ []) - 1) ≡ Some s
last_there ss s =
    let long : length (ss ++ s ∷ []) ≡ length ss + 1 = length-append ss (s ∷ []) in
    let before : length (ss ++ s ∷ []) - 1 ≡ length ss = omega (arith, long) in
    ap (λ n. slice_get (ss ++ s ∷ []) n) before ∙ at_last ss s

-- how texts in a row are grouped
node_is : (out begin number inner end rest : List ℕ) → out ++ ((((begin ++ number) ++ inner) ++ end) ++ rest) ≡ (out ++ (begin ++ number)) ++ ((inner ++ end) ++ rest)
node_is out begin number inner end rest = simp append_assoc

word_is : (out label word more end rest : List ℕ) → out ++ ((((label ++ word) ++ more) ++ end) ++ rest) ≡ ((out ++ label) ++ word) ++ ((more ++ end) ++ rest)
word_is out label word more end rest = simp append_assoc

inner_is : (out label inner more end rest : List ℕ) → out ++ ((((label ++ inner) ++ more) ++ end) ++ rest) ≡ (out ++ label) ++ (inner ++ ((more ++ end) ++ rest))
inner_is out label inner more end rest = simp append_assoc

module _ (p : Pair) (w : List ℕ) (spelt : List SpeltPart) where
  -- the kids are those of parts that fit the items, whose slots have names
  abbrev pub AreOpen : ℕ → List GItem → Parts → List ℕ → Type 0
  AreOpen rule is ps vs = FitsItems p.text is ps × AreAt w (map flat_of spelt) ps vs × AreNamed p rule is

  abbrev pub rest_text : ℕ → List GItem → Parts → List ℕ
  rest_text rule is ps = parts_text p rule is ps ++ codes ")"

  abbrev pub IsTextOf : Task → List ℕ → Type 0
  IsTextOf task v = (ps : Parts) × AreOpen task.rule task.items.now ps task.kids.now × (v ≡ rest_text task.rule task.items.now ps)

  -- what is still to be written, that of the last node first
  abbrev pub Pending : List Task → List ℕ → Type 0
  Pending [] v = v ≡ []
  Pending (task ∷ tasks) v = (a : List ℕ) × (b : List ℕ) × Pending tasks a × IsTextOf task b × (v ≡ a ++ b)

  pub next_of : (tasks : List Task) (task : Task) (v : List ℕ) → Pending (tasks ++ task ∷ []) v → (b : List ℕ) × (a : List ℕ) × IsTextOf task b × Pending tasks a × (v ≡ b ++ a)
  next_of [] task v (a, b, nothing, text, is) = (b, [], text, refl, is ∙ ap (λ (l : List ℕ). l ++ b) nothing ∙ sym (append-nil b))
  next_of (first ∷ tasks) task v (a, b, later, text, is) =
      let inner = next_of tasks task a later in
      (inner.0, inner.1 ++ b, inner.2, (inner.1, b, inner.3, text, refl), is ∙ ap (λ (l : List ℕ). l ++ b) inner.4 ∙ append_assoc inner.0 inner.1 b)

  pub more_of : (tasks : List Task) (task : Task) (a b : List ℕ) → Pending tasks a → IsTextOf task b → Pending (tasks ++ task ∷ []) (b ++ a)
  more_of [] task a b nothing text = ([], b, refl, text, ap (λ (l : List ℕ). b ++ l) nothing ∙ append-nil b)
  more_of (first ∷ tasks) task a b (c, d, later, first_text, is) text =
      (b ++ c, d, more_of tasks task c b later text, first_text, ap (λ (l : List ℕ). b ++ l) is ∙ sym (append_assoc b c d))

  pub opened : (rule : ℕ) (is : List GItem) (vs : List ℕ) (ps : Parts) (old new : List Task) (u : List ℕ) → AreOpen rule is ps vs → IsOpened rule is vs old new → Pending old u → Pending new (rest_text rule is ps ++ u)
  opened rule is vs ps old new u fitting o pending =
      subst (λ l. Pending l (rest_text rule is ps ++ u)) (sym o.last)
      (more_of old o.task u (rest_text rule is ps) pending
      (ps, rw (o.of_rule, o.of_items, o.of_kids) fitting, rw (o.of_rule, o.of_items) refl))

  -- the first item can be written
  pub can_do : HasSlotNames p → AreInOrder w spelt → (rule : ℕ) (is : List GItem) (ps : Parts) (vs : List ℕ) → AreOpen rule is ps vs → CanDo p w spelt rule is vs
  can_do names order rule [] ps vs fitting = tt
  can_do names order rule (Fixed f ∷ is) ps vs fitting = tt
  can_do names order rule (Term t s ∷ is) (leaf u ps) vs (fits, (v, i, j, us, e, at, r, more), (named, later)) =
      let there = part_there spelt v (Leaf i j) at in
      subst (λ l. HasKid p w spelt rule (Term t s) l) (sym e) (named, subst (λ o. CanWrite p w o) (sym there) (order v (Leaf i j) there))
  can_do names order rule (Non n s ∷ is) (sub q qs ps) vs ((rule_of, fits, others), (v, ks, us, e, at, inner, more), (named, later)) =
      let there = part_there spelt v (Node q ks) at in
      subst (λ l. HasKid p w spelt rule (Non n s) l) (sym e) (named, subst (λ o. CanWrite p w o) (sym there) rule_of.0)
  can_do names order rule (Ignored k ∷ is) (skip u ps) vs (fits, (v, i, j, us, e, at, r, more), (named, later)) =
      let there = part_there spelt v (Skip i j) at in
      subst (λ l. HasKid p w spelt rule (Ignored k) l) (sym e) (named, subst (λ o. CanWrite p w o) (sym there) (order v (Skip i j) there))
  can_do names order rule (item ∷ is) ps vs (fits, at, named) = absurd fits

  -- what was written, and then what is still to be written
  abbrev pub Goes : List Task → List ℕ → List ℕ → Type 0
  Goes tasks out whole = (v : List ℕ) × Pending tasks v × (whole ≡ out ++ v)

  node_goes : (out out' : List ℕ) (q : ℕ) (qs : Parts) (ks : List ℕ) (mid new : List Task) (u whole : List ℕ) → AreOpen q (items p.text q) qs ks → Pending mid u → (out' ≡ out ++ (codes "(" ++ decimal (suc q))) × IsOpened q (items p.text q) ks mid new → whole ≡ out ++ (node_text q (parts_text p q (items p.text q) qs) ++ u) → Goes new out' whole
  node_goes out out' q qs ks mid new u whole fitting pending (is, o) e = (
    rest_text q (items p.text q) qs ++ u,
    opened q (items p.text q) ks qs mid new u fitting o pending,
    e ∙ node_is out (codes "(") (decimal (suc q)) (parts_text p q (items p.text q) qs) (codes ")") u ∙ ap (λ (l : List ℕ). l ++ (rest_text q (items p.text q) qs ++ u)) (sym is),
  )

  word_goes : (out out' label x y more u : List ℕ) (mid new : List Task) → Pending mid ((more ++ codes ")") ++ u) → (out' ≡ (out ++ label) ++ quoted p.names y) × (new ≡ mid) → y ≡ x → Goes new out' (out ++ ((((label ++ quoted p.names x) ++ more) ++ codes ")") ++ u))
  word_goes out out' label x y more u mid new pending (is, same) r = (
    (more ++ codes ")") ++ u,
    subst (λ (l : List Task). Pending l ((more ++ codes ")") ++ u)) (sym same) pending,
    word_is out label (quoted p.names x) more (codes ")") u
        ∙ ap (λ (l : List ℕ). l ++ ((more ++ codes ")") ++ u)) (ap (λ (v : List ℕ). (out ++ label) ++ quoted p.names v) (sym r) ∙ sym is),
  )

  pub done_goes : HasSlotNames p → (rule : ℕ) (is : List GItem) (ps : Parts) (vs : List ℕ) (old new : List Task) (out out' u : List ℕ) → AreOpen rule is ps vs → Pending old u → IsDone p w spelt rule is vs old out new out' → Goes new out' (out ++ (rest_text rule is ps ++ u))
  done_goes names rule [] ps vs old new out out' u fitting pending (is, same) =
      (u, subst (λ (l : List Task). Pending l u) (sym same) pending, sym (append_assoc out (codes ")") u) ∙ ap (λ (l : List ℕ). l ++ u) (sym is))
  done_goes names rule (Fixed f ∷ is) (fixed x ps) vs old new out out' u ((fits, more), at, (named, later)) pending (written, o) =
      (rest_text rule is ps ++ u, opened rule is vs ps old new u (more, at, later) o pending, ap (λ (l : List ℕ). l ++ (rest_text rule is ps ++ u)) (sym written))
  done_goes names rule (Term t s ∷ is) (leaf x ps) vs old new out out' u ((fits, more), (v, i, j, us, e, at, r, rest), (named, later)) pending d =
      let h = subst (λ l. IsKidWritten p w spelt rule (Term t s) is l old out new out') e d in
      let there = part_there spelt v (Leaf i j) at in
      let written = subst (λ o. IsWritten p w o h.0 (out ++ label p rule (Term t s)) new out') there h.2 in
      word_goes out out' (label p rule (Term t s)) x (slice_range w i j) (parts_text p rule is ps) u h.0 new (opened rule is us ps old h.0 u (more, rest, later) h.1 pending) written r
  done_goes names rule (Ignored k ∷ is) (skip x ps) vs old new out out' u ((fits, more), (v, i, j, us, e, at, r, rest), (named, later)) pending d =
      let h = subst (λ l. IsKidWritten p w spelt rule (Ignored k) is l old out new out') e d in
      let there = part_there spelt v (Skip i j) at in
      let written = subst (λ o. IsWritten p w o h.0 (out ++ label p rule (Ignored k)) new out') there h.2 in
      word_goes out out' (label p rule (Ignored k)) x (slice_range w i j) (parts_text p rule is ps) u h.0 new (opened rule is us ps old h.0 u (more, rest, later) h.1 pending) written r
  done_goes names rule (Non n s ∷ is) (sub q qs ps) vs old new out out' u ((rule_of, inner, more), (v, ks, us, e, at, inside, rest), (named, later)) pending d =
      let h = subst (λ l. IsKidWritten p w spelt rule (Non n s) is l old out new out') e d in
      let there = part_there spelt v (Node q ks) at in
      let written = subst (λ o. IsWritten p w o h.0 (out ++ label p rule (Non n s)) new out') there h.2 in
      let after : List ℕ = rest_text rule is ps ++ u in
      let text : List ℕ = node_text q (parts_text p q (items p.text q) qs) in
      node_goes (out ++ label p rule (Non n s)) out' q qs ks h.0 new after (out ++ (rest_text rule (Non n s ∷ is) (sub q qs ps) ++ u)) (inner, inside, names q rule_of.0) (opened rule is us ps old h.0 u (more, rest, later) h.1 pending) written
      (inner_is out (label p rule (Non n s)) text (parts_text p rule is ps) (codes ")") u)
  done_goes names rule (item ∷ is) ps vs old new out out' u (fits, at, named) pending d = absurd fits

  -- what is still to be written of the line
  abbrev pub Remains : List Task → List ℕ → Type 0
  Remains tasks out = (d : Derivation) → Derives p.text w d → IsSpeltOf w spelt d → (v : List ℕ) × Pending tasks v × (derivation_line p d ≡ out ++ (v ++ codes "\n"))

  pub remains_next : HasSlotNames p → (old tasks new : List Task) (task : Task) (out out' : List ℕ) → Remains old out → old ≡ tasks ++ task ∷ [] → IsDone p w spelt task.rule task.items.now task.kids.now tasks out new out' → Remains new out'
  remains_next names old tasks new task out out' remains popped is d derives spelled =
      let r = remains d derives spelled in
      let n = next_of tasks task r.0 (subst (λ l. Pending l r.0) popped r.1) in
      let g = done_goes names task.rule task.items.now n.2.0 task.kids.now tasks new out out' n.1 n.2.1 n.3 is in
      let text : n.0 ≡ rest_text task.rule task.items.now n.2.0 = n.2.2 in
      let so : derivation_line p d ≡ out ++ ((n.0 ++ n.1) ++ codes "\n") = r.2 ∙ ap (λ (l : List ℕ). out ++ (l ++ codes "\n")) n.4 in
      (g.0, g.1, so ∙ ap (λ (l : List ℕ). out ++ ((l ++ n.1) ++ codes "\n")) text ∙ sym (append_assoc out _ (codes "\n")) ∙ ap (λ (l : List ℕ). l ++ codes "\n") g.2 ∙ append_assoc out' g.0 (codes "\n"))

  pub next_can : HasSlotNames p → IsSpelt p w spelt → (old tasks : List Task) (task : Task) (out : List ℕ) → Remains old out → old ≡ tasks ++ task ∷ [] → CanDo p w spelt task.rule task.items.now task.kids.now
  next_can names (d, derives, spelled) old tasks task out remains popped =
      let r = remains d derives spelled in
      let n = next_of tasks task r.0 (subst (λ l. Pending l r.0) popped r.1) in
      can_do names spelled.in_order task.rule task.items.now n.2.0 task.kids.now n.2.1

  pub remains_none : (tasks : List Task) (out line : List ℕ) → Remains tasks out → tasks ≡ [] → line ≡ out ++ 10 ∷ [] → IsLineOf p w spelt line
  remains_none tasks out line remains empty is d derives spelled =
      let r = remains d derives spelled in
      let nothing : r.0 ≡ [] = subst (λ l. Pending l r.0) empty r.1 in
      is ∙ sym (r.2 ∙ ap (λ (l : List ℕ). out ++ (l ++ codes "\n")) nothing)

  root_there : (d : Derivation) → (h : IsSpeltOf w spelt d) → slice_get spelt (length spelt - 1) ≡ Some (Node d.rule h.kids)
  root_there d h = subst (λ (l : List SpeltPart). slice_get l (length l - 1) ≡ Some (Node d.rule h.kids)) (sym h.root_last) (last_there h.before (Node d.rule h.kids))

  pub root_can : IsSpelt p w spelt → (root : SpeltPart) → slice_get spelt (length spelt - 1) ≡ Some root → CanWrite p w (Some root)
  root_can (d, derives, spelled) root is =
      subst (λ o. CanWrite p w o) (sym (root_there d spelled) ∙ is) derives.0.0.0

  pub spelt_long : IsSpelt p w spelt → 0 < length spelt
  spelt_long (d, derives, spelled) =
      let same : length spelt ≡ length (spelled.before ++ Node d.rule spelled.kids ∷ []) = ap length spelled.root_last in
      let long : length (spelled.before ++ Node d.rule spelled.kids ∷ []) ≡ length spelled.before + 1 = length-append spelled.before (Node d.rule spelled.kids ∷ []) in
      omega (arith, same, long)

  pub remains_first : HasSlotNames p → (root : SpeltPart) (old new : List Task) (out out' : List ℕ) → slice_get spelt (length spelt - 1) ≡ Some root → old ≡ [] → out ≡ [] → IsWritten p w (Some root) old out new out' → Remains new out'
  remains_first names root old new out out' is empty nothing written d derives spelled =
      let there = sym is ∙ root_there d spelled in
      let h = subst (λ o. IsWritten p w o old out new out') there written in
      let text : List ℕ = node_text d.rule (parts_text p d.rule (items p.text d.rule) d.parts) in
      let g = node_goes out out' d.rule d.parts spelled.kids old new [] text (derives.0.1, spelled.kids_at, names d.rule derives.0.0.0) (subst (λ (l : List Task). Pending l []) (sym empty) refl) h (sym (append-nil text) ∙ ap (λ (l : List ℕ). l ++ (text ++ [])) (sym nothing)) in
      (g.0, g.1, ap (λ (l : List ℕ). l ++ codes "\n") g.2 ∙ append_assoc out' g.0 (codes "\n"))
