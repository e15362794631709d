-- What a path of the net reads is loose: by induction on the length of words, and for one length by
-- recursion on how items are laid.
use Rattle.std.proofs.Common.{◌≡◌, ◌⊎◌, ℕ, zero, suc, ◌+◌, ◌*◌, ◌<◌, ◌≤◌, List, [], ◌∷◌, ◌++◌, length, refl, sym, ap, subst, ◌∙◌, inl, inr, arith, append_assoc, append-nil, length-append, Some}
use Rattle.std.proofs.lemmas.Bool.{cases_lt}
use Rattle.xs_regex.specs.declared.position.Position.{Position}
use Rattle.xs_regex.specs.Automaton as R
use Rattle.xs_auto.specs.Nets.{Graph}
use Rattle.xs_auto.specs.Nests.{Group, AcceptsNested, Crossing, stands, drifts, takes, enters}
use Rattle.xs_gram.specs.declared.parts.GItem.{GItem}
use Rattle.xs_gram.specs.declared.parts.GItem.TheVariants.{Fixed, Term, Non, Skip}
use Rattle.xs_gram.specs.Grammar.{Grammar, rule_of, term_of, skip_of}
use Rattle.xs_gram.specs.Sound.{IsBuilt}
use Rattle.xs_gram.specs.Building.{NamesAreThere}
use Rattle.xs_gram.specs.Fences.{spread, IsLevel, level_none, level_then, level_group, grouped, OuterAt, GroupAt, OuterGroupAt}
use Rattle.xs_gram.specs.Loose.{Spot, entry, exit, at, AreOne, IsMember, LooseItem, loose_fixed, loose_term, loose_skip, loose_non, IsLoose, loose_none, loose_then, loose_group, Step, Walk}
use Rattle.xs_gram.specs.Loose as L
use Rattle.xs_gram.proofs.Levels.{group_split, length_grouped, level_append, outer_at}
use Rattle.xs_gram.proofs.Spreading.{spread_names}
use Rattle.xs_check_laws.specs.Weights.{Members, no_member, member_next, other_next}
use Rattle.xs_check_laws.proofs.Walks.{one_same}
use Rattle.xs_loose.specs.Arcs.{Label, reads, passes, calls, Arc, read, pass, call, automaton_arcs, after_automaton}
use Rattle.xs_loose.specs.Groups.{group_number}
use Rattle.xs_loose.specs.Laying.{entry_state, exit_state, LaysItem, lays_fixed, lays_term, lays_skip, lays_non, LaysComponent, lays_component, LaysRules, lays_no_rule, lays_rule, lays_other_rule, LaysBody, lays_no_body, lays_member, lays_other, lays_group, LaysPart, part_none, part_then, part_group}
use Rattle.xs_loose.specs.Nets.{IsNumbered, IsNestOf}
use Rattle.xs_loose.specs.Parts.{IsStretch}
use Rattle.xs_loose.specs.Laws.{NetsAcceptLoose}
use Rattle.xs_loose.proofs.Among.{Among, front, further, nothing, first_or_rest, among_left, among_right, among_either, of_contains}
use Rattle.xs_loose.proofs.Paths.{Path, stays, goes, path_one, path_map_within}
use Rattle.xs_loose.proofs.Along.{Reads, Along}
use Rattle.xs_check_laws.proofs.Weights.{members_once}
use Rattle.xs_loose.proofs.Finding.{SameGroup, group_once}
use Rattle.xs_loose.proofs.Spelling.{Stands, first_named, after_item, after_group, group_here, inside_stands, loose_is_accepted}
use Rattle.xs_loose.proofs.Cells.{Cell, IsIn, point, Chain, chain_rises, chain_within, chain_once, chain_on, IsFine, point_fine, LaidArc, jumps, rests, CellBefore, AreCells, cells_reached}
use Rattle.xs_loose.proofs.Pieces.{Short, Leads, ends_lead, word_ends, after_in, first_arc, in_turn, empty_path, word_read, automaton_ends, automaton_read}

walk_of : {g : Grammar} {c : ℕ} {x y : Spot} {w : List ℕ} → Path (Step g c) x w y → Walk g c x w y
walk_of stays = L.stays
walk_of (goes t p e) = L.goes t (walk_of p) e

-- members below a member are fewer than all
members_less : {g : Grammar} {c bound count n j : ℕ} → Members g c bound count → Members g c n j → AreOne g c n → n < bound → j < count
members_less no_member m one lt = absurd (omega arith)
members_less {g} {c} {n = n} {j = j} (member_next {n = b} {k = k} a all) m one lt = elim (cases_lt n b) [
  | inl low ↦ let h = members_less all m one low in omega (arith, h)
  | inr high ↦ let e : n ≡ b = omega arith in let same : j ≡ k = members_once (subst (λ (x : ℕ). Members g c x j) e m) all in omega (arith, same)
]
members_less {g} {c} {n = n} (other_next {n = b} a all) m one lt = elim (cases_lt n b) [
  | inl low ↦ members_less all m one low
  | inr high ↦ let e : n ≡ b = omega arith in absurd (a (subst (λ (x : ℕ). AreOne g c x) e one))
]

members_same : {g : Grammar} {c m n j k : ℕ} → Members g c m j → Members g c n k → AreOne g c m → AreOne g c n → j ≡ k → m ≡ n
members_same {m = m} {n = n} a b x y e = elim (cases_lt m n) [
  | inl less ↦ absurd (let h = members_less b a x less in omega (arith, e, h))
  | inr least ↦ elim (cases_lt n m) [
    | inl more ↦ absurd (let h = members_less a b y more in omega (arith, e, h))
    | inr most ↦ omega arith
  ]
]

some_same : {x y : Group} → Some x ≡ Some y → x ≡ y
some_same e = cc

-- what groups of shorter words accept is loose
abbrev IsSoundBelow : Grammar → List Group → ℕ → Type 0
IsSoundBelow g nest k = (p j : ℕ) (inside : List GItem) (content : Graph) → IsStretch g p j inside → IsNumbered g p j inside content → (u : List ℕ) → length u < k → AcceptsNested nest content u → IsLoose g inside u

-- the cells of members: the entry and the exit of each
data MemberCell (g : Grammar) (c first count : ℕ) (z : Cell) : Type 0 where
  entry_cell : (m j : ℕ) → AreOne g c m → Members g c m j → j < count → z ≡ point (entry m) (entry_state first j) → MemberCell g c first count z
  exit_cell : (m j : ℕ) → AreOne g c m → Members g c m j → j < count → z ≡ point (exit m) (exit_state first j) → MemberCell g c first count z

module _ (g : Grammar) (built : IsBuilt g) (nest : List Group) (nested : IsNestOf g nest) (k : ℕ) (sound : IsSoundBelow g nest k) where
  abbrev T : List Arc → ℕ → List ℕ → ℕ → Type 0
  T arcs a w b = Short nest k arcs a w b

  none : (a : ℕ) (w : List ℕ) (b : ℕ) → T [] a w b → ⊥
  none a w b t = nothing t.along.arc

  -- what is read of a group is its fence round a loose word
  record GroupRead (l r : ℕ) (inside : List GItem) (w : List ℕ) : Type 0 where
    content : List ℕ
    loose : IsLoose g inside content
    word : w ≡ l ∷ (content ++ r ∷ [])

  call_read : {p j m l r : ℕ} {inside : List GItem} {w : List ℕ} → p < length g.rules → GroupAt g.fences (spread g p) j m l inside r → Reads nest (calls (group_number g p j)) w → length w ≤ k → GroupRead l r inside w
  call_read {p} {j} {m} {l} {r} {inside} {w} rule here entered short =
      let found = nested.there p j m l r inside rule here in
      let one : entered.group ≡ found.0 = some_same (sym entered.is ∙ found.1) in
      let same : SameGroup l (found.0).left inside found.2.inside r (found.0).right = group_once built.proper.once here found.2.at in
      let left : l ≡ entered.group.left = same.left ∙ ap (λ (x : Group). x.left) (sym one) in
      let right : r ≡ entered.group.right = same.right ∙ ap (λ (x : Group). x.right) (sym one) in
      let place : Stands g p (suc j) inside = inside_stands here in
      let stretch : IsStretch g p (suc j) inside = record { rule = rule; before = place.before; after = place.after; split = place.split; place = place.place; level = here.within } in
      let numbered : IsNumbered g p (suc j) inside (found.0).content = subst (λ (x : List GItem). IsNumbered g p (suc j) x (found.0).content) (sym same.inside) found.2.content in
      let accepts : AcceptsNested nest (found.0).content entered.content = subst (λ (x : Group). AcceptsNested nest x.content entered.content) one entered.accepts in
      let less : length entered.content < k = omega (arith, short, ap length entered.word, length-append entered.content (entered.group.right ∷ [])) in
      record {
        content = entered.content;
        loose = sound p (suc j) inside (found.0).content stretch numbered entered.content less accepts;
        word = entered.word ∙ ap (λ (n : ℕ). n ∷ (entered.content ++ entered.group.right ∷ [])) (sym left) ∙ ap (λ (n : ℕ). l ∷ (entered.content ++ n ∷ [])) (sym right);
      }

  -- the two states of a group
  group_leads : (h before start : ℕ) → Leads nest k (call before h start ∷ pass start (suc start) ∷ []) before start (suc (suc start))
  group_leads h before start a w b t = elim (first_or_rest t.along.arc) [
    | inl e ↦ (inl (sym (ap (λ (x : Arc). x.from) e)), near (ap (λ (x : Arc). x.to) e))
    | inr later ↦ elim (first_or_rest later) [
      | inl e ↦ let f : start ≡ a = ap (λ (x : Arc). x.from) e in let o : suc start ≡ b = ap (λ (x : Arc). x.to) e in (inr (omega (arith, f), omega (arith, f)), (omega (arith, o), omega (arith, o)))
      | inr past ↦ absurd (nothing past)
    ]
  ]
    where
      near : start ≡ b → (start ≤ b) × (b < suc (suc start))
      near o = (omega (arith, o), omega (arith, o))

  two_leads : (h before start : ℕ) → (c : ℕ) (v : List ℕ) (d : ℕ) → T (pass start (suc start) ∷ []) c v d → (start ≤ c) × (start ≤ d)
  two_leads h before start c v d t = elim (first_or_rest t.along.arc) [
    | inl e ↦ let f : start ≡ c = ap (λ (x : Arc). x.from) e in let o : suc start ≡ d = ap (λ (x : Arc). x.to) e in (omega (arith, f), omega (arith, o))
    | inr past ↦ absurd (nothing past)
  ]

  group_read : {p j m l r before start : ℕ} {inside : List GItem} {w : List ℕ} → p < length g.rules → GroupAt g.fences (spread g p) j m l inside r → before < start → Path (T (call before (group_number g p j) start ∷ pass start (suc start) ∷ [])) before w (suc start) → GroupRead l r inside w
  group_read {p} {j} {before = before} {start = start} {w = w} rule here below path =
      let one = first_arc nest k {x = call before (group_number g p j) start} {rest = pass start (suc start) ∷ []} {s = before} {low = start} below refl (omega arith) (two_leads 0 before start) (omega arith) path in
      let two = first_arc nest k {x = pass start (suc start)} {rest = []} {s = start} {low = suc start} (omega arith) refl (omega arith) (λ c v d t. absurd (none c v d t)) (omega arith) one.path in
      let rest : one.later ≡ [] = two.word ∙ ap (λ (x : List ℕ). x ++ two.later) two.reads_own ∙ empty_path nest k two.path in
      let h = call_read rule here one.reads_own one.short in
      record { content = h.content; loose = h.loose; word = one.word ∙ ap (λ (x : List ℕ). one.own ++ x) rest ∙ append-nil one.own ∙ h.word }

  names : (p : ℕ) {j : ℕ} {i : GItem} → OuterAt g.fences (spread g p) j i → NamesAreThere g i
  names p {j} {i} o = spread_names g built.range p j i (outer_at o)

  -- what is known of an item that is laid: where its arcs lead, and that what is read through it is
  -- loose
  record ItemSound (i : GItem) (before start after next : ℕ) (arcs : List Arc) : Type 0 where
    leads : Leads nest k arcs before start next
    low : start ≤ after
    high : after < next
    read : (w : List ℕ) → Path (T arcs) before w after → LooseItem g i w

  sound_as : {i : GItem} {before start after next end stop : ℕ} {arcs own : List Arc} → arcs ≡ own → after ≡ end → next ≡ stop → ItemSound i before start end stop own → ItemSound i before start after next arcs
  sound_as {i} {before} {start} {after} {next} {end} {stop} {arcs} {own} e a n h =
      subst (λ (x : List Arc). ItemSound i before start after next x) (sym e) (subst (λ (x : ℕ). ItemSound i before start x next own) (sym a) (subst (λ (x : ℕ). ItemSound i before start end x own) (sym n) h))

  -- the same of a component
  record ComponentSound (c first next : ℕ) (arcs : List Arc) : Type 0 where
    bounds : (a : ℕ) (w : List ℕ) (b : ℕ) → T arcs a w b → ((first ≤ a) × (a < next)) × ((first ≤ b) × (b < next))
    member : (m j : ℕ) → AreOne g c m → Members g c m j → m < g.nons → exit_state first j < next
    read : (j : ℕ) (w : List ℕ) → Members g c c j → c < g.nons → Path (T arcs) (entry_state first j) w (exit_state first j) → Walk g c (entry c) w (exit c)

  abbrev Fine : ℕ → Cell → Type 0
  Fine c z = IsFine T (Step g c) none z

  -- the cells of the items of a body, after the cell of the place before the first of them
  record BodySound (c first count p after at_start next : ℕ) (arcs : List Arc) (y0 : Cell) : Type 0 where
    cells : List Cell
    chain : Chain at_start cells next
    fine : (z : Cell) → Among cells z → Fine c z
    before : (z : Cell) (a : ℕ) (w : List ℕ) (b : ℕ) → Among cells z → T z.arcs a w b → CellBefore T (Step g c) none (λ (y : Cell). (y ≡ y0) ⊎ Among cells y) z
    last : Cell
    last_is : (last ≡ y0) ⊎ Among cells last
    last_state : last.state ≡ after
    last_target : last.target ≡ at p (length (spread g p))
    laid : (a : ℕ) (w : List ℕ) (b : ℕ) → T arcs a w b → LaidArc T (Step g c) none (λ (y : Cell). MemberCell g c first count y ⊎ ((y ≡ y0) ⊎ Among cells y)) a w b

  -- the cells of rules
  record RulesSound (c first count start next : ℕ) (arcs : List Arc) : Type 0 where
    cells : List Cell
    chain : Chain start cells next
    fine : (z : Cell) → Among cells z → Fine c z
    before : (z : Cell) (a : ℕ) (w : List ℕ) (b : ℕ) → Among cells z → T z.arcs a w b → CellBefore T (Step g c) none (λ (y : Cell). Among cells y) z
    laid : (a : ℕ) (w : List ℕ) (b : ℕ) → T arcs a w b → LaidArc T (Step g c) none (λ (y : Cell). MemberCell g c first count y ⊎ Among cells y) a w b

  -- a member's cell, or one of these
  abbrev IsPlace : ℕ → ℕ → ℕ → List Cell → Cell → Type 0
  IsPlace c first count cells y = MemberCell g c first count y ⊎ Among cells y

  wider : {c a b : ℕ} {w : List ℕ} {P Q : Cell → Type 0} → ((z : Cell) → P z → Q z) → LaidArc T (Step g c) none P a w b → LaidArc T (Step g c) none Q a w b
  wider f (jumps y z p q e s t go) = jumps y z (f y p) (f z q) e s t go
  wider f (rests z p t) = rests z (f z p) t

  before_wider : {c : ℕ} {z : Cell} {P Q : Cell → Type 0} → ((y : Cell) → P y → Q y) → CellBefore T (Step g c) none P z → CellBefore T (Step g c) none Q z
  before_wider f h = record { cell = h.cell; is = f h.cell h.is; state = h.state; target = h.target }

  -- an empty move between two cells
  jump : {c a b s t : ℕ} {w : List ℕ} {label : Label} {P : Cell → Type 0} (y z : Cell) → P y → P z → z.arcs ≡ [] → y.state ≡ s → z.state ≡ t → Step g c y.target [] z.target → pass s t ≡ (record { from = a; label = label; to = b }) → Reads nest label w → LaidArc T (Step g c) none P a w b
  jump {c} {w = w} {label = label} y z p q e s t go same r =
      let read : w ≡ [] = subst (λ (l : Label). Reads nest l w) (sym (ap (λ (x : Arc). x.label) same)) r in
      jumps y z p q e (sym (ap (λ (x : Arc). x.from) same) ∙ sym s) (sym (ap (λ (x : Arc). x.to) same) ∙ sym t) (subst (λ (l : List ℕ). Step g c y.target l z.target) (sym read) go)

  own_of : {xs ys : List Arc} {a b : ℕ} {w : List ℕ} (t : T xs a w b) → Among ys (record { from = a; label = t.along.label; to = b }) → T ys a w b
  own_of t h = record { along = record { label = t.along.label; arc = h; reads_word = t.along.reads_word }; short = t.short }

  as_list : {xs ys : List Arc} {a b : ℕ} {w : List ℕ} → xs ≡ ys → T xs a w b → T ys a w b
  as_list {a = a} {b = b} {w = w} e t = subst (λ (l : List Arc). T l a w b) e t

  -- one more cell before those of the rest of a body
  body_joined : (c first count p after start middle next : ℕ) {arcs : List Arc} (head rest : List Arc) (y0 z1 : Cell) → arcs ≡ head ++ rest → z1.low ≡ start → z1.low ≤ z1.high → z1.high ≡ middle → Fine c z1 → ((a : ℕ) (w : List ℕ) (b : ℕ) → T z1.arcs a w b → CellBefore T (Step g c) none (λ (y : Cell). y ≡ y0) z1) → ((a : ℕ) (w : List ℕ) (b : ℕ) → T head a w b → LaidArc T (Step g c) none (λ (y : Cell). MemberCell g c first count y ⊎ ((y ≡ y0) ⊎ (y ≡ z1))) a w b) → BodySound c first count p after middle next rest z1 → BodySound c first count p after start next arcs y0
  body_joined c first count p after start middle next {arcs} head rest y0 z1 e low rise high own own_before own_laid r = record {
    cells = z1 ∷ r.cells;
    chain = (low, rise, subst (λ (n : ℕ). Chain n r.cells next) (sym high) r.chain);
    fine = fine;
    before = before;
    last = r.last;
    last_is = inr (shift r.last r.last_is);
    last_state = r.last_state;
    last_target = r.last_target;
    laid = laid;
  }
    where
      here : (y : Cell) → y ≡ z1 → Among (z1 ∷ r.cells) y
      here y q = subst (λ (x : Cell). Among (z1 ∷ r.cells) x) (sym q) (front refl)

      shift : (y : Cell) → (y ≡ z1) ⊎ Among r.cells y → Among (z1 ∷ r.cells) y
      shift y (inl q) = here y q
      shift y (inr h) = further h

      fine : (z : Cell) → Among (z1 ∷ r.cells) z → Fine c z
      fine z h = elim (first_or_rest h) [ inl q ↦ subst (λ (x : Cell). Fine c x) q own | inr later ↦ r.fine z later ]

      before : (z : Cell) (a : ℕ) (w : List ℕ) (b : ℕ) → Among (z1 ∷ r.cells) z → T z.arcs a w b → CellBefore T (Step g c) none (λ (y : Cell). (y ≡ y0) ⊎ Among (z1 ∷ r.cells) y) z
      before z a w b h t = elim (first_or_rest h) [
        | inl q ↦ subst (λ (x : Cell). CellBefore T (Step g c) none (λ (y : Cell). (y ≡ y0) ⊎ Among (z1 ∷ r.cells) y) x) q (before_wider (λ y s. inl s) (own_before a w b (subst (λ (x : Cell). T x.arcs a w b) (sym q) t)))
        | inr later ↦ before_wider (λ y s. inr (shift y s)) (r.before z a w b later t)
      ]

      of_own : (y : Cell) → MemberCell g c first count y ⊎ ((y ≡ y0) ⊎ (y ≡ z1)) → MemberCell g c first count y ⊎ ((y ≡ y0) ⊎ Among (z1 ∷ r.cells) y)
      of_own y (inl m) = inl m
      of_own y (inr (inl q)) = inr (inl q)
      of_own y (inr (inr q)) = inr (inr (here y q))

      of_rest : (y : Cell) → MemberCell g c first count y ⊎ ((y ≡ z1) ⊎ Among r.cells y) → MemberCell g c first count y ⊎ ((y ≡ y0) ⊎ Among (z1 ∷ r.cells) y)
      of_rest y (inl m) = inl m
      of_rest y (inr s) = inr (inr (shift y s))

      laid : (a : ℕ) (w : List ℕ) (b : ℕ) → T arcs a w b → LaidArc T (Step g c) none (λ (y : Cell). MemberCell g c first count y ⊎ ((y ≡ y0) ⊎ Among (z1 ∷ r.cells) y)) a w b
      laid a w b t = by_list (as_list e t)
        where
          by_list : T (head ++ rest) a w b → LaidArc T (Step g c) none (λ (y : Cell). MemberCell g c first count y ⊎ ((y ≡ y0) ⊎ Among (z1 ∷ r.cells) y)) a w b
          by_list u = elim (among_either head rest u.along.arc) [
            | inl left ↦ wider of_own (own_laid a w b (own_of u left))
            | inr right ↦ wider of_rest (r.laid a w b (own_of u right))
          ]

  -- the cells of one more rule after those of the rules before it
  rule_joined : (c first count p j start place last next : ℕ) {arcs : List Arc} (before own : List Arc) → AreOne g c (rule_of g p).non → Members g c (rule_of g p).non j → Members g c g.nons count → p < length g.rules → arcs ≡ before ++ pass (entry_state first j) place ∷ (own ++ pass last (exit_state first j) ∷ []) → RulesSound c first count start place before → BodySound c first count p last (suc place) next own (point (at p 0) place) → RulesSound c first count start next arcs
  rule_joined c first count p j start place last next {arcs} before own one counted members low e r b = record {
    cells = r.cells ++ ((point (at p 0) place) ∷ b.cells);
    chain = chain_on start place next r.cells ((point (at p 0) place) ∷ b.cells) r.chain (refl, omega arith, b.chain);
    fine = fine;
    before = before_cell;
    laid = laid;
  }
    where
      less : j < count
      less = members_less members counted one (built.range.rules p low)

      left : (y : Cell) → Among r.cells y → Among (r.cells ++ ((point (at p 0) place) ∷ b.cells)) y
      left y h = among_left r.cells ((point (at p 0) place) ∷ b.cells) h

      right : (y : Cell) → (y ≡ (point (at p 0) place)) ⊎ Among b.cells y → Among (r.cells ++ ((point (at p 0) place) ∷ b.cells)) y
      right y (inl q) = among_right r.cells ((point (at p 0) place) ∷ b.cells) (front (sym q))
      right y (inr h) = among_right r.cells ((point (at p 0) place) ∷ b.cells) (further h)

      fine : (z : Cell) → Among (r.cells ++ ((point (at p 0) place) ∷ b.cells)) z → Fine c z
      fine z h = elim (among_either r.cells ((point (at p 0) place) ∷ b.cells) h) [
        | inl m ↦ r.fine z m
        | inr m ↦ elim (first_or_rest m) [ inl q ↦ subst (λ (x : Cell). Fine c x) q (point_fine T (Step g c) none (at p 0) place) | inr later ↦ b.fine z later ]
      ]

      before_cell : (z : Cell) (a : ℕ) (w : List ℕ) (d : ℕ) → Among (r.cells ++ ((point (at p 0) place) ∷ b.cells)) z → T z.arcs a w d → CellBefore T (Step g c) none (λ (y : Cell). Among (r.cells ++ ((point (at p 0) place) ∷ b.cells)) y) z
      before_cell z a w d h t = elim (among_either r.cells ((point (at p 0) place) ∷ b.cells) h) [
        | inl m ↦ before_wider left (r.before z a w d m t)
        | inr m ↦ elim (first_or_rest m) [
          | inl q ↦ absurd (none a w d (subst (λ (x : Cell). T x.arcs a w d) (sym q) t))
          | inr later ↦ before_wider right (b.before z a w d later t)
        ]
      ]

      of_left : (y : Cell) → MemberCell g c first count y ⊎ Among r.cells y → IsPlace c first count (r.cells ++ ((point (at p 0) place) ∷ b.cells)) y
      of_left y (inl m) = inl m
      of_left y (inr h) = inr (left y h)

      of_right : (y : Cell) → MemberCell g c first count y ⊎ ((y ≡ (point (at p 0) place)) ⊎ Among b.cells y) → IsPlace c first count (r.cells ++ ((point (at p 0) place) ∷ b.cells)) y
      of_right y (inl m) = inl m
      of_right y (inr h) = inr (right y h)

      step_in : Step g c (entry (rule_of g p).non) [] (at p 0)
      step_in = L.begins (low, refl) one

      step_out : Step g c b.last.target [] (exit (rule_of g p).non)
      step_out = subst (λ (x : Spot). Step g c x [] (exit (rule_of g p).non)) (sym b.last_target) (L.ends (low, refl) one refl)

      laid : (a : ℕ) (w : List ℕ) (d : ℕ) → T arcs a w d → LaidArc T (Step g c) none (IsPlace c first count (r.cells ++ ((point (at p 0) place) ∷ b.cells))) a w d
      laid a w d t = by_list (as_list e t)
        where
          by_list : T (before ++ pass (entry_state first j) place ∷ (own ++ pass last (exit_state first j) ∷ [])) a w d → LaidArc T (Step g c) none (IsPlace c first count (r.cells ++ ((point (at p 0) place) ∷ b.cells))) a w d
          by_list u = elim (among_either before (pass (entry_state first j) place ∷ (own ++ pass last (exit_state first j) ∷ [])) u.along.arc) [
            | inl h ↦ wider of_left (r.laid a w d (own_of u h))
            | inr h ↦ elim (first_or_rest h) [
              | inl q ↦ jump (point (entry (rule_of g p).non) (entry_state first j)) (point (at p 0) place) (inl (entry_cell (rule_of g p).non j one counted less refl)) (inr (right (point (at p 0) place) (inl refl))) refl refl refl step_in q u.along.reads_word
              | inr later ↦ elim (among_either own (pass last (exit_state first j) ∷ []) later) [
                | inl m ↦ wider of_right (b.laid a w d (own_of u m))
                | inr m ↦ elim (first_or_rest m) [
                  | inl q ↦ jump b.last (point (exit (rule_of g p).non) (exit_state first j)) (inr (right b.last b.last_is)) (inl (exit_cell (rule_of g p).non j one counted less refl)) refl b.last_state refl step_out q u.along.reads_word
                  | inr past ↦ absurd (nothing past)
                ]
              ]
            ]
          ]

  -- the moves to a member and from it
  member_laid : (c first count p j n s i before start : ℕ) (y0 : Cell) → p < length g.rules → AreOne g c (rule_of g p).non → OuterAt g.fences (spread g p) j (Non n s) → AreOne g c n → Members g c n i → Members g c g.nons count → y0.target ≡ at p j → y0.state ≡ before → (a : ℕ) (w : List ℕ) (b : ℕ) → T (pass before (entry_state first i) ∷ pass (exit_state first i) start ∷ []) a w b → LaidArc T (Step g c) none (λ (y : Cell). MemberCell g c first count y ⊎ ((y ≡ y0) ⊎ (y ≡ point (at p (suc j)) start))) a w b
  member_laid c first count p j n s i before start y0 rule one there two counted members target state a w b t = elim (first_or_rest t.along.arc) [
    | inl q ↦ jump y0 (point (entry n) (entry_state first i)) (inr (inl refl)) (inl (entry_cell n i two counted less refl)) refl state refl step_in q t.along.reads_word
    | inr later ↦ elim (first_or_rest later) [
      | inl q ↦ jump (point (exit n) (exit_state first i)) (point (at p (suc j)) start) (inl (exit_cell n i two counted less refl)) (inr (inr refl)) refl refl refl (L.returns {m = (rule_of g p).non} {s = s} (rule, refl) one there two) q t.along.reads_word
      | inr past ↦ absurd (nothing past)
    ]
  ]
    where
      less : i < count
      less = members_less members counted two (names p there)

      step_in : Step g c y0.target [] (entry n)
      step_in = subst (λ (x : Spot). Step g c x [] (entry n)) (sym target) (L.calls {m = (rule_of g p).non} {s = s} (rule, refl) one there two)

  -- the cell of an item that is no member, and that of a group
  abbrev block : Spot → Spot → ℕ → ℕ → ℕ → ℕ → List Arc → Cell
  block source target before state low high arcs = record { source = source; target = target; before = before; state = state; low = low; high = high; arcs = arcs }

  item_fine : (c p j before start between high : ℕ) (i : GItem) (own : List Arc) → p < length g.rules → AreOne g c (rule_of g p).non → OuterAt g.fences (spread g p) j i → (IsMember g c i → ⊥) → ItemSound i before start between high own → Fine c (block (at p j) (at p (suc j)) before between start high own)
  item_fine c p j before start between high i own rule one there apart s = record {
    inside = (s.low, s.high);
    from = λ a w b t. (s.leads a w b t).0;
    to = λ a w b t. (s.leads a w b t).1;
    through = λ w path. path_one (L.passes {m = (rule_of g p).non} {i = i} (rule, refl) one there apart (s.read w path));
  }

  abbrev group_arcs : ℕ → ℕ → ℕ → ℕ → List Arc
  group_arcs p j before start = call before (group_number g p j) start ∷ pass start (suc start) ∷ []

  group_fine : (c p j m l r before start : ℕ) (inside : List GItem) → p < length g.rules → AreOne g c (rule_of g p).non → OuterGroupAt g.fences (spread g p) j m l inside r → before < start → Fine c (block (at p j) (at p (suc m)) before (suc start) start (suc (suc start)) (group_arcs p j before start))
  group_fine c p j m l r before start inside rule one there below = record {
    inside = (omega arith, omega arith);
    from = λ a w b t. (group_leads (group_number g p j) before start a w b t).0;
    to = λ a w b t. (group_leads (group_number g p j) before start a w b t).1;
    through = λ w path. let h = group_read rule there.group below path in path_one (L.encloses {m = (rule_of g p).non} (rule, refl) one there h.loose h.word);
  }

  own_before : {c : ℕ} (y0 z : Cell) → y0.target ≡ z.source → y0.state ≡ z.before → CellBefore T (Step g c) none (λ (y : Cell). y ≡ y0) z
  own_before y0 z target state = record { cell = y0; is = refl; state = state; target = target }

  -- a nonterminal's block, by its component
  non_sound : {after : ℕ} {arcs : List Arc} (before start next n s j : ℕ) (own : List Arc) → Members g n n j → n < g.nons → before < start → ComponentSound n start next own → arcs ≡ pass before (entry_state start j) ∷ own → after ≡ exit_state start j → ItemSound (Non n s) before start after next arcs
  non_sound before start next n s j own members named below c e a =
      let high = c.member n j (one_same {m = n}) members named in
      sound_as e a refl record {
        leads = leads high;
        low = omega arith;
        high = high;
        read = λ w path.
            let h = first_arc nest k {x = pass before (entry_state start j)} {rest = own} {s = before} {low = start} below refl (omega arith) later (omega arith) path in
            loose_non (subst (λ (x : List ℕ). Walk g n (entry n) x (exit n)) (sym (h.word ∙ ap (λ (x : List ℕ). x ++ h.later) h.reads_own)) (c.read j h.later members named h.path));
      }
    where
      later : (x : ℕ) (v : List ℕ) (y : ℕ) → T own x v y → (start ≤ x) × (start ≤ y)
      later x v y t = let b = c.bounds x v y t in (b.0.0, b.1.0)

      leads : exit_state start j < next → Leads nest k (pass before (entry_state start j) ∷ own) before start next
      leads high x v y t = elim (first_or_rest t.along.arc) [
        | inl same ↦ let f : before ≡ x = ap (λ (z : Arc). z.from) same in let o : entry_state start j ≡ y = ap (λ (z : Arc). z.to) same in (inl (sym f), (omega (arith, o), omega (arith, o, high)))
        | inr rest ↦ let b = c.bounds x v y (own_of t rest) in (inr b.0, b.1)
      ]

  -- a component, by the cells of its members and rules
  of_rules : (c first next count : ℕ) (arcs : List Arc) → Members g c g.nons count → RulesSound c first count (first + 2 * count) next arcs → ComponentSound c first next arcs
  of_rules c first next count arcs members r = record {
    bounds = bounds;
    member = λ m j one own low. let less = members_less members own one low in let rise = chain_rises (first + 2 * count) next r.cells r.chain in omega (arith, less, rise);
    read = read;
  }
    where
      rises : first + 2 * count ≤ next
      rises = chain_rises (first + 2 * count) next r.cells r.chain

      member_low : (z : Cell) → MemberCell g c first count z → (first ≤ z.low) × (z.high ≤ first + 2 * count) × (z.arcs ≡ []) × IsIn z z.state × (z.high ≡ suc z.low)
      member_low z (entry_cell m j one own less e) = subst (λ (x : Cell). (first ≤ x.low) × (x.high ≤ first + 2 * count) × (x.arcs ≡ []) × IsIn x x.state × (x.high ≡ suc x.low)) (sym e) (omega arith, omega (arith, less), refl, (omega arith, omega arith), refl)
      member_low z (exit_cell m j one own less e) = subst (λ (x : Cell). (first ≤ x.low) × (x.high ≤ first + 2 * count) × (x.arcs ≡ []) × IsIn x x.state × (x.high ≡ suc x.low)) (sym e) (omega arith, omega (arith, less), refl, (omega arith, omega arith), refl)

      cell_low : (z : Cell) → IsPlace c first count r.cells z → (first ≤ z.low) × (z.high ≤ next)
      cell_low z (inl m) = let h = member_low z m in (h.0, omega (arith, h.1, rises))
      cell_low z (inr i) = let h = chain_within (first + 2 * count) next r.cells z r.chain i in (omega (arith, h.0), h.1)

      fine : (z : Cell) → IsPlace c first count r.cells z → Fine c z
      fine z (inl (entry_cell m j one own less e)) = subst (λ (x : Cell). Fine c x) (sym e) (point_fine T (Step g c) none (entry m) (entry_state first j))
      fine z (inl (exit_cell m j one own less e)) = subst (λ (x : Cell). Fine c x) (sym e) (point_fine T (Step g c) none (exit m) (exit_state first j))
      fine z (inr i) = r.fine z i

      in_point : {z : Cell} {x : Spot} {n a : ℕ} → z ≡ point x n → IsIn z a → a ≡ n
      in_point {n = n} {a = a} e i = let h = subst (λ (y : Cell). IsIn y a) e i in omega (arith, h.0, h.1)

      entries : (m n i j : ℕ) → m ≡ n → i ≡ j → point (entry m) (entry_state first i) ≡ point (entry n) (entry_state first j)
      entries m n i j p q = ap (λ (x : ℕ). point (entry x) (entry_state first i)) p ∙ ap (λ (x : ℕ). point (entry n) (entry_state first x)) q

      exits : (m n i j : ℕ) → m ≡ n → i ≡ j → point (exit m) (exit_state first i) ≡ point (exit n) (exit_state first j)
      exits m n i j p q = ap (λ (x : ℕ). point (exit x) (exit_state first i)) p ∙ ap (λ (x : ℕ). point (exit n) (exit_state first x)) q

      member_once : (y z : Cell) (a : ℕ) → MemberCell g c first count y → MemberCell g c first count z → IsIn y a → IsIn z a → y ≡ z
      member_once y z a (entry_cell m i one own less e) (entry_cell n j one' own' less' e') p q =
          let u = in_point e p in let v = in_point e' q in
          let same : i ≡ j = omega (arith, u, v) in
          e ∙ entries m n i j (members_same own own' one one' same) same ∙ sym e'
      member_once y z a (entry_cell m i one own less e) (exit_cell n j one' own' less' e') p q = absurd (let u = in_point e p in let v = in_point e' q in omega (arith, u, v))
      member_once y z a (exit_cell m i one own less e) (entry_cell n j one' own' less' e') p q = absurd (let u = in_point e p in let v = in_point e' q in omega (arith, u, v))
      member_once y z a (exit_cell m i one own less e) (exit_cell n j one' own' less' e') p q =
          let u = in_point e p in let v = in_point e' q in
          let same : i ≡ j = omega (arith, u, v) in
          e ∙ exits m n i j (members_same own own' one one' same) same ∙ sym e'

      once : (y z : Cell) (a : ℕ) → IsPlace c first count r.cells y → IsPlace c first count r.cells z → IsIn y a → IsIn z a → y ≡ z
      once y z a (inl m) (inl n) p q = member_once y z a m n p q
      once y z a (inl m) (inr i) p q = absurd (let h = member_low y m in let o = chain_within (first + 2 * count) next r.cells z r.chain i in omega (arith, h.1, o.0, p.1, q.0))
      once y z a (inr i) (inl m) p q = absurd (let h = member_low z m in let o = chain_within (first + 2 * count) next r.cells y r.chain i in omega (arith, h.1, o.0, q.1, p.0))
      once y z a (inr i) (inr j) p q = chain_once (first + 2 * count) next r.cells y z a r.chain i j p q

      before : (z : Cell) (a : ℕ) (w : List ℕ) (b : ℕ) → IsPlace c first count r.cells z → T z.arcs a w b → CellBefore T (Step g c) none (IsPlace c first count r.cells) z
      before z a w b (inl m) t = absurd (none a w b (as_list (member_low z m).2 t))
      before z a w b (inr i) t = before_wider (λ y h. inr h) (r.before z a w b i t)

      are : AreCells T (Step g c) none (IsPlace c first count r.cells) arcs
      are = record { fine = fine; once = once; before = before; laid = r.laid }

      in_low : (z : Cell) (a : ℕ) → IsPlace c first count r.cells z → IsIn z a → (first ≤ a) × (a < next)
      in_low z a p i = let h = cell_low z p in (omega (arith, h.0, i.0), omega (arith, h.1, i.1))

      state_low : (z : Cell) (a : ℕ) → IsPlace c first count r.cells z → a ≡ z.state → (first ≤ a) × (a < next)
      state_low z a p e = in_low z a p (subst (λ (n : ℕ). IsIn z n) (sym e) (fine z p).inside)

      bounds : (a : ℕ) (w : List ℕ) (b : ℕ) → T arcs a w b → ((first ≤ a) × (a < next)) × ((first ≤ b) × (b < next))
      bounds a w b t = by_arc (r.laid a w b t)
        where
          by_arc : LaidArc T (Step g c) none (IsPlace c first count r.cells) a w b → ((first ≤ a) × (a < next)) × ((first ≤ b) × (b < next))
          by_arc (jumps y z p q e s u go) = (state_low y a p s, state_low z b q u)
          by_arc (rests z p own) =
              let low : (first ≤ a) × (a < next) = elim ((fine z p).from a w b own) [ inl e ↦ (let h = before z a w b p own in state_low h.cell a h.is (e ∙ sym h.state)) | inr i ↦ in_low z a p i ] in
              (low, in_low z b p ((fine z p).to a w b own))

      read : (j : ℕ) (w : List ℕ) → Members g c c j → c < g.nons → Path (T arcs) (entry_state first j) w (exit_state first j) → Walk g c (entry c) w (exit c)
      read j w own low path =
          let less = members_less members own (one_same {m = c}) low in
          walk_of (cells_reached T (Step g c) none (IsPlace c first count r.cells) arcs are (point (entry c) (entry_state first j)) (point (exit c) (exit_state first j)) w (inl (entry_cell c j (one_same {m = c}) own less refl)) refl (inl (exit_cell c j (one_same {m = c}) own less refl)) path)

  -- an item that an automaton reads
  automaton_sound : (i : GItem) (p : Position) {before start after next : ℕ} {arcs : List Arc} → R.IsWellFormed p → ((w : List ℕ) → R.Accepts p w → LooseItem g i w) → arcs ≡ automaton_arcs p before start → after ≡ after_automaton p start → next ≡ suc after → before < start → ItemSound i before start after next arcs
  automaton_sound i p {before} {start} formed loose e a n below = sound_as e a (n ∙ ap suc a) record {
    leads = ends_lead (automaton_ends p before start formed);
    low = omega arith;
    high = omega arith;
    read = λ w path. loose w (automaton_read nest k p before start formed below path);
  }

  mutual
    item_sound : {i : GItem} {before start after next : ℕ} {arcs : List Arc} → LaysItem g i before start arcs after next → NamesAreThere g i → before < start → ItemSound i before start after next arcs
    item_sound {before = before} {start = start} (lays_fixed {f = f} e a n) named below =
        let far = after_in f before start named in
        sound_as e a n record {
          leads = ends_lead (word_ends f before start);
          low = far.0;
          high = far.1;
          read = λ w path. subst (λ (x : List ℕ). LooseItem g (Fixed f) x) (sym (word_read nest k f before start below path)) loose_fixed;
        }
    item_sound (lays_term {t = t} {s = s} e a n) named below =
        let auto = built.automata.terms t named in
        automaton_sound (Term t s) (term_of g t).automaton auto.formed (λ w accepts. loose_term ((auto.accepts w).1 accepts)) e a n below
    item_sound (lays_skip {k = skip} e a n) named below =
        let auto = built.automata.skips skip named in
        automaton_sound (Skip skip) (skip_of g skip).automaton auto.formed (λ w accepts. loose_skip ((auto.accepts w).1 accepts)) e a n below
    item_sound {before = before} {start = start} {next = next} (lays_non {n = n} {s = s} {k = j} {own = own} members comp e a) named below =
        non_sound before start next n s j own members named below (component_sound comp) e a

    component_sound : {c first next : ℕ} {arcs : List Arc} → LaysComponent g c first arcs next → ComponentSound c first next arcs
    component_sound {c} {first} {next} {arcs} (lays_component {count = count} members rules) = of_rules c first next count arcs members (rules_sound rules members (omega arith) (omega arith))

    rules_sound : {c first count bound start next : ℕ} {arcs : List Arc} → LaysRules g c first bound start arcs next → Members g c g.nons count → bound ≤ length g.rules → first + 2 * count ≤ start → RulesSound c first count start next arcs
    rules_sound lays_no_rule members there low = record { cells = []; chain = refl; fine = λ z h. absurd (nothing h); before = λ z a w b h t. absurd (nothing h); laid = λ a w b t. absurd (none a w b t) }
    rules_sound {c} {first} {count} {start = start} {next = next} (lays_rule {p = p} {k = j} {place = place} {last = last} {before = before} {own = own} one counted rest body e) members there low =
        let r = rules_sound rest members (omega arith) low in
        let y0 : Cell = point (at p 0) place in
        let b = body_sound body members (omega arith) one [] refl level_none refl (omega arith) y0 refl refl in
        rule_joined c first count p j start place last next before own one counted members (omega arith) e r b
    rules_sound (lays_other_rule a rest) members there low = rules_sound rest members (omega arith) low

    body_sound : {c first count p j before start after next : ℕ} {is : List GItem} {arcs : List Arc} → LaysBody g c first p j is before start arcs after next → Members g c g.nons count → p < length g.rules → AreOne g c (rule_of g p).non → (pre : List GItem) → spread g p ≡ pre ++ is → IsLevel g.fences pre → j ≡ length pre → before < start → (y0 : Cell) → y0.target ≡ at p j → y0.state ≡ before → BodySound c first count p after start next arcs y0
    body_sound {p = p} {j = j} lays_no_body members rule one pre split level place below y0 target state = record {
      cells = [];
      chain = refl;
      fine = λ z h. absurd (nothing h);
      before = λ z a w b h t. absurd (nothing h);
      last = y0;
      last_is = inl refl;
      last_state = state;
      last_target = target ∙ ap (λ (n : ℕ). at p n) (omega (arith, ap length split, length-append pre [], place));
      laid = λ a w b t. absurd (none a w b t);
    }
    body_sound {c} {first} {count} {p = p} {j = j} {before = before} {start = start} {after = after} {next = next} (lays_member {n = n} {s = s} {j = i} {is = more} {rest = others} two counted rest e) members rule one pre split level place below y0 target state =
        let there : OuterAt g.fences (spread g p) j (Non n s) = record { before = pre; after = more; split = split; level = level; plain = tt; place = place } in
        let z1 : Cell = point (at p (suc j)) start in
        let r = body_sound rest members rule one (pre ++ Non n s ∷ []) (split ∙ sym (append_assoc pre (Non n s ∷ []) more)) (level_append level (level_then {i = Non n s} tt level_none)) (omega (arith, place, length-append pre (Non n s ∷ []))) (omega arith) z1 refl refl in
        body_joined c first count p after start (suc start) next (pass before (entry_state first i) ∷ pass (exit_state first i) start ∷ []) others y0 z1 e refl (omega arith) refl (point_fine T (Step g c) none (at p (suc j)) start) (λ a w b t. absurd (none a w b t)) (member_laid c first count p j n s i before start y0 rule one there two counted members target state) r
    body_sound {c} {first} {count} {p = p} {j = j} {before = before} {start = start} {after = after} {next = next} (lays_other {between = between} {then = high} {i = i} {is = more} {own = own} {rest = others} plain apart lays rest e) members rule one pre split level place below y0 target state =
        let there : OuterAt g.fences (spread g p) j i = record { before = pre; after = more; split = split; level = level; plain = plain; place = place } in
        let s = item_sound lays (names p there) below in
        let z1 : Cell = block (at p j) (at p (suc j)) before between start high own in
        let r = body_sound rest members rule one (pre ++ i ∷ []) (split ∙ sym (append_assoc pre (i ∷ []) more)) (level_append level (level_then plain level_none)) (omega (arith, place, length-append pre (i ∷ []))) s.high z1 refl refl in
        body_joined c first count p after start high next own others y0 z1 e refl (omega (arith, s.low, s.high)) refl (item_fine c p j before start between high i own rule one there apart s) (λ a w b t. own_before y0 z1 target state) (λ a w b t. rests z1 (inr (inr refl)) t) r
    body_sound {c} {first} {count} {p = p} {j = j} {before = before} {start = start} {after = after} {next = next} (lays_group {l = l} {r = r} {inside = inside} {later = later} {rest = others} f v rest opened e) members rule one pre split level place below y0 target state =
        let whole : spread g p ≡ pre ++ grouped l inside r later = split ∙ ap (λ (x : List GItem). pre ++ x) opened in
        let there : OuterGroupAt g.fences (spread g p) j (suc (j + length inside)) l inside r = record { group = record { before = pre; after = later; split = whole; fence = f; within = v; place = place; partner = refl }; level = level } in
        let z1 : Cell = block (at p j) (at p (suc (suc (j + length inside)))) before (suc start) start (suc (suc start)) (group_arcs p j before start) in
        let b = body_sound rest members rule one (pre ++ grouped l inside r []) (whole ∙ group_split pre l inside r later) (level_append level (level_group f v level_none refl)) (omega (arith, place, length_grouped pre l inside r)) (omega arith) z1 refl refl in
        body_joined c first count p after start (suc (suc start)) next (group_arcs p j before start) others y0 z1 e refl (omega arith) refl (group_fine c p j (suc (j + length inside)) l r before start inside rule one there below) (λ a w b' t. own_before y0 z1 target state) (λ a w b' t. rests z1 (inr (inr refl)) t) b

  -- what is known of a stretch that is laid
  record PartSound (is : List GItem) (before start after next : ℕ) (arcs : List Arc) : Type 0 where
    leads : Leads nest k arcs before start next
    low : start ≤ next
    last : (after ≡ before) ⊎ (start ≤ after)
    read : (w : List ℕ) → Path (T arcs) before w after → IsLoose g is w

  -- blocks one after another
  joined_leads : (own rest : List Arc) (before start between high next : ℕ) → Leads nest k own before start high → Leads nest k rest between high next → start ≤ between → between < high → high ≤ next → Leads nest k (own ++ rest) before start next
  joined_leads own rest before start between high next x y p q s a w b t = elim (among_either own rest t.along.arc) [
    | inl left ↦ let h = x a w b (own_of t left) in (elim h.0 [ inl e ↦ inl e | inr i ↦ inr (i.0, omega (arith, i.1, s)) ], (h.1.0, omega (arith, h.1.1, s)))
    | inr right ↦ let h = y a w b (own_of t right) in (elim h.0 [ inl e ↦ inr (omega (arith, e, p), omega (arith, e, q, s)) | inr i ↦ inr (omega (arith, i.0, p, q), i.1) ], (omega (arith, h.1.0, p, q), h.1.1))
  ]

  part_as : {is : List GItem} {before start after next : ℕ} {arcs own : List Arc} → arcs ≡ own → PartSound is before start after next own → PartSound is before start after next arcs
  part_as {is} {before} {start} {after} {next} e h = subst (λ (x : List Arc). PartSound is before start after next x) (sym e) h

  part_sound : {p j before start after next : ℕ} {is : List GItem} {arcs : List Arc} → LaysPart g p j is before start arcs after next → p < length g.rules → Stands g p j is → before < start → PartSound is before start after next arcs
  part_sound part_none rule place below = record { leads = λ a w b t. absurd (none a w b t); low = omega arith; last = inl refl; read = λ w path. subst (λ (x : List ℕ). IsLoose g [] x) (sym (empty_path nest k path)) loose_none }
  part_sound {p} {j} {before} {start} {after} {next} (part_then {between = between} {then = high} {i = i} {is = more} {own = own} {rest = others} plain lays rest e) rule place below =
      let s = item_sound lays (first_named built place) below in
      let q = part_sound rest rule (after_item place) s.high in
      part_as e record {
        leads = joined_leads own others before start between high next s.leads q.leads s.low s.high q.low;
        low = omega (arith, s.low, s.high, q.low);
        last = inr (elim q.last [ inl same ↦ omega (arith, same, s.low) | inr far ↦ omega (arith, far, s.low, s.high) ]);
        read = λ w path.
            let h = in_turn nest k own others before between start high next below (inr (s.low, s.high)) (omega (arith, s.low, s.high)) s.leads q.leads q.last (inl refl) path in
            loose_then plain (s.read h.own h.front) (q.read h.later h.back) h.word;
      }
  part_sound {p} {j} {before} {start} {after} {next} (part_group {l = l} {r = r} {inside = inside} {later = later} {rest = others} f v rest opened e) rule place below =
      let here : GroupAt g.fences (spread g p) j (suc (j + length inside)) l inside r = group_here later f v opened place in
      let q = part_sound rest rule (after_group inside r opened place) (omega arith) in
      part_as e record {
        leads = joined_leads (group_arcs p j before start) others before start (suc start) (suc (suc start)) next (group_leads (group_number g p j) before start) q.leads (omega arith) (omega arith) q.low;
        low = omega (arith, q.low);
        last = inr (elim q.last [ inl same ↦ omega (arith, same) | inr far ↦ omega (arith, far) ]);
        read = λ w path.
            let h = in_turn nest k (group_arcs p j before start) others before (suc start) start (suc (suc start)) next below (inr (omega arith, omega arith)) (omega arith) (group_leads (group_number g p j) before start) q.leads q.last (inl refl) path in
            let one = group_read rule here below h.front in
            loose_group f one.loose (q.read h.later h.back) opened (h.word ∙ ap (λ (x : List ℕ). x ++ h.later) one.word ∙ ap (λ (x : List ℕ). l ∷ x) (append_assoc one.content (r ∷ []) h.later));
      }

-- a net's crossing is a path over its arcs
crossing_path : (nest : List Group) {g : Grammar} {p j : ℕ} {is : List GItem} {n : Graph} (d : IsNumbered g p j is n) {a b : ℕ} {w : List ℕ} → Crossing nest n a w b → Path (Along nest d.arcs) a w b
crossing_path nest d stands = stays
crossing_path nest d (drifts {a = a} {b = b} c rest) = goes (record { label = passes; arc = of_contains d.arcs (pass a b) ((d.moves a b).0 c); reads_word = refl }) (crossing_path nest d rest) refl
crossing_path nest d (takes {a = a} {s = s} e c has rest) = goes (record { label = reads e.class; arc = of_contains d.arcs (read a e.class e.to) ((d.edges a e).0 c); reads_word = (s, has, refl) }) (crossing_path nest d rest) refl
crossing_path nest d (enters {a = a} {first = first} {last = last} {u = u} {v = v} e group c is start inner final rest w) =
    goes (record { label = calls e.group; arc = of_contains d.arcs (call a e.group e.to) ((d.calls a e).0 c); reads_word = record { group = group; is = is; content = u; accepts = record { first = first; last = last; starts = start; crosses = inner; final = final }; word = refl } }) (crossing_path nest d rest) (w ∙ ap (λ (x : List ℕ). group.left ∷ x) (sym (append_assoc u (group.right ∷ []) v)))

some_number : {m n : ℕ} → Some m ≡ Some n → m ≡ n
some_number e = cc

sound_below : (g : Grammar) → IsBuilt g → (nest : List Group) → IsNestOf g nest → (k : ℕ) → IsSoundBelow g nest k
sound_below g built nest nested zero p j inside content stretch d u less accepts = absurd (omega arith)
sound_below g built nest nested (suc k) p j inside content stretch d u less accepts =
    let crossing : Crossing nest content 0 u d.last = subst (λ (n : ℕ). Crossing nest content n u d.last) (some_number (sym accepts.starts ∙ d.start)) (subst (λ (n : ℕ). Crossing nest content accepts.first u n) ((d.finals accepts.last).0 accepts.final) accepts.crosses) in
    let path : Path (Short nest k d.arcs) 0 u d.last = path_map_within k (λ a w b short t. record { along = t; short = short }) (omega arith) (crossing_path nest d crossing) in
    let stands_at : Stands g p j inside = record { before = stretch.before; after = stretch.after; split = stretch.split; place = stretch.place } in
    (part_sound g built nest nested k (sound_below g built nest nested k) d.lays stretch.rule stands_at (omega arith)).read u path

-- each word that is accepted is loose
abbrev AcceptedIsLoose : Type 0
AcceptedIsLoose =
    (g : Grammar) → IsBuilt g → (nest : List Group) → IsNestOf g nest
    → (p k : ℕ) (is : List GItem) (n : Graph) → IsStretch g p k is → IsNumbered g p k is n
    → (w : List ℕ) → AcceptsNested nest n w → IsLoose g is w

accepted_is_loose : AcceptedIsLoose
accepted_is_loose g built nest nested p j is n stretch d w accepts = sound_below g built nest nested (suc (length w)) p j is n stretch d w (omega arith) accepts

pub nets_accept_loose : NetsAcceptLoose
nets_accept_loose g built nest nested p j is n stretch d w = (accepted_is_loose g built nest nested p j is n stretch d w, loose_is_accepted g built nest nested p j is n stretch d w)
