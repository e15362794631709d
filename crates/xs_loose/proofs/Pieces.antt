-- Paths by short words through a word, an automaton, and arcs one after another, and what they read.
use Rattle.std.proofs.Common.{◌≡◌, ◌⊎◌, inl, inr, ℕ, zero, suc, ◌+◌, ◌<◌, ◌≤◌, Bool, true, false, List, [], ◌∷◌, ◌++◌, length, slice_get, slice_index_or, refl, sym, ap, subst, ◌∙◌, arith, append_assoc, append-nil}
use Rattle.std.specs.Prelude.{IsSomeAnd}
use Rattle.std.specs.List.{Contains}
use Rattle.xs_class.specs.Classes.{Has}
use Rattle.xs_regex.specs.declared.position.Position.{Position}
use Rattle.xs_regex.specs.Automaton as R
use Rattle.xs_auto.specs.Nests.{Group}
use Rattle.xs_loose.specs.Arcs.{Label, reads, passes, Arc, read, pass, word_arcs, after_word, class_at, arcs_into, arcs_on, arcs_out, arc_past, after_automaton, automaton_arcs}
use Rattle.xs_loose.proofs.Among.{Among, nothing, first_or_rest, among_either}
use Rattle.xs_loose.proofs.Paths.{Path, stays, goes, path_kept}
use Rattle.xs_loose.proofs.Along.{Reads, Along}

-- an arc by a word of at most k symbols
pub record Short (nest : List Group) (k : ℕ) (arcs : List Arc) (a : ℕ) (w : List ℕ) (b : ℕ) : Type 0 where
  pub along : Along nest arcs a w b
  pub short : length w ≤ k

-- from s or from a state of a range into the range
abbrev pub FromTo : ℕ → ℕ → ℕ → ℕ → ℕ → Type 0
FromTo s low high a b = ((a ≡ s) ⊎ ((low ≤ a) × (a < high))) × ((low ≤ b) × (b < high))

-- the arcs lead so
abbrev pub Ends : List Arc → ℕ → ℕ → ℕ → Type 0
Ends arcs s low high = (x : Arc) → Among arcs x → FromTo s low high x.from x.to

-- those of them that read a short word do
abbrev pub Leads : List Group → ℕ → List Arc → ℕ → ℕ → ℕ → Type 0
Leads nest k arcs s low high = (a : ℕ) (w : List ℕ) (b : ℕ) → Short nest k arcs a w b → FromTo s low high a b

pub ends_lead : {nest : List Group} {k : ℕ} {arcs : List Arc} {s low high : ℕ} → Ends arcs s low high → Leads nest k arcs s low high
ends_lead ends a w b t = ends _ t.along.arc

ends_as : {x y : Arc} {s low high : ℕ} → x ≡ y → FromTo s low high x.from x.to → FromTo s low high y.from y.to
ends_as {s = s} {low = low} {high = high} e h = subst (λ (z : Arc). FromTo s low high z.from z.to) e h

-- the ends of a word's arcs
pub word_ends : (f : List ℕ) (before first : ℕ) → Ends (word_arcs f before first) before first (first + length f)
word_ends [] before first x h = absurd (nothing h)
word_ends (s ∷ w) before first x h = elim (first_or_rest h) [
  | inl e ↦ ends_as {s = before} {low = first} {high = first + suc (length w)} e (inl refl, (omega arith, omega arith))
  | inr later ↦
      let k = word_ends w first (suc first) x later in
      (elim k.0 [ inl at ↦ inr (omega (arith, at), omega (arith, at)) | inr in_range ↦ inr (omega (arith, in_range.0), omega (arith, in_range.1)) ], (omega (arith, k.1.0), omega (arith, k.1.1)))
]

pub after_in : (f : List ℕ) (before first : ℕ) → 0 < length f → (first ≤ after_word f before first) × (after_word f before first < first + length f)
after_in [] before first lt = absurd (omega arith)
after_in (s ∷ []) before first lt = (omega arith, omega arith)
after_in (s ∷ t ∷ w) before first lt = let k = after_in (t ∷ w) first (suc first) (omega arith) in (omega (arith, k.0), omega (arith, k.1))

module _ (nest : List Group) (k : ℕ) where
  -- a path that begins by the first arc, whose source no arc leads back to
  pub record Begins (x : Arc) (rest : List Arc) (w : List ℕ) (t : ℕ) : Type 0 where
    pub own : List ℕ
    pub later : List ℕ
    pub word : w ≡ own ++ later
    pub reads_own : Reads nest x.label own
    pub short : length own ≤ k
    pub path : Path (Short nest k rest) x.to later t

  later_arc : {xs ys : List Arc} {a b : ℕ} {w : List ℕ} (t : Short nest k xs a w b) → Among ys (record { from = a; label = t.along.label; to = b }) → Short nest k ys a w b
  later_arc t h = record { along = record { label = t.along.label; arc = h; reads_word = t.along.reads_word }; short = t.short }

  kept_on : {x : Arc} {rest : List Arc} {s low a t : ℕ} {w : List ℕ} → s < low → x.from ≡ s → low ≤ x.to → ((c : ℕ) (v : List ℕ) (d : ℕ) → Short nest k rest c v d → (low ≤ c) × (low ≤ d)) → low ≤ a → Path (Short nest k (x ∷ rest)) a w t → Path (Short nest k rest) a w t
  kept_on {x} {rest} {s} {low} below from to ends here path = (path_kept (λ (n : ℕ). low ≤ n) onward here path).0
    where
      onward : (a : ℕ) (w : List ℕ) (b : ℕ) → low ≤ a → Short nest k (x ∷ rest) a w b → Short nest k rest a w b × (low ≤ b)
      onward a w b at t = elim (first_or_rest t.along.arc) [
        | inl e ↦ let same : x.from ≡ a = ap (λ (y : Arc). y.from) e in absurd (omega (arith, from, same, at, below))
        | inr later ↦ let own = later_arc t later in (own, (ends a w b own).1)
      ]

  pub first_arc : {x : Arc} {rest : List Arc} {s low t : ℕ} {w : List ℕ} → s < low → x.from ≡ s → low ≤ x.to → ((c : ℕ) (v : List ℕ) (d : ℕ) → Short nest k rest c v d → (low ≤ c) × (low ≤ d)) → low ≤ t → Path (Short nest k (x ∷ rest)) s w t → Begins x rest w t
  first_arc below from to ends high stays = absurd (omega arith)
  first_arc {x} {rest} {s} {low} {t} below from to ends high (goes {b = b} {u = u} {v = v} arc path e) = elim (first_or_rest arc.along.arc) [
    | inl same ↦
        let label : x.label ≡ arc.along.label = ap (λ (y : Arc). y.label) same in
        let target : x.to ≡ b = ap (λ (y : Arc). y.to) same in
        record {
          own = u;
          later = v;
          word = e;
          reads_own = subst (λ (l : Label). Reads nest l u) (sym label) arc.along.reads_word;
          short = arc.short;
          path = kept_on {x = x} {s = s} {low = low} below from to ends to (subst (λ (n : ℕ). Path (Short nest k (x ∷ rest)) n v t) (sym target) path);
        }
    | inr later ↦ absurd (let h = (ends s u b (later_arc arc later)).0 in omega (arith, h, below))
  ]

  -- a path through two lists of arcs, of which the second goes on at a state of the first
  pub record InTurn (xs ys : List Arc) (s middle t : ℕ) (w : List ℕ) : Type 0 where
    pub own : List ℕ
    pub later : List ℕ
    pub word : w ≡ own ++ later
    pub front : Path (Short nest k xs) s own middle
    pub back : Path (Short nest k ys) middle later t

  module _ (xs ys : List Arc) (s middle low between high : ℕ) (s_low : s < low) (middle_in : (middle ≡ s) ⊎ ((low ≤ middle) × (middle < between))) (ordered : low ≤ between) (ends_xs : Leads nest k xs s low between) (ends_ys : Leads nest k ys middle between high) where
    in_second : (a : ℕ) (w : List ℕ) (b : ℕ) → between ≤ a → Short nest k (xs ++ ys) a w b → Short nest k ys a w b × (between ≤ b)
    in_second a w b at t = elim (among_either xs ys t.along.arc) [
      | inl left ↦ absurd (elim (ends_xs a w b (later_arc t left)).0 [ inl e ↦ omega (arith, e, s_low, ordered, at) | inr h ↦ omega (arith, h.1, at) ])
      | inr right ↦ (later_arc t right, (ends_ys a w b (later_arc t right)).1.0)
    ]

    pub in_turn : {a t : ℕ} {w : List ℕ} → (t ≡ middle) ⊎ (between ≤ t) → (a ≡ s) ⊎ ((low ≤ a) × (a < between)) → Path (Short nest k (xs ++ ys)) a w t → InTurn xs ys a middle t w
    in_turn {a} (inl e) at stays = record { own = []; later = []; word = refl; front = subst (λ (n : ℕ). Path (Short nest k xs) a [] n) e stays; back = subst (λ (n : ℕ). Path (Short nest k ys) n [] a) e stays }
    in_turn (inr far) at stays = absurd (elim at [ inl e ↦ omega (arith, e, s_low, ordered, far) | inr h ↦ omega (arith, h.1, far) ])
    in_turn {a} {t} {w} last at (goes {b = b} {u = u} {v = v} arc path e) = by_list (among_either xs ys arc.along.arc) (λ h. in_turn last h path)
      where
        by_list : Among xs (record { from = a; label = arc.along.label; to = b }) ⊎ Among ys (record { from = a; label = arc.along.label; to = b }) → ((b ≡ s) ⊎ ((low ≤ b) × (b < between)) → InTurn xs ys b middle t v) → InTurn xs ys a middle t w
        by_list (inl left) deeper =
            let h = deeper (inr (ends_xs a u b (later_arc arc left)).1) in
            record { own = u ++ h.own; later = h.later; word = e ∙ ap (λ (l : List ℕ). u ++ l) h.word ∙ sym (append_assoc u h.own h.later); front = goes (later_arc arc left) h.front refl; back = h.back }
        by_list (inr right) deeper =
            let here : a ≡ middle = elim (ends_ys a u b (later_arc arc right)).0 [ inl same ↦ same | inr far ↦ absurd (elim at [ inl at_s ↦ omega (arith, at_s, s_low, ordered, far.0) | inr h ↦ omega (arith, h.1, far.0) ]) ] in
            let rest = (path_kept (λ (n : ℕ). between ≤ n) in_second (ends_ys a u b (later_arc arc right)).1.0 path).0 in
            record { own = []; later = w; word = refl; front = subst (λ (n : ℕ). Path (Short nest k xs) a [] n) here stays; back = subst (λ (n : ℕ). Path (Short nest k ys) n w t) here (goes (later_arc arc right) rest e) }

  pub empty_path : {a b : ℕ} {w : List ℕ} → Path (Short nest k []) a w b → w ≡ []
  empty_path stays = refl
  empty_path (goes t p e) = absurd (nothing t.along.arc)

  -- what is read through a word's arcs is the word
  pub word_read : (f : List ℕ) (before first : ℕ) {w : List ℕ} → before < first → Path (Short nest k (word_arcs f before first)) before w (after_word f before first) → w ≡ f
  word_read [] before first below path = empty_path path
  word_read (s ∷ f) before first {w} below path =
      let far = after_in (s ∷ f) before first (omega arith) in
      let h = first_arc {x = read before ((s, s) ∷ []) first} {rest = word_arcs f first (suc first)} {s = before} {low = first} below refl (omega arith) later far.0 path in
      h.word ∙ ap (λ (l : List ℕ). l ++ h.later) (h.reads_own.2 ∙ ap (λ (n : ℕ). n ∷ []) (one h.reads_own.1)) ∙ ap (λ (l : List ℕ). s ∷ l) (word_read f first (suc first) (omega arith) h.path)
    where
      later : (c : ℕ) (v : List ℕ) (d : ℕ) → Short nest k (word_arcs f first (suc first)) c v d → (first ≤ c) × (first ≤ d)
      later c v d t = let n = word_ends f first (suc first) _ t.along.arc in (elim n.0 [ inl e ↦ omega (arith, e) | inr m ↦ omega (arith, m.0) ], omega (arith, n.1.0))

      one : {x : ℕ} → Has ((s, s) ∷ []) x → x ≡ s
      one (inl h) = omega (arith, h.0, h.1)
      one (inr h) = absurd h

-- what the arcs of an automaton are
pub data AutomatonArc (p : Position) (before first : ℕ) (x : Arc) : Type 0 where
  leads_in : (k : ℕ) → Contains p.first k → read before (class_at p k) (first + k) ≡ x → AutomatonArc p before first x
  leads_on : (j k : ℕ) → R.Leads p j k → read (first + j) (class_at p k) (first + k) ≡ x → AutomatonArc p before first x
  leads_out : (k : ℕ) → Contains p.last k → pass (first + k) (after_automaton p first) ≡ x → AutomatonArc p before first x
  leads_past : p.nullable ≡ true → pass before (after_automaton p first) ≡ x → AutomatonArc p before first x

number_or_rest : (n : ℕ) (ns : List ℕ) (k : ℕ) → Contains ns k → Contains (n ∷ ns) k
number_or_rest n ns k (m, lt, e) = (suc m, omega arith, e)

into_only : (p : Position) (first from : ℕ) (ks : List ℕ) {x : Arc} → Among (arcs_into p first from ks) x → (k : ℕ) × Contains ks k × (read from (class_at p k) (first + k) ≡ x)
into_only p first from [] h = absurd (nothing h)
into_only p first from (k ∷ ks) h = elim (first_or_rest h) [
  | inl e ↦ (k, (0, omega arith, refl), e)
  | inr later ↦ let r = into_only p first from ks later in (r.0, number_or_rest k ks r.0 r.1, r.2)
]

on_only : (p : Position) (first start : ℕ) (rows : List (List ℕ)) {x : Arc} → Among (arcs_on p first start rows) x → (j : ℕ) × (k : ℕ) × IsSomeAnd (slice_get rows j) (λ row. Contains row k) × (read (first + (start + j)) (class_at p k) (first + k) ≡ x)
on_only p first start [] h = absurd (nothing h)
on_only p first start (row ∷ rows) {x} h = elim (among_either (arcs_into p first (first + start) row) (arcs_on p first (suc start) rows) h) [
  | inl here ↦
      let r = into_only p first (first + start) row here in
      let e : first + (start + 0) ≡ first + start = omega arith in
      (0, r.0, r.1, ap (λ (n : ℕ). read n (class_at p r.0) (first + r.0)) e ∙ r.2)
  | inr later ↦
      let r = on_only p first (suc start) rows later in
      let e : first + (start + suc r.0) ≡ first + (suc start + r.0) = omega arith in
      (suc r.0, r.1, r.2, ap (λ (n : ℕ). read n (class_at p r.1) (first + r.1)) e ∙ r.3)
]

out_only : (first : ℕ) (ks : List ℕ) (to : ℕ) {x : Arc} → Among (arcs_out first ks to) x → (k : ℕ) × Contains ks k × (pass (first + k) to ≡ x)
out_only first [] to h = absurd (nothing h)
out_only first (k ∷ ks) to h = elim (first_or_rest h) [
  | inl e ↦ (k, (0, omega arith, refl), e)
  | inr later ↦ let r = out_only first ks to later in (r.0, number_or_rest k ks r.0 r.1, r.2)
]

past_only : (nullable : Bool) (from to : ℕ) {x : Arc} → Among (arc_past nullable from to) x → (nullable ≡ true) × (pass from to ≡ x)
past_only true from to h = elim (first_or_rest h) [ inl e ↦ (refl, e) | inr later ↦ absurd (nothing later) ]
past_only false from to h = absurd (nothing h)

pub automaton_only : (p : Position) (before first : ℕ) {x : Arc} → Among (automaton_arcs p before first) x → AutomatonArc p before first x
automaton_only p before first {x} h = elim (among_either (arcs_into p first before p.first) (arcs_on p first 0 p.follow ++ (arcs_out first p.last (after_automaton p first) ++ arc_past p.nullable before (after_automaton p first))) h) [
  | inl a ↦ let r = into_only p first before p.first a in leads_in r.0 r.1 r.2
  | inr b ↦ elim (among_either (arcs_on p first 0 p.follow) (arcs_out first p.last (after_automaton p first) ++ arc_past p.nullable before (after_automaton p first)) b) [
    | inl c ↦
        let r = on_only p first 0 p.follow c in
        let e : first + r.0 ≡ first + (0 + r.0) = omega arith in
        leads_on r.0 r.1 r.2 (ap (λ (n : ℕ). read n (class_at p r.1) (first + r.1)) e ∙ r.3)
    | inr d ↦ elim (among_either (arcs_out first p.last (after_automaton p first)) (arc_past p.nullable before (after_automaton p first)) d) [
      | inl out ↦ let r = out_only first p.last (after_automaton p first) out in leads_out r.0 r.1 r.2
      | inr past ↦ let r = past_only p.nullable before (after_automaton p first) past in leads_past r.0 r.1
    ]
  ]
]

row_low : (rows : List (List ℕ)) (j k : ℕ) → IsSomeAnd (slice_get rows j) (λ row. Contains row k) → j < length rows
row_low [] j k h = absurd h
row_low (r ∷ rs) zero k h = omega arith
row_low (r ∷ rs) (suc j) k h = let m = row_low rs j k h in omega (arith, m)

pub automaton_ends : (p : Position) (before first : ℕ) → R.IsWellFormed p → Ends (automaton_arcs p before first) before first (suc (after_automaton p first))
automaton_ends p before first formed x h = by_kind (automaton_only p before first h)
  where
    by_kind : AutomatonArc p before first x → FromTo before first (suc (after_automaton p first)) x.from x.to
    by_kind (leads_in k c e) = let m = formed.first_in k c in ends_as {s = before} {low = first} {high = suc (after_automaton p first)} e (inl refl, (omega arith, omega (arith, m)))
    by_kind (leads_on j k l e) =
        let m = formed.follow_in j k l in
        let n = row_low p.follow j k l in
        ends_as {s = before} {low = first} {high = suc (after_automaton p first)} e (inr (omega arith, omega (arith, n, formed.rows)), (omega arith, omega (arith, m)))
    by_kind (leads_out k c e) = let m = formed.last_in k c in ends_as {s = before} {low = first} {high = suc (after_automaton p first)} e (inr (omega arith, omega (arith, m)), (omega arith, omega arith))
    by_kind (leads_past n e) = ends_as {s = before} {low = first} {high = suc (after_automaton p first)} e (inl refl, (omega arith, omega arith))

has_class : (classes : List (List (ℕ × ℕ))) (k s : ℕ) → k < length classes → Has (slice_index_or classes k []) s → IsSomeAnd (slice_get classes k) (λ class. Has class s)
has_class [] k s lt h = absurd (omega arith)
has_class (c ∷ cs) zero s lt h = h
has_class (c ∷ cs) (suc k) s lt h = has_class cs k s (omega arith) h

-- what an arc of a class reads, and an empty move
reads_class : (nest : List Group) {label : Label} {a b s t : ℕ} {class : List (ℕ × ℕ)} {w : List ℕ} → read s class t ≡ (record { from = a; label = label; to = b }) → Reads nest label w → (x : ℕ) × Has class x × (w ≡ x ∷ [])
reads_class nest {label} {class = class} {w = w} e r = subst (λ (l : Label). Reads nest l w) (sym same) r
  where
    same : reads class ≡ label
    same = ap (λ (x : Arc). x.label) e

reads_nothing : (nest : List Group) {label : Label} {a b s t : ℕ} {w : List ℕ} → pass s t ≡ (record { from = a; label = label; to = b }) → Reads nest label w → w ≡ []
reads_nothing nest {label} {w = w} e r = subst (λ (l : Label). Reads nest l w) (sym same) r
  where
    same : passes ≡ label
    same = ap (λ (x : Arc). x.label) e

-- what is read through an automaton's arcs it accepts
module _ (nest : List Group) (k : ℕ) (p : Position) (before first : ℕ) (formed : R.IsWellFormed p) (below : before < first) where
  -- where the words lead that were read from the state before on
  data Gone (a : ℕ) (v : List ℕ) : Type 0 where
    at_start : a ≡ before → v ≡ [] → Gone a v
    at_position : (j : ℕ) → a ≡ first + j → j < length p.classes → R.Runs p v j → Gone a v
    at_end : a ≡ after_automaton p first → R.Accepts p v → Gone a v

  -- nothing was read at the state before, and what was read at a position leads to it
  none_read : (a : ℕ) (v : List ℕ) → before ≡ a → Gone a v → v ≡ []
  none_read a v from (at_start q n) = n
  none_read a v from (at_position i q lt run) = absurd (omega (arith, from, q, below))
  none_read a v from (at_end q acc) = absurd (omega (arith, from, q, below))

  runs_to : (a i : ℕ) (v : List ℕ) → first + i ≡ a → i < length p.classes → Gone a v → R.Runs p v i
  runs_to a i v from low (at_start q n) = absurd (omega (arith, from, q, below))
  runs_to a i v from low (at_position m q lt run) = let same : m ≡ i = omega (arith, from, q) in subst (λ (n : ℕ). R.Runs p v n) same run
  runs_to a i v from low (at_end q acc) = absurd (omega (arith, from, q, low))

  gone_on : {a b : ℕ} {v : List ℕ} (u : List ℕ) (label : Label) → Gone a v → AutomatonArc p before first (record { from = a; label = label; to = b }) → Reads nest label u → Gone b (v ++ u)
  gone_on {a} {b} {v} u label h (leads_in j c e) r =
      let s = reads_class nest e r in
      let none = none_read a v (ap (λ (x : Arc). x.from) e) h in
      at_position j (sym (ap (λ (x : Arc). x.to) e)) (formed.first_in j c) (R.begins s.0 c (has_class p.classes j s.0 (formed.first_in j c) s.1) (ap (λ (l : List ℕ). l ++ u) none ∙ s.2))
  gone_on {a} {b} {v} u label h (leads_on i j l e) r =
      let s = reads_class nest e r in
      let low : i < length p.classes = let n = row_low p.follow i j l in omega (arith, n, formed.rows) in
      let run = runs_to a i v (ap (λ (x : Arc). x.from) e) low h in
      at_position j (sym (ap (λ (x : Arc). x.to) e)) (formed.follow_in i j l) (R.goes v i s.0 run l (has_class p.classes j s.0 (formed.follow_in i j l) s.1) (ap (λ (x : List ℕ). v ++ x) s.2))
  gone_on {a} {b} {v} u label h (leads_out i c e) r =
      let run = runs_to a i v (ap (λ (x : Arc). x.from) e) (formed.last_in i c) h in
      let stay : v ≡ v ++ u = sym (ap (λ (x : List ℕ). v ++ x) (reads_nothing nest e r) ∙ append-nil v) in
      at_end (sym (ap (λ (x : Arc). x.to) e)) (inr (i, subst (λ (x : List ℕ). R.Runs p x i) stay run, c))
  gone_on {a} {b} {v} u label h (leads_past n e) r =
      let none = none_read a v (ap (λ (x : Arc). x.from) e) h in
      at_end (sym (ap (λ (x : Arc). x.to) e)) (inl (ap (λ (l : List ℕ). l ++ u) none ∙ reads_nothing nest e r, n))

  gone_path : {a b : ℕ} {v w : List ℕ} → Gone a v → Path (Short nest k (automaton_arcs p before first)) a w b → Gone b (v ++ w)
  gone_path {a} {v = v} h stays = subst (λ (l : List ℕ). Gone a l) (sym (append-nil v)) h
  gone_path {b = b} {v = v} h (goes {u = x} {v = y} t q e) = subst (λ (l : List ℕ). Gone b l) (append_assoc v x y ∙ ap (λ (l : List ℕ). v ++ l) (sym e)) (gone_path (gone_on x t.along.label h (automaton_only p before first t.along.arc) t.along.reads_word) q)

  pub automaton_read : {w : List ℕ} → Path (Short nest k (automaton_arcs p before first)) before w (after_automaton p first) → R.Accepts p w
  automaton_read {w} path = by_place (gone_path (at_start refl refl) path)
    where
      by_place : Gone (after_automaton p first) w → R.Accepts p w
      by_place (at_start q n) = absurd (omega (arith, q, below))
      by_place (at_position j q lt run) = absurd (omega (arith, q, lt))
      by_place (at_end q acc) = acc
