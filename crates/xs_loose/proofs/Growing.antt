-- How nets grow, arc by arc.
use Rattle.std.proofs.Common.{◌≡◌, ◌≢◌, ◌⊎◌, ℕ, List, [], ◌∷◌, ◌++◌, refl, sym, ap, subst, ◌∙◌, inl, inr, arith}
use Rattle.std.specs.List.{Contains}
use Rattle.std.proofs.lemmas.Bool.{cases_eq}
use Rattle.std.proofs.lemmas.List.Elements.{Contains-append_left, Contains-append_right, Contains-append_cases, Contains-push, Contains-push_cases}
use Rattle.xs_class.specs.Classes.{Has, HaveSame, IsClass}
use Rattle.xs_auto.specs.declared.call.Call.{Call}
use Rattle.xs_auto.specs.Edges.{Edge}
use Rattle.xs_auto.specs.Nets.{Graph, edges_of, moves_of, calls_of, KeepsStates, AddsEdge, AddsMove, AddsCall}
use Rattle.xs_loose.specs.Arcs.{Label, reads, passes, calls, Arc, read, pass, call}
use Rattle.xs_loose.specs.Growth.{HasLabel, HasArc, GrowsBy, NetGrows}

-- no arcs
pub grows_none : {Has : Arc → Type 0} (n : Graph) → GrowsBy [] n n Has Has
grows_none n = record {
  states = refl;
  start = refl;
  finals = λ i. refl;
  kept = λ x h. h;
  there = λ x h. absurd (omega (arith, h.1));
  only = λ x h. inl h;
}

-- and some, and then more
pub grows_then : {xs ys : List Arc} {l m n : Graph} {L M N : Arc → Type 0} → GrowsBy xs l m L M → GrowsBy ys m n M N → GrowsBy (xs ++ ys) l n L N
grows_then {xs} {ys} first second = record {
  states = second.states ∙ first.states;
  start = second.start ∙ first.start;
  finals = λ i. second.finals i ∙ first.finals i;
  kept = λ x h. second.kept x (first.kept x h);
  there = λ x h. elim (Contains-append_cases xs ys x h) [ inl a ↦ second.kept x (first.there x a) | inr b ↦ second.there x b ];
  only = λ x h. elim (second.only x h) [
    | inl m ↦ elim (first.only x m) [ inl l ↦ inl l | inr a ↦ inr (Contains-append_left xs ys x a) ]
    | inr b ↦ inr (Contains-append_right xs ys x b)
  ];
}

only_one : (x y : Arc) → Contains (y ∷ []) x → y ≡ x
only_one x y h = elim (Contains-push_cases [] y x h) [ inl none ↦ absurd (omega (arith, none.1)) | inr e ↦ e ]

-- of the lists of all states that of one has one element more
module _ {X : Type 0} (old new : ℕ → List X) (s : ℕ) (x : X) (more : new s ≡ old s ++ x ∷ []) (others : (a : ℕ) → a ≢ s → new a ≡ old a) where
  row_kept : (a : ℕ) (y : X) → Contains (old a) y → Contains (new a) y
  row_kept a y h = elim (cases_eq a s) [
    | inl e ↦ rw (e, more) (Contains-append_left (old s) (x ∷ []) y (rw e at h))
    | inr ne ↦ rw (others a ne) h
  ]

  row_only : (a : ℕ) (y : X) → Contains (new a) y → Contains (old a) y ⊎ ((s ≡ a) × (x ≡ y))
  row_only a y h = elim (cases_eq a s) [
    | inl e ↦ elim (Contains-push_cases (old s) x y (rw (e, more) at h)) [ inl before ↦ inl (rw e before) | inr last ↦ inr (sym e, last) ]
    | inr ne ↦ inl (rw (others a ne) at h)
  ]

-- one more arc of a net that keeps its states
arc_grows : (old new : Graph) (y : Arc) → KeepsStates old new → ((a : ℕ) (l : Label) (b : ℕ) → HasLabel old a l b → HasLabel new a l b) → HasArc new y → ((a : ℕ) (l : Label) (b : ℕ) → HasLabel new a l b → HasLabel old a l b ⊎ (y ≡ record { from = a; label = l; to = b })) → NetGrows (y ∷ []) old new
arc_grows old new y keeps kept there only = record {
  states = keeps.states;
  start = keeps.start;
  finals = keeps.finals;
  kept = λ x h. kept x.from x.label x.to h;
  there = λ x h. subst (λ (z : Arc). HasArc new z) (only_one x y h) there;
  only = λ x h. elim (only x.from x.label x.to h) [ inl before ↦ inl before | inr same ↦ inr (subst (λ (z : Arc). Contains (y ∷ []) z) same (Contains-push [] y)) ];
}

-- one more empty move
module _ (old new : Graph) (s t : ℕ) (adds : AddsMove old new s t) where
  move_kept : (a : ℕ) (l : Label) (b : ℕ) → HasLabel old a l b → HasLabel new a l b
  move_kept a (reads class) b h = rw (adds.edges a) h
  move_kept a passes b h = row_kept (moves_of old) (moves_of new) s t adds.moves adds.others a b h
  move_kept a (calls group) b h = rw (adds.calls a) h

  move_only : (a : ℕ) (l : Label) (b : ℕ) → HasLabel new a l b → HasLabel old a l b ⊎ (pass s t ≡ record { from = a; label = l; to = b })
  move_only a (reads class) b h = inl (rw (adds.edges a) at h)
  move_only a passes b h = elim (row_only (moves_of old) (moves_of new) s t adds.moves adds.others a b h) [ inl before ↦ inl before | inr same ↦ inr (rw (same.0, same.1) refl) ]
  move_only a (calls group) b h = inl (rw (adds.calls a) at h)

  pub move_grows : NetGrows (pass s t ∷ []) old new
  move_grows = arc_grows old new (pass s t) adds.keeps move_kept (rw adds.moves (Contains-push (moves_of old s) t)) move_only

-- one more edge
module _ (old new : Graph) (s : ℕ) (edge : Edge) (adds : AddsEdge old new s edge) where
  edge_kept : (a : ℕ) (l : Label) (b : ℕ) → HasLabel old a l b → HasLabel new a l b
  edge_kept a (reads class) b h = row_kept (edges_of old) (edges_of new) s edge adds.edges adds.others a (record { class = class; to = b }) h
  edge_kept a passes b h = rw (adds.moves a) h
  edge_kept a (calls group) b h = rw (adds.calls a) h

  edge_only : (a : ℕ) (l : Label) (b : ℕ) → HasLabel new a l b → HasLabel old a l b ⊎ (read s edge.class edge.to ≡ record { from = a; label = l; to = b })
  edge_only a (reads class) b h = elim (row_only (edges_of old) (edges_of new) s edge adds.edges adds.others a (record { class = class; to = b }) h) [ inl before ↦ inl before | inr same ↦ inr (rw same.0 (ap (λ (x : Edge). read a x.class x.to) same.1)) ]
  edge_only a passes b h = inl (rw (adds.moves a) at h)
  edge_only a (calls group) b h = inl (rw (adds.calls a) at h)

  pub edge_grows : NetGrows (read s edge.class edge.to ∷ []) old new
  edge_grows = arc_grows old new (read s edge.class edge.to) adds.keeps edge_kept (rw adds.edges (Contains-push (edges_of old s) edge)) edge_only

-- one more call
module _ (old new : Graph) (s : ℕ) (k : Call) (adds : AddsCall old new s k) where
  call_kept : (a : ℕ) (l : Label) (b : ℕ) → HasLabel old a l b → HasLabel new a l b
  call_kept a (reads class) b h = rw (adds.edges a) h
  call_kept a passes b h = rw (adds.moves a) h
  call_kept a (calls group) b h = row_kept (calls_of old) (calls_of new) s k adds.calls adds.others a (record { group = group; to = b }) h

  call_only : (a : ℕ) (l : Label) (b : ℕ) → HasLabel new a l b → HasLabel old a l b ⊎ (call s k.group k.to ≡ record { from = a; label = l; to = b })
  call_only a (reads class) b h = inl (rw (adds.edges a) at h)
  call_only a passes b h = inl (rw (adds.moves a) at h)
  call_only a (calls group) b h = elim (row_only (calls_of old) (calls_of new) s k adds.calls adds.others a (record { group = group; to = b }) h) [ inl before ↦ inl before | inr same ↦ inr (rw same.0 (ap (λ (x : Call). call a x.group x.to) same.1)) ]

  pub call_grows : NetGrows (call s k.group k.to ∷ []) old new
  call_grows = arc_grows old new (call s k.group k.to) adds.keeps call_kept (rw adds.calls (Contains-push (calls_of old s) k)) call_only

-- a class of one symbol is one range
pub one_symbol : (s : ℕ) (class : List (ℕ × ℕ)) → IsClass class → HaveSame class ((s, s) ∷ []) → class ≡ (s, s) ∷ []
one_symbol s [] sorted same = absurd ((same s).1 (inl (omega arith, omega arith)))
one_symbol s ((l, r) ∷ []) sorted same =
    let low = in_one ((same l).0 (inl (omega arith, omega (arith, sorted.1)))) in
    let high = in_one ((same r).0 (inl (omega (arith, sorted.1), omega arith))) in
    rw (low, high) refl
  where
    in_one : {x : ℕ} → Has ((s, s) ∷ []) x → x ≡ s
    in_one (inl h) = omega (arith, h.0, h.1)
    in_one (inr h) = absurd h
one_symbol s ((l, r) ∷ (m, n) ∷ rs) sorted same =
    let low = in_one ((same l).0 (inl (omega arith, omega (arith, sorted.1)))) in
    let next = in_one ((same m).0 (inr (inl (omega arith, omega (arith, sorted.3.1))))) in
    absurd (omega (arith, sorted.1, sorted.3.0, low, next))
  where
    in_one : {x : ℕ} → Has ((s, s) ∷ []) x → x ≡ s
    in_one (inl h) = omega (arith, h.0, h.1)
    in_one (inr h) = absurd h

pub symbol_grows : (old new : Graph) (class : List (ℕ × ℕ)) (from s to : ℕ) → IsClass class → HaveSame class ((s, s) ∷ []) → NetGrows (read from class to ∷ []) old new → NetGrows (read from ((s, s) ∷ []) to ∷ []) old new
symbol_grows old new class from s to sorted same grows = subst (λ (c : List (ℕ × ℕ)). NetGrows (read from c to ∷ []) old new) (one_symbol s class sorted same) grows
