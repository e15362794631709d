-- A net between the names of the states of another goes by each word by which that one does.
use Rattle.std.proofs.Common.{◌≡◌, ℕ, ◌-◌, ◌<◌, Bool, true, false, List, [], ◌∷◌, get_or, sym, ap, subst, ◌∙◌, inl, inr, arith}
use Rattle.std.specs.Prelude.{nat_lt, if◌then◌else◌}
use Rattle.std.specs.List.{Contains}
use Rattle.xs_class.specs.Classes.{Has}
use Rattle.xs_class.proofs.Lists.{first_in}
use Rattle.xs_auto.specs.Nests.{Group, Crossing, stands, drifts, takes, enters}
use Rattle.xs_coarse.specs.declared.arc.Arc.{Arc}
use Rattle.xs_coarse.specs.Coarse.{Table, Net, HasArc, class_label, group_label, class_at, view}
use Rattle.xs_coarse.proofs.Views.{view_move, view_move_arc, view_edge, view_edge_arc, view_call, view_call_arc}
use Rattle.xs_coarse_net.specs.Reaching.{left_arc, left_arcs, left_net}
use Rattle.xs_coarse_net.specs.Renaming.{name_of, named, IsCarried, IsRenamed}
use Rattle.xs_coarse_net.proofs.Leftover.{left_in, left_of, left_within}
use Rattle.xs_coarse_net.proofs.Rows.{none_in, one_in}
use Rattle.xs_coarse_net.proofs.Viewing.{from_low}

pub carried_more : (names : List ℕ) (old new : List Arc) (x : Arc) → ((y : Arc) → Contains old y → Contains new y) → IsCarried names old x → IsCarried names new x
carried_more names old new x more (inl same) = inl same
carried_more names old new x more (inr there) = inr (more (named names x) there)

-- what is left of an arc that reads nothing reads nothing
choice_nothing : (b c : Bool) (x y : Arc) → x.label ≡ 0 → Contains (if b then x ∷ [] else (if c then record { from = x.from; label = 0; to = x.to } ∷ [] else [])) y → y.label ≡ 0
choice_nothing true c x y none h = ap (λ (z : Arc). z.label) (one_in x y h) ∙ none
choice_nothing false true x y none h = ap (λ (z : Arc). z.label) (one_in (record { from = x.from; label = 0; to = x.to }) y h)
choice_nothing false false x y none h = absurd (none_in y h)

-- what is left of an arc is left between the names of its states
choice_named : (names : List ℕ) (b c : Bool) (x y : Arc) → Contains (if b then x ∷ [] else (if c then record { from = x.from; label = 0; to = x.to } ∷ [] else [])) y → Contains (if b then named names x ∷ [] else (if c then record { from = (named names x).from; label = 0; to = (named names x).to } ∷ [] else [])) (named names y)
choice_named names true c x y h = subst (λ (z : Arc). Contains (named names x ∷ []) (named names z)) (sym (one_in x y h)) (first_in (named names x) [])
choice_named names false true x y h =
    let back : Arc = record { from = x.from; label = 0; to = x.to } in
    subst (λ (z : Arc). Contains (named names back ∷ []) (named names z)) (sym (one_in back y h)) (first_in (named names back) [])
choice_named names false false x y h = absurd (none_in y h)

choice_along : (names : List ℕ) (b c : Bool) (x y : Arc) → name_of names x.from ≡ name_of names x.to → Contains (if b then x ∷ [] else (if c then record { from = x.from; label = 0; to = x.to } ∷ [] else [])) y → name_of names y.from ≡ name_of names y.to
choice_along names true c x y same h = subst (λ (z : Arc). name_of names z.from ≡ name_of names z.to) (sym (one_in x y h)) same
choice_along names false true x y same h = subst (λ (z : Arc). name_of names z.from ≡ name_of names z.to) (sym (one_in (record { from = x.from; label = 0; to = x.to }) y h)) same
choice_along names false false x y same h = absurd (none_in y h)

carried_left : (has : List Bool) (names : List ℕ) (arcs : List Arc) (x y : Arc) → Contains (left_arc has x) y → IsCarried names arcs x → IsCarried names (left_arcs has arcs) y
carried_left has names arcs x y left (inl same) = inl (choice_nothing (nat_lt x.label 65536) (get_or has (x.label - 65536) false) x y same.0 left, choice_along names (nat_lt x.label 65536) (get_or has (x.label - 65536) false) x y same.1 left)
carried_left has names arcs x y left (inr there) = inr (left_in has arcs (named names x) (named names y) there (choice_named names (nat_lt x.label 65536) (get_or has (x.label - 65536) false) x y left))

-- what is left of a net is left between the names of its states
pub left_renamed : (has : List Bool) (names : List ℕ) (m n : Net) → IsRenamed names m n → IsRenamed names (left_net has m) (left_net has n)
left_renamed has names m n r = record {
  within = left_within has n r.within;
  arc = λ y h.
      let was = left_of has m.arcs y h in
      carried_left has names n.arcs was.arc y was.left (r.arc was.arc was.there);
}

-- an arc that reads something is there
named_arc : (names : List ℕ) (n : Net) (x : Arc) → 0 < x.label → IsCarried names n.arcs x → HasArc n (name_of names x.from) x.label (name_of names x.to)
named_arc names n x some (inl same) = absurd (omega (arith, some, same.0))
named_arc names n x some (inr there) = there

module _ (t : Table) {names : List ℕ} {m n : Net} (r : IsRenamed names m n) (s e i j : ℕ) where
  pub renamed_crossing : {nest : List Group} {x y : ℕ} {w : List ℕ} → Crossing nest (view t m s e) x w y → Crossing nest (view t n i j) (name_of names x) w (name_of names y)
  renamed_crossing stands = stands
  renamed_crossing {nest} {y = y} {w = w} (drifts {a = a} {b = b} move p) =
      let rest = renamed_crossing p in
      elim (r.arc (record { from = a; label = 0; to = b }) (view_move_arc t m s e a b move).1) [
        | inl same ↦ subst (λ (u : ℕ). Crossing nest (view t n i j) u w (name_of names y)) (sym same.1) rest
        | inr there ↦ drifts (view_move t n i j (name_of names a) (name_of names b) (from_low n (name_of names a) 0 (name_of names b) r.within there) there) rest
      ]
  renamed_crossing (takes {a = a} {s = z} x move has p) =
      let arc = view_edge_arc t m s e a x move in
      let label = class_label arc.number in
      let to = name_of names x.to in
      let there = named_arc names n (record { from = a; label = label; to = x.to }) (omega arith) (r.arc (record { from = a; label = label; to = x.to }) arc.arc) in
      takes (record { class = class_at t arc.number; to = to }) (view_edge t n i j (name_of names a) arc.number to (from_low n (name_of names a) label to r.within there) arc.below there) (subst (λ (l : List (ℕ × ℕ)). Has l z) arc.class has) (renamed_crossing p)
  renamed_crossing (enters {a = a} x group move is starts content final p split) =
      let arc = view_call_arc t m s e a x move in
      let label = group_label t x.group in
      let to = name_of names x.to in
      let there = named_arc names n (record { from = a; label = label; to = x.to }) (omega arith) (r.arc (record { from = a; label = label; to = x.to }) arc.1) in
      enters (record { group = x.group; to = to }) group (view_call t n i j (name_of names a) x.group to (from_low n (name_of names a) label to r.within there) there) is starts content final (renamed_crossing p) split
