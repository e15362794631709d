-- A copy of the part of a net that is reached from a state follows the net.
use Rattle.std.proofs.Common.{◌≡◌, ◌≢◌, ℕ, zero, suc, ◌+◌, ◌-◌, ◌<◌, List, [], ◌∷◌, ◌++◌, length, get_or, set, slice_get, replicate, take, refl, sym, ap, subst, ◌∙◌, inl, inr, arith, Some, length-set, get_or-set_other, get_or-set_same}
use Rattle.std.proofs.lemmas.Bool.{cases_eq}
use Rattle.std.proofs.lemmas.Option.{same_Some, slice_get-get_or, slice_get_within}
use Rattle.std.specs.List.{All, Contains}
use Rattle.std.proofs.lemmas.List.Elements.{Contains-append_left, Contains-append_right}
use Rattle.xs_class.proofs.Lists.{first_in, get_push, get_last, get_left}
use Rattle.xs_auto.specs.Nets.{Graph, moves_of}
use Rattle.xs_auto.specs.Nests.{Group, Crossing, stands, drifts, takes, enters}
use Rattle.xs_coarse.specs.declared.arc.Arc.{Arc}
use Rattle.xs_coarse.specs.Coarse.{Table, Net, IsWithin, HasArc, view}
use Rattle.xs_coarse.specs.Covers.{Follows}
use Rattle.xs_coarse.proofs.Views.{view_move}
use Rattle.xs_coarse_net.specs.declared.fragment.Tracer.{Tracer}
use Rattle.xs_coarse_net.specs.Fragments.{AreNamed, Reaches, IsCopied, AreCopied}
use Rattle.xs_coarse_net.proofs.Rows.{take_each}
use Rattle.xs_coarse_net.proofs.Viewing.{from_low, Stands, stands_crossing}

pub reaches_none : {trace : Tracer} → Reaches trace trace
reaches_none = record { named = λ h. h; long = refl; kept = λ x u e. e; order = λ u x e. e; arcs = λ x c. c }

pub reaches_on : {a b c : Tracer} → Reaches a b → Reaches b c → Reaches a c
reaches_on f g = record {
  named = λ h. g.named (f.named h);
  long = g.long ∙ f.long;
  kept = λ x u e. g.kept x u (f.kept x u e);
  order = λ u x e. g.order u x (f.order u x e);
  arcs = λ x c. g.arcs x (f.arcs x c);
}

pub copied_on : {old new : Tracer} {from : ℕ} {x : Arc} → Reaches old new → IsCopied old from x → IsCopied new from x
copied_on {old} {new} {from} {x} r h = record { name = h.name; is = r.kept x.to h.name h.is; arc = r.arcs _ h.arc }

-- no state is named at first
zeros : (n x z : ℕ) → get_or (replicate n z) x z ≡ z
zeros zero x z = refl
zeros (suc n) zero z = refl
zeros (suc n) (suc x) z = zeros n x z

pub named_none : (n : ℕ) → AreNamed (replicate n 0) []
named_none n = record { place = λ x u e. absurd (omega (arith, zeros n x 0, e)); name = λ x u e. absurd cc }

-- a state that had no name takes the next one
pub named_more : (names order : List ℕ) (x : ℕ) → x < length names → get_or names x 0 ≡ 0 → AreNamed names order → AreNamed (set names x (suc (length order))) (order ++ x ∷ [])
named_more names order x low none was = record { place = place; name = name }
  where
    here : get_or (set names x (suc (length order))) x 0 ≡ suc (length order)
    here = rw get_or-set_same refl

    other : (y : ℕ) → y ≢ x → get_or (set names x (suc (length order))) y 0 ≡ get_or names y 0
    other y ne = rw get_or-set_other refl

    place : (y u : ℕ) → get_or (set names x (suc (length order))) y 0 ≡ suc u → slice_get (order ++ x ∷ []) u ≡ Some y
    place y u e = elim (cases_eq y x) [
      | inl same ↦
          let both : suc (length order) ≡ suc u = sym here ∙ ap (λ (z : ℕ). get_or (set names x (suc (length order))) z 0) (sym same) ∙ e in
          let at : u ≡ length order = omega (arith, both) in
          subst (λ (v : ℕ). slice_get (order ++ x ∷ []) v ≡ Some y) (sym at) (get_last order x ∙ ap (λ (z : ℕ). Some z) (sym same))
      | inr ne ↦ get_left order (x ∷ []) u y (was.place y u (sym (other y ne) ∙ e))
    ]

    name : (y u : ℕ) → slice_get (order ++ x ∷ []) u ≡ Some y → get_or (set names x (suc (length order))) y 0 ≡ suc u
    name y u e = elim (get_push order x y u e) [
      | inl h ↦
          let ne : y ≢ x = λ same. absurd (omega (arith, none, sym (ap (λ (z : ℕ). get_or names z 0) same) ∙ was.name y u h)) in
          other y ne ∙ was.name y u h
      | inr h ↦ ap (λ (z : ℕ). get_or (set names x (suc (length order))) z 0) (sym h.1) ∙ here ∙ ap suc (sym h.0)
    ]

set_other : (names : List ℕ) (x y n : ℕ) → y ≢ x → get_or (set names x n) y 0 ≡ get_or names y 0
set_other names x y n ne = rw get_or-set_other refl

pub reached_more : (old new : Tracer) (x : ℕ) → x < length old.names.items → get_or old.names.items x 0 ≡ 0 → new.names.items ≡ set old.names.items x (suc (length old.order.items)) → new.order.items ≡ old.order.items ++ x ∷ [] → new.arcs.items ≡ old.arcs.items → Reaches old new
reached_more old new x low none names order arcs = record {
  named = λ h. rw (names, order) (named_more old.names.items old.order.items x low none h);
  long = ap length names ∙ length-set old.names.items x (suc (length old.order.items));
  kept = λ y u e.
      let ne : y ≢ x = λ same. absurd (omega (arith, none, sym (ap (λ (z : ℕ). get_or old.names.items z 0) same) ∙ e)) in
      ap (λ (l : List ℕ). get_or l y 0) names ∙ set_other old.names.items x y (suc (length old.order.items)) ne ∙ e;
  order = λ u y e. ap (λ (l : List ℕ). slice_get l u) order ∙ get_left old.order.items (x ∷ []) u y e;
  arcs = λ y c. subst (λ (l : List Arc). Contains l y) (sym arcs) c;
}

-- one more arc
pub arc_more : (old new : Tracer) (x : Arc) → new.names.items ≡ old.names.items → new.order.items ≡ old.order.items → new.arcs.items ≡ old.arcs.items ++ x ∷ [] → Reaches old new
arc_more old new x names order arcs = record {
  named = λ h. rw (names, order) h;
  long = ap length names;
  kept = λ y u e. ap (λ (l : List ℕ). get_or l y 0) names ∙ e;
  order = λ u y e. ap (λ (l : List ℕ). slice_get l u) order ∙ e;
  arcs = λ y c. subst (λ (l : List Arc). Contains l y) (sym arcs) (Contains-append_left old.arcs.items (x ∷ []) y c);
}

-- the name of a state that was reached early did not change
name_back : (old new : Tracer) (y u : ℕ) → AreNamed old.names.items old.order.items → AreNamed new.names.items new.order.items → Reaches old new → u < length old.order.items → get_or new.names.items y 0 ≡ suc u → get_or old.names.items y 0 ≡ suc u
name_back old new y u was named r low e =
    let x : ℕ = get_or old.order.items u 0 in
    let there : slice_get old.order.items u ≡ Some x = slice_get-get_or old.order.items u 0 low in
    let same : y ≡ x = same_Some _ _ (sym (named.place y u e) ∙ r.order u x there) in
    ap (λ (z : ℕ). get_or old.names.items z 0) same ∙ was.name x u there

-- one more state whose arcs were copied
pub copied_more : (whole : Net) (old new : Tracer) (done x from : ℕ) → from ≡ suc done → AreNamed old.names.items old.order.items → AreNamed new.names.items new.order.items → slice_get old.order.items done ≡ Some x → Reaches old new → AreCopied whole old done → ((label y : ℕ) → HasArc whole x label y → IsCopied new from (record { from = x; label = label; to = y })) → AreCopied whole new (done + 1)
copied_more whole old new done x from is was named at r copied row y u label z e low has = elim (cases_eq u done) [
  | inl same ↦
      let there : Some y ≡ Some x = sym (named.place y u e) ∙ ap (λ (v : ℕ). slice_get new.order.items v) same ∙ r.order done x at in
      let one = row label z (subst (λ (v : ℕ). HasArc whole v label z) (same_Some _ _ there) has) in
      record { name = one.name; is = one.is; arc = subst (λ (v : ℕ). Contains new.arcs.items (record { from = v; label = label; to = suc one.name })) (is ∙ ap suc (sym same)) one.arc }
  | inr ne ↦
      let lower : u < done = omega (arith, low) in
      let long = slice_get_within old.order.items done x at in
      copied_on r (copied y u label z (name_back old new y u was named r (omega (arith, lower, long)) e) lower has)
]

-- a path that goes on by an empty move
crossing_last : {nest : List Group} {n : Graph} {a b c : ℕ} {w : List ℕ} → Crossing nest n a w b → Contains (moves_of n b) c → Crossing nest n a w c
crossing_last stands m = drifts m stands
crossing_last (drifts x p) m = drifts x (crossing_last p m)
crossing_last (takes e x has p) m = takes e x has (crossing_last p m)
crossing_last (enters k group x is starts content final p split) m = enters k group x is starts content final (crossing_last p m) split

-- where the arcs of all states reached were copied, and the copy is entered and left by empty moves,
-- the copy follows the net
pub copy_follows : (t : Table) (whole n : Net) (trace : Tracer) (start end last first : ℕ) → AreNamed trace.names.items trace.order.items → AreCopied whole trace (length trace.order.items) → get_or trace.names.items start 0 ≡ suc first → All (IsWithin n.states) n.arcs → ((x : Arc) → Contains trace.arcs.items x → Contains n.arcs x) → HasArc n 0 0 (suc first) → ((u : ℕ) → get_or trace.names.items end 0 ≡ suc u → HasArc n (suc u) 0 last) → Follows (view t whole 0 0) start end (view t n 0 0) 0 last
copy_follows t whole n trace start end last first named copied begun within arcs enter leave = λ nest w p.
    let to = stands_crossing t {m = whole} {n = n} {H = HasName} stand 0 0 0 0 p (suc first) (first, begun, refl) in
    let h = to.1 in
    let out = leave h.0 h.1 in
    let on : Crossing nest (view t n 0 0) (suc first) w (suc h.0) = subst (λ (v : ℕ). Crossing nest (view t n 0 0) (suc first) w v) h.2 to.2 in
    drifts (view_move t n 0 0 0 (suc first) (from_low n 0 0 (suc first) within enter) enter) (crossing_last on (view_move t n 0 0 (suc h.0) last (from_low n (suc h.0) 0 last within out) out))
  where
    HasName : ℕ → ℕ → Type 0
    HasName x u = (v : ℕ) × (get_or trace.names.items x 0 ≡ suc v) × (u ≡ suc v)

    stand : Stands whole n HasName
    stand = record {
      within = within;
      arc = λ x u l y h has.
          let one = copied x h.0 l y h.1 (slice_get_within trace.order.items h.0 x (named.place x h.0 h.1)) has in
          (suc one.name, (one.name, one.is, refl), subst (λ (v : ℕ). HasArc n v l (suc one.name)) (sym h.2) (arcs _ one.arc));
    }

-- an arc that was copied
pub copied_here : (old new : Tracer) (from to : ℕ) (x : Arc) → to ≡ get_or old.names.items x.to 0 → 0 < to → new.names.items ≡ old.names.items → new.arcs.items ≡ old.arcs.items ++ (record { from = from; label = x.label; to = to }) ∷ [] → IsCopied new from x
copied_here old new from to x is some names arcs =
    let next : to ≡ suc (to - 1) = omega (arith, some) in record {
      name = to - 1;
      is = ap (λ (l : List ℕ). get_or l x.to 0) names ∙ sym is ∙ next;
      arc = subst (λ (l : List Arc). Contains l (record { from = from; label = x.label; to = suc (to - 1) })) (sym arcs) (subst (λ (v : ℕ). Contains (old.arcs.items ++ (record { from = from; label = x.label; to = to }) ∷ []) (record { from = from; label = x.label; to = v })) next (Contains-append_right old.arcs.items ((record { from = from; label = x.label; to = to }) ∷ []) (record { from = from; label = x.label; to = to }) (first_in (record { from = from; label = x.label; to = to }) [])));
    }

-- one more arc of a row
pub row_copied : (old new : Tracer) (from : ℕ) (row : List Arc) (i : ℕ) (d : Arc) → i < length row → Reaches old new → ((y : Arc) → Contains (take i row) y → IsCopied old from y) → IsCopied new from (get_or row i d) → (y : Arc) → Contains (take (i + 1) row) y → IsCopied new from y
row_copied old new from row i d low r was here = take_each (IsCopied new from) row i d low (λ y h. copied_on r (was y h)) here

-- all arcs of a row
pub row_done : (whole : Net) (new : Tracer) (from place state x : ℕ) (order : List ℕ) (row : List Arc) → place < length order → state ≡ get_or order place 0 → ((label y : ℕ) → HasArc whole state label y → Contains row (record { from = state; label = label; to = y })) → ((y : Arc) → Contains row y → IsCopied new from y) → slice_get order place ≡ Some x → (label y : ℕ) → HasArc whole x label y → IsCopied new from (record { from = x; label = label; to = y })
row_done whole new from place state x order row low is complete copied at label y has =
    let same : state ≡ x = same_Some _ _ (ap (λ (v : ℕ). Some v) is ∙ sym (slice_get-get_or order place 0 low) ∙ at) in
    let here : HasArc whole state label y = subst (λ (v : ℕ). HasArc whole v label y) (sym same) has in
    let one = copied (record { from = state; label = label; to = y }) (complete label y here) in
    record { name = one.name; is = one.is; arc = one.arc }
