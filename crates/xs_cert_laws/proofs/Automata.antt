-- Automata that are linked alike have the same arcs in a net.
use Rattle.std.proofs.Common.{◌≡◌, ◌∙◌, ◌↔◌, ℕ, ◌+◌, List, [], ◌∷◌, ◌++◌, length, slice_index_or, sym, ap, subst, inl, inr}
use Rattle.std.specs.List.{Contains}
use Rattle.xs_regex.specs.declared.position.Position.{Position}
use Rattle.xs_regex.specs.Links.{AreLinkedAlike}
use Rattle.xs_loose.specs.Arcs.{Arc, read, pass, class_at, after_automaton, automaton_arcs}
use Rattle.xs_loose.proofs.Among.{Among, among_left, among_right, among_either, of_contains, to_contains}
use Rattle.xs_loose.proofs.Along.{Within, first_arc, next_arc, last_arc, past_arc}
use Rattle.xs_loose.proofs.Pieces.{AutomatonArc, leads_in, leads_on, leads_out, leads_past, automaton_only}

-- the lists have the same arcs
pub record AreSame (xs ys : List Arc) : Type 0 where
  pub to : Within xs ys
  pub back : Within ys xs

pub itself : (xs : List Arc) → AreSame xs xs
itself xs = record { to = record { each = λ x h. h }; back = record { each = λ x h. h } }

pub turned : {xs ys : List Arc} → AreSame xs ys → AreSame ys xs
turned s = record { to = s.back; back = s.to }

joined_within : {xs ys us vs : List Arc} → Within xs ys → Within us vs → Within (xs ++ us) (ys ++ vs)
joined_within {xs} {ys} {us} {vs} w o = record { each = λ x h. elim (among_either xs us h) [ inl a ↦ among_left ys vs (w.each x a) | inr b ↦ among_right ys vs (o.each x b) ] }

pub joined : {xs ys us vs : List Arc} → AreSame xs ys → AreSame us vs → AreSame (xs ++ us) (ys ++ vs)
joined s t = record { to = joined_within s.to t.to; back = joined_within s.back t.back }

-- with the same first arc
pub with_first : {xs ys : List Arc} (x : Arc) → AreSame xs ys → AreSame (x ∷ xs) (x ∷ ys)
with_first x s = joined (itself (x ∷ [])) s

-- the first list by an equation
pub same_as : {xs ys zs : List Arc} → xs ≡ ys → AreSame ys zs → AreSame xs zs
same_as {zs = zs} e s = subst (λ (l : List Arc). AreSame l zs) (sym e) s

pub contained : {xs ys : List Arc} → AreSame xs ys → (x : Arc) → Contains xs x ↔ Contains ys x
contained {xs} {ys} s x = (λ h. to_contains (s.to.each x (of_contains xs x h)), λ h. to_contains (s.back.each x (of_contains ys x h)))

pub linked_back : {p q : Position} → AreLinkedAlike p q → AreLinkedAlike q p
linked_back a = record { classes = sym a.classes; nullable = sym a.nullable; first = sym a.first; last = sym a.last; follow = λ j k. ((a.follow j k).1, (a.follow j k).0) }

class_same : {p q : Position} → AreLinkedAlike p q → (k : ℕ) → class_at q k ≡ class_at p k
class_same a k = ap (λ (cs : List (List (ℕ × ℕ))). slice_index_or cs k []) (sym a.classes)

pub after_same : {p q : Position} → AreLinkedAlike p q → (first : ℕ) → after_automaton p first ≡ after_automaton q first
after_same a first = ap (λ (cs : List (List (ℕ × ℕ))). first + length cs) a.classes

-- each arc of the first is one of the second
module _ (p q : Position) (alike : AreLinkedAlike p q) (before first : ℕ) where
  all : Within (automaton_arcs q before first) (automaton_arcs q before first)
  all = record { each = λ x h. h }

  arc_kept : {x : Arc} → AutomatonArc p before first x → Among (automaton_arcs q before first) x
  arc_kept (leads_in k c e) =
      let h = first_arc q before first all k (subst (λ (ks : List ℕ). Contains ks k) alike.first c) in
      subst (λ (x : Arc). Among (automaton_arcs q before first) x) (ap (λ (class : List (ℕ × ℕ)). read before class (first + k)) (class_same alike k) ∙ e) h
  arc_kept (leads_on j k l e) =
      let h = next_arc q before first all j k ((alike.follow j k).0 l) in
      subst (λ (x : Arc). Among (automaton_arcs q before first) x) (ap (λ (class : List (ℕ × ℕ)). read (first + j) class (first + k)) (class_same alike k) ∙ e) h
  arc_kept (leads_out k c e) =
      let h = last_arc q before first all k (subst (λ (ks : List ℕ). Contains ks k) alike.last c) in
      subst (λ (x : Arc). Among (automaton_arcs q before first) x) (ap (λ (n : ℕ). pass (first + k) n) (sym (after_same alike first)) ∙ e) h
  arc_kept (leads_past n e) =
      let h = past_arc q before first all (sym alike.nullable ∙ n) in
      subst (λ (x : Arc). Among (automaton_arcs q before first) x) (ap (λ (n : ℕ). pass before n) (sym (after_same alike first)) ∙ e) h

  automaton_within : Within (automaton_arcs p before first) (automaton_arcs q before first)
  automaton_within = record { each = λ x h. arc_kept (automaton_only p before first h) }

pub automaton_same : {p q : Position} → AreLinkedAlike p q → (before first : ℕ) → AreSame (automaton_arcs p before first) (automaton_arcs q before first)
automaton_same {p} {q} a before first = record { to = automaton_within p q a before first; back = automaton_within q p (linked_back a) before first }
