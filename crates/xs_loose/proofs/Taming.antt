-- No class of an edge has a fence symbol, so the nest of a grammar and its nets may be searched.
use Rattle.std.proofs.Common.{◌≡◌, inl, inr, ℕ, zero, suc, List, [], ◌∷◌, ◌++◌, refl, sym, ap, subst, ◌∙◌, arith, append-nil, false, slice_index_or}
use Rattle.std.specs.Prelude.{IsSome}
use Rattle.std.specs.declared.option.Option.{Option}
use Rattle.std.specs.List.{Contains}
use Rattle.xs_class.specs.Classes.{Has}
use Rattle.xs_class.proofs.Lists.{first_in, rest_in}
use Rattle.xs_class.proofs.Truth.{false_true, or_left, or_right}
use Rattle.xs_regex.specs.declared.position.Position.{Position}
use Rattle.xs_auto.specs.Edges.{Edge}
use Rattle.xs_auto.specs.Nets.{Graph, edges_of}
use Rattle.xs_auto.specs.Nests.{Group, IsGroup, IsTame}
use Rattle.xs_gram.specs.declared.parts.GItem.{GItem}
use Rattle.xs_gram.specs.Grammar.{Grammar, term_of, skip_of}
use Rattle.xs_gram.specs.Sound.{IsBuilt}
use Rattle.xs_gram.specs.Building.{NamesAreThere}
use Rattle.xs_gram.specs.Fences.{spread, is_left, is_right, is_fence, IsFence, IsPlain, IsUnfenced}
use Rattle.xs_gram.proofs.Fences.{is_left_of, is_right_of, one_right, one_left, sides_apart}
use Rattle.xs_gram.proofs.Classes.{term_unfenced, skip_unfenced}
use Rattle.xs_loose.specs.Arcs.{Label, reads, passes, calls, Arc, read, pass, call, word_arcs, automaton_arcs}
use Rattle.xs_loose.specs.Groups.{group_number}
use Rattle.xs_loose.specs.Laying.{entry_state, exit_state, LaysItem, lays_fixed, lays_term, lays_skip, lays_non, lays_component, LaysRules, lays_no_rule, lays_rule, lays_other_rule, LaysBody, lays_no_body, lays_member, lays_other, lays_group, LaysPart, part_none, part_then, part_group}
use Rattle.xs_loose.specs.Nets.{IsNumbered, IsNestOf}
use Rattle.xs_loose.specs.Laws.{NestsAreFenced, NetsAreTame}
use Rattle.xs_loose.proofs.Among.{Among, nothing, first_or_rest, among_either, of_contains}
use Rattle.xs_loose.proofs.Spelling.{Stands, first_named, after_item, after_group, inside_stands}
use Rattle.xs_loose.proofs.Pieces.{AutomatonArc, leads_in, leads_on, leads_out, leads_past, automaton_only}

-- the label reads no fence symbol
abbrev IsClear : List (ℕ × ℕ) → Label → Type 0
IsClear fs (reads class) = IsUnfenced fs class
IsClear fs passes = Unit {0}
IsClear fs (calls h) = Unit {0}

-- none of the arcs reads one
record AreClear (fs : List (ℕ × ℕ)) (arcs : List Arc) : Type 0 where
  each : (x : Arc) → Among arcs x → IsClear fs x.label

clear_as : {fs : List (ℕ × ℕ)} {own arcs : List Arc} → arcs ≡ own → AreClear fs own → AreClear fs arcs
clear_as {fs} e h = subst (λ (l : List Arc). AreClear fs l) (sym e) h

no_arc : {fs : List (ℕ × ℕ)} → AreClear fs []
no_arc = record { each = λ x h. absurd (nothing h) }

one_more : {fs : List (ℕ × ℕ)} {arcs : List Arc} (y : Arc) → IsClear fs y.label → AreClear fs arcs → AreClear fs (y ∷ arcs)
one_more {fs} y own rest = record { each = λ x h. elim (first_or_rest h) [ inl e ↦ subst (λ (z : Arc). IsClear fs z.label) e own | inr later ↦ rest.each x later ] }

both_clear : {fs : List (ℕ × ℕ)} (xs ys : List Arc) → AreClear fs xs → AreClear fs ys → AreClear fs (xs ++ ys)
both_clear xs ys p q = record { each = λ x h. elim (among_either xs ys h) [ inl left ↦ p.each x left | inr right ↦ q.each x right ] }

only_one : {s x : ℕ} → Has ((s, s) ∷ []) x → x ≡ s
only_one (inl h) = omega (arith, h.0, h.1)
only_one (inr h) = absurd h

word_clear : (fs : List (ℕ × ℕ)) (f : List ℕ) (before first : ℕ) → ((s : ℕ) → Contains f s → is_fence fs s ≡ false) → AreClear fs (word_arcs f before first)
word_clear fs [] before first plain = no_arc
word_clear fs (s ∷ w) before first plain =
    one_more (read before ((s, s) ∷ []) first) (λ x h. subst (λ (n : ℕ). is_fence fs n ≡ false) (sym (only_one h)) (plain s (first_in s w))) (word_clear fs w first (suc first) (λ x h. plain x (rest_in s w x h)))

class_clear : (fs : List (ℕ × ℕ)) (classes : List (List (ℕ × ℕ))) (k : ℕ) → ((class : List (ℕ × ℕ)) → Contains classes class → IsUnfenced fs class) → IsUnfenced fs (slice_index_or classes k [])
class_clear fs [] k each = λ s h. absurd h
class_clear fs (c ∷ cs) zero each = each c (first_in c cs)
class_clear fs (c ∷ cs) (suc k) each = class_clear fs cs k (λ class h. each class (rest_in c cs class h))

automaton_clear : (fs : List (ℕ × ℕ)) (p : Position) (before first : ℕ) → ((class : List (ℕ × ℕ)) → Contains p.classes class → IsUnfenced fs class) → AreClear fs (automaton_arcs p before first)
automaton_clear fs p before first each = record { each = λ x h. by_kind x (automaton_only p before first h) }
  where
    by_kind : (x : Arc) → AutomatonArc p before first x → IsClear fs x.label
    by_kind x (leads_in k c e) = subst (λ (z : Arc). IsClear fs z.label) e (class_clear fs p.classes k each)
    by_kind x (leads_on j k l e) = subst (λ (z : Arc). IsClear fs z.label) e (class_clear fs p.classes k each)
    by_kind x (leads_out k c e) = subst (λ (z : Arc). IsClear fs z.label) e tt
    by_kind x (leads_past n e) = subst (λ (z : Arc). IsClear fs z.label) e tt

module _ (g : Grammar) (built : IsBuilt g) where
  mutual
    item_clear : {i : GItem} {before start after next : ℕ} {arcs : List Arc} → LaysItem g i before start arcs after next → IsPlain g.fences i → NamesAreThere g i → AreClear g.fences arcs
    item_clear {before = before} {start = start} (lays_fixed {f = f} e a n) plain named = clear_as e (word_clear g.fences f before start plain)
    item_clear {before = before} {start = start} (lays_term {t = t} e a n) plain named = clear_as e (automaton_clear g.fences (term_of g t).automaton before start (term_unfenced g built t named))
    item_clear {before = before} {start = start} (lays_skip {k = k} e a n) plain named = clear_as e (automaton_clear g.fences (skip_of g k).automaton before start (skip_unfenced g built k named))
    item_clear {before = before} {start = start} (lays_non {k = k} members (lays_component count rules) e a) plain named = clear_as e (one_more (pass before (entry_state start k)) tt (rules_clear rules))

    rules_clear : {c first bound start next : ℕ} {arcs : List Arc} → LaysRules g c first bound start arcs next → AreClear g.fences arcs
    rules_clear lays_no_rule = no_arc
    rules_clear {first = first} (lays_rule {p = p} {k = k} {place = place} {last = last} {before = before} {own = own} one members rest body e) =
        let whole : Stands g p 0 (spread g p) = record { before = []; after = []; split = sym (append-nil (spread g p)); place = refl } in
        clear_as e (both_clear before (pass (entry_state first k) place ∷ (own ++ pass last (exit_state first k) ∷ [])) (rules_clear rest) (one_more (pass (entry_state first k) place) tt (both_clear own (pass last (exit_state first k) ∷ []) (body_clear body whole) (one_more (pass last (exit_state first k)) tt no_arc))))
    rules_clear (lays_other_rule a rest) = rules_clear rest

    body_clear : {c first p j before start after next : ℕ} {is : List GItem} {arcs : List Arc} → LaysBody g c first p j is before start arcs after next → Stands g p j is → AreClear g.fences arcs
    body_clear lays_no_body place = no_arc
    body_clear {first = first} {before = before} {start = start} (lays_member {j = i} one members rest e) place = clear_as e (one_more (pass before (entry_state first i)) tt (one_more (pass (exit_state first i) start) tt (body_clear rest (after_item place))))
    body_clear (lays_other {own = own} {rest = others} plain apart lays rest e) place = clear_as e (both_clear own others (item_clear lays plain (first_named built place)) (body_clear rest (after_item place)))
    body_clear {p = p} {j = j} {before = before} {start = start} (lays_group {r = r} {inside = inside} f v rest opened e) place = clear_as e (one_more (call before (group_number g p j) start) tt (one_more (pass start (suc start)) tt (body_clear rest (after_group inside r opened place))))

  part_clear : {p j before start after next : ℕ} {is : List GItem} {arcs : List Arc} → LaysPart g p j is before start arcs after next → Stands g p j is → AreClear g.fences arcs
  part_clear part_none place = no_arc
  part_clear (part_then {own = own} {rest = others} plain lays rest e) place = clear_as e (both_clear own others (item_clear lays plain (first_named built place)) (part_clear rest (after_item place)))
  part_clear {p} {j} {before} {start} (part_group {r = r} {inside = inside} f v rest opened e) place = clear_as e (one_more (call before (group_number g p j) start) tt (one_more (pass start (suc start)) tt (part_clear rest (after_group inside r opened place))))

  -- a symbol that no fence has is none of a group's
  apart : {l r s : ℕ} → IsFence g.fences l r → is_fence g.fences s ≡ false → (s ≡ l → ⊥) × (s ≡ r → ⊥)
  apart {l} {r} {s} f plain =
      (λ e. false_true (sym plain ∙ ap (λ (n : ℕ). is_fence g.fences n) e ∙ or_left (is_left g.fences l) (is_right g.fences l) (is_left_of f)), λ e. false_true (sym plain ∙ ap (λ (n : ℕ). is_fence g.fences n) e ∙ or_right (is_left g.fences r) (is_right g.fences r) (is_right_of f)))

  module _ (nest : List Group) (nested : IsNestOf g nest) where
    tame_at : {p j : ℕ} {is : List GItem} {n : Graph} → Stands g p j is → IsNumbered g p j is n → IsTame nest n
    tame_at {n = n} place d = record {
      start = subst (λ (o : Option ℕ). IsSome o) (sym d.start) refl;
      plain = plain;
    }
      where
        plain : (a s : ℕ) (e : Edge) → Contains (edges_of n a) e → Has e.class s → (h : ℕ) (group : Group) → IsGroup nest h group → (s ≡ group.left → ⊥) × (s ≡ group.right → ⊥)
        plain a s e c has h group is =
            let clear : IsUnfenced g.fences e.class = (part_clear d.lays place).each (read a e.class e.to) (of_contains d.arcs (read a e.class e.to) ((d.edges a e).0 c)) in
            apart (nested.only h group is).3.at.fence (clear s has)

    group_tame : (h : ℕ) (group : Group) → IsGroup nest h group → IsTame nest group.content
    group_tame h group is = let found = nested.only h group is in tame_at (inside_stands found.3.at) found.3.content

    fence_of : (h : ℕ) (group : Group) → IsGroup nest h group → IsFence g.fences group.left group.right
    fence_of h group is = (nested.only h group is).3.at.fence

pub nets_are_tame : NetsAreTame
nets_are_tame g built nest nested p k is n stretch d = tame_at g built nest nested (record { before = stretch.before; after = stretch.after; split = stretch.split; place = stretch.place }) d

pub nests_are_fenced : NestsAreFenced
nests_are_fenced g built nest nested = record {
  tame = group_tame g built nest nested;
  one_right = λ h k a b x y e. one_right built.proper.once (fence_of g built nest nested h a x) (fence_of g built nest nested k b y) e;
  one_left = λ h k a b x y e. one_left built.proper.once (fence_of g built nest nested h a x) (fence_of g built nest nested k b y) e;
  sides = λ h k a b x y e. sides_apart built.proper.once (fence_of g built nest nested h a x) (fence_of g built nest nested k b y) e;
}
