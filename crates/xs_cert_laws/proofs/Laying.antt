-- How items are laid in a net of a grammar with other terminals and ignorables, whose automata are linked alike.
use Rattle.std.proofs.Common.{◌∙◌, ℕ, suc, List, [], ◌∷◌, ◌++◌, refl}
use Rattle.xs_gram.specs.declared.parts.GItem.{GItem}
use Rattle.xs_gram.specs.declared.parts.Terminal.{Terminal}
use Rattle.xs_gram.specs.declared.parts.Ignorable.{Ignorable}
use Rattle.xs_gram.specs.Grammar.{Grammar, rule_of, term_of, skip_of}
use Rattle.xs_regex.specs.Links.{AreLinkedAlike}
use Rattle.xs_loose.specs.Arcs.{Arc, pass, call, automaton_arcs}
use Rattle.xs_loose.specs.Groups.{group_number}
use Rattle.xs_loose.specs.Laying.{entry_state, exit_state, LaysItem, lays_fixed, lays_term, lays_skip, lays_non, LaysComponent, lays_component, LaysRules, lays_no_rule, lays_rule, lays_other_rule, LaysBody, lays_no_body, lays_member, lays_other, lays_group, LaysPart, part_none, part_then, part_group}
use Rattle.xs_sheet_laws.proofs.Other.{with_parts}
use Rattle.xs_sheet_laws.proofs.LooseKept.{one, one_back, member_back}
use Rattle.xs_sheet_laws.proofs.Weighed.{members_kept}
use Rattle.xs_cert_laws.proofs.Automata.{AreSame, itself, joined, with_first, same_as, after_same, automaton_same}

-- automata of the same numbers are linked alike
pub record KeepsLinks (g h : Grammar) : Type 0 where
  pub terms : (t : ℕ) → AreLinkedAlike (term_of g t).automaton (term_of h t).automaton
  pub skips : (k : ℕ) → AreLinkedAlike (skip_of g k).automaton (skip_of h k).automaton

-- a list with the same arcs of which P holds
pub record Laid (xs : List Arc) (P : List Arc → Type 0) : Type 0 where
  pub arcs : List Arc
  pub same : AreSame xs arcs
  pub lays : P arcs

module _ (g : Grammar) (ts : List Terminal) (ks : List Ignorable) (keeps : KeepsLinks g (with_parts g ts ks)) where
  mutual
    item_laid : {i : GItem} {before at after next : ℕ} {arcs : List Arc} → LaysItem g i before at arcs after next → Laid arcs (λ xs. LaysItem (with_parts g ts ks) i before at xs after next)
    item_laid {arcs = arcs} (lays_fixed e a n) = record { arcs = arcs; same = itself arcs; lays = lays_fixed e a n }
    item_laid (lays_term {t = t} {before = before} {at = at} e a n) = record {
      arcs = automaton_arcs (term_of (with_parts g ts ks) t).automaton before at;
      same = same_as e (automaton_same (keeps.terms t) before at);
      lays = lays_term refl (a ∙ after_same (keeps.terms t) at) n;
    }
    item_laid (lays_skip {k = k} {before = before} {at = at} e a n) = record {
      arcs = automaton_arcs (skip_of (with_parts g ts ks) k).automaton before at;
      same = same_as e (automaton_same (keeps.skips k) before at);
      lays = lays_skip refl (a ∙ after_same (keeps.skips k) at) n;
    }
    item_laid (lays_non {k = k} {before = before} {at = at} m c e a) =
        let own = component_laid c in record {
          arcs = pass before (entry_state at k) ∷ own.arcs;
          same = same_as e (with_first (pass before (entry_state at k)) own.same);
          lays = lays_non (members_kept g ts ks m) own.lays refl a;
        }

    component_laid : {c first next : ℕ} {arcs : List Arc} → LaysComponent g c first arcs next → Laid arcs (λ xs. LaysComponent (with_parts g ts ks) c first xs next)
    component_laid (lays_component m r) = let rules = rules_laid r in record { arcs = rules.arcs; same = rules.same; lays = lays_component (members_kept g ts ks m) rules.lays }

    rules_laid : {c first p at next : ℕ} {arcs : List Arc} → LaysRules g c first p at arcs next → Laid arcs (λ xs. LaysRules (with_parts g ts ks) c first p at xs next)
    rules_laid lays_no_rule = record { arcs = []; same = itself []; lays = lays_no_rule }
    rules_laid (lays_rule {c = c} {first = first} {p = p} {k = k} {place = place} {last = last} a m r b e) =
        let before = rules_laid r in
        let own = body_laid b in
        let leave : List Arc = pass last (exit_state first k) ∷ [] in record {
          arcs = before.arcs ++ pass (entry_state first k) place ∷ (own.arcs ++ leave);
          same = same_as e (joined before.same (with_first (pass (entry_state first k) place) (joined own.same (itself leave))));
          lays = lays_rule (one g ts ks c (rule_of g p).non a) (members_kept g ts ks m) before.lays own.lays refl;
        }
    rules_laid (lays_other_rule {c = c} {p = p} a r) =
        let before = rules_laid r in record { arcs = before.arcs; same = before.same; lays = lays_other_rule (λ h. a (one_back g ts ks c (rule_of g p).non h)) before.lays }

    body_laid : {c first p k before at after next : ℕ} {is : List GItem} {arcs : List Arc} → LaysBody g c first p k is before at arcs after next → Laid arcs (λ xs. LaysBody (with_parts g ts ks) c first p k is before at xs after next)
    body_laid lays_no_body = record { arcs = []; same = itself []; lays = lays_no_body }
    body_laid (lays_member {c = c} {first = first} {n = n} {s = s} {j = j} {before = before} {at = at} a m r e) =
        let rest = body_laid r in record {
          arcs = pass before (entry_state first j) ∷ pass (exit_state first j) at ∷ rest.arcs;
          same = same_as e (with_first (pass before (entry_state first j)) (with_first (pass (exit_state first j) at) rest.same));
          lays = lays_member {s = s} (one g ts ks c n a) (members_kept g ts ks m) rest.lays refl;
        }
    body_laid (lays_other {c = c} {i = i} p a o r e) =
        let own = item_laid o in
        let rest = body_laid r in record {
          arcs = own.arcs ++ rest.arcs;
          same = same_as e (joined own.same rest.same);
          lays = lays_other {i = i} p (λ h. a (member_back g ts ks c i h)) own.lays rest.lays refl;
        }
    body_laid (lays_group {p = p} {k = k} {before = before} {at = at} f l r is e) =
        let rest = body_laid r in record {
          arcs = call before (group_number g p k) at ∷ pass at (suc at) ∷ rest.arcs;
          same = same_as e (with_first (call before (group_number g p k) at) (with_first (pass at (suc at)) rest.same));
          lays = lays_group f l rest.lays is refl;
        }

  pub part_laid : {p k before at after next : ℕ} {is : List GItem} {arcs : List Arc} → LaysPart g p k is before at arcs after next → Laid arcs (λ xs. LaysPart (with_parts g ts ks) p k is before at xs after next)
  part_laid part_none = record { arcs = []; same = itself []; lays = part_none }
  part_laid (part_then {i = i} plain o r e) =
      let own = item_laid o in
      let rest = part_laid r in record {
        arcs = own.arcs ++ rest.arcs;
        same = same_as e (joined own.same rest.same);
        lays = part_then {i = i} plain own.lays rest.lays refl;
      }
  part_laid {p = p} (part_group {k = k} {before = before} {at = at} f l r is e) =
      let rest = part_laid r in record {
        arcs = call before (group_number g p k) at ∷ pass at (suc at) ∷ rest.arcs;
        same = same_as e (with_first (call before (group_number g p k) at) (with_first (pass at (suc at)) rest.same));
        lays = part_group f l rest.lays is refl;
      }
