-- Each light stretch can be laid, and takes as many states as it weighs.
use Rattle.std.proofs.Common.{◌≡◌, ℕ, suc, ◌+◌, ◌*◌, ◌<◌, ◌≤◌, List, [], ◌∷◌, ◌++◌, length, refl, sym, ap, subst, ◌∙◌, inl, inr, arith, Some}
use Rattle.std.specs.List.{Contains}
use Rattle.std.proofs.lemmas.Bool.{cases_eq}
use Rattle.std.proofs.lemmas.Option.{slice_get-get_or}
use Rattle.std.proofs.lemmas.List.Elements.{Contains-append_left, Contains-append_right}
use Rattle.xs_gram.specs.declared.parts.GItem.{GItem}
use Rattle.xs_gram.specs.declared.parts.GItem.TheVariants.{Fixed, Term, Non, Skip}
use Rattle.xs_gram.specs.Grammar.{Grammar, rule_of, term_of, skip_of}
use Rattle.xs_gram.specs.Building.{NamesAreThere}
use Rattle.xs_gram.specs.Fences.{spread, grouped}
use Rattle.xs_gram.specs.Loose.{here, AreOne, IsMember}
use Rattle.xs_gram.specs.Sound.{IsInRange, IsBuilt}
use Rattle.xs_gram.proofs.Spreading.{spread_names}
use Rattle.xs_check_laws.specs.Weights.{cap, Members, no_member, member_next, other_next, ItemWeighs, fixed_weighs, term_weighs, skip_weighs, non_weighs, ComponentWeighs, component_weighs, RulesWeigh, no_rule_yet, rule_of_member, rule_of_other, BodyWeighs, no_body, member_then, other_then, group_then, PartWeighs, no_part, part_then as weighs_then, part_group as weighs_group}
use Rattle.xs_loose.specs.Arcs.{Arc, pass, call, word_arcs, after_word, automaton_arcs, after_automaton}
use Rattle.xs_loose.specs.Groups.{group_number}
use Rattle.xs_loose.specs.Parts.{IsStretch}
use Rattle.xs_loose.specs.Walking.{AreNamed}
use Rattle.xs_loose.specs.Laying.{entry_state, exit_state, LaysItem, lays_fixed, lays_term, lays_skip, lays_non, LaysComponent, lays_component, LaysRules, lays_no_rule, lays_rule, lays_other_rule, LaysBody, lays_no_body, lays_member, lays_other, lays_group, LaysPart, part_none, part_then, part_group}

-- how many members of the component of c are below its member n, of `count` in all
pub record IsRank (g : Grammar) (c count n : ℕ) : Type 0 where
  pub rank : ℕ
  pub is : Members g c n rank
  pub less : rank < count

pub member_rank : {g : Grammar} {c bound count : ℕ} → Members g c bound count → (n : ℕ) → AreOne g c n → n < bound → IsRank g c count n
member_rank no_member n one low = absurd (omega (arith, low))
member_rank {g} {c} (member_next {n = m} {k = k} a rest) n one low = elim (cases_eq n m) [
  | inl e ↦ record { rank = k; is = subst (λ (x : ℕ). Members g c x k) (sym e) rest; less = omega arith }
  | inr ne ↦ let r = member_rank rest n one (omega (arith, low)) in record { rank = r.rank; is = r.is; less = omega (arith, r.less) }
]
member_rank {g} {c} (other_next {n = m} a rest) n one low = elim (cases_eq n m) [
  | inl e ↦ absurd (a (subst (λ (x : ℕ). AreOne g c x) e one))
  | inr ne ↦ member_rank rest n one (omega (arith, low))
]

pub rule_named : (g : Grammar) → IsInRange g → (p : ℕ) → AreNamed g (spread g p)
rule_named g range p i h = spread_names g range p h.0 i (slice_get-get_or (spread g p) h.0 i h.1 ∙ ap (λ (x : GItem). Some x) h.2)

pub first_named : (g : Grammar) (i : GItem) (is : List GItem) → AreNamed g (i ∷ is) → NamesAreThere g i
first_named g i is named = named i (Contains-append_left (i ∷ []) is i (0, omega arith, refl))

pub later_named : (g : Grammar) (i : GItem) (is : List GItem) → AreNamed g (i ∷ is) → AreNamed g is
later_named g i is named j h = named j (Contains-append_right (i ∷ []) is j h)

pub after_named : (g : Grammar) (is : List GItem) (l : ℕ) (inside : List GItem) (r : ℕ) (after : List GItem) → is ≡ grouped l inside r after → AreNamed g is → AreNamed g after
after_named g is l inside r after e named j h =
    named j (subst (λ (xs : List GItem). Contains xs j) (sym e) (Contains-append_right (Fixed (l ∷ []) ∷ []) (inside ++ Fixed (r ∷ []) ∷ after) j (Contains-append_right inside (Fixed (r ∷ []) ∷ after) j (Contains-append_right (Fixed (r ∷ []) ∷ []) after j h))))

-- something is laid, from one state on and below another
pub record ItemLaid (g : Grammar) (i : GItem) (before at next : ℕ) : Type 0 where
  pub arcs : List Arc
  pub after : ℕ
  pub is : LaysItem g i before at arcs after next

pub record ComponentLaid (g : Grammar) (c first next : ℕ) : Type 0 where
  pub arcs : List Arc
  pub is : LaysComponent g c first arcs next

pub record RulesLaid (g : Grammar) (c first bound at next : ℕ) : Type 0 where
  pub arcs : List Arc
  pub is : LaysRules g c first bound at arcs next

pub record BodyLaid (g : Grammar) (c first p k : ℕ) (items : List GItem) (before at next : ℕ) : Type 0 where
  pub arcs : List Arc
  pub after : ℕ
  pub is : LaysBody g c first p k items before at arcs after next

pub record PartLaid (g : Grammar) (p k : ℕ) (items : List GItem) (before at next : ℕ) : Type 0 where
  pub arcs : List Arc
  pub after : ℕ
  pub is : LaysPart g p k items before at arcs after next

item_ends : {g : Grammar} {i : GItem} {before at m n : ℕ} → m ≡ n → ItemLaid g i before at m → ItemLaid g i before at n
item_ends {g} {i} {before} {at} e own = subst (λ (x : ℕ). ItemLaid g i before at x) e own

component_ends : {g : Grammar} {c first m n : ℕ} → m ≡ n → ComponentLaid g c first m → ComponentLaid g c first n
component_ends {g} {c} {first} e own = subst (λ (x : ℕ). ComponentLaid g c first x) e own

rules_end : {g : Grammar} {c first p at m n : ℕ} → m ≡ n → RulesLaid g c first p at m → RulesLaid g c first p at n
rules_end {g} {c} {first} {p} {at} e own = subst (λ (x : ℕ). RulesLaid g c first p at x) e own

body_ends : {g : Grammar} {c first p k before at m n : ℕ} {items : List GItem} → m ≡ n → BodyLaid g c first p k items before at m → BodyLaid g c first p k items before at n
body_ends {g} {c} {first} {p} {k} {before} {at} {items = items} e own = subst (λ (x : ℕ). BodyLaid g c first p k items before at x) e own

pub part_ends : {g : Grammar} {p k before at m n : ℕ} {items : List GItem} → m ≡ n → PartLaid g p k items before at m → PartLaid g p k items before at n
part_ends {g} {p} {k} {before} {at} {items = items} e own = subst (λ (x : ℕ). PartLaid g p k items before at x) e own

-- one more member, before items that are laid
member_laid : {g : Grammar} {c count first p k before at next : ℕ} {items : List GItem} → Members g c g.nons count → (i : GItem) → IsMember g c i → NamesAreThere g i → BodyLaid g c first p (suc k) items at (suc at) next → BodyLaid g c first p k (i ∷ items) before at next
member_laid ms (Fixed f) m there own = absurd m
member_laid ms (Term t s) m there own = absurd m
member_laid {first = first} {before = before} {at = at} ms (Non n s) m there own =
    let rank = member_rank ms n m there in record {
      arcs = pass before (entry_state first rank.rank) ∷ pass (exit_state first rank.rank) at ∷ own.arcs;
      after = own.after;
      is = lays_member m rank.is own.is refl;
    }
member_laid ms (Skip k) m there own = absurd m

module _ (g : Grammar) (built : IsBuilt g) where
  mutual
    pub item_laid : {i : GItem} {w : ℕ} → ItemWeighs g i w → w < cap → NamesAreThere g i → (before at : ℕ) → ItemLaid g i before at (at + w)
    item_laid (fixed_weighs {f = f} e) light there before at = record {
      arcs = word_arcs f before at;
      after = after_word f before at;
      is = lays_fixed refl refl (ap (λ (n : ℕ). at + n) e);
    }
    item_laid (term_weighs {t = t} {s = s} e) light there before at = record {
      arcs = automaton_arcs (term_of g t).automaton before at;
      after = after_automaton (term_of g t).automaton at;
      is = lays_term {t = t} {s = s} refl refl (omega (arith, e, (built.automata.terms t there).positions));
    }
    item_laid (skip_weighs {k = k} e) light there before at = record {
      arcs = automaton_arcs (skip_of g k).automaton before at;
      after = after_automaton (skip_of g k).automaton at;
      is = lays_skip {k = k} refl refl (omega (arith, e, (built.automata.skips k there).positions));
    }
    item_laid (non_weighs {n = n} {s = s} (component_weighs {members = count} {rules = rules} ms rs e)) light there before at =
        let rank = member_rank ms n (here, here) there in
        let own = rules_laid rs (omega (arith, e, light)) (omega arith) ms at (at + 2 * count) in
        item_ends (omega (arith, e, light)) (record {
          arcs = pass before (entry_state at rank.rank) ∷ own.arcs;
          after = exit_state at rank.rank;
          is = lays_non {s = s} rank.is (lays_component ms own.is) refl refl;
        })

    pub component_laid : {c w : ℕ} → ComponentWeighs g c w → w < cap → (first : ℕ) → ComponentLaid g c first (first + w)
    component_laid (component_weighs {members = count} {rules = rules} ms rs e) light first =
        let own = rules_laid rs (omega (arith, e, light)) (omega arith) ms first (first + 2 * count) in
        component_ends (omega (arith, e, light)) (record { arcs = own.arcs; is = lays_component ms own.is })

    pub rules_laid : {c p w count : ℕ} → RulesWeigh g c p w → w < cap → p ≤ length g.rules → Members g c g.nons count → (first at : ℕ) → RulesLaid g c first p at (at + w)
    rules_laid no_rule_yet light low ms first at = rules_end (omega arith) (record { arcs = []; is = lays_no_rule })
    rules_laid (rule_of_member {p = p} {body = body} {before = before} one b r e) light low ms first at =
        let rank = member_rank ms (rule_of g p).non one (built.range.rules p (omega (arith, low))) in
        let prev = rules_laid r (omega (arith, e, light)) (omega (arith, low)) ms first at in
        let own = body_laid b (omega (arith, e, light)) (rule_named g built.range p) ms first p 0 (at + before) (suc (at + before)) in
        rules_end (omega (arith, e, light)) (record { arcs = prev.arcs ++ pass (entry_state first rank.rank) (at + before) ∷ (own.arcs ++ pass own.after (exit_state first rank.rank) ∷ []); is = lays_rule one rank.is prev.is own.is refl })
    rules_laid (rule_of_other out r) light low ms first at =
        let prev = rules_laid r light (omega (arith, low)) ms first at in
        record { arcs = prev.arcs; is = lays_other_rule out prev.is }

    pub body_laid : {c w count : ℕ} {items : List GItem} → BodyWeighs g c items w → w < cap → AreNamed g items → Members g c g.nons count → (first p k before at : ℕ) → BodyLaid g c first p k items before at (at + w)
    body_laid no_body light named ms first p k before at = body_ends (omega arith) (record { arcs = []; after = before; is = lays_no_body })
    body_laid (member_then {rest = rest} {i = i} m b e) light named ms first p k before at =
        let own = body_laid b (omega (arith, e, light)) (later_named g i _ named) ms first p (suc k) at (suc at) in
        body_ends (omega (arith, e, light)) (member_laid ms i m (first_named g i _ named) own)
    body_laid (other_then {own = v} {rest = rest} {i = i} plain out h b e) light named ms first p k before at =
        let item = item_laid h (omega (arith, e, light)) (first_named g i _ named) before at in
        let own = body_laid b (omega (arith, e, light)) (later_named g i _ named) ms first p (suc k) item.after (at + v) in
        body_ends (omega (arith, e, light)) (record { arcs = item.arcs ++ own.arcs; after = own.after; is = lays_other plain out item.is own.is refl })
    body_laid (group_then {l = l} {r = r} {rest = rest} {inside = inside} {after = after} f lv b split e) light named ms first p k before at =
        let own = body_laid b (omega (arith, e, light)) (after_named g _ l inside r after split named) ms first p (suc (suc (k + length inside))) (suc at) (suc (suc at)) in
        body_ends (omega (arith, e, light)) (record { arcs = call before (group_number g p k) at ∷ pass at (suc at) ∷ own.arcs; after = own.after; is = lays_group f lv own.is split refl })

  pub part_laid : {w : ℕ} {items : List GItem} → PartWeighs g items w → w < cap → AreNamed g items → (p k before at : ℕ) → PartLaid g p k items before at (at + w)
  part_laid no_part light named p k before at = part_ends (omega arith) (record { arcs = []; after = before; is = part_none })
  part_laid (weighs_then {own = v} {rest = rest} {i = i} plain h b e) light named p k before at =
      let item = item_laid h (omega (arith, e, light)) (first_named g i _ named) before at in
      let own = part_laid b (omega (arith, e, light)) (later_named g i _ named) p (suc k) item.after (at + v) in
      part_ends (omega (arith, e, light)) (record { arcs = item.arcs ++ own.arcs; after = own.after; is = part_then plain item.is own.is refl })
  part_laid (weighs_group {l = l} {r = r} {rest = rest} {inside = inside} {after = after} f lv b split e) light named p k before at =
      let own = part_laid b (omega (arith, e, light)) (after_named g _ l inside r after split named) p (suc (suc (k + length inside))) (suc at) (suc (suc at)) in
      part_ends (omega (arith, e, light)) (record { arcs = call before (group_number g p k) at ∷ pass at (suc at) ∷ own.arcs; after = own.after; is = part_group f lv own.is split refl })

-- what the items of a stretch name is there
pub stretch_named : (g : Grammar) → IsInRange g → (p k : ℕ) (items : List GItem) → IsStretch g p k items → AreNamed g items
stretch_named g range p k items s i h = rule_named g range p i (subst (λ (xs : List GItem). Contains xs i) (sym s.split) (Contains-append_right s.before (items ++ s.after) i (Contains-append_left items s.after i h)))
