-- How many states laid items take: as many as they weigh.
use Rattle.std.proofs.Common.{◌≡◌, ℕ, suc, ◌+◌, ◌*◌, ◌<◌, ◌≤◌, List, [], ◌∷◌, length, refl, arith, None, Some, Option}
use Rattle.xs_gram.specs.declared.parts.GItem.{GItem}
use Rattle.xs_gram.specs.declared.parts.GItem.TheVariants.{Non}
use Rattle.xs_gram.specs.Grammar.{Grammar, term_of, skip_of}
use Rattle.xs_gram.specs.Building.{NamesAreThere}
use Rattle.xs_gram.specs.Loose.{here, AreOne}
use Rattle.xs_gram.specs.Sound.{IsBuilt}
use Rattle.xs_regex.specs.Size.{size}
use Rattle.xs_check_laws.specs.Weights.{capped, Members, ItemWeighs, fixed_weighs, term_weighs, skip_weighs, non_weighs, ComponentWeighs, component_weighs, RulesWeigh, no_rule_yet, rule_of_member, rule_of_other, BodyWeighs, no_body, member_then, other_then, group_then, PartWeighs, no_part, part_then as weighs_then, part_group as weighs_group}
use Rattle.xs_loose.specs.declared.site.Home.{Home}
use Rattle.xs_loose.specs.declared.site.Spot.{Spot}
use Rattle.xs_loose.specs.Arcs.{Arc, after_word}
use Rattle.xs_loose.specs.Laying.{exit_state, LaysItem, lays_fixed, lays_term, lays_skip, lays_non, LaysComponent, lays_component, LaysRules, lays_no_rule, lays_rule, lays_other_rule, LaysBody, lays_no_body, lays_member, lays_other, lays_group, LaysPart, part_none, part_then, part_group}
use Rattle.xs_loose.specs.Walking.{AreNamed, Lays}
use Rattle.xs_loose.proofs.Laid.{rule_named, first_named, later_named, after_named, member_rank}
use Rattle.xs_check_laws.proofs.Weights.{members_once}

-- the states from one on and below another are as many as something weighs
pub record Span (W : ℕ → Type 0) (at next : ℕ) : Type 0 where
  pub states : ℕ
  pub is : next ≡ at + states
  pub weight : ℕ
  pub weighs : W weight
  pub same : capped weight ≡ capped states

module _ (g : Grammar) (built : IsBuilt g) where
  mutual
    pub item_span : {i : GItem} {b at t n : ℕ} {xs : List Arc} → LaysItem g i b at xs t n → NamesAreThere g i → Span (ItemWeighs g i) at n
    item_span (lays_fixed {f = f} e p q) there = record { states = length f; is = q; weight = length f; weighs = fixed_weighs refl; same = refl }
    item_span (lays_term {t = t} {s = s} e p q) there = record {
      states = suc (length (term_of g t).automaton.classes);
      is = omega (arith, p, q);
      weight = suc (size (term_of g t).regex);
      weighs = term_weighs {t = t} {s = s} refl;
      same = omega (arith, (built.automata.terms t there).positions);
    }
    item_span (lays_skip {k = k} e p q) there = record {
      states = suc (length (skip_of g k).automaton.classes);
      is = omega (arith, p, q);
      weight = suc (size (skip_of g k).regex);
      weighs = skip_weighs {k = k} refl;
      same = omega (arith, (built.automata.skips k there).positions);
    }
    item_span (lays_non {n = n} {s = s} ms own e p) there = let c = component_span own in record { states = c.states; is = c.is; weight = c.weight; weighs = non_weighs {s = s} c.weighs; same = c.same }

    pub component_span : {c first n : ℕ} {xs : List Arc} → LaysComponent g c first xs n → Span (ComponentWeighs g c) first n
    component_span (lays_component {count = count} ms rs) =
        let r = rules_span rs in
        record { states = 2 * count + r.states; is = omega (arith, r.is); weight = capped (2 * count + r.weight); weighs = component_weighs ms r.weighs refl; same = omega (arith, r.same) }

    pub rules_span : {c first p at n : ℕ} {xs : List Arc} → LaysRules g c first p at xs n → Span (RulesWeigh g c p) at n
    rules_span lays_no_rule = record { states = 0; is = omega arith; weight = 0; weighs = no_rule_yet; same = refl }
    rules_span (lays_rule {p = p} one k prev own e) =
        let r = rules_span prev in
        let b = body_span own (rule_named g built.range p) in
        record { states = r.states + suc b.states; is = omega (arith, r.is, b.is); weight = capped (r.weight + suc b.weight); weighs = rule_of_member one b.weighs r.weighs refl; same = omega (arith, r.same, b.same) }
    rules_span (lays_other_rule out prev) = let r = rules_span prev in record { states = r.states; is = r.is; weight = r.weight; weighs = rule_of_other out r.weighs; same = r.same }

    pub body_span : {c first p k b at t n : ℕ} {is : List GItem} {xs : List Arc} → LaysBody g c first p k is b at xs t n → AreNamed g is → Span (BodyWeighs g c is) at n
    body_span lays_no_body named = record { states = 0; is = omega arith; weight = 0; weighs = no_body; same = refl }
    body_span (lays_member {n = n} {s = s} one j rest e) named =
        let r = body_span rest (later_named g (Non n s) _ named) in
        record { states = suc r.states; is = omega (arith, r.is); weight = capped (suc r.weight); weighs = member_then {i = Non n s} one r.weighs refl; same = omega (arith, r.same) }
    body_span (lays_other {i = i} plain out item rest e) named =
        let o = item_span item (first_named g i _ named) in
        let r = body_span rest (later_named g i _ named) in
        record { states = o.states + r.states; is = omega (arith, o.is, r.is); weight = capped (o.weight + r.weight); weighs = other_then {i = i} plain out o.weighs r.weighs refl; same = omega (arith, o.same, r.same) }
    body_span (lays_group {l = l} {r = s} {inside = inside} {later = later} f i rest split e) named =
        let r = body_span rest (after_named g _ l inside s later split named) in
        record { states = 2 + r.states; is = omega (arith, r.is); weight = capped (2 + r.weight); weighs = group_then f i r.weighs split refl; same = omega (arith, r.same) }

  pub part_span : {p k b at t n : ℕ} {is : List GItem} {xs : List Arc} → LaysPart g p k is b at xs t n → AreNamed g is → Span (PartWeighs g is) at n
  part_span part_none named = record { states = 0; is = omega arith; weight = 0; weighs = no_part; same = refl }
  part_span (part_then {i = i} plain item rest e) named =
      let o = item_span item (first_named g i _ named) in
      let r = part_span rest (later_named g i _ named) in
      record { states = o.states + r.states; is = omega (arith, o.is, r.is); weight = capped (o.weight + r.weight); weighs = weighs_then {i = i} plain o.weighs r.weighs refl; same = omega (arith, o.same, r.same) }
  part_span (part_group {l = l} {r = s} {inside = inside} {later = later} f i rest split e) named =
      let r = part_span rest (after_named g _ l inside s later split named) in
      record { states = 2 + r.states; is = omega (arith, r.is); weight = capped (2 + r.weight); weighs = weighs_group f i r.weighs split refl; same = omega (arith, r.same) }

  -- states only get more
  pub item_rises : {i : GItem} {b at t n : ℕ} {xs : List Arc} → LaysItem g i b at xs t n → NamesAreThere g i → at ≤ n
  item_rises own there = omega (arith, (item_span own there).is)

  pub lays_rises : (home : Option Home) (p k : ℕ) (is : List GItem) (s : Spot) (xs : List Arc) (t n : ℕ) → Lays g home p k is s xs t n → AreNamed g is → s.at ≤ n
  lays_rises None p k is s xs t n own named = omega (arith, (part_span own named).is)
  lays_rises (Some h) p k is s xs t n own named = omega (arith, (body_span own named).is)

  -- the exit of a member is a state of its component
  pub rank_less : {c count n k : ℕ} → Members g c g.nons count → Members g c n k → AreOne g c n → n < g.nons → k < count
  rank_less {n = n} ms m one low = let r = member_rank ms n one low in omega (arith, members_once m r.is, r.less)

  pub exit_within : {c first n k next : ℕ} {xs : List Arc} → LaysComponent g c first xs next → Members g c n k → AreOne g c n → n < g.nons → exit_state first k < next
  exit_within (lays_component ms rs) m one low = omega (arith, rank_less ms m one low, (rules_span rs).is)

  -- the state after a word, and after an item
  word_low : (f : List ℕ) (before at bound : ℕ) → before < bound → at + length f ≤ bound → after_word f before at < bound
  word_low [] before at bound low room = low
  word_low (s ∷ f) before at bound low room = word_low f at (suc at) bound (omega (arith, room)) (omega (arith, room))

  pub after_low : {i : GItem} {b at t n : ℕ} {xs : List Arc} (bound : ℕ) → LaysItem g i b at xs t n → NamesAreThere g i → b < bound → n ≤ bound → t < bound
  after_low {b = b} {at = at} bound (lays_fixed {f = f} e p q) there low room = omega (arith, p, word_low f b at bound low (omega (arith, q, room)))
  after_low bound (lays_term e p q) there low room = omega (arith, q, room)
  after_low bound (lays_skip e p q) there low room = omega (arith, q, room)
  after_low bound (lays_non ms own e p) there low room = omega (arith, p, room, exit_within own ms (here, here) there)
