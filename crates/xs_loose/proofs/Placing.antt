-- The rules of a component, laid one after another.
use Rattle.std.proofs.Common.{◌≡◌, ℕ, zero, suc, ◌+◌, ◌*◌, ◌-◌, ◌<◌, ◌≤◌, List, [], ◌∷◌, ◌++◌, length, take, get_or, slice_get, refl, sym, ap, subst, ◌∙◌, inl, inr, arith, Some}
use Rattle.std.specs.List.{Contains}
use Rattle.std.proofs.lemmas.Bool.{cases_eq}
use Rattle.std.proofs.lemmas.List.{get_or_read, take_all}
use Rattle.std.proofs.lemmas.List.Elements.{Contains-get_or}
use Rattle.xs_auto.specs.Nets.{Graph}
use Rattle.xs_gram.specs.declared.parts.GItem.{GItem}
use Rattle.xs_gram.specs.Grammar.{Grammar, rule_of}
use Rattle.xs_gram.specs.Fences.{spread, IsLevel}
use Rattle.xs_gram.specs.Loose.{here, AreOne}
use Rattle.xs_gram.specs.Sound.{IsBuilt}
use Rattle.xs_check_laws.specs.Weights.{heaviest, Members}
use Rattle.xs_loose.specs.declared.site.Home.{Home}
use Rattle.xs_loose.specs.declared.site.Site.{Site}
use Rattle.xs_loose.specs.declared.site.Spot.{Spot}
use Rattle.xs_loose.specs.declared.site.Task.{Task}
use Rattle.xs_loose.specs.Arcs.{Arc, pass}
use Rattle.xs_loose.specs.Growth.{NetGrows}
use Rattle.xs_loose.specs.Components.{IsListOf, IsNonOf, IsRuleIn}
use Rattle.xs_loose.specs.Laying.{entry_state, exit_state, LaysComponent, lays_component, LaysRules, lays_no_rule, lays_rule, lays_other_rule, LaysBody}
use Rattle.xs_loose.specs.Making.{IsRuleLaid, IsTaskDone}
use Rattle.xs_loose.specs.Parts.{part_items, IsPart}
use Rattle.xs_loose.specs.Walking.{IsHome, HasRoom, AreAllLaid}
use Rattle.xs_loose.specs.Weighing.{AreWeights}
use Rattle.xs_loose.specs.Work.{IsDone, IsSite, IsTask}
use Rattle.xs_loose.proofs.Bounds.{IsUpTo, up_to_own}
use Rattle.xs_loose.proofs.Gaining.{done_grows, done_then}
use Rattle.xs_loose.proofs.Growing.{grows_none}
use Rattle.xs_loose.proofs.Items.{one_there}
use Rattle.xs_loose.proofs.Laid.{rule_named, member_rank, component_laid, ComponentLaid}
use Rattle.xs_loose.proofs.Leaving.{component_ends}
use Rattle.xs_check_laws.proofs.Weights.{members_once}
use Rattle.xs_loose.proofs.Once.{rules_once}
use Rattle.xs_loose.proofs.Pushing.{element_is}
use Rattle.xs_loose.proofs.Spans.{rules_span, body_span, lays_rises}
use Rattle.xs_loose.proofs.Summing.{passed, not_passed, all_members}

-- rules of other components have no arcs
others : {g : Grammar} {c first p at next : ℕ} {xs : List Arc} → LaysRules g c first p at xs next → (r : ℕ) → p ≤ r → ((q : ℕ) → p ≤ q → q < r → AreOne g c (rule_of g q).non → ⊥) → LaysRules g c first r at xs next
others {g} {c} {first} {p} {at} {next} {xs} lays zero le none = let e : p ≡ 0 = omega arith in subst (λ (r : ℕ). LaysRules g c first r at xs next) e lays
others {g} {c} {first} {p} {at} {next} {xs} lays (suc r) le none = elim (cases_eq p (suc r)) [
  | inl e ↦ subst (λ (r : ℕ). LaysRules g c first r at xs next) e lays
  | inr ne ↦ lays_other_rule (none r (omega arith) (omega arith)) (others lays r (omega arith) (λ q l m. none q l (omega arith)))
]

-- where a rule of a component is laid among all of them
record RuleInside (g : Grammar) (c first p place bound : ℕ) : Type 0 where
  own : List Arc
  last : ℕ
  next : ℕ
  lays : LaysBody g c first p 0 (spread g p) place (suc place) own last next
  within : next ≤ bound

module _ (g : Grammar) (built : IsBuilt g) where
  rule_inside : {c first n at next p place : ℕ} {xs ys : List Arc} → LaysRules g c first n at xs next → LaysRules g c first p at ys place → AreOne g c (rule_of g p).non → p < n → RuleInside g c first p place next
  rule_inside lays_no_rule prior one low = absurd (omega (arith, low))
  rule_inside {c} {first} {at = at} {p = p} {place = place} {ys = ys} (lays_rule {p = m} {place = there} {last = last} {next = next} {own = own} o k prev body e) prior one low = elim (cases_eq m p) [
    | inl same ↦
        let before = subst (λ (q : ℕ). LaysRules g c first q at ys place) (sym same) prior in
        let start : there ≡ place = (rules_once g built.proper.once prev before).1 in
        let at_rule : LaysBody g c first p 0 (spread g p) there (suc there) own last next = subst (λ (q : ℕ). LaysBody g c first q 0 (spread g q) there (suc there) own last next) same body in
        record { own = own; last = last; next = next; lays = subst (λ (s : ℕ). LaysBody g c first p 0 (spread g p) s (suc s) own last next) start at_rule; within = omega arith }
    | inr ne ↦
        let r = rule_inside prev prior one (omega (arith, low)) in
        record { own = r.own; last = r.last; next = r.next; lays = r.lays; within = omega (arith, r.within, (body_span g built body (rule_named g built.range m)).is) }
  ]
  rule_inside {c} {p = p} (lays_other_rule {p = m} out prev) prior one low = elim (cases_eq p m) [
    | inl same ↦ absurd (out (subst (λ (q : ℕ). AreOne g c (rule_of g q).non) same one))
    | inr ne ↦ rule_inside prev prior one (omega (arith, low))
  ]

-- all rules of the component of c are laid from a state on and below the bound
pub record IsWhole (g : Grammar) (c first at bound : ℕ) : Type 0 where
  pub arcs : List Arc
  pub next : ℕ
  pub lays : LaysRules g c first (length g.rules) at arcs next
  pub within : next ≤ bound

-- of the rules of a component the first ones were laid, from a state on and below `place`
pub record RulesPlaced (g : Grammar) (weights rules : List ℕ) (h : Home) (i at place : ℕ) (old : Graph) (olds : List Task) (new : Graph) (news : List Task) : Type 0 where
  pub arcs : List Arc
  pub lays : (r : ℕ) → r ≤ length g.rules → IsUpTo rules i r → LaysRules g h.non h.first r at arcs place
  pub done : IsDone g weights arcs at place old olds new news

module _ (site : Site) (is : IsSite site) (component : ℕ) (rules : List ℕ) (list : IsListOf (IsRuleIn site.g.now site.comps.now component) rules) (h : Home) (of : IsNonOf site.g.now site.comps.now component h.non) where
  pub placed_none : (at : ℕ) (n : Graph) (ts : List Task) → RulesPlaced site.g.now site.tables.now.weights rules h 0 at at n ts n ts
  placed_none at n ts = record {
    arcs = [];
    lays = λ r low up. others lays_no_rule r (omega arith) (λ q l m one. let found = passed site.g.now site.comps.now is.built.range is.comps component rules list h.non of 0 r low up q m one in absurd (omega (arith, found.1)));
    done = done_grows site.g.now site.tables.now.weights ts (omega arith) (grows_none n);
  }

  module _ (i p : ℕ) (low : i < length rules) (e : p ≡ get_or rules i 0) where
    pub own_rule : IsRuleIn site.g.now site.comps.now component p
    own_rule = list.only p (subst (λ (x : ℕ). Contains rules x) (sym e) (Contains-get_or rules i 0 low))

    pub own_member : AreOne site.g.now h.non (rule_of site.g.now p).non
    unfolding own_rule
    own_member = one_there site.g.now site.comps.now is.comps component h.non of (rule_of site.g.now p).non (is.built.range.rules p own_rule.0) own_rule.1

    module _ (at place : ℕ) (old : Graph) (olds : List Task) (new : Graph) (news : List Task) (s : RulesPlaced site.g.now site.tables.now.weights rules h i at place old olds new news) where
      before_rule : LaysRules site.g.now h.non h.first p at s.arcs place
      unfolding own_rule
      before_rule = s.lays p (omega (arith, own_rule.0)) (subst (λ (x : ℕ). IsUpTo rules i x) (sym e) (up_to_own rules list i low))

      -- the next rule has room
      pub placed_room : (bound : ℕ) → IsWhole site.g.now h.non h.first at bound → HasRoom site.g.now bound (Some h) p 0 (spread site.g.now p) (record { before = place; at = suc place })
      unfolding own_rule own_member before_rule
      placed_room bound whole =
          let inside = rule_inside site.g.now is.built whole.lays before_rule own_member own_rule.0 in
          record { arcs = inside.own; after = inside.last; next = inside.next; lays = inside.lays; within = omega (arith, inside.within, whole.within) }

      pub placed_more : (next : ℕ) (newer : Graph) (newers : List Task) → IsRuleLaid site.g.now site.tables.now.weights h p place next new news newer newers → RulesPlaced site.g.now site.tables.now.weights rules h (i + 1) at next old olds newer newers
      unfolding own_rule own_member before_rule
      placed_more next newer newers r = record {
        arcs = s.arcs ++ pass (entry_state h.first r.rank) place ∷ (r.own ++ pass r.last (exit_state h.first r.rank) ∷ []);
        lays = λ q bound up.
            let below : p < q = omega (arith, e, up.before i (omega arith)) in
            others (lays_rule own_member r.members before_rule r.lays refl) q (omega arith) (λ m l k one. not_passed site.g.now site.comps.now is.built.range is.comps component rules list h.non of i p q low e bound up m l k one);
        done = done_then s.done r.done;
      }

module _ (g : Grammar) (built : IsBuilt g) (weights : List ℕ) (weigh : AreWeights g weights) (bound : ℕ) (t : Task) (is : IsTask g weights bound t) (few : bound ≤ suc heaviest) (count : ℕ) (members : Members g t.non g.nons count) where
  -- a task's component can be laid
  pub task_whole : IsWhole g t.non t.at (t.at + 2 * count) bound
  task_whole = by_laid (component_laid g built (weigh.each t.non is.there) (omega (arith, is.within, few)) t.at)
    where
      by_component : {arcs : List Arc} {next : ℕ} → LaysComponent g t.non t.at arcs next → next ≤ bound → IsWhole g t.non t.at (t.at + 2 * count) bound
      by_component {arcs} {next} (lays_component {count = own} ms rs) within = record {
        arcs = arcs;
        next = next;
        lays = subst (λ (k : ℕ). LaysRules g t.non t.at (length g.rules) (t.at + 2 * k) arcs next) (members_once ms members) rs;
        within = within;
      }

      by_laid : ComponentLaid g t.non t.at (t.at + get_or weights t.non 0) → IsWhole g t.non t.at (t.at + 2 * count) bound
      by_laid laid = by_component laid.is is.within

  -- its members have their states
  pub task_room : t.at + 2 * count ≤ bound
  unfolding task_whole
  task_room = omega (arith, (rules_span g built task_whole.lays).is, task_whole.within)

  pub task_home : IsHome g bound (Some (record { non = t.non; first = t.at }))
  task_home = (is.there, count, members, task_room)

  pub task_done : (i place : ℕ) (rules : List ℕ) (old : Graph) (olds : List Task) (new : Graph) (news : List Task) → IsUpTo rules i (length g.rules) → RulesPlaced g weights rules (record { non = t.non; first = t.at }) i (t.at + 2 * count) place old olds new news → IsTaskDone g weights t old olds new news
  unfolding task_whole
  task_done i place rules old olds new news up s =
      let all : LaysRules g t.non t.at (length g.rules) (t.at + 2 * count) s.arcs place = s.lays (length g.rules) (omega arith) up in
      let same : place ≡ task_whole.next = (rules_once g built.proper.once all task_whole.lays).1 in
      let lays : LaysComponent g t.non t.at s.arcs place = lays_component members all in
      let ends : place ≡ t.at + get_or weights t.non 0 = component_ends g built weights weigh t.non t.at place is.there lays (omega (arith, same, task_whole.within, few)) in
      record {
        own = s.arcs;
        next = place;
        lays = lays;
        gains = s.done.gains;
        tasks = s.done.tasks;
        less = omega (arith, s.done.less, ends, (member_rank members t.non (here, here) is.there).less);
      }

-- a whole rule as a part
whole_items : (g : Grammar) (p n : ℕ) → n ≡ length (spread g p) → part_items g (record { rule = p; start = 0; end = n }) ≡ spread g p
whole_items g p n e =
    let none : n - 0 ≡ n = omega arith in
    ap (λ (k : ℕ). take k (spread g p)) none ∙ take_all n (spread g p) (omega (arith, e))

pub whole_part : (g : Grammar) → IsBuilt g → (p n : ℕ) → p < length g.rules → n ≡ length (spread g p) → IsPart g (record { rule = p; start = 0; end = n })
whole_part g built p n low e = record {
  rule = low;
  order = omega arith;
  within = omega (arith, e);
  level = subst (λ (xs : List GItem). IsLevel g.fences xs) (sym (whole_items g p n e)) (built.proper.level p);
}

pub whole_room : (g : Grammar) (bound p n place : ℕ) (h : Home) → n ≡ length (spread g p) → HasRoom g bound (Some h) p 0 (spread g p) (record { before = place; at = suc place }) → HasRoom g bound (Some h) p 0 (part_items g (record { rule = p; start = 0; end = n })) (record { before = place; at = place + 1 })
whole_room g bound p n place h e room =
    let next : suc place ≡ place + 1 = omega arith in
    subst (λ (k : ℕ). HasRoom g bound (Some h) p 0 (part_items g (record { rule = p; start = 0; end = n })) (record { before = place; at = k })) next (subst (λ (xs : List GItem). HasRoom g bound (Some h) p 0 xs (record { before = place; at = suc place })) (sym (whole_items g p n e)) room)

module _ (g : Grammar) (built : IsBuilt g) (bound : ℕ) (h : Home) (p place : ℕ) where
  -- place 0 of a rule that has room is a state
  pub place_low : HasRoom g bound (Some h) p 0 (spread g p) (record { before = place; at = suc place }) → place < bound
  place_low room = omega (arith, lays_rises g built (Some h) p 0 (spread g p) (record { before = place; at = suc place }) room.arcs room.after room.next room.lays (rule_named g built.range p), room.within)

  -- the rule was laid between two moves
  pub rule_laid : (weights : List ℕ) (entry n : ℕ) (t : Spot) (l m k o : Graph) (ts us : List Task) → IsHome g bound (Some h) → p < length g.rules → AreOne g h.non (rule_of g p).non → n ≡ length (spread g p) → ((j : ℕ) → Members g h.non (rule_of g p).non j → entry ≡ entry_state h.first j) → NetGrows (pass entry place ∷ []) l m → AreAllLaid g weights (Some h) p 0 (part_items g (record { rule = p; start = 0; end = n })) (record { before = place; at = place + 1 }) m ts k us t → NetGrows (pass t.before (entry + 1) ∷ []) k o → IsRuleLaid g weights h p place t.at l ts o us
  rule_laid weights entry n t l m k o ts us home low one e is first all last =
      let rank = member_rank home.2 (rule_of g p).non one (built.range.rules p low) in
      let from : entry ≡ entry_state h.first rank.rank = is rank.rank rank.is in
      let to : entry + 1 ≡ exit_state h.first rank.rank = omega (arith, from) in
      let next : place + 1 ≡ suc place = omega arith in
      let on_items : LaysBody g h.non h.first p 0 (spread g p) place (place + 1) all.arcs t.before t.at = subst (λ (xs : List GItem). LaysBody g h.non h.first p 0 xs place (place + 1) all.arcs t.before t.at) (whole_items g p n e) all.lays in
      let done : IsDone g weights (pass entry place ∷ (all.arcs ++ pass t.before (entry + 1) ∷ [])) place t.at l ts o us = done_then (done_grows g weights ts (omega arith) first) (done_then all.done (done_grows g weights us (omega arith) last)) in
      record {
        rank = rank.rank;
        members = rank.is;
        own = all.arcs;
        last = t.before;
        lays = subst (λ (s : ℕ). LaysBody g h.non h.first p 0 (spread g p) place s all.arcs t.before t.at) next on_items;
        done = subst (λ (a : ℕ). IsDone g weights (pass (entry_state h.first rank.rank) place ∷ (all.arcs ++ pass t.before a ∷ [])) place t.at l ts o us) to (subst (λ (a : ℕ). IsDone g weights (pass a place ∷ (all.arcs ++ pass t.before (entry + 1) ∷ [])) place t.at l ts o us) from done);
      }

-- what is known of the component of a task, by the tables
pub record TaskFacts (site : Site) (bound : ℕ) (t : Task) (component count : ℕ) : Type 0 where
  pub of : IsNonOf site.g.now site.comps.now component t.non
  pub members : Members site.g.now t.non site.g.now.nons count
  pub whole : IsWhole site.g.now t.non t.at (t.at + 2 * count) bound
  pub home : IsHome site.g.now bound (Some (record { non = t.non; first = t.at }))
  pub room : t.at + 2 * count ≤ bound
  pub rules_low : component < length site.tables.now.lists.rules.items

pub task_facts : (site : Site) → IsSite site → (bound : ℕ) → bound ≤ suc heaviest → (t : Task) → IsTask site.g.now site.tables.now.weights bound t → (component : ℕ) → slice_get site.comps.now t.non ≡ Some component → (members : List ℕ) → members ≡ get_or site.tables.now.lists.members.items component members → (count : ℕ) → count ≡ length members → TaskFacts site bound t component count
task_facts site is bound few t task component e members at count long =
    let g = site.g.now in
    let comps = site.comps.now in
    let lists = site.tables.now.lists in
    let weights = site.tables.now.weights in
    let own : component ≡ get_or comps t.non 0 = element_is comps t.non component 0 e in
    let low : component < length lists.members.items = omega (arith, own, is.tables.lists.below t.non task.there) in
    let row : members ≡ get_or lists.members.items component [] = get_or_read lists.members.items component members low at [] in
    let list : IsListOf (IsNonOf g comps component) members = subst (λ (xs : List ℕ). IsListOf (IsNonOf g comps component) xs) (sym row) (is.tables.lists.members component) in
    let all : Members g t.non g.nons count = subst (λ (k : ℕ). Members g t.non g.nons k) (sym long) (all_members g comps is.comps component members list t.non (task.there, sym own)) in
    record {
      of = (task.there, sym own);
      members = all;
      whole = task_whole g is.built weights is.tables.weights bound t task few count all;
      home = task_home g is.built weights is.tables.weights bound t task few count all;
      room = task_room g is.built weights is.tables.weights bound t task few count all;
      rules_low = omega (arith, low, is.tables.lists.counted);
    }

-- the list that is read at a component has its rules
pub rules_listed : (site : Site) → IsSite site → (component : ℕ) → component < length site.tables.now.lists.rules.items → (rules row : List ℕ) → rules ≡ row → row ≡ get_or site.tables.now.lists.rules.items component row → IsListOf (IsRuleIn site.g.now site.comps.now component) rules
rules_listed site is component low rules row same at = subst (λ (xs : List ℕ). IsListOf (IsRuleIn site.g.now site.comps.now component) xs) (sym (same ∙ get_or_read site.tables.now.lists.rules.items component row low at [])) (is.tables.lists.rules component)
