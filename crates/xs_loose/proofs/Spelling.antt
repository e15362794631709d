-- Each loose word is spelt by a path of the net: by recursion on how the word is loose.
use Rattle.std.proofs.Common.{◌≡◌, ℕ, suc, ◌+◌, ◌<◌, ◌≤◌, List, [], ◌∷◌, ◌++◌, length, refl, sym, ap, subst, ◌∙◌, arith, append_assoc, append-nil, length-append, Some, slice_get}
use Rattle.xs_class.proofs.Lists.{cons_parts}
use Rattle.xs_auto.specs.Nets.{Graph}
use Rattle.xs_auto.specs.Nests.{Group, AcceptsNested}
use Rattle.xs_gram.specs.declared.parts.GItem.{GItem}
use Rattle.xs_gram.specs.declared.parts.GItem.TheVariants.{Fixed, Non}
use Rattle.xs_gram.specs.Grammar.{Grammar, term_of, skip_of, IsRuleOf}
use Rattle.xs_gram.specs.Sound.{IsBuilt}
use Rattle.xs_gram.specs.Building.{NamesAreThere}
use Rattle.xs_gram.specs.Fences.{spread, IsFence, IsLevel, grouped, OuterAt, GroupAt}
use Rattle.xs_gram.specs.Loose.{Spot, entry, exit, at, AreOne, IsMember, LooseItem, loose_fixed, loose_term, loose_skip, loose_non, IsLoose, loose_none, loose_then, loose_group, Step, begins, passes, encloses, calls, ends, returns, Walk, stays, goes}
use Rattle.xs_gram.proofs.Levels.{no_group, plain_not_group, group_more, group_split, length_grouped, level_once, outer_at}
use Rattle.xs_gram.proofs.Spreading.{spread_names}
use Rattle.xs_check_laws.specs.Weights.{Members}
use Rattle.xs_check_laws.proofs.Words.{loose_level}
use Rattle.xs_loose.specs.Arcs as A
use Rattle.xs_loose.specs.Arcs.{Arc, pass, call, word_arcs, after_word, automaton_arcs, after_automaton}
use Rattle.xs_loose.specs.Groups.{group_number}
use Rattle.xs_loose.specs.Laying.{entry_state, exit_state, LaysItem, lays_fixed, lays_term, lays_skip, lays_non, lays_component, LaysRules, LaysPart, part_none, part_then, part_group}
use Rattle.xs_loose.specs.Nets.{IsNumbered, IsNestOf}
use Rattle.xs_loose.specs.Parts.{IsStretch}
use Rattle.xs_loose.proofs.Among.{Among}
use Rattle.xs_loose.proofs.Paths as P
use Rattle.xs_loose.proofs.Paths.{Path, path_on, path_one}
use Rattle.xs_loose.proofs.Along.{Entering, Along, Within, within_all, within_as, within_on, within_left, within_right, within_first, within_rest, moved, crossed, word_path, automaton_path}
use Rattle.xs_check_laws.proofs.Weights.{members_once}
use Rattle.xs_loose.proofs.Once.{non_named}
use Rattle.xs_loose.proofs.Finding.{members_below, SameGroup, group_once, body_state, body_first, body_last, ItemFound, found_member, found_other, found_moved, GroupFound, group_moved, item_found, group_found, rule_state, RuleFound, rule_found}

-- where items stand in a rule
pub record Stands (g : Grammar) (p k : ℕ) (is : List GItem) : Type 0 where
  pub before : List GItem
  pub after : List GItem
  pub split : spread g p ≡ before ++ (is ++ after)
  pub place : k ≡ length before

pub after_item : {g : Grammar} {p k : ℕ} {i : GItem} {is : List GItem} → Stands g p k (i ∷ is) → Stands g p (suc k) is
after_item {i = i} {is = is} s = record { before = s.before ++ i ∷ []; after = s.after; split = s.split ∙ sym (append_assoc s.before (i ∷ []) (is ++ s.after)); place = omega (arith, s.place, length-append s.before (i ∷ [])) }

seam : (before after : List GItem) (i : GItem) → slice_get (before ++ i ∷ after) (length before) ≡ Some i
seam [] after i = refl
seam (x ∷ xs) after i = seam xs after i

-- what the first of the items names is there
pub first_named : {g : Grammar} {p k : ℕ} {i : GItem} {is : List GItem} → IsBuilt g → Stands g p k (i ∷ is) → NamesAreThere g i
first_named {g} {p} {k} {i} {is} built s = spread_names g built.range p k i (ap (λ (x : List GItem). slice_get x k) s.split ∙ ap (λ (n : ℕ). slice_get (s.before ++ (i ∷ (is ++ s.after))) n) s.place ∙ seam s.before (is ++ s.after) i)

later_group : (before : List GItem) (l : ℕ) (inside : List GItem) (r : ℕ) (later after : List GItem) → before ++ (grouped l inside r later ++ after) ≡ (before ++ grouped l inside r []) ++ (later ++ after)
later_group before l inside r later after = ap (λ (x : List GItem). before ++ x) (group_more l inside r later after) ∙ group_split before l inside r (later ++ after)

pub after_group : {g : Grammar} {p k l : ℕ} (inside : List GItem) (r : ℕ) {later is : List GItem} → is ≡ grouped l inside r later → Stands g p k is → Stands g p (suc (suc (k + length inside))) later
after_group {l = l} inside r {later = later} e s = record {
  before = s.before ++ grouped l inside r [];
  after = s.after;
  split = s.split ∙ ap (λ (x : List GItem). s.before ++ (x ++ s.after)) e ∙ later_group s.before l inside r later s.after;
  place = omega (arith, s.place, length_grouped s.before l inside r);
}

pub group_here : {g : Grammar} {p k l r : ℕ} {inside : List GItem} (later : List GItem) {is : List GItem} → IsFence g.fences l r → IsLevel g.fences inside → is ≡ grouped l inside r later → Stands g p k is → GroupAt g.fences (spread g p) k (suc (k + length inside)) l inside r
group_here {l = l} {r = r} {inside = inside} later f level e s = record {
  before = s.before;
  after = later ++ s.after;
  split = s.split ∙ ap (λ (x : List GItem). s.before ++ (x ++ s.after)) e ∙ whole s.before l inside r later s.after;
  fence = f;
  within = level;
  place = s.place;
  partner = refl;
}
  where
    whole : (before : List GItem) (l : ℕ) (inside : List GItem) (r : ℕ) (later after : List GItem) → before ++ (grouped l inside r later ++ after) ≡ before ++ grouped l inside r (later ++ after)
    whole before l inside r later after = ap (λ (x : List GItem). before ++ x) (group_more l inside r later after)

pub inside_stands : {g : Grammar} {p k m l r : ℕ} {inside : List GItem} → GroupAt g.fences (spread g p) k m l inside r → Stands g p (suc k) inside
inside_stands {l = l} {r = r} {inside = inside} a = record { before = a.before ++ Fixed (l ∷ []) ∷ []; after = Fixed (r ∷ []) ∷ a.after; split = a.split ∙ sym (append_assoc a.before (Fixed (l ∷ []) ∷ []) (inside ++ Fixed (r ∷ []) ∷ a.after)); place = omega (arith, a.place, length-append a.before (Fixed (l ∷ []) ∷ [])) }

-- the state of a place of a component
abbrev StateOf : {g : Grammar} {c first bound start next : ℕ} {arcs : List Arc} → LaysRules g c first bound start arcs next → Spot → ℕ → Type 0
StateOf {g} {c} {first} d (entry m) a = (k : ℕ) × Members g c m k × (a ≡ entry_state first k)
StateOf {g} {c} {first} d (exit m) a = (k : ℕ) × Members g c m k × (a ≡ exit_state first k)
StateOf d (at p k) a = a ≡ rule_state d p k

state_once : {g : Grammar} {c first bound start next : ℕ} {arcs : List Arc} (d : LaysRules g c first bound start arcs next) (x : Spot) (a b : ℕ) → StateOf d x a → StateOf d x b → a ≡ b
state_once {first = first} d (entry m) a b h k = h.2 ∙ ap (λ (n : ℕ). entry_state first n) (members_once h.1 k.1) ∙ sym k.2
state_once {first = first} d (exit m) a b h k = h.2 ∙ ap (λ (n : ℕ). exit_state first n) (members_once h.1 k.1) ∙ sym k.2
state_once d (at p k) a b h e = h ∙ sym e

module _ (g : Grammar) (built : IsBuilt g) (nest : List Group) (nested : IsNestOf g nest) where
  -- the group at a place of a rule reads its fence round what its content accepts
  entering : {p k m l r : ℕ} {inside : List GItem} {u : List ℕ} → p < length g.rules → GroupAt g.fences (spread g p) k m l inside r → ((content : Graph) → IsNumbered g p (suc k) inside content → AcceptsNested nest content u) → Entering nest (group_number g p k) (l ∷ (u ++ r ∷ []))
  entering {p} {k} {m} {l} {r} {inside} {u} rule here accepts =
      let found = nested.there p k m l r inside rule here in
      let group = found.0 in
      let same : SameGroup l group.left inside found.2.inside r group.right = group_once built.proper.once here found.2.at in
      record {
        group = group;
        is = found.1;
        content = u;
        accepts = accepts group.content (subst (λ (x : List GItem). IsNumbered g p (suc k) x group.content) (sym same.inside) found.2.content);
        word = ap (λ (n : ℕ). n ∷ (u ++ r ∷ [])) same.left ∙ ap (λ (n : ℕ). group.left ∷ (u ++ n ∷ [])) same.right;
      }

  -- a call of a group, and the empty move after it
  group_path : {all : List Arc} {p k m l r s middle t a b : ℕ} {inside : List GItem} {u w : List ℕ} → p < length g.rules → GroupAt g.fences (spread g p) k m l inside r → ((content : Graph) → IsNumbered g p (suc k) inside content → AcceptsNested nest content u) → Among all (call s (group_number g p k) middle) → Among all (pass middle t) → a ≡ s → b ≡ t → w ≡ l ∷ (u ++ r ∷ []) → Path (Along nest all) a w b
  group_path {all} {p} {k} {s = s} {middle = middle} {t = t} {a = a} {b = b} {w = w} rule here accepts enter leave p1 p2 e =
      subst (λ (n : ℕ). Path (Along nest all) n w b) (sym p1) (subst (λ (n : ℕ). Path (Along nest all) s w n) (sym p2) (P.goes (record { label = A.calls (group_number g p k); arc = enter; reads_word = entering rule here accepts }) (path_one (record { label = A.passes; arc = leave; reads_word = refl })) (e ∙ sym (append-nil _))))

  content_accepts : {p k : ℕ} {inside : List GItem} {u : List ℕ} (content : Graph) (d : IsNumbered g p k inside content) → Path (Along nest d.arcs) 0 u d.last → AcceptsNested nest content u
  content_accepts content d path = record { first = 0; last = d.last; starts = d.start; crosses = crossed nest d path; final = (d.finals d.last).1 refl }

  names : (p : ℕ) {k : ℕ} {i : GItem} → OuterAt g.fences (spread g p) k i → NamesAreThere g i
  names p {k} {i} o = spread_names g built.range p k i (outer_at o)

  -- the places to which a step leads have states
  state_there : {c first start next count : ℕ} {arcs : List Arc} {x y : Spot} {w : List ℕ} (d : LaysRules g c first (length g.rules) start arcs next) → Members g c g.nons count → Step g c x w y → (a : ℕ) × StateOf d y a
  state_there d all (begins {p = p} of one) = (rule_state d p 0, refl)
  state_there d all (passes {p = p} {k = k} of one there apart l) = (rule_state d p (suc k), refl)
  state_there d all (encloses {p = p} {n = n} of one there l e) = (rule_state d p (suc n), refl)
  state_there {first = first} d all (calls {p = p} {n = n} of one there two) = let k = members_below all n (less (names p there)) in (entry_state first k.0, (k.0, k.1, refl))
    where
      less : {m n : ℕ} → m < n → m ≤ n
      less h = omega arith
  state_there {first = first} d all (ends {p = p} {m = m} of one e) = let low = built.range.rules p of.0 in let k = members_below all m (omega (arith, low, of.1)) in (exit_state first k.0, (k.0, k.1, refl))
  state_there d all (returns {p = p} {k = k} of one there two) = (rule_state d p (suc k), refl)

  rule_at : {c first start next p m : ℕ} {arcs : List Arc} (d : LaysRules g c first (length g.rules) start arcs next) → IsRuleOf g m p → AreOne g c m → RuleFound g c first arcs p (rule_state d p)
  rule_at {c} {p = p} d of one = rule_found d p of.0 (subst (λ (n : ℕ). AreOne g c n) (sym of.1) one)

  path_to : {all : List Arc} {s t a b : ℕ} {w : List ℕ} → a ≡ s → b ≡ t → Path (Along nest all) s w t → Path (Along nest all) a w b
  path_to {all} {s} {b = b} {w = w} p q path = subst (λ (n : ℕ). Path (Along nest all) n w b) (sym p) (subst (λ (n : ℕ). Path (Along nest all) s w n) (sym q) path)

  -- a move to a member's entry, and one from its exit
  member_in : {c first n s t a b slot : ℕ} {own all : List Arc} {start bound next : ℕ} (d : LaysRules g c first bound start own next) → AreOne g c n → StateOf d (entry n) b → a ≡ s → Within own all → ItemFound g c first own (Non n slot) s t → Path (Along nest all) a [] b
  member_in {c} {first} {n} d two to p within (found_member {n = m} {j = j} e one members enter leave) =
      let same : j ≡ to.0 = members_once (subst (λ (x : ℕ). Members g c x j) (sym (non_named e)) members) to.1 in
      moved (within.each _ enter) p (to.2 ∙ ap (λ (x : ℕ). entry_state first x) (sym same))
  member_in d two to p within (found_other apart l w) = absurd (apart two)

  member_out : {c first n s t a b slot : ℕ} {own all : List Arc} {start bound next : ℕ} (d : LaysRules g c first bound start own next) → AreOne g c n → StateOf d (exit n) a → b ≡ t → Within own all → ItemFound g c first own (Non n slot) s t → Path (Along nest all) a [] b
  member_out {c} {first} {n} d two from q within (found_member {n = m} {j = j} e one members enter leave) =
      let same : j ≡ from.0 = members_once (subst (λ (x : ℕ). Members g c x j) (sym (non_named e)) members) from.1 in
      moved (within.each _ leave) (from.2 ∙ ap (λ (x : ℕ). exit_state first x) (sym same)) q
  member_out d two from q within (found_other apart l w) = absurd (apart two)

  -- past an item that is no member
  past_item : {c first s t a b : ℕ} {i : GItem} {own all : List Arc} {w : List ℕ} → (IsMember g c i → ⊥) → a ≡ s → b ≡ t → Within own all → ((start next : ℕ) (arcs : List Arc) → LaysItem g i s start arcs t next → Within arcs all → Path (Along nest all) s w t) → ItemFound g c first own i s t → Path (Along nest all) a w b
  past_item {c} apart p q within path (found_member e one members enter leave) = absurd (apart (subst (λ (x : GItem). IsMember g c x) (sym e) one))
  past_item apart p q within path (found_other other lays w) = path_to p q (path _ _ _ lays (within_on w within))

  found_wider : {c first s t : ℕ} {i : GItem} {own all : List Arc} → Within own all → ItemFound g c first own i s t → ItemFound g c first all i s t
  found_wider w f = found_moved w refl refl f

  -- an item under another name
  item_as : {i j : GItem} {before start after next : ℕ} {arcs : List Arc} {X : Type 0} → i ≡ j → (LaysItem g i before start arcs after next → X) → LaysItem g j before start arcs after next → X
  item_as {before = before} {start = start} {after = after} {next = next} {arcs = arcs} e f lays = f (subst (λ (x : GItem). LaysItem g x before start arcs after next) (sym e) lays)

  name_as : {i j : GItem} → i ≡ j → NamesAreThere g i → NamesAreThere g j
  name_as e h = subst (λ (x : GItem). NamesAreThere g x) e h

  mutual
    -- a loose word of an item is spelt through its block
    item_path : {i : GItem} {w : List ℕ} {before start after next : ℕ} {arcs all : List Arc} → LooseItem g i w → LaysItem g i before start arcs after next → NamesAreThere g i → Within arcs all → Path (Along nest all) before w after
    item_path {before = before} {start = start} loose_fixed (lays_fixed {f = f} e a n) named within = path_to refl a (word_path f before start (within_as e within))
    item_path {w = w} {before = before} {start = start} (loose_term {t = t} m) (lays_term e a n) named within = path_to refl a (automaton_path (term_of g t).automaton before start (within_as e within) w (((built.automata.terms t named).accepts w).0 m))
    item_path {w = w} {before = before} {start = start} (loose_skip {k = k} m) (lays_skip e a n) named within = path_to refl a (automaton_path (skip_of g k).automaton before start (within_as e within) w (((built.automata.skips k named).accepts w).0 m))
    item_path {start = start} (loose_non walk) (lays_non {k = k} {before = before} {own = own} members (lays_component count rules) e a) named within =
        let opened : Within (pass before (entry_state start k) ∷ own) _ = within_as e within in
        path_on (moved (within_first opened) refl refl) (walk_path walk rules count (k, members, refl) (k, members, a) (within_rest opened))

    walk_path : {c first start next count a b : ℕ} {own all : List Arc} {x y : Spot} {w : List ℕ} → Walk g c x w y → (d : LaysRules g c first (length g.rules) start own next) → Members g c g.nons count → StateOf d x a → StateOf d y b → Within own all → Path (Along nest all) a w b
    walk_path {a = a} {b = b} {all = all} {x = x} stays d count from to within = subst (λ (n : ℕ). Path (Along nest all) a [] n) (state_once d x a b from to) P.stays
    walk_path {a = a} {b = b} {all = all} (goes step rest e) d count from to within =
        let middle = state_there d count step in
        subst (λ (l : List ℕ). Path (Along nest all) a l b) (sym e) (path_on (step_path step d from middle.1 within) (walk_path rest d count middle.1 to within))

    step_path : {c first start next a b : ℕ} {own all : List Arc} {x y : Spot} {w : List ℕ} → Step g c x w y → (d : LaysRules g c first (length g.rules) start own next) → StateOf d x a → StateOf d y b → Within own all → Path (Along nest all) a w b
    step_path {c = c} {first = first} (begins {p = p} {m = m} of one) d from to within =
        let f = rule_at d of one in
        let same : f.count ≡ from.0 = members_once (subst (λ (n : ℕ). Members g c n f.count) of.1 f.members) from.1 in
        moved (within.each _ f.start) (from.2 ∙ ap (λ (n : ℕ). entry_state first n) (sym same)) (to ∙ f.same 0 ∙ body_first f.body)
    step_path (passes {p = p} {k = k} of one there apart l) d from to within =
        let f = rule_at d of one in
        past_item apart (from ∙ f.same k) (to ∙ f.same (suc k)) (within_on f.within within) (λ start next arcs lays w. item_path l lays (names p there) w) (item_found g built.proper.once f.body there)
    step_path (encloses {p = p} {k = k} {n = n} of one there l e) d from to within =
        let f = rule_at d of one in
        let same : 0 + k ≡ k = omega arith in
        let h : GroupFound f.own (group_number g p k) (body_state f.body k) (body_state f.body (suc n)) = group_moved within_all (ap (λ (x : ℕ). group_number g p x) same) refl refl (group_found g built.proper.once f.body there) in
        group_path of.0 there.group (λ content numbered. content_accepts content numbered (part_path l refl numbered.lays of.0 (inside_stands there.group) within_all)) (within.each _ (f.within.each _ h.enter)) (within.each _ (f.within.each _ h.leave)) (from ∙ f.same k) (to ∙ f.same (suc n)) e
    step_path (calls {p = p} {k = k} of one there two) d from to within =
        let f = rule_at d of one in
        member_in d two to (from ∙ f.same k) within (found_wider f.within (item_found g built.proper.once f.body there))
    step_path {c = c} {first = first} (ends {p = p} {k = k} {m = m} of one e) d from to within =
        let f = rule_at d of one in
        let same : f.count ≡ to.0 = members_once (subst (λ (n : ℕ). Members g c n f.count) of.1 f.members) to.1 in
        moved (within.each _ f.end) (from ∙ f.same k ∙ ap (λ (n : ℕ). body_state f.body n) e ∙ body_last f.body) (to.2 ∙ ap (λ (n : ℕ). exit_state first n) (sym same))
    step_path (returns {p = p} {k = k} of one there two) d from to within =
        let f = rule_at d of one in
        member_out d two from (to ∙ f.same (suc k)) within (found_wider f.within (item_found g built.proper.once f.body there))

    -- a loose word of a level stretch is spelt through all its blocks
    part_path : {p k before start after next : ℕ} {is js : List GItem} {arcs all : List Arc} {w : List ℕ} → IsLoose g is w → is ≡ js → LaysPart g p k js before start arcs after next → p < length g.rules → Stands g p k js → Within arcs all → Path (Along nest all) before w after
    part_path loose_none s part_none rule place within = P.stays
    part_path loose_none s (part_then plain i rest e) rule place within = absurd cc
    part_path loose_none s (part_group f v rest split e) rule place within = absurd (no_group (s ∙ split))
    part_path (loose_then plain l t h) s part_none rule place within = absurd cc
    part_path {before = before} {after = after} {all = all} (loose_then plain l t h) s (part_then {i = i} {own = own} {rest = more} p lays rest e) rule place within =
        let c = cons_parts s in
        let opened : Within (own ++ more) all = within_as e within in
        let first = item_as c.0 (λ lays'. item_path l lays' (name_as (sym c.0) (first_named built place)) (within_left own more opened)) lays in
        subst (λ (x : List ℕ). Path (Along nest all) before x after) (sym h) (path_on first (part_path t c.1 rest rule (after_item place) (within_right own opened)))
    part_path (loose_then plain l t h) s (part_group f v rest split e) rule place within = absurd (plain_not_group f plain (s ∙ split))
    part_path (loose_group f i t split h) s part_none rule place within = absurd (no_group (sym s ∙ split))
    part_path (loose_group f i t split h) s (part_then plain lays rest e) rule place within = absurd (plain_not_group f plain (sym s ∙ split))
    part_path {p = q} {k = k} {before = before} {start = start} {after = after} {all = all} (loose_group {l = l} {r = r} {inside = inside} {after = following} {u = u} {v = v} f i t split h) s (part_group {r = r'} {inside = inner} {rest = more} f' level rest split' e) rule place within =
        let whole = sym split ∙ s ∙ split' in
        let same = level_once g.fences built.proper.once (loose_level i) level f f' (cons_parts whole).1 in
        let opened : Within (call before (group_number g q k) start ∷ pass start (suc start) ∷ more) all = within_as e within in
        let here : GroupAt g.fences (spread g q) k (suc (k + length inside)) l inside r = group_here following f (loose_level i) (sym s ∙ split) place in
        let first : Path (Along nest all) before (l ∷ (u ++ r ∷ [])) (suc start) = group_path rule here (λ content numbered. content_accepts content numbered (part_path i refl numbered.lays rule (inside_stands here) within_all)) (within_first opened) (within_first (within_rest opened)) refl refl refl in
        let word : (l ∷ (u ++ r ∷ [])) ++ v ≡ l ∷ (u ++ r ∷ v) = ap (λ (x : List ℕ). l ∷ x) (append_assoc u (r ∷ []) v) in
        subst (λ (x : List ℕ). Path (Along nest all) before x after) (word ∙ sym h) (path_on first (part_path t same.after rest rule (after_group inner r' split' place) (within_rest (within_rest opened))))

-- each loose word is accepted
abbrev pub LooseIsAccepted : Type 0
LooseIsAccepted =
    (g : Grammar) → IsBuilt g → (nest : List Group) → IsNestOf g nest
    → (p k : ℕ) (is : List GItem) (n : Graph) → IsStretch g p k is → IsNumbered g p k is n
    → (w : List ℕ) → IsLoose g is w → AcceptsNested nest n w

pub loose_is_accepted : LooseIsAccepted
loose_is_accepted g built nest nested p k is n stretch d w loose =
    content_accepts g built nest nested n d (part_path g built nest nested loose refl d.lays stretch.rule (record { before = stretch.before; after = stretch.after; split = stretch.split; place = stretch.place }) within_all)
