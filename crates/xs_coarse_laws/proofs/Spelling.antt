-- Each loose word is spelt by a path of a net that covers: by recursion on how the word is loose.
use Rattle.std.proofs.Common.{◌≡◌, ℕ, suc, ◌<◌, Bool, true, List, [], ◌∷◌, ◌++◌, length, refl, sym, ap, subst, ◌∙◌, append-nil}
use Rattle.std.specs.List.{Contains}
use Rattle.xs_class.proofs.Lists.{cons_parts}
use Rattle.xs_auto.specs.Nets.{Graph, Walks, calls_of}
use Rattle.xs_auto.specs.Nests.{Group, Crossing, stands, enters}
use Rattle.xs_meet.proofs.WalkLemmas.{crosses_on, walk_crosses}
use Rattle.xs_gram.specs.declared.parts.GItem.{GItem}
use Rattle.xs_gram.specs.declared.parts.GItem.TheVariants.{Fixed, Term, Non, Skip}
use Rattle.xs_gram.specs.Grammar.{Grammar, IsRuleOf, rule_of}
use Rattle.xs_gram.specs.Fences.{spread, IsLevel, OuterAt, GroupAt}
use Rattle.xs_gram.specs.Loose.{Spot, entry, exit, at, Reaches, here as at_once, onward, AreOne, LooseItem, loose_fixed, loose_term, loose_skip, loose_non, IsLoose, loose_none, loose_then, loose_group, Step, begins, passes, encloses, calls, ends, returns, Walk, stays, goes}
use Rattle.xs_gram.proofs.Levels.{no_group, plain_not_group, level_once}
use Rattle.xs_check_laws.proofs.Words.{loose_level}
use Rattle.xs_loose.specs.Parts.{IsStretch}
use Rattle.xs_coarse.specs.Covers.{call_of, CoversFrom, CoversItem, CoversPart, covers_none, covers_then, covers_group}
use Rattle.xs_coarse_laws.specs.Laws.{Covering, CoversAcceptLoose}
use Rattle.xs_coarse_laws.proofs.Stretches.{past_item, past_group, its_group, its_inside}

module _ (g : Grammar) (nest : List Group) (c : Covering g nest) where
  -- the set has what one of its nonterminals reaches
  reached_has : {n : Graph} {state : Spot → ℕ} {has : ℕ → Bool} {r d m : ℕ} → CoversFrom g n state has r → Reaches g d m → has d ≡ true → has m ≡ true
  reached_has covers at_once h = h
  reached_has covers (onward {m = d} {n = k} u t) h = reached_has covers t (covers.uses d k h u)

  -- and the nonterminal of a rule of a member
  rule_has : {n : Graph} {state : Spot → ℕ} {has : ℕ → Bool} {r d m p : ℕ} → CoversFrom g n state has r → has d ≡ true → IsRuleOf g m p → AreOne g d m → has (rule_of g p).non ≡ true
  rule_has {has = has} covers h of one = subst (λ (x : ℕ). has x ≡ true) (sym of.1) (reached_has covers one.0 h)

  -- a call of a group reads its fence round each word that a path of its content reads
  group_path : {n : Graph} {p k m l r a b end : ℕ} {inside : List GItem} {u v w : List ℕ} → p < length g.rules → GroupAt g.fences (spread g p) k m l inside r → Contains (calls_of n a) (call_of g p k b) → ((content : Graph) (first last : ℕ) → CoversPart g content p (suc k) inside first last → Crossing nest content first u last) → Crossing nest n b v end → w ≡ l ∷ (u ++ r ∷ v) → Crossing nest n a w end
  group_path {p = p} {k = k} {m = m} {l = l} {r = r} {b = b} {inside = inside} {u = u} {v = v} rule here call spelt rest e =
      let found = c.groups.there p k m l r inside rule here in
      let group = found.0 in
      let is = found.2 in
      let fence : l ∷ (u ++ r ∷ v) ≡ group.left ∷ (u ++ group.right ∷ v) = ap (λ (n : ℕ). n ∷ (u ++ r ∷ v)) (sym is.left) ∙ ap (λ (n : ℕ). group.left ∷ (u ++ n ∷ v)) (sym is.right) in
      enters (call_of g p k b) group call found.1 is.starts (spelt group.content is.first is.last is.content) is.final rest (e ∙ fence)

  mutual
    -- a loose word of an item leads from the one state to the other
    item_path : {i : GItem} {w : List ℕ} {n : Graph} {a b : ℕ} → LooseItem g i w → CoversItem g n i a b → Crossing nest n a w b
    item_path loose_fixed covers = walk_crosses nest covers
    item_path {w = w} (loose_term m) covers = walk_crosses nest (covers w m)
    item_path {w = w} (loose_skip m) covers = walk_crosses nest (covers w m)
    item_path {w = w} (loose_non walk) covers = covers.follows nest w (walk_path covers.covers covers.covers.own walk)

    -- so does one of an outer item of a rule
    outer_path : {n : Graph} {state : Spot → ℕ} {has : ℕ → Bool} {r p k : ℕ} {i : GItem} {w : List ℕ} → CoversFrom g n state has r → p < length g.rules → has (rule_of g p).non ≡ true → OuterAt g.fences (spread g p) k i → LooseItem g i w → Crossing nest n (state (at p k)) w (state (at p (suc k)))
    outer_path {p = p} {k = k} covers rule own there (loose_fixed {f = f}) = walk_crosses nest (covers.leaves p k (Fixed f) rule own there tt)
    outer_path {p = p} {k = k} {w = w} covers rule own there (loose_term {t = t} {s = s} m) = walk_crosses nest (covers.leaves p k (Term t s) rule own there tt w m)
    outer_path {p = p} {k = k} {w = w} covers rule own there (loose_skip {k = j} m) = walk_crosses nest (covers.leaves p k (Skip j) rule own there tt w m)
    outer_path {n = n} {state = state} {p = p} {k = k} {w = w} covers rule own there (loose_non {m = m} {s = s} walk) =
        let inner = walk_path covers (covers.uses (rule_of g p).non m own (record { rule = p; dot = k; slot = s; of = (rule, refl); item = there })) walk in
        let on = crosses_on inner (walk_crosses nest (covers.returns p k m s rule own there)) in
        crosses_on (walk_crosses nest (covers.enters p k m s rule own there)) (subst (λ (v : List ℕ). Crossing nest n (state (entry m)) v (state (at p (suc k)))) (append-nil w) on)

    walk_path : {n : Graph} {state : Spot → ℕ} {has : ℕ → Bool} {r d : ℕ} {x y : Spot} {w : List ℕ} → CoversFrom g n state has r → has d ≡ true → Walk g d x w y → Crossing nest n (state x) w (state y)
    walk_path covers h stays = stands
    walk_path {n = n} {state = state} {x = x} {y = y} covers h (goes step rest e) = subst (λ (v : List ℕ). Crossing nest n (state x) v (state y)) (sym e) (crosses_on (step_path covers h step) (walk_path covers h rest))

    step_path : {n : Graph} {state : Spot → ℕ} {has : ℕ → Bool} {r d : ℕ} {x y : Spot} {w : List ℕ} → CoversFrom g n state has r → has d ≡ true → Step g d x w y → Crossing nest n (state x) w (state y)
    step_path {n = n} {state = state} covers h (begins {p = p} of one) = walk_crosses nest (subst (λ (m : ℕ). Walks n (state (entry m)) [] (state (at p 0))) of.1 (covers.begins p of.0 (rule_has covers h of one)))
    step_path covers h (passes of one there apart l) = outer_path covers of.0 (rule_has covers h of one) there l
    step_path covers h (encloses {p = p} {k = k} {n = j} of one there l e) =
        group_path of.0 there.group (covers.groups p k j _ _ _ of.0 (rule_has covers h of one) there) (λ content first last inner. part_path l refl inner (its_inside of.0 there.group)) stands e
    step_path covers h (calls {p = p} {k = k} {n = j} {s = s} of one there two) = walk_crosses nest (covers.enters p k j s of.0 (rule_has covers h of one) there)
    step_path {n = n} {state = state} covers h (ends {p = p} {k = k} {m = m} of one e) =
        let own = rule_has covers h of one in
        let last = subst (λ (j : ℕ). Walks n (state (at p j)) [] (state (exit m))) (sym e) (subst (λ (j : ℕ). Walks n (state (at p (length (spread g p)))) [] (state (exit j))) of.1 (covers.ends p of.0 own)) in
        walk_crosses nest last
    step_path covers h (returns {p = p} {k = k} {n = j} {s = s} of one there two) = walk_crosses nest (covers.returns p k j s of.0 (rule_has covers h of one) there)

    -- a loose word of a level stretch leads through all its items
    part_path : {n : Graph} {p k a b : ℕ} {is js : List GItem} {w : List ℕ} → IsLoose g is w → is ≡ js → CoversPart g n p k js a b → IsStretch g p k js → Crossing nest n a w b
    part_path loose_none s covers_none stretch = stands
    part_path loose_none s (covers_then plain covers rest) stretch = absurd cc
    part_path loose_none s (covers_group f level call rest split) stretch = absurd (no_group (s ∙ split))
    part_path (loose_then plain l t h) s covers_none stretch = absurd cc
    part_path {n = n} (loose_then plain l t h) s (covers_then {a = a} {b = b} {c = end} own covers rest) stretch =
        let q = cons_parts s in
        let first = item_path l (subst (λ (i : GItem). CoversItem g n i a b) (sym q.0) covers) in
        subst (λ (v : List ℕ). Crossing nest n a v end) (sym h) (crosses_on first (part_path t q.1 rest (past_item own stretch)))
    part_path (loose_then plain l t h) s (covers_group f level call rest split) stretch = absurd (plain_not_group f plain (s ∙ split))
    part_path (loose_group f i t split h) s covers_none stretch = absurd (no_group (sym s ∙ split))
    part_path (loose_group f i t split h) s (covers_then plain covers rest) stretch = absurd (plain_not_group f plain (sym s ∙ split))
    part_path (loose_group {after = following} f i t split h) s (covers_group {r = r} {inside = inside} f' level call rest split') stretch =
        let same = level_once g.fences c.built.proper.once (loose_level i) level f f' (cons_parts (sym split ∙ s ∙ split')).1 in
        let here = its_group following (sym s ∙ split) f (loose_level i) stretch in
        let later = past_group inside r split' (subst (λ (x : List GItem). IsLevel g.fences x) same.after (loose_level t)) stretch in
        group_path stretch.rule here call (λ content first last covers. part_path i refl covers (its_inside stretch.rule here)) (part_path t same.after rest later) h

pub covers_accept_loose : CoversAcceptLoose
covers_accept_loose g nest c n p k is a b stretch covers w loose = part_path g nest c loose refl covers stretch
