-- A stretch has one weight, and so has a rule: a level stretch is read in one way as outer items and
-- groups. Components weigh the same by whichever member they are named, and weights of stretches add
-- up.
use Rattle.std.proofs.Common.{◌≡◌, ℕ, suc, ◌+◌, ◌*◌, ◌≤◌, max, List, [], ◌∷◌, ◌++◌, refl, sym, ap, subst, ◌∙◌, arith}
use Rattle.xs_class.proofs.Lists.{cons_parts}
use Rattle.xs_gram.specs.declared.parts.GItem.{GItem}
use Rattle.xs_gram.specs.declared.parts.GItem.TheVariants.{Fixed, Term, Non, Skip}
use Rattle.xs_gram.specs.Grammar.{Grammar}
use Rattle.xs_gram.specs.Laws.{IsDistinct}
use Rattle.xs_gram.specs.Fences.{fence_symbols, IsFence, IsLevel, level_none, level_then, level_group, grouped}
use Rattle.xs_gram.specs.Loose.{AreOne, IsMember}
use Rattle.xs_gram.proofs.Levels.{IsOnce, no_group, plain_not_group, group_more, level_once}
use Rattle.xs_check_laws.specs.Weights.{cap, capped}
use Rattle.xs_check_laws.specs.Weights.{Members, no_member, member_next, other_next, ItemWeighs, fixed_weighs, term_weighs, skip_weighs, non_weighs, ComponentWeighs, component_weighs, RulesWeigh, no_rule_yet, rule_of_member, rule_of_other, BodyWeighs, no_body, member_then, other_then, group_then, PartWeighs, no_part, part_then, part_group, InsidesWeigh, no_inside, inside_later, inside_here}
use Rattle.xs_check_laws.specs.Laws.{PartWeighsOnce, RuleWeighsOnce}
use Rattle.xs_check_laws.proofs.Walks.{one_on, one_back, member_moved}

-- two sums of equal numbers
sums_once : {a b v w x y : ℕ} → v ≡ capped (a + b) → w ≡ capped (x + y) → a ≡ x → b ≡ y → v ≡ w
sums_once e h p q = cc

more_once : {a v w x : ℕ} → v ≡ capped (suc a) → w ≡ capped (suc x) → a ≡ x → v ≡ w
more_once e h p = cc

two_once : {a v w x : ℕ} → v ≡ capped (2 + a) → w ≡ capped (2 + x) → a ≡ x → v ≡ w
two_once e h p = cc

rule_once : {a b v w x y : ℕ} → v ≡ capped (a + suc b) → w ≡ capped (x + suc y) → a ≡ x → b ≡ y → v ≡ w
rule_once e h p q = cc

twice_once : {a b v w x y : ℕ} → v ≡ capped (2 * a + b) → w ≡ capped (2 * x + y) → a ≡ x → b ≡ y → v ≡ w
twice_once e h p q = cc

greatest_once : {a b v w x y : ℕ} → v ≡ max (capped (suc a)) b → w ≡ max (capped (suc x)) y → a ≡ x → b ≡ y → v ≡ w
greatest_once e h p q = cc

deepest_once : {a b c v w x y z : ℕ} → v ≡ max (capped (suc a)) (max b c) → w ≡ max (capped (suc x)) (max y z) → a ≡ x → b ≡ y → c ≡ z → v ≡ w
deepest_once e h p q r = cc

pub members_once : {g : Grammar} {c n k j : ℕ} → Members g c n k → Members g c n j → k ≡ j
members_once no_member no_member = refl
members_once (member_next a m) (member_next b l) = ap suc (members_once m l)
members_once (member_next a m) (other_next b l) = absurd (b a)
members_once (other_next a m) (member_next b l) = absurd (a b)
members_once (other_next a m) (other_next b l) = members_once m l

-- a member is a nonterminal, so no group begins with it
member_not_fixed : (g : Grammar) (c l : ℕ) (i : GItem) → IsMember g c i → i ≡ Fixed (l ∷ []) → ⊥
member_not_fixed g c l (Fixed f) m e = m
member_not_fixed g c l (Term t s) m e = m
member_not_fixed g c l (Non n s) m e = cc
member_not_fixed g c l (Skip k) m e = m

-- two readings of one stretch as a group and what follows it
pub groups_once : {fs : List (ℕ × ℕ)} {l r m s : ℕ} {a b x y is : List GItem} → IsDistinct (fence_symbols fs) → IsFence fs l r → IsFence fs m s → IsLevel fs a → IsLevel fs b → is ≡ grouped l a r x → is ≡ grouped m b s y → IsOnce a b r s x y
groups_once {fs} once f h i j e k = level_once fs once i j f h (cons_parts (sym e ∙ k)).1

module _ (g : Grammar) (once : IsDistinct (fence_symbols g.fences)) where
  mutual
    item_once : {i : GItem} {v w : ℕ} → ItemWeighs g i v → ItemWeighs g i w → v ≡ w
    item_once (fixed_weighs e) (fixed_weighs h) = e ∙ sym h
    item_once (term_weighs e) (term_weighs h) = e ∙ sym h
    item_once (skip_weighs e) (skip_weighs h) = e ∙ sym h
    item_once (non_weighs a) (non_weighs b) = component_once a b

    pub component_once : {c v w : ℕ} → ComponentWeighs g c v → ComponentWeighs g c w → v ≡ w
    component_once (component_weighs m r e) (component_weighs l q h) = twice_once e h (members_once m l) (rules_once r q)

    pub rules_once : {c p v w : ℕ} → RulesWeigh g c p v → RulesWeigh g c p w → v ≡ w
    rules_once no_rule_yet no_rule_yet = refl
    rules_once (rule_of_member a b r e) (rule_of_member x y q h) = rule_once e h (rules_once r q) (body_once b y refl)
    rules_once (rule_of_member a b r e) (rule_of_other x q) = absurd (x a)
    rules_once (rule_of_other a r) (rule_of_member x y q h) = absurd (a x)
    rules_once (rule_of_other a r) (rule_of_other x q) = rules_once r q

    body_once : {c v w : ℕ} {is js : List GItem} → BodyWeighs g c is v → BodyWeighs g c js w → is ≡ js → v ≡ w
    body_once no_body no_body s = refl
    body_once no_body (member_then x y h) s = absurd cc
    body_once no_body (other_then p x i y h) s = absurd cc
    body_once no_body (group_then f i b split e) s = absurd (no_group (s ∙ split))
    body_once (member_then a b e) no_body s = absurd cc
    body_once {c} (member_then {i = i} a b e) (member_then {i = j} x y h) s = more_once e h (body_once b y (cons_parts s).1)
    body_once {c} (member_then a b e) (other_then p x i y h) s = absurd (x (subst (λ (z : GItem). IsMember g c z) (cons_parts s).0 a))
    body_once {c} (member_then {i = i} a b e) (group_then f l y split h) s = absurd (member_not_fixed g c _ i a (cons_parts (s ∙ split)).0)
    body_once (other_then p a i b e) no_body s = absurd cc
    body_once {c} (other_then p a i b e) (member_then x y h) s = absurd (a (subst (λ (z : GItem). IsMember g c z) (sym (cons_parts s).0) x))
    body_once (other_then {own = own} p a i b e) (other_then q x j y h) s = sums_once e h (item_once (subst (λ (z : GItem). ItemWeighs g z own) (cons_parts s).0 i) j) (body_once b y (cons_parts s).1)
    body_once (other_then p a i b e) (group_then f l y split h) s = absurd (plain_not_group f p (s ∙ split))
    body_once (group_then f l b split e) no_body s = absurd (no_group (sym s ∙ split))
    body_once {c} (group_then f l b split e) (member_then {i = j} x y h) s = absurd (member_not_fixed g c _ j x (cons_parts (sym s ∙ split)).0)
    body_once (group_then f l b split e) (other_then p x i y h) s = absurd (plain_not_group f p (sym s ∙ split))
    body_once (group_then f i b split e) (group_then k j y split' h) s = two_once e h (body_once b y (groups_once once f k i j split (s ∙ split')).after)

  part_once : {is js : List GItem} {v w : ℕ} → PartWeighs g is v → PartWeighs g js w → is ≡ js → v ≡ w
  part_once no_part no_part s = refl
  part_once no_part (part_then p j q h) s = absurd cc
  part_once no_part (part_group f i b split e) s = absurd (no_group (s ∙ split))
  part_once (part_then p i r e) no_part s = absurd cc
  part_once (part_then {own = own} p i r e) (part_then q j t h) s = sums_once e h (item_once (subst (λ (z : GItem). ItemWeighs g z own) (cons_parts s).0 i) j) (part_once r t (cons_parts s).1)
  part_once (part_then p i r e) (part_group f l y split h) s = absurd (plain_not_group f p (s ∙ split))
  part_once (part_group f l b split e) no_part s = absurd (no_group (sym s ∙ split))
  part_once (part_group f l b split e) (part_then p i r h) s = absurd (plain_not_group f p (sym s ∙ split))
  part_once (part_group f i b split e) (part_group k j y split' h) s = two_once e h (part_once b y (groups_once once f k i j split (s ∙ split')).after)

  pub part_level : {is : List GItem} {v : ℕ} → PartWeighs g is v → IsLevel g.fences is
  part_level no_part = level_none
  part_level (part_then p i r e) = level_then p (part_level r)
  part_level (part_group f i b split e) = level_group f i (part_level b) split

  insides_once : {is js : List GItem} {v w : ℕ} → InsidesWeigh g is v → InsidesWeigh g js w → is ≡ js → v ≡ w
  insides_once no_inside no_inside s = refl
  insides_once no_inside (inside_later q t) s = absurd cc
  insides_once no_inside (inside_here f b d t split e) s = absurd (no_group (s ∙ split))
  insides_once (inside_later p r) no_inside s = absurd cc
  insides_once (inside_later p r) (inside_later q t) s = insides_once r t (cons_parts s).1
  insides_once (inside_later p r) (inside_here f b d t split e) s = absurd (plain_not_group f p (s ∙ split))
  insides_once (inside_here f b d t split e) no_inside s = absurd (no_group (sym s ∙ split))
  insides_once (inside_here f b d t split e) (inside_later p r) s = absurd (plain_not_group f p (sym s ∙ split))
  insides_once (inside_here f b d t split e) (inside_here k y z u split' h) s =
      let o = groups_once once f k (part_level b) (part_level y) split (s ∙ split') in
      deepest_once e h (part_once b y o.inside) (insides_once d z o.inside) (insides_once t u o.after)

pub part_weighs_once : PartWeighsOnce
part_weighs_once g once is v w a b = part_once g once a b refl

pub rule_weighs_once : RuleWeighsOnce
rule_weighs_once g once p v w a b = greatest_once a.4 b.4 (part_once g once a.2 b.2 refl) (insides_once g once a.3 b.3 refl)

-- a component is named by any of its members
pub members_moved : {g : Grammar} {c d n k : ℕ} → Members g d n k → AreOne g c d → Members g c n k
members_moved no_member o = no_member
members_moved (member_next a m) o = member_next (one_on o a) (members_moved m o)
members_moved (other_next a m) o = other_next (λ h. a (one_on (one_back o) h)) (members_moved m o)

body_moved : {g : Grammar} {c d w : ℕ} {is : List GItem} → BodyWeighs g d is w → AreOne g c d → BodyWeighs g c is w
body_moved no_body o = no_body
body_moved (member_then {i = i} a b e) o = member_then {i = i} (member_moved i (one_back o) a) (body_moved b o) e
body_moved (other_then {i = i} p a j b e) o = other_then {i = i} p (λ h. a (member_moved i o h)) j (body_moved b o) e
body_moved (group_then f i b split e) o = group_then f i (body_moved b o) split e

rules_moved : {g : Grammar} {c d p w : ℕ} → RulesWeigh g d p w → AreOne g c d → RulesWeigh g c p w
rules_moved no_rule_yet o = no_rule_yet
rules_moved (rule_of_member a b r e) o = rule_of_member (one_on o a) (body_moved b o) (rules_moved r o) e
rules_moved (rule_of_other a r) o = rule_of_other (λ h. a (one_on (one_back o) h)) (rules_moved r o)

pub component_moved : {g : Grammar} {c d w : ℕ} → ComponentWeighs g d w → AreOne g c d → ComponentWeighs g c w
component_moved (component_weighs m r e) o = component_weighs (members_moved m o) (rules_moved r o) e

-- weights of stretches add up
pub body_within : {g : Grammar} {c w : ℕ} {is : List GItem} → BodyWeighs g c is w → w ≤ cap
body_within no_body = omega arith
body_within (member_then a b e) = omega arith
body_within (other_then p a i b e) = omega arith
body_within (group_then f i b split e) = omega arith

pub body_append : {g : Grammar} {c v w x : ℕ} {is js : List GItem} → BodyWeighs g c is v → BodyWeighs g c js w → x ≡ capped (v + w) → BodyWeighs g c (is ++ js) x
body_append {g} {c} {w = w} {x = x} {js = js} no_body r e = let h = body_within r in let k : w ≡ x = omega arith in subst (λ (n : ℕ). BodyWeighs g c js n) k r
body_append (member_then {rest = rest} {i = i} a b e) r h = member_then {i = i} a (body_append b r refl) (omega arith)
body_append (other_then {own = own} {rest = rest} {i = i} p a j b e) r h = other_then {i = i} p a j (body_append b r refl) (omega arith)
body_append {js = js} (group_then {l = l} {r = s} {inside = inside} {after = after} f i b split e) r h = group_then f i (body_append b r refl) (ap (λ (y : List GItem). y ++ js) split ∙ group_more l inside s after js) (omega arith)

pub part_within : {g : Grammar} {w : ℕ} {is : List GItem} → PartWeighs g is w → w ≤ cap
part_within no_part = omega arith
part_within (part_then p i r e) = omega arith
part_within (part_group f i b split e) = omega arith

pub part_append : {g : Grammar} {v w x : ℕ} {is js : List GItem} → PartWeighs g is v → PartWeighs g js w → x ≡ capped (v + w) → PartWeighs g (is ++ js) x
part_append {g} {w = w} {x = x} {js = js} no_part r e = let h = part_within r in let k : w ≡ x = omega arith in subst (λ (n : ℕ). PartWeighs g js n) k r
part_append (part_then p i b e) r h = part_then p i (part_append b r refl) (omega arith)
part_append {js = js} (part_group {l = l} {r = s} {inside = inside} {after = after} f i b split e) r h = part_group f i (part_append b r refl) (ap (λ (y : List GItem). y ++ js) split ∙ group_more l inside s after js) (omega arith)
