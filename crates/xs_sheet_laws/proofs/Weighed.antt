-- Weights of a grammar with other terminals and ignorables.
use Rattle.std.proofs.Common.{◌≡◌, ◌∙◌, ℕ, suc, List, ap}
use Rattle.xs_regex.specs.Size.{size}
use Rattle.xs_gram.specs.declared.parts.GItem.{GItem}
use Rattle.xs_gram.specs.declared.parts.Terminal.{Terminal}
use Rattle.xs_gram.specs.declared.parts.Ignorable.{Ignorable}
use Rattle.xs_gram.specs.Grammar.{Grammar, rule_of, term_of, skip_of}
use Rattle.xs_check_laws.specs.Weights.{Members, no_member, member_next, other_next, ItemWeighs, fixed_weighs, term_weighs, skip_weighs, non_weighs, ComponentWeighs, component_weighs, RulesWeigh, no_rule_yet, rule_of_member, rule_of_other, BodyWeighs, no_body, member_then, other_then, group_then, PartWeighs, no_part, part_then, part_group, InsidesWeigh, no_inside, inside_later, inside_here, RuleWeighs}
use Rattle.xs_sheet_laws.proofs.Other.{with_parts}
use Rattle.xs_sheet_laws.proofs.LooseKept.{one, one_back, member, member_back}

-- regexes of the same numbers have the same sizes
pub record KeepsSizes (g h : Grammar) : Type 0 where
  pub terms : (t : ℕ) → size (term_of g t).regex ≡ size (term_of h t).regex
  pub skips : (k : ℕ) → size (skip_of g k).regex ≡ size (skip_of h k).regex

module _ (g : Grammar) (ts : List Terminal) (ks : List Ignorable) where
  pub members_kept : {c n k : ℕ} → Members g c n k → Members (with_parts g ts ks) c n k
  members_kept no_member = no_member
  members_kept {c} (member_next {n = n} a m) = member_next (one g ts ks c n a) (members_kept m)
  members_kept {c} (other_next {n = n} a m) = other_next (λ h. a (one_back g ts ks c n h)) (members_kept m)

  mutual
    item_kept : {i : GItem} {w : ℕ} → KeepsSizes g (with_parts g ts ks) → ItemWeighs g i w → ItemWeighs (with_parts g ts ks) i w
    item_kept keeps (fixed_weighs e) = fixed_weighs e
    item_kept keeps (term_weighs {t = t} e) = term_weighs (e ∙ ap suc (keeps.terms t))
    item_kept keeps (skip_weighs {k = k} e) = skip_weighs (e ∙ ap suc (keeps.skips k))
    item_kept keeps (non_weighs h) = non_weighs (component_kept keeps h)

    component_kept : {c w : ℕ} → KeepsSizes g (with_parts g ts ks) → ComponentWeighs g c w → ComponentWeighs (with_parts g ts ks) c w
    component_kept keeps (component_weighs m r e) = component_weighs (members_kept m) (rules_kept keeps r) e

    rules_kept : {c p w : ℕ} → KeepsSizes g (with_parts g ts ks) → RulesWeigh g c p w → RulesWeigh (with_parts g ts ks) c p w
    rules_kept keeps no_rule_yet = no_rule_yet
    rules_kept keeps (rule_of_member {c = c} {p = p} a b r e) = rule_of_member (one g ts ks c (rule_of g p).non a) (body_kept keeps b) (rules_kept keeps r) e
    rules_kept keeps (rule_of_other {c = c} {p = p} a r) = rule_of_other (λ h. a (one_back g ts ks c (rule_of g p).non h)) (rules_kept keeps r)

    body_kept : {c w : ℕ} {is : List GItem} → KeepsSizes g (with_parts g ts ks) → BodyWeighs g c is w → BodyWeighs (with_parts g ts ks) c is w
    body_kept keeps no_body = no_body
    body_kept keeps (member_then {c = c} {i = i} a b e) = member_then {i = i} (member g ts ks c i a) (body_kept keeps b) e
    body_kept keeps (other_then {c = c} {i = i} p a j b e) = other_then {i = i} p (λ h. a (member_back g ts ks c i h)) (item_kept keeps j) (body_kept keeps b) e
    body_kept keeps (group_then f i b is e) = group_then f i (body_kept keeps b) is e

  pub part_kept : {is : List GItem} {w : ℕ} → KeepsSizes g (with_parts g ts ks) → PartWeighs g is w → PartWeighs (with_parts g ts ks) is w
  part_kept keeps no_part = no_part
  part_kept keeps (part_then p i r e) = part_then p (item_kept keeps i) (part_kept keeps r) e
  part_kept keeps (part_group f i r is e) = part_group f i (part_kept keeps r) is e

  insides_kept : {is : List GItem} {w : ℕ} → KeepsSizes g (with_parts g ts ks) → InsidesWeigh g is w → InsidesWeigh (with_parts g ts ks) is w
  insides_kept keeps no_inside = no_inside
  insides_kept keeps (inside_later p r) = inside_later p (insides_kept keeps r)
  insides_kept keeps (inside_here f own deeper later is e) = inside_here f (part_kept keeps own) (insides_kept keeps deeper) (insides_kept keeps later) is e

  pub weighs : KeepsSizes g (with_parts g ts ks) → (p w : ℕ) → RuleWeighs g p w → RuleWeighs (with_parts g ts ks) p w
  weighs keeps p w (whole, insides, part, inner, is) = (whole, insides, part_kept keeps part, insides_kept keeps inner, is)
