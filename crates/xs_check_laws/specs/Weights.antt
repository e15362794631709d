-- Weights of items, components, stretches and rules: how many states their loose words take, where
-- a group takes two and its inside is counted apart.
use Rattle.std.specs.Prelude.{◌≡◌, ℕ, zero, suc, ◌+◌, ◌*◌, min, max, List, [], ◌∷◌, length}
use Rattle.xs_regex.specs.Size.{size}
use Rattle.xs_gram.specs.declared.parts.GItem.{GItem}
use Rattle.xs_gram.specs.declared.parts.GItem.TheVariants.{Fixed, Term, Non, Skip}
use Rattle.xs_gram.specs.Grammar.{Grammar, rule_of, term_of, skip_of}
use Rattle.xs_gram.specs.Fences.{spread, IsFence, IsPlain, IsLevel, grouped}
use Rattle.xs_gram.specs.Loose.{AreOne, IsMember}

-- the greatest sum that counts
abbrev pub cap : ℕ
cap = 1000000

-- every greater sum counts as that
abbrev pub capped : ℕ → ℕ
capped n = min n cap

-- what a rule, and a part of one, may weigh at most
abbrev pub heaviest : ℕ
heaviest = 8192

-- of the nonterminals below the bound that many are members of the component of c
pub data Members (g : Grammar) (c : ℕ) : ℕ → ℕ → Type 0 where
  no_member : Members g c zero zero
  member_next : {n k : ℕ} → AreOne g c n → Members g c n k → Members g c (suc n) (suc k)
  other_next : {n k : ℕ} → (AreOne g c n → ⊥) → Members g c n k → Members g c (suc n) k

-- A fixed word weighs its length, a terminal or an ignorable 1 more than its regex's size, a
-- nonterminal what its component does: 2 for each member, and for each rule of a member 1 and its
-- outer items and groups, where an item that is a member counts 1, any other its weight, and a group
-- 2.
mutual
  pub data ItemWeighs (g : Grammar) : GItem → ℕ → Type 0 where
    fixed_weighs : {f : List ℕ} {w : ℕ} → w ≡ length f → ItemWeighs g (Fixed f) w
    term_weighs : {t s w : ℕ} → w ≡ suc (size (term_of g t).regex) → ItemWeighs g (Term t s) w
    skip_weighs : {k w : ℕ} → w ≡ suc (size (skip_of g k).regex) → ItemWeighs g (Skip k) w
    non_weighs : {n s w : ℕ} → ComponentWeighs g n w → ItemWeighs g (Non n s) w

  pub data ComponentWeighs (g : Grammar) : ℕ → ℕ → Type 0 where
    component_weighs : {c members rules w : ℕ} → Members g c g.nons members → RulesWeigh g c (length g.rules) rules → w ≡ capped (2 * members + rules) → ComponentWeighs g c w

  -- those of the rules below the bound that are of members of the component of c
  pub data RulesWeigh (g : Grammar) : ℕ → ℕ → ℕ → Type 0 where
    no_rule_yet : {c : ℕ} → RulesWeigh g c zero zero
    rule_of_member : {c p body before w : ℕ} → AreOne g c (rule_of g p).non → BodyWeighs g c (spread g p) body → RulesWeigh g c p before → w ≡ capped (before + suc body) → RulesWeigh g c (suc p) w
    rule_of_other : {c p w : ℕ} → (AreOne g c (rule_of g p).non → ⊥) → RulesWeigh g c p w → RulesWeigh g c (suc p) w

  -- the outer items and groups of such a rule
  pub data BodyWeighs (g : Grammar) : ℕ → List GItem → ℕ → Type 0 where
    no_body : {c : ℕ} → BodyWeighs g c [] zero
    member_then : {c rest w : ℕ} {i : GItem} {is : List GItem} → IsMember g c i → BodyWeighs g c is rest → w ≡ capped (suc rest) → BodyWeighs g c (i ∷ is) w
    other_then : {c own rest w : ℕ} {i : GItem} {is : List GItem} → IsPlain g.fences i → (IsMember g c i → ⊥) → ItemWeighs g i own → BodyWeighs g c is rest → w ≡ capped (own + rest) → BodyWeighs g c (i ∷ is) w
    group_then : {c l r rest w : ℕ} {inside after is : List GItem} → IsFence g.fences l r → IsLevel g.fences inside → BodyWeighs g c after rest → is ≡ grouped l inside r after → w ≡ capped (2 + rest) → BodyWeighs g c is w

-- a level stretch weighs what its outer items and groups do, a group 2
pub data PartWeighs (g : Grammar) : List GItem → ℕ → Type 0 where
  no_part : PartWeighs g [] zero
  part_then : {own rest w : ℕ} {i : GItem} {is : List GItem} → IsPlain g.fences i → ItemWeighs g i own → PartWeighs g is rest → w ≡ capped (own + rest) → PartWeighs g (i ∷ is) w
  part_group : {l r rest w : ℕ} {inside after is : List GItem} → IsFence g.fences l r → IsLevel g.fences inside → PartWeighs g after rest → is ≡ grouped l inside r after → w ≡ capped (2 + rest) → PartWeighs g is w

-- the greatest of 1 plus the weight of the inside of each group of a level stretch, also of groups
-- inside groups, and 0 where it has none
pub data InsidesWeigh (g : Grammar) : List GItem → ℕ → Type 0 where
  no_inside : InsidesWeigh g [] zero
  inside_later : {w : ℕ} {i : GItem} {is : List GItem} → IsPlain g.fences i → InsidesWeigh g is w → InsidesWeigh g (i ∷ is) w
  inside_here : {l r own deeper later w : ℕ} {inside after is : List GItem} → IsFence g.fences l r → PartWeighs g inside own → InsidesWeigh g inside deeper → InsidesWeigh g after later → is ≡ grouped l inside r after → w ≡ max (capped (suc own)) (max deeper later) → InsidesWeigh g is w

-- A rule weighs the greatest of 1 plus the weight of all its spread items, and 1 plus that of the
-- inside of each of its groups.
abbrev pub RuleWeighs : Grammar → ℕ → ℕ → Type 0
RuleWeighs g p w = (whole : ℕ) × (insides : ℕ) × PartWeighs g (spread g p) whole × InsidesWeigh g (spread g p) insides × (w ≡ max (capped (suc whole)) insides)
