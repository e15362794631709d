-- Light rules have light insides of groups, and light fronts and rests of cuts; a grammar whose rules
-- are light has no heavy one.
use Rattle.std.proofs.Common.{◌≡◌, ℕ, suc, ◌+◌, ◌<◌, ◌≤◌, List, [], ◌∷◌, ◌++◌, length, drop, refl, sym, ap, subst, ◌∙◌, arith, append_assoc, Some, slice_get}
use Rattle.std.proofs.Math.Seq.{drop-append_seam}
use Rattle.xs_class.proofs.Lists.{cons_parts, cons_same}
use Rattle.xs_gram.specs.declared.parts.GItem.{GItem}
use Rattle.xs_gram.specs.declared.parts.GItem.TheVariants.{Fixed}
use Rattle.xs_gram.specs.Grammar.{Grammar}
use Rattle.xs_gram.specs.Fences.{spread, IsFence, IsLevel, level_none, level_then, level_group, grouped, IsCut, cut_here, cut_inside}
use Rattle.xs_gram.specs.Sound.{IsBuilt}
use Rattle.xs_gram.proofs.Fences.{is_left_of, sides_apart}
use Rattle.xs_gram.proofs.Levels.{fixed_one, no_group, plain_not_group, group_more, group_opened, level_append, level_once}
use Rattle.xs_gram.proofs.Partners.{has_partner}
use Rattle.xs_gram.proofs.Cuts.{cut_level}
use Rattle.xs_check_laws.specs.Weights.{heaviest, capped, PartWeighs, no_part, part_then, part_group, ItemWeighs, InsidesWeigh, no_inside, inside_later, inside_here}
use Rattle.xs_check_laws.specs.Acceptance.{IsLightRule, IsLight, IsHeaviness}
use Rattle.xs_check_laws.proofs.Weights.{part_level, part_within, part_weighs_once, rule_weighs_once}
use Rattle.xs_loose.specs.Nets.{HasInside, IsFirstHeavy}
use Rattle.xs_loose.specs.Parts.{AreLight}

-- where an element stands, where another stands in the same list: in front of it, at its place, or
-- after it
data Stands {A : Type 0} (bs : List A) (x : A) (us ds : List A) (y : A) (vs : List A) : Type 0 where
  in_front : (cs : List A) → ds ≡ bs ++ x ∷ cs → us ≡ cs ++ y ∷ vs → Stands bs x us ds y vs
  there : x ≡ y → Stands bs x us ds y vs
  behind : (cs : List A) → vs ≡ cs ++ x ∷ us → Stands bs x us ds y vs

stands_later : {A : Type 0} {bs us ds vs : List A} {x y b d : A} → b ≡ d → Stands bs x us ds y vs → Stands (b ∷ bs) x us (d ∷ ds) y vs
stands_later e (in_front cs p q) = in_front cs (cons_same (sym e) p) q
stands_later e (there p) = there p
stands_later e (behind cs p) = behind cs p

stands : {A : Type 0} (bs : List A) (x : A) (us ds : List A) (y : A) (vs : List A) → bs ++ x ∷ us ≡ ds ++ y ∷ vs → Stands bs x us ds y vs
stands [] x us [] y vs e = there (cons_parts e).0
stands [] x us (d ∷ ds) y vs e = in_front ds (cons_same (sym (cons_parts e).0) refl) (cons_parts e).1
stands (b ∷ bs) x us [] y vs e = behind bs (sym (cons_parts e).1)
stands (b ∷ bs) x us (d ∷ ds) y vs e = stands_later (cons_parts e).0 (stands bs x us ds y vs (cons_parts e).1)

pub item_at : {A : Type 0} (before : List A) (x : A) (after : List A) → slice_get (before ++ x ∷ after) (length before) ≡ Some x
item_at [] x after = refl
item_at (y ∷ before) x after = item_at before x after

-- the inside of a group, and that it counts no more than v
record CountsWithin (g : Grammar) (inside : List GItem) (v : ℕ) : Type 0 where
  own : ℕ
  weighs : PartWeighs g inside own
  low : capped (suc own) ≤ v

counts_more : {g : Grammar} {inside : List GItem} {v w : ℕ} → CountsWithin g inside v → v ≤ w → CountsWithin g inside w
counts_more c le = record { own = c.own; weighs = c.weighs; low = omega (arith, c.low) }

module _ (g : Grammar) (built : IsBuilt g) where
  -- a group that begins in a level stretch ends there
  ends_there : {is : List GItem} (before inside cs : List GItem) {l r : ℕ} (s : ℕ) (after later : List GItem) → IsLevel g.fences is → IsFence g.fences l r → IsLevel g.fences inside
      → is ≡ before ++ Fixed (l ∷ []) ∷ cs → inside ++ Fixed (r ∷ []) ∷ after ≡ cs ++ Fixed (s ∷ []) ∷ later → (more : List GItem) × (is ≡ before ++ grouped l inside r more)
  ends_there {is} before inside cs {l} {r} s after later level f i p q =
      let partner = has_partner g.fences built.proper.once level (length before) (Fixed (l ∷ [])) (ap (λ (x : List GItem). slice_get x (length before)) p ∙ item_at before (Fixed (l ∷ [])) cs) (is_left_of f) in
      let a = partner.1.group in
      let opened = sym (drop-append_seam before (Fixed (l ∷ []) ∷ cs)) ∙ sym (ap (λ (x : List GItem). drop (length before) x) p) ∙ (group_opened a).0 in
      let rest : cs ≡ partner.1.inside ++ Fixed (partner.1.right ∷ []) ∷ a.after = (cons_parts opened).1 in
      let whole : inside ++ Fixed (r ∷ []) ∷ after ≡ partner.1.inside ++ Fixed (partner.1.right ∷ []) ∷ (a.after ++ Fixed (s ∷ []) ∷ later) = q ∙ ap (λ (x : List GItem). x ++ Fixed (s ∷ []) ∷ later) rest ∙ append_assoc partner.1.inside (Fixed (partner.1.right ∷ []) ∷ a.after) (Fixed (s ∷ []) ∷ later) in
      let o = level_once g.fences built.proper.once i a.within f a.fence whole in
      let body : cs ≡ inside ++ Fixed (r ∷ []) ∷ a.after = rest ∙ ap (λ (x : List GItem). x ++ Fixed (partner.1.right ∷ []) ∷ a.after) (sym o.inside) ∙ ap (λ (n : ℕ). inside ++ Fixed (n ∷ []) ∷ a.after) (sym o.right) in
      (a.after, p ∙ ap (λ (x : List GItem). before ++ Fixed (l ∷ []) ∷ x) body)

  -- the inside of each group of a stretch counts
  inside_counts : {is inside : List GItem} {l r v : ℕ} → InsidesWeigh g is v → (before after : List GItem) → IsFence g.fences l r → IsLevel g.fences inside → is ≡ before ++ grouped l inside r after → CountsWithin g inside v
  inside_counts no_inside [] after f i e = absurd (no_group e)
  inside_counts no_inside (x ∷ before) after f i e = absurd cc
  inside_counts (inside_later p w) [] after f i e = absurd (plain_not_group f p e)
  inside_counts (inside_later p w) (x ∷ before) after f i e = inside_counts w before after f i (cons_parts e).1
  inside_counts (inside_here {own = own} k b d t split h) [] after f i e =
      let o = level_once g.fences built.proper.once (part_level g built.proper.once b) i k f (cons_parts (sym split ∙ e)).1 in
      record { own = own; weighs = subst (λ (x : List GItem). PartWeighs g x own) o.inside b; low = omega (arith, h) }
  inside_counts {inside = inside} {l = l} {r = r} {v = v} (inside_here {r = right} {deeper = deeper} {later = later} {inside = own} {after = rest} k b d t split h) (x ∷ before) after f i e =
      by_place (stands before (Fixed (l ∷ [])) (inside ++ Fixed (r ∷ []) ∷ after) own (Fixed (right ∷ [])) rest (cons_parts (sym e ∙ split)).1) (λ more q. inside_counts d before more f i q) (λ cs q. inside_counts t cs after f i q)
    where
      by_place : Stands before (Fixed (l ∷ [])) (inside ++ Fixed (r ∷ []) ∷ after) own (Fixed (right ∷ [])) rest → ((more : List GItem) → own ≡ before ++ grouped l inside r more → CountsWithin g inside deeper) → ((cs : List GItem) → rest ≡ cs ++ grouped l inside r after → CountsWithin g inside later) → CountsWithin g inside v
      by_place (in_front cs p q) within past = let s = ends_there before inside cs right after rest (part_level g built.proper.once b) f i p q in counts_more (within s.0 s.1) (omega (arith, h))
      by_place (there p) within past = absurd (sides_apart built.proper.once f k (fixed_one p))
      by_place (behind cs p) within past = counts_more (past cs p) (omega (arith, h))

  pub inside_light : IsLight g → (p k : ℕ) (inside : List GItem) → HasInside g p k inside → AreLight g inside
  inside_light light p k inside h =
      let rule = light p h.rule in
      let c = inside_counts rule.1.3 h.at.before h.at.after h.at.fence h.at.within h.at.split in
      (c.own, c.weighs, omega (arith, c.low, rule.1.4, rule.2))

  -- so no group keeps the grammar from having a nest
  pub nest_not_heavy : (weight : ℕ) → IsLight g → IsFirstHeavy g weight → ⊥
  nest_not_heavy weight light h =
      let inside = inside_light light h.rule h.place h.inside h.is in
      let same : inside.0 ≡ weight = part_weighs_once g built.proper.once h.inside inside.0 weight inside.1 h.weighs in
      omega (arith, same, inside.2, h.heavy)

  pub part_not_heavy : (is : List GItem) (weight : ℕ) → AreLight g is → PartWeighs g is weight → heaviest < weight → ⊥
  part_not_heavy is weight light h heavy =
      let same : light.0 ≡ weight = part_weighs_once g built.proper.once is light.0 weight light.1 h in
      omega (arith, same, light.2, heavy)

  pub not_heavy : (weight : ℕ) → IsLight g → IsHeaviness g weight → ⊥
  not_heavy weight light h =
      let rule = light h.0 h.1.rule in
      let same : rule.0 ≡ weight = rule_weighs_once g built.proper.once h.0 rule.0 weight rule.1 h.1.weighs in
      omega (arith, same, rule.2, h.1.heavy)

  -- two level stretches weigh no more than both together
  record PartsWeigh (front rest : List GItem) (v : ℕ) : Type 0 where
    front_weight : ℕ
    rest_weight : ℕ
    front_weighs : PartWeighs g front front_weight
    rest_weighs : PartWeighs g rest rest_weight
    front_low : front_weight ≤ v
    rest_low : rest_weight ≤ v

  parts_weigh : {is front : List GItem} (rest : List GItem) {v : ℕ} → IsLevel g.fences front → PartWeighs g is v → is ≡ front ++ rest → PartsWeigh front rest v
  parts_weigh rest {v} level_none w e = record { front_weight = 0; rest_weight = v; front_weighs = no_part; rest_weighs = subst (λ (x : List GItem). PartWeighs g x v) e w; front_low = omega arith; rest_low = omega arith }
  parts_weigh rest (level_then plain t) no_part e = absurd cc
  parts_weigh rest {v} (level_then {i = i} {is = front} plain t) (part_then {own = own} {rest = weight} p j w h) e =
      let c = cons_parts e in
      let d = parts_weigh rest t w c.1 in
      let within = part_within w in
      record { front_weight = capped (own + d.front_weight); rest_weight = d.rest_weight; front_weighs = part_then plain (subst (λ (x : GItem). ItemWeighs g x own) c.0 j) d.front_weighs refl; rest_weighs = d.rest_weighs; front_low = omega (arith, h, d.front_low); rest_low = omega (arith, h, d.rest_low, within) }
  parts_weigh rest (level_then plain t) (part_group f i w split h) e = absurd (plain_not_group f plain (sym e ∙ split))
  parts_weigh rest (level_group {l = l} {r = r} {inside = inside} {after = after} f i t split) no_part e = absurd (no_group (e ∙ ap (λ (x : List GItem). x ++ rest) split))
  parts_weigh rest (level_group f i t split) (part_then p j w h) e = absurd (plain_not_group f p (e ∙ ap (λ (x : List GItem). x ++ rest) split))
  parts_weigh rest {v} (level_group {l = l} {r = r} {inside = inside} {after = after} f i t split) (part_group k j w split' h) e =
      let opened : _ ≡ grouped l inside r (after ++ rest) = sym split' ∙ e ∙ ap (λ (x : List GItem). x ++ rest) split ∙ group_more l inside r after rest in
      let o = level_once g.fences built.proper.once j i k f (cons_parts opened).1 in
      let d = parts_weigh rest t w o.after in
      let within = part_within w in
      record { front_weight = capped (2 + d.front_weight); rest_weight = d.rest_weight; front_weighs = part_group f i d.front_weighs split refl; rest_weighs = d.rest_weighs; front_low = omega (arith, h, d.front_low); rest_low = omega (arith, h, d.rest_low, within) }

  -- the front and the rest of a cut make up the stretch, or the inside of a group
  data Makes (is front rest : List GItem) : Type 0 where
    makes_all : is ≡ front ++ rest → Makes is front rest
    makes_inside : {l r : ℕ} (before after : List GItem) → IsFence g.fences l r → is ≡ before ++ grouped l (front ++ rest) r after → Makes is front rest

  nested : (before head inside tail after : List GItem) (l m s r : ℕ) → before ++ grouped l (head ++ grouped m inside s tail) r after ≡ (before ++ Fixed (l ∷ []) ∷ head) ++ grouped m inside s (tail ++ Fixed (r ∷ []) ∷ after)
  nested before head inside tail after l m s r = simp (append_assoc)

  makes : {is front rest : List GItem} {c : ℕ} → IsCut g.fences is c front rest → Makes is front rest
  makes (cut_here a b e h) = makes_all e
  makes {is} {front} {rest} (cut_inside {before = before} {inside = inside} {l = l} {r = r} after level f k e h) = deeper (makes k)
    where
      deeper : Makes inside front rest → Makes is front rest
      deeper (makes_all q) = makes_inside before after f (e ∙ ap (λ (x : List GItem). before ++ grouped l x r after) q)
      deeper (makes_inside {l = m} {r = s} head tail k q) = makes_inside (before ++ Fixed (l ∷ []) ∷ head) (tail ++ Fixed (r ∷ []) ∷ after) k (e ∙ ap (λ (x : List GItem). before ++ grouped l x r after) q ∙ nested before head (front ++ rest) tail after l m s r)

  both_light : {is : List GItem} (front rest : List GItem) {v : ℕ} → IsLevel g.fences front → PartWeighs g is v → v ≤ heaviest → is ≡ front ++ rest → AreLight g front × AreLight g rest
  both_light front rest level w low e = let d = parts_weigh rest level w e in ((d.front_weight, d.front_weighs, omega (arith, d.front_low)), (d.rest_weight, d.rest_weighs, omega (arith, d.rest_low)))

  pub rule_light : IsLight g → (p : ℕ) → p < length g.rules → AreLight g (spread g p)
  rule_light light p lt = let rule = light p lt in (rule.1.0, rule.1.2, omega (arith, rule.1.4, rule.2))

  pub cut_light : IsLight g → (p c : ℕ) (front rest : List GItem) → p < length g.rules → IsCut g.fences (spread g p) c front rest → AreLight g front × AreLight g rest
  cut_light light p c front rest lt cut = by_place (cut_level cut) (makes cut) (light p lt)
    where
      by_place : IsLevel g.fences front × IsLevel g.fences rest → Makes (spread g p) front rest → IsLightRule g p → AreLight g front × AreLight g rest
      by_place levels (makes_all e) rule = both_light front rest levels.0 rule.1.2 (omega (arith, rule.1.4, rule.2)) e
      by_place levels (makes_inside before after f e) rule =
          let c = inside_counts rule.1.3 before after f (level_append levels.0 levels.1) e in
          both_light front rest levels.0 c.weighs (omega (arith, c.low, rule.1.4, rule.2)) refl
