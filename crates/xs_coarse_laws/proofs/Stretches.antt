-- What is left of a stretch after an item and after a group, the group itself, and its inside.
use Rattle.std.proofs.Common.{◌≡◌, ℕ, suc, ◌+◌, ◌<◌, List, [], ◌∷◌, ◌++◌, length, refl, sym, ap, ◌∙◌, arith, append_assoc, length-append}
use Rattle.xs_gram.specs.declared.parts.GItem.{GItem}
use Rattle.xs_gram.specs.declared.parts.GItem.TheVariants.{Fixed}
use Rattle.xs_gram.specs.Grammar.{Grammar}
use Rattle.xs_gram.specs.Fences.{spread, IsFence, IsPlain, IsLevel, grouped, GroupAt}
use Rattle.xs_gram.proofs.Levels.{group_more, group_split, length_grouped, level_tail}
use Rattle.xs_loose.specs.Parts.{IsStretch}

pub past_item : {g : Grammar} {p k : ℕ} {i : GItem} {is : List GItem} → IsPlain g.fences i → IsStretch g p k (i ∷ is) → IsStretch g p (suc k) is
past_item {i = i} {is = is} plain s = record {
  rule = s.rule;
  before = s.before ++ i ∷ [];
  after = s.after;
  split = s.split ∙ sym (append_assoc s.before (i ∷ []) (is ++ s.after));
  place = omega (arith, s.place, length-append s.before (i ∷ []));
  level = level_tail plain s.level;
}

-- the stretch that begins with a group
opened : {g : Grammar} {p k l : ℕ} {is : List GItem} (inside : List GItem) (r : ℕ) (later : List GItem) → is ≡ grouped l inside r later → (s : IsStretch g p k is) → spread g p ≡ s.before ++ grouped l inside r (later ++ s.after)
opened {l = l} inside r later e s =
    s.split ∙ ap (λ (x : List GItem). s.before ++ (x ++ s.after)) e ∙ ap (λ (x : List GItem). s.before ++ x) (group_more l inside r later s.after)

pub past_group : {g : Grammar} {p k l : ℕ} {is : List GItem} (inside : List GItem) (r : ℕ) {later : List GItem} → is ≡ grouped l inside r later → IsLevel g.fences later → IsStretch g p k is → IsStretch g p (suc (suc (k + length inside))) later
past_group {l = l} inside r {later = later} e level s = record {
  rule = s.rule;
  before = s.before ++ grouped l inside r [];
  after = s.after;
  split = opened inside r later e s ∙ group_split s.before l inside r (later ++ s.after);
  place = omega (arith, s.place, length_grouped s.before l inside r);
  level = level;
}

pub its_group : {g : Grammar} {p k l r : ℕ} {inside is : List GItem} (later : List GItem) → is ≡ grouped l inside r later → IsFence g.fences l r → IsLevel g.fences inside → IsStretch g p k is → GroupAt g.fences (spread g p) k (suc (k + length inside)) l inside r
its_group {r = r} {inside = inside} later e fence level s = record { before = s.before; after = later ++ s.after; split = opened inside r later e s; fence = fence; within = level; place = s.place; partner = refl }

pub its_inside : {g : Grammar} {p k m l r : ℕ} {inside : List GItem} → p < length g.rules → GroupAt g.fences (spread g p) k m l inside r → IsStretch g p (suc k) inside
its_inside {l = l} {r = r} {inside = inside} rule a = record {
  rule = rule;
  before = a.before ++ Fixed (l ∷ []) ∷ [];
  after = Fixed (r ∷ []) ∷ a.after;
  split = a.split ∙ sym (append_assoc a.before (Fixed (l ∷ []) ∷ []) (inside ++ Fixed (r ∷ []) ∷ a.after));
  place = omega (arith, a.place, length-append a.before (Fixed (l ∷ []) ∷ []));
  level = a.within;
}
