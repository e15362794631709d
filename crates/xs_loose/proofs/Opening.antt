-- What a level stretch begins with: a group, or a plain item.
use Rattle.std.proofs.Common.{◌≡◌, ℕ, suc, ◌+◌, ◌<◌, List, [], ◌∷◌, ◌++◌, length, drop, get_or, sym, ap, subst, ◌∙◌, arith, Some}
use Rattle.std.proofs.lemmas.Option.{slice_get-get_or}
use Rattle.xs_class.proofs.Lists.{cons_parts}
use Rattle.xs_gram.specs.declared.parts.GItem.{GItem}
use Rattle.xs_gram.specs.declared.parts.GItem.TheVariants.{Fixed}
use Rattle.xs_gram.specs.Laws.{IsDistinct}
use Rattle.xs_gram.specs.Fences.{fence_symbols, IsFence, IsPlain, IsLevel, level_none, level_then, level_group, grouped, IsPartner, IsLeftFence}
use Rattle.xs_gram.proofs.Fences.{is_left_of}
use Rattle.xs_gram.proofs.Levels.{plain_not_group, group_more, level_once, level_first, group_opened}
use Rattle.xs_gram.proofs.Building.{drop_next}

-- the stretch, which stands from item k on, begins with a group whose right fence is item m
pub record GroupFirst (fs : List (ℕ × ℕ)) (rest : List GItem) (k m : ℕ) : Type 0 where
  pub left : ℕ
  pub right : ℕ
  pub inside : List GItem
  pub later : List GItem
  pub fence : IsFence fs left right
  pub within : IsLevel fs inside
  pub level : IsLevel fs later
  pub split : rest ≡ grouped left inside right later
  pub partner : m ≡ suc (k + length inside)

-- it begins with this item, which is plain
pub record ItemFirst (fs : List (ℕ × ℕ)) (rest : List GItem) (i : GItem) : Type 0 where
  pub later : List GItem
  pub split : rest ≡ i ∷ later
  pub plain : IsPlain fs i
  pub level : IsLevel fs later

pub group_first : (fs : List (ℕ × ℕ)) → IsDistinct (fence_symbols fs) → (xs rest post : List GItem) (k m : ℕ) → IsPartner fs xs k m → drop k xs ≡ rest ++ post → IsLevel fs rest → 0 < length rest → GroupFirst fs rest k m
group_first fs once xs rest post k m p at level some = by_level rest level at some
  where
    by_level : (rest : List GItem) → IsLevel fs rest → drop k xs ≡ rest ++ post → 0 < length rest → GroupFirst fs rest k m
    by_level [] level_none e some = absurd (omega (arith, some))
    by_level (i ∷ is) (level_then plain t) e some = absurd (plain_not_group p.group.fence plain (sym e ∙ (group_opened p.group).0))
    by_level rest (level_group {l = l} {r = r} {inside = inside} {after = after} f i t split) e some =
        let a = p.group in
        let both : grouped l inside r (after ++ post) ≡ grouped p.left p.inside p.right a.after = sym (group_more l inside r after post) ∙ ap (λ (x : List GItem). x ++ post) (sym split) ∙ sym e ∙ (group_opened a).0 in
        let o = level_once fs once i a.within f a.fence (cons_parts both).1 in
        record { left = l; right = r; inside = inside; later = after; fence = f; within = i; level = t; split = split; partner = a.partner ∙ ap (λ (x : List GItem). suc (k + length x)) (sym o.inside) }

pub item_first : (fs : List (ℕ × ℕ)) (xs rest post : List GItem) (k : ℕ) (i : GItem) → k < length xs → i ≡ get_or xs k i → (IsLeftFence fs xs k → ⊥) → drop k xs ≡ rest ++ post → IsLevel fs rest → 0 < length rest → ItemFirst fs rest i
item_first fs xs rest post k i low is other at level some = by_front rest level at some
  where
    no_left : (j : GItem) → j ≡ i → (l r : ℕ) → IsFence fs l r → j ≡ Fixed (l ∷ []) → ⊥
    no_left j same l r f e = other record { symbol = l; item = slice_get-get_or xs k i low ∙ ap (λ (x : GItem). Some x) (sym is ∙ sym same ∙ e); left = is_left_of f }

    by_front : (rest : List GItem) → IsLevel fs rest → drop k xs ≡ rest ++ post → 0 < length rest → ItemFirst fs rest i
    by_front [] level e some = absurd (omega (arith, some))
    by_front (j ∷ later) level e some =
        let c = cons_parts (sym e ∙ drop_next xs k i low is) in
        let first = level_first (no_left j c.0) level in
        record {
          later = later;
          split = ap (λ (x : GItem). x ∷ later) c.0;
          plain = subst (λ (x : GItem). IsPlain fs x) c.0 first.0;
          level = first.1;
        }
