-- The contents of a grammar's groups, one more at a time.
use Rattle.std.proofs.Common.{◌≡◌, ℕ, suc, ◌+◌, ◌<◌, List, [], ◌∷◌, ◌++◌, length, slice_get, refl, sym, ap, subst, ◌∙◌, inl, arith, Some}
use Rattle.std.proofs.lemmas.List.{map-append}
use Rattle.std.proofs.lemmas.Option.{same_Some}
use Rattle.xs_class.specs.Classes.{Has}
use Rattle.xs_auto.specs.Nests.{Group}
use Rattle.xs_gram.specs.declared.parts.GItem.{GItem}
use Rattle.xs_gram.specs.declared.parts.GItem.TheVariants.{Fixed}
use Rattle.xs_gram.specs.Grammar.{Grammar}
use Rattle.xs_gram.specs.Fences.{spread, GroupAt, IsPartner}
use Rattle.xs_gram.specs.Sound.{IsProper}
use Rattle.xs_gram.proofs.Levels.{fixed_one}
use Rattle.xs_loose.specs.declared.part.Fenced.{Fenced}
use Rattle.xs_loose.specs.Parts.{part_items, IsFencedAt}
use Rattle.xs_loose.proofs.Nesting.{left_at, right_at, inside_once, groups_more}
use Rattle.xs_coarse.specs.Coarse.{Table, Net, view}
use Rattle.xs_coarse.specs.Covers.{CoversPart, CoversGroup, CoversGroups, IsUnfencedNet, AreUnfenced}
use Rattle.xs_coarse.proofs.Views.{view_edge_arc, view_final}
use Rattle.xs_coarse_net.specs.declared.cover.Content.{Content}
use Rattle.xs_coarse_net.specs.declared.cover.Cover.{Cover}
use Rattle.xs_coarse_net.specs.Covers.{cover_view, IsCoverOf}
use Rattle.xs_coarse_net.specs.Contents.{group_of, nest_of, IsContentOf, HasContentsBefore}

-- a net whose edges read classes of the table reads no fence symbol
pub view_unfenced : (g : Grammar) (t : Table) (n : Net) (s e : ℕ) → AreUnfenced g t → IsUnfencedNet g (view t n s e)
view_unfenced g t n s e un = λ a z x c has. let arc = view_edge_arc t n s e a x c in un arc.number z (subst (λ (l : List (ℕ × ℕ)). Has l z) arc.class has)

-- a group and the cover of its inside are its content
pub content_is : (g : Grammar) (t : Table) → AreUnfenced g t → (p k : ℕ) (f : Fenced) (cover : Cover) → p < length g.rules → IsFencedAt g p k f → IsCoverOf g t f.inside cover → IsContentOf g p k (group_of t (record { left = f.left; right = f.right; cover = cover }))
content_is g t un p k f cover rule at is = record {
  rule = rule;
  inside = part_items g f.inside;
  partner = f.inside.end;
  at = at.at;
  covers = record {
    left = refl;
    right = refl;
    first = 0;
    last = cover.last;
    starts = refl;
    final = view_final t cover.net 0 cover.last is.last;
    content = subst (λ (s : ℕ). CoversPart g (cover_view t cover) p s (part_items g f.inside) 0 cover.last) at.start (subst (λ (q : ℕ). CoversPart g (cover_view t cover) q f.inside.start (part_items g f.inside) 0 cover.last) at.rule is.covers);
  };
  plain = view_unfenced g t cover.net 0 cover.last un;
}

module _ (g : Grammar) where
  -- one more content
  pub contents_push : (t : Table) (p k m : ℕ) → IsPartner g.fences (spread g p) k m → (old new : List Content) (c : Content) → IsContentOf g p k (group_of t c) → new ≡ old ++ c ∷ [] → HasContentsBefore g p k (nest_of t old) → HasContentsBefore g p (k + 1) (nest_of t new)
  contents_push t p k m partner old new c is e was = groups_more g p k m partner (nest_of t old) (nest_of t new) (group_of t c) is (ap (λ (xs : List Content). nest_of t xs) e ∙ map-append (group_of t) old (c ∷ [])) was

  -- a group is the one that was found at its place
  content_same : IsProper g → (p k m l r : ℕ) (inside : List GItem) (group : Group) → GroupAt g.fences (spread g p) k m l inside r → IsContentOf g p k group → CoversGroup g p k m l inside r group
  content_same proper p k m l r inside group at is =
      let same : is.inside ≡ inside = inside_once g.fences proper.once (spread g p) k is.partner m group.left group.right l r is.inside inside is.at at in
      let left : group.left ≡ l = fixed_one (same_Some _ _ (sym (left_at is.at) ∙ left_at at)) in
      let partner : is.partner ≡ m = is.at.partner ∙ ap (λ (xs : List GItem). suc (k + length xs)) same ∙ sym at.partner in
      let right : group.right ≡ r = fixed_one (same_Some _ _ (sym (right_at g.fences (spread g p) k is.partner group.left group.right is.inside is.at) ∙ ap (λ (n : ℕ). slice_get (spread g p) n) partner ∙ right_at g.fences (spread g p) k m l r inside at)) in
      record {
        left = left;
        right = right;
        first = is.covers.first;
        last = is.covers.last;
        starts = is.covers.starts;
        final = is.covers.final;
        content = subst (λ (xs : List GItem). CoversPart g group.content p (suc k) xs is.covers.first is.covers.last) same is.covers.content;
      }

  -- all groups have their contents
  pub contents_all : IsProper g → (p : ℕ) (nest : List Group) → p ≡ length g.rules → HasContentsBefore g p 0 nest → CoversGroups g nest
  contents_all proper p nest end was = record {
    there = λ q k m l r inside low at.
        let found = was.there q k m l r inside (inl (omega (arith, low, end))) low at in
        (found.0, found.1, content_same proper q k m l r inside found.0 at found.2);
    fences = λ h group is. (was.only h group is).3.at.fence;
    starts = λ h group is. grind (arith, (was.only h group is).3.covers.starts);
    plain = λ h group is. (was.only h group is).3.plain;
  }
