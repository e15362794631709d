-- What a screen stands on, and what it sees.
use Rattle.std.specs.Prelude.{◌≡◌, ℕ, Bool, true, false, List, length, get_or, slice_get, Some}
use Rattle.std.specs.declared.option.Option.{Option}
use Rattle.xs_gram.specs.Grammar.{Grammar}
use Rattle.xs_gram.specs.Fences.{spread}
use Rattle.xs_gram.specs.Loose.{IsLoose}
use Rattle.xs_gram.specs.Suspects.{IsHorizontal}
use Rattle.xs_meet.specs.Closed.{IsSettled, AreApart}
use Rattle.xs_loose.specs.declared.part.Part.{Part}
use Rattle.xs_coarse.specs.Coarse.{Table, Net, MayCall, view}
use Rattle.xs_coarse.specs.Labels.{IsLabelsOf}
use Rattle.xs_coarse.specs.declared.tail.Tail.{Tail}
use Rattle.xs_coarse.specs.Tails.{IsTail, IsWithinAll}
use Rattle.xs_coarse_net.specs.declared.cover.Cover.{Cover}
use Rattle.xs_coarse_net.specs.Contents.{nest_of}
use Rattle.xs_coarse_net.specs.Covers.{IsCoverOf}
use Rattle.xs_coarse_net.specs.Having.{IsCovers}
use Rattle.xs_screen.specs.declared.kept.Kept.{Kept}
use Rattle.xs_screen.specs.declared.screen.Screen.{Screen}

-- all spread items of rule p
abbrev pub whole_part : Grammar → ℕ → Part
whole_part g p = record { rule = p; start = 0; end = length (spread g p) }

-- the end is that of the net of this cover
pub record IsEndOf (cover : Cover) (tail : Tail) : Type 0 where
  pub gate : ℕ
  pub within : IsWithinAll cover.net
  pub is : IsTail cover.net cover.last gate tail

-- the cover is one of all spread items of rule p
abbrev pub IsWholeCover : Grammar → Table → ℕ → Cover → Type 0
IsWholeCover g t p cover = IsCoverOf g t (whole_part g p) cover

-- the end is that of the net of such a cover
pub record IsTailOf (g : Grammar) (t : Table) (p : ℕ) (tail : Tail) : Type 0 where
  pub cover : Cover
  pub covers : IsWholeCover g t p cover
  pub end : IsEndOf cover tail

-- what is kept in the place of each rule, if something is, is so
abbrev pub AreOf : {A : Type 0} → (ℕ → A → Type 0) → List (Option A) → Type 0
AreOf {A} P kept = (p : ℕ) (x : A) → slice_get kept p ≡ Some (Some x) → P p x

-- nothing is kept of that many rules
pub record AreNone (rules : ℕ) (kept : Kept) : Type 0 where
  pub tails : length kept.tails.items ≡ rules
  pub covers : length kept.covers.items ≡ rules
  pub no_tail : AreOf (λ (p : ℕ) (x : Tail). ⊥) kept.tails.items
  pub no_cover : AreOf (λ (p : ℕ) (x : Cover). ⊥) kept.covers.items

-- of each rule the end of a cover is kept, and a cover, or there is none
pub record AreKept (g : Grammar) (t : Table) (kept : Kept) : Type 0 where
  pub tails : length kept.tails.items ≡ length g.rules
  pub covers : length kept.covers.items ≡ length g.rules
  pub each_tail : AreOf (IsTailOf g t) kept.tails.items
  pub each_cover : AreOf (IsWholeCover g t) kept.covers.items

-- the labels and the covers are those of the grammar, groups that the labels keep apart read no common
-- word, and what is kept of each rule is of it
pub record IsScreen (g : Grammar) (s : Screen) : Type 0 where
  pub labels : IsLabelsOf g s.labels
  pub covers : IsCovers g s.labels s.covers
  pub settled : IsSettled (nest_of s.labels s.covers.contents.items) (MayCall s.labels)
  pub kept : AreKept g s.labels s.kept

-- nets that have these ends accept no common word
abbrev pub AreEndsApart : Table → Tail → Tail → Type 0
AreEndsApart t one other = (m n : Net) (b e d f : ℕ) → IsWithinAll m → IsWithinAll n → IsTail m b e one → IsTail n d f other → AreApart (MayCall t) (view t m 0 b) (view t n 0 d)

-- no word is loose for both rules
abbrev pub ShareNone : Grammar → ℕ → ℕ → Type 0
ShareNone g p q = (w : List ℕ) → IsLoose g (spread g p) w → IsLoose g (spread g q) w → ⊥

-- no words overlap at cut c of rule p
abbrev pub OverlapNowhere : Grammar → ℕ → ℕ → Type 0
OverlapNowhere g p c = (x a y : List ℕ) → IsHorizontal g p c x a y → ⊥

-- no words overlap at a cut of rule p of which there is no doubt
abbrev pub AreDoubts : Grammar → ℕ → List Bool → Type 0
AreDoubts g p doubts = (c : ℕ) → get_or doubts c true ≡ false → OverlapNowhere g p c
