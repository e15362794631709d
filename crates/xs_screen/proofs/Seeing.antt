-- What a screen sees is so: rules whose covers are apart share no word, and at a cut where a cover is
-- clear nothing overlaps.
use Rattle.std.proofs.Common.{◌≡◌, ◌≢◌, ◌⊎◌, inl, inr, ℕ, zero, suc, ◌-◌, ◌<◌, Bool, true, false, List, [], ◌∷◌, refl, length, length-set, length-append, get_or, set, take, drop, ap, sym, subst, ◌∙◌, arith}
use Rattle.std.proofs.lemmas.Bool.{cases_lt, cases_eq}
use Rattle.std.proofs.lemmas.Option.{same_Some, slice_get_read}
use Rattle.std.specs.declared.option.Option.{Option}
use Rattle.std.specs.declared.option.Option.TheVariants.{Some, None}
use Rattle.std.specs.Option.{IfSome}
use Rattle.xs_class.specs.Classes.{Has}
use Rattle.std.proofs.lemmas.List.{take_all, get_or-set_other}
use Rattle.std.specs.List.{slice_get}
use Rattle.std.specs.Prelude.{slice_range}
use Rattle.xs_gram.specs.declared.parts.GItem.{GItem}
use Rattle.xs_gram.specs.Grammar.{Grammar}
use Rattle.xs_gram.specs.Sound.{IsBuilt}
use Rattle.xs_gram.specs.Fences.{spread, IsLevel}
use Rattle.xs_gram.specs.Cuts.{CutsAt, CutsAreOne}
use Rattle.xs_gram.proofs.Levels.{no_group}
use Rattle.xs_gram.specs.Loose.{IsLoose, loose_none, loose_then, loose_group}
use Rattle.xs_loose.specs.declared.part.Part.{Part}
use Rattle.xs_loose.specs.Parts.{IsPart, part_items}
use Rattle.xs_loose.proofs.Stretches.{part_stretch}
use Rattle.xs_meet.specs.Closed.{AreApart, IsSettled}
use Rattle.xs_coarse.specs.Coarse.{Table, MayCall, view}
use Rattle.xs_coarse.specs.Covers.{CoversCut}
use Rattle.xs_coarse_laws.specs.Laws.{Covering, ApartSharesNone, ClearOverlapsNot}
use Rattle.xs_coarse_net.specs.declared.cover.Content.{Content}
use Rattle.xs_coarse_net.specs.declared.cover.Cover.{Cover}
use Rattle.xs_coarse_net.specs.Contents.{nest_of}
use Rattle.xs_coarse_net.specs.Covers.{IsCoverOf, cover_view}
use Rattle.xs_coarse_net.specs.Having.{IsCovers}
use Rattle.xs_coarse_net.specs.declared.cover.Covers.{Covers}
use Rattle.xs_coarse_net.proofs.Keeping.{covers_same}
use Rattle.xs_coarse.specs.Labels.{IsLabelsOf}
use Rattle.xs_coarse.specs.declared.tail.Tail.{Tail}
use Rattle.xs_coarse.specs.Sets.{AreClear}
use Rattle.xs_screen.specs.declared.kept.Kept.{Kept}
use Rattle.xs_screen.specs.declared.screen.Screen.{Screen}
use Rattle.xs_screen.specs.Parting.{Parts}
use Rattle.xs_screen.specs.Screens.{IsScreen, IsWholeCover, IsEndOf, IsTailOf, AreOf, AreNone, AreKept, AreEndsApart, ShareNone, OverlapNowhere, AreDoubts, whole_part}

pub whole_items : (g : Grammar) (p : ℕ) → part_items g (whole_part g p) ≡ spread g p
whole_items g p = take_all (length (spread g p) - 0) (spread g p) (omega arith)

pub whole_is_part : (g : Grammar) → IsBuilt g → (p : ℕ) → p < length g.rules → IsPart g (whole_part g p)
whole_is_part g built p rule = record { rule = rule; order = omega arith; within = omega arith; level = subst (λ (is : List GItem). IsLevel g.fences is) (sym (whole_items g p)) (built.proper.level p) }

module _ (g : Grammar) (built : IsBuilt g) (s : Screen) (screen : IsScreen g s) where
  covering : Covering g (nest_of s.labels s.covers.contents.items)
  covering = record { built = built; groups = screen.covers.groups }

  pub apart_shares : ApartSharesNone → (p q : ℕ) → p < length g.rules → q < length g.rules → (one other : Cover) → IsCoverOf g s.labels (whole_part g p) one → IsCoverOf g s.labels (whole_part g q) other → AreApart (MayCall s.labels) (cover_view s.labels one) (cover_view s.labels other) → ShareNone g p q
  apart_shares law p q rule rule2 one other covers covers2 apart w loose loose2 =
      law g (nest_of s.labels s.covers.contents.items) covering s.labels screen.labels.unfenced screen.settled one.net other.net p 0 q 0 (part_items g (whole_part g p)) (part_items g (whole_part g q)) 0 one.last 0 other.last
      (part_stretch g (whole_part g p) (whole_is_part g built p rule)) (part_stretch g (whole_part g q) (whole_is_part g built q rule2)) covers.covers covers2.covers covers.last covers2.last apart w
      (subst (λ (is : List GItem). IsLoose g is w) (sym (whole_items g p)) loose) (subst (λ (is : List GItem). IsLoose g is w) (sym (whole_items g q)) loose2)

  -- so do rules whose ends are apart
  pub ends_share : ApartSharesNone → (p q : ℕ) → p < length g.rules → q < length g.rules → (one other : Tail) → IsTailOf g s.labels p one → IsTailOf g s.labels q other → AreEndsApart s.labels one other → ShareNone g p q
  ends_share law p q rule rule2 one other h k apart =
      apart_shares law p q rule rule2 h.cover k.cover h.covers k.covers (apart h.cover.net k.cover.net h.cover.last h.end.gate k.cover.last k.end.gate h.end.within k.end.within h.end.is k.end.is)

  pub clear_overlaps : ClearOverlapsNot → CutsAreOne → (part : Part) (c : Cover) (place here : ℕ) → IsPart g part → IsCoverOf g s.labels part c → CoversCut g (cover_view s.labels c) part.rule part.start place part.end here c.last → here < c.net.states → CutsAt g.fences (spread g part.rule) place part.start part.end → AreClear (MayCall s.labels) (view s.labels c.net 0 here) (view s.labels c.net here c.last) → OverlapNowhere g part.rule place
  clear_overlaps law once part c place here is_part cover covers low cuts clear x a y h =
      let one = once g built.proper part.rule place (omega (arith, cuts.middle, cuts.high)) in
      let own = one.only _ _ cuts.cut in
      let theirs = one.only h.front h.rest h.cut in
      let front : h.front ≡ slice_range (spread g part.rule) part.start place = theirs.0 ∙ sym own.0 in
      let rest : h.rest ≡ slice_range (spread g part.rule) place part.end = theirs.1 ∙ sym own.1 in
      law g (nest_of s.labels s.covers.contents.items) covering s.labels screen.labels.unfenced screen.settled c.net part.rule part.start place part.end here c.last
      (part_stretch g part is_part) covers low cover.last clear.0 clear.1 clear.2 clear.3 clear.4 x a y (rw (front, rest) at h.overlap)

-- an empty stretch has no loose word but the empty one
nothing_loose : {g : Grammar} {is : List GItem} {w : List ℕ} → IsLoose g is w → is ≡ [] → length w ≡ 0
nothing_loose loose_none e = refl
nothing_loose (loose_then plain i rest split) e = absurd cc
nothing_loose (loose_group fence inside rest split word) e = absurd (no_group (sym e ∙ split))

empty_range : (is : List GItem) (c : ℕ) → slice_range is c c ≡ []
empty_range is c = let none : c - c ≡ 0 = omega arith in ap (λ (k : ℕ). take k (drop c is)) none

-- nothing overlaps at the start or the end of a part
pub edge_overlaps : CutsAreOne → (g : Grammar) → IsBuilt g → (part : Part) (c : ℕ) → CutsAt g.fences (spread g part.rule) c part.start part.end → (c ≡ part.start) ⊎ (c ≡ part.end) → OverlapNowhere g part.rule c
edge_overlaps once g built part c cuts edge x a y h =
    let one = once g built.proper part.rule c (omega (arith, cuts.middle, cuts.high)) in
    let own = one.only _ _ cuts.cut in
    let theirs = one.only h.front h.rest h.cut in
    let front : h.front ≡ slice_range (spread g part.rule) part.start c = theirs.0 ∙ sym own.0 in
    let rest : h.rest ≡ slice_range (spread g part.rule) c part.end = theirs.1 ∙ sym own.1 in
    elim edge [
      | inl e ↦ none (omega (arith, length-append x a, nothing_loose h.overlap.long_front (front ∙ ap (λ (k : ℕ). slice_range (spread g part.rule) k c) (sym e) ∙ empty_range (spread g part.rule) c)))
      | inr e ↦ none (omega (arith, length-append a y, nothing_loose h.overlap.long_rest (rest ∙ ap (λ (k : ℕ). slice_range (spread g part.rule) c k) (sym e) ∙ empty_range (spread g part.rule) c)))
    ]
  where
    none : length a ≡ 0 → ⊥
    none e = omega (arith, e, h.overlap.some)

-- a doubt is taken away where nothing overlaps
pub doubt_cleared : (g : Grammar) (p c : ℕ) (doubts : List Bool) → OverlapNowhere g p c → AreDoubts g p doubts → AreDoubts g p (set doubts c false)
doubt_cleared g p c doubts nowhere are k cleared =
    elim (cases_lt c k) [
      | inl less ↦ beside (omega (arith, less))
      | inr more ↦ elim (cases_lt k c) [
        | inl less ↦ beside (omega (arith, less))
        | inr no_more ↦ let same : c ≡ k = omega (arith, more, no_more) in subst (λ (x : ℕ). OverlapNowhere g p x) same nowhere
      ]
    ]
  where
    beside : k ≢ c → OverlapNowhere g p k
    beside other = are k (sym (get_or-set_other doubts c k false true other) ∙ cleared)

set_other : {A : Type 0} (xs : List A) (i j : ℕ) (x : A) → j ≢ i → slice_get (set xs i x) j ≡ slice_get xs j
set_other [] i j x other = refl
set_other (y ∷ ys) zero zero x other = absurd (other refl)
set_other (y ∷ ys) zero (suc j) x other = refl
set_other (y ∷ ys) (suc i) zero x other = refl
set_other (y ∷ ys) (suc i) (suc j) x other = set_other ys i j x (λ e. other (ap suc e))

set_here : {A : Type 0} (xs : List A) (i : ℕ) (x y : A) → slice_get (set xs i x) i ≡ Some y → x ≡ y
set_here [] i x y e = absurd cc
set_here (z ∷ zs) zero x y e = same_Some _ _ e
set_here (z ∷ zs) (suc i) x y e = set_here zs i x y e

-- what is kept is still so where something of a rule is kept, or nothing any longer
of_set : {A : Type 0} (P : ℕ → A → Type 0) (xs : List (Option A)) (p : ℕ) (made : Option A) → AreOf P xs → IfSome made (P p) → AreOf P (set xs p made)
of_set {A} P xs p made was of q x at =
    elim (cases_eq q p) [
      | inl same ↦ subst (λ (k : ℕ). P k x) (sym same) (here (ap (λ (k : ℕ). slice_get (set xs p made) k) (sym same) ∙ at))
      | inr other ↦ was q x (sym (set_other xs p q made other) ∙ at)
    ]
  where
    here : slice_get (set xs p made) p ≡ Some (Some x) → P p x
    here e = subst (λ (o : Option A). IfSome o (P p)) (set_here xs p made (Some x) e) of

-- so it is where the end of a rule's cover is kept, and the cover where there is room
pub kept_more : (g : Grammar) (t : Table) (old new : Kept) (p : ℕ) (tail : Tail) (cover : Cover) → AreKept g t old → IsWholeCover g t p cover → IsEndOf cover tail → new.tails.items ≡ set old.tails.items p (Some tail) → (new.covers.items ≡ old.covers.items) ⊎ (new.covers.items ≡ set old.covers.items p (Some cover)) → AreKept g t new
kept_more g t old new p tail cover was whole end tails covers = record {
  tails = ap (λ (xs : List (Option Tail)). length xs) tails ∙ length-set old.tails.items p (Some tail) ∙ was.tails;
  covers = elim covers [
    | inl same ↦ ap (λ (xs : List (Option Cover)). length xs) same ∙ was.covers
    | inr more ↦ ap (λ (xs : List (Option Cover)). length xs) more ∙ length-set old.covers.items p (Some cover) ∙ was.covers
  ];
  each_tail = subst (λ (xs : List (Option Tail)). AreOf (IsTailOf g t) xs) (sym tails) (of_set (IsTailOf g t) old.tails.items p (Some tail) was.each_tail (record { cover = cover; covers = whole; end = end }));
  each_cover = elim covers [
    | inl same ↦ subst (λ (xs : List (Option Cover)). AreOf (IsWholeCover g t) xs) (sym same) was.each_cover
    | inr more ↦ subst (λ (xs : List (Option Cover)). AreOf (IsWholeCover g t) xs) (sym more) (of_set (IsWholeCover g t) old.covers.items p (Some cover) was.each_cover whole)
  ];
}

-- what stands in the place of a rule is so
pub held_of : {A : Type 0} (P : ℕ → A → Type 0) (xs : List (Option A)) (p : ℕ) (x : A) → AreOf P xs → get_or xs p None ≡ Some x → P p x
held_of {A} P xs p x was at = was p x (there xs p at)
  where
    there : (ys : List (Option A)) (i : ℕ) → get_or ys i None ≡ Some x → slice_get ys i ≡ Some (Some x)
    there [] i e = absurd cc
    there (y ∷ ys) zero e = ap (λ (o : Option A). Some o) e
    there (y ∷ ys) (suc i) e = there ys i e

pub read_of : {A : Type 0} (P : ℕ → A → Type 0) (xs : List (Option A)) (p : ℕ) (read : Option A) (x : A) → AreOf P xs → p < length xs → read ≡ get_or xs p read → read ≡ Some x → P p x
read_of P xs p read x was within at is = was p x (slice_get_read xs (length xs) p read refl within at ∙ ap Some is)

-- so is the cover that is taken out, if there is one
pub taken_cover : (g : Grammar) (t : Table) (p : ℕ) (covers : List (Option Cover)) (taken : Option Cover) → AreOf (IsWholeCover g t) covers → taken ≡ get_or covers p None → IfSome taken (IsWholeCover g t p)
taken_cover g t p covers None each at = tt
taken_cover g t p covers (Some cover) each at = held_of (IsWholeCover g t) covers p cover each (sym at)

-- so is the cover that is kept of a rule, or else was made
pub held_cover : (g : Grammar) (t : Table) (p : ℕ) (covers : List (Option Cover)) (made : Option Cover) (cover : Cover) → AreOf (IsWholeCover g t) covers → IfSome made (IsWholeCover g t p) → (get_or covers p None ≡ Some cover) ⊎ (made ≡ Some cover) → IsWholeCover g t p cover
held_cover g t p covers made cover each new at =
    elim at [
      | inl kept ↦ held_of (IsWholeCover g t) covers p cover each kept
      | inr now ↦ subst (λ (o : Option Cover). IfSome o (IsWholeCover g t p)) now new
    ]

-- a screen stays one where covers are made, and where more or less is kept of rules
pub screen_kept : (g : Grammar) (s new : Screen) → IsScreen g s → new.labels ≡ s.labels → IsCovers g s.labels new.covers → new.covers.contents.items ≡ s.covers.contents.items → AreKept g s.labels new.kept → IsScreen g new
screen_kept g s new was labels is contents kept = record {
  labels = subst (λ (t : Table). IsLabelsOf g t) (sym labels) was.labels;
  covers = subst (λ (t : Table). IsCovers g t new.covers) (sym labels) is;
  settled = subst (λ (t : Table). IsSettled (nest_of t new.covers.contents.items) (MayCall t)) (sym labels) (subst (λ (items : List Content). IsSettled (nest_of s.labels items) (MayCall s.labels)) (sym contents) was.settled);
  kept = subst (λ (t : Table). AreKept g t new.kept) (sym labels) kept;
}

-- labels of which some were parted are still those of the grammar
labels_same : (g : Grammar) {old new : Table} → Parts old new → IsLabelsOf g old → IsLabelsOf g new
labels_same g {old} {new} h was = record {
  unfenced = λ c s has. was.unfenced c s (subst (λ (classes : List (List (ℕ × ℕ))). Has (get_or classes c []) s) h.parted.classes has);
  groups = h.groups ∙ was.groups;
  few = omega (arith, was.few, ap length h.parted.classes, h.groups);
}

-- labels, covers and settled groups make a screen of which nothing is kept of rules
pub screen_made : (g : Grammar) (old : Table) (s : Screen) → Parts old s.labels → IsLabelsOf g old → IsCovers g old s.covers → IsSettled (nest_of s.labels s.covers.contents.items) (MayCall s.labels) → AreNone (length g.rules) s.kept → IsScreen g s
screen_made g old s parts labels covers settled none = record {
  labels = labels_same g parts labels;
  covers = covers_same old s.labels parts.parted.classes g s.covers covers;
  settled = settled;
  kept = record { tails = none.tails; covers = none.covers; each_tail = λ p x at. absurd (none.no_tail p x at); each_cover = λ p x at. absurd (none.no_cover p x at) };
}

-- a screen stays one where the cover of a rule is kept no longer
pub screen_taken : (g : Grammar) (s new : Screen) (p : ℕ) → IsScreen g s → new.labels ≡ s.labels → new.covers ≡ s.covers → new.kept.tails.items ≡ s.kept.tails.items → new.kept.covers.items ≡ set s.kept.covers.items p None → IsScreen g new
screen_taken g s new p was labels same tails covers =
    screen_kept g s new was labels (subst (λ (x : Covers). IsCovers g s.labels x) (sym same) was.covers) (ap (λ (x : Covers). x.contents.items) same) (record {
      tails = ap (λ (xs : List (Option Tail)). length xs) tails ∙ was.kept.tails;
      covers = ap (λ (xs : List (Option Cover)). length xs) covers ∙ length-set s.kept.covers.items p None ∙ was.kept.covers;
      each_tail = subst (λ (xs : List (Option Tail)). AreOf (IsTailOf g s.labels) xs) (sym tails) was.kept.each_tail;
      each_cover = subst (λ (xs : List (Option Cover)). AreOf (IsWholeCover g s.labels) xs) (sym covers) (of_set (IsWholeCover g s.labels) s.kept.covers.items p None was.kept.each_cover tt);
    })
