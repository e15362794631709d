-- Sheets that are alike fail the same rules on fences at the same lines, and have the same fences.
use Rattle.std.proofs.Common.{◌≡◌, ◌∙◌, ℕ, List, [], ◌∷◌, ◌++◌, inl, inr, take, false, refl, sym, ap, subst}
use Rattle.xs_class.specs.declared.side.Side.{Side}
use Rattle.xs_class.specs.declared.side.Side.TheVariants.{Text, Xml}
use Rattle.xs_sheet.specs.declared.sheet.Sheet.{Sheet}
use Rattle.xs_sheet.specs.declared.item.Item.{Item}
use Rattle.xs_sheet.specs.declared.unit.Unit.{Unit}
use Rattle.xs_sheet.specs.declared.unit.Unit.TheVariants.{Terminal, Ignorable, Production, Fence}
use Rattle.xs_pair.specs.declared.ill.IllRule.{IllRule}
use Rattle.xs_pair.specs.declared.ill.IllRule.TheVariants as I
use Rattle.xs_pair.specs.Units.{unit_line}
use Rattle.xs_pair.specs.Verdict.{IsLineWhere, NoneFails}
use Rattle.xs_pair.specs.Fences.{letters_in, fence_letters, only, are_new, pair_in, fence_pairs, IsBalanced, HasInside, side_letters, IsUsed, IsInside, IsOpen, FenceFails, AreAllIf, AreFences}
use Rattle.xs_sheet_laws.specs.Sheets.{AreAlikeUnits, AllAlike, AreAlike}
use Rattle.xs_sheet_laws.proofs.Twins.{twins, twin_at, fronts}
use Rattle.xs_sheet_laws.proofs.Sheets.{alike_back}

-- units that are alike have the same fence characters and the same pair
fence_alike : (u v : Unit) → AreAlikeUnits u v → (letters_in u ≡ letters_in v) × (pair_in u ≡ pair_in v)
fence_alike (Terminal n p r l) (Terminal n' p' r' l') a = (refl, refl)
fence_alike (Ignorable n p r m l) (Ignorable n' p' r' m' l') a = (refl, refl)
fence_alike (Production n x y l) (Production n' x' y' l') a = (refl, refl)
fence_alike (Fence x y l) (Fence x' y' l') a = (rw (a.0, a.1) refl, rw (a.0, a.1) refl)
fence_alike u v a = absurd a

fences_alike : (us vs : List Unit) → AllAlike us vs → (fence_letters us ≡ fence_letters vs) × (fence_pairs us ≡ fence_pairs vs)
fences_alike [] [] a = (refl, refl)
fences_alike (u ∷ us) (v ∷ vs) a =
    let first = fence_alike u v a.0 in
    let more = fences_alike us vs a.1 in
    (ap (λ (z : List ℕ). z ++ fence_letters us) first.0 ∙ ap (λ (z : List ℕ). letters_in v ++ z) more.0, ap (λ (z : List (ℕ × ℕ)). z ++ fence_pairs us) first.1 ∙ ap (λ (z : List (ℕ × ℕ)). pair_in v ++ z) more.1)
fences_alike us vs a = absurd a

used_kept : (earlier : List ℕ) (u v : Unit) → AreAlikeUnits u v → IsUsed earlier u → IsUsed earlier v
used_kept earlier (Terminal n p r l) (Terminal n' p' r' l') a h = absurd h
used_kept earlier (Ignorable n p r m l) (Ignorable n' p' r' m' l') a h = absurd h
used_kept earlier (Production n x y l) (Production n' x' y' l') a h = absurd h
used_kept earlier (Fence x y l) (Fence x' y' l') a h = subst (λ (z : List ℕ). are_new earlier (only x') (only z) ≡ false) a.1 (subst (λ (z : List ℕ). are_new earlier (only z) (only y) ≡ false) a.0 h)
used_kept earlier u v a h = absurd a

inside_kept : (letters : List ℕ) (u v : Unit) → AreAlikeUnits u v → IsInside letters u → IsInside letters v
inside_kept letters (Terminal n p r l) (Terminal n' p' r' l') a h = subst (λ x. HasInside letters x) a.1 h
inside_kept letters (Ignorable n p r m l) (Ignorable n' p' r' m' l') a h = subst (λ x. HasInside letters x) a.1 h
inside_kept letters (Production n x y l) (Production n' x' y' l') a h = absurd h
inside_kept letters (Fence x y l) (Fence x' y' l') a h = absurd h
inside_kept letters u v a h = absurd a

open_kept : (fs : List (ℕ × ℕ)) (u v : Unit) → AreAlikeUnits u v → IsOpen fs u → IsOpen fs v
open_kept fs (Terminal n p r l) (Terminal n' p' r' l') a h = absurd h
open_kept fs (Ignorable n p r m l) (Ignorable n' p' r' m' l') a h = absurd h
open_kept fs (Production n x y l) (Production n' x' y' l') a h = subst (λ (is : List Item). IsBalanced fs (side_letters is) → ⊥) a.1 h
open_kept fs (Fence x y l) (Fence x' y' l') a h = absurd h
open_kept fs u v a h = absurd a

-- a line of a unit is one of its twin
pub line_kept : (us vs : List Unit) (P Q : ℕ → Unit → Type 0) → AllAlike us vs → ((k : ℕ) (u v : Unit) → AreAlikeUnits u v → P k u → Q k v) → (line : ℕ) → IsLineWhere P unit_line us line → IsLineWhere Q unit_line vs line
line_kept us vs P Q all kept line (k, u, at, holds, is) =
    let (v, there, alike) = twin_at us vs all k u at in
    (k, v, there, kept k u v alike holds, sym (twins u v alike).line ∙ is)

-- a rule on fences that fails fails in the other sheet too
pub fence_kept : (us vs : List Unit) → AllAlike us vs → (rule : IllRule) (line : ℕ) → FenceFails us rule line → FenceFails vs rule line
fence_kept us vs all I.FenceChar line h = line_kept us vs (λ k u. IsUsed (fence_letters (take k us)) u) (λ k u. IsUsed (fence_letters (take k vs)) u) all (λ k u v a used. used_kept (fence_letters (take k vs)) u v a (subst (λ (cs : List ℕ). IsUsed cs u) (fences_alike (take k us) (take k vs) (fronts k us vs all)).0 used)) line h
fence_kept us vs all I.FenceInside line h = line_kept us vs (λ k u. IsInside (fence_letters us) u) (λ k u. IsInside (fence_letters vs) u) all (λ k u v a inside. inside_kept (fence_letters vs) u v a (subst (λ (cs : List ℕ). IsInside cs u) (fences_alike us vs all).0 inside)) line h
fence_kept us vs all I.FenceOpen line h = line_kept us vs (λ k u. IsOpen (fence_pairs us) u) (λ k u. IsOpen (fence_pairs vs) u) all (λ k u v a open_. open_kept (fence_pairs vs) u v a (subst (λ (fs : List (ℕ × ℕ)). IsOpen fs u) (fences_alike us vs all).1 open_)) line h
fence_kept us vs all rule line h = absurd h

none_kept : (s t : Sheet) → AreAlike s t → NoneFails (FenceFails s.units) → NoneFails (FenceFails t.units)
none_kept s t alike none rule line h = none rule line (fence_kept t.units s.units (alike_back s t alike).units rule line h)

-- they have the same fences
pub fences_kept : (s t : Sheet) (names : List (List ℕ)) (side : Side) (fs : List (ℕ × ℕ)) → AreAlike s t → AreFences s names side fs → AreFences t names side fs
fences_kept s t names Text fs alike (inl (none, is)) = inl (none_kept s t alike none, is ∙ (fences_alike s.units t.units alike.units).1)
fences_kept s t names Text fs alike (inr (some, is)) = inr (λ none. some (none_kept t s (alike_back s t alike) none), is)
fences_kept s t names Xml fs alike (inl (two, is)) = inl (sym alike.version ∙ two, is)
fences_kept s t names Xml fs alike (inr (one, is)) = inr (λ two. one (alike.version ∙ two), is)

one_list : (P : Type 0) (all fs gs : List (ℕ × ℕ)) → AreAllIf P all fs → AreAllIf P all gs → fs ≡ gs
one_list P all fs gs (inl (p, is)) (inl (q, are)) = is ∙ sym are
one_list P all fs gs (inl (p, is)) (inr (never, are)) = absurd (never p)
one_list P all fs gs (inr (never, is)) (inl (q, are)) = absurd (never q)
one_list P all fs gs (inr (never, is)) (inr (other, are)) = is ∙ sym are

-- and only these
pub fences_same : (s : Sheet) (names : List (List ℕ)) (side : Side) (fs gs : List (ℕ × ℕ)) → AreFences s names side fs → AreFences s names side gs → fs ≡ gs
fences_same s names Text fs gs one two = one_list _ _ fs gs one two
fences_same s names Xml fs gs one two = one_list _ _ fs gs one two
