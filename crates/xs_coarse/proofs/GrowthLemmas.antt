-- How a search grows: what it has found stays, and what was gone on from is closed.
use Rattle.std.proofs.Common.{◌≡◌, ◌==◌, ◌&&◌, false, eq-eqb, ℕ, ◌+◌, ◌<◌, ◌≤◌, List, [], ◌∷◌, ◌++◌, length, get_or, take, refl, sym, ap, ◌∙◌, inl, inr, arith, append_assoc, append-nil, slice_get}
use Rattle.std.specs.declared.option.Option.TheVariants.{Some}
use Rattle.std.specs.List.{All, Contains}
use Rattle.std.proofs.lemmas.Bool.{cases_eq, true≢false}
use Rattle.std.proofs.lemmas.List.{take_all}
use Rattle.std.proofs.lemmas.List.Elements.{Contains-append_left, All-weaker, All-more}
use Rattle.std.proofs.lemmas.Option.{slice_get_within, slice_get-get_or, slice_get_read}
use Rattle.xs_class.proofs.Lists.{some_same, get_left, get_of}
use Rattle.xs_class.proofs.Truth.{both_true}
use Rattle.xs_coarse.specs.declared.pair.Pair.{Pair}
use Rattle.xs_coarse.specs.declared.found.Found.{Found}
use Rattle.xs_coarse.specs.Arcs.{HasFound, HasAll, IsClosedBelow, IsClosedWithin}
use Rattle.xs_coarse.specs.Found.{HasPair, IsLonger, IsMore, Fits, IsNotBelow, pair}
use Rattle.xs_coarse.specs.Sets.{IsShut}

pub longer_same : (xs : List Pair) → IsLonger xs xs
longer_same xs = record { added = []; is = sym (append-nil xs) }

pub longer_then : {xs ys zs : List Pair} → IsLonger xs ys → IsLonger ys zs → IsLonger xs zs
longer_then {xs} a b = record { added = a.added ++ b.added; is = b.is ∙ ap (λ us. us ++ b.added) a.is ∙ append_assoc xs a.added b.added }

pub longer_has : {xs ys : List Pair} → IsLonger xs ys → (p : Pair) → Contains xs p → Contains ys p
longer_has {xs} l p h = rw l.is (Contains-append_left xs l.added p h)

pub longer_push : {xs ys : List Pair} (p : Pair) → IsLonger xs ys → IsLonger xs (ys ++ p ∷ [])
longer_push p l = longer_then l (record { added = p ∷ []; is = refl })

longer_at : {xs ys : List Pair} (k : ℕ) (p : Pair) → IsLonger xs ys → slice_get xs k ≡ Some p → slice_get ys k ≡ Some p
longer_at {xs} k p l e = rw l.is (get_left xs l.added k p e)

-- what stands in the longer list at a place that the shorter one has stands there too
shorter_at : {xs ys : List Pair} (k : ℕ) (p : Pair) → IsLonger xs ys → k < length xs → slice_get ys k ≡ Some p → slice_get xs k ≡ Some p
shorter_at {xs} k p l low e =
    let here = slice_get-get_or xs k p low in
    here ∙ ap Some (some_same _ _ _ (longer_at k (get_or xs k p) l here) e)

pub more_same : (f : Found) → Fits f → IsMore f f
more_same f fits = record { fits = fits; height = refl; width = refl; longer = longer_same f.pairs.items }

pub more_then : {f g h : Found} → IsMore f g → IsMore g h → IsMore f h
more_then a b = record { fits = b.fits; height = b.height ∙ a.height; width = b.width ∙ a.width; longer = longer_then a.longer b.longer }

pub more_has : {f g : Found} → IsMore f g → (a b : ℕ) → HasPair f.pairs.items a b → HasPair g.pairs.items a b
more_has m a b h = longer_has m.longer (pair a b) h

pub more_found : {f g : Found} → IsMore f g → (a b : ℕ) → HasFound f a b → HasFound g a b
more_found m a b h first second = more_has m a b (h (rw (← m.height) first) (rw (← m.width) second))

-- what holds of each element so far, and of the next one, holds of one element more
pub each_next : {X : Type 0} (P Q : X → Type 0) (xs : List X) (i : ℕ) (d : X) → i < length xs → ((y : X) → P y → Q y) → All P (take i xs) → Q (get_or xs i d) → All Q (take (i + 1) xs)
each_next P Q xs i d l more so_far here = All-more Q xs i d l (All-weaker P Q more (take i xs) so_far) here

pub each_all : {X : Type 0} (P : X → Type 0) (xs : List X) (i : ℕ) → length xs ≤ i → All P (take i xs) → All P xs
each_all P xs i l h = rw (take_all i xs l) at h

-- the pair at place k was gone on from
pub closed_more : (L : ℕ → ℕ → ℕ → ℕ → Type 0) {k : ℕ} {f g : Found} (p : Pair) → slice_get f.pairs.items k ≡ Some p → IsClosedBelow L k f → IsMore f g → HasAll L p.first p.second g → IsClosedBelow L (k + 1) g
closed_more L {k} {f} {g} p here closed more there i q l e c d leads =
    let within = slice_get_within f.pairs.items k p here in
    elim (cases_eq i k) [
      | inl same ↦
          let one : q ≡ p = some_same _ _ _ (rw same at e) (longer_at k p more.longer here) in
          there c d (rw one at leads)
      | inr ne ↦ more_found more c d (closed i q (omega arith) (shorter_at i q more.longer (omega arith) e) c d leads)
    ]

-- and it is not the goal
pub without_more : {k : ℕ} {f g : Found} (goal p : Pair) → slice_get f.pairs.items k ≡ Some p → IsNotBelow goal k f.pairs.items → IsMore f g → (p ≡ goal → ⊥) → IsNotBelow goal (k + 1) g.pairs.items
without_more {k} {f} goal p here before more other i l e =
    let within = slice_get_within f.pairs.items k p here in
    elim (cases_eq i k) [
      | inl same ↦ other (some_same _ _ _ (longer_at k p more.longer here) (rw same at e))
      | inr ne ↦ before i (omega arith) (shorter_at i goal more.longer (omega arith) e)
    ]

-- each pair was gone on from
pub closed_all : (L : ℕ → ℕ → ℕ → ℕ → Type 0) (k : ℕ) (f : Found) → length f.pairs.items ≤ k → IsClosedBelow L k f → IsClosedWithin L f.height f.width f.pairs.items
closed_all L k f l closed a b c d h leads =
    let at = get_of f.pairs.items (pair a b) h in
    let within = slice_get_within f.pairs.items at.0 (pair a b) at.1 in
    closed at.0 (pair a b) (omega arith) at.1 c d leads

pub shut_all : (L : ℕ → ℕ → ℕ → ℕ → Type 0) (goal : Pair) (k : ℕ) (f : Found) → Fits f → length f.pairs.items ≤ k → IsClosedBelow L k f → IsNotBelow goal k f.pairs.items → IsShut L goal f.height f.width f.pairs.items
shut_all L goal k f fits l closed before = record {
  inside = fits.inside;
  closed = closed_all L k f l closed;
  without = λ h.
      let at = get_of f.pairs.items goal h in
      let within = slice_get_within f.pairs.items at.0 goal at.1 in
      before at.0 (omega arith) at.1;
}

-- the pair that is read at a place
pub read_at : (ps : List Pair) (k : ℕ) (p : Pair) → k < length ps → p ≡ get_or ps k p → slice_get ps k ≡ Some p
read_at ps k p l e = slice_get_read ps (length ps) k p refl l e

-- pairs that a test tells apart
pub other_pair : (p q : Pair) → false ≡ ((p.first == q.first) && (p.second == q.second)) → p ≡ q → ⊥
other_pair p q e same = true≢false (sym (both_true _ _ (eq-eqb _ _ (ap (λ r. r.first) same)) (eq-eqb _ _ (ap (λ r. r.second) same))) ∙ sym e)
