-- The machine over lines takes exactly the lines of shapes that fit.
use Rattle.std.proofs.Common.{◌≡◌, ℕ, zero, suc, ◌<◌, ◌≤◌, Bool, true, false, List, [], ◌∷◌, ◌++◌, length, set, refl, sym, ◌∙◌, ap, subst, arith, Some, None, append_assoc, append-nil}
use Rattle.std.specs.Prelude.{slice_get}
use Rattle.std.specs.declared.option.Option.{Option}
use Rattle.std.proofs.lemmas.List.{length-set, length-replicate}
use Rattle.std.proofs.lemmas.Option.{none-some, same_Some, slice_get_within, get_or_from_slice_get, slice_get-get_or}
use Rattle.xs_class.specs.Ordered.{place_of}
use Rattle.xs_class.proofs.Truth.{if_true, if_false}
use Rattle.xs_gram.specs.Common.{Common, made, Kind, of_term, of_non}
use Rattle.xs_pair.specs.Units.{or_zero}
use Rattle.xs_pair.specs.Grammars.{Pair}
use Rattle.xs_pair.proofs.Places.{found_there}
use Rattle.xs_outline.specs.Lines.{Entry, production, leaf_word, Line, line}
use Rattle.xs_outline.specs.Shapes.{Shape, leaf, node, Branches, none, branch, names_of, slot_count, slot_name, kind_at, empty_cells, is_full, kids_in, meaning, filled, ShapeFits, BranchesFit, lines, branch_lines, root_name, root_kind}
use Rattle.xs_outline.specs.Outline.{AreLinesOf}
use Rattle.xs_outline.specs.Machine.{Frame, frame, State, at_start, within, complete, give, settle, enter, next, EntryFits, MayCome, after, MayAllCome, Passes, HasDistinctSlots}

-- a slot without a child
pub not_full : (cells : List (Option Common)) (s : ℕ) → slice_get cells s ≡ Some None → is_full cells ≡ false
not_full [] s free = absurd (none-some None free)
not_full (None ∷ cells) s free = refl
not_full (Some t ∷ cells) zero free = absurd (none-some t (sym (same_Some (Some t) None free)))
not_full (Some t ∷ cells) (suc s) free = not_full cells s free

pub complete_same : (t u : Common) → complete t ≡ complete u → t ≡ u
complete_same t u e = cc

within_not : (f : Frame) (fs : List Frame) (t : Common) → within f fs ≡ complete t → ⊥
within_not f fs t e = cc

start_not : (t : Common) → at_start ≡ complete t → ⊥
start_not t e = cc

pub passes_then : (p : Pair) (from mid to : State) (ls ms : List Line) → Passes p from ls mid → Passes p mid ms to → Passes p from (ls ++ ms) to
passes_then p from mid to [] ms a b = record { may = subst (λ z. MayAllCome p z ms) (sym a.is) b.may; is = ap (λ z. after p z ms) a.is ∙ b.is }
passes_then p from mid to (l ∷ ls) ms a b =
    let rest = passes_then p (next p from l) mid to ls ms (record { may = a.may.1; is = a.is }) b in
    record { may = (a.may.0, rest.may); is = rest.is }

-- the front of lines that may come may come
pub front_may : (p : Pair) (from : State) (ls ms : List Line) → MayAllCome p from (ls ++ ms) → MayAllCome p from ls
front_may p from [] ms may = tt
front_may p from (l ∷ ls) ms may = (may.0, front_may p (next p from l) ls ms may.1)

pub long_set : (p : Pair) (q s : ℕ) (cells : List (Option Common)) (t : Common) → length cells ≡ slot_count p q → length (set cells s (Some t)) ≡ slot_count p q
long_set p q s cells t long = length-set cells s (Some t) ∙ long

pub long_empty : (p : Pair) (q : ℕ) → length (empty_cells p q) ≡ slot_count p q
long_empty p q = length-replicate (slot_count p q) None

-- the name of a slot that has no child
slot_named : (p : Pair) → HasDistinctSlots p → (q s : ℕ) (cells : List (Option Common)) → length cells ≡ slot_count p q → slice_get cells s ≡ Some None → place_of (names_of p q) (slot_name p q s) ≡ Some s
slot_named p distinct q s cells long free =
    let below : s < slot_count p q = subst (λ n. s < n) long (slice_get_within cells s None free) in
    distinct q s (slot_name p q s) (slice_get-get_or (names_of p q) s [] below)

named_is : (p : Pair) (q s : ℕ) (name : List ℕ) → place_of (names_of p q) name ≡ Some s → name ≡ slot_name p q s
named_is p q s name is = sym (get_or_from_slice_get (names_of p q) s name [] (found_there (names_of p q) name s is))

module _ (p : Pair) (distinct : HasDistinctSlots p) where
  mutual
    -- the lines of a shape that fits lead to where its tree does
    pub shape_passes : (sh : Shape) (kind : Option Kind) (from : State) (fs : List Frame) (s : ℕ) (name : List ℕ) → ((e : Entry) → EntryFits p kind e → MayCome p from (line (length fs) name e)) → ((e : Entry) → next p from (line (length fs) name e) ≡ enter p fs s e) → ShapeFits p kind sh → Passes p from (lines p (length fs) name sh) (give fs s (meaning p sh))
    shape_passes (leaf w) (Some (of_term t)) from fs s name may to fits = record { may = (may (leaf_word w) fits, tt); is = to (leaf_word w) }
    shape_passes (node q bs) (Some (of_non n)) from fs s name may to fits =
        let inner = branches_passes bs q s (empty_cells p q) fs (long_empty p q) fits.1 in
        let own : next p from (line (length fs) name (production q)) ≡ settle (frame q s (empty_cells p q)) fs = to (production q) in
        record {
          may = (may (production q) fits.0, subst (λ z. MayAllCome p z (branch_lines p q (suc (length fs)) bs)) (sym own) inner.may);
          is = ap (λ z. after p z (branch_lines p q (suc (length fs)) bs)) own ∙ inner.is;
        }
    shape_passes sh kind from fs s name may to fits = absurd fits

    pub branches_passes : (bs : Branches) (q s : ℕ) (cells : List (Option Common)) (fs : List Frame) → length cells ≡ slot_count p q → BranchesFit p q cells bs → Passes p (settle (frame q s cells) fs) (branch_lines p q (suc (length fs)) bs) (give fs s (made q (kids_in (filled p cells bs))))
    branches_passes none q s cells fs long fits = record { may = tt; is = if_true (is_full cells) (give fs s (made q (kids_in cells))) (within (frame q s cells) fs) fits }
    branches_passes (branch at sh bs) q s cells fs long fits =
        let f = frame q s cells in
        let t = meaning p sh in
        let here : settle f fs ≡ within f fs = if_false (is_full cells) (give fs s (made q (kids_in cells))) (within f fs) (not_full cells at fits.0) in
        let named = slot_named p distinct q at cells long fits.0 in
        let first : Passes p (within f fs) (lines p (suc (length fs)) (slot_name p q at) sh) (give (f ∷ fs) at t) =
        shape_passes sh (kind_at p q at) (within f fs) (f ∷ fs) at (slot_name p q at)
        (λ e may. (refl, record { slot = at; named = named; free = fits.0; fits = may }))
        (λ e. ap (λ o. enter p (f ∷ fs) (or_zero o) e) named) fits.1 in
        let later = branches_passes bs q s (set cells at (Some t)) fs (long_set p q at cells t long) fits.2 in
        subst (λ z. Passes p z (branch_lines p q (suc (length fs)) (branch at sh bs)) (give fs s (made q (kids_in (filled p cells (branch at sh bs)))))) (sym here)
        (passes_then p (within f fs) (give (f ∷ fs) at t) (give fs s (made q (kids_in (filled p cells (branch at sh bs))))) (lines p (suc (length fs)) (slot_name p q at) sh) (branch_lines p q (suc (length fs)) bs) first later)

  -- the lines of a tree lead to it
  pub lines_pass : (ls : List Line) (t : Common) → AreLinesOf p ls t → Passes p at_start ls (complete t)
  lines_pass ls t are =
      let root = shape_passes are.shape (root_kind p) at_start [] 0 root_name (λ e may. (refl, refl, may)) (λ e. refl) are.fits in
      subst (λ z. Passes p at_start z (complete t)) (sym are.are) (subst (λ z. Passes p at_start (lines p 0 root_name are.shape) (complete z)) (sym are.means) root)

  pub one_tree : (ls : List Line) (t u : Common) → AreLinesOf p ls t → AreLinesOf p ls u → t ≡ u
  one_tree ls t u a b = complete_same t u (sym (lines_pass ls t a).is ∙ (lines_pass ls u b).is)

  -- the lines up to where a node is closed are those of its branches
  pub record Branching (q s : ℕ) (cells : List (Option Common)) (fs : List Frame) (ls : List Line) (t : Common) : Type 0 where
    pub branches : Branches
    pub rest : List Line
    pub are : ls ≡ branch_lines p q (suc (length fs)) branches ++ rest
    pub fits : BranchesFit p q cells branches
    pub passes : Passes p (give fs s (made q (kids_in (filled p cells branches)))) rest (complete t)
    pub short : length rest ≤ length ls

  -- the same of the lines of one shape
  pub record Shaping (kind : Option Kind) (fs : List Frame) (s : ℕ) (name : List ℕ) (e : Entry) (ls : List Line) (t : Common) : Type 0 where
    pub shape : Shape
    pub rest : List Line
    pub are : line (length fs) name e ∷ ls ≡ lines p (length fs) name shape ++ rest
    pub fits : ShapeFits p kind shape
    pub passes : Passes p (give fs s (meaning p shape)) rest (complete t)
    pub short : length rest ≤ length ls

  AllBranch : ℕ → Type 0
  AllBranch n = (ls : List Line) → length ls ≤ n → (q s : ℕ) (cells : List (Option Common)) (fs : List Frame) (t : Common) → length cells ≡ slot_count p q → Passes p (settle (frame q s cells) fs) ls (complete t) → Branching q s cells fs ls t

  shaping : (n : ℕ) → AllBranch n → (kind : Option Kind) (e : Entry) (fs : List Frame) (s : ℕ) (name : List ℕ) (ls : List Line) (t : Common) → length ls ≤ n → EntryFits p kind e → Passes p (enter p fs s e) ls (complete t) → Shaping kind fs s name e ls t
  unfolding AllBranch
  shaping n again (Some (of_term k)) (leaf_word w) fs s name ls t small fits pass =
      record { shape = leaf w; rest = ls; are = refl; fits = fits; passes = pass; short = omega arith }
  shaping n again (Some (of_non m)) (production q) fs s name ls t small fits pass =
      let inner = again ls small q s (empty_cells p q) fs t (long_empty p q) pass in
      record {
        shape = node q inner.branches;
        rest = inner.rest;
        are = ap (λ z. line (length fs) name (production q) ∷ z) inner.are;
        fits = (fits, inner.fits);
        passes = inner.passes;
        short = inner.short;
      }
  shaping n again kind e fs s name ls t small fits pass = absurd fits

  -- a node that is not full: its first line is that of a branch
  branching : (n : ℕ) → AllBranch n → (q s : ℕ) (cells : List (Option Common)) (fs : List Frame) (l : Line) (ls : List Line) (t : Common) → length ls ≤ n → length cells ≡ slot_count p q → Passes p (within (frame q s cells) fs) (l ∷ ls) (complete t) → Branching q s cells fs (l ∷ ls) t
  unfolding AllBranch
  branching n again q s cells fs l ls t small long pass =
      let f = frame q s cells in
      let at = pass.may.0.1 in
      let slot = at.slot in
      let below : slot < slot_count p q = subst (λ k. slot < k) long (slice_get_within cells slot None at.free) in
      let name : l.name ≡ slot_name p q slot = named_is p q slot l.name at.named in
      let from : next p (within f fs) l ≡ enter p (f ∷ fs) slot l.entry = ap (λ o. enter p (f ∷ fs) (or_zero o) l.entry) at.named in
      let first = shaping n again (kind_at p q slot) l.entry (f ∷ fs) slot (slot_name p q slot) ls t small at.fits (subst (λ z. Passes p z ls (complete t)) from (record { may = pass.may.1; is = pass.is })) in
      let later = again first.rest (omega (arith, small, first.short)) q s (set cells slot (Some (meaning p first.shape))) fs t (long_set p q slot cells (meaning p first.shape) long) first.passes in
      let own : l ≡ line (suc (length fs)) (slot_name p q slot) l.entry = ap (λ d. line d l.name l.entry) pass.may.0.0 ∙ ap (λ z. line (suc (length fs)) z l.entry) name in
      record {
        branches = branch slot first.shape later.branches;
        rest = later.rest;
        are = ap (λ z. z ∷ ls) own ∙ first.are ∙ ap (λ z. lines p (suc (length fs)) (slot_name p q slot) first.shape ++ z) later.are ∙ sym (append_assoc (lines p (suc (length fs)) (slot_name p q slot) first.shape) (branch_lines p q (suc (length fs)) later.branches) later.rest);
        fits = (at.free, first.fits, later.fits);
        passes = later.passes;
        short = omega (arith, first.short, later.short);
      }

  closed_or : (n : ℕ) → ((q s : ℕ) (cells : List (Option Common)) (fs : List Frame) (l : Line) (ls : List Line) (t : Common) → suc (length ls) ≤ n → length cells ≡ slot_count p q → Passes p (within (frame q s cells) fs) (l ∷ ls) (complete t) → Branching q s cells fs (l ∷ ls) t) → AllBranch n
  unfolding AllBranch
  closed_or n more ls small q s cells fs t long pass = by (is_full cells) refl
    where
      open_at : (ms : List Line) → length ms ≤ n → Passes p (within (frame q s cells) fs) ms (complete t) → Branching q s cells fs ms t
      open_at [] few go = absurd (within_not (frame q s cells) fs t go.is)
      open_at (l ∷ ms) few go = more q s cells fs l ms t few long go

      by : (b : Bool) → is_full cells ≡ b → Branching q s cells fs ls t
      by true e = record {
        branches = none;
        rest = ls;
        are = refl;
        fits = e;
        passes = subst (λ z. Passes p z ls (complete t)) (if_true (is_full cells) (give fs s (made q (kids_in cells))) (within (frame q s cells) fs) e) pass;
        short = omega arith;
      }
      by false e = open_at ls small (subst (λ z. Passes p z ls (complete t)) (if_false (is_full cells) (give fs s (made q (kids_in cells))) (within (frame q s cells) fs) e) pass)

  all_branch : (n : ℕ) → AllBranch n
  all_branch zero = closed_or zero (λ q s cells fs l ls t few long go. absurd (omega (arith, few)))
  all_branch (suc n) = closed_or (suc n) (λ q s cells fs l ls t few long go. branching n (all_branch n) q s cells fs l ls t (omega (arith, few)) long go)

  finished : (ms : List Line) (t u : Common) → Passes p (complete t) ms (complete u) → (ms ≡ []) × (u ≡ t)
  finished [] t u pass = (refl, sym (complete_same t u pass.is))
  finished (m ∷ ms) t u pass = absurd pass.may.0

  -- lines that lead to a tree are its lines
  pub passed_lines : (ls : List Line) (t : Common) → Passes p at_start ls (complete t) → AreLinesOf p ls t
  passed_lines [] t pass = absurd (start_not t pass.is)
  passed_lines (l ∷ ls) t pass =
      let may = pass.may.0 in
      let root = shaping (length ls) (all_branch (length ls)) (root_kind p) l.entry [] 0 root_name ls t (omega arith) may.2 (record { may = pass.may.1; is = pass.is }) in
      let end = finished root.rest (meaning p root.shape) t root.passes in
      let own : l ≡ line 0 root_name l.entry = ap (λ d. line d l.name l.entry) may.0 ∙ ap (λ z. line 0 z l.entry) may.1 in
      record {
        shape = root.shape;
        fits = root.fits;
        are = ap (λ z. z ∷ ls) own ∙ root.are ∙ ap (λ z. lines p 0 root_name root.shape ++ z) end.0 ∙ append-nil (lines p 0 root_name root.shape);
        means = end.1;
      }
