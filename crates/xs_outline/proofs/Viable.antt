-- Wherever lines have come, some more lead to a whole tree.
use Rattle.std.proofs.Common.{◌≡◌, ℕ, zero, suc, ◌<◌, Bool, true, false, List, [], ◌∷◌, ◌++◌, length, set, refl, ◌∙◌, subst, arith, Some, None, if◌then◌else◌}
use Rattle.std.specs.Prelude.{slice_get}
use Rattle.std.specs.declared.option.Option.{Option}
use Rattle.std.proofs.lemmas.List.{length-set}
use Rattle.std.proofs.lemmas.Option.{slice_get_within}
use Rattle.xs_class.proofs.Truth.{if_false}
use Rattle.xs_gram.specs.Common.{Common, word, made, Kind, of_term, of_non}
use Rattle.xs_pair.specs.Grammars.{Pair}
use Rattle.xs_pair.specs.Units.{number_of}
use Rattle.xs_outline.specs.Lines.{Entry, production, leaf_word, Line}
use Rattle.xs_outline.specs.Shapes.{Shape, Branches, none, branch, names_of, slot_count, kind_at, empty_cells, is_full, kids_in, meaning, filled, ShapeFits, BranchesFit, lines, branch_lines, root_name, root_kind}
use Rattle.xs_outline.specs.Outline.{AreLinesOf}
use Rattle.xs_outline.specs.Machine.{Frame, frame, State, at_start, within, complete, give, settle, enter, next, EntryFits, MayCome, after, MayAllCome, Passes, HasDistinctSlots}
use Rattle.xs_outline.specs.Reader.{missing}
use Rattle.xs_outline.proofs.Machine.{passes_then, front_may, lines_pass, passed_lines, shape_passes, branches_passes, long_empty}

pub none_missing : (cells : List (Option Common)) → missing cells ≡ 0 → is_full cells ≡ true
none_missing [] is = refl
none_missing (None ∷ cells) is = absurd (omega (arith, is))
none_missing (Some t ∷ cells) is = none_missing cells is

some_missing : (n : ℕ) (cells : List (Option Common)) → missing cells ≡ suc n → (s : ℕ) × (slice_get cells s ≡ Some None) × ((t : Common) → missing (set cells s (Some t)) ≡ n)
some_missing n [] is = absurd (omega (arith, is))
some_missing n (None ∷ cells) is = (0, refl, λ t. omega (arith, is))
some_missing n (Some u ∷ cells) is =
    let later = some_missing n cells is in
    (suc later.0, later.1, later.2)

-- each slot of each production, and the root, can have some tree
pub record CanFill (p : Pair) : Type 0 where
  pub slots : (q s : ℕ) → q < length p.text.rules → s < slot_count p q → (sh : Shape) × ShapeFits p (kind_at p q s) sh
  pub root : (sh : Shape) × ShapeFits p (root_kind p) sh

module _ (p : Pair) (distinct : HasDistinctSlots p) (fill : CanFill p) where
  some_branches : (n q : ℕ) (cells : List (Option Common)) → q < length p.text.rules → length cells ≡ slot_count p q → missing cells ≡ n → (bs : Branches) × BranchesFit p q cells bs
  some_branches zero q cells rule long is = (none, none_missing cells is)
  some_branches (suc n) q cells rule long is =
      let at = some_missing n cells is in
      let below : at.0 < slot_count p q = subst (λ k. at.0 < k) long (slice_get_within cells at.0 None at.1) in
      let sh = fill.slots q at.0 rule below in
      let rest = some_branches n q (set cells at.0 (Some (meaning p sh.0))) rule (length-set cells at.0 (Some (meaning p sh.0)) ∙ long) (at.2 (meaning p sh.0)) in
      (branch at.0 sh.0 rest.0, (at.1, sh.1, rest.1))

  -- the node's production is there, and it has a place for each slot
  abbrev pub IsGood : Frame → Type 0
  IsGood f = (f.rule < length p.text.rules) × (length f.cells ≡ slot_count p f.rule)

  abbrev pub AreGood : List Frame → Type 0
  AreGood [] = Unit {0}
  AreGood (f ∷ fs) = IsGood f × AreGood fs

  abbrev pub IsLive : State → Type 0
  IsLive at_start = Unit {0}
  IsLive (within f fs) = (is_full f.cells ≡ false) × IsGood f × AreGood fs
  IsLive (complete t) = Unit {0}

  give_live : (fs : List Frame) (s : ℕ) (t : Common) → AreGood fs → IsLive (give fs s t)
  give_live [] s t good = tt
  give_live (f ∷ fs) s t good =
      by (give_live fs f.slot (made f.rule (kids_in (set f.cells s (Some t)))) good.1) (is_full (set f.cells s (Some t))) refl
    where
      by : IsLive (give fs f.slot (made f.rule (kids_in (set f.cells s (Some t))))) → (b : Bool) → is_full (set f.cells s (Some t)) ≡ b → IsLive (if b then give fs f.slot (made f.rule (kids_in (set f.cells s (Some t)))) else within (frame f.rule f.slot (set f.cells s (Some t))) fs)
      by closed true e = closed
      by closed false e = (e, (good.0.0, length-set f.cells s (Some t) ∙ good.0.1), good.1)

  settle_live : (f : Frame) (fs : List Frame) → IsGood f → AreGood fs → IsLive (settle f fs)
  settle_live f fs own good = by (is_full f.cells) refl
    where
      by : (b : Bool) → is_full f.cells ≡ b → IsLive (if b then give fs f.slot (made f.rule (kids_in f.cells)) else within f fs)
      by true e = give_live fs f.slot (made f.rule (kids_in f.cells)) good
      by false e = (e, own, good)

  enter_live : (kind : Option Kind) (fs : List Frame) (s : ℕ) (e : Entry) → EntryFits p kind e → AreGood fs → IsLive (enter p fs s e)
  enter_live (Some (of_term k)) fs s (leaf_word w) fits good = give_live fs s (word w) good
  enter_live (Some (of_non n)) fs s (production q) fits good = settle_live (frame q s (empty_cells p q)) fs (fits.0, long_empty p q) good
  enter_live kind fs s e fits good = absurd fits

  next_live : (state : State) (l : Line) → MayCome p state l → IsLive state → IsLive (next p state l)
  next_live at_start l may live = enter_live (root_kind p) [] 0 l.entry may.2 tt
  next_live (within f fs) l may live = enter_live (kind_at p f.rule may.1.slot) (f ∷ fs) (number_of (names_of p f.rule) l.name) l.entry may.1.fits (live.1, live.2)
  next_live (complete t) l may live = absurd may

  all_live : (state : State) (ls : List Line) → MayAllCome p state ls → IsLive state → IsLive (after p state ls)
  all_live state [] may live = live
  all_live state (l ∷ ls) may live = all_live (next p state l) ls may.1 (next_live state l may.0 live)

  -- lines that lead on to a whole tree
  pub record GoesOn (state : State) : Type 0 where
    pub more : List Line
    pub tree : Common
    pub passes : Passes p state more (complete tree)

  settle_goes : (f : Frame) (fs : List Frame) → IsGood f → ((s : ℕ) (t : Common) → GoesOn (give fs s t)) → GoesOn (settle f fs)
  settle_goes f fs good later =
      let bs = some_branches (missing f.cells) f.rule f.cells good.0 good.1 refl in
      let t = made f.rule (kids_in (filled p f.cells bs.0)) in
      let own = branches_passes p distinct bs.0 f.rule f.slot f.cells fs good.1 bs.1 in
      let rest = later f.slot t in
      record {
        more = branch_lines p f.rule (suc (length fs)) bs.0 ++ rest.more;
        tree = rest.tree;
        passes = passes_then p (settle f fs) (give fs f.slot t) (complete rest.tree) (branch_lines p f.rule (suc (length fs)) bs.0) rest.more own rest.passes;
      }

  give_goes : (fs : List Frame) → AreGood fs → (s : ℕ) (t : Common) → GoesOn (give fs s t)
  give_goes [] good s t = record { more = []; tree = t; passes = record { may = tt; is = refl } }
  give_goes (f ∷ fs) good s t =
      settle_goes (frame f.rule f.slot (set f.cells s (Some t))) fs (good.0.0, length-set f.cells s (Some t) ∙ good.0.1) (give_goes fs good.1)

  within_goes : (f : Frame) (fs : List Frame) → is_full f.cells ≡ false → IsGood f → AreGood fs → GoesOn (within f fs)
  within_goes f fs some own good =
      subst GoesOn (if_false (is_full f.cells) (give fs f.slot (made f.rule (kids_in f.cells))) (within f fs) some) (settle_goes f fs own (give_goes fs good))

  live_goes : (state : State) → IsLive state → GoesOn state
  live_goes at_start live =
      let root = shape_passes p distinct fill.root.0 (root_kind p) at_start [] 0 root_name (λ e may. (refl, refl, may)) (λ e. refl) fill.root.1 in
      record { more = lines p 0 root_name fill.root.0; tree = meaning p fill.root.0; passes = root }
  live_goes (within f fs) live = within_goes f fs live.0 live.1 live.2
  live_goes (complete t) live = record { more = []; tree = t; passes = record { may = tt; is = refl } }

  pub may_begin : (ls : List Line) → MayAllCome p at_start ls → (more : List Line) × (t : Common) × AreLinesOf p (ls ++ more) t
  may_begin ls may =
      let on = live_goes (after p at_start ls) (all_live at_start ls may tt) in
      (on.more, on.tree, passed_lines p distinct (ls ++ on.more) on.tree (passes_then p at_start (after p at_start ls) (complete on.tree) ls on.more (record { may = may; is = refl }) on.passes))

  pub begun_may : (ls more : List Line) (t : Common) → AreLinesOf p (ls ++ more) t → MayAllCome p at_start ls
  begun_may ls more t are = front_may p at_start ls more (lines_pass p distinct (ls ++ more) t are).may
