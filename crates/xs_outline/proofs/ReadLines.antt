-- A line that is read, by what the reader keeps.
use Rattle.std.proofs.Common.{◌≡◌, ℕ, suc, ◌+◌, ◌^◌, ◌<◌, ◌≤◌, List, [], ◌∷◌, length, Some, None, sym, ap, ◌∙◌, subst, arith}
use Rattle.std.specs.declared.option.Option.{Option}
use Rattle.std.proofs.lemmas.Option.{none-some}
use Rattle.xs_gram.specs.Common.{Common, Kind, of_term, of_non}
use Rattle.xs_gram.specs.Sound.{IsBuilt}
use Rattle.xs_tree.specs.Flat.{Flat, tree_at, trees_of, common_of}
use Rattle.xs_pair.specs.Grammars.{Pair}
use Rattle.xs_outline.specs.declared.reader.Open.{Open}
use Rattle.xs_outline.specs.declared.reader.Reader.{Reader}
use Rattle.xs_outline.specs.Lines.{Entry, production, leaf_word, Line, SpellsLine}
use Rattle.xs_outline.specs.Shapes.{kind_at, root_kind}
use Rattle.xs_outline.specs.Machine.{Frame, at_start, within, complete, EntryFits, MayCome}
use Rattle.xs_outline.specs.Parsed.{IsLowEntry, NoFirst, SpellsFirst}
use Rattle.xs_outline.specs.Reader.{child_at, frame_of, frames, state, state_at, state_within, AreOpen, IsKept, IsNew, IsStuckFirst}
use Rattle.xs_outline.proofs.Spelling.{same_line}
use Rattle.xs_outline.proofs.TextLines.{same_first}
use Rattle.xs_outline.proofs.Placing.{root_state, frames_long}

pub first_stuck : (p : Pair) (r : Reader) (text more : List ℕ) (l : Line) → SpellsFirst l text more → (MayCome p (state p r) l → ⊥) → IsStuckFirst p (state p r) text
first_stuck p r text more l at not front rest first m spells may =
    let same = same_first text front at.front rest more first at.first in
    not (subst (MayCome p (state p r)) (same_line m l at.front (subst (SpellsLine m) same spells) at.spells) may)

open_count : (p : Pair) (trees : List Common) (look : ℕ → ℕ → Option ℕ) (fs : List Frame) (low bound : ℕ) (os : List Open) → AreOpen p trees look fs low bound os → low + length os ≤ bound
open_count p trees look fs low bound [] open_ = omega (arith, open_)
open_count p trees look fs low bound (o ∷ os) open_ =
    let rest = open_count p trees look (frame_of p trees look o ∷ fs) (suc o.node) bound os open_.3 in
    omega (arith, open_.0, rest)

fits_low : (p : Pair) (kind : Option Kind) (e : Entry) → length p.text.rules < 65536 → EntryFits p kind e → IsLowEntry e
fits_low p (Some (of_term t)) (leaf_word w) small fits = tt
fits_low p (Some (of_non n)) (production q) small fits = let lt = fits.0 in omega (arith, lt, small)
fits_low p kind e small fits = absurd fits

state_low : (p : Pair) (trees : List Common) (fs : List Frame) (root : Option ℕ) (l : Line) → length p.text.rules < 65536 → MayCome p (state_at trees fs root) l → (l.depth ≤ length fs) × IsLowEntry l.entry
state_low p trees [] None l small may = (let deep = may.0 in omega (arith, deep), fits_low p (root_kind p) l.entry small may.2)
state_low p trees (f ∷ fs) None l small may = (let deep = may.0 in omega (arith, deep), fits_low p (kind_at p f.rule may.1.slot) l.entry small may.1.fits)
state_low p trees fs (Some part) l small may = absurd may

pub stuck_unread : (p : Pair) (r : Reader) (text : List ℕ) (number : ℕ) → IsBuilt p.text → IsKept p number r → number < 2 ^ 64 → NoFirst text → IsStuckFirst p (state p r) text
stuck_unread p r text number built kept low none front rest first l spells may =
    let is_low = state_low p (trees_of r.parts) (frames p r) r.root l built.small.rules may in
    let count = open_count p (trees_of r.parts) (child_at r.children) [] 0 number r.open.items kept.open_ in
    let long = frames_long p (trees_of r.parts) (child_at r.children) [] r.open.items in
    let deep = is_low.0 in
    none front rest first l (omega (arith, deep, count, long, low)) is_low.1 spells

-- nothing was read
pub new_state : (p : Pair) (r : Reader) → IsNew r → state p r ≡ at_start
new_state p r is = root_state p r is.root is.open_

pub new_kept : (p : Pair) (r : Reader) → IsNew r → IsKept p 0 r
new_kept p r is = record {
  children = record { below = λ n k part e. absurd (none-some part (sym (is.children n k) ∙ e)); fresh = λ n k le. is.children n k };
  open_ = subst (λ os. AreOpen p (trees_of r.parts) (child_at r.children) [] 0 0 os) (sym is.open_) (omega arith);
  whole = λ part e. absurd (none-some part (sym is.root ∙ e));
}

-- the root is not there: the tree is not whole
pub not_whole : (p : Pair) (r : Reader) → r.root ≡ None → (t : Common) → state p r ≡ complete t → ⊥
not_whole p r root t is = by (frames p r) (sym (ap (state_at (trees_of r.parts) (frames p r)) root) ∙ is)
  where
    start_not : at_start ≡ complete t → ⊥
    start_not e = cc

    within_not : (f : Frame) (fs : List Frame) → within f fs ≡ complete t → ⊥
    within_not f fs e = cc

    by : (fs : List Frame) → state_within fs ≡ complete t → ⊥
    by [] e = start_not e
    by (f ∷ fs) e = within_not f fs e

pub whole_state : (p : Pair) (r : Reader) (part : ℕ) → r.root ≡ Some part → state p r ≡ complete (tree_at (trees_of r.parts) part)
whole_state p r part root = ap (state_at (trees_of r.parts) (frames p r)) root

-- the tree of the parts from the root
pub finished : (r : Reader) (f : Flat) (part : ℕ) → f.parts ≡ r.parts → f.root ≡ part → tree_at (trees_of r.parts) part ≡ common_of f
finished r f part parts root = ap (λ z. tree_at (trees_of z) part) (sym parts) ∙ ap (tree_at (trees_of f.parts)) (sym root)
