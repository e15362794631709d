-- How the arcs that two states have lead from their pair, and how the views of the nets do.
use Rattle.std.proofs.Common.{◌≡◌, ℕ, List, ap, subst, ◌∙◌, inl, inr, arith}
use Rattle.std.specs.List.{All, Contains}
use Rattle.std.proofs.lemmas.List.Elements.{All-contains}
use Rattle.xs_class.specs.Classes.{Has}
use Rattle.xs_meet.specs.Closed.{Drifts, Strides, Leads}
use Rattle.xs_coarse.specs.declared.arc.Arc.{Arc}
use Rattle.xs_coarse.specs.Coarse.{Table, Net, IsTable, MayCall, HasArc, class_label, group_label, may_meet, view}
use Rattle.xs_coarse.proofs.Views.{view_move_arc, view_edge_arc, view_call_arc}
use Rattle.xs_coarse.specs.declared.found.Found.{Found}
use Rattle.xs_coarse.specs.Arcs.{Slips, Steps, Goes, HasFound, HasTarget, Joins, HasAll}
use Rattle.xs_coarse.proofs.Walks.{first_target, second_target}

-- an arc of a net
abbrev pub arc : ℕ → ℕ → ℕ → Arc
arc a label b = record { from = a; label = label; to = b }

-- the row has each arc that leads from the state
abbrev pub HasRow : Net → ℕ → List Arc → Type 0
HasRow n a row = (label b : ℕ) → HasArc n a label b → Contains row (arc a label b)

-- the targets of arcs that read nothing were visited beside the other state
pub slips_on : (m n : Net) (a b : ℕ) (f g : Found) (row other : List Arc) → HasRow m a row → HasRow n b other → ((c d : ℕ) → HasFound f c d → HasFound g c d) → All (λ x. HasTarget f (first_target b x)) row → All (λ y. HasTarget g (second_target a y)) other → HasAll (Slips m n) a b g
slips_on m n a b f g row other rows others more firsts seconds c d (inl x) =
    rw x.still (more c b (All-contains (λ x. HasTarget f (first_target b x)) row (arc a 0 c) firsts (rows 0 c x.arc)))
slips_on m n a b f g row other rows others more firsts seconds c d (inr y) =
    rw y.still (All-contains (λ y. HasTarget g (second_target a y)) other (arc b 0 d) seconds (others 0 d y.arc))

-- the targets of each two arcs that may read a common word were visited
pub steps_on : (t : Table) (m n : Net) (a b : ℕ) (f : Found) (row other : List Arc) → HasRow m a row → HasRow n b other → All (λ x. All (Joins t f x) other) row → HasAll (Steps t m n) a b f
steps_on t m n a b f row other rows others boths c d s =
    All-contains (Joins t f (arc a s.label c)) other (arc b s.other d) (All-contains (λ x. All (Joins t f x) other) row (arc a s.label c) boths (rows s.label c s.first)) (others s.other d s.second) s.reads_first s.reads_second s.meet

-- an empty move of a view is an arc that reads nothing
pub slips_of : (t : Table) (m n : Net) (s e u f a b c d : ℕ) → Drifts (view t m s e) (view t n u f) a b c d → Slips m n a b c d
slips_of t m n s e u f a b c d (inl x) = inl (record { arc = (view_move_arc t m s e a c x.move).1; still = x.still })
slips_of t m n s e u f a b c d (inr y) = inr (record { arc = (view_move_arc t n u f b d y.move).1; still = y.still })

-- edges that read a common symbol, and calls that may share a word, are arcs that may
pub steps_of : (t : Table) (m n : Net) (s e u f a b c d : ℕ) → IsTable t → Strides (MayCall t) (view t m s e) (view t n u f) a b c d → Steps t m n a b c d
steps_of t m n s e u f a b c d table (inl x) =
    let y = x.1 in
    let p = view_edge_arc t m s e a y.first y.of_first in
    let q = view_edge_arc t n u f b y.second y.of_second in
    record {
      label = class_label p.number;
      other = class_label q.number;
      first = subst (λ (k : ℕ). HasArc m a (class_label p.number) k) y.to_first p.arc;
      second = subst (λ (k : ℕ). HasArc n b (class_label q.number) k) y.to_second q.arc;
      reads_first = omega arith;
      reads_second = omega arith;
      meet = table.classes p.number q.number x.0 p.below q.below (subst (λ k. Has k x.0) p.class y.takes_first) (subst (λ k. Has k x.0) q.class y.takes_second);
    }
steps_of t m n s e u f a b c d table (inr x) =
    let y = x.2 in
    let p = view_call_arc t m s e a y.first y.of_first in
    let q = view_call_arc t n u f b y.second y.of_second in
    record {
      label = group_label t y.first.group;
      other = group_label t y.second.group;
      first = subst (λ (k : ℕ). HasArc m a (group_label t y.first.group) k) y.to_first p.1;
      second = subst (λ (k : ℕ). HasArc n b (group_label t y.second.group) k) y.to_second q.1;
      reads_first = omega arith;
      reads_second = omega arith;
      meet = ap (λ (k : ℕ). may_meet t (group_label t k) (group_label t y.second.group)) y.over_first ∙ ap (λ (k : ℕ). may_meet t (group_label t x.0) (group_label t k)) y.over_second ∙ y.related;
    }

pub goes_of : (t : Table) (m n : Net) (s e u f a b c d : ℕ) → IsTable t → Leads (MayCall t) (view t m s e) (view t n u f) a b c d → Goes t m n a b c d
goes_of t m n s e u f a b c d table (inl x) = inl (slips_of t m n s e u f a b c d x)
goes_of t m n s e u f a b c d table (inr y) = inr (steps_of t m n s e u f a b c d table y)

-- and so on by both
pub goes_on : (t : Table) (m n : Net) (a b : ℕ) (f g : Found) → ((c d : ℕ) → HasFound f c d → HasFound g c d) → HasAll (Slips m n) a b f → HasAll (Steps t m n) a b g → HasAll (Goes t m n) a b g
goes_on t m n a b f g more slips steps c d (inl x) = more c d (slips c d x)
goes_on t m n a b f g more slips steps c d (inr s) = steps c d s

-- an arc that reads nothing reads no word with another
pub none_reads : (t : Table) (f : Found) (x : Arc) (others : List Arc) → x.label ≡ 0 → All (Joins t f x) others
none_reads t f x others e = λ k d l low some meet. absurd (omega arith)
