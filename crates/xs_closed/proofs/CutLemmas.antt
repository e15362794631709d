-- What the four sets of a cut show, and what a set of two nets does.
use Rattle.std.proofs.Common.{◌≡◌, ℕ, ◌+◌, ◌<◌, ◌≤◌, ◌⊎◌, true, false, length, Option, Some, None, refl, sym, subst, ◌∙◌, inl, inr, arith}
use Rattle.std.proofs.lemmas.Bool.{cases_eq, true≢false}
use Rattle.xs_auto.specs.Nets.{Graph, final_at}
use Rattle.xs_meet.specs.Closed.{Marked, Leads, IsClear}
use Rattle.xs_closed.specs.Rows.{Grid, marked, IsSized, rows_of}
use Rattle.xs_closed.specs.Least.{AreStarts, IsPastMiddle}
use Rattle.xs_closed.specs.Longest.{First, Holds, IsApartBy, IsClearBy}
use Rattle.xs_closed.specs.declared.sets.CutSets.{CutSets}
use Rattle.xs_closed.specs.Search.{IsPair}
use Rattle.xs_closed.specs.Testing.{InRow, Raises, Lacks, IsNeed, IsLimit, rank, EachPair, LeadsWithin, IsTurned, IsPastRow, IsPastBelow}
use Rattle.xs_closed.proofs.RowLemmas.{holds_rows}
use Rattle.xs_closed.proofs.NeedLemmas.{raises_none, raises_then, raises_as, lacks_as}
use Rattle.xs_closed.proofs.LongestLemmas.{marked_within, rank_reach, below_first, first_below}

-- the rows of a table have a pair where it is marked
held : (z : Grid) (a b : ℕ) → marked z a b ≡ true → Holds z a b
held z a b e = holds_rows 0 z.rows a b a (omega arith) ∙ e

is_held : (z : Grid) (a b : ℕ) → Holds z a b → marked z a b ≡ true
is_held z a b e = sym (holds_rows 0 z.rows a b a (omega arith)) ∙ e

-- and so do its first rows
first_marked : (z : Grid) (j a b : ℕ) → j ≤ length (rows_of z) → First z j a b → marked z a b ≡ true
first_marked z j a b l e = let x = rank_reach z j l in (first_below z x.0 a b (let P : ℕ → Type 0 = (λ i. First z i a b) in subst P (sym x.2) e)).there

-- what the two starts need
pub starts_need : (z : Grid) (m n : Graph) (a b : ℕ) (result : Option ℕ) → m.start ≡ Some a → n.start ≡ Some b → IsNeed z (IsPair a b) 0 result → IsNeed z (AreStarts m n) 0 result
starts_need z m n a b None e f need = lacks_as z (λ c d t. record { first = rw t.first e; second = rw t.second f }) need
starts_need z m n a b (Some new) e f need = raises_as z 0 new (λ c d t. record { first = rw t.first e; second = rw t.second f }) (λ c d t. record { first = same c a (sym t.first ∙ e); second = same d b (sym t.second ∙ f) }) need
  where
    same : (x y : ℕ) → Some x ≡ Some y → x ≡ y
    same x y q = cc

-- the first rows show that the nets share no word where they are closed and right
pub apart_limit : (z : Grid) (R : ℕ → ℕ → Type 0) (m n : Graph) (need x : ℕ) → Raises z (AreStarts m n) 0 need → IsApartBy R m n z (rank z x) → IsLimit R m n z need x
apart_limit z R m n need x h p = record {
  order = h.least x (omega arith) (λ c d t. (first_below z x c d (p.starts c d t.first t.second)).before);
  closed = λ a b c d k t. first_below z x c d (p.closed a b c d (below_first z x a b k) t);
  none = λ a b k f g. p.none a b (below_first z x a b k) f g;
}

pub limit_apart : (z : Grid) (R : ℕ → ℕ → Type 0) (m n : Graph) (need x : ℕ) → Raises z (AreStarts m n) 0 need → IsLimit R m n z need x → IsApartBy R m n z (rank z x)
limit_apart z R m n need x h p = record {
  starts = λ a b e f.
      let t : AreStarts m n a b = record { first = e; second = f } in
      below_first z x a b (record { there = h.there a b t; before = omega (arith, h.within a b t, p.order) });
  closed = λ a b c d k t. below_first z x c d (p.closed a b c d (first_below z x a b k) t);
  none = λ a b k f g. p.none a b (first_below z x a b k) f g;
}

pub no_apart : (z : Grid) (R : ℕ → ℕ → Type 0) (m n : Graph) → Lacks z (AreStarts m n) → (j : ℕ) → j ≤ length (rows_of z) → IsApartBy R m n z j → ⊥
no_apart z R m n lacks j l p = lacks (λ c d t. first_marked z j c d l (p.starts c d t.first t.second))

pub rows_more : (y : Grid) (P : ℕ → ℕ → Type 0) (a : ℕ) → ((x b : ℕ) → x < a → marked y x b ≡ true → P x b) → ((b : ℕ) → marked y a b ≡ true → P a b) → (x b : ℕ) → x < a + 1 → marked y x b ≡ true → P x b
rows_more y P a before here x b l e = elim (cases_eq x a) [
  | inl q ↦ rw q (here b (rw q at e))
  | inr q ↦ before x b (omega arith) e
]

pub rows_all : (y : Grid) (P : ℕ → ℕ → Type 0) (high wide a : ℕ) → IsSized high wide y → high ≤ a → ((x b : ℕ) → x < a → marked y x b ≡ true → P x b) → EachPair y P
rows_all y P high wide a sized l each x b e = let k = marked_within high wide y x b sized e in each x b (omega (arith, k.0)) e

pub past_row : (y z : Grid) (front : Graph) (a s old : ℕ) (result : Option ℕ) → final_at front a ≡ true → IsNeed z (InRow y a (IsPair s)) old result → IsNeed z (IsPastRow front y a s) old result
past_row y z front a s old None f need = lacks_as z (λ c d t. record { final = f; first = t.leads.first; there = rw t.leads.second t.there }) need
past_row y z front a s old (Some new) f need = raises_as z old new (λ c d t. record { final = f; first = t.leads.first; there = rw t.leads.second t.there }) (λ c d t. record { partner = d; there = t.there; leads = record { first = t.first; second = refl } }) need

pub past_no_row : (y z : Grid) (front : Graph) (a s old : ℕ) → final_at front a ≡ false → Raises z (IsPastRow front y a s) old old
past_no_row y z front a s old f = raises_none z old (λ c d t. true≢false (sym t.final ∙ f))

pub past_next : (y z : Grid) (front rest : Graph) (a s mid new : ℕ) → rest.start ≡ Some s → Raises z (IsPastBelow front rest y a) 0 mid → Raises z (IsPastRow front y a s) mid new → Raises z (IsPastBelow front rest y (a + 1)) 0 new
past_next y z front rest a s mid new e h g = raises_then z 0 mid new split left right h g
  where
    same : (u v : ℕ) → Some u ≡ Some v → u ≡ v
    same u v q = cc

    split : (c d : ℕ) → IsPastBelow front rest y (a + 1) c d → IsPastBelow front rest y a c d ⊎ IsPastRow front y a s c d
    split c d t = elim (cases_eq t.state a) [
      | inl q ↦ inr (record { final = rw q at t.final; first = same c s (sym t.starts ∙ e); there = rw q at t.within })
      | inr q ↦ inl (record { state = t.state; before = omega (arith, t.before); within = t.within; final = t.final; starts = t.starts })
    ]

    left : (c d : ℕ) → IsPastBelow front rest y a c d → IsPastBelow front rest y (a + 1) c d
    left c d t = record { state = t.state; before = omega (arith, t.before); within = t.within; final = t.final; starts = t.starts }

    right : (c d : ℕ) → IsPastRow front y a s c d → IsPastBelow front rest y (a + 1) c d
    right c d t = record { state = a; before = omega arith; within = t.there; final = t.final; starts = rw t.first e }

pub past_lacks : (y z : Grid) (front rest : Graph) (a s : ℕ) → rest.start ≡ Some s → Lacks z (IsPastRow front y a s) → Lacks z (IsPastMiddle front rest (Marked (marked y)))
past_lacks y z front rest a s e = lacks_as z (λ c d t. record { state = a; within = t.there; final = t.final; starts = rw t.first e })

pub past_done : (y z : Grid) (front rest : Graph) (high wide a need : ℕ) → IsSized high wide y → high ≤ a → Raises z (IsPastBelow front rest y a) 0 need → Raises z (IsPastMiddle front rest (Marked (marked y))) 0 need
past_done y z front rest high wide a need sized l = raises_as z 0 need (λ c d t. record { state = t.state; within = t.within; final = t.final; starts = t.starts }) (λ c d t. let k = marked_within high wide y t.state d sized t.within in record { state = t.state; before = omega (arith, k.0); within = t.within; final = t.final; starts = t.starts })

-- what four right sets say of each pair
pub clear_starts : (s : CutSets) (R : ℕ → ℕ → Type 0) (front rest : Graph) (Z : ℕ → ℕ → Type 0) → IsClear R front rest (Holds s.fronts) (Holds s.pauses) (Holds s.middles) Z → (c d : ℕ) → AreStarts front front c d → marked s.fronts c d ≡ true
clear_starts s R front rest Z p c d t = is_held s.fronts c d (p.starts c d t.first t.second)

pub clear_fronts : (s : CutSets) (R : ℕ → ℕ → Type 0) (front rest : Graph) (Z : ℕ → ℕ → Type 0) → IsClear R front rest (Holds s.fronts) (Holds s.pauses) (Holds s.middles) Z → EachPair s.fronts (LeadsWithin R front front s.fronts s.fronts)
clear_fronts s R front rest Z p a b e = record {
  drifts = λ c d t. is_held s.fronts c d (p.closed1 a b c d (held s.fronts a b e) (inl t));
  strides = λ c d t. is_held s.fronts c d (p.closed1 a b c d (held s.fronts a b e) (inr t));
}

pub clear_turned : (s : CutSets) (R : ℕ → ℕ → Type 0) (front rest : Graph) (Z : ℕ → ℕ → Type 0) → IsClear R front rest (Holds s.fronts) (Holds s.pauses) (Holds s.middles) Z → EachPair s.fronts (IsTurned front rest s.pauses)
clear_turned s R front rest Z p a b e = λ f r k. is_held s.pauses b r (p.to0 a b r (held s.fronts a b e) f k)

pub clear_pauses : (s : CutSets) (R : ℕ → ℕ → Type 0) (front rest : Graph) (Z : ℕ → ℕ → Type 0) → IsClear R front rest (Holds s.fronts) (Holds s.pauses) (Holds s.middles) Z → EachPair s.pauses (LeadsWithin R front rest s.pauses s.middles)
clear_pauses s R front rest Z p a b e = record {
  drifts = λ c d t. is_held s.pauses c d (p.drifts0 a b c d (held s.pauses a b e) t);
  strides = λ c d t. is_held s.middles c d (p.to2 a b c d (held s.pauses a b e) t);
}

pub clear_middles : (s : CutSets) (R : ℕ → ℕ → Type 0) (front rest : Graph) (Z : ℕ → ℕ → Type 0) → IsClear R front rest (Holds s.fronts) (Holds s.pauses) (Holds s.middles) Z → EachPair s.middles (LeadsWithin R front rest s.middles s.middles)
clear_middles s R front rest Z p a b e = record {
  drifts = λ c d t. is_held s.middles c d (p.closed2 a b c d (held s.middles a b e) (inl t));
  strides = λ c d t. is_held s.middles c d (p.closed2 a b c d (held s.middles a b e) (inr t));
}

pub clear_past : (s : CutSets) (R : ℕ → ℕ → Type 0) (front rest : Graph) (j : ℕ) → j ≤ length (rows_of s.rests) → IsClearBy R front rest s j → (c d : ℕ) → IsPastMiddle front rest (Marked (marked s.middles)) c d → marked s.rests c d ≡ true
clear_past s R front rest j l p c d t = first_marked s.rests j c d l (p.to3 t.state d c (held s.middles t.state d t.within) t.final t.starts)

-- the first rows of the last set show with the others that there is no overlap where they are closed
-- and right
pub clear_limit : (s : CutSets) (R : ℕ → ℕ → Type 0) (front rest : Graph) (need x : ℕ) → Raises s.rests (IsPastMiddle front rest (Marked (marked s.middles))) 0 need → IsClearBy R front rest s (rank s.rests x) → IsLimit R rest rest s.rests need x
clear_limit s R front rest need x h p = record {
  order = h.least x (omega arith) (λ c d t. (first_below s.rests x c d (p.to3 t.state d c (held s.middles t.state d t.within) t.final t.starts)).before);
  closed = λ a b c d k t. first_below s.rests x c d (p.closed3 a b c d (below_first s.rests x a b k) t);
  none = λ a b k f g. p.none a b (below_first s.rests x a b k) f g;
}

-- a pair leads to pairs of its set
leads_in : (z : Grid) (R : ℕ → ℕ → Type 0) (m n : Graph) (a b c d : ℕ) → LeadsWithin R m n z z a b → Leads R m n a b c d → marked z c d ≡ true
leads_in z R m n a b c d h (inl t) = h.drifts c d t
leads_in z R m n a b c d h (inr t) = h.strides c d t

pub limit_clear : (s : CutSets) (R : ℕ → ℕ → Type 0) (front rest : Graph) (low need x : ℕ) → Raises s.fronts (AreStarts front front) 0 low → EachPair s.fronts (LeadsWithin R front front s.fronts s.fronts) → EachPair s.fronts (IsTurned front rest s.pauses) → EachPair s.pauses (LeadsWithin R front rest s.pauses s.middles) → EachPair s.middles (LeadsWithin R front rest s.middles s.middles) → Raises s.rests (IsPastMiddle front rest (Marked (marked s.middles))) 0 need → IsLimit R rest rest s.rests need x → IsClearBy R front rest s (rank s.rests x)
limit_clear s R front rest low need x starts fronts turned pauses middles h p = record {
  starts = λ a b e f. held s.fronts a b (starts.there a b (record { first = e; second = f }));
  closed1 = λ a b c d k t. held s.fronts c d (leads_in s.fronts R front front a b c d (fronts a b (is_held s.fronts a b k)) t);
  to0 = λ a b r k f e. held s.pauses b r (turned a b (is_held s.fronts a b k) f r e);
  drifts0 = λ a b c d k t. held s.pauses c d ((pauses a b (is_held s.pauses a b k)).drifts c d t);
  to2 = λ a b c d k t. held s.middles c d ((pauses a b (is_held s.pauses a b k)).strides c d t);
  closed2 = λ a b c d k t. held s.middles c d (leads_in s.middles R front rest a b c d (middles a b (is_held s.middles a b k)) t);
  to3 = λ b r q k f e.
      let t : IsPastMiddle front rest (Marked (marked s.middles)) q r = record { state = b; within = is_held s.middles b r k; final = f; starts = e } in
      below_first s.rests x q r (record { there = h.there q r t; before = omega (arith, h.within q r t, p.order) });
  closed3 = λ a b c d k t. below_first s.rests x c d (p.closed a b c d (first_below s.rests x a b k) t);
  none = λ a b k f g. p.none a b (first_below s.rests x a b k) f g;
}
