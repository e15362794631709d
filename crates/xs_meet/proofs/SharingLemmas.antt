-- What is known of groups that share words, as it grows.
use Rattle.std.proofs.Common.{◌≡◌, ℕ, zero, suc, ◌+◌, ◌*◌, ◌-◌, ◌<◌, ◌≤◌, ◌⊎◌, ◌||◌, ◌↔◌, Bool, true, false, List, [], ◌∷◌, ◌++◌, length, take, drop, get_or, set, replicate, refl, sym, ap, subst, ◌∙◌, inl, inr, arith, length-append, length-set, get_or-set_same, get_or-set_other, sum_by}
use Rattle.std.specs.List.{All, slice_range}
use Rattle.std.proofs.lemmas.Bool.{cases_eq, cases_lt, true≢false, false≢true}
use Rattle.std.proofs.lemmas.List.{drop-append-le, take-append-le, length-drop, length-replicate, take_all}
use Rattle.std.proofs.lemmas.List.Elements.{All-cons, All-head, All-nil, All-tail}
use Rattle.std.proofs.lemmas.List.Sums.{sum_by-set}
use Rattle.std.proofs.lemmas.Nat.{mul-add-lt}
use Rattle.std.proofs.lemmas.Option.{slice_get_within, get_or_from_slice_get}
use Rattle.std.proofs.Math.Seq.{drop-append_seam}
use Rattle.xs_class.proofs.Lists.{get_left, get_last, get_push, one_cell}
use Rattle.xs_class.proofs.Truth.{and_true, both_true, lt_is, lt_true, false_true}
use Rattle.xs_auto.specs.Nets.{Graph}
use Rattle.xs_auto.specs.Nests.{Group, no_group, group_at, IsGroup, IsFenced, HaveOneFence, ShareContent, AreShared}
use Rattle.xs_auto.proofs.BitLemmas.{copy_at}
use Rattle.xs_meet.specs.declared.piece.Piece.{Piece}
use Rattle.xs_meet.specs.declared.piece.Piece.TheVariants.{Symbol, Groups}
use Rattle.xs_meet.specs.declared.shared_groups.SharedGroups.{SharedGroups}
use Rattle.xs_meet.specs.Closed.{Leads, Marked, AreApart, AreSettled, IsSettled}
use Rattle.xs_meet.specs.Pieces.{Spells}
use Rattle.xs_meet.specs.Rounds.{Tries, AreThese, AreFrom, AreWithin}
use Rattle.xs_meet.specs.Sharing.{Sharing, has_at, AreKnown, IsOf, IsListed, IsKnownBefore, IsRow, IsSharing, IsSharedOf, HasCells, with_cells, AddsRow, unmarked, left_over}
use Rattle.xs_meet.specs.Traces.{IsRelated, ArePieces}
use Rattle.xs_meet.proofs.NestLemmas.{apart}
use Rattle.xs_meet.proofs.SpellingLemmas.{share_turned, all_known, some_word}

-- known groups exist, and their cell is marked
record IsCell (s : Sharing) (g h : ℕ) : Type 0 where
  first : g < s.groups
  second : h < s.groups
  marked : get_or s.table (g * s.groups + h) false ≡ true

cell_of : (s : Sharing) (g h : ℕ) → AreKnown s g h → IsCell s g h
cell_of s g h known =
    let p = and_true _ _ known in
    let q = and_true _ _ p.1 in
    record { first = lt_is g s.groups p.0; second = lt_is h s.groups q.0; marked = q.1 }

of_cell : (s : Sharing) (g h : ℕ) → IsCell s g h → AreKnown s g h
of_cell s g h c = both_true _ _ (lt_true g s.groups c.first) (both_true _ _ (lt_true h s.groups c.second) c.marked)

-- before any are found
pub shared_blank : (nest : List Group) (s : Sharing) (n : ℕ) → n ≡ length nest → s ≡ record { groups = n; table = replicate (n * n) false; rows = []; pieces = [] } → IsSharing nest s
shared_blank nest s n e is = rw is (record {
  groups = e;
  cells = length-replicate (n * n) false;
  rows = λ k row at. cc;
  listed = λ g h known. absurd (none g h known);
  turned = λ g h known. absurd (none g h known);
})
  where
    blank : Sharing
    blank = record { groups = n; table = replicate (n * n) false; rows = []; pieces = [] }

    none : (g h : ℕ) → AreKnown (record { groups = n; table = replicate (n * n) false; rows = []; pieces = [] }) g h → ⊥
    none g h known = let c = cell_of (record { groups = n; table = replicate (n * n) false; rows = []; pieces = [] }) g h known in false≢true (sym (copy_at false (n * n) (g * n + h)) ∙ c.marked)

-- cells that are marked one after the other
set_true : (xs : List Bool) (i j : ℕ) → get_or (set xs i true) j false ≡ true → (j ≡ i) ⊎ (get_or xs j false ≡ true)
set_true xs i j e = elim (cases_eq j i) [ inl same ↦ inl same | inr ne ↦ inr (sym (get_or-set_other xs i j true false ne) ∙ e) ]

set_keeps : (xs : List Bool) (i j : ℕ) → i < length xs → get_or xs j false ≡ true → get_or (set xs i true) j false ≡ true
set_keeps xs i j l e = elim (cases_eq j i) [ inl same ↦ rw same (get_or-set_same xs i true false l) | inr ne ↦ get_or-set_other xs i j true false ne ∙ e ]

-- the groups that were added, and what was added of them
record IsAdding (old new : Sharing) (g h : ℕ) (ps : List Piece) : Type 0 where
  cells : HasCells old
  first : g < old.groups
  second : h < old.groups
  adds : AddsRow old new g h ps

in_table : (s : Sharing) (g h : ℕ) → HasCells s → g < s.groups → h < s.groups → g * s.groups + h < length s.table
in_table s g h cells a b = rw cells (mul-add-lt g s.groups h s.groups a b)

known_cases : (old new : Sharing) (g h : ℕ) (ps : List Piece) → IsAdding old new g h ps → (a b : ℕ) → AreKnown new a b → ((a ≡ g) × (b ≡ h)) ⊎ (((a ≡ h) × (b ≡ g)) ⊎ AreKnown old a b)
known_cases old new g h ps x a b known =
    let c = cell_of new a b known in
    let n = old.groups in
    let first : a < n = rw x.adds.groups at c.first in
    let second : b < n = rw x.adds.groups at c.second in
    let marked : get_or (with_cells old g h) (a * n + b) false ≡ true = rw (x.adds.groups, x.adds.table) at c.marked in
    elim (set_true (set old.table (g * n + h) true) (h * n + g) (a * n + b) marked) [
      | inl e ↦ inr (inl (one_cell n a b h g second x.first e))
      | inr m ↦ elim (set_true old.table (g * n + h) (a * n + b) m) [
        | inl e ↦ inl (one_cell n a b g h second x.second e)
        | inr k ↦ inr (inr (of_cell old a b (record { first = first; second = second; marked = k })))
      ]
    ]

table_keeps : (old new : Sharing) (g h : ℕ) (ps : List Piece) → IsAdding old new g h ps → (j : ℕ) → get_or (set old.table (g * old.groups + h) true) j false ≡ true → get_or new.table j false ≡ true
table_keeps old new g h ps x j e =
    rw x.adds.table (set_keeps (set old.table (g * old.groups + h) true) (h * old.groups + g) j (rw length-set (in_table old h g x.cells x.second x.first)) e)

known_more : (old new : Sharing) (g h : ℕ) (ps : List Piece) → IsAdding old new g h ps → (a b : ℕ) → AreKnown old a b → AreKnown new a b
known_more old new g h ps x a b known =
    let c = cell_of old a b known in
    of_cell new a b (record {
      first = rw x.adds.groups c.first;
      second = rw x.adds.groups c.second;
      marked = rw x.adds.groups (table_keeps old new g h ps x (a * old.groups + b) (set_keeps old.table (g * old.groups + h) (a * old.groups + b) (in_table old g h x.cells x.first x.second) c.marked));
    })

known_new : (old new : Sharing) (g h : ℕ) (ps : List Piece) → IsAdding old new g h ps → AreKnown new g h
known_new old new g h ps x =
    of_cell new g h (record {
      first = rw x.adds.groups x.first;
      second = rw x.adds.groups x.second;
      marked = rw x.adds.groups (table_keeps old new g h ps x (g * old.groups + h) (get_or-set_same old.table (g * old.groups + h) true false (in_table old g h x.cells x.first x.second)));
    })

known_turned : (old new : Sharing) (g h : ℕ) (ps : List Piece) → IsAdding old new g h ps → AreKnown new h g
known_turned old new g h ps x =
    of_cell new h g (record {
      first = rw x.adds.groups x.second;
      second = rw x.adds.groups x.first;
      marked = rw (x.adds.groups, x.adds.table) (get_or-set_same (set old.table (g * old.groups + h) true) (h * old.groups + g) true false (rw length-set (in_table old h g x.cells x.second x.first)));
    })

-- a stretch of a list, when more is added, and the stretch that is added
stretch_left : {X : Type 0} (xs ys : List X) (s e : ℕ) → s ≤ e → e ≤ length xs → slice_range (xs ++ ys) s e ≡ slice_range xs s e
stretch_left xs ys s e le l = ap (take (e - s)) (drop-append-le s xs ys (omega arith)) ∙ take-append-le (e - s) (drop s xs) ys (rw length-drop (omega arith))

stretch_last : {X : Type 0} (xs ys : List X) → slice_range (xs ++ ys) (length xs) (length xs + length ys) ≡ ys
stretch_last xs ys = ap (take (length xs + length ys - length xs)) (drop-append_seam xs ys) ∙ take_all (length xs + length ys - length xs) ys (omega arith)

listed_more : {rows : List SharedGroups} {k g h : ℕ} (row : SharedGroups) (j : ℕ) → k ≤ j → IsListed rows k g h → IsListed (rows ++ row ∷ []) j g h
listed_more {rows} row j le l = record { place = l.place; row = l.row; before = omega (arith, l.before); at = get_left rows (row ∷ []) l.place l.row l.at; is_of = l.is_of }

all_more : (rows : List SharedGroups) (k : ℕ) (row : SharedGroups) (ps : List Piece) → All (IsKnownBefore rows k) ps → All (IsKnownBefore (rows ++ row ∷ []) k) ps
all_more rows k row [] known = All-nil (IsKnownBefore (rows ++ row ∷ []) k)
all_more rows k row (Symbol x ∷ ps) known = All-cons (IsKnownBefore (rows ++ row ∷ []) k) (Symbol x) ps tt (all_more rows k row ps (All-tail (IsKnownBefore rows k) (Symbol x) ps known))
all_more rows k row (Groups g h ∷ ps) known = All-cons (IsKnownBefore (rows ++ row ∷ []) k) (Groups g h) ps (listed_more row k (omega arith) (All-head (IsKnownBefore rows k) (Groups g h) ps known)) (all_more rows k row ps (All-tail (IsKnownBefore rows k) (Groups g h) ps known))

row_more : (nest : List Group) (old new : Sharing) (g h : ℕ) (ps : List Piece) (k : ℕ) (row : SharedGroups) → AddsRow old new g h ps → IsRow nest old k row → IsRow nest new k row
row_more nest old new g h ps k row adds r =
    let same : slice_range new.pieces row.start row.end ≡ slice_range old.pieces row.start row.end = ap (λ xs. slice_range xs row.start row.end) adds.pieces ∙ stretch_left old.pieces ps row.start row.end r.order r.within in
    record {
      order = r.order;
      within = omega (arith, r.within, ap length adds.pieces, length-append old.pieces ps);
      exists = r.exists;
      spells = rw same r.spells;
      known = rw (same, adds.rows) (all_more old.rows k _ _ r.known);
    }

abbrev last_of : Sharing → ℕ → ℕ → List Piece → SharedGroups
last_of old g h ps = record { first = g; second = h; start = length old.pieces; end = length old.pieces + length ps }

-- groups whose shared words are spelt by related pieces
pub shared_add : (nest : List Group) (old new : Sharing) (g h : ℕ) (ps : List Piece) → IsSharing nest old → AddsRow old new g h ps → g < length nest → h < length nest → All (IsRelated (AreKnown old)) ps → ((w : List ℕ) → Spells nest ps w → ShareContent nest g h w) → IsSharing nest new
shared_add nest old new g h ps sharing adds a b related spells = record {
  groups = adds.groups ∙ sharing.groups;
  cells = ap length adds.table ∙ length-set (set old.table (g * old.groups + h) true) (h * old.groups + g) true ∙ length-set old.table (g * old.groups + h) true ∙ sharing.cells ∙ rw adds.groups refl;
  rows = λ k row at. elim (get_push old.rows (last_of old g h ps) row k (rw adds.rows at at)) [
    | inl e ↦ row_more nest old new g h ps k row adds (sharing.rows k row e)
    | inr e ↦ rw (e.0, sym e.1) last_row
  ];
  listed = λ x y known. elim (known_cases old new g h ps adding x y known) [
    | inl e ↦ rw (e.0, e.1) (newest g h (inl (refl, refl)))
    | inr other ↦ elim other [
      | inl e ↦ rw (e.0, e.1) (newest h g (inr (refl, refl)))
      | inr k ↦ rw adds.rows (listed_more (last_of old g h ps) _ (omega (arith, length-append old.rows ((last_of old g h ps) ∷ []))) (sharing.listed x y k))
    ]
  ];
  turned = λ x y known. elim (known_cases old new g h ps adding x y known) [
    | inl e ↦ rw (e.0, e.1) (known_turned old new g h ps adding)
    | inr other ↦ elim other [
      | inl e ↦ rw (e.0, e.1) (known_new old new g h ps adding)
      | inr k ↦ known_more old new g h ps adding y x (sharing.turned x y k)
    ]
  ];
}
  where
    adding : IsAdding old new g h ps
    adding = record { cells = sharing.cells; first = rw sharing.groups a; second = rw sharing.groups b; adds = adds }

    newest : (x y : ℕ) → IsOf (last_of old g h ps) x y → IsListed new.rows (length new.rows) x y
    newest x y is = rw adds.rows (record { place = length old.rows; row = (last_of old g h ps); before = omega (arith, length-append old.rows ((last_of old g h ps) ∷ [])); at = get_last old.rows (last_of old g h ps); is_of = is })

    inside : slice_range new.pieces (length old.pieces) (length old.pieces + length ps) ≡ ps
    inside = ap (λ xs. slice_range xs (length old.pieces) (length old.pieces + length ps)) adds.pieces ∙ stretch_last old.pieces ps

    last_row : IsRow nest new (length old.rows) (last_of old g h ps)
    last_row = record {
      order = omega arith;
      within = omega (arith, ap length adds.pieces, length-append old.pieces ps);
      exists = a;
      spells = rw inside spells;
      known = rw (inside, adds.rows) (all_more old.rows (length old.rows) (last_of old g h ps) ps (all_known nest old sharing ps related));
    }

-- fewer cells are left
pub shared_less : (old new : Sharing) (g h : ℕ) (ps : List Piece) → HasCells old → AddsRow old new g h ps → g < old.groups → h < old.groups → has_at old g h ≡ false → left_over new < left_over old
shared_less old new g h ps cells adds a b unknown =
    let i = g * old.groups + h in
    let j = h * old.groups + g in
    let one = sum_by-set unmarked old.table i true false (in_table old g h cells a b) in
    let two = sum_by-set unmarked (set old.table i true) j true false (rw length-set (in_table old h g cells b a)) in
    let blank : get_or old.table i false ≡ false = not_marked _ (λ e. true≢false (sym (of_cell old g h (record { first = a; second = b; marked = e })) ∙ unknown)) in
    let was : unmarked (get_or old.table i false) ≡ 1 = ap unmarked blank in
    let is : left_over new ≡ sum_by unmarked (with_cells old g h) = ap (sum_by unmarked) adds.table in
    omega (arith, one, two, was, is)
  where
    not_marked : (m : Bool) → (m ≡ true → ⊥) → m ≡ false
    not_marked true f = absurd (f refl)
    not_marked false f = refl

-- nothing tried
pub tries_none : (nest : List Group) (P : ℕ → ℕ → Type 0) (s : Sharing) → IsSharing nest s → ((g h : ℕ) → P g h → ⊥) → Tries nest P s s false
tries_none nest P s sharing none = record { sharing = sharing; no_more = omega arith; less = λ e. absurd (false_true e); same = λ e. refl; settled = λ e g h p. absurd (none g h p) }

-- two groups that are settled
pub tries_settled : (nest : List Group) (s : Sharing) (first second : ℕ) → IsSharing nest s → AreSettled nest (AreKnown s) first second → Tries nest (AreThese first second) s s false
tries_settled nest s first second sharing settled = record {
  sharing = sharing;
  no_more = omega arith;
  less = λ e. absurd (false_true e);
  same = λ e. refl;
  settled = λ e g h these. rw (these.is_first, these.is_second) settled;
}

-- two groups that were added
pub tries_added : (nest : List Group) (P : ℕ → ℕ → Type 0) (old new : Sharing) → IsSharing nest new → left_over new < left_over old → Tries nest P old new true
tries_added nest P old new sharing less = record { sharing = sharing; no_more = omega arith; less = λ e. less; same = λ e. absurd (true≢false e); settled = λ e. absurd (true≢false e) }

-- some tried, and then others
pub tries_then : (nest : List Group) (P Q S : ℕ → ℕ → Type 0) (a b c : Sharing) (x y : Bool) → Tries nest P a b x → Tries nest Q b c y → ((g h : ℕ) → S g h → P g h ⊎ Q g h) → Tries nest S a c (x || y)
tries_then nest P Q S a b c true y s t parts = record { sharing = t.sharing; no_more = omega (arith, s.no_more, t.no_more); less = λ e. let l = s.less refl in omega (arith, l, t.no_more); same = λ e. absurd (true≢false e); settled = λ e. absurd (true≢false e) }
tries_then nest P Q S a b c false true s t parts = record { sharing = t.sharing; no_more = omega (arith, s.no_more, t.no_more); less = λ e. let l = t.less refl in omega (arith, l, s.no_more); same = λ e. absurd (true≢false e); settled = λ e. absurd (true≢false e) }
tries_then nest P Q S a b c false false s t parts = record {
  sharing = t.sharing;
  no_more = omega (arith, s.no_more, t.no_more);
  less = λ e. absurd (false_true e);
  same = λ e. t.same refl ∙ s.same refl;
  settled = λ e g h i. elim (parts g h i) [ inl p ↦ s.settled refl g h p | inr q ↦ rw (← s.same refl) (t.settled refl g h q) ];
}

-- a group with one more after it
pub from_more : (nest : List Group) (first second : ℕ) (a b c : Sharing) (x y : Bool) → Tries nest (AreFrom first second) a b x → Tries nest (AreThese first second) b c y → Tries nest (AreFrom first (second + 1)) a c (x || y)
from_more nest first second a b c x y s t = tries_then nest (AreFrom first second) (AreThese first second) (AreFrom first (second + 1)) a b c x y s t (λ g h i. elim (cases_eq h second) [
  | inl e ↦ inr (record { is_first = i.is_first; is_second = e })
  | inr ne ↦ inl (record { is_first = i.is_first; order = i.order; low = omega (arith, i.low) })
])

-- one group more, with each from it on
pub within_more : (nest : List Group) (first n : ℕ) (a b c : Sharing) (x y : Bool) → Tries nest (AreWithin first n) a b x → Tries nest (AreFrom first n) b c y → Tries nest (AreWithin (first + 1) n) a c (x || y)
within_more nest first n a b c x y s t = tries_then nest (AreWithin first n) (AreFrom first n) (AreWithin (first + 1) n) a b c x y s t (λ g h i. elim (cases_eq g first) [
  | inl e ↦ inr (record { is_first = e; order = omega (arith, i.order); low = i.low })
  | inr ne ↦ inl (record { before = omega (arith, i.before); order = i.order; low = i.low })
])

-- groups of two fences are settled, and so are known ones
pub settled_apart : (nest : List Group) (R : ℕ → ℕ → Type 0) (g h : ℕ) → (HaveOneFence (group_at nest g) (group_at nest h) → ⊥) → AreSettled nest R g h
settled_apart nest R g h none a b is_a is_b fence = absurd (none (rw (get_or_from_slice_get nest g a no_group is_a, get_or_from_slice_get nest h b no_group is_b) fence))

pub settled_search : (nest : List Group) (R : ℕ → ℕ → Type 0) (g h : ℕ) → AreApart R (group_at nest g).content (group_at nest h).content → AreSettled nest R g h
settled_search nest R g h apart a b is_a is_b fence = inr (rw (get_or_from_slice_get nest g a no_group is_a, get_or_from_slice_get nest h b no_group is_b) at apart)

-- pieces that spell words that both contents accept
pub pieces_share : (nest : List Group) (R : ℕ → ℕ → Type 0) (g h : ℕ) (ps : List Piece) → g < length nest → h < length nest → HaveOneFence (group_at nest g) (group_at nest h) → ArePieces R (group_at nest g).content (group_at nest h).content ps → (w : List ℕ) → Spells nest ps w → ShareContent nest g h w
pieces_share nest R g h ps a b fence pieces w s =
    let both = pieces.shared nest w s in
    record { first = group_at nest g; second = group_at nest h; is_first = there nest g a; is_second = there nest h b; fence = fence; accepts_first = both.first; accepts_second = both.second }
  where
    there : (nest : List Group) (g : ℕ) → g < length nest → IsGroup nest g (group_at nest g)
    there [] g l = absurd (omega arith)
    there (x ∷ xs) zero l = refl
    there (x ∷ xs) (suc g) l = there xs g (omega arith)

-- marks for the nets in the other order
pub apart_turned : (R : ℕ → ℕ → Type 0) → ((h k : ℕ) → R h k → R k h) → (m n : Graph) → AreApart R m n → AreApart R n m
apart_turned R turned_R m n x =
    let z = x.0 in
    let i = x.1 in (
      λ p q. z q p,
      record {
        starts = λ p q e f. i.starts q p f e;
        closed = λ p q c d m leads. i.closed q p d c m (turned p q c d leads);
        none = λ p q m e f. i.none q p m f e;
      },
    )
  where
    turned : (p q c d : ℕ) → Leads R n m p q c d → Leads R m n q p d c
    turned p q c d (inl (inl m)) = inl (inr (record { move = m.move; still = m.still }))
    turned p q c d (inl (inr m)) = inl (inl (record { move = m.move; still = m.still }))
    turned p q c d (inr (inl x)) = let r = x.1 in inr (inl (x.0, record { first = r.second; second = r.first; of_first = r.of_second; of_second = r.of_first; takes_first = r.takes_second; takes_second = r.takes_first; to_first = r.to_second; to_second = r.to_first }))
    turned p q c d (inr (inr x)) = let r = x.2 in inr (inr (x.1, x.0, record { first = r.second; second = r.first; of_first = r.of_second; of_second = r.of_first; over_first = r.over_second; over_second = r.over_first; related = turned_R _ _ r.related; to_first = r.to_second; to_second = r.to_first }))

-- where a round finds no more, all is settled
pub all_settled : (nest : List Group) (old new : Sharing) → Tries nest (AreWithin (length nest) (length nest)) old new false → IsSharedOf nest new
all_settled nest old new t = record { sharing = t.sharing; settled = settled }
  where
    half : (g h : ℕ) → g ≤ h → AreSettled nest (AreKnown new) g h
    half g h le a b is_a is_b fence =
        let within = slice_get_within nest h b is_b in
        let s = t.settled refl g h (record { before = omega arith; order = le; low = within }) a b is_a is_b fence in
        rw (t.same refl) s

    settled : IsSettled nest (AreKnown new)
    settled g h a b is_a is_b fence = elim (cases_lt h g) [
      | inr le ↦ half g h le a b is_a is_b fence
      | inl lt ↦ elim (half h g (omega arith) b a is_b is_a (record { left = sym fence.left; right = sym fence.right })) [
        | inl known ↦ inl (t.sharing.turned h g known)
        | inr x ↦ inr (apart_turned (AreKnown new) t.sharing.turned b.content a.content x)
      ]
    ]

-- groups are known to share a word exactly where they do
pub exactly : (nest : List Group) (s : Sharing) → IsFenced nest → IsSharedOf nest s → (g h : ℕ) → (has_at s g h ≡ true) ↔ AreShared nest g h
exactly nest s fenced shared g h = (to, back)
  where
    to : has_at s g h ≡ true → AreShared nest g h
    to known =
        let l = shared.sharing.listed g h known in
        let row = shared.sharing.rows l.place l.row l.at in
        let word = some_word nest s shared.sharing l.place _ row.known in
        let share = row.spells word.0 word.1 in (
          word.0,
          elim l.is_of [
            | inl e ↦ subst (λ (k : ℕ). ShareContent nest g k word.0) e.1 (subst (λ (k : ℕ). ShareContent nest k l.row.second word.0) e.0 share)
            | inr e ↦ share_turned nest h g word.0 (subst (λ (k : ℕ). ShareContent nest h k word.0) e.1 (subst (λ (k : ℕ). ShareContent nest k l.row.second word.0) e.0 share))
          ],
        )

    back : AreShared nest g h → has_at s g h ≡ true
    back (w, x) = elim (shared.settled g h x.first x.second x.is_first x.is_second x.fence) [
      | inl known ↦ known
      | inr z ↦ absurd (apart nest fenced (AreKnown s) shared.settled x.first.content x.second.content (Marked z.0) (fenced.tame g x.first x.is_first) (fenced.tame h x.second x.is_second) z.1 w (record { first = x.accepts_first; second = x.accepts_second }))
    ]
