-- The atoms of stretches, as turns are passed.
use Rattle.std.proofs.Common.{◌≡◌, ◌∙◌, ◌⊎◌, ℕ, zero, suc, ◌+◌, ◌-◌, ◌*◌, ◌<◌, ◌≤◌, Bool, true, false, not, List, [], ◌∷◌, ◌++◌, length, take, drop, get_or, Some, refl, sym, ap, subst, inl, inr, arith, length-append}
use Rattle.std.proofs.lemmas.List.Sums.{sum_by-append, sum_by-cons}
use Rattle.std.proofs.lemmas.List.{take-append-drop, take_more}
use Rattle.std.proofs.lemmas.Option.{get_or_from_slice_get, slice_get_within, slice_get-get_or}
use Rattle.std.specs.List.Sorted.{IsNonDecreasingBy}
use Rattle.std.specs.Prelude.{slice_get, sum_by, IsTrue, ◌&&◌, nat_le, None, if◌then◌else◌}
use Rattle.xs_class.proofs.Lists.{get_left, get_last}
use Rattle.xs_class.proofs.Truth.{le_true}
use Rattle.xs_atoms.specs.declared.sweep.Draft.{Draft}
use Rattle.xs_atoms.specs.declared.sweep.Stretch.{Stretch}
use Rattle.xs_atoms.specs.declared.turns.Turn.{Turn}
use Rattle.xs_atoms.specs.Turns.{odd, is_of, of_class, flip, flips, AreKept}
use Rattle.xs_atoms.specs.Stretches.{flag, row_of, start_of, IsAtomOf, IsDrafted, IsAdded, IsFound, IsGiven, IsPushed, IsTurned, IsSwept}
use Rattle.xs_atoms.proofs.Turning.{le_false, below_or}
use Rattle.xs_atoms.proofs.Rows.{get_push, start_of-push, start_of-past, row_of-left, row_of-end, within_rows, atom_below}

-- an atom stays that of its symbols when more atoms come
grown : (turns : List Turn) (width : ℕ) (rows row : List Bool) (firsts more : List ℕ) (s atom : ℕ) → length rows ≡ width * length firsts → IsAtomOf turns width rows firsts s atom → IsAtomOf turns width (rows ++ row) (firsts ++ more) s atom
grown turns width rows row firsts more s atom l a = record {
  below = omega (arith, a.below, length-append firsts more);
  same = λ c h. ap (λ (r : List Bool). flag r c) (row_of-left width rows row atom (omega (arith, l, within_rows width (length firsts) atom a.below))) ∙ a.same c h;
  only = λ t. get_left firsts more atom s (a.only t);
}

-- what is drafted, in the lists of the draft
record IsSoFar (turns : List Turn) (width : ℕ) (rows : List Bool) (firsts : List ℕ) (stretches : List Stretch) (bound : ℕ) : Type 0 where
  long : length rows ≡ width * length firsts
  few : length firsts < 65535
  covered : (i : ℕ) (t : Stretch) → slice_get stretches i ≡ Some t → (s : ℕ) → t.start ≤ s → s < start_of stretches (suc i) bound → IsAtomOf turns width rows firsts s t.atom

-- a stretch whose row is right of its symbols
pub record IsNext (turns : List Turn) (width : ℕ) (row : List Bool) (start next : ℕ) : Type 0 where
  pub wide : 0 < width
  pub long : length row ≡ width
  pub flags : (s : ℕ) → start ≤ s → s < next → (c : ℕ) → c < width → flag row c ≡ odd (flips c s turns)
  pub only : (s : ℕ) → start ≤ s → s < next → IsTrue (odd (flips 0 s turns)) → s ≡ start

-- the lists with an atom for the stretch, and that it is one of the stretch's symbols
record HasAtom (turns : List Turn) (width : ℕ) (rows : List Bool) (firsts : List ℕ) (stretches : List Stretch) (start next atom : ℕ) : Type 0 where
  before : IsSoFar turns width rows firsts stretches start
  of : (s : ℕ) → start ≤ s → s < next → IsAtomOf turns width rows firsts s atom

added : (turns : List Turn) (width : ℕ) (old new : Draft) (row : List Bool) (start next atom : ℕ) → IsSoFar turns width old.rows.items old.firsts.items old.stretches.items start → IsNext turns width row start next → IsAdded old new row start atom → HasAtom turns width (old.rows.items ++ row) (old.firsts.items ++ start ∷ []) old.stretches.items start next atom
added turns width old new row start next atom far n a = record {
  before = record {
    long = more (length (old.rows.items ++ row)) (length (old.firsts.items ++ start ∷ [])) (length-append old.rows.items row) (length-append old.firsts.items (start ∷ []));
    few = omega (arith, length-append old.firsts.items (start ∷ []), a.last, a.few);
    covered = λ i t at s lo hi. grown turns width old.rows.items row old.firsts.items (start ∷ []) s t.atom far.long (far.covered i t at s lo hi);
  };
  of = λ s lo hi. record {
    below = omega (arith, length-append old.firsts.items (start ∷ []), a.last);
    same = λ c h. ap (λ (r : List Bool). flag r c) (row_of-end width old.rows.items row atom here n.long) ∙ n.flags s lo hi c h;
    only = λ t.
        let e : s ≡ start = n.only s lo hi t in
        ap (λ k. slice_get (old.firsts.items ++ start ∷ []) k) a.last ∙ get_last old.firsts.items start ∙ ap (λ k. Some k) (sym e);
  };
}
  where
    here : length old.rows.items ≡ width * atom
    here = far.long ∙ ap (λ k. width * k) (sym a.last)

    more : (x y : ℕ) → x ≡ length old.rows.items + length row → y ≡ length old.firsts.items + 1 → x ≡ width * y
    more x y e f =
        let g : width * (length old.firsts.items + 1) ≡ width * length old.firsts.items + width = omega arith in
        e ∙ omega (arith, far.long, n.long, g, ap (λ k. width * k) f)

found : (turns : List Turn) (width : ℕ) (old new : Draft) (row : List Bool) (start next atom : ℕ) → IsSoFar turns width old.rows.items old.firsts.items old.stretches.items start → IsNext turns width row start next → IsFound old new row atom → HasAtom turns width old.rows.items old.firsts.items old.stretches.items start next atom
found turns width old new row start next atom far n a = record {
  before = far;
  of = λ s lo hi. record {
    below = atom_below width (length old.firsts.items) atom n.wide (fits (length row) n.long a.within);
    same = λ c h. ap (λ (r : List Bool). flag r c) there ∙ n.flags s lo hi c h;
    only = λ t. absurd (apart (flag row 0) a.shared (n.flags s lo hi 0 n.wide ∙ t));
  };
}
  where
    there : row_of width old.rows.items atom ≡ row
    there = subst (λ w. take w (drop (w * atom) old.rows.items) ≡ row) n.long a.same

    fits : (w : ℕ) → w ≡ width → w * atom + w ≤ length old.rows.items → width * atom + width ≤ width * length old.firsts.items
    fits w e h = subst (λ k. k * atom + k ≤ width * length old.firsts.items) e (subst (λ k. w * atom + w ≤ k) far.long h)

    apart : (b : Bool) → b ≡ false → b ≡ true → ⊥
    apart b e f = cc

given : (turns : List Turn) (width : ℕ) (old new : Draft) (row : List Bool) (start next atom : ℕ) → IsSoFar turns width old.rows.items old.firsts.items old.stretches.items start → IsNext turns width row start next → IsGiven old new row start atom → HasAtom turns width new.rows.items new.firsts.items new.stretches.items start next atom
given turns width old new row start next atom far n (inl a) =
    subst (λ (ts : List Stretch). HasAtom turns width new.rows.items new.firsts.items ts start next atom) (sym a.stretches)
    (subst (λ (fs : List ℕ). HasAtom turns width new.rows.items fs old.stretches.items start next atom) (sym a.firsts)
    (subst (λ (rs : List Bool). HasAtom turns width rs (old.firsts.items ++ start ∷ []) old.stretches.items start next atom) (sym a.rows)
    (added turns width old new row start next atom far n a)))
given turns width old new row start next atom far n (inr a) =
    subst (λ (ts : List Stretch). HasAtom turns width new.rows.items new.firsts.items ts start next atom) (sym a.stretches)
    (subst (λ (fs : List ℕ). HasAtom turns width new.rows.items fs old.stretches.items start next atom) (sym a.firsts)
    (subst (λ (rs : List Bool). HasAtom turns width rs old.firsts.items old.stretches.items start next atom) (sym a.rows)
    (found turns width old new row start next atom far n a)))

-- the stretches with one more
one_more : (turns : List Turn) (width : ℕ) (rows : List Bool) (firsts : List ℕ) (stretches : List Stretch) (start next atom : ℕ) → HasAtom turns width rows firsts stretches start next atom → (i : ℕ) (t : Stretch) → slice_get (stretches ++ record { start = start; atom = atom } ∷ []) i ≡ Some t → (s : ℕ) → t.start ≤ s → s < start_of (stretches ++ record { start = start; atom = atom } ∷ []) (suc i) next → IsAtomOf turns width rows firsts s t.atom
one_more turns width rows firsts stretches start next atom h i t at s lo hi = elim (get_push stretches (record { start = start; atom = atom }) t i at) [
  | inl old ↦ h.before.covered i t old.1 s lo (subst (λ k. s < k) (start_of-push stretches (record { start = start; atom = atom }) (suc i) next (omega arith)) hi)
  | inr new ↦
      let past : start_of (stretches ++ record { start = start; atom = atom } ∷ []) (suc i) next ≡ next =
      start_of-past (stretches ++ record { start = start; atom = atom } ∷ []) (suc i) next (omega (arith, length-append stretches (record { start = start; atom = atom } ∷ []))) in
      let begin : start ≡ t.start = ap (λ (x : Stretch). x.start) new.1 in
      let same : atom ≡ t.atom = ap (λ (x : Stretch). x.atom) new.1 in
      subst (λ k. IsAtomOf turns width rows firsts s k) same (h.of s (omega (arith, begin)) (subst (λ k. s < k) past hi))
]

pub pushed : (turns : List Turn) (width : ℕ) (old new : Draft) (row : List Bool) (start next : ℕ) → IsDrafted turns width old start → IsNext turns width row start next → IsPushed old new start row → IsDrafted turns width new next
pushed turns width old new row start next d n p =
    let far : IsSoFar turns width old.rows.items old.firsts.items old.stretches.items start = record { long = d.long; few = d.few; covered = d.covered } in
    let h = given turns width old p.middle row start next p.atom far n p.given in
    let kept : p.middle.stretches.items ≡ old.stretches.items = same_stretches p.given in
    let t : Stretch = record { start = start; atom = p.atom } in
    record {
      long = ap (λ (r : List Bool). length r) p.rows ∙ h.before.long ∙ ap (λ (r : List ℕ). width * length r) (sym p.firsts);
      few = subst (λ (r : List ℕ). length r < 65535) (sym p.firsts) h.before.few;
      begins =
          ap (λ (ts : List Stretch). start_of ts 0 next) p.stretches ∙ start_of-push p.middle.stretches.items t 0 next (omega arith)
          ∙ ap (λ (ts : List Stretch). start_of ts 0 start) kept ∙ d.begins;
      covered = subst (λ (ts : List Stretch). (i : ℕ) (u : Stretch) → slice_get ts i ≡ Some u → (s : ℕ) → u.start ≤ s → s < start_of ts (suc i) next → IsAtomOf turns width new.rows.items new.firsts.items s u.atom) (sym p.stretches)
          (λ i u at s lo hi. subst (λ (rs : List Bool). IsAtomOf turns width rs new.firsts.items s u.atom) (sym p.rows)
          (subst (λ (fs : List ℕ). IsAtomOf turns width p.middle.rows.items fs s u.atom) (sym p.firsts)
          (one_more turns width p.middle.rows.items p.middle.firsts.items p.middle.stretches.items start next p.atom h i u at s lo hi)));
    }
  where
    same_stretches : IsGiven old p.middle row start p.atom → p.middle.stretches.items ≡ old.stretches.items
    same_stretches (inl a) = a.stretches
    same_stretches (inr a) = a.stretches

-- turns up to a symbol count all, and turns after it none
before_one : (c s : ℕ) (t : Turn) → t.place ≤ s → flip c s t ≡ of_class c t
before_one c s t l = let e : nat_le t.place s ≡ true = le_true t.place s l in rw e (ap (λ b. if b then 1 else 0) (and_true (is_of c t.class)))
  where
    and_true : (b : Bool) → (b && true) ≡ b
    and_true true = refl
    and_true false = refl

after_one : (c s : ℕ) (t : Turn) → s < t.place → flip c s t ≡ 0
after_one c s t l = let e : nat_le t.place s ≡ false = le_false t.place s l in rw e (ap (λ b. if b then 1 else 0) (and_false (is_of c t.class)))
  where
    and_false : (b : Bool) → (b && false) ≡ false
    and_false true = refl
    and_false false = refl

all_before : (c s : ℕ) (ts : List Turn) → ((j : ℕ) (t : Turn) → slice_get ts j ≡ Some t → t.place ≤ s) → flips c s ts ≡ sum_by (of_class c) ts
all_before c s [] h = refl
all_before c s (t ∷ ts) h =
    let one : flip c s t ≡ of_class c t = before_one c s t (h 0 t refl) in
    let rest = all_before c s ts (λ j u at. h (suc j) u at) in
    sum_by-cons (flip c s) t ts ∙ omega (arith, one, rest) ∙ sym (sum_by-cons (of_class c) t ts)

all_after : (c s : ℕ) (ts : List Turn) → ((j : ℕ) (t : Turn) → slice_get ts j ≡ Some t → s < t.place) → flips c s ts ≡ 0
all_after c s [] h = refl
all_after c s (t ∷ ts) h =
    let one : flip c s t ≡ 0 = after_one c s t (h 0 t refl) in
    let rest = all_after c s ts (λ j u at. h (suc j) u at) in
    sum_by-cons (flip c s) t ts ∙ omega (arith, one, rest)

get_take : (ts : List Turn) (i j : ℕ) (t : Turn) → slice_get (take i ts) j ≡ Some t → (j < i) × (slice_get ts j ≡ Some t)
get_take ts zero j t e = cc
get_take [] (suc i) j t e = cc
get_take (u ∷ ts) (suc i) zero t e = (omega arith, e)
get_take (u ∷ ts) (suc i) (suc j) t e = let h = get_take ts i j t e in (omega (arith, h.0), h.1)

get_drop : (ts : List Turn) (i j : ℕ) (t : Turn) → slice_get (drop i ts) j ≡ Some t → slice_get ts (i + j) ≡ Some t
get_drop ts zero j t e = let z : 0 + j ≡ j = omega arith in rw z e
get_drop [] (suc i) j t e = cc
get_drop (u ∷ ts) (suc i) j t e = let z : suc i + j ≡ suc (i + j) = omega arith in rw z (get_drop ts i j t e)

-- a sweep that has passed some turns
pub record IsSweeping (turns : List Turn) (width i : ℕ) (row : List Bool) (start : ℕ) (d : Draft) : Type 0 where
  pub wide : 0 < width
  pub drafted : IsDrafted turns width d start
  pub long : length row ≡ width
  pub flags : (c : ℕ) → c < width → flag row c ≡ odd (sum_by (of_class c) (take i turns))
  pub before : (j : ℕ) (t : Turn) → j < i → slice_get turns j ≡ Some t → t.place ≤ start

-- the flags are right of the symbols up to the next turn
is_next : (turns : List Turn) (width i : ℕ) (row : List Bool) (start next : ℕ) (d : Draft) → AreKept turns → IsSweeping turns width i row start d → ((j : ℕ) (t : Turn) → i ≤ j → slice_get turns j ≡ Some t → next ≤ t.place) → IsNext turns width row start next
is_next turns width i row start next d kept h after = record {
  wide = h.wide;
  long = h.long;
  flags = λ s lo hi c w. h.flags c w ∙ ap (λ n. odd n) (sym (passed c s lo hi));
  only = λ s lo hi t. let k = kept s t in here s lo hi k.0 k.1 k.2 k.3;
}
  where
    passed : (c s : ℕ) → start ≤ s → s < next → flips c s turns ≡ sum_by (of_class c) (take i turns)
    passed c s lo hi =
        ap (λ (ts : List Turn). flips c s ts) (sym (take-append-drop i turns)) ∙ sum_by-append (flip c s) (take i turns) (drop i turns)
        ∙ omega (
          arith,
          all_before c s (take i turns) (λ j t at. let g = get_take turns i j t at in omega (arith, h.before j t g.0 g.1)),
          all_after c s (drop i turns) (λ j t at. omega (arith, after (i + j) t (omega arith) (get_drop turns i j t at))),
        )

    here : (s : ℕ) → start ≤ s → s < next → (j : ℕ) (t : Turn) → slice_get turns j ≡ Some t → t.place ≡ s → s ≡ start
    here s lo hi j t at e = elim (below_or j i) [
      | inl l ↦ omega (arith, h.before j t l at)
      | inr l ↦ absurd (omega (arith, after j t l at))
    ]

-- later turns come no earlier
no_earlier : (turns : List Turn) (i j : ℕ) (t u : Turn) → IsNonDecreasingBy (λ x. x.place) turns → slice_get turns i ≡ Some t → slice_get turns j ≡ Some u → i ≤ j → t.place ≤ u.place
no_earlier turns i j t u s a b l =
    let first : get_or turns i t ≡ t = get_or_from_slice_get turns i t t a in
    let second : get_or turns j t ≡ u = get_or_from_slice_get turns j u t b in
    let h : (get_or turns i t).place ≤ (get_or turns j t).place = s i j t l (slice_get_within turns j u b) in
    omega (arith, h, ap (λ (x : Turn). x.place) first, ap (λ (x : Turn). x.place) second)

-- the flags after one more turn
turned_flags : (turns : List Turn) (width i : ℕ) (row new : List Bool) (t : Turn) → length row ≡ width → slice_get turns i ≡ Some t → IsTurned row new t → ((c : ℕ) → c < width → flag row c ≡ odd (sum_by (of_class c) (take i turns))) → (c : ℕ) → c < width → flag new c ≡ odd (sum_by (of_class c) (take (i + 1) turns))
turned_flags turns width i row new t l at h flags c w =
    h.flags c (omega arith) ∙ turn (is_of c t.class) (flag row c) (sum_by (of_class c) (take i turns)) (flags c w)
    ∙ ap (λ n. odd n) (sym (sum_by-append (of_class c) (take i turns) (t ∷ []) ∙ one_turn)) ∙ ap (λ (ts : List Turn). odd (sum_by (of_class c) ts)) (sym longer)
  where
    longer : take (i + 1) turns ≡ take i turns ++ t ∷ []
    longer = take_more turns i t (slice_get_within turns i t at) ∙ ap (λ (x : Turn). take i turns ++ x ∷ []) (get_or_from_slice_get turns i t t at)

    one_turn : sum_by (of_class c) (take i turns) + sum_by (of_class c) (t ∷ []) ≡ sum_by (of_class c) (take i turns) + (if is_of c t.class then 1 else 0)
    one_turn = omega (arith, sum_by-cons (of_class c) t [])

    turn : (b old : Bool) (n : ℕ) → old ≡ odd n → (if b then not old else old) ≡ odd (n + (if b then 1 else 0))
    turn true old n e = let z : n + 1 ≡ suc n = omega arith in rw z (ap (λ (x : Bool). not x) e)
    turn false old n e = let z : n + 0 ≡ n = omega arith in rw z e

below_more : (j i : ℕ) → j < suc i → (j < i) ⊎ (j ≡ i)
below_more zero zero h = inr refl
below_more (suc j) zero h = absurd (omega arith)
below_more zero (suc i) h = inl (omega arith)
below_more (suc j) (suc i) h = elim (below_more j i (omega arith)) [ inl a ↦ inl (omega arith) | inr b ↦ inr (omega arith) ]

pub stays : (turns : List Turn) (width i : ℕ) (row new : List Bool) (start : ℕ) (d : Draft) (t : Turn) → IsSweeping turns width i row start d → slice_get turns i ≡ Some t → t.place ≤ start → IsTurned row new t → IsSweeping turns width (i + 1) new start d
stays turns width i row new start d t h at l turn = record {
  wide = h.wide;
  drafted = h.drafted;
  long = turn.long ∙ h.long;
  flags = turned_flags turns width i row new t h.long at turn h.flags;
  before = λ j u lt e. elim (below_more j i (omega arith)) [
    | inl b ↦ h.before j u b e
    | inr s ↦ omega (arith, l, ap (λ (x : Turn). x.place) (same_turn t u (sym at ∙ ap (λ k. slice_get turns k) (sym s) ∙ e)))
  ];
}
  where
    same_turn : (x y : Turn) → Some x ≡ Some y → x ≡ y
    same_turn x y e = cc

pub moves : (turns : List Turn) (width i : ℕ) (row new : List Bool) (start : ℕ) (d e : Draft) (t : Turn) → IsNonDecreasingBy (λ x. x.place) turns → AreKept turns → IsSweeping turns width i row start d → slice_get turns i ≡ Some t → start ≤ t.place → IsPushed d e start row → IsTurned row new t → IsSweeping turns width (i + 1) new t.place e
moves turns width i row new start d e t sorted kept h at l p turn =
    let next = is_next turns width i row start t.place d kept h (λ j u le found. no_earlier turns i j t u sorted at found le) in
    stays turns width i row new t.place e t
    (record {
      wide = h.wide;
      drafted = pushed turns width d e row start t.place h.drafted next p;
      long = h.long;
      flags = h.flags;
      before = λ j u lt found. omega (arith, h.before j u lt found);
    })
    at (omega arith) turn

pub ends : (turns : List Turn) (width i : ℕ) (row : List Bool) (start : ℕ) (d e : Draft) → AreKept turns → IsSweeping turns width i row start d → length turns ≤ i → IsPushed d e start row → IsSwept width turns e
ends turns width i row start d e kept h l p = λ bound.
    pushed turns width d e row start (suc bound) h.drafted (is_next turns width i row start (suc bound) d kept h (λ j u le found. absurd (omega (arith, slice_get_within turns j u found)))) p

pub begun : (turns : List Turn) (width : ℕ) (row : List Bool) (d : Draft) → 0 < width → length row ≡ width → ((c : ℕ) → flag row c ≡ false) → d.stretches.items ≡ [] → d.rows.items ≡ [] → d.firsts.items ≡ [] → IsSweeping turns width 0 row 0 d
begun turns width row d w l f ts rs fs = record {
  wide = w;
  drafted = record {
    long = ap (λ (r : List Bool). length r) rs ∙ sym (ap (λ (r : List ℕ). width * length r) fs ∙ none);
    few = subst (λ (r : List ℕ). length r < 65535) (sym fs) (omega arith);
    begins = ap (λ (r : List Stretch). start_of r 0 0) ts;
    covered = subst (λ (r : List Stretch). (i : ℕ) (t : Stretch) → slice_get r i ≡ Some t → (s : ℕ) → t.start ≤ s → s < start_of r (suc i) 0 → IsAtomOf turns width d.rows.items d.firsts.items s t.atom) (sym ts) (λ i t at s lo hi. absurd (nothing t at));
  };
  long = l;
  flags = λ c h. f c;
  before = λ j t h at. absurd (omega arith);
}
  where
    none : width * 0 ≡ 0
    none = omega arith

    nothing : (t : Stretch) → None ≡ Some t → ⊥
    nothing t e = cc

-- the same, where the turn was read
pub stays_at : (turns : List Turn) (width i : ℕ) (row new : List Bool) (start : ℕ) (d : Draft) (t : Turn) → IsSweeping turns width i row start d → i < length turns → (get_or turns i t).place ≤ start → IsTurned row new (get_or turns i t) → IsSweeping turns width (i + 1) new start d
stays_at turns width i row new start d t h l p turn = stays turns width i row new start d (get_or turns i t) h (slice_get-get_or turns i t l) p turn

pub moves_at : (turns : List Turn) (width i : ℕ) (row new : List Bool) (start : ℕ) (d e : Draft) (t : Turn) → IsNonDecreasingBy (λ x. x.place) turns → AreKept turns → IsSweeping turns width i row start d → i < length turns → start ≤ (get_or turns i t).place → IsPushed d e start row → IsTurned row new (get_or turns i t) → IsSweeping turns width (i + 1) new (get_or turns i t).place e
moves_at turns width i row new start d e t sorted kept h l p pushed turn = moves turns width i row new start d e (get_or turns i t) sorted kept h (slice_get-get_or turns i t l) p pushed turn

-- a part of a list, cut by where it begins and ends
pub cut : (rows row : List Bool) (begin n k : ℕ) → begin ≡ k → take (begin + n - begin) (drop begin rows) ≡ row → take n (drop k rows) ≡ row
cut rows row begin n k e h =
    let long : begin + n - begin ≡ n = omega arith in
    subst (λ b. take n (drop b rows) ≡ row) e (subst (λ m. take m (drop begin rows) ≡ row) long h)
