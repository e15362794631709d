-- Pages of cells, and the atom that they have for a symbol.
use Rattle.std.proofs.Common.{◌≡◌, ◌∙◌, ◌⊎◌, ℕ, zero, suc, ◌+◌, ◌-◌, ◌*◌, ◌/◌, ◌%◌, ◌<◌, ◌≤◌, List, [], ◌∷◌, ◌++◌, length, get_or, set, replicate, Some, None, refl, sym, ap, subst, inl, inr, arith, append_assoc, length-append}
use Rattle.std.proofs.Math.ListN.{get_or-append}
use Rattle.std.proofs.Math.Seq.{get_or-append_seam}
use Rattle.std.proofs.lemmas.List.{get_or-append-add, get_or-replicate}
use Rattle.std.proofs.lemmas.Option.{get_or_from_slice_get, slice_get_within, slice_get-get_or}
use Rattle.std.specs.Prelude.{slice_get, Option}
use Rattle.xs_atoms.specs.declared.sweep.Stretch.{Stretch}
use Rattle.xs_atoms.specs.Pages.{IsIn, IsAtomIn, IsPage, IsSame, AreWhole, ArePages, IsLonger, cell_of}
use Rattle.xs_atoms.proofs.Rows.{get_push}
use Rattle.xs_atoms.proofs.Turning.{below_or}

pub atom_in : (stretches : List Stretch) (at s cell : ℕ) (d : Stretch) → IsIn stretches at s → cell ≡ (get_or stretches at d).atom → IsAtomIn stretches s cell
atom_in stretches at s cell d i e = record {
  number = at;
  in_stretch = i;
  same = e ∙ ap (λ (t : Stretch). t.atom) (get_or_from_slice_get stretches at i.stretch d i.there);
}

pub in_stretch : (stretches : List Stretch) (at s : ℕ) → at < length stretches → ((t : Stretch) → slice_get stretches at ≡ Some t → t.start ≤ s) → ((next : Stretch) → slice_get stretches (suc at) ≡ Some next → s < next.start) → IsIn stretches at s
in_stretch stretches at s l begun before = found stretches at s l begun before
  where
    found : (stretches : List Stretch) (at s : ℕ) → at < length stretches → ((t : Stretch) → slice_get stretches at ≡ Some t → t.start ≤ s) → ((next : Stretch) → slice_get stretches (suc at) ≡ Some next → s < next.start) → IsIn stretches at s
    found stretches at s l begun before =
        let t = there stretches at l in
        record { stretch = t.0; there = t.1; begun = begun t.0 t.1; before = before }
      where
        there : (xs : List Stretch) (i : ℕ) → i < length xs → (t : Stretch) × (slice_get xs i ≡ Some t)
        there [] i h = absurd (omega arith)
        there (x ∷ xs) zero h = (x, refl)
        there (x ∷ xs) (suc i) h = there xs i (omega arith)

-- what is before is before the next stretch, whose start was read
pub before_next : (stretches : List Stretch) (at s : ℕ) (d next : Stretch) → s < (get_or stretches (at + 1) d).start → slice_get stretches (suc at) ≡ Some next → s < next.start
before_next stretches at s d next h e =
    let one : at + 1 ≡ suc at = omega arith in
    let is : get_or stretches (at + 1) d ≡ next = ap (λ i. get_or stretches i d) one ∙ get_or_from_slice_get stretches (suc at) next d e in
    subst (λ (t : Stretch). s < t.start) is h

kept : (cells more : List ℕ) (k d : ℕ) → k < length cells → get_or (cells ++ more) k d ≡ get_or cells k d
kept cells more k d h = get_or-append cells more d k h

pub page_stays : (stretches : List Stretch) (cells new : List ℕ) (first begin : ℕ) → IsPage stretches cells first begin → IsLonger cells new → IsPage stretches new first begin
page_stays stretches cells new first begin p l = subst (λ (c : List ℕ). IsPage stretches c first begin) (sym l.1) (record {
  within = omega (arith, p.within, length-append cells l.0);
  atoms = λ low h. subst (λ k. IsAtomIn stretches (begin + low) k) (sym (kept cells l.0 (first + low) 0 (omega (arith, p.within)))) (p.atoms low h);
})

same_stays : (cells new : List ℕ) (first atom : ℕ) → IsSame cells first atom → IsLonger cells new → IsSame new first atom
same_stays cells new first atom s l = subst (λ (c : List ℕ). IsSame c first atom) (sym l.1) (record {
  within = omega (arith, s.within, length-append cells l.0);
  atoms = λ low h. kept cells l.0 (first + low) 0 (omega (arith, s.within)) ∙ s.atoms low h;
})

pub whole_stays : (cells new : List ℕ) (whole : List (Option ℕ)) → AreWhole cells whole → IsLonger cells new → AreWhole new whole
whole_stays cells new whole w l atom first e = same_stays cells new first atom (w atom first e) l

pub pages_stay : (stretches : List Stretch) (cells new pages : List ℕ) → ArePages stretches cells pages → IsLonger cells new → ArePages stretches new pages
pages_stay stretches cells new pages p l q first e = page_stays stretches cells new first (q * 256) (p q first e) l

-- a page of one atom
pub page_of_same : (stretches : List Stretch) (cells : List ℕ) (first begin at atom : ℕ) (d : Stretch) → IsSame cells first atom → atom ≡ (get_or stretches at d).atom → ((low : ℕ) → low < 256 → IsIn stretches at (begin + low)) → IsPage stretches cells first begin
page_of_same stretches cells first begin at atom d s e inside = record {
  within = s.within;
  atoms = λ low h. atom_in stretches at (begin + low) (get_or cells (first + low) 0) d (inside low h) (s.atoms low h ∙ e);
}

get_set : (xs : List (Option ℕ)) (i : ℕ) (v x : Option ℕ) (j : ℕ) → slice_get (set xs i v) j ≡ Some x → ((j ≡ i) × (v ≡ x)) ⊎ (slice_get xs j ≡ Some x)
get_set [] i v x j e = inr e
get_set (y ∷ xs) zero v x zero e = inl (refl, cc)
get_set (y ∷ xs) zero v x (suc j) e = inr e
get_set (y ∷ xs) (suc i) v x zero e = inr e
get_set (y ∷ xs) (suc i) v x (suc j) e = elim (get_set xs i v x j e) [
  | inl h ↦ inl (omega (arith, h.0), h.1)
  | inr h ↦ inr h
]

pub whole_set : (cells : List ℕ) (whole : List (Option ℕ)) (atom first : ℕ) → AreWhole cells whole → IsSame cells first atom → AreWhole cells (set whole atom (Some first))
whole_set cells whole atom first w s a f e = elim (get_set whole atom (Some first) (Some f) a e) [
  | inl h ↦ let same : first ≡ f = of_some first f h.1 in subst (λ x. IsSame cells x a) same (subst (λ x. IsSame cells first x) (sym h.0) s)
  | inr h ↦ w a f h
]
  where
    of_some : (x y : ℕ) → Some x ≡ Some y → x ≡ y
    of_some x y e = cc

pub whole_none : (cells : List ℕ) (n : ℕ) → AreWhole cells (replicate n None)
whole_none cells n atom first e = absurd (nowhere n atom e)
  where
    nowhere : (n k : ℕ) → slice_get (replicate n None) k ≡ Some (Some first) → ⊥
    nowhere zero k e = cc
    nowhere (suc n) zero e = cc
    nowhere (suc n) (suc k) e = nowhere n k e

-- a page that was filled
pub page_filled : (stretches : List Stretch) (cells more new : List ℕ) (begin : ℕ) → length more ≡ 256 → new ≡ cells ++ more → ((k : ℕ) → k < 256 → IsAtomIn stretches (begin + k) (get_or new (length cells + k) 0)) → IsPage stretches new (length cells) begin
page_filled stretches cells more new begin l e h = record {
  within = omega (arith, ap (λ (c : List ℕ). length c) e, length-append cells more);
  atoms = h;
}

pub same_filled : (cells new : List ℕ) (atom : ℕ) → new ≡ cells ++ replicate 256 atom → IsSame new (length cells) atom
same_filled cells new atom e = subst (λ (c : List ℕ). IsSame c (length cells) atom) (sym e) (filled 256 refl)
  where
    filled : (n : ℕ) → n ≡ 256 → IsSame (cells ++ replicate n atom) (length cells) atom
    filled n e = record {
      within = omega (arith, length-append cells (replicate n atom), length_same n);
      atoms = λ low h. get_or-append-add cells (replicate n atom) low 0 ∙ get_or-replicate n low atom 0 (omega arith);
    }
      where
        length_same : (n : ℕ) → length (replicate n atom) ≡ n
        length_same zero = refl
        length_same (suc n) = omega (arith, length_same n)

-- the atom that the whole table has for a symbol
pub table_has : (stretches : List Stretch) (cells pages : List ℕ) (count rest : ℕ) (d : Stretch) → 0 < length stretches → length pages ≡ count → (get_or stretches (length stretches - 1) d).start / 256 + 1 ≡ count → rest ≡ (get_or stretches (length stretches - 1) d).atom → ArePages stretches cells pages → (s : ℕ) → IsAtomIn stretches s (cell_of cells rest (s % 256) (slice_get pages (s / 256)))
table_has stretches cells pages count rest d some l c r p s = by_page (slice_get pages (s / 256)) refl
  where
    by_page : (o : Option ℕ) → slice_get pages (s / 256) ≡ o → IsAtomIn stretches s (cell_of cells rest (s % 256) o)
    by_page None e =
        let past : length pages ≤ s / 256 = none_past pages (s / 256) e in
        let last : (get_or stretches (length stretches - 1) d).start < s = omega arith in
        atom_in stretches (length stretches - 1) s rest d
        (in_stretch stretches (length stretches - 1) s (omega arith)
        (λ t at. let is : get_or stretches (length stretches - 1) d ≡ t = get_or_from_slice_get stretches (length stretches - 1) t d at in omega (arith, last, ap (λ (x : Stretch). x.start) is))
        (λ next at. absurd (omega (arith, slice_get_within stretches (suc (length stretches - 1)) next at))))
        r
      where
        none_past : (xs : List ℕ) (i : ℕ) → slice_get xs i ≡ None → length xs ≤ i
        none_past [] i e = omega arith
        none_past (x ∷ xs) zero e = cc
        none_past (x ∷ xs) (suc i) e = omega (arith, none_past xs i e)
    by_page (Some first) e =
        let page = p (s / 256) first e in
        let low : s % 256 < 256 = omega arith in
        let whole : s / 256 * 256 + s % 256 ≡ s = omega arith in
        let at = subst (λ k. IsAtomIn stretches k (get_or cells (first + s % 256) 0)) whole (page.atoms (s % 256) low) in
        subst (λ k. IsAtomIn stretches s k) (any_default cells (first + s % 256) 0 rest (omega (arith, page.within, low))) at
      where
        any_default : (xs : List ℕ) (i a b : ℕ) → i < length xs → get_or xs i a ≡ get_or xs i b
        any_default [] i a b h = absurd (omega arith)
        any_default (x ∷ xs) zero a b h = refl
        any_default (x ∷ xs) (suc i) a b h = any_default xs i a b (omega arith)

pub in_facts : (stretches : List Stretch) (at s : ℕ) → IsIn stretches at s → (at < length stretches) × ((t : Stretch) → slice_get stretches at ≡ Some t → t.start ≤ s)
in_facts stretches at s i = (
  slice_get_within stretches at i.stretch i.there,
  λ t e. let same : i.stretch ≡ t = of_some i.stretch t (sym i.there ∙ e) in omega (arith, i.begun, ap (λ (x : Stretch). x.start) same),
)
  where
    of_some : (x y : Stretch) → Some x ≡ Some y → x ≡ y
    of_some x y e = cc

-- one more cell
pub cells_more : (stretches : List Stretch) (old cells new more : List ℕ) (begin low at x : ℕ) (d : Stretch) → length more ≡ low → cells ≡ old ++ more → new ≡ cells ++ x ∷ [] → ((k : ℕ) → k < low → IsAtomIn stretches (begin + k) (get_or cells (length old + k) 0)) → IsIn stretches at (begin + low) → x ≡ (get_or stretches at d).atom → ((m : List ℕ) × (length m ≡ low + 1) × (new ≡ old ++ m)) × ((k : ℕ) → k < low + 1 → IsAtomIn stretches (begin + k) (get_or new (length old + k) 0))
cells_more stretches old cells new more begin low at x d len e f before i same = (
  (more ++ x ∷ [], omega (arith, len, length-append more (x ∷ [])), f ∙ ap (λ (c : List ℕ). c ++ x ∷ []) e ∙ append_assoc old more (x ∷ [])),
  λ k h. elim (below_or k low) [
    | inl below ↦
        let kept_cell : get_or new (length old + k) 0 ≡ get_or cells (length old + k) 0 = ap (λ (c : List ℕ). get_or c (length old + k) 0) f ∙ kept cells (x ∷ []) (length old + k) 0 (omega (arith, long)) in
        subst (λ y. IsAtomIn stretches (begin + k) y) (sym kept_cell) (before k below)
    | inr last ↦
        let here : get_or new (length old + k) 0 ≡ x = ap (λ (c : List ℕ). get_or c (length old + k) 0) f ∙ ap (λ n. get_or (cells ++ x ∷ []) n 0) (omega (arith, long)) ∙ get_or-append_seam cells x [] 0 in
        let k_is : begin + low ≡ begin + k = omega arith in
        subst (λ y. IsAtomIn stretches (begin + k) y) (sym here) (subst (λ s. IsAtomIn stretches s x) k_is (atom_in stretches at (begin + low) x d i same))
  ],
)
  where
    long : length cells ≡ length old + low
    long = omega (arith, ap (λ (c : List ℕ). length c) e, length-append old more, len)

pub whole_is : (cells : List ℕ) (whole : List (Option ℕ)) (atom before : ℕ) (d : Option ℕ) → AreWhole cells whole → atom < length whole → get_or whole atom d ≡ Some before → IsSame cells before atom
whole_is cells whole atom before d w l e = w atom before (slice_get-get_or whole atom d l ∙ ap (λ (o : Option ℕ). Some o) e)

pub pages_more : (stretches : List Stretch) (cells new pages more : List ℕ) (first number : ℕ) → ArePages stretches cells pages → IsLonger cells new → length pages ≡ number → IsPage stretches new first (number * 256) → more ≡ pages ++ first ∷ [] → ArePages stretches new more
pages_more stretches cells new pages more first number p l len page e q f at = elim (get_push pages first f q (sym (ap (λ (x : List ℕ). slice_get x q) e) ∙ at)) [
  | inl old ↦ page_stays stretches cells new f (q * 256) (p q f old.1) l
  | inr here ↦
      let same : q ≡ number = here.0 ∙ len in
      subst (λ k. IsPage stretches new f (k * 256)) (sym same) (subst (λ k. IsPage stretches new k (number * 256)) here.1 page)
]

pub page_at : (stretches : List Stretch) (cells : List ℕ) (first n begin : ℕ) → first ≡ n → IsPage stretches cells n begin → IsPage stretches cells first begin
page_at stretches cells first n begin e p = subst (λ k. IsPage stretches cells k begin) (sym e) p

pub same_at : (cells : List ℕ) (first n atom : ℕ) → first ≡ n → IsSame cells n atom → IsSame cells first atom
same_at cells first n atom e s = subst (λ k. IsSame cells k atom) (sym e) s
