-- What the map of marks says of the pairs that were found.
use Rattle.std.proofs.Common.{◌≡◌, ◌≢◌, ℕ, ◌+◌, ◌*◌, ◌/◌, ◌%◌, ◌^◌, ◌<◌, ◌≤◌, Bool, true, false, not, nat_eq, bit_and, List, [], ◌∷◌, ◌++◌, length, get_or, set, refl, sym, ap, subst, eqb-true, ◌∙◌, inl, inr, arith, slice_get, length-set, get_or-set_same, get_or-set_other}
use Rattle.std.proofs.Math.Nat.{mul-le-mul_right}
use Rattle.std.specs.Int.{bit_at}
use Rattle.std.specs.declared.option.Option.TheVariants.{Some}
use Rattle.std.specs.List.{Contains}
use Rattle.std.proofs.lemmas.Bool.{cases_eq, true≢false, true_from_ne_false}
use Rattle.std.proofs.lemmas.List.Elements.{Contains-append_left, Contains-push, All-push, All-contains, All-same, All-nil}
use Rattle.std.proofs.lemmas.Nat.Bits.{bit_at-zero}
use Rattle.std.proofs.lemmas.Option.{slice_get_within}
use Rattle.xs_class.proofs.Lists.{some_same, get_of, one_cell}
use Rattle.xs_auto.specs.Bits.{bit_of}
use Rattle.xs_auto.proofs.BitLemmas.{bit_there, with_bit, fresh_bit}
use Rattle.xs_coarse.specs.declared.pair.Pair.{Pair}
use Rattle.xs_coarse.specs.declared.found.Found.{Found}
use Rattle.xs_coarse.specs.Coarse.{Net}
use Rattle.xs_coarse.specs.Arcs.{IsFor}
use Rattle.xs_coarse.specs.Found.{HasPair, IsInside, IsMore, IsEmpty, Fits, pair_cell, pair}

-- the word of a pair's bit
pub cell_word : (h w a b n : ℕ) → a < h → b < w → h * w ≤ 64 * n → (a * w + b) / 64 < n
cell_word h w a b n la lb room =
    let m : (a + 1) * w ≤ h * w = mul-le-mul_right w (omega arith) in
    omega (arith, m)

-- a new pair is marked and added
pub fits_new : (f g : Found) (p : Pair) → Fits f → IsInside f.height f.width p → g.height ≡ f.height → g.width ≡ f.width → g.pairs.items ≡ f.pairs.items ++ p ∷ [] → g.words.items ≡ with_bit f.words.items (pair_cell f.width p) → Fits g
fits_new f g p h within eh ew ep es = record {
  room = rw (eh, ew, es, length-set) h.room;
  inside = rw (eh, ew, ep) (All-push (IsInside f.height f.width) f.pairs.items p h.inside within);
  known = λ c e. rw (ew, ep) (elim (cases_eq c (pair_cell f.width p)) [
    | inl same ↦ record { of = p; has = Contains-push f.pairs.items p; is = same }
    | inr ne ↦
        let low = cell_word f.height f.width p.first p.second (length f.words.items) within.first within.second h.room in
        let k = h.known c (sym (bit_there f.words.items (pair_cell f.width p) c low ne) ∙ (rw es at e)) in
        record { of = k.of; has = Contains-append_left f.pairs.items (p ∷ []) k.of k.has; is = k.is }
  ]);
}

-- a pair that is marked was found
pub found_marked : (f : Found) (a b : ℕ) → Fits f → b < f.width → bit_of f.words.items (a * f.width + b) ≡ true → HasPair f.pairs.items a b
found_marked f a b h l e =
    let k = h.known (a * f.width + b) e in
    let i = All-contains (IsInside f.height f.width) f.pairs.items k.of h.inside k.has in
    let s = one_cell f.width k.of.first k.of.second a b i.second l (sym k.is) in
    let same : k.of ≡ pair a b = λ j. record { first = s.0 j; second = s.1 j } in
    subst (λ (p : Pair). Contains f.pairs.items p) same k.has

-- a bit that the code does not find clear is set
pub marked_unless : (words : List ℕ) (c : ℕ) → (bit_and (get_or words (c / 64) 0 / 2 ^ (c % 64)) 1 ≡ 0 → ⊥) → bit_of words c ≡ true
marked_unless words c h = true_from_ne_false (bit_of words c) (λ e. h (eqb-true _ _ (fresh_bit (get_or words (c / 64) 0) (c % 64) ∙ ap not e)))

-- the cell is that of one of the pairs from place k on
pub record IsCellFrom (width : ℕ) (ps : List Pair) (k c : ℕ) : Type 0 where
  pub place : ℕ
  pub from : k ≤ place
  pub of : Pair
  pub at : slice_get ps place ≡ Some of
  pub is : c ≡ pair_cell width of

-- only cells of pairs from place k on are marked
abbrev pub AreMarkedFrom : ℕ → ℕ → List Pair → List ℕ → Type 0
AreMarkedFrom k width ps words = (c : ℕ) → bit_of words c ≡ true → IsCellFrom width ps k c

pub marked_from : (f : Found) → Fits f → AreMarkedFrom 0 f.width f.pairs.items f.words.items
marked_from f h c e =
    let k = h.known c e in
    let at = get_of f.pairs.items k.of k.has in
    record { place = at.0; from = omega arith; of = k.of; at = at.1; is = k.is }

-- in a word that was cleared no bit is set, and the others are as they were
bit_wiped : (words : List ℕ) (q c : ℕ) → q < length words → bit_of (set words q 0) c ≡ true → (c / 64 ≢ q) × (bit_of words c ≡ true)
bit_wiped words q c l e = elim (cases_eq (c / 64) q) [
  | inl same ↦
      let none : bit_of (set words q 0) c ≡ false = ap (λ i. nat_eq (bit_at (get_or (set words q 0) i 0) (c % 64)) 1) same ∙ ap (λ w. nat_eq (bit_at w (c % 64)) 1) (get_or-set_same words q 0 0 l) ∙ ap (λ b. nat_eq b 1) (bit_at-zero (c % 64)) in
      absurd (true≢false (sym e ∙ none))
  | inr ne ↦ (ne, sym (ap (λ w. nat_eq (bit_at w (c % 64)) 1) (get_or-set_other words q (c / 64) 0 0 ne)) ∙ e)
]

-- the word of the pair at place k was cleared
pub marked_more : (k width : ℕ) (ps : List Pair) (words : List ℕ) (p : Pair) → slice_get ps k ≡ Some p → pair_cell width p / 64 < length words → AreMarkedFrom k width ps words → AreMarkedFrom (k + 1) width ps (set words (pair_cell width p / 64) 0)
marked_more k width ps words p here low before c e =
    let old = bit_wiped words (pair_cell width p / 64) c low e in
    let i = before c old.1 in
    elim (cases_eq i.place k) [
      | inl same ↦
          let one : i.of ≡ p = some_same _ _ _ (rw same at i.at) here in
          absurd (old.0 (ap (λ x. x / 64) (i.is ∙ ap (pair_cell width) one)))
      | inr ne ↦ record { place = i.place; from = omega (arith, i.from); of = i.of; at = i.at; is = i.is }
    ]

-- no pair is left
pub marked_none : (k width : ℕ) (ps : List Pair) (words : List ℕ) → length ps ≤ k → AreMarkedFrom k width ps words → (c : ℕ) → bit_of words c ≡ false
marked_none k width ps words l marked c = false_unless (bit_of words c) (λ e.
    let i = marked c e in
    let within = slice_get_within ps i.place i.of i.at in
    omega (arith, i.from))
  where
    false_unless : (b : Bool) → (b ≡ true → ⊥) → b ≡ false
    false_unless true h = absurd (h refl)
    false_unless false h = refl

-- words of zeros have no bit set
pub blank_words : (words : List ℕ) → ((k : ℕ) → get_or words k 0 ≡ 0) → (c : ℕ) → bit_of words c ≡ false
blank_words words h c = rw (h (c / 64), bit_at-zero (c % 64)) refl

-- no pair, and no mark
pub fits_none : (f : Found) → f.height * f.width ≤ 64 * length f.words.items → f.pairs.items ≡ [] → ((c : ℕ) → bit_of f.words.items c ≡ false) → Fits f
fits_none f room none blank = record {
  room = room;
  inside = All-same (IsInside f.height f.width) f.pairs.items [] none (All-nil (IsInside f.height f.width));
  known = λ c e. absurd (true≢false (sym e ∙ blank c));
}

-- the states of a pair that was found are states of the two nets
pub found_inside : (m n : Net) (f g : Found) (k : ℕ) (p : Pair) → IsFor m n f → IsMore f g → k < length g.pairs.items → p ≡ get_or g.pairs.items k p → IsInside m.states n.states p
found_inside m n f g k p nets more l e =
    let i = subst (λ (q : Pair). IsInside g.height g.width q) (sym e) (more.fits.inside k p l) in
    record { first = omega (arith, i.first, more.height, nets.height); second = omega (arith, i.second, more.width, nets.width) }

-- the word of a pair that was found
pub found_word : (f : Found) (p : Pair) → Fits f → Contains f.pairs.items p → pair_cell f.width p / 64 < length f.words.items
found_word f p h has =
    let i = All-contains (IsInside f.height f.width) f.pairs.items p h.inside has in
    cell_word f.height f.width p.first p.second (length f.words.items) i.first i.second h.room

-- after all pairs were forgotten
pub fits_empty : (f g : Found) → Fits f → IsEmpty f g → Fits g
fits_empty f g h e = fits_none g (rw (e.height, e.width, e.room) h.room) e.pairs e.blank

-- and room was made for others
pub fits_room : (f : Found) (height width : ℕ) → height * width / 64 + 1 ≤ length f.words.items → f.height ≡ height → f.width ≡ width → f.pairs.items ≡ [] → ((c : ℕ) → bit_of f.words.items c ≡ false) → Fits f
fits_room f height width l eh ew none blank = fits_none f (rw (eh, ew) (omega arith)) none blank

-- where a search began
pub begun : (m n : Net) (f : Found) (h w : ℕ) (b : Bool) → b ≡ true → (b ≡ true → (f.height ≡ h) × (f.width ≡ w) × (f.pairs.items ≡ [])) → h ≤ m.states → w ≤ n.states → IsFor m n f
begun m n f h w b e ok eh ew = let k = ok e in record { height = omega (arith, k.0, eh); width = omega (arith, k.1, ew) }

pub more_for : (m n : Net) (f g : Found) → IsFor m n f → IsMore f g → IsFor m n g
more_for m n f g nets more = record { height = omega (arith, more.height, nets.height); width = omega (arith, more.width, nets.width) }
