-- A value read part by part.
use Rattle.std.proofs.Common.{◌≡◌, ◌⊎◌, inl, inr, ℕ, zero, suc, ◌≤◌, ◌<◌, List, [], ◌∷◌, ◌++◌, append-nil, append_assoc, length, Bool, true, false, not, ◌==◌, ◌&&◌, ◌||◌, if◌then◌else◌, Some, None, refl, sym, ◌∙◌, ap, subst, arith}
use Rattle.std.specs.declared.option.Option.{Option}
use Rattle.std.specs.Option.{option_map}
use Rattle.std.proofs.lemmas.Bool.Decides.{nat_tests}
use Rattle.xs_xml_laws.specs.Tables.{is_char, is_white}
use Rattle.xs_xml_laws.specs.Piece.{Bit, plain, ref, spelt_bit}
use Rattle.xs_xml_laws.specs.Reads.{value}
use Rattle.xs_xml_laws.specs.Scan.{span, bit_at, bits_at}
use Rattle.xs_xml_laws.proofs.Tags.{bit_long}
use Rattle.xs_xml_laws.proofs.TagSoundness.{bit_is}
use Rattle.xs_xml_laws.proofs.Reading.{white_cases}
use Rattle.xs_form.specs.declared.values.ValuePart.{ValuePart}
use Rattle.xs_form.specs.declared.values.ValuePart.TheVariants.{Written}
use Rattle.xs_form.specs.Values.{part_of, kept_part, part_symbols, is_return, is_written, all_written, is_kept, IsSoFar}
use Rattle.xs_class.proofs.Lists.{some_inj}
use Rattle.xs_class.proofs.Truth.{and_true, or_false, not_true}

pub so_far_begins : (q : ℕ) (text : List ℕ) → IsSoFar q text [] false true text
so_far_begins q text = record { fuel = length text; room = omega arith; value_is = refl; written_is = refl; rest_is = refl }

-- one part of a value
value_one : (cr : Bool) (b : Bit) (bs : List Bit) → value cr (b ∷ bs) ≡ part_symbols cr (part_of b) ++ value (is_return (part_of b)) bs
value_one cr (ref body) bs = refl
value_one cr (plain c) bs = by (c == 10 && cr) refl
  where
    no_return : (c == 10 && cr) ≡ true → (c == 13) ≡ false
    no_return is = grind (arith, nat_tests, is)

    by : (t : Bool) → (c == 10 && cr) ≡ t → (if t then value false bs else ((if is_white c then 32 else c) ∷ value (c == 13) bs)) ≡ (if t then [] else ((if is_white c then 32 else c) ∷ [])) ++ value (c == 13) bs
    by true is = rw (no_return is) refl
    by false is = refl

bits_one : (n q : ℕ) (rest more : List ℕ) (b : Bit) → bit_at q rest ≡ Some (b, more) → bits_at (suc n) q rest ≡ (b ∷ (bits_at n q more).0, (bits_at n q more).1)
bits_one n q rest more b is = rw is refl

bits_none : (n q : ℕ) (rest : List ℕ) → bit_at q rest ≡ None → bits_at n q rest ≡ ([], rest)
bits_none zero q rest is = refl
bits_none (suc n) q rest is = rw is refl

shorter : (q : ℕ) (rest more : List ℕ) (b : Bit) → bit_at q rest ≡ Some (b, more) → length more < length rest
shorter q rest more b is = let spells : rest ≡ spelt_bit b more = bit_is q rest (b, more) is in subst (λ (x : List ℕ). length more < length x) (sym spells) (bit_long b more)

so_far_fuel : (q : ℕ) (text word : List ℕ) (cr written : Bool) (rest more : List ℕ) (b : Bit) (fuel : ℕ) → length rest ≤ fuel → value false (bits_at (length text) q text).0 ≡ word ++ value cr (bits_at fuel q rest).0 → all_written (bits_at (length text) q text).0 ≡ (written && all_written (bits_at fuel q rest).0) → (bits_at (length text) q text).1 ≡ (bits_at fuel q rest).1 → bit_at q rest ≡ Some (b, more) → IsSoFar q text (word ++ part_symbols cr (part_of b)) (is_return (part_of b)) (written && is_written (part_of b)) more
so_far_fuel q text word cr written rest more b zero room v w r is = absurd (omega (arith, shorter q rest more b is))
so_far_fuel q text word cr written rest more b (suc n) room v w r is =
    let one = bits_one n q rest more b is in
    record {
      fuel = n;
      room = omega (arith, shorter q rest more b is);
      value_is = v ∙ ap (λ (x : List Bit × List ℕ). word ++ value cr x.0) one ∙ ap (λ (x : List ℕ). word ++ x) (value_one cr b (bits_at n q more).0) ∙ sym (append_assoc word (part_symbols cr (part_of b)) (value (is_return (part_of b)) (bits_at n q more).0));
      written_is = w ∙ ap (λ (x : List Bit × List ℕ). written && all_written x.0) one ∙ and_assoc written (is_written (part_of b)) (all_written (bits_at n q more).0);
      rest_is = r ∙ ap (λ (x : List Bit × List ℕ). x.1) one;
    }
  where
    and_assoc : (x y z : Bool) → (x && (y && z)) ≡ ((x && y) && z)
    and_assoc true y z = refl
    and_assoc false y z = refl

part_pair : (r s : ValuePart × List ℕ) → Some r ≡ Some s → (r.0 ≡ s.0) × (r.1 ≡ s.1)
part_pair r s is = let e : r ≡ s = some_inj r s is in (ap (λ (x : ValuePart × List ℕ). x.0) e, ap (λ (x : ValuePart × List ℕ). x.1) e)

pub so_far_more : (q : ℕ) (text word : List ℕ) (cr written : Bool) (rest more : List ℕ) (p : ValuePart) → IsSoFar q text word cr written rest → Some (p, more) ≡ option_map kept_part (bit_at q rest) → IsSoFar q text (word ++ part_symbols cr p) (is_return p) (written && is_written p) more
so_far_more q text word cr written rest more p so is = by (bit_at q rest) refl is
  where
    by : (o : Option (Bit × List ℕ)) → bit_at q rest ≡ o → Some (p, more) ≡ option_map kept_part o → IsSoFar q text (word ++ part_symbols cr p) (is_return p) (written && is_written p) more
    by None at h = absurd (cc)
    by (Some r) at h =
        let e = part_pair (p, more) (part_of r.0, r.1) h in
        let next = so_far_fuel q text word cr written rest r.1 r.0 so.fuel so.room so.value_is so.written_is so.rest_is at in
        subst (λ (x : List ℕ). IsSoFar q text (word ++ part_symbols cr p) (is_return p) (written && is_written p) x) (sym e.1) (subst (λ (x : ValuePart). IsSoFar q text (word ++ part_symbols cr x) (is_return x) (written && is_written x) r.1) (sym e.0) next)

pub part_shorter : (q : ℕ) (rest more : List ℕ) (p : ValuePart) → Some (p, more) ≡ option_map kept_part (bit_at q rest) → length more < length rest
part_shorter q rest more p is = by (bit_at q rest) refl is
  where
    by : (o : Option (Bit × List ℕ)) → bit_at q rest ≡ o → Some (p, more) ≡ option_map kept_part o → length more < length rest
    by None at h = absurd (cc)
    by (Some r) at h = let e = part_pair (p, more) (part_of r.0, r.1) h in subst (λ (x : List ℕ). length x < length rest) (sym e.1) (shorter q rest r.1 r.0 at)

-- no part is left
pub so_far_ends : (q : ℕ) (text word : List ℕ) (cr written : Bool) (rest : List ℕ) → IsSoFar q text word cr written rest → None ≡ option_map kept_part (bit_at q rest) → (word ≡ value false (bits_at (length text) q text).0) × (written ≡ all_written (bits_at (length text) q text).0) × (rest ≡ (bits_at (length text) q text).1)
so_far_ends q text word cr written rest so is = by (bit_at q rest) refl is
  where
    and_true_right : (x : Bool) → (x && true) ≡ x
    and_true_right true = refl
    and_true_right false = refl

    by : (o : Option (Bit × List ℕ)) → bit_at q rest ≡ o → None ≡ option_map kept_part o → (word ≡ value false (bits_at (length text) q text).0) × (written ≡ all_written (bits_at (length text) q text).0) × (rest ≡ (bits_at (length text) q text).1)
    by (Some r) at h = absurd (cc)
    by None at h =
        let none = bits_none so.fuel q rest at in (
          sym (so.value_is ∙ ap (λ (x : List Bit × List ℕ). word ++ value cr x.0) none ∙ append-nil word),
          sym (so.written_is ∙ ap (λ (x : List Bit × List ℕ). written && all_written x.0) none ∙ and_true_right written),
          sym (so.rest_is ∙ ap (λ (x : List Bit × List ℕ). x.1) none),
        )

-- a run of characters that stand for themselves
pub kept_letter : (q c : ℕ) → (c == q) ≡ false → 60 < c → c < 55296 → true ≡ is_kept q c
unfolding is_char
kept_letter q c other above below = rw other (grind (arith, nat_tests))

record IsKept (q c : ℕ) : Type 0 where
  char : is_char c ≡ true
  other : (c == q) ≡ false
  no_tag : (c == 60) ≡ false
  no_reference : (c == 38) ≡ false
  no_tab : (c == 9) ≡ false
  no_feed : (c == 10) ≡ false
  no_return : (c == 13) ≡ false

kept_parts : (q c : ℕ) → is_kept q c ≡ true → IsKept q c
kept_parts q c is =
    let o = and_true (not (c == q)) (is_char c && not (c == 60 || (c == 38 || (c == 9 || (c == 10 || c == 13))))) is in
    let p = and_true (is_char c) (not (c == 60 || (c == 38 || (c == 9 || (c == 10 || c == 13))))) o.1 in
    let a = or_false (c == 60) (c == 38 || (c == 9 || (c == 10 || c == 13))) (not_true (c == 60 || (c == 38 || (c == 9 || (c == 10 || c == 13)))) p.1) in
    let b = or_false (c == 38) (c == 9 || (c == 10 || c == 13)) a.1 in
    let d = or_false (c == 9) (c == 10 || c == 13) b.1 in
    let e = or_false (c == 10) (c == 13) d.1 in
    record { char = p.0; other = not_true (c == q) o.0; no_tag = a.0; no_reference = b.0; no_tab = d.0; no_feed = e.0; no_return = e.1 }

kept_at : (q c : ℕ) (cs : List ℕ) → IsKept q c → Some (Written c, cs) ≡ option_map kept_part (bit_at q (c ∷ cs))
kept_at q c cs is = rw (is.no_reference, is.char, is.no_tag, is.other) refl

kept_symbol : (q c : ℕ) → IsKept q c → part_symbols false (Written c) ≡ c ∷ []
kept_symbol q c is = rw (is.no_feed) (ap (λ (x : ℕ). x ∷ []) (by (is_white c) refl))
  where
    of : ((c ≡ 9) ⊎ (c ≡ 10)) ⊎ ((c ≡ 13) ⊎ (c ≡ 32)) → 32 ≡ c
    of (inl (inl e)) = absurd (grind (arith, nat_tests, is.no_tab, e))
    of (inl (inr e)) = absurd (grind (arith, nat_tests, is.no_feed, e))
    of (inr (inl e)) = absurd (grind (arith, nat_tests, is.no_return, e))
    of (inr (inr e)) = sym e

    by : (t : Bool) → is_white c ≡ t → (if t then 32 else c) ≡ c
    by true e = of (white_cases c e)
    by false e = refl

module _ (q : ℕ) (text : List ℕ) where
  one_kept : (c : ℕ) (cs w : List ℕ) → is_kept q c ≡ true → IsSoFar q text w false true (c ∷ cs) → IsSoFar q text (w ++ c ∷ []) false true cs
  one_kept c cs w is so =
      let k = kept_parts q c is in
      let next = so_far_more q text w false true (c ∷ cs) cs (Written c) so (kept_at q c cs k) in
      let here : IsSoFar q text (w ++ part_symbols false (Written c)) false true cs = subst (λ (t : Bool). IsSoFar q text (w ++ part_symbols false (Written c)) t true cs) k.no_return next in
      subst (λ (x : List ℕ). IsSoFar q text (w ++ x) false true cs) (kept_symbol q c k) here

  pub kept_run : (rest w : List ℕ) → IsSoFar q text w false true rest → IsSoFar q text (w ++ (span (is_kept q) rest).0) false true (span (is_kept q) rest).1
  kept_run [] w so = subst (λ (x : List ℕ). IsSoFar q text x false true []) (sym (append-nil w)) so
  kept_run (c ∷ cs) w so = by (is_kept q c) refl (λ (next : IsSoFar q text (w ++ c ∷ []) false true cs). kept_run cs (w ++ c ∷ []) next)
    where
      by : (t : Bool) → is_kept q c ≡ t → (IsSoFar q text (w ++ c ∷ []) false true cs → IsSoFar q text ((w ++ c ∷ []) ++ (span (is_kept q) cs).0) false true (span (is_kept q) cs).1) → IsSoFar q text (w ++ (if◌then◌else◌ {A = List ℕ × List ℕ} t (c ∷ (span (is_kept q) cs).0, (span (is_kept q) cs).1) ([], c ∷ cs)).0) false true (if◌then◌else◌ {A = List ℕ × List ℕ} t (c ∷ (span (is_kept q) cs).0, (span (is_kept q) cs).1) ([], c ∷ cs)).1
      by true is again = subst (λ (x : List ℕ). IsSoFar q text x false true (span (is_kept q) cs).1) (append_assoc w (c ∷ []) (span (is_kept q) cs).0) (again (one_kept c cs w is so))
      by false is again = subst (λ (x : List ℕ). IsSoFar q text x false true (c ∷ cs)) (sym (append-nil w)) so

pub run_so_far : (q : ℕ) (text run rest : List ℕ) → (run, rest) ≡ span (is_kept q) text → IsSoFar q text run false true rest
run_so_far q text run rest is = subst (λ (r : List ℕ × List ℕ). IsSoFar q text r.0 false true r.1) (sym is) (kept_run q text text [] (so_far_begins q text))
