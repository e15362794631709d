-- Lines that stand between places, and what comes at a place.
use Rattle.std.proofs.Common.{◌≡◌, ◌⊎◌, inl, inr, ℕ, ◌+◌, ◌≤◌, List, [], ◌∷◌, ◌++◌, length, drop, refl, sym, ap, ◌∙◌, arith, append_assoc, length-append, length-drop}
use Rattle.std.proofs.lemmas.List.{append_cancel_left}
use Rattle.xs_cert_lines.specs.Lines.{Lines, ended, written}
use Rattle.xs_cert_lines.specs.Runs.{GoesOn, IsFrom}
use Rattle.xs_cert.specs.declared.place.Place.{Place}
use Rattle.xs_cert.specs.Places.{IsPlace, IsPast, Stand}
use Rattle.xs_cert.specs.Ways.{Ahead, LeadsTo, EndsBy, AfterLine}

pub written-append : (xs ys : Lines) → written (xs ++ ys) ≡ written xs ++ written ys
written-append [] ys = refl
written-append (x ∷ xs) ys = ap (λ (z : List ℕ). ended x ++ z) (written-append xs ys) ∙ sym (append_assoc (ended x) (written xs) (written ys))

-- a line is a byte at least
pub lines_short : (xs : Lines) → length xs ≤ length (written xs)
lines_short [] = omega arith
lines_short (x ∷ xs) = omega (arith, lines_short xs, length-append (ended x) (written xs), length-append x (10 ∷ []))

-- where lines are followed by others, with what follows those
pub joined : (xs ys : Lines) (rest : List ℕ) → written (xs ++ ys) ++ rest ≡ written xs ++ (written ys ++ rest)
joined xs ys rest = ap (λ (z : List ℕ). z ++ rest) (written-append xs ys) ∙ append_assoc (written xs) (written ys) rest

pub goes_first : {xs : List ℕ} (ls ks : Lines) → GoesOn xs (written (ls ++ ks)) → GoesOn xs (written ls)
goes_first ls ks h = record { rest = written ks ++ h.rest; is = h.is ∙ joined ls ks h.rest }

module _ {bytes : List ℕ} where
  pub from_none : (a : ℕ) → a ≤ length bytes → IsFrom bytes a a []
  from_none a h = record { order = omega arith; within = h; is = refl }

  pub from_end : {a b : ℕ} {ls : Lines} → IsFrom bytes a b ls → b ≡ a + length (written ls)
  from_end {a} {b} {ls} f = omega (arith, ap length f.is, length-append (written ls) (drop b bytes), length-drop a bytes, length-drop b bytes, f.order, f.within)

  pub from_then : {a b c : ℕ} {ls ks : Lines} → IsFrom bytes a b ls → IsFrom bytes b c ks → IsFrom bytes a c (ls ++ ks)
  from_then {a} {b} {c} {ls} {ks} f h = record {
    order = omega (arith, f.order, h.order);
    within = h.within;
    is = f.is ∙ ap (λ (z : List ℕ). written ls ++ z) h.is ∙ sym (joined ls ks (drop c bytes));
  }

  -- past lines comes what follows them
  pub from_ahead : {a b : ℕ} {ls : Lines} → IsFrom bytes a b ls → (ks : Lines) (rest : List ℕ) → drop a bytes ≡ written (ls ++ ks) ++ rest → drop b bytes ≡ written ks ++ rest
  from_ahead {a} {b} {ls} f ks rest e = append_cancel_left (written ls) (drop b bytes) (written ks ++ rest) (sym f.is ∙ e ∙ joined ls ks rest)

  pub goes_from : {a b : ℕ} {ls : Lines} → IsFrom bytes a b ls → GoesOn (drop a bytes) (written ls)
  goes_from {a} {b} f = record { rest = drop b bytes; is = f.is }

  pub goes_after : {a b : ℕ} {ls : Lines} (ks : Lines) → IsFrom bytes a b ls → GoesOn (drop b bytes) (written ks) → GoesOn (drop a bytes) (written (ls ++ ks))
  goes_after {a} {b} {ls} ks f h = record { rest = h.rest; is = f.is ∙ ap (λ (z : List ℕ). written ls ++ z) h.is ∙ sym (joined ls ks h.rest) }

  pub goes_past : {a b : ℕ} {ls : Lines} (ks : Lines) → IsFrom bytes a b ls → GoesOn (drop a bytes) (written (ls ++ ks)) → GoesOn (drop b bytes) (written ks)
  goes_past ks f h = record { rest = h.rest; is = from_ahead f ks h.rest h.is }

  pub past_none : (p : Place) → p.byte ≤ length bytes → IsPast bytes p [] p
  past_none p h = record { from = from_none p.byte h; count = omega arith }

  pub past_then : {p q r : Place} {ls ks : Lines} → IsPast bytes p ls q → IsPast bytes q ks r → IsPast bytes p (ls ++ ks) r
  past_then {ls = ls} {ks = ks} f h = record { from = from_then f.from h.from; count = omega (arith, f.count, h.count, length-append ls ks) }

  pub place_past : {p q : Place} {ls : Lines} → IsPlace bytes p → IsPast bytes p ls q → IsPlace bytes q
  place_past {ls = ls} p f = record { within = f.from.within; lines = omega (arith, p.lines, f.count, from_end f.from, lines_short ls) }

  -- so many lines do not stand there that their number does not fit
  pub stand_short : (p : Place) (ls : Lines) → IsPlace bytes p → Stand bytes p ls → p.lines + length ls ≤ length bytes
  stand_short p ls h s = omega (arith, h.within, h.lines, lines_short ls, ap length s.is, length-append (written ls) s.rest, length-drop p.byte bytes)

  -- what leads on, in turn
  pub leads_then : (p q r : Place) (U V W : Lines → List ℕ → ℕ → Type 0) → LeadsTo bytes p U q V → LeadsTo bytes q V r W → q.lines ≤ r.lines → LeadsTo bytes p U r W
  leads_then p q r U V W a b le j h = elim (a j h) [
    | inl x ↦ inl (omega (arith, x, le))
    | inr x ↦ elim (b x.0 x.2) [ inl y ↦ inl (omega (arith, x.1, y)) | inr y ↦ inr (y.0, x.1 ∙ y.1, y.2) ]
  ]

  pub leads_ends : (p q : Place) (U V : Lines → List ℕ → ℕ → Type 0) (most : ℕ) → LeadsTo bytes p U q V → EndsBy bytes q V most → q.lines ≤ most → EndsBy bytes p U most
  leads_ends p q U V most a b le j h = elim (a j h) [
    | inl x ↦ omega (arith, x, le)
    | inr x ↦ omega (arith, x.1, b x.0 x.2)
  ]

  -- a line that stands there leads on to what comes after it
  pub line_leads : (p q : Place) (line : List ℕ) (W : Lines → List ℕ → ℕ → Type 0) → IsPast bytes p (line ∷ []) q → LeadsTo bytes p (AfterLine line W) q W
  line_leads p q line W f j h = by_way h.way
    where
      by_way : AfterLine line W h.lines h.rest j → (p.lines + j ≤ q.lines) ⊎ ((i : ℕ) × (p.lines + j ≡ q.lines + i) × Ahead bytes q.byte W i)
      by_way (inl x) = inl (omega (arith, x.1, f.count))
      by_way (inr x) = inr (x.count, omega (arith, x.counts, f.count), record { lines = x.later; rest = h.rest; way = x.way; is = from_ahead f.from x.later h.rest (h.is ∙ ap (λ (z : Lines). written z ++ h.rest) x.is) })

  -- where it does not, nothing comes
  pub line_ends : (p : Place) (line : List ℕ) (W : Lines → List ℕ → ℕ → Type 0) → (GoesOn (drop p.byte bytes) (ended line) → ⊥) → EndsBy bytes p (AfterLine line W) p.lines
  line_ends p line W none j h = by_way h.way
    where
      by_way : AfterLine line W h.lines h.rest j → p.lines + j ≤ p.lines
      by_way (inl x) = omega (arith, x.1)
      by_way (inr x) = absurd (none (record { rest = written x.later ++ h.rest; is = h.is ∙ ap (λ (z : Lines). written z ++ h.rest) x.is ∙ append_assoc (ended line) (written x.later) h.rest }))
