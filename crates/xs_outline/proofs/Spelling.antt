-- A text spells one line at most.
use Rattle.std.proofs.Common.{◌≡◌, ◌≢◌, ℕ, suc, ◌<◌, List, [], ◌∷◌, ◌++◌, refl, sym, ◌∙◌, ap, subst, arith, Some}
use Rattle.std.specs.Char.{digit_value}
use Rattle.std.specs.Str.Parse.{AllDigits, digits_value}
use Rattle.xs_lex.specs.declared.quoted.Spot.TheVariants.{Between}
use Rattle.xs_lex.specs.Units.{spelt_quoted}
use Rattle.xs_lex.specs.Spelling.{IsQuoted}
use Rattle.xs_lex.specs.Scan.{value_at}
use Rattle.xs_lex.proofs.QuotedLaws.{value_read}
use Rattle.xs_outline.specs.Lines.{Entry, production, leaf_word, Line, line, Lacks, IsNumeral, SpellsEntry, SpellsLine, AreSpelt}

-- a character that is no digit is not among digits
digit_other : (c d : ℕ) → digit_value c ≡ 36 → digit_value d < 10 → d ≢ c
digit_other c d none lt e = let bad : digit_value c < 10 = subst (λ z. digit_value z < 10) e lt in absurd (omega (arith, none, bad))

pub digits_lack_other : (c : ℕ) → digit_value c ≡ 36 → (ds : List ℕ) → AllDigits 10 ds → Lacks c ds
digits_lack_other c none [] all = tt
digits_lack_other c none (d ∷ ds) all = (digit_other c d none all.0, digits_lack_other c none ds all.1)

pub digits_lack : (ds : List ℕ) → AllDigits 10 ds → Lacks 32 ds
digits_lack ds all = digits_lack_other 32 refl ds all

pub first_same : (x y : ℕ) (xs ys : List ℕ) → x ∷ xs ≡ y ∷ ys → (x ≡ y) × (xs ≡ ys)
first_same x y xs ys e = (cc, cc)

-- what stands before the first of a symbol, and after it
pub same_cut : (c : ℕ) (a b x y : List ℕ) → Lacks c a → Lacks c b → a ++ c ∷ x ≡ b ++ c ∷ y → (a ≡ b) × (x ≡ y)
same_cut c [] [] x y la lb e = (refl, (first_same c c x y e).1)
same_cut c [] (m ∷ b) x y la lb e = absurd (lb.0 (sym (first_same c m x (b ++ c ∷ y) e).0))
same_cut c (m ∷ a) [] x y la lb e = absurd (la.0 (first_same m c (a ++ c ∷ x) y e).0)
same_cut c (m ∷ a) (n ∷ b) x y la lb e =
    let f = first_same m n (a ++ c ∷ x) (b ++ c ∷ y) e in
    let r = same_cut c a b x y la.1 lb.1 f.1 in
    (ap (λ z. z ∷ a) f.0 ∙ ap (λ z. n ∷ z) r.0, r.1)

same_value : (cs v w : List ℕ) → IsQuoted cs v → IsQuoted cs w → v ≡ w
same_value cs v w a b =
    let inner : spelt_quoted a.units (34 ∷ []) ≡ spelt_quoted b.units (34 ∷ []) = (first_same 34 34 _ _ (sym a.is ∙ b.is)).1 in
    a.means ∙ sym (value_read a.units [] a.each) ∙ ap (λ z. value_at (Some Between) z) inner ∙ value_read b.units [] b.each ∙ sym b.means

pub quote_no_digit : (ds : List ℕ) (n : ℕ) (v : List ℕ) → IsNumeral ds n → IsQuoted ds v → ⊥
quote_no_digit [] n v num quoted = num.some refl
quote_no_digit (d ∷ ds) n v num quoted =
    let first : d ≡ 34 = (first_same d 34 ds _ quoted.is).0 in
    high (subst (λ z. digit_value z < 10) first num.each.0)
  where
    high : 36 < 10 → ⊥
    high h = omega (arith, h)

same_suc : (m n : ℕ) → suc m ≡ suc n → m ≡ n
same_suc m n e = omega (arith, e)

same_entry : (e f : Entry) (text : List ℕ) → SpellsEntry e text → SpellsEntry f text → e ≡ f
same_entry (production q) (production r) text a b = ap (λ z. production z) (same_suc q r (sym a.value ∙ b.value))
same_entry (leaf_word v) (leaf_word w) text a b = ap (λ z. leaf_word z) (same_value text v w a b)
same_entry (production q) (leaf_word w) text a b = absurd (quote_no_digit text (suc q) w a b)
same_entry (leaf_word v) (production r) text a b = absurd (quote_no_digit text (suc r) v b a)

-- a text spells one line at most
pub same_line : (l m : Line) (text : List ℕ) → SpellsLine l text → SpellsLine m text → l ≡ m
same_line l m text a b =
    let whole : a.depth ++ 32 ∷ (l.name ++ 32 ∷ a.entry) ≡ b.depth ++ 32 ∷ (m.name ++ 32 ∷ b.entry) = sym a.is ∙ b.is in
    let first = same_cut 32 a.depth b.depth (l.name ++ 32 ∷ a.entry) (m.name ++ 32 ∷ b.entry) (digits_lack a.depth a.depth_is.each) (digits_lack b.depth b.depth_is.each) whole in
    let second = same_cut 32 l.name m.name a.entry b.entry a.name_is b.name_is first.1 in
    let depth : l.depth ≡ m.depth = sym a.depth_is.value ∙ ap (λ z. digits_value 10 z) first.0 ∙ b.depth_is.value in
    let entry : l.entry ≡ m.entry = same_entry l.entry m.entry b.entry (subst (SpellsEntry l.entry) second.1 a.entry_is) b.entry_is in
    ap (λ d. line d l.name l.entry) depth ∙ ap (λ n. line m.depth n l.entry) second.0 ∙ ap (λ e. line m.depth m.name e) entry

pub same_lines : (ls ms : List Line) (texts : List (List ℕ)) → AreSpelt ls texts → AreSpelt ms texts → ls ≡ ms
same_lines [] [] [] a b = refl
same_lines [] [] (t ∷ ts) a b = absurd a
same_lines [] (m ∷ ms) [] a b = absurd b
same_lines [] (m ∷ ms) (t ∷ ts) a b = absurd a
same_lines (l ∷ ls) [] [] a b = absurd a
same_lines (l ∷ ls) [] (t ∷ ts) a b = absurd b
same_lines (l ∷ ls) (m ∷ ms) [] a b = absurd a
same_lines (l ∷ ls) (m ∷ ms) (t ∷ ts) a b = ap (λ z. z ∷ ls) (same_line l m t a.0 b.0) ∙ ap (λ z. m ∷ z) (same_lines ls ms ts a.1 b.1)
