-- The ranges of fixed symbols.
use Rattle.std.proofs.Common.{◌≡◌, ◌∙◌, ℕ, zero, suc, ◌+◌, ◌<◌, List, [], ◌∷◌, ◌++◌, length, take, get_or, Some, refl, sym, ap, subst, inl, inr, arith, append_assoc}
use Rattle.std.proofs.lemmas.List.{take_more}
use Rattle.std.specs.Prelude.{slice_get, Contains}
use Rattle.xs_class.specs.Classes.{Has}
use Rattle.xs_gram.specs.declared.parts.GItem.{GItem}
use Rattle.xs_gram.specs.declared.parts.GItem.TheVariants.{Fixed, Term, Non, Skip}
use Rattle.xs_gram.specs.declared.parts.RulePart.{RulePart}
use Rattle.xs_gram.specs.Grammar.{Grammar, no_rule}
use Rattle.xs_atoms.specs.Fixed.{IsFixed, word_ranges, items_ranges, rules_ranges}

pub word_ranges-append : (u v : List ℕ) → word_ranges (u ++ v) ≡ word_ranges u ++ word_ranges v
word_ranges-append [] v = refl
word_ranges-append (s ∷ u) v = ap (λ (r : List (ℕ × ℕ)). (s, s) ∷ r) (word_ranges-append u v)

pub items_ranges-append : (xs ys : List GItem) → items_ranges (xs ++ ys) ≡ items_ranges xs ++ items_ranges ys
items_ranges-append [] ys = refl
items_ranges-append (Fixed f ∷ xs) ys = ap (λ (r : List (ℕ × ℕ)). word_ranges f ++ r) (items_ranges-append xs ys) ∙ sym (append_assoc (word_ranges f) (items_ranges xs) (items_ranges ys))
items_ranges-append (Term t s ∷ xs) ys = items_ranges-append xs ys
items_ranges-append (Non n s ∷ xs) ys = items_ranges-append xs ys
items_ranges-append (Skip k ∷ xs) ys = items_ranges-append xs ys

pub rules_ranges-append : (xs ys : List RulePart) → rules_ranges (xs ++ ys) ≡ rules_ranges xs ++ rules_ranges ys
rules_ranges-append [] ys = refl
rules_ranges-append (r ∷ xs) ys = ap (λ (z : List (ℕ × ℕ)). items_ranges r.items ++ z) (rules_ranges-append xs ys) ∙ sym (append_assoc (items_ranges r.items) (rules_ranges xs) (rules_ranges ys))

pub symbols_more : (w : List ℕ) (i s : ℕ) → i < length w → s ≡ get_or w i s → word_ranges (take (i + 1) w) ≡ word_ranges (take i w) ++ (s, s) ∷ []
symbols_more w i s l e =
    ap (λ (v : List ℕ). word_ranges v) (take_more w i s l ∙ ap (λ (y : ℕ). take i w ++ y ∷ []) (sym e)) ∙ word_ranges-append (take i w) (s ∷ [])

pub items_more : (is : List GItem) (i : ℕ) (item : GItem) → i < length is → item ≡ get_or is i item → items_ranges (take (i + 1) is) ≡ items_ranges (take i is) ++ items_ranges (item ∷ [])
items_more is i item l e =
    ap (λ (v : List GItem). items_ranges v) (take_more is i item l ∙ ap (λ (y : GItem). take i is ++ y ∷ []) (sym e)) ∙ items_ranges-append (take i is) (item ∷ [])

pub rules_more : (rs : List RulePart) (i : ℕ) → i < length rs → rules_ranges (take (i + 1) rs) ≡ rules_ranges (take i rs) ++ items_ranges (get_or rs i no_rule).items
rules_more rs i l =
    ap (λ (v : List RulePart). rules_ranges v) (take_more rs i no_rule l) ∙ rules_ranges-append (take i rs) (get_or rs i no_rule ∷ [])
    ∙ ap (λ (r : List (ℕ × ℕ)). rules_ranges (take i rs) ++ r) (no_more (items_ranges (get_or rs i no_rule).items))
  where
    no_more : (r : List (ℕ × ℕ)) → r ++ [] ≡ r
    no_more [] = refl
    no_more (x ∷ r) = ap (λ (z : List (ℕ × ℕ)). x ∷ z) (no_more r)

-- each range has one symbol
abbrev pub AreSingle : List (ℕ × ℕ) → Type 0
AreSingle rs = (r : ℕ × ℕ) (i : ℕ) → slice_get rs i ≡ Some r → r.0 ≡ r.1

one_single : (x : ℕ × ℕ) (xs : List (ℕ × ℕ)) → ((r : ℕ × ℕ) → Some x ≡ Some r → r.0 ≡ r.1) → AreSingle xs → AreSingle (x ∷ xs)
one_single x xs one rest r zero e = one r e
one_single x xs one rest r (suc i) e = rest r i e

both_single : (xs ys : List (ℕ × ℕ)) → AreSingle xs → AreSingle ys → AreSingle (xs ++ ys)
both_single [] ys a b = b
both_single (x ∷ xs) ys a b = one_single x (xs ++ ys) (λ r e. a r 0 e) (both_single xs ys (λ q j f. a q (suc j) f) b)

same_pair : (p q : ℕ × ℕ) → p.0 ≡ p.1 → Some p ≡ Some q → q.0 ≡ q.1
same_pair p q h e = let f : p ≡ q = cc in subst (λ (x : ℕ × ℕ). x.0 ≡ x.1) f h

word_single : (w : List ℕ) → AreSingle (word_ranges w)
word_single [] = λ r i e. cc
word_single (s ∷ w) = one_single (s, s) (word_ranges w) (λ r e. same_pair (s, s) r refl e) (word_single w)

items_single : (is : List GItem) → AreSingle (items_ranges is)
items_single [] = λ r i e. cc
items_single (Fixed f ∷ is) = both_single (word_ranges f) (items_ranges is) (word_single f) (items_single is)
items_single (Term t s ∷ is) = items_single is
items_single (Non n s ∷ is) = items_single is
items_single (Skip k ∷ is) = items_single is

pub rules_single : (rs : List RulePart) → AreSingle (rules_ranges rs)
rules_single [] = λ r i e. cc
rules_single (r ∷ rs) = both_single (items_ranges r.items) (rules_ranges rs) (items_single r.items) (rules_single rs)

has_left : (xs ys : List (ℕ × ℕ)) (s : ℕ) → Has xs s → Has (xs ++ ys) s
has_left [] ys s h = absurd h
has_left (x ∷ xs) ys s (inl i) = inl i
has_left (x ∷ xs) ys s (inr h) = inr (has_left xs ys s h)

has_right : (xs ys : List (ℕ × ℕ)) (s : ℕ) → Has ys s → Has (xs ++ ys) s
has_right [] ys s h = h
has_right (x ∷ xs) ys s h = inr (has_right xs ys s h)

word_has : (w : List ℕ) (s i : ℕ) → i < length w → get_or w i s ≡ s → Has (word_ranges w) s
word_has [] s i l e = absurd (omega arith)
word_has (x ∷ w) s zero l e = inl (omega (arith, e), omega (arith, e))
word_has (x ∷ w) s (suc i) l e = inr (word_has w s i (omega arith) e)

items_have : (is : List GItem) (n : ℕ) (f : List ℕ) (s : ℕ) → slice_get is n ≡ Some (Fixed f) → Contains f s → Has (items_ranges is) s
items_have [] n f s e c = cc
items_have (Fixed u ∷ is) zero f s e c = let same : u ≡ f = cc in has_left (word_ranges u) (items_ranges is) s (rw same (word_has f s c.0 c.1 c.2))
items_have (Term t k ∷ is) zero f s e c = cc
items_have (Non t k ∷ is) zero f s e c = cc
items_have (Skip t ∷ is) zero f s e c = cc
items_have (Fixed u ∷ is) (suc n) f s e c = has_right (word_ranges u) (items_ranges is) s (items_have is n f s e c)
items_have (Term t k ∷ is) (suc n) f s e c = items_have is n f s e c
items_have (Non t k ∷ is) (suc n) f s e c = items_have is n f s e c
items_have (Skip t ∷ is) (suc n) f s e c = items_have is n f s e c

rules_have : (rs : List RulePart) (p n : ℕ) (f : List ℕ) (s : ℕ) → slice_get (get_or rs p no_rule).items n ≡ Some (Fixed f) → Contains f s → Has (rules_ranges rs) s
rules_have [] p n f s e c = cc
rules_have (r ∷ rs) zero n f s e c = has_left (items_ranges r.items) (rules_ranges rs) s (items_have r.items n f s e c)
rules_have (r ∷ rs) (suc p) n f s e c = has_right (items_ranges r.items) (rules_ranges rs) s (rules_have rs p n f s e c)

pub fixed_has : (g : Grammar) (s : ℕ) → IsFixed g s → Has (rules_ranges g.rules) s
fixed_has g s h = rules_have g.rules h.rule h.dot h.word s h.item h.among

-- the ranges with those of one symbol, item or rule more
pub symbol_pushed : (ranges new old : List (ℕ × ℕ)) (w : List ℕ) (i s a b : ℕ) → i < length w → s ≡ get_or w i s → a ≡ s → b ≡ s → ranges ≡ old ++ word_ranges (take i w) → new ≡ ranges ++ (a, b) ∷ [] → new ≡ old ++ word_ranges (take (i + 1) w)
symbol_pushed ranges new old w i s a b l is ea eb before e =
    e ∙ ap (λ (r : List (ℕ × ℕ)). r ++ (a, b) ∷ []) before ∙ append_assoc old (word_ranges (take i w)) ((a, b) ∷ [])
    ∙ ap (λ (r : List (ℕ × ℕ)). old ++ r) (ap (λ x. word_ranges (take i w) ++ (x, b) ∷ []) ea ∙ ap (λ x. word_ranges (take i w) ++ (s, x) ∷ []) eb ∙ sym (symbols_more w i s l is))

pub item_pushed : (ranges new old : List (ℕ × ℕ)) (is : List GItem) (i : ℕ) (item : GItem) → i < length is → item ≡ get_or is i item → ranges ≡ old ++ items_ranges (take i is) → new ≡ ranges ++ items_ranges (item ∷ []) → new ≡ old ++ items_ranges (take (i + 1) is)
item_pushed ranges new old is i item l there before e =
    e ∙ ap (λ (r : List (ℕ × ℕ)). r ++ items_ranges (item ∷ [])) before ∙ append_assoc old (items_ranges (take i is)) (items_ranges (item ∷ []))
    ∙ ap (λ (r : List (ℕ × ℕ)). old ++ r) (sym (items_more is i item l there))

pub rule_pushed : (ranges new : List (ℕ × ℕ)) (rs : List RulePart) (i : ℕ) (is : List GItem) → i < length rs → is ≡ (get_or rs i no_rule).items → ranges ≡ rules_ranges (take i rs) → new ≡ ranges ++ items_ranges is → new ≡ rules_ranges (take (i + 1) rs)
rule_pushed ranges new rs i is l there before e =
    e ∙ ap (λ (r : List (ℕ × ℕ)). r ++ items_ranges is) before ∙ ap (λ (x : List GItem). rules_ranges (take i rs) ++ items_ranges x) there ∙ sym (rules_more rs i l)
