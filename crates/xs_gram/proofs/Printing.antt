-- Printing the tree of a derivation gives its yield in normal form.
use Rattle.std.proofs.Common.{◌≡◌, ℕ, suc, zero, ◌+◌, ◌<◌, List, [], ◌∷◌, ◌++◌, length, refl, sym, ◌∙◌, ap, subst, arith, Some}
use Rattle.xs_gram.specs.declared.parts.GItem.{GItem}
use Rattle.xs_gram.specs.declared.parts.GItem.TheVariants.{Fixed, Term, Non, Skip}
use Rattle.xs_gram.specs.Grammar.{Grammar, items, slots, normal_word}
use Rattle.xs_gram.specs.Derivations.{Parts, done, fixed, leaf, skip, sub, FitsItems, parts_yield, normal_parts}
use Rattle.xs_gram.specs.Common.{Common, lookup, child_of, in_order, children, named, spelling, word_at, print, print_kids}
use Rattle.xs_gram.specs.Laws.{Every, IsDistinct, IsNumbered, HasNumberedSlots, PrintsNormal}
use Rattle.xs_gram.proofs.Entries.{keys_are}
use Rattle.xs_gram.proofs.Lookup.{AllOf, length-keys, by_keys, each_found}

-- the word at the k-th child is that of the entry found there
kids_at : (g : Grammar) (es : List (ℕ × Common)) (n s k : ℕ) → k < n → word_at (print_kids g (in_order n s es)) k ≡ print g (child_of (lookup (s + k) es))
kids_at g es zero s k lt = absurd (omega arith)
kids_at g es (suc n) s zero lt = ap (λ m. print g (child_of (lookup m es))) (omega arith)
kids_at g es (suc n) s (suc k) lt = kids_at g es n (s + 1) k (omega arith) ∙ ap (λ m. print g (child_of (lookup m es))) (omega arith)

-- the words of the children agree with the entries
agree : (g : Grammar) (es xs : List (ℕ × Common)) → AllOf (λ e. e.0 < length es) xs → AllOf (λ e. lookup e.0 es ≡ Some e.1) xs → AllOf (λ e. word_at (print_kids g (in_order (length es) 0 es)) e.0 ≡ print g e.1) xs
agree g es [] below all = tt
agree g es (x ∷ xs) below all = (kids_at g es (length es) 0 x.0 below.0 ∙ ap (λ m. print g (child_of (lookup m es))) (omega arith) ∙ ap (λ t. print g (child_of t)) all.0, agree g es xs below.1 all.1)

agree_all : (g : Grammar) (is : List GItem) (ps : Parts) → IsNumbered (slots is) → FitsItems g is ps
    → AllOf (λ e. word_at (print_kids g (children (named g is ps))) e.0 ≡ print g e.1) (named g is ps)
agree_all g is ps numbered fit =
    let es = named g is ps in
    let are = keys_are g is ps fit in
    let long : length (slots is) ≡ length es = ap length (sym are) ∙ length-keys es in
    agree g es es
    (by_keys (λ n. n < length es) es (subst (λ (l : List ℕ). Every (λ n. n < length es) l) (sym are) (subst (λ (m : ℕ). Every (λ n. n < m) (slots is)) long numbered.below)))
    (each_found es (subst IsDistinct (sym are) numbered.once))

prints_parts : (g : Grammar) → HasNumberedSlots g → (is : List GItem) (ps : Parts) → FitsItems g is ps → (at : ℕ → List ℕ) → AllOf (λ e. at e.0 ≡ print g e.1) (named g is ps) → spelling g is at ≡ parts_yield (normal_parts g is ps)
prints_parts g numbered [] done fit at all = refl
prints_parts g numbered (Fixed f ∷ is) (fixed u ps) fit at all = rw fit.0 (ap (λ l. f ++ l) (prints_parts g numbered is ps fit.1 at all))
prints_parts g numbered (Term t s ∷ is) (leaf u ps) fit at all = rw all.0 (ap (λ l. u ++ l) (prints_parts g numbered is ps fit.1 at all.1))
prints_parts g numbered (Skip k ∷ is) (skip u ps) fit at all = ap (λ l. normal_word g k ++ l) (prints_parts g numbered is ps fit.1 at all)
prints_parts g numbered (Non n s ∷ is) (sub q qs ps) fit at all =
    let inner = prints_parts g numbered (items g q) qs fit.1 (word_at (print_kids g (children (named g (items g q) qs)))) (agree_all g (items g q) qs (numbered q) fit.1) in
    rw (all.0, inner) (ap (λ l. parts_yield (normal_parts g (items g q) qs) ++ l) (prints_parts g numbered is ps fit.2 at all.1))
prints_parts g numbered is ps fit at all = absurd fit

pub prints_normal_lem : PrintsNormal
prints_normal_lem g non d numbered fit =
    prints_parts g numbered (items g d.rule) d.parts fit.1 (word_at (print_kids g (children (named g (items g d.rule) d.parts)))) (agree_all g (items g d.rule) d.parts (numbered d.rule) fit.1)
