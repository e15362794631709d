-- The first items of a rule spelt, and the automata of its items.
use Rattle.std.proofs.Common.{append-nil, append_assoc, ◌≡◌, ℕ, suc, List, [], ◌∷◌, ◌++◌, ◌≤◌, length, take, refl, sym, ap, ◌∙◌, arith}
use Rattle.std.proofs.Math.Seq.{take-length}
use Rattle.xs_regex.specs.declared.position.Position.{Position}
use Rattle.xs_regex.specs.Automaton.{Accepts}
use Rattle.xs_gram.specs.declared.parts.GItem.{GItem}
use Rattle.xs_gram.specs.declared.parts.GItem.TheVariants.{Fixed, Term, Non, Skip}
use Rattle.xs_gram.specs.Grammar.{Grammar, term_of, skip_of, items, ItemAt}
use Rattle.xs_gram.specs.Derivations.{Parts, done, fixed, leaf, skip, sub, FitsItems, parts_yield}
use Rattle.xs_gram.specs.Sound.{IsBuilt, IsAutomaton}
use Rattle.xs_gram.specs.Chart.{Spells, IsAutomatonOf}
use Rattle.xs_chart_laws.specs.Parts.{parts_then}
use Rattle.xs_chart_laws.proofs.Words.{get_take, get_lt}

pub then-yield : (ps rs : Parts) → parts_yield (parts_then ps rs) ≡ parts_yield ps ++ parts_yield rs
then-yield done rs = refl
then-yield (fixed u ps) rs = rw (then-yield ps rs) (sym (append_assoc u (parts_yield ps) (parts_yield rs)))
then-yield (leaf u ps) rs = rw (then-yield ps rs) (sym (append_assoc u (parts_yield ps) (parts_yield rs)))
then-yield (skip u ps) rs = rw (then-yield ps rs) (sym (append_assoc u (parts_yield ps) (parts_yield rs)))
then-yield (sub q qs ps) rs = rw (then-yield ps rs) (sym (append_assoc (parts_yield qs) (parts_yield ps) (parts_yield rs)))

pub then-fits : (g : Grammar) (is js : List GItem) (ps rs : Parts) → FitsItems g is ps → FitsItems g js rs → FitsItems g (is ++ js) (parts_then ps rs)
then-fits g [] js done rs f h = h
then-fits g (Fixed v ∷ is) js (fixed u ps) rs f h = (f.0, then-fits g is js ps rs f.1 h)
then-fits g (Term t v ∷ is) js (leaf u ps) rs f h = (f.0, then-fits g is js ps rs f.1 h)
then-fits g (Skip t ∷ is) js (skip u ps) rs f h = (f.0, then-fits g is js ps rs f.1 h)
then-fits g (Non m v ∷ is) js (sub q qs ps) rs f h = (f.0, f.1, then-fits g is js ps rs f.2 h)
then-fits g _ js _ rs f h = absurd f

pub split_parts : (g : Grammar) (is js : List GItem) (ps : Parts) → FitsItems g (is ++ js) ps → (a : Parts) × (b : Parts) × FitsItems g is a × FitsItems g js b × (ps ≡ parts_then a b)
split_parts g [] js ps f = (done, ps, tt, f, refl)
split_parts g (Fixed v ∷ is) js (fixed u ps) f = let r = split_parts g is js ps f.1 in (fixed u r.0, r.1, (f.0, r.2), r.3, ap (fixed u) r.4)
split_parts g (Term t v ∷ is) js (leaf u ps) f = let r = split_parts g is js ps f.1 in (leaf u r.0, r.1, (f.0, r.2), r.3, ap (leaf u) r.4)
split_parts g (Skip t ∷ is) js (skip u ps) f = let r = split_parts g is js ps f.1 in (skip u r.0, r.1, (f.0, r.2), r.3, ap (skip u) r.4)
split_parts g (Non m v ∷ is) js (sub q qs ps) f = let r = split_parts g is js ps f.2 in (sub q qs r.0, r.1, (f.0, f.1, r.2), r.3, ap (sub q qs) r.4)
split_parts g (item ∷ is) js _ f = absurd f

pub Spells-none : (g : Grammar) (p : ℕ) → Spells g p 0 []
Spells-none g p = (omega arith, done, tt, refl)

-- one more item
pub Spells-more : (g : Grammar) (p n : ℕ) (u : List ℕ) (item : GItem) (rs : Parts) → Spells g p n u → ItemAt g p n item → FitsItems g (item ∷ []) rs → Spells g p (suc n) (u ++ parts_yield rs)
Spells-more g p n u item rs sp at f = (
  get_lt (items g p) n item at,
  parts_then sp.1 rs,
  rw (get_take (items g p) n item at) (then-fits g (take n (items g p)) (item ∷ []) sp.1 rs sp.2 f),
  then-yield sp.1 rs ∙ ap (λ (z : List ℕ). z ++ parts_yield rs) sp.3,
)

-- the last part, and what is before it
pub Spells-less : (g : Grammar) (p n : ℕ) (u : List ℕ) (item : GItem) → ItemAt g p n item → Spells g p (suc n) u → (v : List ℕ) × (rs : Parts) × Spells g p n v × FitsItems g (item ∷ []) rs × (u ≡ v ++ parts_yield rs)
Spells-less g p n u item at sp = less (get_lt (items g p) n item at) (split_parts g (take n (items g p)) (item ∷ []) sp.1 (rw (get_take (items g p) n item at) at sp.2))
  where
    less : suc n ≤ length (items g p) → (a : Parts) × (b : Parts) × FitsItems g (take n (items g p)) a × FitsItems g (item ∷ []) b × (sp.1 ≡ parts_then a b) → (v : List ℕ) × (rs : Parts) × Spells g p n v × FitsItems g (item ∷ []) rs × (u ≡ v ++ parts_yield rs)
    less lt (a, b, front, last, is) = (parts_yield a, b, (omega arith, a, front, refl), last, sym sp.3 ∙ ap parts_yield is ∙ then-yield a b)

-- the parts of a whole rule
pub Spells-whole : (g : Grammar) (q : ℕ) (u : List ℕ) → Spells g q (length (items g q)) u → (ps : Parts) × FitsItems g (items g q) ps × (parts_yield ps ≡ u)
Spells-whole g q u sp = (sp.1, rw take-length at sp.2, sp.3)

pub whole-Spells : (g : Grammar) (q : ℕ) (ps : Parts) → FitsItems g (items g q) ps → Spells g q (length (items g q)) (parts_yield ps)
whole-Spells g q ps f = (omega arith, ps, rw take-length f, refl)

-- the automaton of a terminal and of an ignorable of a rule is one of its regex
pub term_agrees : (g : Grammar) → IsBuilt g → (p n t s : ℕ) → ItemAt g p n (Term t s) → IsAutomaton (term_of g t).regex (term_of g t).automaton
term_agrees g built p n t s at = built.automata.terms t (built.range.terms p n t s at)

pub skip_agrees : (g : Grammar) → IsBuilt g → (p n k : ℕ) → ItemAt g p n (Skip k) → IsAutomaton (skip_of g k).regex (skip_of g k).automaton
skip_agrees g built p n k at = built.automata.skips k (built.range.skips p n k at)

-- the part of a terminal or an ignorable
pub lex_part : (g : Grammar) → IsBuilt g → (p n : ℕ) (item : GItem) (a : Position) (u : List ℕ) → ItemAt g p n item → IsAutomatonOf g item a → Accepts a u → (rs : Parts) × FitsItems g (item ∷ []) rs × (parts_yield rs ≡ u)
lex_part g built p n (Term t s) a u at lex acc = (leaf u done, (((term_agrees g built p n t s at).accepts u).1 (rw lex at acc), tt), append-nil u)
lex_part g built p n (Skip k) a u at lex acc = (skip u done, (((skip_agrees g built p n k at).accepts u).1 (rw lex at acc), tt), append-nil u)
lex_part g built p n (Fixed v) a u at lex acc = absurd lex
lex_part g built p n (Non m s) a u at lex acc = absurd lex

-- an item has one automaton
pub one_automaton : (g : Grammar) (item other : GItem) (a b : Position) → item ≡ other → IsAutomatonOf g item a → IsAutomatonOf g other b → a ≡ b
one_automaton g item other a b e h k = same other a b (rw e at h) k
  where
    same : (item : GItem) (a b : Position) → IsAutomatonOf g item a → IsAutomatonOf g item b → a ≡ b
    same (Term t s) a b h k = h ∙ sym k
    same (Skip t) a b h k = h ∙ sym k
    same (Fixed v) a b h k = absurd h
    same (Non m s) a b h k = absurd h
