-- What the first part is where parts fit items.
use Rattle.std.proofs.Common.{◌≡◌, ℕ, List, [], ◌∷◌, refl, ap}
use Rattle.xs_gram.specs.declared.parts.GItem.{GItem}
use Rattle.xs_gram.specs.declared.parts.GItem.TheVariants.{Fixed, Term, Non, Skip}
use Rattle.xs_gram.specs.Grammar.{Grammar, items, IsRuleOf, IsTermWord, IsSkipWord}
use Rattle.xs_gram.specs.Derivations.{Parts, done, fixed, leaf, skip, sub, FitsItems}

pub done_parts : (g : Grammar) (ps : Parts) → FitsItems g [] ps → ps ≡ done
done_parts g done fit = refl
done_parts g ps fit = absurd fit

pub fixed_parts : (g : Grammar) (f : List ℕ) (is : List GItem) (ps : Parts) → FitsItems g (Fixed f ∷ is) ps → (rest : Parts) × (ps ≡ fixed f rest) × FitsItems g is rest
fixed_parts g f is (fixed u ps) fit = (ps, ap (λ w. fixed w ps) fit.0, fit.1)
fixed_parts g f is ps fit = absurd fit

pub leaf_parts : (g : Grammar) (t s : ℕ) (is : List GItem) (ps : Parts) → FitsItems g (Term t s ∷ is) ps → (u : List ℕ) × (rest : Parts) × (ps ≡ leaf u rest) × IsTermWord g t u × FitsItems g is rest
leaf_parts g t s is (leaf u ps) fit = (u, ps, refl, fit.0, fit.1)
leaf_parts g t s is ps fit = absurd fit

pub skip_parts : (g : Grammar) (k : ℕ) (is : List GItem) (ps : Parts) → FitsItems g (Skip k ∷ is) ps → (u : List ℕ) × (rest : Parts) × (ps ≡ skip u rest) × IsSkipWord g k u × FitsItems g is rest
skip_parts g k is (skip u ps) fit = (u, ps, refl, fit.0, fit.1)
skip_parts g k is ps fit = absurd fit

pub sub_parts : (g : Grammar) (n s : ℕ) (is : List GItem) (ps : Parts) → FitsItems g (Non n s ∷ is) ps → (q : ℕ) × (qs : Parts) × (rest : Parts) × (ps ≡ sub q qs rest) × IsRuleOf g n q × FitsItems g (items g q) qs × FitsItems g is rest
sub_parts g n s is (sub q qs ps) fit = (q, qs, ps, refl, fit.0, fit.1, fit.2)
sub_parts g n s is ps fit = absurd fit
