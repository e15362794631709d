-- No class of the automaton of a terminal or an ignorable has a fence symbol.
use Rattle.std.proofs.Common.{◌≡◌, ℕ, zero, suc, ◌<◌, List, [], ◌∷◌, length, inl, inr, subst, sym, arith}
use Rattle.std.specs.List.{Contains}
use Rattle.std.proofs.lemmas.List.Elements.{Contains-append_cases}
use Rattle.xs_regex.specs.declared.regex.Regex.{Regex}
use Rattle.xs_regex.specs.declared.regex.Regex.TheVariants as R
use Rattle.xs_regex.specs.Size.{sets, times, copies}
use Rattle.xs_gram.specs.Grammar.{Grammar, term_of, skip_of}
use Rattle.xs_gram.specs.Sound.{IsBuilt}
use Rattle.xs_gram.specs.Fences.{IsUnfenced, AvoidsFences}

one_class : (c d : List (ℕ × ℕ)) → Contains (c ∷ []) d → d ≡ c
one_class c d (zero, lt, e) = sym e
one_class c d (suc k, lt, e) = absurd (omega arith)

no_class : (d : List (ℕ × ℕ)) → Contains {X = List (ℕ × ℕ)} [] d → ⊥
no_class d h = omega (arith, h.1)

times_class : (n : ℕ) (cs : List (List (ℕ × ℕ))) (d : List (ℕ × ℕ)) → Contains (times n cs) d → Contains cs d
times_class zero cs d h = absurd (no_class d h)
times_class (suc n) cs d h = elim (Contains-append_cases cs (times n cs) d h) [ inl a ↦ a | inr b ↦ times_class n cs d b ]

pub sets_unfenced : (fs : List (ℕ × ℕ)) (r : Regex) → AvoidsFences fs r → (class : List (ℕ × ℕ)) → Contains (sets r) class → IsUnfenced fs class
sets_unfenced fs R.Empty a class h = absurd (no_class class h)
sets_unfenced fs (R.Set c) a class h = subst (λ (x : List (ℕ × ℕ)). IsUnfenced fs x) (sym (one_class c class h)) a
sets_unfenced fs (R.Then' p x q y) a class h = elim (Contains-append_cases (sets x) (sets y) class h) [ inl k ↦ sets_unfenced fs x a.0 class k | inr k ↦ sets_unfenced fs y a.1 class k ]
sets_unfenced fs (R.Or' p x q y) a class h = elim (Contains-append_cases (sets x) (sets y) class h) [ inl k ↦ sets_unfenced fs x a.0 class k | inr k ↦ sets_unfenced fs y a.1 class k ]
sets_unfenced fs (R.Star' p x) a class h = sets_unfenced fs x a class h
sets_unfenced fs (R.Times' p x least most) a class h = sets_unfenced fs x a class (times_class (copies least most) (sets x) class h)

pub term_unfenced : (g : Grammar) → IsBuilt g → (t : ℕ) → t < length g.terms → (class : List (ℕ × ℕ)) → Contains (term_of g t).automaton.classes class → IsUnfenced g.fences class
term_unfenced g built t lt class h = sets_unfenced g.fences (term_of g t).regex (built.proper.terms t lt) class (subst (λ (cs : List (List (ℕ × ℕ))). Contains cs class) (built.automata.terms t lt).classes h)

pub skip_unfenced : (g : Grammar) → IsBuilt g → (k : ℕ) → k < length g.skips → (class : List (ℕ × ℕ)) → Contains (skip_of g k).automaton.classes class → IsUnfenced g.fences class
skip_unfenced g built k lt class h = sets_unfenced g.fences (skip_of g k).regex (built.proper.skips k lt) class (subst (λ (cs : List (List (ℕ × ℕ))). Contains cs class) (built.automata.skips k lt).classes h)
