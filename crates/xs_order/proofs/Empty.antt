-- Derivations of the empty word.
use Rattle.std.proofs.Common.{◌≡◌, ◌↔◌, ℕ, Bool, List, [], ◌++◌, refl, subst, inl, inr}
use Rattle.std.specs.Bool.{IsTrue}
use Rattle.xs_regex.specs.declared.regex.Regex.{Regex}
use Rattle.xs_regex.specs.declared.position.Position.{Position}
use Rattle.xs_regex.specs.Matches.{Matches}
use Rattle.xs_regex.specs.Automaton.{Accepts}
use Rattle.xs_clauses.specs.Made.{AreFlags}
use Rattle.xs_gram.specs.Grammar.{Grammar}
use Rattle.xs_gram.specs.Derivations.{Parts, done, fixed, leaf, skip, sub, parts_yield}
use Rattle.xs_gram.specs.Sound.{IsAutomaton}
use Rattle.xs_order.specs.Order.{AreNullable}
use Rattle.xs_order.specs.declared.wanted.Wanted.TheVariants.{EmptyWord}
use Rattle.xs_order.specs.Wanted.{IsWanted, AllLeaves, IsDerived}
use Rattle.xs_class.proofs.Lists.{front_empty, rest_empty}
use Rattle.xs_regex.proofs.Runs.{no_run}

both_empty : (u v : List ℕ) → u ≡ [] → v ≡ [] → u ++ v ≡ []
both_empty u v e f = rw (e, f) refl

pub yields_empty : (ps : Parts) → AllLeaves (IsWanted EmptyWord) ps → parts_yield ps ≡ []
yields_empty done leaves = refl
yields_empty (fixed u ps) leaves = both_empty u (parts_yield ps) leaves.0 (yields_empty ps leaves.1)
yields_empty (leaf u ps) leaves = both_empty u (parts_yield ps) leaves.0 (yields_empty ps leaves.1)
yields_empty (skip u ps) leaves = both_empty u (parts_yield ps) leaves.0 (yields_empty ps leaves.1)
yields_empty (sub q qs ps) leaves = both_empty (parts_yield qs) (parts_yield ps) (yields_empty qs leaves.0) (yields_empty ps leaves.1)

pub leaves_empty : (ps : Parts) → parts_yield ps ≡ [] → AllLeaves (IsWanted EmptyWord) ps
leaves_empty done e = tt
leaves_empty (fixed u ps) e = (front_empty u (parts_yield ps) e, leaves_empty ps (rest_empty u (parts_yield ps) e))
leaves_empty (leaf u ps) e = (front_empty u (parts_yield ps) e, leaves_empty ps (rest_empty u (parts_yield ps) e))
leaves_empty (skip u ps) e = (front_empty u (parts_yield ps) e, leaves_empty ps (rest_empty u (parts_yield ps) e))
leaves_empty (sub q qs ps) e = (leaves_empty qs (front_empty (parts_yield qs) (parts_yield ps) e), leaves_empty ps (rest_empty (parts_yield qs) (parts_yield ps) e))

-- an automaton accepts the empty word exactly where it is nullable
pub accepts_empty : (a : Position) → IsTrue a.nullable ↔ Accepts a []
accepts_empty a = (λ e. inl (refl, e), back)
  where
    back : Accepts a [] → IsTrue a.nullable
    back (inl e) = e.1
    back (inr (k, run, l)) = absurd (no_run a [] k refl run)

-- its regex matches the empty word exactly there
pub nullable_matches : {regex : Regex} {a : Position} → IsAutomaton regex a → IsTrue a.nullable ↔ Matches regex []
nullable_matches {a = a} automaton = (
  λ e. (automaton.accepts []).1 ((accepts_empty a).0 e),
  λ m. (accepts_empty a).1 ((automaton.accepts []).0 m),
)

-- the empty word is a wanted word that it accepts exactly there
pub accepts_wanted : (a : Position) → IsTrue a.nullable ↔ ((w : List ℕ) × Accepts a w × IsWanted EmptyWord w)
accepts_wanted a = (
  λ e. ([], (accepts_empty a).0 e, refl),
  λ h. (accepts_empty a).1 (subst (λ (w : List ℕ). Accepts a w) h.2 h.1),
)

-- derivations with empty leaves alone are those of the empty word
pub are_nullable : (g : Grammar) (flags : List Bool) → AreFlags (IsDerived g (IsWanted EmptyWord)) g.nons flags → AreNullable g flags
are_nullable g flags made = record {
  counted = made.counted;
  exact = λ n lt. let exact = made.exact n lt in (λ s. let d = exact.0 s in (d.0, d.1, yields_empty d.0.parts d.2), λ d. exact.1 (d.0, d.1, leaves_empty d.0.parts d.2));
}
