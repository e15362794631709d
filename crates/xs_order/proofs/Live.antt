-- Regexes that match a word, and derivations of any word.
use Rattle.std.proofs.Common.{◌≡◌, ◌↔◌, ℕ, Bool, false, List, length, get_or, inl, inr}
use Rattle.std.specs.Bool.{IsTrue}
use Rattle.std.specs.List.{Contains}
use Rattle.std.proofs.lemmas.Bool.{both_ways}
use Rattle.xs_regex.specs.declared.position.Position.{Position}
use Rattle.xs_regex.specs.Automaton.{Accepts, IsWellFormed}
use Rattle.xs_clauses.specs.Made.{AreFlags}
use Rattle.xs_gram.specs.Grammar.{Grammar}
use Rattle.xs_gram.specs.Derivations.{Parts, done, fixed, leaf, skip, sub}
use Rattle.xs_order.specs.Order.{AreProductive}
use Rattle.xs_order.specs.Runs.{IsReached}
use Rattle.xs_order.specs.declared.wanted.Wanted.TheVariants.{AnyWord}
use Rattle.xs_order.specs.Wanted.{IsWanted, AllLeaves, IsDerived}

-- an automaton that is not nullable has a word exactly where a last position is reached
pub word_by_last : (a : Position) (flags : List Bool) (answer : Bool) → IsWellFormed a → a.nullable ≡ false → AreFlags (IsReached a) (length a.classes) flags → (IsTrue answer ↔ ((k : ℕ) × Contains a.last k × IsTrue (get_or flags k false))) → IsTrue answer ↔ ((w : List ℕ) × Accepts a w)
word_by_last a flags answer formed not_nullable reached known = (there, λ h. back h.0 h.1)
  where
    there : IsTrue answer → (w : List ℕ) × Accepts a w
    there s =
        let last = known.0 s in
        let run = (reached.exact last.0 (formed.last_in last.0 last.1)).0 last.2 in
        (run.0, inr (last.0, run.1, last.1))

    back : (w : List ℕ) → Accepts a w → IsTrue answer
    back w (inl e) = absurd (both_ways a.nullable not_nullable e.1)
    back w (inr (k, run, last)) = known.1 (k, last, (reached.exact k (formed.last_in k last)).1 (w, run))

-- then any word is wanted
pub has_any : {a : Position} {answer : Bool} → (IsTrue answer ↔ ((w : List ℕ) × Accepts a w)) → IsTrue answer ↔ ((w : List ℕ) × Accepts a w × IsWanted AnyWord w)
has_any known = (λ s. let h = known.0 s in (h.0, h.1, tt), λ h. known.1 (h.0, h.1))

leaves_any : (ps : Parts) → AllLeaves (IsWanted AnyWord) ps
leaves_any done = tt
leaves_any (fixed u ps) = (tt, leaves_any ps)
leaves_any (leaf u ps) = (tt, leaves_any ps)
leaves_any (skip u ps) = (tt, leaves_any ps)
leaves_any (sub q qs ps) = (leaves_any qs, leaves_any ps)

-- so such derivations are all there are
pub are_productive : (g : Grammar) (flags : List Bool) → AreFlags (IsDerived g (IsWanted AnyWord)) g.nons flags → AreProductive g flags
are_productive g flags made = record {
  counted = made.counted;
  exact = λ n lt. let exact = made.exact n lt in (λ s. let d = exact.0 s in (d.0, d.1), λ d. exact.1 (d.0, d.1, leaves_any d.0.parts));
}
