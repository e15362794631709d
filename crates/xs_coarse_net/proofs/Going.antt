-- Paths by arcs: one after another, in a net that gained arcs, and through an automaton.
use Rattle.std.proofs.Common.{◌≡◌, ℕ, List, [], ◌++◌, get_or, refl, sym, subst, ◌∙◌, inl, inr, append-nil}
use Rattle.std.proofs.lemmas.Bool.{cases_eq}
use Rattle.std.specs.List.{Contains}
use Rattle.xs_regex.specs.declared.position.Position.{Position}
use Rattle.xs_regex.specs.Automaton as A
use Rattle.xs_coarse.specs.Coarse.{Table, Net}
use Rattle.xs_coarse_net.specs.Going.{Goes, goes_none, goes_move, goes_read, Grows, AreLabelsOf, IsLaidIn}

pub goes_on : {t : Table} {n : Net} {a b c : ℕ} {u v : List ℕ} → Goes t n a u b → Goes t n b v c → Goes t n a (u ++ v) c
goes_on goes_none q = q
goes_on (goes_move x p) q = goes_move x (goes_on p q)
goes_on (goes_read x r p) q = goes_read x r (goes_on p q)

pub goes_as : {t : Table} {n : Net} {a b c d : ℕ} {u v : List ℕ} → a ≡ c → u ≡ v → b ≡ d → Goes t n a u b → Goes t n c v d
goes_as {t} {n} {a} {b} {c} {d} {u} {v} p e q h = subst (λ (x : ℕ). Goes t n x v d) p (subst (λ (l : List ℕ). Goes t n a l d) e (subst (λ (x : ℕ). Goes t n a u x) q h))

pub grows_none : {n : Net} → Grows n n
grows_none = record { states = refl; kept = λ x h. h }

pub grows_on : {m n o : Net} → Grows m n → Grows n o → Grows m o
grows_on f g = record { states = g.states ∙ f.states; kept = λ x h. g.kept x (f.kept x h) }

pub goes_grown : {t : Table} {m n : Net} {a b : ℕ} {w : List ℕ} → Grows m n → Goes t m a w b → Goes t n a w b
goes_grown g goes_none = goes_none
goes_grown g (goes_move x p) = goes_move (g.kept _ x) (goes_grown g p)
goes_grown g (goes_read x r p) = goes_read (g.kept _ x) r (goes_grown g p)

pub laid_grown : {m n : Net} {p : Position} {labels states : List ℕ} {from to : ℕ} → Grows m n → IsLaidIn m p labels states from to → IsLaidIn n p labels states from to
laid_grown g h = record {
  first = λ k c. g.kept _ (h.first k c);
  next = λ j k l. g.kept _ (h.next j k l);
  last = λ k c ne. g.kept _ (h.last k c ne);
  past = λ e. g.kept _ (h.past e);
}

-- the path through an automaton
module _ {t : Table} {n : Net} {p : Position} {labels states : List ℕ} {from to : ℕ} (reads : AreLabelsOf t p labels) (laid : IsLaidIn n p labels states from to) where
  run_goes : {w : List ℕ} {k : ℕ} → A.Runs p w k → Goes t n from w (get_or states k 0)
  run_goes {k = k} (A.begins s among has e) = goes_as refl (sym e) refl (goes_read (laid.first k among) (reads k s has) goes_none)
  run_goes {k = k} (A.goes v j s run leads has e) = goes_as refl (sym e) refl (goes_on (run_goes run) (goes_read (laid.next j k leads) (reads k s has) goes_none))

  at_end : (k : ℕ) → Contains p.last k → Goes t n (get_or states k 0) [] to
  at_end k c = elim (cases_eq (get_or states k 0) to) [
    | inl e ↦ goes_as refl refl e goes_none
    | inr ne ↦ goes_move (laid.last k c ne) goes_none
  ]

  pub automaton_goes : (w : List ℕ) → A.Accepts p w → Goes t n from w to
  automaton_goes w (inl h) = goes_as refl (sym h.0) refl (goes_move (laid.past h.1) goes_none)
  automaton_goes w (inr h) = goes_as refl (append-nil w) refl (goes_on (run_goes h.1) (at_end h.0 h.2))
