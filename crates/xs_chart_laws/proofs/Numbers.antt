-- Places of a grammar and their numbers.
use Rattle.std.proofs.Common.{◌≡◌, ℕ, suc, ◌+◌, ◌<◌, ◌≤◌, List, length, Some, None, refl, sym, ◌∙◌, subst, arith}
use Rattle.std.specs.declared.option.Option.{Option}
use Rattle.std.proofs.lemmas.Option.{none-some, same_Some}
use Rattle.xs_regex.specs.declared.position.Position.{Position}
use Rattle.xs_regex.proofs.Runs.{run_within}
use Rattle.xs_gram.specs.declared.parts.GItem.{GItem}
use Rattle.xs_gram.specs.declared.parts.GItem.TheVariants.{Fixed, Term, Non, Skip}
use Rattle.xs_gram.specs.declared.places.Place.{Place}
use Rattle.xs_gram.specs.Grammar.{Grammar, items, ItemAt}
use Rattle.xs_gram.specs.Chart.{IsAutomatonOf, Stands}
use Rattle.xs_gram.specs.Places.{at_dot, at_inside, positions_of, IsPlace}
use Rattle.xs_gram.proofs.Numbers.{offset, base, dot_there, number_dot, number_inside}
use Rattle.xs_chart_laws.specs.Charts.{IsNumber}
use Rattle.xs_chart_laws.proofs.Words.{get_lt}

-- an item's automaton has its positions
automaton_positions : (g : Grammar) (item : GItem) (a : Position) (k : ℕ) → IsAutomatonOf g item a → suc k ≤ length a.classes → suc k ≤ positions_of g item
automaton_positions g (Term t s) a k lex lt = rw lex at lt
automaton_positions g (Skip t) a k lex lt = rw lex at lt
automaton_positions g (Fixed f) a k lex lt = absurd lex
automaton_positions g (Non n s) a k lex lt = absurd lex

-- the place at the front of a rule, after an item, and inside an item
pub first_place : (g : Grammar) (p : ℕ) → p < length g.rules → IsPlace g (at_dot p 0)
first_place g p lt = record { rule = lt; dot = omega arith; inside = λ k e. absurd (none-some k e) }

pub next_place : (g : Grammar) (p n : ℕ) (item : GItem) → p < length g.rules → ItemAt g p n item → IsPlace g (at_dot p (suc n))
next_place g p n item lt at = record { rule = lt; dot = get_lt (items g p) n item at; inside = λ k e. absurd (none-some k e) }

pub inside_place : (g : Grammar) (p n k : ℕ) (item : GItem) (a : Position) → p < length g.rules → ItemAt g p n item → IsAutomatonOf g item a → k < length a.classes → IsPlace g (at_inside p n k)
inside_place g p n k item a lt at lex below =
    let within = get_lt (items g p) n item at in
    record { rule = lt; dot = omega arith; inside = λ m e. (item, at, subst (λ x. suc x ≤ positions_of g item) (same_Some k m e) (automaton_positions g item a k lex below)) }

place_from : (g : Grammar) (w : List ℕ) (p n : ℕ) (o : Option ℕ) (i j : ℕ) → Stands g w (record { rule = p; dot = n; inside = o }) i j → IsPlace g (record { rule = p; dot = n; inside = o })
place_from g w p n None i j st = record { rule = st.1.0; dot = st.5.0; inside = λ k e. absurd (none-some k e) }
place_from g w p n (Some m) i j st = let b = st.5 in inside_place g p n m b.0 b.1 st.1.0 b.4 b.5 (run_within b.8)

-- what stands is a place of the grammar
pub stands_at_place : (g : Grammar) (w : List ℕ) (c : Place) (i j : ℕ) → Stands g w c i j → IsPlace g c
stands_at_place g w c i j st = place_from g w c.rule c.dot c.inside i j st

number_from : (g : Grammar) (p n : ℕ) (o : Option ℕ) → IsPlace g (record { rule = p; dot = n; inside = o }) → (k : ℕ) × IsNumber g k (record { rule = p; dot = n; inside = o })
number_from g p n None place =
    let start = base g 0 g.rules p + offset g (items g p) n in
    (start, number_dot g (at_dot p n) start refl (dot_there g p n place.rule place.dot))
number_from g p n (Some k) place =
    let start = base g 0 g.rules p + offset g (items g p) n in
    (suc start + k, inside_there start (dot_there g p n place.rule place.dot))
  where
    inside_there : (start : ℕ) → IsNumber g start (at_dot p n) → IsNumber g (suc start + k) (at_inside p n k)
    inside_there start there =
        let e : start + 1 + k ≡ suc start + k = omega arith in
        rw e at (number_inside g (at_inside p n k) k start place refl there)

-- each place has a number
pub has_number : (g : Grammar) (c : Place) → IsPlace g c → (k : ℕ) × IsNumber g k c
has_number g c place = number_from g c.rule c.dot c.inside place

-- a number is that of one place
pub one_place : (g : Grammar) (k : ℕ) (c d : Place) → IsNumber g k c → IsNumber g k d → c ≡ d
one_place g k c d is_c is_d = same c d (sym is_c ∙ is_d)
  where
    same : (c d : Place) → Some c ≡ Some d → c ≡ d
    same c d e = cc
