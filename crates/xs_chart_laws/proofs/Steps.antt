-- What an item that stands leads to stands.
use Rattle.std.proofs.Common.{◌≡◌, ℕ, suc, List, length, sym, subst, inl, inr, Some, None}
use Rattle.std.specs.declared.option.Option.{Option}
use Rattle.std.specs.Prelude.{slice_get}
use Rattle.xs_regex.specs.declared.position.Position.{Position}
use Rattle.xs_gram.specs.declared.places.Place.{Place}
use Rattle.xs_gram.specs.Grammar.{Grammar, items, IsRuleOf}
use Rattle.xs_gram.specs.Sound.{IsBuilt}
use Rattle.xs_gram.specs.Chart.{Stands}
use Rattle.xs_gram.specs.Places.{at_dot, at_inside}
use Rattle.xs_gram.proofs.Numbers.{as_dot, as_inside}
use Rattle.xs_chart_laws.specs.Steps.{next_of, IsBefore, IsAtEnd, HasAutomaton, IsPassed, GoesBy, Arrives}
use Rattle.xs_chart_laws.proofs.Standing as Standing

pub stands_at_dot : (g : Grammar) (w : List ℕ) (c : Place) (i j : ℕ) → c.inside ≡ None → Stands g w c i j → Stands g w (at_dot c.rule c.dot) i j
stands_at_dot g w c i j none st = subst (λ d. Stands g w d i j) (sym (as_dot c none)) st

pub stands_at_inside : (g : Grammar) (w : List ℕ) (c : Place) (k i j : ℕ) → c.inside ≡ Some k → Stands g w c i j → Stands g w (at_inside c.rule c.dot k) i j
stands_at_inside g w c k i j some st = subst (λ d. Stands g w d i j) (sym (as_inside c k some)) st

module _ (g : Grammar) (w : List ℕ) (built : IsBuilt g) where
  pub passed_stands : (c : Place) (i j : ℕ) → Stands g w c i j → IsPassed g c → Stands g w (next_of c) i j
  passed_stands c i j st (inl (non, before, null)) = Standing.passes_non g w built c.rule c.dot i j non before.1 (stands_at_dot g w c i j before.0 st) before.2 null
  passed_stands c i j st (inr (a, h, inl e)) = Standing.passes g w built c.rule c.dot i j h.0 a (stands_at_dot g w c i j e.0 st) h.1 h.2 e.1
  passed_stands c i j st (inr (a, h, inr e)) = Standing.ends g w built c.rule c.dot i j e.0 h.0 a (stands_at_inside g w c e.0 i j e.1 st) h.1 h.2 e.2

  pub called_stands : (c : Place) (i j non q : ℕ) → Stands g w c i j → IsBefore g c non → IsRuleOf g non q → Stands g w (at_dot q 0) j j
  called_stands c i j non q st before rule = Standing.predicts g w built c.rule c.dot i j non before.1 q (stands_at_dot g w c i j before.0 st) before.2 rule

  pub completed_stands : (c : Place) (i j non : ℕ) (d : Place) (o : ℕ) → Stands g w c i j → IsAtEnd g c non → Stands g w d o i → IsBefore g d non → Stands g w (next_of d) o j
  completed_stands c i j non d o st end waiting before =
      let whole : Stands g w (at_dot c.rule (length (items g c.rule))) i j = subst (λ n. Stands g w (at_dot c.rule n) i j) end.1 (stands_at_dot g w c i j end.0 st) in
      Standing.completes g w built d.rule d.dot o i j non before.1 c.rule (stands_at_dot g w d o i before.0 waiting) before.2 end.2 whole

  goes_stands : (p n : ℕ) (o : Option ℕ) (i j x k : ℕ) (a : Position) → Stands g w (record { rule = p; dot = n; inside = o }) i j → HasAutomaton g (record { rule = p; dot = n; inside = o }) a → slice_get w j ≡ Some x → GoesBy a o x k → Stands g w (at_inside p n k) i (suc j)
  goes_stands p n None i j x k a st h e goes = Standing.enters g w built p n i j k x h.0 a st h.1 h.2 e goes.0 goes.1
  goes_stands p n (Some m) i j x k a st h e goes = Standing.steps g w built p n i j m k x h.0 a st h.1 h.2 e goes.0 goes.1

  pub arrived_stands : (c : Place) (i j k : ℕ) (d : Place) → Stands g w c i j → Arrives g w j c k d → Stands g w d i k
  arrived_stands c i j k d st (inl (next, x, e, a, h, m, goes, is)) =
      subst (λ y. Stands g w y i k) (sym is) (subst (λ l. Stands g w (at_inside c.rule c.dot m) i l) (sym next) (goes_stands c.rule c.dot c.inside i j x m a st h e goes))
  arrived_stands c i j k d st (inr (f, none, at, r, is)) =
      subst (λ y. Stands g w y i k) (sym is) (Standing.reads g w built c.rule c.dot i j k f (stands_at_dot g w c i j none st) at r)

  -- a rule of the start at its front
  pub start_stands : (p : ℕ) → IsRuleOf g g.start p → Stands g w (at_dot p 0) 0 0
  start_stands p rule = Standing.starts g w built p rule
