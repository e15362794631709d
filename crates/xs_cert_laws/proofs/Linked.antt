-- Automata of regular expressions that are alike are linked alike.
use Rattle.std.proofs.Common.{◌≡◌, ◌∙◌, sym, ap, subst}
use Rattle.xs_regex.specs.declared.regex.Regex.{Regex}
use Rattle.xs_regex.specs.declared.position.Position.{Position}
use Rattle.xs_regex.specs.Automaton.{Leads}
use Rattle.xs_regex.specs.Links.{AreLinkedAlike, IsGlushkov}
use Rattle.xs_regex.proofs.Shapes.{one_automaton}
use Rattle.xs_gram.specs.Sound.{IsAutomaton}
use Rattle.xs_sheet_laws.specs.Regexes as R

pub linked : {r q : Regex} {a b : Position} → R.AreAlike r q → IsAutomaton r a → IsAutomaton q b → AreLinkedAlike a b
unfolding IsGlushkov
linked {r} {q} {a} {b} alike one two = one_automaton r q a b alike.form one.links two.links (one.classes ∙ alike.classes ∙ sym two.classes)

-- two that are one
pub same_linked : {a b : Position} → a ≡ b → AreLinkedAlike a b
same_linked e = record {
  classes = ap (λ (p : Position). p.classes) e;
  nullable = ap (λ (p : Position). p.nullable) e;
  first = ap (λ (p : Position). p.first) e;
  last = ap (λ (p : Position). p.last) e;
  follow = λ j k. (λ l. subst (λ (p : Position). Leads p j k) e l, λ l. subst (λ (p : Position). Leads p j k) (sym e) l);
}
