-- The lines that answer requests.
use Rattle.std.proofs.Common.{inl, inr, ℕ, List, Some, None, refl}
use Rattle.std.specs.Prelude.{codes}
use Rattle.xs_class.specs.Classes.{IsClass}
use Rattle.xs_gram.specs.Languages.{IsViable}
use Rattle.xs_listing.specs.declared.spelt.SpeltPart.{SpeltPart}
use Rattle.xs_pair.specs.Grammars.{Pair}
use Rattle.xs_talk.specs.Walk.{IsLineOf}
use Rattle.xs_edit.specs.Sessions.{IsTreeOf, IsNext}
use Rattle.xs_script.specs.Playing.{number_line, next_line, IsTreeAnswer, IsNextAnswer}

-- the line of a derivation
pub tree_answer : (p : Pair) (doc : List ℕ) (spelt : List SpeltPart) (line : List ℕ) → IsTreeOf p.text doc (Some spelt) → IsLineOf p doc spelt line → IsTreeAnswer p doc line
tree_answer p doc spelt line tree is = inl (tree.0, tree.1, is tree.0 tree.1 tree.2)

pub foreign_answer : (p : Pair) (doc : List ℕ) (k : ℕ) → IsTreeOf p.text doc None → IsViable p.text doc k → IsTreeAnswer p doc (number_line (codes "foreign ") k)
foreign_answer p doc k none viable = inr (none, k, viable, refl)

-- the line of what may come next
pub next_answer : (p : Pair) (doc : List ℕ) (at : ℕ) (class : List (ℕ × ℕ)) → IsNext p.text doc at (Some class) → IsClass class → IsNextAnswer p doc at (next_line p.names class)
next_answer p doc at class next sorted = inl (next.0, next.1, next.2, class, sorted, next.3, refl)

pub beyond_answer : (p : Pair) (doc : List ℕ) (at : ℕ) → IsNext p.text doc at None → IsNextAnswer p doc at (codes "no beyond\n")
beyond_answer p doc at next = inr (next.0, next.1, next.2, refl)
