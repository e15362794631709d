-- Rules of a grammar as clauses.
use Rattle.std.specs.Prelude.{◌≡◌, ℕ, ◌<◌, Bool, true, List, [], ◌∷◌, length}
use Rattle.std.specs.List.{Contains}
use Rattle.xs_clauses.specs.declared.clause.Clause.{Clause}
use Rattle.xs_clauses.specs.Made.{IsMade, AreFlags}
use Rattle.xs_gram.specs.declared.parts.GItem.{GItem}
use Rattle.xs_gram.specs.declared.parts.GItem.TheVariants.{Fixed, Term, Non, Skip}
use Rattle.xs_gram.specs.Grammar.{Grammar, rule_of, items}
use Rattle.xs_order.specs.declared.leaves.Leaves.{Leaves}
use Rattle.xs_order.specs.Leaves.{all_good}

-- the nonterminals among items
abbrev pub nons_of : List GItem → List ℕ
nons_of [] = []
nons_of (Fixed f ∷ is) = nons_of is
nons_of (Term t s ∷ is) = nons_of is
nons_of (Non n s ∷ is) = n ∷ nons_of is
nons_of (Skip k ∷ is) = nons_of is

-- rule p as a clause: its nonterminal is made where those of its items are
abbrev pub clause_at : Grammar → ℕ → Clause
clause_at g p = record { head = (rule_of g p).non; premises = nons_of (items g p) }

-- rule p comes before rule `end`, and all its items are good
pub record IsGoodRule (g : Grammar) (l : Leaves) (end p : ℕ) : Type 0 where
  pub rule : p < end
  pub good : all_good l (items g p) ≡ true

-- the clauses are those of the rules before rule `end` all of whose items are good
pub record AreClauses (g : Grammar) (l : Leaves) (end : ℕ) (clauses : List Clause) : Type 0 where
  pub there : (p : ℕ) → IsGoodRule g l end p → Contains clauses (clause_at g p)
  pub only : (c : Clause) → Contains clauses c → (p : ℕ) × IsGoodRule g l end p × (c ≡ clause_at g p)

-- the flags of the nonterminals that these clauses make
pub record AreMadeFlags (g : Grammar) (l : Leaves) (flags : List Bool) : Type 0 where
  pub clauses : List Clause
  pub are : AreClauses g l (length g.rules) clauses
  pub made : AreFlags (IsMade clauses) g.nons flags
