-- How items are laid in a net, with the number of each state fixed.
--
-- An item stands between a state before it and a state after it. It has a block of as many states
-- as it weighs, from `at` on and below `next`; the state after it is one of the block.
use Rattle.std.specs.Prelude.{◌≡◌, ℕ, zero, suc, ◌+◌, ◌*◌, List, [], ◌∷◌, ◌++◌, length}
use Rattle.xs_gram.specs.declared.parts.GItem.{GItem}
use Rattle.xs_gram.specs.declared.parts.GItem.TheVariants.{Fixed, Term, Non, Skip}
use Rattle.xs_gram.specs.Grammar.{Grammar, rule_of, term_of, skip_of}
use Rattle.xs_gram.specs.Fences.{spread, IsFence, IsPlain, IsLevel, grouped}
use Rattle.xs_gram.specs.Loose.{AreOne, IsMember}
use Rattle.xs_check_laws.specs.Weights.{Members}
use Rattle.xs_loose.specs.Arcs.{Arc, pass, call, word_arcs, after_word, automaton_arcs, after_automaton}
use Rattle.xs_loose.specs.Groups.{group_number}

-- where the states of a component's members are from `first` on, the entry and the exit of the
-- member below which that many are members
abbrev pub entry_state : ℕ → ℕ → ℕ
entry_state first k = first + 2 * k

abbrev pub exit_state : ℕ → ℕ → ℕ
exit_state first k = suc (first + 2 * k)

mutual
  -- an item that is laid whole: a word, an automaton, or a nonterminal with all of its component,
  -- whose entry an empty move leads to, and whose exit is the state after it
  pub data LaysItem (g : Grammar) : GItem → ℕ → ℕ → List Arc → ℕ → ℕ → Type 0 where
    lays_fixed : {f : List ℕ} {before at after next : ℕ} {arcs : List Arc} → arcs ≡ word_arcs f before at → after ≡ after_word f before at → next ≡ at + length f → LaysItem g (Fixed f) before at arcs after next
    lays_term : {t s before at after next : ℕ} {arcs : List Arc} → arcs ≡ automaton_arcs (term_of g t).automaton before at → after ≡ after_automaton (term_of g t).automaton at → next ≡ suc after → LaysItem g (Term t s) before at arcs after next
    lays_skip : {k before at after next : ℕ} {arcs : List Arc} → arcs ≡ automaton_arcs (skip_of g k).automaton before at → after ≡ after_automaton (skip_of g k).automaton at → next ≡ suc after → LaysItem g (Skip k) before at arcs after next
    lays_non : {n s k before at after next : ℕ} {own arcs : List Arc} → Members g n n k → LaysComponent g n at own next → arcs ≡ pass before (entry_state at k) ∷ own → after ≡ exit_state at k → LaysItem g (Non n s) before at arcs after next

  -- the component of c: the entry and the exit of each member in ascending order, and then the
  -- rules of its members
  pub data LaysComponent (g : Grammar) : ℕ → ℕ → List Arc → ℕ → Type 0 where
    lays_component : {c count first next : ℕ} {arcs : List Arc} → Members g c g.nons count → LaysRules g c first (length g.rules) (first + 2 * count) arcs next → LaysComponent g c first arcs next

  -- of the rules below the bound those of members of the component of c, whose states are from
  -- `first` on: for each its place 0, and then its items; a walk begins at the entry and ends at
  -- the exit of its nonterminal
  pub data LaysRules (g : Grammar) : ℕ → ℕ → ℕ → ℕ → List Arc → ℕ → Type 0 where
    lays_no_rule : {c first at : ℕ} → LaysRules g c first zero at [] at
    lays_rule : {c first p k at place last next : ℕ} {before own arcs : List Arc} → AreOne g c (rule_of g p).non → Members g c (rule_of g p).non k → LaysRules g c first p at before place → LaysBody g c first p 0 (spread g p) place (suc place) own last next → arcs ≡ before ++ pass (entry_state first k) place ∷ (own ++ pass last (exit_state first k) ∷ []) → LaysRules g c first (suc p) at arcs next
    lays_other_rule : {c first p at next : ℕ} {arcs : List Arc} → (AreOne g c (rule_of g p).non → ⊥) → LaysRules g c first p at arcs next → LaysRules g c first (suc p) at arcs next

  -- Outer items and groups of a rule p of a member, from spread item k on. A member has one state,
  -- which is after it: a walk goes on to its entry, and from its exit to that state.
  pub data LaysBody (g : Grammar) : ℕ → ℕ → ℕ → ℕ → List GItem → ℕ → ℕ → List Arc → ℕ → ℕ → Type 0 where
    lays_no_body : {c first p k before at : ℕ} → LaysBody g c first p k [] before at [] before at
    lays_member : {c first p k n s j before at after next : ℕ} {is : List GItem} {rest arcs : List Arc} → AreOne g c n → Members g c n j → LaysBody g c first p (suc k) is at (suc at) rest after next → arcs ≡ pass before (entry_state first j) ∷ pass (exit_state first j) at ∷ rest → LaysBody g c first p k (Non n s ∷ is) before at arcs after next
    lays_other : {c first p k before at between then after next : ℕ} {i : GItem} {is : List GItem} {own rest arcs : List Arc} → IsPlain g.fences i → (IsMember g c i → ⊥) → LaysItem g i before at own between then → LaysBody g c first p (suc k) is between then rest after next → arcs ≡ own ++ rest → LaysBody g c first p k (i ∷ is) before at arcs after next
    lays_group : {c first p k l r before at after next : ℕ} {inside later is : List GItem} {rest arcs : List Arc} → IsFence g.fences l r → IsLevel g.fences inside → LaysBody g c first p (suc (suc (k + length inside))) later (suc at) (suc (suc at)) rest after next → is ≡ grouped l inside r later → arcs ≡ call before (group_number g p k) at ∷ pass at (suc at) ∷ rest → LaysBody g c first p k is before at arcs after next

-- outer items and groups of a level stretch, from spread item k of rule p on: a group has two
-- states, the first after a call of it, the second after an empty move from there
pub data LaysPart (g : Grammar) (p : ℕ) : ℕ → List GItem → ℕ → ℕ → List Arc → ℕ → ℕ → Type 0 where
  part_none : {k before at : ℕ} → LaysPart g p k [] before at [] before at
  part_then : {k before at between then after next : ℕ} {i : GItem} {is : List GItem} {own rest arcs : List Arc} → IsPlain g.fences i → LaysItem g i before at own between then → LaysPart g p (suc k) is between then rest after next → arcs ≡ own ++ rest → LaysPart g p k (i ∷ is) before at arcs after next
  part_group : {k l r before at after next : ℕ} {inside later is : List GItem} {rest arcs : List Arc} → IsFence g.fences l r → IsLevel g.fences inside → LaysPart g p (suc (suc (k + length inside))) later (suc at) (suc (suc at)) rest after next → is ≡ grouped l inside r later → arcs ≡ call before (group_number g p k) at ∷ pass at (suc at) ∷ rest → LaysPart g p k is before at arcs after next
