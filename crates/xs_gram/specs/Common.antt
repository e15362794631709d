-- Common trees: what both sides of a sheet share of a derivation, and its print.
use Rattle.std.specs.Prelude.{◌≡◌, ℕ, zero, suc, ◌+◌, ◌==◌, List, [], ◌∷◌, ◌++◌, length, None, Some, if◌then◌else◌}
use Rattle.std.specs.declared.option.Option.{Option}
use Rattle.xs_gram.specs.declared.parts.GItem.{GItem}
use Rattle.xs_gram.specs.declared.parts.GItem.TheVariants.{Fixed, Term, Non, Skip}
use Rattle.xs_gram.specs.Grammar.{Grammar, items, IsRuleOf, IsTermWord, normal_word}
use Rattle.xs_gram.specs.Derivations.{Parts, fixed, leaf, skip, sub, Derivation}

-- A common tree is a word, or a production and a child for each of its slots, in the order of the
-- slots.
mutual
  pub data Common : Type 0 where
    word : List ℕ → Common
    made : ℕ → Kids → Common

  pub data Kids : Type 0 where
    no_kid : Kids
    kid : Common → Kids → Kids

-- what stands in a list under a number
abbrev pub lookup : {A : Type 0} → ℕ → List (ℕ × A) → Option A
lookup slot [] = None
lookup slot (e ∷ es) = if e.0 == slot then Some e.1 else lookup slot es

-- the child found, the empty word where there is none
abbrev pub child_of : Option Common → Common
child_of None = word []
child_of (Some t) = t

-- the children at that many slots from one on
abbrev pub in_order : ℕ → ℕ → List (ℕ × Common) → Kids
in_order zero slot es = no_kid
in_order (suc count) slot es = kid (child_of (lookup slot es)) (in_order count (slot + 1) es)

-- the children in the order of their slots
abbrev pub children : List (ℕ × Common) → Kids
children es = in_order (length es) 0 es

-- the parts that have a slot, each with it
abbrev pub named : Grammar → List GItem → Parts → List (ℕ × Common)
named g (Fixed f ∷ is) (fixed u ps) = named g is ps
named g (Term t s ∷ is) (leaf u ps) = (s, word u) ∷ named g is ps
named g (Skip k ∷ is) (skip u ps) = named g is ps
named g (Non n s ∷ is) (sub q qs ps) = (s, made q (children (named g (items g q) qs))) ∷ named g is ps
named g _ _ = []

-- the common tree of a derivation: the parts that have a slot, under it
abbrev pub strip : Grammar → Derivation → Common
strip g d = made d.rule (children (named g (items g d.rule) d.parts))

-- the words of the items in order, that of a slot given
abbrev pub spelling : Grammar → List GItem → (ℕ → List ℕ) → List ℕ
spelling g [] at = []
spelling g (Fixed f ∷ is) at = f ++ spelling g is at
spelling g (Term t s ∷ is) at = at s ++ spelling g is at
spelling g (Non n s ∷ is) at = at s ++ spelling g is at
spelling g (Skip k ∷ is) at = normal_word g k ++ spelling g is at

-- word k of a list, the empty word where there is none
abbrev pub word_at : List (List ℕ) → ℕ → List ℕ
word_at [] k = []
word_at (w ∷ ws) zero = w
word_at (w ∷ ws) (suc k) = word_at ws k

-- the word of a common tree on this side, each ignorable in its normal spelling
abbrev mutual
  pub print : Grammar → Common → List ℕ
  print g (word w) = w
  print g (made p kids) = spelling g (items g p) (word_at (print_kids g kids))

  pub print_kids : Grammar → Kids → List (List ℕ)
  print_kids g no_kid = []
  print_kids g (kid t kids) = print g t ∷ print_kids g kids

-- what may stand under a slot: a word of a terminal, or a tree of a nonterminal
pub data Kind : Type 0 where
  of_term : ℕ → Kind
  of_non : ℕ → Kind

-- the slots of the items, each with its kind
abbrev pub kinds : List GItem → List (ℕ × Kind)
kinds [] = []
kinds (Fixed f ∷ is) = kinds is
kinds (Term t s ∷ is) = (s, of_term t) ∷ kinds is
kinds (Non n s ∷ is) = (s, of_non n) ∷ kinds is
kinds (Skip k ∷ is) = kinds is

abbrev mutual
  -- the tree is of a production of the nonterminal
  pub TreeFits : Grammar → ℕ → Common → Type 0
  TreeFits g non (word w) = ⊥
  TreeFits g non (made p kids) = IsRuleOf g non p × KidsFit g (items g p) 0 kids

  -- the children from this slot on, up to the number of slots, each of its slot's kind
  pub KidsFit : Grammar → List GItem → ℕ → Kids → Type 0
  KidsFit g is slot no_kid = slot ≡ length (kinds is)
  KidsFit g is slot (kid t kids) = KidFits g (lookup slot (kinds is)) t × KidsFit g is (slot + 1) kids

  pub KidFits : Grammar → Option Kind → Common → Type 0
  KidFits g (Some (of_term t)) (word w) = IsTermWord g t w
  KidFits g (Some (of_non n)) (made p kids) = IsRuleOf g n p × KidsFit g (items g p) 0 kids
  KidFits g kind t = ⊥

-- the number of nodes and leaves
abbrev mutual
  pub parts_count : Common → ℕ
  parts_count (word w) = 1
  parts_count (made p kids) = suc (kids_count kids)

  pub kids_count : Kids → ℕ
  kids_count no_kid = 0
  kids_count (kid t kids) = parts_count t + kids_count kids
