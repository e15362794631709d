-- What a node prints is what its production prints by itself, and what is printed at its slots.
use Rattle.std.proofs.Common.{◌≡◌, ℕ, ◌+◌, List, [], ◌∷◌, ◌++◌, length, refl, ap, arith, length-append}
use Rattle.xs_gram.specs.declared.parts.GItem.{GItem}
use Rattle.xs_gram.specs.declared.parts.GItem.TheVariants.{Fixed, Term, Non, Skip}
use Rattle.xs_gram.specs.Grammar.{Grammar, normal_word, slots}
use Rattle.xs_gram.specs.Common.{spelling}
use Rattle.xs_tree.specs.Counts.{capped}
use Rattle.xs_text_out.specs.Shares.{own_lengths, slots_length}

-- the slots of one item, and of the others
pub slots_first : (item : GItem) (is : List GItem) → slots (item ∷ is) ≡ slots (item ∷ []) ++ slots is
slots_first (Fixed f) is = refl
slots_first (Term t s) is = refl
slots_first (Non n s) is = refl
slots_first (Skip k) is = refl

-- the length of what items print
pub spelling_length : (g : Grammar) (is : List GItem) (at : ℕ → List ℕ) → length (spelling g is at) ≡ own_lengths g is + slots_length at (slots is)
spelling_length g [] at = refl
spelling_length g (Fixed f ∷ is) at =
    let rest = spelling_length g is at in
    omega (arith, rest, length-append f (spelling g is at))
spelling_length g (Term t s ∷ is) at =
    let rest = spelling_length g is at in
    omega (arith, rest, length-append (at s) (spelling g is at))
spelling_length g (Non n s ∷ is) at =
    let rest = spelling_length g is at in
    omega (arith, rest, length-append (at s) (spelling g is at))
spelling_length g (Skip k ∷ is) at =
    let rest = spelling_length g is at in
    omega (arith, rest, length-append (normal_word g k) (spelling g is at))

-- what a node prints, by the share of its production
pub node_counted_by : (g : Grammar) (is : List GItem) (at : ℕ → List ℕ) (own number : ℕ) (list : List ℕ) → own ≡ capped (own_lengths g is) → list ≡ slots is → number ≡ capped (own + slots_length at list) → number ≡ capped (length (spelling g is at))
node_counted_by g is at own number list own_is list_is counted =
    let long = spelling_length g is at in
    let same : slots_length at list ≡ slots_length at (slots is) = ap (slots_length at) list_is in
    omega (arith, own_is, counted, long, same)
