-- How spread items and the partners of left fences are found, and what a grammar keeps of them.
use Rattle.std.specs.Prelude.{◌≡◌, ℕ, ◌+◌, ◌<◌, List, [], ◌∷◌, length, Bool, false, None, Some, slice_index_or, if◌then◌else◌}
use Rattle.std.specs.declared.option.Option.{Option}
use Rattle.xs_gram.specs.declared.parts.GItem.{GItem}
use Rattle.xs_gram.specs.declared.parts.GItem.TheVariants.{Fixed, Term, Non, Skip}
use Rattle.xs_gram.specs.Grammar.{Grammar}
use Rattle.xs_gram.specs.Fences.{is_left, is_right, spread}

-- whether the item is a left fence, a right fence: a fixed word of one such symbol
abbrev pub is_one : (ℕ → Bool) → List ℕ → Bool
is_one test [] = false
is_one test (s ∷ []) = test s
is_one test (s ∷ t ∷ w) = false

abbrev pub opens : List (ℕ × ℕ) → GItem → Bool
opens fs (Fixed w) = is_one (is_left fs) w
opens fs (Term t s) = false
opens fs (Non n s) = false
opens fs (Skip k) = false

abbrev pub closes : List (ℕ × ℕ) → GItem → Bool
closes fs (Fixed w) = is_one (is_right fs) w
closes fs (Term t s) = false
closes fs (Non n s) = false
closes fs (Skip k) = false

-- the first of the numbers, and those after it
abbrev pub first_of : List ℕ → Option ℕ
first_of [] = None
first_of (n ∷ ns) = Some n

abbrev pub after_first : List ℕ → List ℕ
after_first [] = []
after_first (n ∷ ns) = ns

-- Where right fences stand that close nothing so far: item `place`, and then those of the items after
-- it.
abbrev pub waiting_from : List (ℕ × ℕ) → ℕ → GItem → List ℕ → List ℕ
waiting_from fs place item later = if closes fs item then place ∷ later else (if opens fs item then after_first later else later)

abbrev pub waiting : List (ℕ × ℕ) → ℕ → List GItem → List ℕ
waiting fs place [] = []
waiting fs place (i ∷ is) = waiting_from fs place i (waiting fs (place + 1) is)

-- the partner of an item, where it is a left fence: the first right fence after it that closes nothing so
-- far
abbrev pub partner_from : List (ℕ × ℕ) → GItem → List ℕ → Option ℕ
partner_from fs item later = if closes fs item then None else (if opens fs item then first_of later else None)

abbrev pub partners : List (ℕ × ℕ) → ℕ → List GItem → List (Option ℕ)
partners fs place [] = []
partners fs place (i ∷ is) = partner_from fs i (waiting fs (place + 1) is) ∷ partners fs (place + 1) is

-- the spread items of that many rules
pub record AreSpreads (g : Grammar) (count : ℕ) (spreads : List (List GItem)) : Type 0 where
  pub rows : length spreads ≡ count
  pub found : (p : ℕ) → p < count → slice_index_or spreads p [] ≡ spread g p

-- the partners of the spread items of that many rules
pub record ArePartners (g : Grammar) (count : ℕ) (lists : List (List (Option ℕ))) : Type 0 where
  pub rows : length lists ≡ count
  pub found : (p : ℕ) → p < count → slice_index_or lists p [] ≡ partners g.fences 0 (spread g p)
