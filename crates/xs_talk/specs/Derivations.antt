-- The line of a derivation of a text, and the listing of some.
use Rattle.std.specs.Prelude.{◌≡◌, ℕ, suc, List, [], ◌∷◌, ◌++◌, Bool, length, map, codes, decimal, encode_utf8_all, slice_index_or, IsPermutation, if◌then◌else◌}
use Rattle.std.specs.List.Sorted.{IsSorted}
use Rattle.std.specs.List.{flat_map}
use Rattle.std.specs.Ordering.{nat_cmp}
use Rattle.std.specs.Cmp.Lexicographic.{slice_cmp}
use Rattle.xs_gram.specs.declared.parts.GItem.{GItem}
use Rattle.xs_gram.specs.declared.parts.GItem.TheVariants.{Fixed, Term, Non, Skip}
use Rattle.xs_gram.specs.Grammar.{items}
use Rattle.xs_gram.specs.Derivations.{Parts, fixed, leaf, skip, sub, Derivation}
use Rattle.xs_forest_laws.specs.Listing.{IsListed}
use Rattle.xs_pair.specs.Grammars.{Pair}
use Rattle.xs_talk.specs.Words.{quoted}

-- the name of a slot of a production, as bytes
abbrev pub slot_text : Pair → ℕ → ℕ → List ℕ
slot_text p rule slot = encode_utf8_all (slice_index_or (slice_index_or p.slots rule []) slot [])

-- a node: its production counted from 1, and its parts
abbrev pub node_text : ℕ → List ℕ → List ℕ
node_text rule inner = codes "(" ++ decimal (suc rule) ++ inner ++ codes ")"

-- what stands before a named part
abbrev pub slot_begin : Pair → ℕ → ℕ → List ℕ
slot_begin p rule slot = codes " " ++ slot_text p rule slot ++ codes ":"

-- The parts of a production's items, each after a space: a named part after its slot's name, the word of an
-- ignorable after a tilde, and nothing for a fixed word.
abbrev pub parts_text : Pair → ℕ → List GItem → Parts → List ℕ
parts_text p rule (Fixed f ∷ is) (fixed u ps) = parts_text p rule is ps
parts_text p rule (Term t s ∷ is) (leaf u ps) = slot_begin p rule s ++ quoted p.names u ++ parts_text p rule is ps
parts_text p rule (Skip k ∷ is) (skip u ps) = codes " ~" ++ quoted p.names u ++ parts_text p rule is ps
parts_text p rule (Non n s ∷ is) (sub q qs ps) = slot_begin p rule s ++ node_text q (parts_text p q (items p.text q) qs) ++ parts_text p rule is ps
parts_text p rule _ _ = []

-- a derivation of a text in one line
abbrev pub derivation_line : Pair → Derivation → List ℕ
derivation_line p d = node_text d.rule (parts_text p d.rule (items p.text d.rule) d.parts) ++ codes "\n"

-- the line that closes a listing
abbrev pub closing_line : ℕ → Bool → List ℕ
closing_line count more = decimal count ++ (if more then codes " trees, more\n" else codes " trees, no more\n")

-- The listing of different derivations of a text, as many as there are but at most that many: their lines in
-- ascending order of bytes, and the closing line.
pub record IsListing (p : Pair) (w : List ℕ) (max : ℕ) (answer : List ℕ) : Type 0 where
  pub derivations : List Derivation
  pub more : Bool
  pub listed : IsListed p.text w max derivations more
  pub lines : List (List ℕ)
  pub theirs : IsPermutation (map (derivation_line p) derivations) lines
  pub sorted : IsSorted (slice_cmp nat_cmp) lines
  pub is : answer ≡ flat_map (λ (line : List ℕ). line) lines ++ closing_line (length derivations) more
