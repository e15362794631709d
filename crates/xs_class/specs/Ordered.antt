-- The names of a sheet, each a list of characters, in the order of their UTF-8 bytes.
use Rattle.std.specs.Prelude.{◌≡◌, ℕ, suc, ◌↔◌, List, [], ◌∷◌, Option, Some, None, cond, bytes_eq, encode_utf8_all}
use Rattle.std.specs.Option.{option_map}
use Rattle.std.specs.List.{AllPairs, Contains}
use Rattle.std.specs.Ordering.{nat_cmp}
use Rattle.std.specs.Cmp.Lexicographic.{slice_cmp}
use Rattle.std.specs.declared.cmp.Ordering.TheVariants.{Less}

-- the UTF-8 bytes of one name come before those of the other
abbrev pub IsBefore : List ℕ → List ℕ → Type 0
IsBefore a b = slice_cmp nat_cmp (encode_utf8_all a) (encode_utf8_all b) ≡ Less

-- each name comes before all later ones, so that none stands twice
abbrev pub IsOrdered : List (List ℕ) → Type 0
IsOrdered names = AllPairs IsBefore names

-- the first place at which a name stands
abbrev pub place_of : List (List ℕ) → List ℕ → Option ℕ
place_of [] name = None
place_of (n ∷ ns) name = cond (bytes_eq n name) (Some 0) (option_map suc (place_of ns name))

-- the names are those of the list, ordered and each once
pub record AreNamesOf (list names : List (List ℕ)) : Type 0 where
  pub ordered : IsOrdered names
  pub same : (name : List ℕ) → Contains names name ↔ Contains list name
