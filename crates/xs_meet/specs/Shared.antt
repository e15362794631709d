-- What searches over pairs of states look for: a word that two nets accept, and words that overlap.
use Rattle.std.specs.Prelude.{ℕ, ◌<◌, List, ◌++◌, length}
use Rattle.xs_auto.specs.Nets.{Graph, Accepts}
use Rattle.xs_auto.specs.Nests.{Group, AcceptsNested}

-- both nets accept the word
pub record IsShared (m n : Graph) (w : List ℕ) : Type 0 where
  pub first : Accepts m w
  pub second : Accepts n w

-- a is not empty, the front net accepts x and xa, and the rest net accepts y and ay
pub record AreOverlap (front rest : Graph) (x a y : List ℕ) : Type 0 where
  pub some : 0 < length a
  pub short_front : Accepts front x
  pub long_front : Accepts front (x ++ a)
  pub short_rest : Accepts rest y
  pub long_rest : Accepts rest (a ++ y)

-- both nets accept the word over the nest
pub record IsSharedOver (nest : List Group) (m n : Graph) (w : List ℕ) : Type 0 where
  pub first : AcceptsNested nest m w
  pub second : AcceptsNested nest n w

-- the same of the words of an overlap
pub record AreOverlapOver (nest : List Group) (front rest : Graph) (x a y : List ℕ) : Type 0 where
  pub some : 0 < length a
  pub short_front : AcceptsNested nest front x
  pub long_front : AcceptsNested nest front (x ++ a)
  pub short_rest : AcceptsNested nest rest y
  pub long_rest : AcceptsNested nest rest (a ++ y)
