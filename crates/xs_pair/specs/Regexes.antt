-- Regexes that are the same but for where they stand in memory.
use Rattle.std.specs.Prelude.{◌≡◌, ⊤}
use Rattle.xs_regex.specs.declared.regex.Regex.{Regex}
use Rattle.xs_regex.specs.declared.regex.Regex.TheVariants.{Empty, Set, Then', Or', Star', Times'}

-- the second has the form of the first, the same classes and the same counts
abbrev pub IsCopyOf : Regex → Regex → Type 0
IsCopyOf Empty Empty = ⊤
IsCopyOf (Set class) (Set other) = other ≡ class
IsCopyOf (Then' p a q b) (Then' s c t d) = IsCopyOf a c × IsCopyOf b d
IsCopyOf (Or' p a q b) (Or' s c t d) = IsCopyOf a c × IsCopyOf b d
IsCopyOf (Star' p a) (Star' s c) = IsCopyOf a c
IsCopyOf (Times' p a least most) (Times' s c low high) = IsCopyOf a c × (low ≡ least) × (high ≡ most)
IsCopyOf r q = ⊥
