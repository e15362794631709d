-- How many positions a regular expression has, and what is asked of its counts and classes.
use Rattle.std.specs.Prelude.{ℕ, zero, suc, ◌+◌, ◌*◌, ◌≤◌, max, List, [], ◌∷◌, ◌++◌, None, Some}
use Rattle.std.specs.declared.option.Option.{Option}
use Rattle.xs_class.specs.Classes.{Has}
use Rattle.xs_regex.specs.declared.regex.Regex.{Regex}
use Rattle.xs_regex.specs.declared.regex.Regex.TheVariants.{Empty, Set, Then', Or', Star', Times'}

-- how many copies a repetition stands for
abbrev pub copies : ℕ → Option ℕ → ℕ
copies least None = max least 1
copies least (Some most) = most

-- the list, that many times over
abbrev pub times : {X : Type 0} → ℕ → List X → List X
times zero xs = []
times (suc n) xs = xs ++ times n xs

-- the classes from left to right, those of a repetition once for each copy
abbrev pub sets : Regex → List (List (ℕ × ℕ))
sets Empty = []
sets (Set class) = class ∷ []
sets (Then' p a q b) = sets a ++ sets b
sets (Or' p a q b) = sets a ++ sets b
sets (Star' p a) = sets a
sets (Times' p a least most) = times (copies least most) (sets a)

-- one for each place of a class, where a repetition counts once for each copy
abbrev pub size : Regex → ℕ
size Empty = 0
size (Set class) = 1
size (Then' p a q b) = size a + size b
size (Or' p a q b) = size a + size b
size (Star' p a) = size a
size (Times' p a least most) = copies least most * size a

-- the greatest count, where it is given, is not below the least
abbrev pub IsInOrder : ℕ → Option ℕ → Type 0
IsInOrder least None = Unit {0}
IsInOrder least (Some most) = least ≤ most

-- no repetition has a greatest count below its least
abbrev pub IsBounded : Regex → Type 0
IsBounded Empty = Unit {0}
IsBounded (Set class) = Unit {0}
IsBounded (Then' p a q b) = IsBounded a × IsBounded b
IsBounded (Or' p a q b) = IsBounded a × IsBounded b
IsBounded (Star' p a) = IsBounded a
IsBounded (Times' p a least most) = IsInOrder least most × IsBounded a

-- the class has a member
abbrev pub HasMember : List (ℕ × ℕ) → Type 0
HasMember class = (s : ℕ) × Has class s

-- each class in the regex has a member, also one that is repeated no times
abbrev pub HasMembers : Regex → Type 0
HasMembers Empty = Unit {0}
HasMembers (Set class) = HasMember class
HasMembers (Then' p a q b) = HasMembers a × HasMembers b
HasMembers (Or' p a q b) = HasMembers a × HasMembers b
HasMembers (Star' p a) = HasMembers a
HasMembers (Times' p a least most) = HasMembers a
