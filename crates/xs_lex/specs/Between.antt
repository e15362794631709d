-- What may stand between tokens.
use Rattle.std.specs.Prelude.{◌≡◌, ℕ, Bool, true, false, List, [], ◌∷◌, ◌++◌, ◌==◌, ◌&&◌, ◌||◌, not}
use Rattle.std.specs.List.{list_all}
use Rattle.xs_lex.specs.Classes.{is_white}

-- one space, tab, CR or LF; or # and the characters of a comment
pub data Blank : Type 0 where
  white : ℕ → Blank
  comment : List ℕ → Blank

abbrev pub spelt_blanks : List Blank → List ℕ → List ℕ
spelt_blanks [] rest = rest
spelt_blanks (white c ∷ bs) rest = c ∷ spelt_blanks bs rest
spelt_blanks (comment body ∷ bs) rest = 35 ∷ (body ++ spelt_blanks bs rest)

-- nothing, or what begins with LF
abbrev pub ends_line : List ℕ → Bool
ends_line [] = true
ends_line (c ∷ cs) = c == 10

-- a comment has no LF, and goes on up to LF or the end
abbrev pub are_blanks : List Blank → List ℕ → Bool
are_blanks [] rest = true
are_blanks (white c ∷ bs) rest = is_white c && are_blanks bs rest
are_blanks (comment body ∷ bs) rest = list_all (λ c. not (c == 10)) body && (ends_line (spelt_blanks bs rest) && are_blanks bs rest)

abbrev pub begins_blank : List ℕ → Bool
begins_blank [] = false
begins_blank (c ∷ cs) = is_white c || c == 35

-- the text is white space and comments, then rest, which begins with neither
pub record IsApart (text rest : List ℕ) : Type 0 where
  pub blanks : List Blank
  pub is : text ≡ spelt_blanks blanks rest
  pub each : are_blanks blanks rest ≡ true
  pub ends : begins_blank rest ≡ false
