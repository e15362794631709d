-- What each kind of token spells, in characters.
use Rattle.std.specs.Prelude.{◌≡◌, ℕ, Bool, true, false, List, [], ◌∷◌, ◌++◌, map, ◌==◌}
use Rattle.std.specs.List.{list_all}
use Rattle.xs_lex.specs.declared.kind.Kind.{Kind}
use Rattle.xs_lex.specs.declared.kind.Kind.TheVariants.{Plain, Qual, Quoted, Pattern, Colon, Equals, SquareIn, SquareOut, Angle, AngleSlash, AngleEnd, SlashEnd, End, Bad}
use Rattle.xs_lex.specs.Classes.{is_plain}
use Rattle.xs_lex.specs.Units.{QuotedUnit, is_quoted_unit, spelt_quoted, meaning, PatternUnit, is_pattern_unit, spelt_pattern}

-- two plain names with a colon between them
pub record IsQual (word : List ℕ) : Type 0 where
  pub prefix : List ℕ
  pub local : List ℕ
  pub is : word ≡ prefix ++ 58 ∷ local
  pub plain_prefix : is_plain prefix ≡ true
  pub plain_local : is_plain local ≡ true

-- units between two quotation marks, which stand for these characters
pub record IsQuoted (word value : List ℕ) : Type 0 where
  pub units : List QuotedUnit
  pub is : word ≡ 34 ∷ spelt_quoted units (34 ∷ [])
  pub each : list_all is_quoted_unit units ≡ true
  pub means : value ≡ map meaning units

abbrev pub begins_with : ℕ → List ℕ → Bool
begins_with c [] = false
begins_with c (d ∷ ds) = d == c

-- units between two slashes; a slash that > follows begins no pattern
pub record IsPattern (word inner : List ℕ) : Type 0 where
  pub units : List PatternUnit
  pub spelt : inner ≡ spelt_pattern units []
  pub each : list_all is_pattern_unit units ≡ true
  pub no_end : begins_with 62 inner ≡ false
  pub is : word ≡ 47 ∷ (inner ++ 47 ∷ [])

-- the word is a spelling of a token of this kind
abbrev pub Spells : Kind → List ℕ → Type 0
Spells Plain word = is_plain word ≡ true
Spells Qual word = IsQual word
Spells Quoted word = (value : List ℕ) × IsQuoted word value
Spells Pattern word = (inner : List ℕ) × IsPattern word inner
Spells Colon word = word ≡ 58 ∷ []
Spells Equals word = word ≡ 61 ∷ []
Spells SquareIn word = word ≡ 91 ∷ []
Spells SquareOut word = word ≡ 93 ∷ []
Spells Angle word = word ≡ 60 ∷ []
Spells AngleSlash word = word ≡ 60 ∷ 47 ∷ []
Spells AngleEnd word = word ≡ 62 ∷ []
Spells SlashEnd word = word ≡ 47 ∷ 62 ∷ []
Spells End word = ⊥
Spells Bad word = ⊥
