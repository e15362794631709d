-- Laws that writers rely on.
use Rattle.std.specs.Prelude.{◌≡◌, ℕ, true, List, ◌∷◌, ◌++◌}
use Rattle.xs_lex.specs.declared.kind.Kind.{Kind}
use Rattle.xs_lex.specs.Classes.{is_white}
use Rattle.xs_lex.specs.Spelling.{Spells}
use Rattle.xs_lex.specs.Reading.{IsTokenAt}

-- a token's word before a space, a tab, CR or LF is a token by itself
abbrev pub Separated : Type 0
Separated = (kind : Kind) (word : List ℕ) (space : ℕ) (rest : List ℕ) → Spells kind word → is_white space ≡ true → IsTokenAt (word ++ space ∷ rest) kind word (space ∷ rest)
