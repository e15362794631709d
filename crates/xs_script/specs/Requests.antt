-- Edit scripts: their requests, and how each is spelt in a line.
use Rattle.std.specs.Prelude.{◌≡◌, ℕ, suc, ◌≤◌, List, [], ◌∷◌, ◌++◌, take, Some, slice_get, codes}
use Rattle.xs_lex.specs.Spelling.{IsQuoted}
use Rattle.xs_outline.specs.Lines.{IsNumeral, text_lines}
use Rattle.xs_script.specs.declared.request.Request.{Request}
use Rattle.xs_script.specs.declared.request.Request.TheVariants.{Put, Tree, Next}
use Rattle.xs_script.specs.declared.fault.ScriptFault.{ScriptFault}
use Rattle.xs_script.specs.declared.fault.ScriptFault.TheVariants as fault
use Rattle.xs_edit.specs.Edits.{document_limit}

-- decimal digits without a leading zero, of a number that is at most as great as a document is long
pub record IsNumber (digits : List ℕ) (n : ℕ) : Type 0 where
  pub numeral : IsNumeral digits n
  pub within : n ≤ document_limit

abbrev pub NoNumber : List ℕ → Type 0
NoNumber digits = (n : ℕ) → IsNumber digits n → ⊥

-- a place, how many symbols are replaced there, and by which, quoted as in a sheet; with one space between
pub record IsChange (text : List ℕ) (at cut : ℕ) (put : List ℕ) : Type 0 where
  pub at_digits : List ℕ
  pub cut_digits : List ℕ
  pub token : List ℕ
  pub is : text ≡ at_digits ++ 32 ∷ (cut_digits ++ 32 ∷ token)
  pub at_is : IsNumber at_digits at
  pub cut_is : IsNumber cut_digits cut
  pub put_is : IsQuoted token put

abbrev pub NoChange : List ℕ → Type 0
NoChange text = (at cut : ℕ) (put : List ℕ) → IsChange text at cut put → ⊥

-- the line spells the request
abbrev pub Spells : Request → List ℕ → Type 0
Spells (Put at cut put) text = (rest : List ℕ) × (text ≡ codes "put" ++ 32 ∷ rest) × IsChange rest at cut put
Spells Tree text = text ≡ codes "tree"
Spells (Next at) text = (rest : List ℕ) × (text ≡ codes "next" ++ 32 ∷ rest) × IsNumber rest at

abbrev pub NoRequest : List ℕ → Type 0
NoRequest text = (r : Request) → Spells r text → ⊥

-- each line spells the request in its place
abbrev pub AreSpelt : List Request → List (List ℕ) → Type 0
AreSpelt [] [] = Unit {0}
AreSpelt [] (t ∷ ts) = ⊥
AreSpelt (r ∷ rs) [] = ⊥
AreSpelt (r ∷ rs) (t ∷ ts) = Spells r t × AreSpelt rs ts

-- This line of the script, counted from 1, is the first that spells no request.
pub record IsBadAt (script : List ℕ) (line : ℕ) : Type 0 where
  pub before : ℕ
  pub is : line ≡ suc before
  pub requests : List Request
  pub spelt : AreSpelt requests (take before (text_lines script))
  pub text : List ℕ
  pub there : slice_get (text_lines script) before ≡ Some text
  pub bad : NoRequest text

-- why a script is not played
abbrev pub IsUnplayed : List ℕ → ScriptFault → Type 0
IsUnplayed script (fault.ScriptBad line) = IsBadAt script line
IsUnplayed script fault.Memory = Unit {0}
