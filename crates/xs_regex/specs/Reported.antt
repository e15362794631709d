-- What a part of the reader answers.
use Rattle.std.specs.Prelude.{◌≡◌, ◌⊎◌, ◌↔◌, ℕ, List, IsSomeAnd, None, Ok, Err}
use Rattle.std.specs.declared.option.Option.{Option}
use Rattle.std.specs.declared.result.Result.{Result}
use Rattle.xs_class.specs.Classes.{Has}
use Rattle.xs_regex.specs.declared.fault.RegexFault.{RegexFault}
use Rattle.xs_regex.specs.declared.fault.RegexFault.TheVariants.{BadRegex}

-- what was to be read, or a refusal where there is nothing to be read
abbrev pub IsReported : {A B : Type 0} → Option A → (A → B → Type 0) → Result B RegexFault → Type 0
IsReported o P (Ok x) = IsSomeAnd o (λ a. P a x)
IsReported o P (Err e) = e ≡ BadRegex → o ≡ None

-- the ranges have these symbols besides those of before
abbrev pub Adds : List (ℕ × ℕ) → List (ℕ × ℕ) → (ℕ → Type 0) → Type 0
Adds old new P = (s : ℕ) → Has new s ↔ (Has old s ⊎ P s)
