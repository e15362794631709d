-- Regular expressions that are alike.
use Rattle.std.specs.Prelude.{◌≡◌, ◌↔◌, ℕ, List}
use Rattle.xs_regex.specs.declared.regex.Regex.{Regex}
use Rattle.xs_regex.specs.Links.{shape}
use Rattle.xs_regex.specs.Matches.{Matches}
use Rattle.xs_regex.specs.Size.{size, sets}

-- they have one size, one shape and the same classes, and match the same words
pub record AreAlike (r q : Regex) : Type 0 where
  pub size : size r ≡ size q
  pub form : shape r ≡ shape q
  pub classes : sets r ≡ sets q
  pub words : (w : List ℕ) → Matches r w ↔ Matches q w
