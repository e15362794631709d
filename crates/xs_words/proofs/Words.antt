-- Lists that are too short or too long for a command.
use Rattle.std.proofs.Common.{◌≡◌, ℕ, ◌<◌, List, [], ◌∷◌, None, map, length, refl, arith}
use Rattle.xs_words.specs.Command.{command_of}

pub no_words : {A : Type 0} (f : A → List ℕ) (ws : List A) → length ws < 1 → None ≡ command_of (map f ws)
no_words f [] h = refl
no_words f (a ∷ ws) h = absurd (omega (arith, h))

pub many_words : {A : Type 0} (f : A → List ℕ) (ws : List A) → 4 < length ws → None ≡ command_of (map f ws)
many_words f [] h = absurd (omega (arith, h))
many_words f (a ∷ []) h = absurd (omega (arith, h))
many_words f (a ∷ b ∷ []) h = absurd (omega (arith, h))
many_words f (a ∷ b ∷ c ∷ []) h = absurd (omega (arith, h))
many_words f (a ∷ b ∷ c ∷ d ∷ []) h = absurd (omega (arith, h))
many_words f (a ∷ b ∷ c ∷ d ∷ e ∷ ws) h = refl
