-- Lists in a hashed set, each once, by their numbers.
use Rattle.std.specs.Prelude.{◌≡◌, ◌⊎◌, List, [], ◌∷◌, ◌++◌, map}
use Rattle.std.specs.Global.{Vec}

-- the lists of the vectors
abbrev pub lists_of : {A : Type 0} → List (Vec A) → List (List A)
lists_of {A} vectors = map (λ (v : Vec A). v.items) vectors

-- the lists are as they were, or one more stands last
abbrev pub IsGrown : {A : Type 0} → List (List A) → List A → List (List A) → Type 0
IsGrown {A} old list new = (new ≡ old) ⊎ (new ≡ old ++ list ∷ [])
