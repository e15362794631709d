-- Where a list stands in a hashed set.
use Rattle.std.proofs.Common.{◌≡◌, ◌∙◌, ℕ, Bool, true, List, [], ◌∷◌, get_or, slice_get, Some, sym, ap}
use Rattle.std.proofs.lemmas.List.Quantifiers.{position-Some}
use Rattle.std.proofs.lemmas.Option.{none-some, slice_get-get_or, slice_get-map}
use Rattle.std.specs.Global.{Vec}
use Rattle.std.specs.List.{position}
use Rattle.std.specs.Option.{option_map}
use Rattle.xs_atoms.specs.Interned.{lists_of}

module _ {A : Type 0} (test : Vec A → Bool) (list : List A) (same : (v : Vec A) → test v ≡ true → list ≡ v.items) where
  -- what passes the test is the list
  pub list_there : (keys : List (Vec A)) (n : ℕ) (v : Vec A) → slice_get keys n ≡ Some v → test v ≡ true → slice_get (lists_of keys) n ≡ Some list
  list_there keys n v found passes = slice_get-map (λ (w : Vec A). w.items) keys n ∙ ap (option_map (λ (w : Vec A). w.items)) found ∙ ap (λ (x : List A). Some x) (sym (same v passes))

  -- so what is found at a place is the list
  pub list_found : (keys : List (Vec A)) (n : ℕ) → Some n ≡ position test keys → slice_get (lists_of keys) n ≡ Some list
  list_found [] n is = absurd (none-some n (sym is))
  list_found (v ∷ keys) n is =
      let at = position-Some test (v ∷ keys) n v (sym is) in
      list_there (v ∷ keys) n (get_or (v ∷ keys) n v) (slice_get-get_or (v ∷ keys) n v at.0) at.1
