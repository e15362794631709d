-- Files in a list, looked up by name.
use Rattle.std.proofs.Common.{◌≡◌, ◌≢◌, ℕ, zero, suc, ◌+◌, ◌<◌, Bool, true, false, cond, List, [], ◌∷◌, ◌++◌, length, get_or, Some, None, refl, sym, ap, subst, ◌∙◌, inl, inr, arith, encode_utf8_all}
use Rattle.std.proofs.Math.ListN.{set}
use Rattle.std.proofs.lemmas.Bool.{cases_Bool}
use Rattle.std.proofs.lemmas.Slice.Eq.{bytes_eq-Decides}
use Rattle.std.specs.declared.option.Option.{Option}
use Rattle.std.specs.List.{position_from}
use Rattle.std.specs.Str.{bytes_eq}
use Rattle.xs_io.specs.Folder.{is_named, lookup}
use Rattle.xs_io.specs.declared.folder.File.{File}

-- the first file that passes stands at this place
abbrev pub IsPlace : (File → Bool) → List File → ℕ → Type 0
IsPlace t [] j = ⊥
IsPlace t (f ∷ files) zero = t f ≡ true
IsPlace t (f ∷ files) (suc j) = (t f ≡ false) × IsPlace t files j

pub place_is : (t : File → Bool) (files : List File) (i k : ℕ) → position_from t i files ≡ Some k → (j : ℕ) × (k ≡ i + j) × IsPlace t files j
place_is t [] i k e = cc
place_is t (f ∷ files) i k e =
    elim (cases_Bool (t f)) [
      | inl is ↦ let here : Some i ≡ Some k = rw is at e in let same : i ≡ k = cc in (zero, omega (arith, same), is)
      | inr not_so ↦
          let later : position_from t (i + 1) files ≡ Some k = rw not_so at e in
          let rest = place_is t files (i + 1) k later in
          (suc rest.0, omega (arith, rest.1), (not_so, rest.2))
    ]

pub place_none : (name : List ℕ) (files : List File) (i : ℕ) → position_from (is_named name) i files ≡ None → lookup files name ≡ None
place_none name [] i e = refl
place_none name (f ∷ files) i e =
    elim (cases_Bool (is_named name f)) [
      | inl is ↦ let here : Some i ≡ None = rw is at e in cc
      | inr not_so ↦ let later : position_from (is_named name) (i + 1) files ≡ None = rw not_so at e in rw not_so (place_none name files (i + 1) later)
    ]

pub lookup-at : (name : List ℕ) (files : List File) (j : ℕ) (d : File) → IsPlace (is_named name) files j → (j < length files) × (lookup files name ≡ Some (get_or files j d))
lookup-at name [] j d place = absurd place
lookup-at name (f ∷ files) zero d place = (omega arith, rw place refl)
lookup-at name (f ∷ files) (suc j) d place =
    let rest = lookup-at name files j d place.1 in
    (omega (arith, rest.0), rw place.0 rest.1)

-- a name that the file does not have is not one that it has
other_named : (name other : List ℕ) (f : File) → is_named other f ≡ true → is_named name f ≡ false → bytes_eq name other ≡ false
other_named name other f is away =
    elim (cases_Bool (bytes_eq name other)) [
      | inl both ↦
          let here : encode_utf8_all f.name ≡ other = (bytes_eq-Decides (encode_utf8_all f.name) other).0 is in
          let same : name ≡ other = (bytes_eq-Decides name other).0 both in
          let clash : is_named name f ≡ true = (bytes_eq-Decides (encode_utf8_all f.name) name).1 (here ∙ sym same) in
          let false_one : true ≡ false = sym clash ∙ away in cc
      | inr not_so ↦ not_so
    ]

pub lookup-set : (name other : List ℕ) (files : List File) (j : ℕ) (new : File) → IsPlace (is_named name) files j → encode_utf8_all new.name ≡ name → lookup (set files j new) other ≡ cond (bytes_eq name other) (Some new) (lookup files other)
lookup-set name other [] j new place named = absurd place
lookup-set name other (f ∷ files) zero new place named =
    let same : encode_utf8_all f.name ≡ name = (bytes_eq-Decides (encode_utf8_all f.name) name).0 place in
    elim (cases_Bool (bytes_eq name other)) [
      | inl is ↦ rw (named, is) refl
      | inr not_so ↦ rw (named, same, not_so) refl
    ]
lookup-set name other (f ∷ files) (suc j) new place named =
    elim (cases_Bool (is_named other f)) [
      | inl is ↦ rw (is, other_named name other f is place.0) refl
      | inr not_so ↦ rw not_so (lookup-set name other files j new place.1 named)
    ]

pub lookup-push : (name other : List ℕ) (files : List File) (new : File) → lookup files name ≡ None → encode_utf8_all new.name ≡ name → lookup (files ++ new ∷ []) other ≡ cond (bytes_eq name other) (Some new) (lookup files other)
lookup-push name other [] new none named = rw named refl
lookup-push name other (f ∷ files) new none named =
    elim (cases_Bool (is_named name f)) [
      | inl is ↦ let here : Some f ≡ None = rw is at none in cc
      | inr away ↦
          let later : lookup files name ≡ None = rw away at none in
          elim (cases_Bool (is_named other f)) [
            | inl is ↦ rw (is, other_named name other f is away) refl
            | inr not_so ↦ rw not_so (lookup-push name other files new later named)
          ]
    ]

pub found : (name : List ℕ) (files : List File) (k : ℕ) → position_from (is_named name) 0 files ≡ Some k → IsPlace (is_named name) files k
found name files k e =
    let place = place_is (is_named name) files 0 k e in
    let same : place.0 ≡ k = omega (arith, place.1) in
    subst (λ (j : ℕ). IsPlace (is_named name) files j) same place.2

pub same_name : (name : List ℕ) → bytes_eq name name ≡ true
same_name name = (bytes_eq-Decides name name).1 refl

pub other_name : (name other : List ℕ) → other ≢ name → bytes_eq name other ≡ false
other_name name other ne =
    elim (cases_Bool (bytes_eq name other)) [
      | inl is ↦ absurd (ne (sym ((bytes_eq-Decides name other).0 is)))
      | inr not_so ↦ not_so
    ]

-- the file that stands there has the name
pub named_so : (name : List ℕ) (files : List File) (j : ℕ) (d : File) → IsPlace (is_named name) files j → encode_utf8_all (get_or files j d).name ≡ name
named_so name [] j d place = absurd place
named_so name (f ∷ files) zero d place = (bytes_eq-Decides (encode_utf8_all f.name) name).0 place
named_so name (f ∷ files) (suc j) d place = named_so name files j d place.1

-- a file written over the one that stands there, under its name
module _ (name : List ℕ) (files : List File) (j : ℕ) (old new : File) (place : IsPlace (is_named name) files j) (was : old ≡ get_or files j old) (named : new.name ≡ old.name) where
  pub write_named : encode_utf8_all new.name ≡ name
  write_named = ap encode_utf8_all named ∙ ap (λ (f : File). encode_utf8_all f.name) was ∙ named_so name files j old place

  pub write_at : lookup (set files j new) name ≡ Some new
  write_at = lookup-set name name files j new place write_named ∙ rw (same_name name) refl

  pub write_away : (other : List ℕ) → other ≢ name → lookup (set files j new) other ≡ lookup files other
  write_away other ne = lookup-set name other files j new place write_named ∙ rw (other_name name other ne) refl

  pub write_was : lookup files name ≡ Some old
  write_was = (lookup-at name files j old place).1 ∙ ap (λ (f : File). Some f) (sym was)

  pub write_keeps : {A : Type 0} (q : Option File → A) → q (Some new) ≡ q (Some old) → (other : List ℕ) → q (lookup (set files j new) other) ≡ q (lookup files other)
  write_keeps q same other =
      elim (cases_Bool (bytes_eq name other)) [
        | inl is ↦
            let one : name ≡ other = (bytes_eq-Decides name other).0 is in
            subst (λ (n : List ℕ). q (lookup (set files j new) n) ≡ q (lookup files n)) one (ap q write_at ∙ same ∙ ap q (sym write_was))
        | inr not_so ↦ ap q (lookup-set name other files j new place write_named ∙ rw not_so refl)
      ]

-- a file put after the others, where none has its name
module _ (name : List ℕ) (files : List File) (new : File) (none : lookup files name ≡ None) (named : encode_utf8_all new.name ≡ name) where
  pub push_at : lookup (files ++ new ∷ []) name ≡ Some new
  push_at = lookup-push name name files new none named ∙ rw (same_name name) refl

  pub push_away : (other : List ℕ) → other ≢ name → lookup (files ++ new ∷ []) other ≡ lookup files other
  push_away other ne = lookup-push name other files new none named ∙ rw (other_name name other ne) refl

  pub push_keeps : {A : Type 0} (q : Option File → A) → q (Some new) ≡ q None → (other : List ℕ) → q (lookup (files ++ new ∷ []) other) ≡ q (lookup files other)
  push_keeps q same other =
      elim (cases_Bool (bytes_eq name other)) [
        | inl is ↦
            let one : name ≡ other = (bytes_eq-Decides name other).0 is in
            subst (λ (n : List ℕ). q (lookup (files ++ new ∷ []) n) ≡ q (lookup files n)) one (ap q push_at ∙ same ∙ ap q (sym none))
        | inr not_so ↦ ap q (lookup-push name other files new none named ∙ rw not_so refl)
      ]

pub found_within : (name : List ℕ) (files : List File) (k : ℕ) → position_from (is_named name) 0 files ≡ Some k → k < length files
found_within name [] k e = cc
found_within name (f ∷ files) k e = (lookup-at name (f ∷ files) k f (found name (f ∷ files) k e)).0
