-- The texts of tags, name by name.
use Rattle.std.proofs.Common.{◌≡◌, ℕ, ◌+◌, List, [], ◌∷◌, ◌++◌, Some, map, take, get_or, refl, sym, ap, ◌∙◌}
use Rattle.std.specs.List.{slice_get}
use Rattle.std.proofs.lemmas.List.{map_more}
use Rattle.std.proofs.lemmas.Option.{slice_get_within, get_or_from_slice_get}
use Rattle.xs_xml_out.specs.declared.tags.NameTags.{NameTags}
use Rattle.xs_xml_out.specs.Tags.{tags_of, tagged_name, AreTags}

-- one name on
pub tags_more : (names : List (List ℕ)) (all : List NameTags) (k : ℕ) (name : List ℕ) (tags : NameTags) → all ≡ map tags_of (take k names) → slice_get names k ≡ Some name → tags ≡ tags_of name → all ++ tags ∷ [] ≡ map tags_of (take (k + 1) names)
tags_more names all k name tags are at is =
    let within = slice_get_within names k name at in
    let here : get_or names k [] ≡ name = get_or_from_slice_get names k name [] at in
    rw (map_more tags_of names k [] within, here, are, is) refl

pub names_back : (names : List (List ℕ)) → map tagged_name (map tags_of names) ≡ names
names_back [] = refl
names_back (name ∷ names) = ap (λ (rest : List (List ℕ)). name ∷ rest) (names_back names)

pub tags_back : (names : List (List ℕ)) (all : List NameTags) → all ≡ map tags_of names → map tagged_name all ≡ names
tags_back names all are = ap (map tagged_name) are ∙ names_back names

pub are_tags : (names : List (List ℕ)) (all : List NameTags) → all ≡ map tags_of names → AreTags all
are_tags names all are = are ∙ ap (map tags_of) (sym (tags_back names all are))
