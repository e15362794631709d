-- The texts of the tags of names, made once for each name.
use Rattle.std.specs.Prelude.{◌≡◌, ℕ, List, ◌++◌, codes, map, drop}
use Rattle.xs_xml_out.specs.declared.tags.NameTags.{NameTags}

-- the texts of the tags of a name
abbrev pub tags_of : List ℕ → NameTags
tags_of name = record { opening = codes "<" ++ name; nested = codes "><" ++ name; attribute = codes " " ++ name ++ codes "=\""; closing = codes "</" ++ name ++ codes ">" }

-- the name of these tags
abbrev pub tagged_name : NameTags → List ℕ
tagged_name tags = drop 1 tags.opening

-- all texts are those of the names
abbrev pub AreTags : List NameTags → Type 0
AreTags all = all ≡ map tags_of (map tagged_name all)
