-- Files in memory, by name.
use Rattle.std.specs.Prelude.{ℕ, Bool, List, [], ◌∷◌, None, Some, if◌then◌else◌, encode_utf8_all}
use Rattle.std.specs.declared.option.Option.{Option}
use Rattle.std.specs.Option.{option_map, option_map_or}
use Rattle.std.specs.Str.{bytes_eq}
use Rattle.xs_io.specs.declared.folder.File.{File}
use Rattle.xs_io.specs.declared.folder.Folder.{Folder}

-- the file has this name
abbrev pub is_named : List ℕ → File → Bool
is_named name f = bytes_eq (encode_utf8_all f.name) name

-- the first file of this name
abbrev pub lookup : List File → List ℕ → Option File
lookup [] name = None
lookup (f ∷ files) name = if is_named name f then Some f else lookup files name

-- the bytes of the file of this name
abbrev pub file_in : Folder → List ℕ → Option (List ℕ)
file_in folder name = option_map (λ f. f.bytes) (lookup folder.files.items name)

-- how often a call on the file of this name failed
abbrev pub file_faults : Folder → List ℕ → ℕ
file_faults folder name = option_map_or (λ f. f.faults) (lookup folder.files.items name) 0
