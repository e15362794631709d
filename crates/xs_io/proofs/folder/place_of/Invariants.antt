use Rattle.std.proofs.Common.{◌≡◌, drop}
use Rattle.std.specs.List.{position_from}
use Rattle.xs_io.specs.Folder.{is_named}
use Rattle.xs_io.proofs.folder.place_of.Given as goal

abbrev pub invariant-files : goal.invariant-files
invariant-files l = position_from (is_named l.name) 0 l.files ≡ position_from (is_named l.name) l.place (drop l.place l.files)
