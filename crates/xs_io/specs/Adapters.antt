-- What the adapters stand on, and how often they failed.
use Rattle.std.specs.Prelude.{ℕ, List}
use Rattle.xs_io.specs.declared.adapters.FromReader.{FromReader}
use Rattle.xs_io.specs.declared.adapters.ToWriter.{ToWriter}
use Rattle.xs_io.specs.declared.adapters.DirShelf.{DirShelf}

-- the reader
abbrev pub reader_of : {R : Type 0} → FromReader R → R
reader_of s = s.reader

-- how many calls failed
abbrev pub reader_faults : {R : Type 0} → FromReader R → ℕ
reader_faults s = s.faults

-- the writer
abbrev pub writer_of : {W : Type 0} → ToWriter W → W
writer_of s = s.writer

-- how many calls failed
abbrev pub writer_faults : {W : Type 0} → ToWriter W → ℕ
writer_faults s = s.faults

-- how many calls failed; File and Dir are the runtime's types of open files and folders
abbrev pub dir_faults : {R File Dir : Type 0} → DirShelf R File Dir → ℕ
dir_faults s = s.faults

-- the calls on one name are not counted
abbrev pub dir_name_faults : {R File Dir : Type 0} → DirShelf R File Dir → List ℕ → ℕ
dir_name_faults s name = 0
