-- The files of the shelves in memory.
use Rattle.std.specs.Prelude.{ℕ, List}
use Rattle.std.specs.declared.option.Option.{Option}
use Rattle.xs_io.specs.Folder.{file_in, file_faults}
use Rattle.xs_io.specs.declared.call_log.CallLog.{CallLog}
use Rattle.xs_io.specs.declared.shelves.MemShelf.{MemShelf}
use Rattle.xs_io.specs.declared.shelves.SureShelf.{SureShelf}

-- the bytes of the file of this name
abbrev pub mem_file : MemShelf → List ℕ → Option (List ℕ)
mem_file s = file_in s.folder

-- how often a call on the file of this name failed
abbrev pub mem_name_faults : MemShelf → List ℕ → ℕ
mem_name_faults s = file_faults s.folder

-- its calls so far, and those that fail
abbrev pub mem_calls : MemShelf → CallLog
mem_calls s = s.calls

-- how many bytes its calls gave
abbrev pub mem_given : MemShelf → ℕ
mem_given s = s.given

-- the bytes of the file of this name
abbrev pub sure_file : SureShelf → List ℕ → Option (List ℕ)
sure_file s = file_in s.folder

-- how many calls failed
abbrev pub sure_faults : SureShelf → ℕ
sure_faults s = s.faults
