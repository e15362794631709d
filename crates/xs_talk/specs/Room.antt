-- A line with room for more, and the line of a write fault.
use Rattle.std.specs.Prelude.{ℕ, ◌-◌, List, ◌++◌, codes, decimal, vec_capacity, vec_len}
use Rattle.xs_talk.specs.declared.line.Line.{Line}

-- the bytes in order
abbrev pub line_bytes : Line → List ℕ
line_bytes line = line.bytes.items

-- how many bytes more the line can take without memory
abbrev pub line_spare : Line → ℕ
line_spare line = vec_capacity line.bytes - vec_len line.bytes

-- the line that reports how many bytes of the answer were written
abbrev pub write_fault_line : ℕ → List ℕ
write_fault_line written = codes "output: cannot be written after " ++ decimal written ++ codes " bytes\n"

-- the length of the longest such line: a number has at most 20 digits
abbrev pub longest_fault_line : ℕ
longest_fault_line = 59
