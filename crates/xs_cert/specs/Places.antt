-- Places in the bytes of a certificate, and lines from one to another.
use Rattle.std.specs.Prelude.{◌≡◌, ℕ, ◌+◌, ◌≤◌, List, length, drop}
use Rattle.xs_cert_lines.specs.Lines.{Lines, written}
use Rattle.xs_cert_lines.specs.Runs.{GoesOn, IsFrom}
use Rattle.xs_cert.specs.declared.place.Place.{Place}

-- the place is in the bytes, and no more lines stand before it than bytes
pub record IsPlace (bytes : List ℕ) (p : Place) : Type 0 where
  pub within : p.byte ≤ length bytes
  pub lines : p.lines ≤ p.byte

-- these lines stand between the two places
pub record IsPast (bytes : List ℕ) (p : Place) (ls : Lines) (q : Place) : Type 0 where
  pub from : IsFrom bytes p.byte q.byte ls
  pub count : q.lines ≡ p.lines + length ls

-- these lines stand at the place
abbrev pub Stand : List ℕ → Place → Lines → Type 0
Stand bytes p ls = GoesOn (drop p.byte bytes) (written ls)
