-- Numbers drawn from a state, which a seed begins.
use Rattle.std.specs.Prelude.{ℕ, ◌+◌, ◌*◌, ◌/◌, ◌%◌}

-- the state after one draw
abbrev pub next : ℕ → ℕ
next x = (x * 1103515245 + 12345) % 2147483648

-- the number below n that is drawn at this state
abbrev pub drawn : ℕ → ℕ → ℕ
drawn n x = next x / 65536 % n
