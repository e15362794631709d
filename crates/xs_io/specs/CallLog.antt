-- The calls of a device in memory.
use Rattle.std.specs.Prelude.{◌≡◌, ℕ, ◌+◌, ◌-◌, ◌^◌, min, List, Contains, Result, MatchResult}
use Rattle.xs_io.specs.declared.call_log.CallLog.{CallLog}

-- a count goes up by one, and stops at 2^64 - 1
abbrev pub one_more : ℕ → ℕ
one_more n = min (n + 1) (2 ^ 64 - 1)

-- a failed call raised the count by one, and any other left it as it was
abbrev pub IsCounted : {T E : Type 0} → ℕ → ℕ → Result T E → Type 0
IsCounted before now result = MatchResult result (λ _. now ≡ before) (λ _. now ≡ one_more before)

-- the numbers, from 1, of the calls that are to fail
abbrev pub fails_of : CallLog → List ℕ
fails_of c = c.fails.items

-- how many calls there were
abbrev pub made_of : CallLog → ℕ
made_of c = c.made

-- how many calls failed
abbrev pub faults_of : CallLog → ℕ
faults_of c = c.faults

-- the next call is one of those that are to fail
abbrev pub IsListed : CallLog → Type 0
IsListed c = Contains (fails_of c) (made_of c + 1)

-- there was one call more
pub record Begins (old new : CallLog) : Type 0 where
  pub made : made_of new ≡ one_more (made_of old)
  pub fails : fails_of new ≡ fails_of old
