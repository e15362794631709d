-- Sheets that are opened.
use Rattle.std.specs.Prelude.{◌≡◌, ℕ, ◌<◌, ◌≤◌, List, [], length, None, Some}
use Rattle.std.specs.declared.option.Option.{Option}
use Rattle.xs_pair.specs.Grammars.{Pair}
use Rattle.xs_talk.specs.declared.outcome.Outcome.{Outcome}
use Rattle.xs_talk.specs.declared.outcome.Outcome.TheVariants.{Done, SheetLong}
use Rattle.xs_top.specs.Sheets.{IsPairOfBytes, IsBadBytes}
use Rattle.xs_top.specs.Checks.{IsSure, IsUnsure}
use Rattle.xs_c.specs.declared.answer.Answer.{Answer}
use Rattle.xs_c.specs.Answers.{IsTold, IsRefusal, IsWanting}

-- why bytes are no well-formed sheet
abbrev pub IsNoSheet : List ℕ → Outcome → Type 0
IsNoSheet bytes SheetLong = 65536 < length bytes
IsNoSheet bytes o = (length bytes ≤ 65536) × IsBadBytes bytes o

-- The sheet that the bytes spell is open, and accepted; or it is closed, since the bytes are no well-formed sheet, or one
-- that is not accepted, which is told; or since memory ran out.
pub data IsOpened (bytes : List ℕ) (kept : Option Pair) (before after : Answer) (status : ℕ) : Type 0 where
  opened : (p : Pair) → kept ≡ Some p → IsPairOfBytes bytes p → IsSure p → IsTold [] Done after status → IsOpened bytes kept before after status
  no_sheet : (o : Outcome) → kept ≡ None → IsNoSheet bytes o → IsRefusal [] o before after status → IsOpened bytes kept before after status
  not_accepted : (p : Pair) (o : Outcome) → kept ≡ None → IsPairOfBytes bytes p → IsUnsure p o → IsRefusal p.names o before after status → IsOpened bytes kept before after status
  no_memory : kept ≡ None → IsWanting before after status → IsOpened bytes kept before after status
