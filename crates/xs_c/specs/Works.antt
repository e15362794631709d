-- What is done by an open sheet.
use Rattle.std.specs.Prelude.{◌≡◌, ℕ, ◌<◌, ◌≤◌, ◌==◌, if◌then◌else◌, List, length, None, Some}
use Rattle.std.specs.declared.option.Option.{Option}
use Rattle.xs_class.specs.declared.side.Side.{Side}
use Rattle.xs_class.specs.declared.side.Side.TheVariants.{Text, Xml}
use Rattle.xs_chars.specs.declared.form.Form.{Form}
use Rattle.xs_chars.specs.declared.form.Form.TheVariants.{AsIs, Nfc, Nfd}
use Rattle.xs_gram.specs.Common.{Common}
use Rattle.xs_pair.specs.Grammars.{Pair}
use Rattle.xs_talk.specs.declared.outcome.Outcome.{Outcome}
use Rattle.xs_talk.specs.declared.outcome.Outcome.TheVariants.{Done, DocLong}
use Rattle.xs_top.specs.Answers.{IsTurnedInto, IsOutlined, IsMadeOfOutline, IsUnread, IsNoOutline}
use Rattle.xs_top.specs.Scripts.{IsScriptPlayed, IsNoScript}
use Rattle.xs_c.specs.declared.answer.Answer.{Answer}
use Rattle.xs_c.specs.declared.working.Work.{Work}
use Rattle.xs_c.specs.declared.working.Work.TheVariants.{Turn, Outline, Make, Session}
use Rattle.xs_c.specs.Answers.{IsTold, IsRefusal, IsWanting}

-- the side and the form that C means by a number
abbrev pub side_of : ℕ → Side
side_of n = if n == 0 then Text else Xml

abbrev pub form_of : ℕ → Form
form_of n = if n == 1 then Nfc else (if n == 2 then Nfd else AsIs)

-- The answer of a work with a document: the document of a side that has its tree; the outline of its tree; the document
-- of a side that has the tree of an outline; or the answers of an edit script.
abbrev pub IsWork : Pair → Work → List ℕ → List ℕ → Type 0
IsWork p (Turn from to form) document answer = (tree : Common) × IsTurnedInto p from to form document tree answer
IsWork p (Outline from form) document answer = IsOutlined p from form document answer
IsWork p (Make to) document answer = IsMadeOfOutline p to document answer
IsWork p Session document answer = IsScriptPlayed p document answer

-- why a document that is not too long has no answer
abbrev pub IsUnworked : Pair → Work → List ℕ → Outcome → Type 0
IsUnworked p (Turn from to form) document o = IsUnread p from form document o
IsUnworked p (Outline from form) document o = IsUnread p from form document o
IsUnworked p (Make to) document o = IsNoOutline p document o
IsUnworked p Session document o = IsNoScript document o

-- why a document has no answer
abbrev pub IsUndone : Pair → Work → List ℕ → Outcome → Type 0
IsUndone p work document DocLong = 1048576 < length document
IsUndone p work document o = (length document ≤ 1048576) × IsUnworked p work document o

-- How a work by two grammars ended: it is done; why it is not done is told; or memory ran out.
pub data IsWorked (p : Pair) (work : Work) (document : List ℕ) (before after : Answer) (status : ℕ) : Type 0 where
  done : (answer : List ℕ) → IsWork p work document answer → IsTold answer Done after status → IsWorked p work document before after status
  undone : (o : Outcome) → IsUndone p work document o → IsRefusal p.names o before after status → IsWorked p work document before after status
  no_memory : IsWanting before after status → IsWorked p work document before after status

-- How a work by a sheet ended: the sheet is closed, or the work ended by what is kept of it.
pub data IsDone (kept : Option Pair) (work : Work) (document : List ℕ) (before after : Answer) (status : ℕ) : Type 0 where
  closed : kept ≡ None → after ≡ before → status ≡ 12 → IsDone kept work document before after status
  by_kept : (p : Pair) → kept ≡ Some p → IsWorked p work document before after status → IsDone kept work document before after status

-- no status that refuses a sheet: what is open was accepted
abbrev pub IsNoRefusalOfSheet : ℕ → Type 0
IsNoRefusalOfSheet status = (status ≡ 2 → ⊥) × (status ≡ 3 → ⊥)
