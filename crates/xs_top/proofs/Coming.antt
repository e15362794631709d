-- How an outcome came of what was asked for, and of a job by a sheet whose bytes are known.
use Rattle.std.proofs.Common.{◌≡◌, ◌∙◌, inl, inr, ℕ, Bool, true, false, List, ◌++◌, None, Some, refl, sym, subst}
use Rattle.std.proofs.lemmas.List.{append_cancel_left}
use Rattle.std.specs.Io.KnownBytes.{Appends}
use Rattle.std.specs.declared.option.Option.{Option}
use Rattle.xs_io.specs.Causes.{Rose}
use Rattle.xs_words.specs.Command.{Sheet as Named}
use Rattle.xs_pair.specs.Grammars.{Pair}
use Rattle.xs_talk.specs.declared.outcome.Outcome.{Outcome}
use Rattle.xs_talk.specs.declared.outcome.Outcome.TheVariants.{Done, NoteFault}
use Rattle.xs_top.specs.declared.asking.Job.{Job}
use Rattle.xs_top.specs.declared.asking.Job.TheVariants.{Check, Prove}
use Rattle.xs_top.specs.Asked.{Ask, certifying, by, asked, searches, Reading, of_nothing, of_made, of_document, of_script, of_outline, read_for}
use Rattle.xs_top.specs.Devices.{Run, Input}
use Rattle.xs_top.specs.Known.{HasBytes}
use Rattle.xs_top.specs.Sheets.{IsPairOfBytes}
use Rattle.xs_top.specs.Checks.{IsSure, IsUnsure}
use Rattle.xs_top.specs.Ran.{IsUnanswered, IsUnchecked, IsUndone, IsAnswer, HasAnswer, IsRefused, IsUndoneBy, Took, Went, no_command, refused, undone, answered, Told}
use Rattle.xs_top.specs.Runs.{AsksFor, AsksToCertify, AsksWhether, checks, proves, certifies}
use Rattle.xs_top.proofs.Known.{spelled_pair}

-- by the sheet, by its two grammars, or with an answer
pub data Came (run : Run) (ask : Ask) (o : Outcome) : Type 0 where
  by_sheet : IsRefused run.shelf ask o → Came run ask o
  by_pair : (p : Pair) → IsUndoneBy run ask p o → Came run ask o
  with_answer : (answer : List ℕ) → HasAnswer run ask answer → Took run.out answer o → Came run ask o

same_ask : (a b : Ask) → Some a ≡ Some b → a ≡ b
same_ask a b e = cc

none_asked : (a : Ask) → Some a ≡ None → ⊥
none_asked a e = cc

went_came : (run : Run) (ask : Ask) → asked run.words ≡ Some ask → (o : Outcome) (names : List (List ℕ)) → Went run o names → Came run ask o
went_came run ask asks o names (no_command none read took) = absurd (none_asked ask (sym asks ∙ none))
went_came run ask asks o names (refused ask' is why read took) = by_sheet (subst (λ (a : Ask). IsRefused run.shelf a o) (same_ask ask' ask (sym is ∙ asks)) why)
went_came run ask asks o names (undone ask' p is why took) = by_pair p (subst (λ (a : Ask). IsUndoneBy run a p o) (same_ask ask' ask (sym is ∙ asks)) why)
went_came run ask asks o names (answered ask' answer is has took) = with_answer answer (subst (λ (a : Ask). HasAnswer run a answer) (same_ask ask' ask (sym is ∙ asks)) has) took

-- what holds of each outcome that comes so, and where notes failed, holds of what is told
pub told_by : (run : Run) (ask : Ask) → asked run.words ≡ Some ask → (P : Outcome → Type 0) → ((o : Outcome) → Came run ask o → P o) → ((of written : ℕ) → Rose run.notes.faults_before run.notes.faults_now → P (NoteFault of written)) → (o : Outcome) → Told run o → P o
told_by run ask asks P came failed o (other, names, went, inl (is, line)) = subst P (sym is) (came other (went_came run ask asks other names went))
told_by run ask asks P came failed o (other, names, went, inr (of, written, is, fails)) = subst P (sym is) (failed of written fails.rose)

pub unchecked_unsure : (checked : Bool) (p : Pair) (i : Input) (o : Outcome) → IsUnchecked checked p i o → IsUnsure p o
unchecked_unsure true p i o why = why.1
unchecked_unsure false p i o why = absurd why

-- `Done` comes with an answer
unanswered_not_done : (p : Pair) (i : Input) (reading : Reading) → IsUnanswered p i reading Done → ⊥
unanswered_not_done p i of_nothing why = why
unanswered_not_done p i (of_made seed lines) why = why.1
unanswered_not_done p i (of_document side form) (inl untaken) = untaken
unanswered_not_done p i (of_document side form) (inr (bytes, takes, none)) = none
unanswered_not_done p i of_script (inl untaken) = untaken
unanswered_not_done p i of_script (inr (bytes, takes, none)) = none
unanswered_not_done p i of_outline (inl untaken) = untaken
unanswered_not_done p i of_outline (inr (bytes, takes, none)) = none

undone_not_done : (p : Pair) (i : Input) (job : Job) → IsUndone p i job Done → ⊥
undone_not_done p i job (inl unchecked) = unchecked_unsure (searches job) p i Done unchecked
undone_not_done p i job (inr (passed, why)) = unanswered_not_done p i (read_for job) why

pub record IsAnswered (run : Run) (sheet : List ℕ) (job : Job) : Type 0 where
  pub pair : Pair
  pub is_pair : IsPairOfBytes sheet pair
  pub answer : List ℕ
  pub is_answer : IsAnswer pair run.input job answer
  pub appends : Appends run.out.taken_before run.out.taken_now answer

came_answered : (run : Run) (sheet : List ℕ) (named : Named) (job : Job) → HasBytes run.shelf.files named sheet → Came run (by named job) Done → IsAnswered run sheet job
came_answered run sheet named job has (by_sheet (inl stopped)) = absurd stopped
came_answered run sheet named job has (by_sheet (inr (bytes, are, bad))) = absurd bad
came_answered run sheet named job has (by_pair p (spells, why)) = absurd (undone_not_done p run.input job why)
came_answered run sheet named job has (with_answer answer (p, spells, is) took) =
    record { pair = p; is_pair = spelled_pair run.shelf.files named sheet p has spells; answer = answer; is_answer = is; appends = took }

not_note : (of written : ℕ) → NoteFault of written ≡ Done → ⊥
not_note of written e = cc

-- what holds where it came to `Done`
done_by : (run : Run) (ask : Ask) → asked run.words ≡ Some ask → (Q : Type 0) → (Came run ask Done → Q) → Told run Done → Q
done_by run ask asks Q came told = told_by run ask asks (λ (o : Outcome). o ≡ Done → Q) (λ o c is. came (subst (λ (x : Outcome). Came run ask x) is c)) (λ of written rose is. absurd (not_note of written is)) Done told refl

pub done_answered : (run : Run) (sheet : List ℕ) (job : Job) → AsksFor run job sheet → Told run Done → IsAnswered run sheet job
done_answered run sheet job asks told = done_by run (by asks.named job) asks.is (IsAnswered run sheet job) (λ came. came_answered run sheet asks.named job asks.has came) told

-- two grammars that the bytes spell are accepted
pub record IsFound (sheet : List ℕ) : Type 0 where
  pub pair : Pair
  pub is_pair : IsPairOfBytes sheet pair
  pub sure : IsSure pair

came_found : (run : Run) (sheet : List ℕ) (asks : AsksToCertify run sheet) → Came run (certifying asks.named asks.cert) Done → IsFound sheet
came_found run sheet asks (by_sheet (inl (inl stopped))) = absurd stopped
came_found run sheet asks (by_sheet (inl (inr (bytes, are, bad)))) = absurd bad
came_found run sheet asks (by_sheet (inr (p, spells, why))) = absurd why
came_found run sheet asks (by_pair p why) = absurd why
came_found run sheet asks (with_answer answer (read, shows) took) = record { pair = shows.pair; is_pair = spelled_pair run.shelf.files asks.named sheet shows.pair asks.has shows.spelled; sure = shows.sure }

-- once it was asked whether a sheet is accepted, and the run was done
pub done_found : (run : Run) (sheet : List ℕ) → AsksWhether run sheet → Told run Done → IsFound sheet
done_found run sheet (checks asks) told =
    let a = done_answered run sheet Check asks told in
    record { pair = a.pair; is_pair = a.is_pair; sure = a.is_answer.1 }
done_found run sheet (proves asks) told =
    let a = done_answered run sheet Prove asks told in
    record { pair = a.pair; is_pair = a.is_pair; sure = a.is_answer.1 }
done_found run sheet (certifies asks) told = done_by run (certifying asks.named asks.cert) asks.is (IsFound sheet) (λ came. came_found run sheet asks came) told

-- what was appended to known bytes is known
same_known : (xs ys : List ℕ) → Some xs ≡ Some ys → xs ≡ ys
same_known xs ys e = cc

pub appended : (old new : Option (List ℕ)) (front a b : List ℕ) → old ≡ Some front → new ≡ Some (front ++ a) → Appends old new b → b ≡ a
appended None new front a b is now appends = absurd (none_known front is)
  where
    none_known : (xs : List ℕ) → ◌≡◌ {A = Option (List ℕ)} None (Some xs) → ⊥
    none_known xs e = cc
appended (Some xs) None front a b is now appends = absurd appends
appended (Some xs) (Some ys) front a b is now appends =
    append_cancel_left front b a (sym (subst (λ (z : List ℕ). ys ≡ z ++ b) (same_known xs front is) appends) ∙ same_known ys (front ++ a) now)
