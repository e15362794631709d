-- How a run goes, by what its steps did.
use Rattle.std.proofs.Common.{◌≡◌, ℕ, ◌<◌, List, [], ◌∷◌, length, take, arith, Some, None, inl, inr, sym, subst, refl, append-nil}
use Rattle.std.specs.Prelude.{Result, Ok, Err, IfErr, IfOk, Contains}
use Rattle.std.specs.declared.option.Option.{Option}
use Rattle.std.specs.Io.KnownBytes.{Appends}
use Rattle.xs_io.specs.Causes.{Rose}
use Rattle.xs_io.specs.Shown.{Files}
use Rattle.xs_class.specs.Ordered.{AreNamesOf}
use Rattle.xs_class.specs.declared.memory.Memory.{Memory as Refusal}
use Rattle.xs_talk.specs.Lines.{line}
use Rattle.xs_pair.specs.Grammars.{Pair}
use Rattle.xs_talk.specs.declared.outcome.Outcome.{Outcome}
use Rattle.xs_talk.specs.declared.outcome.Outcome.TheVariants.{NoteFault}
use Rattle.xs_top.specs.declared.asking.Job.{Job}
use Rattle.xs_top.specs.declared.asking.Begun.TheVariants as B
use Rattle.xs_top.specs.Asked.{Ask, printing, upgrading, certifying, by, asked}
use Rattle.xs_top.specs.Devices.{Input, Output, Run, ReadNothing, TookNothing}
use Rattle.xs_top.specs.declared.stop.Stop.{Stop}
use Rattle.xs_top.specs.declared.stop.Stop.TheVariants.{Refused, Memory}
use Rattle.xs_top.specs.Stops.{StopsBy}
use Rattle.xs_top.specs.Ran.{IsAnswer, IsBegun, HasAnswer, IsRefused, IsUndone, IsUndoneBy, ReadsFor, ReadsAsAsked, Went, refused, undone, answered, Took, IsWritten, Told, Tells, status_of}

-- a stop by another cause
pub stops_as : {P Q : Outcome → Type 0} → ((o : Outcome) → P o → Q o) → (stop : Stop) → StopsBy P stop → StopsBy Q stop
stops_as causes (Refused o) stops = causes o stops
stops_as causes Memory stops = stops

pub refused_as : {T : Type 0} {P Q : Outcome → Type 0} → ((o : Outcome) → P o → Q o) → (r : Result T Stop) → IfErr r (StopsBy P) → IfErr r (StopsBy Q)
refused_as causes (Ok x) stops = stops
refused_as causes (Err stop) stops = stops_as causes stop stops

pub answered_as : {T : Type 0} {P Q : T → Type 0} → ((x : T) → P x → Q x) → (r : Result T Stop) → IfOk r P → IfOk r Q
answered_as gives (Ok x) has = gives x has
answered_as gives (Err stop) has = has

-- nothing appended
pub appends_nothing : (old : Option (List ℕ)) → Appends old old []
appends_nothing None = cc
appends_nothing (Some xs) = sym (append-nil xs)

told_as : (run : Run) (o : Outcome) (names : List (List ℕ)) (r : Result Outcome Refusal) → Went run o names → IfOk r (Tells run.notes names o) → IfOk r (Told run)
told_as run o names (Ok result) went tells = (o, names, went, tells)
told_as run o names (Err e) went tells = tells

pub stop_is : (P : Outcome → Type 0) (stop : Stop) (o : Outcome) → StopsBy P stop → stop ≡ Refused o → P o
stop_is P stop o stops is = subst (StopsBy P) is stops

-- words that are no command
pub usage_told : (run : Run) (names : List (List ℕ)) (o : Outcome) (r : Result Outcome Refusal) → names ≡ [] → Went run o [] → IfOk r (Tells run.notes names o) → IfOk r (Told run)
usage_told run names o r none went tells = told_as run o [] r went (subst (λ (ns : List (List ℕ)). IfOk r (Tells run.notes ns o)) none tells)

-- what is refused by its sheet
pub refused_told : (run : Run) (ask : Ask) (o : Outcome) (names : List (List ℕ)) (r : Result Outcome Refusal) → asked run.words ≡ Some ask → IsRefused run.shelf ask o → ReadNothing run.input → TookNothing run.out → names ≡ [] → IfOk r (Tells run.notes names o) → IfOk r (Told run)
refused_told run ask o names r is why read took none tells = usage_told run names o r none (refused ask is why read took) tells

-- by what was begun: its answer; the answer of its job, why that is not done, and what it reads
answer_begun : (run : Run) (ask : Ask) (answer : List ℕ) → ReadNothing run.input → IsBegun run.shelf.files ask (B.Answer answer) → HasAnswer run ask answer
answer_begun run (printing sheet) answer read is = (read, is)
answer_begun run (upgrading sheet) answer read is = (read, is)
answer_begun run (certifying sheet cert) answer read is = (read, is)
answer_begun run (by sheet job) answer read is = absurd is

job_answered : (run : Run) (ask : Ask) (p : Pair) (job : Job) (answer : List ℕ) → IsBegun run.shelf.files ask (B.By p job) → IsAnswer p run.input job answer → HasAnswer run ask answer
job_answered run (by sheet other) p job answer is has = (p, is.1, subst (λ (j : Job). IsAnswer p run.input j answer) is.0 has)
job_answered run ask p job answer is has = absurd is

job_undone : (run : Run) (ask : Ask) (p : Pair) (job : Job) (o : Outcome) → IsBegun run.shelf.files ask (B.By p job) → IsUndone p run.input job o → IsUndoneBy run ask p o
job_undone run (by sheet other) p job o is why = (is.1, subst (λ (j : Job). IsUndone p run.input j o) is.0 why)
job_undone run ask p job o is why = absurd is

pub job_reads : (ask : Ask) (p : Pair) (job : Job) (files : Files) (i : Input) → IsBegun files ask (B.By p job) → ReadsFor job i → ReadsAsAsked (Some ask) i
job_reads (by sheet other) p job files i is reads = subst (λ (j : Job). ReadsFor j i) is.0 reads
job_reads ask p job files i is reads = absurd is

-- a job that is not done
pub undone_told : (run : Run) (ask : Ask) (p : Pair) (job : Job) (stop : Stop) (o : Outcome) (names : List (List ℕ)) (r : Result Outcome Refusal) → asked run.words ≡ Some ask → IsBegun run.shelf.files ask (B.By p job) → StopsBy (IsUndone p run.input job) stop → stop ≡ Refused o → TookNothing run.out → names ≡ p.names → IfOk r (Tells run.notes names o) → IfOk r (Told run)
undone_told run ask p job stop o names r is begun stops same took theirs tells =
    let why = job_undone run ask p job o begun (stop_is (IsUndone p run.input job) stop o stops same) in
    told_as run o p.names r (undone ask p is why took) (subst (λ (ns : List (List ℕ)). IfOk r (Tells run.notes ns o)) theirs tells)

-- an answer that was written, and reported where out failed
written_told : (run : Run) (ask : Ask) (answer bytes : List ℕ) (result : Outcome) → asked run.words ≡ Some ask → HasAnswer run ask answer → bytes ≡ answer → IsWritten run.out run.notes bytes result → Told run result
written_told run ask answer bytes result is has same (o, took, tells) = (o, [], answered ask answer is has (subst (λ (b : List ℕ). Took run.out b o) same took), tells)

pub answer_told : (run : Run) (ask : Ask) (answer bytes : List ℕ) (result : Outcome) → asked run.words ≡ Some ask → IsBegun run.shelf.files ask (B.Answer answer) → ReadNothing run.input → bytes ≡ answer → IsWritten run.out run.notes bytes result → Told run result
answer_told run ask answer bytes result is begun read same wrote = written_told run ask answer bytes result is (answer_begun run ask answer read begun) same wrote

pub job_told : (run : Run) (ask : Ask) (p : Pair) (job : Job) (answer bytes : List ℕ) (result : Outcome) → asked run.words ≡ Some ask → IsBegun run.shelf.files ask (B.By p job) → IsAnswer p run.input job answer → bytes ≡ answer → IsWritten run.out run.notes bytes result → Told run result
job_told run ask p job answer bytes result is begun has same wrote = written_told run ask answer bytes result is (job_answered run ask p job answer begun has) same wrote

-- what notes took
pub told_all : (notes : Output) (names : List (List ℕ)) (o : Outcome) (bytes : List ℕ) → bytes ≡ line names o → Appends notes.taken_before notes.taken_now bytes → Tells notes names o o
told_all notes names o bytes is appends = inl (refl, subst (λ (b : List ℕ). Appends notes.taken_before notes.taken_now b) is appends)

pub told_part : (notes : Output) (names : List (List ℕ)) (o : Outcome) (of written : ℕ) (bytes : List ℕ) → bytes ≡ line names o → of ≡ status_of o → Appends notes.taken_before notes.taken_now (take written bytes) → written < length bytes → Rose notes.faults_before notes.faults_now → Tells notes names o (NoteFault of written)
told_part notes names o of written bytes is status appends shorter rose = inr (
  of,
  written,
  refl,
  record {
    status = status;
    taken = subst (λ (b : List ℕ). Appends notes.taken_before notes.taken_now (take written b)) is appends;
    shorter = subst (λ (b : List ℕ). written < length b) is shorter;
    rose = rose;
  },
)

not_in_none : (name : List ℕ) → Contains [] name → ⊥
not_in_none name (k, below, is) = omega (arith, below)

-- a list of names without names
pub none_are : (names : List (List ℕ)) → AreNamesOf [] names → names ≡ []
none_are [] are = refl
none_are (n ∷ ns) are = absurd (not_in_none n ((are.same n).0 (0, omega arith, refl)))

pub none_if : (r : Result (List (List ℕ)) Refusal) → IfOk r (AreNamesOf []) → IfOk r (λ names. names ≡ [])
none_if (Ok names) are = none_are names are
none_if (Err e) are = are
