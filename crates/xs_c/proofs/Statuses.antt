-- No work by what is kept of a sheet refuses the sheet.
use Rattle.std.proofs.Common.{◌≡◌, ℕ, List, inl, inr, sym, subst, arith}
use Rattle.xs_pair.specs.declared.ill.Ill.{Ill}
use Rattle.xs_pair.specs.Grammars.{Pair}
use Rattle.xs_talk.specs.declared.outcome.Report.{Report}
use Rattle.xs_talk.specs.declared.outcome.Outcome.{Outcome}
use Rattle.xs_talk.specs.declared.outcome.Outcome.TheVariants.{Done, Foreign, SheetLong, SheetBad, SheetIll, Heavy, Suspect, NotUtf8, NotXml, Usage, SheetFault, ReadFault, WriteFault, NoteFault, DocLong, ScriptBad, OutlineBad, CertFault, CertLong, CertBad}
use Rattle.xs_top.specs.Ran.{status_of}
use Rattle.xs_c.specs.declared.answer.Answer.{Answer}
use Rattle.xs_c.specs.declared.working.Work.{Work}
use Rattle.xs_c.specs.declared.working.Work.TheVariants.{Turn, Outline, Make, Session}
use Rattle.xs_c.specs.Answers.{IsRefusal}
use Rattle.xs_c.specs.Works.{IsUndone, IsUnworked, IsWorked, done, undone, no_memory, IsNoRefusalOfSheet}

no_SheetLong : (p : Pair) (work : Work) (document : List ℕ) → IsUnworked p work document SheetLong → ⊥
no_SheetLong p (Turn from to form) document h = h
no_SheetLong p (Outline from form) document h = h
no_SheetLong p (Make to) document h = h
no_SheetLong p Session document h = h

no_SheetBad : (p : Pair) (work : Work) (document : List ℕ) (at : ℕ) → IsUnworked p work document (SheetBad at) → ⊥
no_SheetBad p (Turn from to form) document at h = h
no_SheetBad p (Outline from form) document at h = h
no_SheetBad p (Make to) document at h = h
no_SheetBad p Session document at h = h

no_SheetIll : (p : Pair) (work : Work) (document : List ℕ) (ill : Ill) → IsUnworked p work document (SheetIll ill) → ⊥
no_SheetIll p (Turn from to form) document ill h = h
no_SheetIll p (Outline from form) document ill h = h
no_SheetIll p (Make to) document ill h = h
no_SheetIll p Session document ill h = h

no_Heavy : (p : Pair) (work : Work) (document : List ℕ) (weight : ℕ) → IsUnworked p work document (Heavy weight) → ⊥
no_Heavy p (Turn from to form) document weight h = h
no_Heavy p (Outline from form) document weight h = h
no_Heavy p (Make to) document weight h = h
no_Heavy p Session document weight h = h

no_Suspect : (p : Pair) (work : Work) (document : List ℕ) (report : Report) → IsUnworked p work document (Suspect report) → ⊥
no_Suspect p (Turn from to form) document report h = h
no_Suspect p (Outline from form) document report h = h
no_Suspect p (Make to) document report h = h
no_Suspect p Session document report h = h

-- a number that is neither
other : (n : ℕ) → (n ≡ 2 → ⊥) → (n ≡ 3 → ⊥) → IsNoRefusalOfSheet n
other n two three = (two, three)

told_status : (p : Pair) (work : Work) (document : List ℕ) (o : Outcome) → IsUndone p work document o → IsNoRefusalOfSheet (status_of o)
told_status p work document SheetLong h = absurd (no_SheetLong p work document h.1)
told_status p work document (SheetBad at) h = absurd (no_SheetBad p work document at h.1)
told_status p work document (SheetIll ill) h = absurd (no_SheetIll p work document ill h.1)
told_status p work document (Heavy weight) h = absurd (no_Heavy p work document weight h.1)
told_status p work document (Suspect report) h = absurd (no_Suspect p work document report h.1)
told_status p work document Done h = other 0 (λ e. omega (arith, e)) (λ e. omega (arith, e))
told_status p work document (Foreign viable) h = other 1 (λ e. omega (arith, e)) (λ e. omega (arith, e))
told_status p work document (NotUtf8 at) h = other 4 (λ e. omega (arith, e)) (λ e. omega (arith, e))
told_status p work document (NotXml at) h = other 4 (λ e. omega (arith, e)) (λ e. omega (arith, e))
told_status p work document Usage h = other 5 (λ e. omega (arith, e)) (λ e. omega (arith, e))
told_status p work document SheetFault h = other 6 (λ e. omega (arith, e)) (λ e. omega (arith, e))
told_status p work document ReadFault h = other 6 (λ e. omega (arith, e)) (λ e. omega (arith, e))
told_status p work document (WriteFault written) h = other 6 (λ e. omega (arith, e)) (λ e. omega (arith, e))
told_status p work document (NoteFault of written) h = other 6 (λ e. omega (arith, e)) (λ e. omega (arith, e))
told_status p work document DocLong h = other 7 (λ e. omega (arith, e)) (λ e. omega (arith, e))
told_status p work document (ScriptBad line) h = other 10 (λ e. omega (arith, e)) (λ e. omega (arith, e))
told_status p work document (OutlineBad line) h = other 11 (λ e. omega (arith, e)) (λ e. omega (arith, e))
told_status p work document CertFault h = other 6 (λ e. omega (arith, e)) (λ e. omega (arith, e))
told_status p work document CertLong h = other 7 (λ e. omega (arith, e)) (λ e. omega (arith, e))
told_status p work document (CertBad line) h = other 9 (λ e. omega (arith, e)) (λ e. omega (arith, e))

refusal_status : (names : List (List ℕ)) (o : Outcome) (before after : Answer) (status : ℕ) → IsNoRefusalOfSheet (status_of o) → IsRefusal names o before after status → IsNoRefusalOfSheet status
refusal_status names o before after status neither (inl told) = subst (λ (n : ℕ). IsNoRefusalOfSheet n) (sym told.status_is) neither
refusal_status names o before after status neither (inr wanting) = subst (λ (n : ℕ). IsNoRefusalOfSheet n) (sym wanting.status_is) (other 8 (λ e. omega (arith, e)) (λ e. omega (arith, e)))

pub worked_status : (p : Pair) (work : Work) (document : List ℕ) (before after : Answer) (status : ℕ) → IsWorked p work document before after status → IsNoRefusalOfSheet status
worked_status p work document before after status (done answer is told) = subst (λ (n : ℕ). IsNoRefusalOfSheet n) (sym told.status_is) (other 0 (λ e. omega (arith, e)) (λ e. omega (arith, e)))
worked_status p work document before after status (undone o is refusal) = refusal_status p.names o before after status (told_status p work document o is) refusal
worked_status p work document before after status (no_memory wanting) = subst (λ (n : ℕ). IsNoRefusalOfSheet n) (sym wanting.status_is) (other 8 (λ e. omega (arith, e)) (λ e. omega (arith, e)))
