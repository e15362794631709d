-- What a run says of a certificate another run says too, and what `prove` wrote is taken.
use Rattle.std.proofs.Common.{◌≡◌, ◌⊎◌, ◌∙◌, inl, inr, ℕ, ◌≤◌, List, suc, sym, subst, ap, refl, arith}
use Rattle.xs_check_laws.specs.Laws.{RuleWeighsOnce}
use Rattle.xs_xml_laws.specs.Laws.{OneReading}
use Rattle.xs_pair.specs.Grammars.{Pair}
use Rattle.xs_cert_laws.specs.Certificates.{IsCertificate, IsBadAt}
use Rattle.xs_cert_laws.specs.Alike.{AreBuilt}
use Rattle.xs_talk.specs.declared.outcome.Outcome.{Outcome}
use Rattle.xs_talk.specs.declared.outcome.Outcome.TheVariants.{Done, Heavy, CertFault, CertLong, CertBad, WriteFault}
use Rattle.xs_top.specs.declared.asking.Job.TheVariants.{Prove}
use Rattle.xs_top.specs.Asked.{certifying}
use Rattle.xs_top.specs.Devices.{Run}
use Rattle.xs_top.specs.Sheets.{IsPairOfBytes}
use Rattle.xs_top.specs.Checks.{IsSure}
use Rattle.xs_top.specs.Certifying.{IsUncertain}
use Rattle.xs_top.specs.Ran.{Took, Told}
use Rattle.xs_top.specs.Runs.{AsksToCertify, IsUnwritten}
use Rattle.xs_top.specs.Laws.{PairsAgree, SheetsAgree}
use Rattle.xs_top.specs.Certificates.{CertificatesAgree, Proved, IsToCertify, AreHad, ProofIsTaken, OneCertificate}
use Rattle.xs_top.proofs.Known.{spelled_pair}
use Rattle.xs_top.proofs.Certifying.{file_only, file_short}
use Rattle.xs_top.proofs.Completing.{not_heavy, not_unpaired}
use Rattle.xs_top.proofs.Coming.{Came, by_sheet, by_pair, with_answer, told_by, done_answered, appended}

-- two grammars of the sheet's bytes that are built, and the file is a certificate of them, or is bad at the line
pub record HasTaken (sheet certificate : List ℕ) : Type 0 where
  pub pair : Pair
  pub is_pair : IsPairOfBytes sheet pair
  pub built : AreBuilt pair
  pub shows : IsCertificate pair certificate

pub record HasRefused (sheet certificate : List ℕ) (line : ℕ) : Type 0 where
  pub pair : Pair
  pub is_pair : IsPairOfBytes sheet pair
  pub built : AreBuilt pair
  pub bad : IsBadAt pair certificate line

-- how the outcome came
tested : (run : Run) (sheet : List ℕ) (asks : AsksToCertify run sheet) (o : Outcome) → Told run o → Came run (certifying asks.named asks.cert) o ⊎ IsUnwritten run o
tested run sheet asks o told = told_by run (certifying asks.named asks.cert) asks.is (λ (x : Outcome). Came run (certifying asks.named asks.cert) x ⊎ IsUnwritten run x) (λ x came. inl came) (λ of written rose. inr rose) o told

bad_refused : (run : Run) (sheet certificate : List ℕ) (job : IsToCertify run sheet certificate) (line : ℕ) → Came run (certifying job.asks.named job.asks.cert) (CertBad line) ⊎ IsUnwritten run (CertBad line) → HasRefused sheet certificate line
bad_refused run sheet certificate job line (inr unwritten) = absurd unwritten
bad_refused run sheet certificate job line (inl (by_sheet (inl (inl stopped)))) = absurd stopped
bad_refused run sheet certificate job line (inl (by_sheet (inl (inr (bytes, are, bad))))) = absurd bad
bad_refused run sheet certificate job line (inl (by_sheet (inr (p, spells, (light, built, bytes, are, bad))))) = record {
  pair = p;
  is_pair = spelled_pair run.shelf.files job.asks.named sheet p job.asks.has spells;
  built = built;
  bad = subst (λ (b : List ℕ). IsBadAt p b line) (file_only run.shelf.files job.asks.cert certificate bytes job.file are) bad;
}
bad_refused run sheet certificate job line (inl (by_pair p why)) = absurd why
bad_refused run sheet certificate job line (inl (with_answer answer (read, shows) took)) = absurd took

told_refused : (run : Run) (sheet certificate : List ℕ) (job : IsToCertify run sheet certificate) (o : Outcome) (line : ℕ) → Told run o → o ≡ CertBad line → HasRefused sheet certificate line
told_refused run sheet certificate job o line told is = bad_refused run sheet certificate job line (tested run sheet job.asks (CertBad line) (subst (λ (x : Outcome). Told run x) is told))

done_taken : (run : Run) (sheet certificate : List ℕ) (job : IsToCertify run sheet certificate) → Came run (certifying job.asks.named job.asks.cert) Done ⊎ IsUnwritten run Done → HasTaken sheet certificate
done_taken run sheet certificate job (inr unwritten) = absurd unwritten
done_taken run sheet certificate job (inl (by_sheet (inl (inl stopped)))) = absurd stopped
done_taken run sheet certificate job (inl (by_sheet (inl (inr (bytes, are, bad))))) = absurd bad
done_taken run sheet certificate job (inl (by_sheet (inr (p, spells, why)))) = absurd why
done_taken run sheet certificate job (inl (by_pair p why)) = absurd why
done_taken run sheet certificate job (inl (with_answer answer (read, shows) took)) = record {
  pair = shows.pair;
  is_pair = spelled_pair run.shelf.files job.asks.named sheet shows.pair job.asks.has shows.spelled;
  built = shows.built;
  shows = subst (λ (b : List ℕ). IsCertificate shows.pair b) (file_only run.shelf.files job.asks.cert certificate shows.certificate.bytes job.file shows.certificate.are) shows.certificate.shows;
}

module _ (certificates : CertificatesAgree) where
  -- what is taken is not refused
  not_both : (sheet certificate : List ℕ) (line : ℕ) → HasTaken sheet certificate → HasRefused sheet certificate line → ⊥
  not_both sheet certificate line taken refused' =
      refused'.bad.none (((certificates sheet taken.pair refused'.pair taken.is_pair refused'.is_pair taken.built refused'.built).certificate certificate).0 taken.shows)

  -- there is one line at which it is refused
  one_line : (sheet certificate : List ℕ) (line other : ℕ) → HasRefused sheet certificate line → HasRefused sheet certificate other → line ≡ other
  one_line sheet certificate line other a b =
      let moved : IsBadAt b.pair certificate line = ((certificates sheet a.pair b.pair a.is_pair b.is_pair a.built b.built).bad certificate line).0 a.bad in
      let below : moved.before ≤ b.bad.before = b.bad.greatest moved.before moved.good in
      let above : b.bad.before ≤ moved.before = moved.greatest b.bad.before b.bad.good in
      let same : moved.before ≡ b.bad.before = omega (arith, below, above) in
      moved.is ∙ ap suc same ∙ sym b.bad.is

  pub one_certificate_lem : OneCertificate
  one_certificate_lem one two sheet certificate first second o q told told' = record {
    done = λ line is bad. not_both sheet certificate line (done_taken one sheet certificate first (tested one sheet first.asks Done (subst (λ (x : Outcome). Told one x) is told))) (told_refused two sheet certificate second q line told' bad);
    bad = λ line other is bad. one_line sheet certificate line other (told_refused one sheet certificate first o line told is) (told_refused two sheet certificate second q other told' bad);
  }

  -- what `prove` wrote
  record HasProved (sheet certificate : List ℕ) : Type 0 where
    taken : HasTaken sheet certificate
    sure : IsSure taken.pair

  was_proved : (run : Run) (sheet certificate : List ℕ) → Proved run sheet certificate → HasProved sheet certificate
  was_proved run sheet certificate d =
      let a = done_answered run sheet Prove d.asks d.is_done in
      let same = appended run.out.taken_before run.out.taken_now d.before certificate a.answer d.taken_before d.taken_now a.appends in
      let (read, sure, built, is_proof) = a.is_answer in record {
        taken = record { pair = a.pair; is_pair = a.is_pair; built = built; shows = subst (λ (b : List ℕ). IsCertificate a.pair b) same is_proof.is };
        sure = sure;
      }

  module _ (weigh : RuleWeighsOnce) (agree : PairsAgree) (well : SheetsAgree) (law : OneReading) (run : Run) (sheet certificate : List ℕ) (proved : HasProved sheet certificate) (job : IsToCertify run sheet certificate) where
    ended_uncertain : AreHad run job.asks.named job.asks.cert → (p : Pair) → IsPairOfBytes sheet p → (o : Outcome) → IsUncertain p run.shelf job.asks.cert o → ⊥
    ended_uncertain had p is (Heavy weight) why = not_heavy weigh sheet p is weight ((agree sheet proved.taken.pair p proved.taken.is_pair is).checked.accepted.0 proved.sure.accepted) why
    ended_uncertain had p is CertFault why = had.certificate why.1
    ended_uncertain had p is CertLong why = file_short run.shelf.files job.asks.cert certificate job.file why.1
    ended_uncertain had p is (CertBad line) (light, built, bytes, are, bad) =
        not_both sheet certificate line proved.taken (record { pair = p; is_pair = is; built = built; bad = subst (λ (b : List ℕ). IsBadAt p b line) (file_only run.shelf.files job.asks.cert certificate bytes job.file are) bad })
    ended_uncertain had p is o why = absurd why

    took_ended : (answer : List ℕ) (o : Outcome) → Took run.out answer o → (o ≡ Done) ⊎ IsUnwritten run o
    took_ended answer Done took = inl refl
    took_ended answer (WriteFault written) took = inr took.2
    took_ended answer o took = absurd took

    ended : AreHad run job.asks.named job.asks.cert → (o : Outcome) → Came run (certifying job.asks.named job.asks.cert) o ⊎ IsUnwritten run o → (o ≡ Done) ⊎ IsUnwritten run o
    ended had o (inr unwritten) = inr unwritten
    ended had o (inl (by_sheet (inl why))) = absurd (not_unpaired law weigh agree well run job.asks.named sheet proved.taken.pair had.sheet job.asks.has proved.taken.is_pair o why)
    ended had o (inl (by_sheet (inr (p, spells, why)))) = absurd (ended_uncertain had p (spelled_pair run.shelf.files job.asks.named sheet p job.asks.has spells) o why)
    ended had o (inl (by_pair p why)) = absurd why
    ended had o (inl (with_answer answer (read, shows) took)) = took_ended answer o took

  pub proof_is_taken_lem : OneReading → RuleWeighsOnce → PairsAgree → SheetsAgree → ProofIsTaken
  proof_is_taken_lem law weigh agree well one two sheet certificate first next o told =
      let proved = was_proved one sheet certificate first in record {
        good = λ line is. not_both sheet certificate line proved.taken (told_refused two sheet certificate next o line told is);
        ends = λ had. ended weigh agree well law two sheet certificate proved next had o (tested two sheet next.asks o told);
      }
