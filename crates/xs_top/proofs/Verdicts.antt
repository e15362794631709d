-- Two runs that check the same sheet tell the same of it.
use Rattle.std.proofs.Common.{◌≡◌, ◌∙◌, inl, inr, ℕ, Bool, true, false, List, [], None, Some, refl, sym, ap, subst}
use Rattle.std.specs.Prelude.{slice_index_or}
use Rattle.xs_class.specs.declared.side.Side.{Side}
use Rattle.xs_class.specs.declared.side.Side.TheVariants.{Text, Xml}
use Rattle.xs_chars.specs.declared.form.Form.{Form}
use Rattle.xs_chars.specs.declared.form.Form.TheVariants.{AsIs}
use Rattle.xs_xml_laws.specs.Laws.{OneReading}
use Rattle.xs_gram.specs.declared.suspect.Suspect.{Suspect as Found}
use Rattle.xs_gram.specs.declared.suspect.Suspect.TheVariants.{Vertical, Horizontal}
use Rattle.xs_gram.specs.Grammar.{no_rule, rule_of}
use Rattle.xs_unique.specs.Reasons.{shown as found_of}
use Rattle.xs_check_laws.specs.Acceptance.{IsAccepted, IsFirstHeavy, Suspect as Site, vertical, horizontal}
use Rattle.xs_check_laws.specs.Laws.{RuleWeighsOnce}
use Rattle.xs_sheet.specs.declared.sheet.Sheet.{Sheet}
use Rattle.xs_sheet.specs.Grammar.{IsSheetOf}
use Rattle.xs_words.specs.Command.{Sheet as Named}
use Rattle.xs_leiden.specs.Made.{made_text}
use Rattle.xs_pair.specs.Grammars.{Pair}
use Rattle.xs_pair.specs.declared.ill.Ill.{Ill}
use Rattle.xs_wf.specs.Rules.{IsWell}
use Rattle.xs_sheet_laws.specs.Laws.{OneSheet, AlikeSheetsMeanTheSame, OnePairOfBytes}
use Rattle.xs_sheet_laws.specs.Pairs.{AreAlike}
use Rattle.xs_sheet_laws.specs.Refusals.{BrokenOnce, IllOnce, HeavyOnce, site_of, SuspectOnce}
use Rattle.xs_talk.specs.declared.outcome.Report.{Report}
use Rattle.xs_talk.specs.declared.outcome.Report.TheVariants as R
use Rattle.xs_talk.specs.declared.outcome.Outcome.{Outcome}
use Rattle.xs_talk.specs.declared.outcome.Outcome.TheVariants.{Done, Foreign, SheetLong, SheetBad, SheetIll, Heavy, Suspect, NotUtf8, NotXml, SheetFault, ReadFault, WriteFault, DocLong, ScriptBad, OutlineBad, CertFault, CertLong, CertBad}
use Rattle.xs_top.specs.declared.asking.Job.{Job}
use Rattle.xs_top.specs.declared.asking.Job.TheVariants.{Check, Turn, Trees, Make, Session, ToTree, FromTree, Cover, Prove}
use Rattle.xs_top.specs.Asked.{upgrading, certifying, by, searches, Reading, of_nothing, of_made, of_document, of_script, of_outline, read_for}
use Rattle.xs_top.specs.Devices.{Shelves, Run, Input}
use Rattle.xs_top.specs.Certifying.{IsUncertain}
use Rattle.xs_top.specs.Known.{HasBytes}
use Rattle.xs_top.specs.Sheets.{IsStopped, IsBadSheet, IsIllSheet, IsBadBytes, IsPairOfBytes, IsUpgradeOfBytes, IsUnpaired}
use Rattle.xs_top.specs.Checks.{name_at, line_at, report_at, IsReported, IsUnsure, IsSure}
use Rattle.xs_top.specs.Answers.{IsUnread, IsNoOutline}
use Rattle.xs_top.specs.Scripts.{IsNoScript}
use Rattle.xs_top.specs.Ran.{IsUntaken, IsUnanswered, IsPassed, IsUndone, IsAnswer, Took, Told}
use Rattle.xs_top.specs.Runs.{wordless, Verdict, bad, ill, heavy, suspect, accepted}
use Rattle.xs_top.specs.Laws.{PairsAgree, SheetsAgree, IsChecked, ChecksSheet, for_job, by_certificate, verdict, OneVerdict, IsFlaw, IsBySheet, does, upgrades, certifies, OneFlaw, RefusesSheet, CheckDecides, CheckDecidesUpgrades, CheckDecidesCertificates, CheckAccepts}
use Rattle.xs_top.proofs.Known.{has_only, has_short, spelled_pair}
use Rattle.xs_top.proofs.Agreeing.{sure_kept}
use Rattle.xs_top.proofs.FencesOnce.{once_in_text, once_in_xml}
use Rattle.xs_top.proofs.Completing.{not_heavy_rule, not_heavy, not_shown, not_unsure}
use Rattle.xs_top.proofs.Coming.{Came, by_sheet, by_pair, with_answer, told_by, unchecked_unsure, IsFound, done_found}

-- what a verdict means of the bytes
abbrev Means : List ℕ → Verdict → Type 0
Means bytes (bad at) = IsBadSheet bytes at
Means bytes (ill which) = IsIllSheet bytes which
Means bytes (heavy weight) = (p : Pair) × IsPairOfBytes bytes p × IsFirstHeavy p.text p.xml weight
Means bytes (suspect site) = (p : Pair) × IsPairOfBytes bytes p × (report : Report) × IsReported p report × (wordless report ≡ site)
Means bytes accepted = (p : Pair) × IsPairOfBytes bytes p × IsAccepted p.text p.xml

-- the laws by which a sheet is refused in one way
pub record Refusing : Type 0 where
  pub one_sheet : OneSheet
  pub alike_sheets : AlikeSheetsMeanTheSame
  pub one_pair : OnePairOfBytes
  pub broken : BrokenOnce
  pub ill : IllOnce
  pub heavy : HeavyOnce
  pub suspect : SuspectOnce

-- what is reported of a site
site_report : Pair → Site → Report
site_report p (vertical side a b w) = R.Vertical side (name_at p side a) (line_at p a) (line_at p b) []
site_report p (horizontal side a c x m y) = R.Horizontal side (name_at p side a) (line_at p a) c [] [] []

site_reported : (p : Pair) (found : Found) → wordless (report_at p found) ≡ site_report p (site_of (found_of found))
unfolding site_report
site_reported p (Vertical side a b w) = refl
site_reported p (Horizontal side a c x m y) = refl

-- pairs of grammars that are alike have the same names and lines
name_same : (p q : Pair) → AreAlike p q → (side : Side) (a : ℕ) → name_at p side a ≡ name_at q side a
name_same p q alike Text a = ap (λ rs. slice_index_or p.nons (slice_index_or rs a no_rule).non []) alike.text.rules ∙ ap (λ ns. slice_index_or ns (rule_of q.text a).non []) alike.nons
name_same p q alike Xml a = ap (λ rs. slice_index_or p.nons (slice_index_or rs a no_rule).non []) alike.xml.rules ∙ ap (λ ns. slice_index_or ns (rule_of q.xml a).non []) alike.nons

line_same : (p q : Pair) → AreAlike p q → (a : ℕ) → line_at p a ≡ line_at q a
line_same p q alike a = ap (λ ls. slice_index_or ls a 0) alike.lines

verticals_same : (side : Side) (n m : List ℕ) (a b c d : ℕ) → n ≡ m → a ≡ c → b ≡ d → R.Vertical side n a b [] ≡ R.Vertical side m c d []
verticals_same side n m a b c d e f g = cc

horizontals_same : (side : Side) (n m : List ℕ) (a b cut : ℕ) → n ≡ m → a ≡ b → R.Horizontal side n a cut [] [] [] ≡ R.Horizontal side m b cut [] [] []
horizontals_same side n m a b cut e f = cc

reports_alike : (p q : Pair) → AreAlike p q → (site : Site) → site_report p site ≡ site_report q site
unfolding site_report
reports_alike p q alike (vertical side a b w) = verticals_same side _ _ _ _ _ _ (name_same p q alike side a) (line_same p q alike a) (line_same p q alike b)
reports_alike p q alike (horizontal side a c x m y) = horizontals_same side _ _ _ _ c (name_same p q alike side a) (line_same p q alike a)

some_verdict : (v w : Verdict) → Some v ≡ Some w → v ≡ w
some_verdict v w e = cc

none_verdict : (v : Verdict) → None ≡ Some v → ⊥
none_verdict v e = cc

as_verdict : (bytes : List ℕ) (v w : Verdict) → Some v ≡ Some w → Means bytes v → Means bytes w
as_verdict bytes v w e m = subst (Means bytes) (some_verdict v w e) m

-- before the job
stopped_means : (run : Run) (named : Named) (sheet : List ℕ) (o : Outcome) (v : Verdict) → IsStopped run.shelf named o → verdict o ≡ Some v → Means sheet v
stopped_means run named sheet SheetFault v stopped is = absurd (none_verdict v is)
stopped_means run named sheet SheetLong v stopped is = absurd (none_verdict v is)
stopped_means run named sheet o v stopped is = absurd stopped

bad_means : (sheet : List ℕ) (o : Outcome) (v : Verdict) → IsBadBytes sheet o → verdict o ≡ Some v → Means sheet v
bad_means sheet (SheetBad at) v why is = as_verdict sheet (bad at) v is why
bad_means sheet (SheetIll which) v why is = as_verdict sheet (ill which) v is why
bad_means sheet o v why is = absurd why

unpaired_means : (run : Run) (named : Named) (sheet : List ℕ) → HasBytes run.shelf.files named sheet → (o : Outcome) (v : Verdict) → IsUnpaired run.shelf named o → verdict o ≡ Some v → Means sheet v
unpaired_means run named sheet has o v (inl stopped) is = stopped_means run named sheet o v stopped is
unpaired_means run named sheet has o v (inr (bytes, are, why)) is = bad_means sheet o v (subst (λ (b : List ℕ). IsBadBytes b o) (has_only run.shelf.files named sheet bytes has are) why) is

-- of the job
unsure_means : (sheet : List ℕ) (p : Pair) → IsPairOfBytes sheet p → (o : Outcome) (v : Verdict) → IsUnsure p o → verdict o ≡ Some v → Means sheet v
unsure_means sheet p is_p (Heavy weight) v why is = as_verdict sheet (heavy weight) v is (p, is_p, why)
unsure_means sheet p is_p (Suspect report) v why is = as_verdict sheet (suspect (wordless report)) v is (p, is_p, report, why, refl)
unsure_means sheet p is_p o v why is = absurd why

untaken_accepted : (i : Input) (o : Outcome) → IsUntaken i o → verdict o ≡ Some accepted
untaken_accepted i ReadFault why = refl
untaken_accepted i DocLong why = refl
untaken_accepted i o why = absurd why

unread_accepted : (p : Pair) (side : Side) (form : Form) (bytes : List ℕ) (o : Outcome) → IsUnread p side form bytes o → verdict o ≡ Some accepted
unread_accepted p side form bytes (Foreign viable) why = refl
unread_accepted p side form bytes (NotUtf8 at) why = refl
unread_accepted p side form bytes (NotXml at) why = refl
unread_accepted p side form bytes o why = absurd why

no_script_accepted : (bytes : List ℕ) (o : Outcome) → IsNoScript bytes o → verdict o ≡ Some accepted
no_script_accepted bytes (NotUtf8 at) why = refl
no_script_accepted bytes (ScriptBad line) why = refl
no_script_accepted bytes o why = absurd why

no_outline_accepted : (p : Pair) (bytes : List ℕ) (o : Outcome) → IsNoOutline p bytes o → verdict o ≡ Some accepted
no_outline_accepted p bytes (NotUtf8 at) why = refl
no_outline_accepted p bytes (OutlineBad line) why = refl
no_outline_accepted p bytes o why = absurd why

unanswered_accepted : (p : Pair) (i : Input) (reading : Reading) (o : Outcome) → IsUnanswered p i reading o → verdict o ≡ Some accepted
unanswered_accepted p i of_nothing o why = absurd why
unanswered_accepted p i (of_made seed lines) o (read, unread) = unread_accepted p Text AsIs (made_text seed lines) o unread
unanswered_accepted p i (of_document side form) o (inl untaken) = untaken_accepted i o untaken
unanswered_accepted p i (of_document side form) o (inr (bytes, takes, unread)) = unread_accepted p side form bytes o unread
unanswered_accepted p i of_script o (inl untaken) = untaken_accepted i o untaken
unanswered_accepted p i of_script o (inr (bytes, takes, why)) = no_script_accepted bytes o why
unanswered_accepted p i of_outline o (inl untaken) = untaken_accepted i o untaken
unanswered_accepted p i of_outline o (inr (bytes, takes, why)) = no_outline_accepted p bytes o why

took_accepted : (run : Run) (answer : List ℕ) (o : Outcome) → Took run.out answer o → verdict o ≡ Some accepted
took_accepted run answer Done took = refl
took_accepted run answer (WriteFault written) took = refl
took_accepted run answer o took = absurd took

sure_means : (sheet : List ℕ) (p : Pair) → IsPairOfBytes sheet p → IsSure p → (o : Outcome) (v : Verdict) → verdict o ≡ Some accepted → verdict o ≡ Some v → Means sheet v
sure_means sheet p is_p sure o v is_accepted is = as_verdict sheet accepted v (sym is_accepted ∙ is) (p, is_p, sure.accepted)

not_checked : false ≡ true → ⊥
not_checked e = cc

passed_sure : (checked : Bool) (p : Pair) → checked ≡ true → IsPassed checked p → IsSure p
passed_sure true p is passed = passed
passed_sure false p is passed = absurd (not_checked is)

undone_means : (sheet : List ℕ) (p : Pair) (i : Input) (job : Job) → IsChecked job → IsPairOfBytes sheet p → (o : Outcome) (v : Verdict) → IsUndone p i job o → verdict o ≡ Some v → Means sheet v
undone_means sheet p i job checked is_p o v (inl why) is = unsure_means sheet p is_p o v (unchecked_unsure (searches job) p i o why) is
undone_means sheet p i job checked is_p o v (inr (passed, why)) is = sure_means sheet p is_p (passed_sure (searches job) p checked passed) o v (unanswered_accepted p i (read_for job) o why) is

answer_sure : (p : Pair) (i : Input) (job : Job) (answer : List ℕ) → IsChecked job → IsAnswer p i job answer → IsSure p
answer_sure p i Check answer checked has = has.1
answer_sure p i (Turn from to form) answer checked has = has.0
answer_sure p i (Trees max) answer checked has = absurd (not_checked checked)
answer_sure p i (Make seed lines) answer checked has = has.1
answer_sure p i Session answer checked has = has.0
answer_sure p i (ToTree from form) answer checked has = has.0
answer_sure p i (FromTree to) answer checked has = has.0
answer_sure p i Cover answer checked has = absurd (not_checked checked)
answer_sure p i Prove answer checked has = has.1

came_means : (run : Run) (sheet : List ℕ) (named : Named) (job : Job) → HasBytes run.shelf.files named sheet → IsChecked job → (o : Outcome) → Came run (by named job) o → (v : Verdict) → verdict o ≡ Some v → Means sheet v
came_means run sheet named job has checked o (by_sheet why) v is = unpaired_means run named sheet has o v why is
came_means run sheet named job has checked o (by_pair p (spells, why)) v is = undone_means sheet p run.input job checked (spelled_pair run.shelf.files named sheet p has spells) o v why is
came_means run sheet named job has checked o (with_answer answer (p, spells, is_answer) took) v is =
    sure_means sheet p (spelled_pair run.shelf.files named sheet p has spells) (answer_sure p run.input job answer checked is_answer) o v (took_accepted run answer o took) is

-- of its check by a certificate
uncertain_means : (sheet : List ℕ) (p : Pair) → IsPairOfBytes sheet p → (shelf : Shelves) (cert : List ℕ) (o : Outcome) (v : Verdict) → IsUncertain p shelf cert o → verdict o ≡ Some v → Means sheet v
uncertain_means sheet p is_p shelf cert (Heavy weight) v why is = as_verdict sheet (heavy weight) v is (p, is_p, why)
uncertain_means sheet p is_p shelf cert CertFault v why is = absurd (none_verdict v is)
uncertain_means sheet p is_p shelf cert CertLong v why is = absurd (none_verdict v is)
uncertain_means sheet p is_p shelf cert (CertBad line) v why is = absurd (none_verdict v is)
uncertain_means sheet p is_p shelf cert o v why is = absurd why

tested_means : (run : Run) (sheet : List ℕ) (named : Named) (cert : List ℕ) → HasBytes run.shelf.files named sheet → (o : Outcome) → Came run (certifying named cert) o → (v : Verdict) → verdict o ≡ Some v → Means sheet v
tested_means run sheet named cert has o (by_sheet (inl why)) v is = unpaired_means run named sheet has o v why is
tested_means run sheet named cert has o (by_sheet (inr (p, spells, why))) v is =
    uncertain_means sheet p (spelled_pair run.shelf.files named sheet p has spells) run.shelf cert o v why is
tested_means run sheet named cert has o (by_pair p why) v is = absurd why
tested_means run sheet named cert has o (with_answer answer (read, shows) took) v is =
    let is_p : IsPairOfBytes sheet shows.pair = spelled_pair run.shelf.files named sheet shows.pair has shows.spelled in
    sure_means sheet shows.pair is_p shows.sure o v (took_accepted run answer o took) is

checked_means : (run : Run) (sheet : List ℕ) → ChecksSheet run sheet → (o : Outcome) (v : Verdict) → Told run o → verdict o ≡ Some v → Means sheet v
checked_means run sheet (for_job job asks checked) o v told is =
    told_by run (by asks.named job) asks.is (λ (x : Outcome). (w : Verdict) → verdict x ≡ Some w → Means sheet w) (λ x came. came_means run sheet asks.named job asks.has checked x came) (λ of written rose w none. absurd (none_verdict w none)) o told v is
checked_means run sheet (by_certificate asks) o v told is =
    told_by run (certifying asks.named asks.cert) asks.is (λ (x : Outcome). (w : Verdict) → verdict x ≡ Some w → Means sheet w) (λ x came. tested_means run sheet asks.named asks.cert asks.has x came) (λ of written rose w none. absurd (none_verdict w none)) o told v is

-- what a verdict shows of the bytes where the run may not have checked the sheet
pub record IsFormed (bytes : List ℕ) : Type 0 where
  pub sheet : Sheet
  pub spelled : IsSheetOf bytes sheet
  pub well : IsWell sheet

abbrev Shows : List ℕ → Verdict → Type 0
Shows bytes (bad at) = IsBadSheet bytes at
Shows bytes (ill which) = IsIllSheet bytes which
Shows bytes (heavy weight) = IsFormed bytes
Shows bytes (suspect site) = IsFormed bytes
Shows bytes accepted = IsFormed bytes

pair_formed : (bytes : List ℕ) (p : Pair) → IsPairOfBytes bytes p → IsFormed bytes
pair_formed bytes p is = record { sheet = is.sheet; spelled = is.spelled; well = is.well }

upgrade_formed : (bytes answer : List ℕ) → IsUpgradeOfBytes bytes answer → IsFormed bytes
upgrade_formed bytes answer is = record { sheet = is.sheet; spelled = is.spelled; well = is.well }

means_shows : (bytes : List ℕ) (v : Verdict) → Means bytes v → Shows bytes v
means_shows bytes (bad at) m = m
means_shows bytes (ill which) m = m
means_shows bytes (heavy weight) m = pair_formed bytes m.0 m.1
means_shows bytes (suspect site) m = pair_formed bytes m.0 m.1
means_shows bytes accepted m = pair_formed bytes m.0 m.1

formed_shows : (sheet : List ℕ) → IsFormed sheet → (o : Outcome) (v : Verdict) → verdict o ≡ Some accepted → verdict o ≡ Some v → Shows sheet v
formed_shows sheet formed o v is_accepted is = subst (Shows sheet) (some_verdict accepted v (sym is_accepted ∙ is)) formed

undone_shows : (sheet : List ℕ) (p : Pair) (i : Input) (job : Job) → IsPairOfBytes sheet p → (o : Outcome) (v : Verdict) → IsUndone p i job o → verdict o ≡ Some v → Shows sheet v
undone_shows sheet p i job is_p o v (inl why) is = means_shows sheet v (unsure_means sheet p is_p o v (unchecked_unsure (searches job) p i o why) is)
undone_shows sheet p i job is_p o v (inr (passed, why)) is = formed_shows sheet (pair_formed sheet p is_p) o v (unanswered_accepted p i (read_for job) o why) is

came_shows : (run : Run) (sheet : List ℕ) (named : Named) (job : Job) → HasBytes run.shelf.files named sheet → (o : Outcome) → Came run (by named job) o → (v : Verdict) → verdict o ≡ Some v → Shows sheet v
came_shows run sheet named job has o (by_sheet why) v is = means_shows sheet v (unpaired_means run named sheet has o v why is)
came_shows run sheet named job has o (by_pair p (spells, why)) v is = undone_shows sheet p run.input job (spelled_pair run.shelf.files named sheet p has spells) o v why is
came_shows run sheet named job has o (with_answer answer (p, spells, is_answer) took) v is =
    formed_shows sheet (pair_formed sheet p (spelled_pair run.shelf.files named sheet p has spells)) o v (took_accepted run answer o took) is

upgraded_shows : (run : Run) (sheet : List ℕ) (named : Named) → HasBytes run.shelf.files named sheet → (o : Outcome) → Came run (upgrading named) o → (v : Verdict) → verdict o ≡ Some v → Shows sheet v
upgraded_shows run sheet named has o (by_sheet why) v is = means_shows sheet v (unpaired_means run named sheet has o v why is)
upgraded_shows run sheet named has o (by_pair p why) v is = absurd why
upgraded_shows run sheet named has o (with_answer answer (read, spells) took) v is =
    let formed = subst IsFormed (has_only run.shelf.files named sheet spells.bytes has spells.are) (upgrade_formed spells.bytes answer spells.is) in
    formed_shows sheet formed o v (took_accepted run answer o took) is

told_shows : (run : Run) (sheet : List ℕ) → IsBySheet run sheet → (o : Outcome) (v : Verdict) → Told run o → verdict o ≡ Some v → Shows sheet v
told_shows run sheet (does job asks) o v told is =
    told_by run (by asks.named job) asks.is (λ (x : Outcome). (w : Verdict) → verdict x ≡ Some w → Shows sheet w) (λ x came. came_shows run sheet asks.named job asks.has x came) (λ of written rose w none. absurd (none_verdict w none)) o told v is
told_shows run sheet (upgrades asks) o v told is =
    told_by run (upgrading asks.named) asks.is (λ (x : Outcome). (w : Verdict) → verdict x ≡ Some w → Shows sheet w) (λ x came. upgraded_shows run sheet asks.named asks.has x came) (λ of written rose w none. absurd (none_verdict w none)) o told v is
told_shows run sheet (certifies asks) o v told is = means_shows sheet v (checked_means run sheet (by_certificate asks) o v told is)

module _ (law : OneReading) (weigh : RuleWeighsOnce) (agree : PairsAgree) (well : SheetsAgree) where
  -- no two kinds of verdicts hold of the same bytes
  bad_not : (sheet : List ℕ) (at : ℕ) → Means sheet (bad at) → (p : Pair) → IsPairOfBytes sheet p → ⊥
  bad_not sheet at is p is_p = is.none is_p.sheet is_p.spelled

  ill_unformed : (sheet : List ℕ) (which : Ill) → Means sheet (ill which) → IsFormed sheet → ⊥
  ill_unformed sheet which is formed = well sheet formed.sheet is.sheet formed.spelled is.spelled formed.well which.rule which.line is.is_ill.line.fails

  ill_not : (sheet : List ℕ) (which : Ill) → Means sheet (ill which) → (p : Pair) → IsPairOfBytes sheet p → ⊥
  ill_not sheet which is p is_p = ill_unformed sheet which is (pair_formed sheet p is_p)

  heavy_not_suspect : (sheet : List ℕ) (weight : ℕ) (site : Report) → Means sheet (heavy weight) → Means sheet (suspect site) → ⊥
  heavy_not_suspect sheet weight site (p, is_p, is_heavy) (q, is_q, report, is, same) = by_case (((agree sheet p q is_p is_q).checked.heavy weight).0 is_heavy)
    where
      by_case : IsFirstHeavy q.text q.xml weight → ⊥
      by_case (inl one) = not_heavy_rule weigh q.text (once_in_text sheet q is_q) weight is.light_text one
      by_case (inr two) = not_heavy_rule weigh q.xml (once_in_xml sheet q is_q) weight is.light_xml two.1

  heavy_not_accepted : (sheet : List ℕ) (weight : ℕ) → Means sheet (heavy weight) → Means sheet accepted → ⊥
  heavy_not_accepted sheet weight (p, is_p, is_heavy) (q, is_q, is) = not_heavy weigh sheet q is_q weight is (((agree sheet p q is_p is_q).checked.heavy weight).0 is_heavy)

  suspect_not_accepted : (sheet : List ℕ) (site : Report) → Means sheet (suspect site) → Means sheet accepted → ⊥
  suspect_not_accepted sheet site (p, is_p, report, is_suspect, same) (q, is_q, is) = not_shown p.text p.xml is_suspect.found ((agree sheet q p is_q is_p).checked.accepted.0 is) is_suspect.shows.1

  -- and no two of one kind
  bad_once : Refusing → (sheet : List ℕ) (at at' : ℕ) → Means sheet (bad at) → Means sheet (bad at') → bad at ≡ bad at'
  bad_once laws sheet at at' m n = ap bad (laws.broken sheet at at' m.broken n.broken)

  ill_once : Refusing → (sheet : List ℕ) (i j : Ill) → Means sheet (ill i) → Means sheet (ill j) → ill i ≡ ill j
  ill_once laws sheet i j m n =
      let same = (laws.alike_sheets n.sheet m.sheet (laws.one_sheet sheet n.sheet m.sheet n.spelled m.spelled)).ill j in
      ap ill (laws.ill m.sheet i j m.is_ill (same.0 n.is_ill))

  heavy_once : Refusing → (sheet : List ℕ) (v w : ℕ) → Means sheet (heavy v) → Means sheet (heavy w) → heavy v ≡ heavy w
  heavy_once laws sheet v w (p, is_p, m) (q, is_q, n) =
      ap heavy (laws.heavy q.text q.xml (once_in_text sheet q is_q) (once_in_xml sheet q is_q) v w (((agree sheet p q is_p is_q).checked.heavy v).0 m) n)

  suspect_once : Refusing → (sheet : List ℕ) (r s : Report) → Means sheet (suspect r) → Means sheet (suspect s) → suspect r ≡ suspect s
  suspect_once laws sheet r s (p, is_p, report, m, is_r) (q, is_q, other, n, is_s) =
      let shows = ((agree sheet p q is_p is_q).checked.shows (found_of m.found)).0 m.shows in
      let site = laws.suspect q.text q.xml (found_of m.found) (found_of n.found) shows.0 n.shows.0 in
      let alike = laws.one_pair sheet is_p.sheet is_q.sheet p q is_p.spelled is_q.spelled is_p.pair is_q.pair in
      ap suspect (sym is_r ∙ ap wordless m.is ∙ site_reported p m.found ∙ reports_alike p q alike (site_of (found_of m.found)) ∙ ap (site_report q) site ∙ sym (site_reported q n.found) ∙ sym (ap wordless n.is) ∙ is_s)

  one_meaning : Refusing → (sheet : List ℕ) (v w : Verdict) → Means sheet v → Means sheet w → v ≡ w
  one_meaning laws sheet (bad at) (bad at') m n = bad_once laws sheet at at' m n
  one_meaning laws sheet (bad at) (ill which) m n = absurd (m.none n.sheet n.spelled)
  one_meaning laws sheet (bad at) (heavy weight) m n = absurd (bad_not sheet at m n.0 n.1)
  one_meaning laws sheet (bad at) (suspect site) m n = absurd (bad_not sheet at m n.0 n.1)
  one_meaning laws sheet (bad at) accepted m n = absurd (bad_not sheet at m n.0 n.1)
  one_meaning laws sheet (ill which) (bad at) m n = absurd (n.none m.sheet m.spelled)
  one_meaning laws sheet (ill which) (ill other) m n = ill_once laws sheet which other m n
  one_meaning laws sheet (ill which) (heavy weight) m n = absurd (ill_not sheet which m n.0 n.1)
  one_meaning laws sheet (ill which) (suspect site) m n = absurd (ill_not sheet which m n.0 n.1)
  one_meaning laws sheet (ill which) accepted m n = absurd (ill_not sheet which m n.0 n.1)
  one_meaning laws sheet (heavy weight) (bad at) m n = absurd (bad_not sheet at n m.0 m.1)
  one_meaning laws sheet (heavy weight) (ill which) m n = absurd (ill_not sheet which n m.0 m.1)
  one_meaning laws sheet (heavy weight) (heavy other) m n = heavy_once laws sheet weight other m n
  one_meaning laws sheet (heavy weight) (suspect site) m n = absurd (heavy_not_suspect sheet weight site m n)
  one_meaning laws sheet (heavy weight) accepted m n = absurd (heavy_not_accepted sheet weight m n)
  one_meaning laws sheet (suspect site) (bad at) m n = absurd (bad_not sheet at n m.0 m.1)
  one_meaning laws sheet (suspect site) (ill which) m n = absurd (ill_not sheet which n m.0 m.1)
  one_meaning laws sheet (suspect site) (heavy weight) m n = absurd (heavy_not_suspect sheet weight site n m)
  one_meaning laws sheet (suspect site) (suspect other) m n = suspect_once laws sheet site other m n
  one_meaning laws sheet (suspect site) accepted m n = absurd (suspect_not_accepted sheet site m n)
  one_meaning laws sheet accepted (bad at) m n = absurd (bad_not sheet at n m.0 m.1)
  one_meaning laws sheet accepted (ill which) m n = absurd (ill_not sheet which n m.0 m.1)
  one_meaning laws sheet accepted (heavy weight) m n = absurd (heavy_not_accepted sheet weight n m)
  one_meaning laws sheet accepted (suspect site) m n = absurd (suspect_not_accepted sheet site n m)
  one_meaning laws sheet accepted accepted m n = refl

  pub one_verdict_lem : Refusing → OneVerdict
  one_verdict_lem laws one two sheet asks also o q told_o told_q v w is_v is_w =
      one_meaning laws sheet v w (checked_means one sheet asks o v told_o is_v) (checked_means two sheet also q w told_q is_w)

  one_flaw : Refusing → (sheet : List ℕ) (v w : Verdict) → IsFlaw v → Shows sheet v → Shows sheet w → v ≡ w
  one_flaw laws sheet (bad at) (bad at') flaw m n = bad_once laws sheet at at' m n
  one_flaw laws sheet (bad at) (ill which) flaw m n = absurd (m.none n.sheet n.spelled)
  one_flaw laws sheet (bad at) (heavy weight) flaw m n = absurd (m.none n.sheet n.spelled)
  one_flaw laws sheet (bad at) (suspect site) flaw m n = absurd (m.none n.sheet n.spelled)
  one_flaw laws sheet (bad at) accepted flaw m n = absurd (m.none n.sheet n.spelled)
  one_flaw laws sheet (ill which) (bad at) flaw m n = absurd (n.none m.sheet m.spelled)
  one_flaw laws sheet (ill which) (ill other) flaw m n = ill_once laws sheet which other m n
  one_flaw laws sheet (ill which) (heavy weight) flaw m n = absurd (ill_unformed sheet which m n)
  one_flaw laws sheet (ill which) (suspect site) flaw m n = absurd (ill_unformed sheet which m n)
  one_flaw laws sheet (ill which) accepted flaw m n = absurd (ill_unformed sheet which m n)
  one_flaw laws sheet (heavy weight) w flaw m n = absurd flaw
  one_flaw laws sheet (suspect site) w flaw m n = absurd flaw
  one_flaw laws sheet accepted w flaw m n = absurd flaw

  pub one_flaw_lem : Refusing → OneFlaw
  one_flaw_lem laws one two sheet this also o q told_o told_q v w flaw is_v is_w =
      one_flaw laws sheet v w flaw (told_shows one sheet this o v told_o is_v) (told_shows two sheet also q w told_q is_w)

  -- a run by a sheet that is accepted does not refuse it
  unpaired_not : (run : Run) (named : Named) (sheet : List ℕ) → HasBytes run.shelf.files named sheet → (p : Pair) → IsPairOfBytes sheet p → (o : Outcome) → IsUnpaired run.shelf named o → RefusesSheet o → ⊥
  unpaired_not run named sheet has p is_p SheetLong (inl stopped) refuses = has_short run.shelf.files named sheet has stopped
  unpaired_not run named sheet has p is_p (SheetBad at) (inr (bytes, are, why)) refuses =
      let moved = subst (λ (b : List ℕ). IsBadBytes b (SheetBad at)) (has_only run.shelf.files named sheet bytes has are) why in
      bad_not sheet at moved p is_p
  unpaired_not run named sheet has p is_p (SheetIll which) (inr (bytes, are, why)) refuses =
      let moved = subst (λ (b : List ℕ). IsBadBytes b (SheetIll which)) (has_only run.shelf.files named sheet bytes has are) why in
      ill_not sheet which moved p is_p
  unpaired_not run named sheet has p is_p (SheetBad at) (inl stopped) refuses = stopped
  unpaired_not run named sheet has p is_p (SheetIll which) (inl stopped) refuses = stopped
  unpaired_not run named sheet has p is_p SheetLong (inr (bytes, are, why)) refuses = why
  unpaired_not run named sheet has p is_p (Heavy weight) (inl stopped) refuses = stopped
  unpaired_not run named sheet has p is_p (Heavy weight) (inr (bytes, are, why)) refuses = why
  unpaired_not run named sheet has p is_p (Suspect report) (inl stopped) refuses = stopped
  unpaired_not run named sheet has p is_p (Suspect report) (inr (bytes, are, why)) refuses = why
  unpaired_not run named sheet has p is_p o why refuses = refuses

  -- no outcome of a document refuses the sheet
  accepted_not : (o : Outcome) → verdict o ≡ Some accepted → RefusesSheet o → ⊥
  accepted_not (SheetBad at) is refuses = not_bad (some_verdict (bad at) accepted is)
    where
      not_bad : bad at ≡ accepted → ⊥
      not_bad e = cc
  accepted_not (SheetIll which) is refuses = not_ill (some_verdict (ill which) accepted is)
    where
      not_ill : ill which ≡ accepted → ⊥
      not_ill e = cc
  accepted_not (Heavy weight) is refuses = not_heavy_one (some_verdict (heavy weight) accepted is)
    where
      not_heavy_one : heavy weight ≡ accepted → ⊥
      not_heavy_one e = cc
  accepted_not (Suspect report) is refuses = not_suspect (some_verdict (suspect (wordless report)) accepted is)
    where
      not_suspect : suspect (wordless report) ≡ accepted → ⊥
      not_suspect e = cc
  accepted_not SheetLong is refuses = none_verdict accepted is
  accepted_not o is refuses = refuses

  undone_not : (sheet : List ℕ) (p : Pair) → IsPairOfBytes sheet p → (i : Input) (job : Job) → IsAccepted p.text p.xml → (o : Outcome) → IsUndone p i job o → RefusesSheet o → ⊥
  undone_not sheet p is_p i job is o (inl why) refuses = not_unsure law weigh agree well sheet p is_p o is (unchecked_unsure (searches job) p i o why)
  undone_not sheet p is_p i job is o (inr (passed, why)) refuses = accepted_not o (unanswered_accepted p i (read_for job) o why) refuses

  came_not : (run : Run) (sheet : List ℕ) (named : Named) (job : Job) → HasBytes run.shelf.files named sheet → IsFound sheet → (o : Outcome) → Came run (by named job) o → RefusesSheet o → ⊥
  came_not run sheet named job has found o (by_sheet why) refuses = unpaired_not run named sheet has found.pair found.is_pair o why refuses
  came_not run sheet named job has found o (by_pair q (spells, why)) refuses =
      let is_q : IsPairOfBytes sheet q = spelled_pair run.shelf.files named sheet q has spells in
      undone_not sheet q is_q run.input job ((agree sheet found.pair q found.is_pair is_q).checked.accepted.0 found.sure.accepted) o why refuses
  came_not run sheet named job has found o (with_answer answer is_answer took) refuses = accepted_not o (took_accepted run answer o took) refuses

  pub check_decides_lem : CheckDecides
  check_decides_lem one two job sheet asks also is_done o told refuses =
      told_by two (by also.named job) also.is (λ (x : Outcome). RefusesSheet x → ⊥) (λ x came. came_not two sheet also.named job also.has (done_found one sheet asks is_done) x came) (λ of written rose none. none) o told refuses

  -- an upgrade of a sheet that is accepted does not refuse it
  upgrade_not : (run : Run) (sheet : List ℕ) (named : Named) → HasBytes run.shelf.files named sheet → IsFound sheet → (o : Outcome) → Came run (upgrading named) o → RefusesSheet o → ⊥
  upgrade_not run sheet named has found o (by_sheet why) refuses = unpaired_not run named sheet has found.pair found.is_pair o why refuses
  upgrade_not run sheet named has found o (by_pair p why) refuses = why
  upgrade_not run sheet named has found o (with_answer answer spells took) refuses = accepted_not o (took_accepted run answer o took) refuses

  pub check_decides_upgrades_lem : CheckDecidesUpgrades
  check_decides_upgrades_lem one two sheet asks also is_done o told refuses =
      told_by two (upgrading also.named) also.is (λ (x : Outcome). RefusesSheet x → ⊥) (λ x came. upgrade_not two sheet also.named also.has (done_found one sheet asks is_done) x came) (λ of written rose none. none) o told refuses

  -- nor does its check by a certificate
  uncertain_not : (sheet : List ℕ) (p : Pair) → IsPairOfBytes sheet p → IsAccepted p.text p.xml → (shelf : Shelves) (cert : List ℕ) (o : Outcome) → IsUncertain p shelf cert o → RefusesSheet o → ⊥
  uncertain_not sheet p is_p is shelf cert (Heavy weight) why refuses = not_heavy weigh sheet p is_p weight is why
  uncertain_not sheet p is_p is shelf cert (SheetBad at) why refuses = why
  uncertain_not sheet p is_p is shelf cert (SheetIll which) why refuses = why
  uncertain_not sheet p is_p is shelf cert (Suspect report) why refuses = why
  uncertain_not sheet p is_p is shelf cert SheetLong why refuses = why
  uncertain_not sheet p is_p is shelf cert o why refuses = refuses

  tested_not : (run : Run) (sheet : List ℕ) (named : Named) (cert : List ℕ) → HasBytes run.shelf.files named sheet → IsFound sheet → (o : Outcome) → Came run (certifying named cert) o → RefusesSheet o → ⊥
  tested_not run sheet named cert has found o (by_sheet (inl why)) refuses = unpaired_not run named sheet has found.pair found.is_pair o why refuses
  tested_not run sheet named cert has found o (by_sheet (inr (q, spells, why))) refuses =
      let is_q : IsPairOfBytes sheet q = spelled_pair run.shelf.files named sheet q has spells in
      uncertain_not sheet q is_q ((agree sheet found.pair q found.is_pair is_q).checked.accepted.0 found.sure.accepted) run.shelf cert o why refuses
  tested_not run sheet named cert has found o (by_pair p why) refuses = why
  tested_not run sheet named cert has found o (with_answer answer shows took) refuses = accepted_not o (took_accepted run answer o took) refuses

  pub check_decides_certificates_lem : CheckDecidesCertificates
  check_decides_certificates_lem one two sheet asks also is_done o told refuses =
      told_by two (certifying also.named also.cert) also.is (λ (x : Outcome). RefusesSheet x → ⊥) (λ x came. tested_not two sheet also.named also.cert also.has (done_found one sheet asks is_done) x came) (λ of written rose none. none) o told refuses

pub check_accepts_lem : PairsAgree → CheckAccepts
check_accepts_lem agree run sheet asks told =
    let a = done_found run sheet asks told in
    record { pair = a.pair; is_pair = a.is_pair; sure = λ p is_p. sure_kept a.pair p (agree sheet a.pair p a.is_pair is_p) a.sure }
