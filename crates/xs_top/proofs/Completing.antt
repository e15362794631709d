-- Where the devices are sure, the sheet well formed and the document of its language, a run is done.
use Rattle.std.proofs.Common.{◌≡◌, ◌∙◌, ℕ, ◌<◌, ◌≤◌, Bool, true, false, List, length, Some, None, inl, inr, refl, sym, subst, ap, arith}
use Rattle.std.specs.Prelude.{Result, Ok, Err, IfOk}
use Rattle.std.specs.declared.option.Option.{Option}
use Rattle.xs_class.specs.declared.memory.Memory.{Memory as Refusal}
use Rattle.xs_io.specs.Causes.{Rose}
use Rattle.xs_io.specs.Whole.{Drains, Exceeds}
use Rattle.xs_class.specs.declared.side.Side.{Side}
use Rattle.xs_class.specs.declared.side.Side.TheVariants.{Text, Xml}
use Rattle.xs_chars.specs.declared.form.Form.{Form}
use Rattle.xs_chars.specs.declared.form.Form.TheVariants.{AsIs}
use Rattle.xs_chars.specs.Text.{text_of}
use Rattle.xs_xml_laws.specs.Laws.{OneReading}
use Rattle.xs_gram.specs.Languages.{InLang}
use Rattle.xs_gram.specs.Grammar.{Grammar}
use Rattle.xs_gram.specs.Fences.{fence_symbols}
use Rattle.xs_gram.specs.Laws.{IsDistinct}
use Rattle.xs_gram.specs.Common.{Common}
use Rattle.xs_gram.specs.declared.suspect.Suspect.{Suspect as Found}
use Rattle.xs_gram.specs.declared.suspect.Suspect.TheVariants.{Vertical, Horizontal}
use Rattle.xs_check_laws.specs.Acceptance.{IsAccepted, IsLight, IsHeaviness, IsFirstHeavy, IsSuspect}
use Rattle.xs_check_laws.specs.Laws.{RuleWeighsOnce}
use Rattle.xs_unique.specs.Reasons.{shown}
use Rattle.xs_pair.specs.Grammars.{Pair, grammar_of}
use Rattle.xs_talk.specs.declared.outcome.Outcome.{Outcome}
use Rattle.xs_talk.specs.declared.outcome.Outcome.TheVariants.{Done, Foreign, SheetLong, SheetBad, SheetIll, Heavy, Suspect, NotUtf8, NotXml, SheetFault, ReadFault, WriteFault, DocLong, ScriptBad, OutlineBad, CertFault, CertLong, CertBad}
use Rattle.xs_top.specs.declared.asking.Job.{Job}
use Rattle.xs_top.specs.Asked.{Ask, printing, upgrading, certifying, by, searches, Reading, of_nothing, of_made, of_document, of_script, of_outline, read_for}
use Rattle.xs_leiden.specs.Made.{made_text}
use Rattle.xs_words.specs.Command.{Sheet as Named}
use Rattle.xs_cert_laws.specs.Certificates.{IsCertificate}
use Rattle.xs_top.specs.Devices.{Run, Input}
use Rattle.xs_top.specs.Certifying.{IsUncertain, IsUncertified}
use Rattle.xs_sheet.specs.Grammar.{IsSheetOf}
use Rattle.xs_top.specs.Known.{HasBytes}
use Rattle.xs_top.specs.Sheets.{AreBytesOf, IsFailed, IsStopped, IsBadBytes, IsPairOfBytes, IsUnpaired}
use Rattle.xs_top.specs.Certificates.{CertificatesAgree}
use Rattle.xs_top.specs.Laws.{PairsAgree, SheetsAgree, OutlinesAgree}
use Rattle.xs_top.proofs.FencesOnce.{once_in_text, once_in_xml}
use Rattle.xs_top.proofs.Known.{has_only, has_short, spelled_pair}
use Rattle.xs_top.proofs.Certifying.{file_only, file_short}
use Rattle.xs_top.proofs.Agreeing.{doable_kept}
use Rattle.xs_top.proofs.Coming.{Came, by_sheet, by_pair, with_answer, told_by}
use Rattle.xs_top.proofs.Scripts.{not_bad_script}
use Rattle.xs_top.specs.Checks.{IsUnsure}
use Rattle.xs_top.specs.Documents.{IsWordOf}
use Rattle.xs_top.specs.Answers.{IsOutlineDocument, IsUnread, IsNoOutline}
use Rattle.xs_top.specs.Scripts.{IsScript, IsNoScript}
use Rattle.xs_top.specs.Ran.{IsUntaken, IsUnanswered, IsUnchecked, IsUndone, IsRefused, IsUndoneBy, Took, Told, IsOfLanguage, IsFit, IsReady, IsDoable, IsCertifiable, IsFree, IsHonest, IsComplete}

pub read_is : (old new : Option (List ℕ)) (text read : List ℕ) (limit : ℕ) → old ≡ Some text → Drains old new read limit → read ≡ text
read_is None new text read limit is drains = cc
read_is (Some xs) None text read limit is drains = absurd drains
read_is (Some xs) (Some ys) text read limit is drains = let first = drains.0 in cc

same_text : (xs ys : List ℕ) → Some xs ≡ Some ys → xs ≡ ys
same_text xs ys e = cc

pub not_long : (old new : Option (List ℕ)) (text : List ℕ) (limit : ℕ) → old ≡ Some text → length text ≤ limit → Exceeds old new limit → ⊥
not_long None new text limit is short exceeds = cc
not_long (Some xs) None text limit is short exceeds = absurd exceeds
not_long (Some xs) (Some ys) text limit is short exceeds =
    let first : limit < length xs = exceeds.0 in
    let same : length xs ≡ length text = ap length (same_text xs text is) in
    omega arith

-- a document has one word
pub one_word : OneReading → (side : Side) (form : Form) (names : List (List ℕ)) (bytes v w : List ℕ) → IsWordOf side form names bytes v → IsWordOf side form names bytes w → v ≡ w
one_word law Text form names bytes v w is_v is_w = is_v ∙ sym is_w
one_word law Xml form names bytes v w is_v is_w = law names (text_of bytes AsIs) v w is_v is_w

-- a rule that is light is not heavy
pub not_heavy_rule : RuleWeighsOnce → (g : Grammar) → IsDistinct (fence_symbols g.fences) → (w : ℕ) → IsLight g → IsHeaviness g w → ⊥
not_heavy_rule law g once w light (p, at) =
    let (v, weighs, few) = light p at.rule in
    let same : v ≡ w = law g once p v w weighs at.weighs in
    omega (arith, few, same, at.heavy)

pub not_heavy : RuleWeighsOnce → (bytes : List ℕ) (p : Pair) → IsPairOfBytes bytes p → (w : ℕ) → IsAccepted p.text p.xml → IsFirstHeavy p.text p.xml w → ⊥
not_heavy law bytes p is w accepted (inl heavy) = not_heavy_rule law p.text (once_in_text bytes p is) w accepted.light_text heavy
not_heavy law bytes p is w accepted (inr heavy) = not_heavy_rule law p.xml (once_in_xml bytes p is) w accepted.light_xml heavy.1

pub not_shown : (text xml : Grammar) (found : Found) → IsAccepted text xml → IsSuspect text xml (shown found) → ⊥
not_shown text xml (Vertical Text rule rule2 word) accepted is = accepted.clear_text.0 rule rule2 word is
not_shown text xml (Vertical Xml rule rule2 word) accepted is = accepted.clear_xml.0 rule rule2 word is
not_shown text xml (Horizontal Text rule cut x a y) accepted is = accepted.clear_text.1 rule cut x a y is
not_shown text xml (Horizontal Xml rule cut x a y) accepted is = accepted.clear_xml.1 rule cut x a y is

module _ (law : OneReading) (weigh : RuleWeighsOnce) (agree : PairsAgree) (well : SheetsAgree) where
  -- an accepted sheet is not refused by its check
  pub not_unsure : (bytes : List ℕ) (p : Pair) → IsPairOfBytes bytes p → (o : Outcome) → IsAccepted p.text p.xml → IsUnsure p o → ⊥
  not_unsure bytes p is (Heavy weight) accepted unsure = not_heavy weigh bytes p is weight accepted unsure
  not_unsure bytes p is (Suspect report) accepted unsure = not_shown p.text p.xml unsure.found accepted unsure.shows.1
  not_unsure bytes p is o accepted unsure = absurd unsure

  -- a document of the language is not refused
  not_unread : (p : Pair) (side : Side) (form : Form) (bytes : List ℕ) (is : IsOfLanguage p side form bytes) (o : Outcome) → IsUnread p side form bytes o → ⊥
  not_unread p side form bytes is (NotUtf8 at) unread = unread.bad is.utf8
  not_unread p side form bytes is (NotXml at) unread = unread.1.none is.word (subst (λ s. IsWordOf s form p.names bytes is.word) unread.0 is.word_is)
  not_unread p side form bytes is (Foreign viable) unread =
      let same : unread.word ≡ is.word = one_word law side form p.names bytes unread.word is.word unread.document.word is.word_is in
      unread.foreign.foreign (subst (λ (v : List ℕ). InLang (grammar_of p side) v) (sym same) is.language)
  not_unread p side form bytes is o unread = absurd unread

  -- nor is a script
  not_no_script : (bytes : List ℕ) → IsScript bytes → (o : Outcome) → IsNoScript bytes o → ⊥
  not_no_script bytes is (NotUtf8 at) why = why.bad is.utf8
  not_no_script bytes is (ScriptBad line) why = not_bad_script (text_of bytes AsIs) line is.requests is.spelt why.bad
  not_no_script bytes is o why = why

  -- nor is an outline
  not_no_outline : (p : Pair) (bytes : List ℕ) (tree : Common) → IsOutlineDocument p bytes tree → (o : Outcome) → IsNoOutline p bytes o → ⊥
  not_no_outline p bytes tree is (NotUtf8 at) why = why.bad is.utf8
  not_no_outline p bytes tree is (OutlineBad bad) why = why.bad.none tree is.outline
  not_no_outline p bytes tree is o why = why

  not_untaken : (i : Input) (document : List ℕ) → i.left_before ≡ Some document → length document ≤ 1048576 → (Rose i.faults_before i.faults_now → ⊥) → (o : Outcome) → IsUntaken i o → ⊥
  not_untaken i document input limit sure ReadFault untaken = sure untaken
  not_untaken i document input limit sure DocLong untaken = not_long i.left_before i.left_now document 1048576 input limit untaken
  not_untaken i document input limit sure o untaken = untaken

  not_unanswered : (p : Pair) (i : Input) (reading : Reading) → IsReady p i reading → (o : Outcome) → IsUnanswered p i reading o → ⊥
  not_unanswered p i of_nothing ready o why = why
  not_unanswered p i (of_made seed lines) ready o why = not_unread p Text AsIs (made_text seed lines) ready o why.1
  not_unanswered p i (of_document side form) ready o (inl untaken) = not_untaken i ready.document ready.input ready.limit ready.sure o untaken
  not_unanswered p i (of_document side form) ready o (inr (bytes, takes, unread)) =
      let same : bytes ≡ ready.document = read_is i.left_before i.left_now ready.document bytes 1048576 ready.input takes in
      not_unread p side form ready.document ready.is o (subst (λ (b : List ℕ). IsUnread p side form b o) same unread)
  not_unanswered p i of_script ready o (inl untaken) = not_untaken i ready.document ready.input ready.limit ready.sure o untaken
  not_unanswered p i of_script ready o (inr (bytes, takes, why)) =
      let same : bytes ≡ ready.document = read_is i.left_before i.left_now ready.document bytes 1048576 ready.input takes in
      not_no_script ready.document ready.is o (subst (λ (b : List ℕ). IsNoScript b o) same why)
  not_unanswered p i of_outline ready o (inl untaken) = not_untaken i ready.document ready.input ready.limit ready.sure o untaken
  not_unanswered p i of_outline ready o (inr (bytes, takes, why)) =
      let same : bytes ≡ ready.document = read_is i.left_before i.left_now ready.document bytes 1048576 ready.input takes in
      not_no_outline p ready.document ready.tree ready.is o (subst (λ (b : List ℕ). IsNoOutline p b o) same why)

  not_unchecked : (bytes : List ℕ) (p : Pair) → IsPairOfBytes bytes p → (i : Input) (checked : Bool) → IsFit checked p → (o : Outcome) → IsUnchecked checked p i o → ⊥
  not_unchecked bytes p is i true fit o why = not_unsure bytes p is o fit why.1
  not_unchecked bytes p is i false fit o why = why

  not_undone : (bytes : List ℕ) (p : Pair) → IsPairOfBytes bytes p → (i : Input) (job : Job) → IsDoable p i job → (o : Outcome) → IsUndone p i job o → ⊥
  not_undone bytes p is i job doable o (inl unchecked) = not_unchecked bytes p is i (searches job) doable.0 o unchecked
  not_undone bytes p is i job doable o (inr (passed, why)) = not_unanswered p i (read_for job) doable.1 o why

  -- bytes that are known and spell two grammars are no reason
  module _ (run : Run) (sheet : Named) (known : List ℕ) (pair : Pair) (sure : IsFailed run.shelf sheet → ⊥) (has : HasBytes run.shelf.files sheet known) (spells : IsPairOfBytes known pair) where
    not_stopped : (o : Outcome) → IsStopped run.shelf sheet o → ⊥
    not_stopped SheetFault stopped = sure stopped
    not_stopped SheetLong stopped = has_short run.shelf.files sheet known has stopped
    not_stopped o stopped = stopped

    not_bad : (bytes : List ℕ) → AreBytesOf run.shelf.files sheet bytes → (o : Outcome) → IsBadBytes bytes o → ⊥
    not_bad bytes are (SheetBad at) bad = bad.none spells.sheet (subst (λ (b : List ℕ). IsSheetOf b spells.sheet) (sym (has_only run.shelf.files sheet known bytes has are)) spells.spelled)
    not_bad bytes are (SheetIll ill) is =
        let spelled : IsSheetOf known is.sheet = subst (λ (b : List ℕ). IsSheetOf b is.sheet) (has_only run.shelf.files sheet known bytes has are) is.spelled in
        well known spells.sheet is.sheet spells.spelled spelled spells.well ill.rule ill.line is.is_ill.line.fails
    not_bad bytes are o bad = bad

    pub not_unpaired : (o : Outcome) → IsUnpaired run.shelf sheet o → ⊥
    not_unpaired o (inl stopped) = not_stopped o stopped
    not_unpaired o (inr (bytes, are, bad)) = not_bad bytes are o bad

  -- nor is the certificate of an accepted sheet, where it is known
  not_uncertain : CertificatesAgree → (run : Run) (sheet : Named) (cert : List ℕ) (is : IsCertifiable run sheet cert) (p : Pair) → IsPairOfBytes is.known.bytes p → IsAccepted p.text p.xml → (o : Outcome) → IsUncertain p run.shelf cert o → ⊥
  not_uncertain certificates run sheet cert is p is_p accepted (Heavy weight) why = not_heavy weigh is.known.bytes p is_p weight accepted why
  not_uncertain certificates run sheet cert is p is_p accepted CertFault why = is.cert_sure why.1
  not_uncertain certificates run sheet cert is p is_p accepted CertLong why = file_short run.shelf.files cert is.certificate is.has why.1
  not_uncertain certificates run sheet cert is p is_p accepted (CertBad line) (light, built, bytes, are, bad) =
      let shows : IsCertificate p is.certificate = ((certificates is.known.bytes is.known.pair p is.known.spelled is_p is.built built).certificate is.certificate).0 is.shows in
      bad.none (subst (λ (b : List ℕ). IsCertificate p b) (sym (file_only run.shelf.files cert is.certificate bytes is.has are)) shows)
  not_uncertain certificates run sheet cert is p is_p accepted o why = absurd why

  not_uncertified : CertificatesAgree → (run : Run) (sheet : Named) (cert : List ℕ) → IsCertifiable run sheet cert → (o : Outcome) → IsUncertified run.shelf sheet cert o → ⊥
  not_uncertified certificates run sheet cert is o (inl why) = not_unpaired run sheet is.known.bytes is.known.pair is.known.sheet_sure is.known.has is.known.spelled o why
  not_uncertified certificates run sheet cert is o (inr (p, spells, why)) =
      let spelled : IsPairOfBytes is.known.bytes p = spelled_pair run.shelf.files sheet is.known.bytes p is.known.has spells in
      not_uncertain certificates run sheet cert is p spelled ((agree is.known.bytes is.known.pair p is.known.spelled spelled).checked.accepted.0 is.accepted) o why

  module _ (outlines : OutlinesAgree) (certificates : CertificatesAgree) (run : Run) (honest : IsHonest run) where
    not_refused : (ask : Ask) → IsFree run ask → (o : Outcome) → IsRefused run.shelf ask o → ⊥
    not_refused (printing sheet) free o why = why
    not_refused (upgrading sheet) free o why = not_unpaired run sheet free.bytes free.pair free.sheet_sure free.has free.spelled o why
    not_refused (certifying sheet cert) free o why = not_uncertified certificates run sheet cert free o why
    not_refused (by sheet job) free o why = not_unpaired run sheet free.known.bytes free.known.pair free.known.sheet_sure free.known.has free.known.spelled o why

    not_undone_by : (ask : Ask) → IsFree run ask → (p : Pair) (o : Outcome) → IsUndoneBy run ask p o → ⊥
    not_undone_by (by sheet job) free p o (spells, why) =
        let known = free.known in
        let spelled : IsPairOfBytes known.bytes p = spelled_pair run.shelf.files sheet known.bytes p known.has spells in
        let same = agree known.bytes known.pair p known.spelled spelled in
        not_undone known.bytes p spelled run.input job (doable_kept known.pair p same (outlines known.bytes known.pair p known.spelled spelled) run.input job free.doable) o why
    not_undone_by ask free p o why = why

    took_done : (answer : List ℕ) (o : Outcome) → Took run.out answer o → o ≡ Done
    took_done answer Done took = refl
    took_done answer (WriteFault written) took = absurd (honest.out_sure took.2)
    took_done answer o took = absurd took

    came_done : (o : Outcome) → Came run honest.ask o → o ≡ Done
    came_done o (by_sheet why) = absurd (not_refused honest.ask honest.free o why)
    came_done o (by_pair p why) = absurd (not_undone_by honest.ask honest.free p o why)
    came_done o (with_answer answer has took) = took_done answer o took

pub complete : OneReading → RuleWeighsOnce → PairsAgree → SheetsAgree → OutlinesAgree → CertificatesAgree → (run : Run) (result : Outcome) → Told run result → IsComplete run result
complete law weigh agree well outlines certificates run result told honest =
    told_by run honest.ask honest.is (λ (o : Outcome). o ≡ Done) (λ o came. came_done law weigh agree well outlines certificates run honest o came) (λ of written rose. absurd (honest.notes_sure rose)) result told

pub complete_if : OneReading → RuleWeighsOnce → PairsAgree → SheetsAgree → OutlinesAgree → CertificatesAgree → (run : Run) (r : Result Outcome Refusal) → IfOk r (Told run) → IfOk r (IsComplete run)
complete_if law weigh agree well outlines certificates run (Ok result) told = complete law weigh agree well outlines certificates run result told
complete_if law weigh agree well outlines certificates run (Err e) told = told
