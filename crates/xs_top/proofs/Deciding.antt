-- What becomes of a document that is read whole, of an accepted sheet.
use Rattle.std.proofs.Common.{◌≡◌, ◌⊎◌, inl, inr, ℕ, List, refl, sym, subst}
use Rattle.xs_class.specs.declared.side.Side.{Side}
use Rattle.xs_class.specs.declared.side.Side.TheVariants.{Xml}
use Rattle.xs_chars.specs.declared.form.Form.{Form}
use Rattle.xs_xml_laws.specs.Laws.{OneReading}
use Rattle.xs_gram.specs.Languages.{InLang, IsViable}
use Rattle.xs_check_laws.specs.Acceptance.{IsAccepted}
use Rattle.xs_check_laws.specs.Laws.{RuleWeighsOnce}
use Rattle.xs_sheet_laws.specs.Pairs as P
use Rattle.xs_turn.specs.Turned.{IsForeign}
use Rattle.xs_pair.specs.Grammars.{Pair, grammar_of}
use Rattle.xs_talk.specs.declared.outcome.Outcome.{Outcome}
use Rattle.xs_talk.specs.declared.outcome.Outcome.TheVariants.{Done, Foreign, NotUtf8, NotXml, ReadFault, WriteFault, DocLong}
use Rattle.xs_top.specs.declared.asking.Job.TheVariants.{Turn}
use Rattle.xs_top.specs.Asked.{by, of_document}
use Rattle.xs_top.specs.Devices.{Run}
use Rattle.xs_top.specs.Documents.{IsWordOf, IsDocument}
use Rattle.xs_top.specs.Answers.{IsUnread}
use Rattle.xs_top.specs.Sheets.{IsPairOfBytes}
use Rattle.xs_top.specs.Ran.{IsUntaken, IsUnanswered, IsUndone, Took, Told}
use Rattle.xs_top.specs.Runs.{IsToTurn, IsReadWhole, IsUnwritten}
use Rattle.xs_top.specs.Laws.{PairsAgree, SheetsAgree}
use Rattle.xs_top.proofs.Agreeing.{on_side, document_kept}
use Rattle.xs_top.proofs.Known.{spelled_pair}
use Rattle.xs_top.proofs.Completing.{one_word, read_is, not_long, not_unsure, not_unpaired}
use Rattle.xs_top.proofs.Coming.{Came, by_sheet, by_pair, with_answer, told_by}

-- it was refused as foreign
abbrev pub IsRefused : Pair → Side → List ℕ → Outcome → Type 0
IsRefused p side word o = (viable : ℕ) × (o ≡ Foreign viable) × IsForeign p side word viable

-- it was turned, or refused as foreign, or out or notes failed
pub data Ended (run : Run) (p : Pair) (side : Side) (word : List ℕ) (o : Outcome) : Type 0 where
  as_done : o ≡ Done → Ended run p side word o
  as_foreign : IsRefused p side word o → Ended run p side word o
  as_unwritten : IsUnwritten run o → Ended run p side word o

-- a document of the language is not foreign
pub ended_in_language : (run : Run) (p : Pair) (side : Side) (word : List ℕ) (o : Outcome) → InLang (grammar_of p side) word → Ended run p side word o → (o ≡ Done) ⊎ IsUnwritten run o
ended_in_language run p side word o language (as_done is) = inl is
ended_in_language run p side word o language (as_foreign refused) = absurd (refused.2.foreign language)
ended_in_language run p side word o language (as_unwritten failed) = inr failed

took_ended : (run : Run) (p : Pair) (side : Side) (word answer : List ℕ) (o : Outcome) → Took run.out answer o → Ended run p side word o
took_ended run p side word answer Done took = as_done refl
took_ended run p side word answer (WriteFault written) took = as_unwritten took.2
took_ended run p side word answer o took = absurd took

-- a document that was read whole is not refused by its bytes
unread_refused : OneReading → (p q : Pair) → P.MeanTheSame p q → (side : Side) (form : Form) (bytes word : List ℕ) → IsDocument side form p.names bytes word → (o : Outcome) → IsUnread q side form bytes o → IsRefused p side word o
unread_refused law p q same side form bytes word is (Foreign viable) unread =
    let read : IsDocument side form p.names bytes unread.word = document_kept p q same side form bytes unread.word unread.document in
    let one : unread.word ≡ word = one_word law side form p.names bytes unread.word word read.word is.word in
    let means = on_side p q same side in (
      viable,
      refl,
      record {
        foreign = λ language. unread.foreign.foreign (subst (λ (w : List ℕ). InLang (grammar_of q side) w) (sym one) ((means.words.in_lang word).0 language));
        longest = subst (λ (w : List ℕ). IsViable (grammar_of p side) w viable) one ((means.words.viable unread.word viable).1 unread.foreign.longest);
      },
    )
unread_refused law p q same side form bytes word is (NotUtf8 at) unread = absurd (unread.bad is.utf8)
unread_refused law p q same side form bytes word is (NotXml at) unread =
    absurd (unread.1.none word (subst (λ (ns : List (List ℕ)). IsWordOf Xml form ns bytes word) same.names (subst (λ (s : Side). IsWordOf s form p.names bytes word) unread.0 is.word)))
unread_refused law p q same side form bytes word is o unread = absurd unread

module _ (run : Run) (from to : Side) (form : Form) (sheet document : List ℕ) (job : IsToTurn run from to form sheet document) (whole : IsReadWhole run job.asks.named document) where
  untaken_not : (o : Outcome) → IsUntaken run.input o → ⊥
  untaken_not ReadFault untaken = whole.input untaken
  untaken_not DocLong untaken = not_long run.input.left_before run.input.left_now document 1048576 job.input whole.short untaken
  untaken_not o untaken = untaken

  module _ (law : OneReading) (weigh : RuleWeighsOnce) (agree : PairsAgree) (well : SheetsAgree) (p : Pair) (is_pair : IsPairOfBytes sheet p) (accepted : IsAccepted p.text p.xml) (word : List ℕ) (is : IsDocument from form p.names document word) where
    unanswered_refused : (q : Pair) → P.MeanTheSame p q → (o : Outcome) → IsUnanswered q run.input (of_document from form) o → IsRefused p from word o
    unanswered_refused q same o (inl untaken) = absurd (untaken_not o untaken)
    unanswered_refused q same o (inr (bytes, takes, unread)) =
        let one : bytes ≡ document = read_is run.input.left_before run.input.left_now document bytes 1048576 job.input takes in
        unread_refused law p q same from form document word is o (subst (λ (b : List ℕ). IsUnread q from form b o) one unread)

    undone_refused : (q : Pair) → IsPairOfBytes sheet q → P.MeanTheSame p q → (o : Outcome) → IsUndone q run.input (Turn from to form) o → IsRefused p from word o
    undone_refused q is_q same o (inl unchecked) = absurd (not_unsure law weigh agree well sheet q is_q o (same.checked.accepted.0 accepted) unchecked.1)
    undone_refused q is_q same o (inr (sure, why)) = unanswered_refused q same o why

    came_ended : (o : Outcome) → Came run (by job.asks.named (Turn from to form)) o → Ended run p from word o
    came_ended o (by_sheet why) = absurd (not_unpaired law weigh agree well run job.asks.named sheet p whole.sheet job.asks.has is_pair o why)
    came_ended o (by_pair q (spells, why)) =
        let is_q : IsPairOfBytes sheet q = spelled_pair run.shelf.files job.asks.named sheet q job.asks.has spells in
        as_foreign (undone_refused q is_q (agree sheet p q is_pair is_q) o why)
    came_ended o (with_answer answer has took) = took_ended run p from word answer o took

    pub told_ended : (o : Outcome) → Told run o → Ended run p from word o
    told_ended o told = told_by run (by job.asks.named (Turn from to form)) job.asks.is (λ (x : Outcome). Ended run p from word x) (λ x came. came_ended x came) (λ of written rose. as_unwritten rose) o told
