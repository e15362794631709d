-- A document is turned exactly where it is of the language, and else refused with its longest viable prefix.
use Rattle.std.proofs.Common.{◌≡◌, ◌⊎◌, ◌∙◌, inl, inr, ℕ, List, sym, subst}
use Rattle.xs_class.specs.declared.side.Side.{Side}
use Rattle.xs_chars.specs.declared.form.Form.{Form}
use Rattle.xs_xml_laws.specs.Laws.{OneReading}
use Rattle.xs_gram.specs.Languages.{InLang}
use Rattle.xs_check_laws.specs.Laws.{RuleWeighsOnce}
use Rattle.xs_pair.specs.Grammars.{Pair, grammar_of}
use Rattle.xs_talk.specs.declared.outcome.Outcome.{Outcome}
use Rattle.xs_talk.specs.declared.outcome.Outcome.TheVariants.{Done, Foreign}
use Rattle.xs_top.specs.declared.asking.Job.TheVariants.{Turn}
use Rattle.xs_top.specs.Devices.{Run}
use Rattle.xs_top.specs.Documents.{IsDocument}
use Rattle.xs_top.specs.Sheets.{IsPairOfBytes}
use Rattle.xs_top.specs.Ran.{Told}
use Rattle.xs_top.specs.Runs.{IsToTurn, IsUnwritten}
use Rattle.xs_top.specs.Laws.{PairsAgree, SheetsAgree, IsDecided, RefusesExactly}
use Rattle.xs_top.proofs.Agreeing.{on_side, document_kept}
use Rattle.xs_top.proofs.Completing.{one_word}
use Rattle.xs_top.proofs.Coming.{done_answered}
use Rattle.xs_top.proofs.Deciding.{Ended, as_done, as_foreign, as_unwritten, told_ended}
use Rattle.xs_top.proofs.Back.{turning}

done_foreign : (viable : ℕ) → Foreign viable ≡ Done → ⊥
done_foreign viable e = cc

module _ (law : OneReading) (weigh : RuleWeighsOnce) (agree : PairsAgree) (well : SheetsAgree) where
  -- what was turned is of the language
  done_language : (run : Run) (from to : Side) (form : Form) (sheet document : List ℕ) → IsToTurn run from to form sheet document → (p : Pair) → IsPairOfBytes sheet p → (word : List ℕ) → IsDocument from form p.names document word → Told run Done → InLang (grammar_of p from) word
  done_language run from to form sheet document job p is_pair word is told =
      let t = turning run from to form sheet document job.input (done_answered run sheet (Turn from to form) job.asks told) in
      let same = agree sheet p t.pair is_pair t.is_pair in
      let read : IsDocument from form p.names document t.turned.word = document_kept p t.pair same from form document t.turned.word t.turned.document in
      let one : t.turned.word ≡ word = one_word law from form p.names document t.turned.word word read.word is.word in
      subst (λ (w : List ℕ). InLang (grammar_of p from) w) one (((on_side p t.pair same from).words.in_lang t.turned.word).1 (t.turned.derivation, t.turned.derives))

  pub refuses_exactly_lem : RefusesExactly
  refuses_exactly_lem run from to form sheet document word p is_pair accepted job whole is o told = by_case (told_ended run from to form sheet document job whole law weigh agree well p is_pair accepted word is o told)
    where
      language : o ≡ Done → InLang (grammar_of p from) word
      language e = done_language run from to form sheet document job p is_pair word is (subst (λ (x : Outcome). Told run x) e told)

      by_case : Ended run p from word o → IsDecided p from word o ⊎ IsUnwritten run o
      by_case (as_done e) = inl (record { turned = (language, λ h. e); refused = (λ r h. done_foreign r.0 (sym r.1 ∙ e), λ none. absurd (none (language e))) })
      by_case (as_foreign r) = inl (record { turned = (λ e. absurd (done_foreign r.0 (sym r.1 ∙ e)), λ h. absurd (r.2.foreign h)); refused = (λ s h. r.2.foreign h, λ none. (r.0, r.1, r.2.longest)) })
      by_case (as_unwritten failed) = inr failed
