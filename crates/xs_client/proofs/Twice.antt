-- Two runs by one sheet, by the laws of `xs_top`.
use Rattle.std.proofs.Common.{◌≡◌, ◌⊎◌, ℕ, ◌≤◌, List, length, Some, inl, inr, refl, sym, subst}
use Rattle.std.specs.Str.{IsUtf8}
use Rattle.xs_class.specs.declared.side.Side.{Side}
use Rattle.xs_class.specs.declared.side.Side.TheVariants.{Text, Xml}
use Rattle.xs_chars.specs.declared.form.Form.TheVariants.{AsIs}
use Rattle.xs_chars.specs.Text.{text_of}
use Rattle.xs_words.specs.Command.{file}
use Rattle.xs_pair.specs.Grammars.{Pair}
use Rattle.xs_talk.specs.declared.outcome.Outcome.{Outcome}
use Rattle.xs_talk.specs.declared.outcome.Outcome.TheVariants.{Done}
use Rattle.xs_top.specs.declared.asking.Job.TheVariants.{Check, Turn}
use Rattle.xs_top.specs.Asked.{by, asked}
use Rattle.xs_top.specs.Ran.{Told}
use Rattle.xs_top.specs.Runs.{checks as by_search, IsUnwritten, Answers, IsNormalOf}
use Rattle.xs_top.specs.Laws.{TranslatesBack, RoundIsIdempotent, RefusesExactly, CheckDecides, CheckAccepts, IsDecided, RefusesSheet}
use Rattle.xs_client.specs.Runs.{IsRan, IsDoneOrSinkFault, IsSinkFault, IsDecidedBy}
use Rattle.xs_client.proofs.Asking.{sheet_name, asks_for, is_to_turn, read_whole, was_turned, sink_fault, done_or_fault}
use Rattle.xs_client.proofs.Writing.{appended_is}

module _ (words again : List (List ℕ)) (sheet document written last : List ℕ) (o p : Outcome) (short : length sheet ≤ 65536) (one : IsRan words sheet document o written) (two : IsRan again sheet written p last) where
  -- where the second run is done, it wrote what the law says
  pub answered : (P : List ℕ → Type 0) → Answers two.run p (file sheet_name) written P → p ≡ Done → P last
  answered P a is =
      let now = a.answer is in
      subst P (sym (appended_is two.run.out.taken_before two.run.out.taken_now last now.0 two.taken_before two.taken_now now.2)) now.1

  pub ends : (P : List ℕ → Type 0) → Answers two.run p (file sheet_name) written P → length written ≤ 1048576 → IsDoneOrSinkFault p
  ends P a few = done_or_fault two.run p (a.ends (read_whole again sheet written p last two few))

  pub turned_back : TranslatesBack → (from to : Side) → asked words ≡ Some (by (file sheet_name) (Turn from to AsIs)) → asked again ≡ Some (by (file sheet_name) (Turn to from AsIs)) → o ≡ Done → Answers two.run p (file sheet_name) written (IsNormalOf sheet from AsIs document)
  turned_back law from to asks then is =
      law one.run two.run from to AsIs sheet document written (was_turned words sheet document o written one from to AsIs short asks is) (is_to_turn again sheet written p last two to from AsIs short then) p two.told

  pub rounded : RoundIsIdempotent → (side : Side) → asked words ≡ Some (by (file sheet_name) (Turn side side AsIs)) → asked again ≡ Some (by (file sheet_name) (Turn side side AsIs)) → o ≡ Done → Answers two.run p (file sheet_name) written (λ last. last ≡ written)
  rounded law side asks then is =
      law one.run two.run side AsIs sheet document written (was_turned words sheet document o written one side side AsIs short asks is) (is_to_turn again sheet written p last two side side AsIs short then) p two.told

-- a sheet is checked, and then a text is translated by it
module _ (words then : List (List ℕ)) (sheet input text line written : List ℕ) (o p : Outcome) (short : length sheet ≤ 65536) (one : IsRan words sheet input o line) (two : IsRan then sheet text p written) (checks : asked words ≡ Some (by (file sheet_name) Check)) (turns : asked then ≡ Some (by (file sheet_name) (Turn Text Xml AsIs))) (is : o ≡ Done) where
  is_checked : Told one.run Done
  is_checked = subst (λ (x : Outcome). Told one.run x) is one.told

  pub not_refused : CheckDecides → RefusesSheet p → ⊥
  not_refused law refuses =
      law one.run two.run (Turn Text Xml AsIs) sheet (by_search (asks_for words sheet input o line one short Check checks)) (asks_for then sheet text p written two short (Turn Text Xml AsIs) turns) is_checked p two.told refuses

  pub decided : CheckAccepts → RefusesExactly → IsUtf8 text → length text ≤ 1048576 → IsDecidedBy sheet text p
  decided accepts exactly utf8 few =
      let a = accepts one.run sheet (by_search (asks_for words sheet input o line one short Check checks)) is_checked in
      record {
        pair = a.pair;
        is_pair = a.is_pair;
        decided = by_case a.pair (exactly two.run Text Xml AsIs sheet text (text_of text AsIs) a.pair a.is_pair (a.sure a.pair a.is_pair).accepted (is_to_turn then sheet text p written two Text Xml AsIs short turns) (read_whole then sheet text p written two few) (record { utf8 = utf8; word = refl }) p two.told);
      }
    where
      by_case : (q : Pair) → IsDecided q Text (text_of text AsIs) p ⊎ IsUnwritten two.run p → IsDecided q Text (text_of text AsIs) p ⊎ IsSinkFault p
      by_case q (inl d) = inl d
      by_case q (inr failed) = inr (sink_fault two.run p failed)
