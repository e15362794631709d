-- What a run over devices in memory asked for and read, as the laws want it.
use Rattle.std.proofs.Common.{◌≡◌, ◌⊎◌, ◌∙◌, ℕ, ◌≤◌, List, [], ◌∷◌, length, Some, inl, inr, refl, sym, subst, ap, arith}
use Rattle.std.specs.Prelude.{codes, encode_utf8_all}
use Rattle.std.specs.Str.{chars}
use Rattle.std.proofs.lemmas.Str.{encodes-chars}
use Rattle.std.specs.declared.option.Option.{Option}
use Rattle.xs_io.specs.Causes.{Rose}
use Rattle.xs_io.specs.Puts.{Puts}
use Rattle.xs_io.specs.Shown.{Files, Has}
use Rattle.xs_class.specs.declared.side.Side.{Side}
use Rattle.xs_class.specs.declared.side.Side.TheVariants.{Text, Xml}
use Rattle.xs_chars.specs.declared.form.Form.{Form}
use Rattle.xs_chars.specs.declared.form.Form.TheVariants.{AsIs}
use Rattle.xs_words.specs.Command.{file}
use Rattle.xs_talk.specs.declared.outcome.Outcome.{Outcome}
use Rattle.xs_talk.specs.declared.outcome.Outcome.TheVariants.{Done, WriteFault, NoteFault}
use Rattle.xs_top.specs.declared.asking.Job.{Job}
use Rattle.xs_top.specs.declared.asking.Job.TheVariants.{Check, Turn}
use Rattle.xs_top.specs.Asked.{by, asked}
use Rattle.xs_top.specs.Devices.{Run}
use Rattle.xs_top.specs.Known.{HasBytes}
use Rattle.xs_top.specs.Sheets.{IsFailed}
use Rattle.xs_top.specs.Ran.{Told}
use Rattle.xs_top.specs.Runs.{AsksFor, IsToTurn, IsReadWhole, IsUnwritten, Turned}
use Rattle.xs_client.specs.Runs.{IsRan, IsSinkFault, IsDoneOrSinkFault}

-- the name of the sheet's file
abbrev pub sheet_name : List ℕ
sheet_name = codes "sheet"

-- its name as a text is its bytes
named_by : encode_utf8_all (chars sheet_name) ≡ sheet_name
unfolding lib.Utf8.encode
named_by = encodes-chars sheet_name (sheet_name, (refl, refl))

pub is_put : (old new : List ℕ → Option (List ℕ)) (name bytes sheet : List ℕ) → Puts old new (encode_utf8_all name) bytes → name ≡ chars sheet_name → bytes ≡ sheet → new sheet_name ≡ Some sheet
is_put old new name bytes sheet puts name_is bytes_are =
    subst (λ (n : List ℕ). new n ≡ Some sheet) (ap (λ (t : List ℕ). encode_utf8_all t) name_is ∙ named_by) (puts.here ∙ ap (λ (b : List ℕ). Some b) bytes_are)

-- a count of 0 did not rise
pub still : Rose 0 0 → ⊥
still rose = omega (arith, rose)

pub some_is : (xs ys : List ℕ) → xs ≡ ys → Some xs ≡ Some ys
some_is xs ys is = ap (λ (b : List ℕ). Some b) is

pub has_file : (files : List ℕ → Option (List ℕ)) (shown : Files) (sheet : List ℕ) → shown ≡ Some files → files sheet_name ≡ Some sheet → length sheet ≤ 65536 → HasBytes shown (file sheet_name) sheet
has_file files shown sheet are is short = subst (λ (f : Files). HasBytes f (file sheet_name) sheet) (sym are) (is, short)

-- what the words ask for
pub checks : (words : List (List ℕ)) → words ≡ codes "check" ∷ sheet_name ∷ [] → asked words ≡ Some (by (file sheet_name) Check)
checks words is = subst (λ (ws : List (List ℕ)). asked ws ≡ Some (by (file sheet_name) Check)) (sym is) refl

pub turns_to_xml : (words : List (List ℕ)) → words ≡ codes "to-xml" ∷ sheet_name ∷ [] → asked words ≡ Some (by (file sheet_name) (Turn Text Xml AsIs))
turns_to_xml words is = subst (λ (ws : List (List ℕ)). asked ws ≡ Some (by (file sheet_name) (Turn Text Xml AsIs))) (sym is) refl

pub turns_to_text : (words : List (List ℕ)) → words ≡ codes "to-text" ∷ sheet_name ∷ [] → asked words ≡ Some (by (file sheet_name) (Turn Xml Text AsIs))
turns_to_text words is = subst (λ (ws : List (List ℕ)). asked ws ≡ Some (by (file sheet_name) (Turn Xml Text AsIs))) (sym is) refl

pub rounds : (words : List (List ℕ)) → words ≡ codes "round" ∷ sheet_name ∷ codes "text" ∷ [] → asked words ≡ Some (by (file sheet_name) (Turn Text Text AsIs))
rounds words is = subst (λ (ws : List (List ℕ)). asked ws ≡ Some (by (file sheet_name) (Turn Text Text AsIs))) (sym is) refl

module _ (words : List (List ℕ)) (sheet document : List ℕ) (o : Outcome) (written : List ℕ) (r : IsRan words sheet document o written) where
  abbrev pub asks_for : length sheet ≤ 65536 → (job : Job) → asked words ≡ Some (by (file sheet_name) job) → AsksFor r.run job sheet
  asks_for short job is = record {
    named = file sheet_name;
    is = subst (λ (ws : List (List ℕ)). asked ws ≡ Some (by (file sheet_name) job)) (sym r.words_are) is;
    has = has_file r.files r.run.shelf.files sheet r.files_are r.sheet_is short;
  }

  not_failed : IsFailed r.run.shelf (file sheet_name) → ⊥
  not_failed failed = r.sheet_sure (failed.own (subst (λ (f : Files). Has f sheet_name) (sym r.files_are) (search (r.sheet_is))))

  pub read_whole : length document ≤ 1048576 → IsReadWhole r.run (file sheet_name) document
  read_whole short = record { short = short; sheet = not_failed; input = r.input_sure }

  abbrev pub is_to_turn : (from to : Side) (form : Form) → length sheet ≤ 65536 → asked words ≡ Some (by (file sheet_name) (Turn from to form)) → IsToTurn r.run from to form sheet document
  is_to_turn from to form short is = record { asks = asks_for short (Turn from to form) is; input = r.input }

  pub was_turned : (from to : Side) (form : Form) → length sheet ≤ 65536 → asked words ≡ Some (by (file sheet_name) (Turn from to form)) → o ≡ Done → Turned r.run from to form sheet document written
  was_turned from to form short is done = record {
    asks = asks_for short (Turn from to form) is;
    input = r.input;
    before = [];
    taken_before = r.taken_before;
    taken_now = r.taken_now;
    is_done = subst (λ (x : Outcome). Told r.run x) done r.told;
  }

pub sink_fault : (run : Run) (o : Outcome) → IsUnwritten run o → IsSinkFault o
sink_fault run (WriteFault written) failed = tt
sink_fault run (NoteFault of written) failed = tt
sink_fault run o failed = absurd failed

pub done_or_fault : (run : Run) (o : Outcome) → (o ≡ Done) ⊎ IsUnwritten run o → IsDoneOrSinkFault o
done_or_fault run o (inl is) = inl is
done_or_fault run o (inr failed) = inr (sink_fault run o failed)
