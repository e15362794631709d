-- What is known of one pair of grammars of a sheet is known of each.
use Rattle.std.proofs.Common.{ℕ, Bool, true, false, List, sym, subst}
use Rattle.xs_class.specs.declared.side.Side.{Side}
use Rattle.xs_class.specs.declared.side.Side.TheVariants.{Text, Xml}
use Rattle.xs_chars.specs.declared.form.Form.{Form}
use Rattle.xs_chars.specs.declared.form.Form.TheVariants.{AsIs}
use Rattle.xs_gram.specs.Languages.{IsUnique}
use Rattle.xs_sheet_laws.specs.Meanings as M
use Rattle.xs_sheet_laws.specs.Pairs as P
use Rattle.xs_sheet_laws.specs.Laws.{OneSheet, AlikeSheetsMeanTheSame, OnePairOfBytes, AlikePairsMeanTheSame}
use Rattle.xs_leiden.specs.Made.{made_text}
use Rattle.xs_gram.specs.Common.{Common}
use Rattle.xs_chars.specs.Text.{text_of}
use Rattle.xs_outline.specs.Outline.{IsOutline}
use Rattle.xs_pair.specs.Grammars.{Pair, grammar_of}
use Rattle.xs_top.specs.declared.asking.Job.{Job}
use Rattle.xs_top.specs.Asked.{searches, Reading, of_nothing, of_made, of_document, of_script, of_outline, read_for}
use Rattle.xs_top.specs.Devices.{Input}
use Rattle.xs_top.specs.Documents.{IsWordOf, IsDocument}
use Rattle.xs_top.specs.Checks.{IsSure}
use Rattle.xs_top.specs.Ran.{IsOfLanguage, IsReadable, IsReadableOutline, IsFit, IsReady, IsDoable}
use Rattle.xs_top.specs.Laws.{PairsAgree, SheetsAgree, OutlinesAgree, ScriptsAgree}
use Rattle.xs_top.specs.Certificates.{CertificatesAgree}
use Rattle.xs_cert_laws.specs.Alike.{AlikeHaveSameCertificates}
use Rattle.xs_top.proofs.Outlines.{outline_kept}
use Rattle.xs_top.proofs.Playing.{played_kept}

pub pairs_agree_lem : OnePairOfBytes → AlikePairsMeanTheSame → PairsAgree
pairs_agree_lem one mean bytes p q is_p is_q = mean p q (one bytes is_p.sheet is_q.sheet p q is_p.spelled is_q.spelled is_p.pair is_q.pair)

pub sheets_agree_lem : OneSheet → AlikeSheetsMeanTheSame → SheetsAgree
sheets_agree_lem one mean bytes s t is_s is_t well = (mean s t (one bytes s t is_s is_t)).well.0 well

pub outlines_agree_lem : OnePairOfBytes → OutlinesAgree
outlines_agree_lem one bytes p q is_p is_q w tree is = outline_kept p q (one bytes is_p.sheet is_q.sheet p q is_p.spelled is_q.spelled is_p.pair is_q.pair) w tree is

pub scripts_agree_lem : OnePairOfBytes → AlikePairsMeanTheSame → ScriptsAgree
scripts_agree_lem one mean bytes p q is_p is_q script answer is =
    let alike = one bytes is_p.sheet is_q.sheet p q is_p.spelled is_q.spelled is_p.pair is_q.pair in
    played_kept p q alike (mean p q alike) script answer is

pub certificates_agree_lem : OnePairOfBytes → AlikeHaveSameCertificates → CertificatesAgree
certificates_agree_lem one same bytes p q is_p is_q built other = same p q (one bytes is_p.sheet is_q.sheet p q is_p.spelled is_q.spelled is_p.pair is_q.pair) built other

-- one side of two pairs
pub on_side : (p q : Pair) → P.MeanTheSame p q → (side : Side) → M.MeanTheSame (grammar_of p side) (grammar_of q side)
on_side p q same Text = same.text
on_side p q same Xml = same.xml

pub unique_on : (p : Pair) → IsSure p → (side : Side) → IsUnique (grammar_of p side)
unique_on p sure Text = sure.text
unique_on p sure Xml = sure.xml

-- grammars that are accepted
pub sure_kept : (p q : Pair) → P.MeanTheSame p q → IsSure p → IsSure q
sure_kept p q same sure = record { accepted = same.checked.accepted.0 sure.accepted; text = same.text.derivations.unique.0 sure.text; xml = same.xml.derivations.unique.0 sure.xml }

-- a document, and one of the language
pub document_kept : (p q : Pair) → P.MeanTheSame p q → (side : Side) (form : Form) (bytes w : List ℕ) → IsDocument side form q.names bytes w → IsDocument side form p.names bytes w
document_kept p q same side form bytes w is = subst (λ (ns : List (List ℕ)). IsDocument side form ns bytes w) (sym same.names) is

language_kept : (p q : Pair) → P.MeanTheSame p q → (side : Side) (form : Form) (bytes : List ℕ) → IsOfLanguage p side form bytes → IsOfLanguage q side form bytes
language_kept p q same side form bytes is = record {
  utf8 = is.utf8;
  word = is.word;
  word_is = subst (λ (ns : List (List ℕ)). IsWordOf side form ns bytes is.word) same.names is.word_is;
  language = ((on_side p q same side).words.in_lang is.word).0 is.language;
}

readable_kept : (p q : Pair) → P.MeanTheSame p q → (i : Input) (side : Side) (form : Form) → IsReadable p i side form → IsReadable q i side form
readable_kept p q same i side form is = record { document = is.document; input = is.input; limit = is.limit; is = language_kept p q same side form is.document is.is; sure = is.sure }

-- each outline by one pair is one by the other
abbrev pub KeepOutlines : Pair → Pair → Type 0
KeepOutlines p q = (w : List ℕ) (tree : Common) → IsOutline p w tree → IsOutline q w tree

outline_readable : (p q : Pair) → KeepOutlines p q → (i : Input) → IsReadableOutline p i → IsReadableOutline q i
outline_readable p q keep i is = record {
  document = is.document;
  input = is.input;
  limit = is.limit;
  tree = is.tree;
  is = record { utf8 = is.is.utf8; outline = keep (text_of is.document AsIs) is.tree is.is.outline };
  sure = is.sure;
}

fit_kept : (p q : Pair) → P.MeanTheSame p q → (checked : Bool) → IsFit checked p → IsFit checked q
fit_kept p q same true fit = same.checked.accepted.0 fit
fit_kept p q same false fit = fit

ready_kept : (p q : Pair) → P.MeanTheSame p q → KeepOutlines p q → (i : Input) (reading : Reading) → IsReady p i reading → IsReady q i reading
ready_kept p q same keep i of_nothing ready = ready
ready_kept p q same keep i (of_made seed lines) ready = language_kept p q same Text AsIs (made_text seed lines) ready
ready_kept p q same keep i (of_document side form) ready = readable_kept p q same i side form ready
ready_kept p q same keep i of_script ready = ready
ready_kept p q same keep i of_outline ready = outline_readable p q keep i ready

pub doable_kept : (p q : Pair) → P.MeanTheSame p q → KeepOutlines p q → (i : Input) (job : Job) → IsDoable p i job → IsDoable q i job
doable_kept p q same keep i job doable = (fit_kept p q same (searches job) doable.0, ready_kept p q same keep i (read_for job) doable.1)
