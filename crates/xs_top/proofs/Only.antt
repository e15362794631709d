-- What was written for a tree, by a sheet that is accepted, has no other.
use Rattle.std.proofs.Common.{◌≡◌, ◌∙◌, ℕ, List, subst, ap}
use Rattle.xs_class.specs.declared.side.Side.{Side}
use Rattle.xs_chars.specs.declared.form.Form.TheVariants.{AsIs}
use Rattle.xs_xml_laws.specs.Laws.{OneReading}
use Rattle.xs_gram.specs.Grammar.{Grammar}
use Rattle.xs_gram.specs.Common.{Common, print, strip}
use Rattle.xs_gram.specs.Derivations.{Derivation}
use Rattle.xs_gram.specs.Languages.{Derives}
use Rattle.xs_pair.specs.Grammars.{Pair, grammar_of}
use Rattle.xs_top.specs.Checks.{IsSure}
use Rattle.xs_top.specs.Documents.{IsDocument}
use Rattle.xs_top.specs.Answers.{IsWrittenTree, IsOutlineDocument, IsMadeOfOutline}
use Rattle.xs_top.proofs.Agreeing.{unique_on}
use Rattle.xs_top.proofs.Completing.{one_word}

only_tree : OneReading → (p : Pair) → IsSure p → (to : Side) (tree : Common) (bytes word : List ℕ) (other : Derivation) → IsWrittenTree p to tree bytes → IsDocument to AsIs p.names bytes word → Derives (grammar_of p to) word other → strip (grammar_of p to) other ≡ tree
only_tree law p sure to tree bytes word other written reads derives =
    let g : Grammar = grammar_of p to in
    let same : word ≡ print g tree = one_word law to AsIs p.names bytes word (print g tree) reads.word written.reads.word in
    let moved : Derives g (print g tree) other = subst (λ (w : List ℕ). Derives g w other) same derives in
    let one : other ≡ written.back.0 = unique_on p sure to (print g tree) other written.back.0 moved written.back.1 in
    ap (λ (d : Derivation). strip g d) one ∙ written.back.2

pub made_of : OneReading → (p : Pair) → IsSure p → (to : Side) (tree : Common) (bytes answer : List ℕ) → IsOutlineDocument p bytes tree → IsWrittenTree p to tree answer → IsMadeOfOutline p to bytes answer
made_of law p sure to tree bytes answer outlined written = record {
  tree = tree;
  outlined = outlined;
  written = written;
  only = λ word other reads derives. only_tree law p sure to tree answer word other written reads derives;
}
