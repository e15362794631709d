-- A document that was turned is turned back.
use Rattle.std.proofs.Common.{◌≡◌, ◌∙◌, ℕ, List, ◌∷◌, Some, sym, subst, ap, refl}
use Rattle.std.specs.Io.KnownBytes.{Appends}
use Rattle.xs_class.specs.declared.side.Side.{Side}
use Rattle.xs_chars.specs.declared.form.Form.{Form}
use Rattle.xs_chars.specs.declared.form.Form.TheVariants.{AsIs}
use Rattle.xs_xml_laws.specs.Laws.{OneReading}
use Rattle.xs_gram.specs.declared.parts.GItem.{GItem}
use Rattle.xs_gram.specs.declared.parts.GItem.TheVariants.{Fixed, Term, Non, Skip}
use Rattle.xs_gram.specs.Grammar.{Grammar, items}
use Rattle.xs_gram.specs.Derivations.{Parts, fixed, leaf, skip, sub, Derivation, parts_yield, yield, normal_parts, normal}
use Rattle.xs_gram.specs.Common.{Common, print, strip}
use Rattle.xs_gram.specs.Languages.{Derives}
use Rattle.xs_check_laws.specs.Laws.{RuleWeighsOnce}
use Rattle.xs_sheet_laws.specs.Pairs as P
use Rattle.xs_pair.specs.Grammars.{Pair, grammar_of}
use Rattle.xs_talk.specs.declared.outcome.Outcome.{Outcome}
use Rattle.xs_talk.specs.declared.outcome.Outcome.TheVariants.{Done}
use Rattle.xs_top.specs.declared.asking.Job.TheVariants.{Turn}
use Rattle.xs_top.specs.Devices.{Run}
use Rattle.xs_top.specs.Checks.{IsSure}
use Rattle.xs_table_out.specs.Documents.{document_bytes}
use Rattle.xs_top.specs.Documents.{IsWordOf}
use Rattle.xs_top.specs.Answers.{IsWrittenTree, IsTurnedInto}
use Rattle.xs_top.specs.Sheets.{IsPairOfBytes}
use Rattle.xs_top.specs.Ran.{Told}
use Rattle.xs_top.specs.Runs.{IsToTurn, Answers, Turned, HaveNoIgnorable, IsNormalOf}
use Rattle.xs_top.specs.Laws.{PairsAgree, SheetsAgree, OneAnswer, TranslatesBack, RoundIsIdempotent, TranslatesAgain}
use Rattle.xs_top.proofs.Agreeing.{on_side, unique_on}
use Rattle.xs_top.proofs.Completing.{one_word, read_is}
use Rattle.xs_top.proofs.Deciding.{ended_in_language, told_ended}
use Rattle.xs_top.proofs.Coming.{IsAnswered, done_answered, appended}

-- where there are no ignorables, a derivation is in normal form
normal_as_is : (g : Grammar) (is : List GItem) (ps : Parts) → HaveNoIgnorable ps → normal_parts g is ps ≡ ps
normal_as_is g (Fixed f ∷ is) (fixed u ps) none = ap (λ qs. fixed u qs) (normal_as_is g is ps none)
normal_as_is g (Term t s ∷ is) (leaf u ps) none = ap (λ qs. leaf u qs) (normal_as_is g is ps none)
normal_as_is g (Skip k ∷ is) (skip u ps) none = absurd none
normal_as_is g (Non n s ∷ is) (sub q qs ps) none = ap (λ rs. sub q rs (normal_parts g is ps)) (normal_as_is g (items g q) qs none.0) ∙ ap (λ rs. sub q qs rs) (normal_as_is g is ps none.1)
normal_as_is g is ps none = refl

-- the tree of what was written for a tree is that tree
next_tree : OneReading → (p q : Pair) → P.MeanTheSame p q → IsSure p → (to side : Side) (tree tree' : Common) (bytes answer : List ℕ) → IsWrittenTree p to tree bytes → IsTurnedInto q to side AsIs bytes tree' answer → tree' ≡ tree
next_tree law p q same sure to side tree tree' bytes answer written turned =
    let g : Grammar = grammar_of p to in
    let read : IsWordOf to AsIs p.names bytes turned.word = subst (λ (ns : List (List ℕ)). IsWordOf to AsIs ns bytes turned.word) (sym same.names) turned.document.word in
    let word_is : turned.word ≡ print g tree = one_word law to AsIs p.names bytes turned.word (print g tree) read written.reads.word in
    let means = on_side p q same to in
    let moved : Derives (grammar_of q to) (print g tree) turned.derivation = subst (λ (w : List ℕ). Derives (grammar_of q to) w turned.derivation) word_is turned.derives in
    let derives : Derives g (print g tree) turned.derivation = (means.derivations.derives (print g tree) turned.derivation).1 moved in
    let one : turned.derivation ≡ written.back.0 = unique_on p sure to (print g tree) turned.derivation written.back.0 derives written.back.1 in
    sym turned.tree_is ∙ sym (means.trees.strip turned.derivation) ∙ ap (λ (d : Derivation). strip g d) one ∙ written.back.2

-- what is written for a tree by one pair is what is written by the other
written_same : (p q : Pair) → P.MeanTheSame p q → (side : Side) (tree tree' : Common) (bytes : List ℕ) → tree' ≡ tree → IsWrittenTree q side tree' bytes → bytes ≡ document_bytes side p.names (print (grammar_of p side) tree)
written_same p q same side tree tree' bytes is written =
    written.is ∙ ap (λ (t : Common). document_bytes side q.names (print (grammar_of q side) t)) is ∙ ap (λ (w : List ℕ). document_bytes side q.names w) (sym ((on_side p q same side).trees.print tree)) ∙ ap (λ (ns : List (List ℕ)). document_bytes side ns (print (grammar_of p side) tree)) (sym same.names)

-- a document that was turned, by the two grammars of its sheet
pub record IsTurning (sheet : List ℕ) (from to : Side) (form : Form) (document answer : List ℕ) : Type 0 where
  pub pair : Pair
  pub is_pair : IsPairOfBytes sheet pair
  pub sure : IsSure pair
  pub tree : Common
  pub turned : IsTurnedInto pair from to form document tree answer

pub turning : (run : Run) (from to : Side) (form : Form) (sheet document : List ℕ) → run.input.left_before ≡ Some document → (a : IsAnswered run sheet (Turn from to form)) → IsTurning sheet from to form document a.answer
turning run from to form sheet document input a =
    let (sure, bytes, tree, takes, turned) = a.is_answer in
    let same : bytes ≡ document = read_is run.input.left_before run.input.left_now document bytes 1048576 input takes in record {
      pair = a.pair;
      is_pair = a.is_pair;
      sure = sure;
      tree = tree;
      turned = subst (λ (b : List ℕ). IsTurnedInto a.pair from to form b tree a.answer) same turned;
    }

was_turned : (run : Run) (from to : Side) (form : Form) (sheet document answer : List ℕ) → Turned run from to form sheet document answer → IsTurning sheet from to form document answer
was_turned run from to form sheet document answer t =
    let a = done_answered run sheet (Turn from to form) t.asks t.is_done in
    subst (λ (b : List ℕ). IsTurning sheet from to form document b) (appended run.out.taken_before run.out.taken_now t.before answer a.answer t.taken_before t.taken_now a.appends) (turning run from to form sheet document t.input a)

-- where it is turned, out took the answer
turned_now : (run : Run) (from to : Side) (form : Form) (sheet document : List ℕ) → IsToTurn run from to form sheet document → Told run Done → (answer : List ℕ) × IsTurning sheet from to form document answer × Appends run.out.taken_before run.out.taken_now answer
turned_now run from to form sheet document job told =
    let a = done_answered run sheet (Turn from to form) job.asks told in
    (a.answer, turning run from to form sheet document job.input a, a.appends)

module _ (law : OneReading) (agree : PairsAgree) where
  -- the second document is the print of the first one's tree
  second_is : (from to side : Side) (form : Form) (sheet document middle last : List ℕ) (one : IsTurning sheet from to form document middle) (two : IsTurning sheet to side AsIs middle last) → last ≡ document_bytes side one.pair.names (print (grammar_of one.pair side) one.tree)
  second_is from to side form sheet document middle last one two =
      let same = agree sheet one.pair two.pair one.is_pair two.is_pair in
      let tree = next_tree law one.pair two.pair same one.sure to side one.tree two.tree middle last one.turned.written two.turned in
      written_same one.pair two.pair same side one.tree two.tree last tree two.turned.written

  normal_of : (from to : Side) (form : Form) (sheet document middle last : List ℕ) → IsTurning sheet from to form document middle → IsTurning sheet to from AsIs middle last → IsNormalOf sheet from form document last
  normal_of from to form sheet document middle last one two =
      let g : Grammar = grammar_of one.pair from in
      let d = one.turned.derivation in
      let is : last ≡ document_bytes from one.pair.names (yield (normal g d)) = second_is from to from form sheet document middle last one two ∙ ap (λ (w : List ℕ). document_bytes from one.pair.names w) one.turned.normal in record {
        pair = one.pair;
        is_pair = one.is_pair;
        word = one.turned.word;
        is_document = one.turned.document;
        derivation = d;
        derives = one.turned.derives;
        only = λ other derives. unique_on one.pair one.sure from one.turned.word other d derives one.turned.derives;
        is_normal = is;
        same = λ none. is ∙ ap (λ (ps : Parts). document_bytes from one.pair.names (parts_yield ps)) (normal_as_is g (items g d.rule) d.parts none) ∙ ap (λ (w : List ℕ). document_bytes from one.pair.names w) one.turned.derives.1;
      }

  -- two answers to one document are the same
  one_tree : (from to : Side) (form : Form) (sheet document a b : List ℕ) (one : IsTurning sheet from to form document a) (two : IsTurning sheet from to form document b) → two.tree ≡ one.tree
  one_tree from to form sheet document a b one two =
      let same = agree sheet one.pair two.pair one.is_pair two.is_pair in
      let g : Grammar = grammar_of one.pair from in
      let w = one.turned.word in
      let e = two.turned.derivation in
      let read : IsWordOf from form one.pair.names document two.turned.word = subst (λ (ns : List (List ℕ)). IsWordOf from form ns document two.turned.word) (sym same.names) two.turned.document.word in
      let word_is : two.turned.word ≡ w = one_word law from form one.pair.names document two.turned.word w read one.turned.document.word in
      let means = on_side one.pair two.pair same from in
      let derives : Derives g w e = (means.derivations.derives w e).1 (subst (λ (v : List ℕ). Derives (grammar_of two.pair from) v e) word_is two.turned.derives) in
      let is : e ≡ one.turned.derivation = unique_on one.pair one.sure from w e one.turned.derivation derives one.turned.derives in
      sym two.turned.tree_is ∙ sym (means.trees.strip e) ∙ ap (λ (d : Derivation). strip g d) is ∙ one.turned.tree_is

  pub one_answer_lem : OneAnswer
  one_answer_lem one two from to form sheet document answer other first second =
      let a = was_turned one from to form sheet document answer first in
      let b = was_turned two from to form sheet document other second in
      let same = agree sheet a.pair b.pair a.is_pair b.is_pair in
      written_same a.pair b.pair same to a.tree b.tree other (one_tree from to form sheet document answer other a b) b.turned.written ∙ sym a.turned.written.is

  module _ (weigh : RuleWeighsOnce) (well : SheetsAgree) where
    -- a document is turned after another, by the same sheet
    after : (run : Run) (from to side : Side) (form : Form) (sheet document middle : List ℕ) → IsTurning sheet from to form document middle → (next : IsToTurn run to side AsIs sheet middle) → (o : Outcome) → Told run o → (P : List ℕ → Type 0) → ((last : List ℕ) → IsTurning sheet to side AsIs middle last → P last) → Answers run o next.asks.named middle P
    after run from to side form sheet document middle t next o told P gives =
        let word = print (grammar_of t.pair to) t.tree in record {
          ends = λ whole. ended_in_language run t.pair to word o (t.turned.written.back.0, t.turned.written.back.1) (told_ended run to side AsIs sheet middle next whole law weigh agree well t.pair t.is_pair t.sure.accepted word t.turned.written.reads o told);
          answer = λ is.
              let a = turned_now run to side AsIs sheet middle next (subst (λ (x : Outcome). Told run x) is told) in
              (a.0, gives a.0 a.1, a.2);
        }

    pub translates_back_lem : TranslatesBack
    translates_back_lem one two from to form sheet document answer first next o told =
        let was = was_turned one from to form sheet document answer first in
        after two from to from form sheet document answer was next o told (IsNormalOf sheet from form document) (λ last now. normal_of from to form sheet document answer last was now)

    pub round_lem : RoundIsIdempotent
    round_lem one two side form sheet document answer first next o told =
        let was = was_turned one side side form sheet document answer first in
        after two side side side form sheet document answer was next o told (λ again. again ≡ answer) (λ last now. second_is side side side form sheet document answer last was now ∙ sym was.turned.written.is)

    pub translates_again_lem : TranslatesAgain
    translates_again_lem one two three from to form sheet document answer back first second next o told =
        let was = was_turned one from to form sheet document answer first in
        let then = was_turned two to from AsIs sheet answer back second in
        let same = agree sheet was.pair then.pair was.is_pair then.is_pair in
        let tree : then.tree ≡ was.tree = next_tree law was.pair then.pair same was.sure to from was.tree then.tree answer back was.turned.written then.turned in
        let first_is : answer ≡ document_bytes to then.pair.names (print (grammar_of then.pair to) then.tree) =
        was.turned.written.is ∙ ap (λ (t : Common). document_bytes to was.pair.names (print (grammar_of was.pair to) t)) (sym tree) ∙ ap (λ (w : List ℕ). document_bytes to was.pair.names w) ((on_side was.pair then.pair same to).trees.print then.tree) ∙ ap (λ (ns : List (List ℕ)). document_bytes to ns (print (grammar_of then.pair to) then.tree)) same.names in
        after three to from to AsIs sheet answer back then next o told (λ again. again ≡ answer) (λ last now. second_is to from to AsIs sheet answer back last then now ∙ sym first_is)
