use Rattle.std.proofs.Common.{◌≡◌, ◌++◌, ℕ, List, map, sym, ◌∙◌, ap}
use Rattle.std.specs.Prelude.{replicate}
use Rattle.xs_gram.specs.Grammar.{Grammar}
use Rattle.xs_atoms.specs.declared.atoms.Atoms.{Atoms}
use Rattle.xs_atoms.specs.Alphabet.{AreAtoms, atom_of, count_of, word_of}
use Rattle.xs_lr.specs.declared.reader.TheConstants.{PADDING}
use Rattle.xs_parse_table.specs.declared.validator.Validator.{Validator}
use Rattle.xs_parse_table.specs.Validators.{IsValidatorOf, IsReady}
use Rattle.xs_turn.proofs.guess.table_of.Goals as goal

ready_for : (g : Grammar) (v : Validator) (a : Atoms) (doc read word list : List ℕ) (n : ℕ) → AreAtoms g a → IsValidatorOf g a v → word ≡ word_of a read n → read ≡ doc → list ≡ word → IsReady g v doc list
ready_for g v a doc read word list n are of is same front = record {
  atoms = a;
  are = are;
  of = of;
  more = replicate n (count_of a);
  front = front ∙ is ∙ ap (λ (d : List ℕ). map (atom_of a) d ++ replicate n (count_of a)) same;
}

pub validate-requires-clause-ready : goal.validate-requires-clause-ready
validate-requires-clause-ready c =
    ready_for c.args.g.now c.in_ok-validator.validator c.in-Some.atoms c.as_slice-2.result.now c.as_slice.result.now c.in_ok-word.word.items c.deref-2.result.now PADDING
    (rw c.in-Some.is at c.in_ok-atoms.ensures) c.in_ok-validator.ensures c.in_ok-word.ensures (c.as_slice.ensures ∙ sym c.as_slice-2.ensures) c.deref-2.ensures.value
