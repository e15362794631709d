use Rattle.std.proofs.Common.{◌≡◌, ◌∙◌, ℕ, List, false, true, length, rules, sym, subst, arith, vec_len}
use Rattle.std.proofs.lemmas.Bool.{false≢true}
use Rattle.xs_gram.specs.Languages.{InLang}
use Rattle.xs_edit.proofs.Prefixes.{not_all, all_read}
use Rattle.xs_edit.proofs.Trees.{popped_is}
use Rattle.xs_edit.proofs.derivation.derivation.Goals.{then-len-via-then-len, then-len-via-else-len+then-not-whole}
use Rattle.xs_edit.proofs.derivation.derivation.Goals as goal

pub returns-then-len : goal.returns-then-len
returns-then-len c =
    let g = c.args.g.now in
    let doc = c.args.doc.now in
    let run = c.args.run.now in
    elim c.then-len.branch [
      | then-len-via-then-len w ↦ not_all g doc (length run.word) c.requires.following.viable (omega (arith, w.if-len.true, c.len.ensures, c.len-2.ensures))
      | then-len-via-else-len+then-not-whole w ↦ (λ h.
          let no : w.whole.result ≡ false = search (rules, w.if-not-whole.true) in
          let all : run.word ≡ doc = all_read g doc run c.requires.following.read (omega (arith, w.if-len.false, c.len.ensures, c.len-2.ensures)) in
          false≢true (sym no ∙ (w.whole.ensures g c.requires.following.read.of).1 (subst (λ (u : List ℕ). InLang g u) (sym all) h)))
    ]

pub returns : goal.returns
returns c =
    let g = c.args.g.now in
    let doc = c.args.doc.now in
    let run = c.args.run.now in
    let yes : c.whole.result ≡ true = search (rules, c.if-not-whole.false) in
    let all : run.word ≡ doc = all_read g doc run c.requires.following.read (omega (arith, c.if-len.false, c.len.ensures, c.len-2.ensures)) in
    let whole : InLang g doc = subst (λ (u : List ℕ). InLang g u) all ((c.whole.ensures g c.requires.following.read.of).0 yes) in
    let v = c.into_vec-trees.result in
    popped_is g doc c.in_ok-listing.listing v.items c.pop.new.self.items (vec_len v) c.pop.result c.in_ok-listing.ensures whole c.into_vec-trees.ensures (omega (arith, v.ok)) c.pop.ensures.items c.pop.ensures.variant.1
