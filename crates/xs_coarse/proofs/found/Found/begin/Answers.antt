use Rattle.std.proofs.Common.{arith, refl}
use Rattle.std.proofs.lemmas.List.{length-replicate}
use Rattle.xs_auto.proofs.BitLemmas.{copy_at}
use Rattle.xs_coarse.proofs.FoundLemmas.{fits_empty, fits_room, blank_words}
use Rattle.xs_coarse.proofs.found.Found.begin.Goals as goal
use Rattle.xs_coarse.proofs.found.Found.begin.Goals.{then-count-len+in_ok-words, else-count-len}

pub returns-then-cells-gt-MOST_PAIRS-clause-fits : goal.returns-then-cells-gt-MOST_PAIRS-clause-fits
returns-then-cells-gt-MOST_PAIRS-clause-fits c = fits_empty c.args.self.now c.wipe.new.self c.requires c.wipe.ensures

pub returns-in_err-words-clause-fits : goal.returns-in_err-words-clause-fits
returns-in_err-words-clause-fits c = fits_empty c.args.self.now c.wipe.new.self c.requires c.wipe.ensures

pub returns-clause-fits : goal.returns-clause-fits
returns-clause-fits c = elim c.if-count-len.branch [
  | then-count-len+in_ok-words w ↦
      let zeros = w.in_ok-words.ensures.items_if_clones_equal (λ y e. e) in
      rw w.self-is (fits_room _ c.args.height c.args.width (rw (zeros, length-replicate) (omega arith)) refl refl c.wipe.ensures.pairs (blank_words _ (λ k. rw zeros (copy_at 0 _ k))))
  | else-count-len w ↦ rw w.self-is (fits_room _ c.args.height c.args.width (omega (arith, w.if-count-len.false, c.len.ensures, c.wipe.new.self.words.ok)) refl refl c.wipe.ensures.pairs c.wipe.ensures.blank)
]
