use Rattle.std.proofs.Common.{arith, ℕ, ◌+◌, ◌*◌, ◌/◌, ◌%◌, ◌^◌, refl, ap, set, bit_or, bit_and, subst, ◌≡◌, length, [], ◌∷◌}
use Rattle.std.proofs.lemmas.List.{get_or_read}
use Rattle.std.proofs.lemmas.List.Elements.{Contains-push}
use Rattle.xs_coarse.specs.Found.{pair}
use Rattle.xs_coarse.proofs.FoundLemmas.{cell_word, fits_new, found_marked, marked_unless}
use Rattle.xs_coarse.proofs.GrowthLemmas.{more_same}
use Rattle.xs_coarse.proofs.found.Found.visit.Goals as goal

pub returns-in_ok-push-clause-more : goal.returns-in_ok-push-clause-more
returns-in_ok-push-clause-more c =
    let f = c.args.self.now in
    let n = c.args.first * f.width + c.args.second in
    let low = cell_word f.height f.width c.args.first c.args.second (length f.words.items) (omega (arith, c.if-first-self.false)) (omega (arith, c.if-second-self.false)) c.requires.room in
    let word = get_or_read f.words.items (n / 64) c.index-word.result.now low c.index-word.ensures 0 in
    let p = pair c.args.first c.args.second in
    let fits = fits_new f _ p c.requires (record { first = omega (arith, c.if-first-self.false); second = omega (arith, c.if-second-self.false) }) refl refl c.in_ok-push.ensures.items (ap (λ (w : ℕ). set f.words.items (n / 64) (bit_or w (1 * 2 ^ (n % 64) % 2 ^ 64))) word) in
    record { fits = fits; height = refl; width = refl; longer = record { added = p ∷ []; is = c.in_ok-push.ensures.items } }

pub returns-in_ok-push-clause-ok : goal.returns-in_ok-push-clause-ok
returns-in_ok-push-clause-ok c = λ _ _. rw c.in_ok-push.ensures.items (Contains-push c.args.self.now.pairs.items (pair c.args.first c.args.second))

pub returns-else-word-bit-eq0-clause-more : goal.returns-else-word-bit-eq0-clause-more
returns-else-word-bit-eq0-clause-more c = more_same c.args.self.now c.requires

pub returns-else-word-bit-eq0-clause-ok : goal.returns-else-word-bit-eq0-clause-ok
returns-else-word-bit-eq0-clause-ok c =
    let f = c.args.self.now in
    let n = c.args.first * f.width + c.args.second in
    let low = cell_word f.height f.width c.args.first c.args.second (length f.words.items) (omega (arith, c.if-first-self.false)) (omega (arith, c.if-second-self.false)) c.requires.room in
    let word = get_or_read f.words.items (n / 64) c.index-word.result.now low c.index-word.ensures 0 in
    λ _ _. found_marked f c.args.first c.args.second c.requires (omega (arith, c.if-second-self.false)) (marked_unless f.words.items n (subst (λ (w : ℕ). bit_and (w / 2 ^ (n % 64)) 1 ≡ 0 → ⊥) word c.if-word-bit-eq0.false))
