use Rattle.std.proofs.Common.{◌∙◌, ap, length}
use Rattle.xs_gram.specs.Grammar.{Grammar}
use Rattle.xs_talk.proofs.Counting.{counted_on}
use Rattle.xs_talk.proofs.counts.accepted_line.Goals as goal

pub returns : goal.returns
returns c =
    counted_on _ _ _ _ _ _ c.in_ok-push_count-4.ensures
    (counted_on _ _ _ _ _ _ c.in_ok-push_count-3.ensures
    (counted_on _ _ _ _ _ _ c.in_ok-push_count-2.ensures
    (counted_on _ _ _ _ _ _ c.in_ok-push_count.ensures c.in_ok-line.ensures (c.from.ensures ∙ c.terms.ensures ∙ ap (λ (g : Grammar). length g.terms) c.gram-gram.ensures))
    (c.from-2.ensures ∙ c.skips.ensures ∙ ap (λ (g : Grammar). length g.skips) c.gram-gram.ensures))
    (c.from-3.ensures ∙ c.nons.ensures ∙ ap (λ (g : Grammar). g.nons) c.gram-gram.ensures))
    (c.from-4.ensures ∙ c.rules.ensures ∙ ap (λ (g : Grammar). length g.rules) c.gram-gram.ensures)
