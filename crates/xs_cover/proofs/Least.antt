-- Closed costs that some tree attains are the least size.
use Rattle.std.proofs.Common.{ℕ, ◌+◌, ◌≤◌, subst, sym, ap, ◌∙◌, arith}
use Rattle.xs_gram.specs.Grammar.{rule_of}
use Rattle.xs_cover.specs.Sizes.{capped, weight}
use Rattle.xs_cover.specs.Costs.{rule_cost}
use Rattle.xs_cover.specs.Laws.{CostsAreLeast}
use Rattle.xs_cover.proofs.Sizes.{sizes_add_lem}
use Rattle.xs_cover.proofs.Costs.{closed_costs_are_low_lem}

capped_low : (a b : ℕ) → a ≤ b → capped a ≤ capped b
capped_low a b le = omega arith

pub costs_are_least_lem : CostsAreLeast
costs_are_least_lem g h c p t ng nh same closed shows attained = record {
  attained = (t, shows, ap (λ n. capped n) (sizes_add_lem g h g.start h.start t ng nh shows.fits (same t shows.fits)) ∙ attained);
  least = λ u shown. subst (λ n. capped (c.around (rule_of g p).non + rule_cost g h c p) ≤ capped n) (sym (sizes_add_lem g h g.start h.start u ng nh shown.fits (same u shown.fits)))
      (capped_low (c.around (rule_of g p).non + rule_cost g h c p) (weight g h u) (closed_costs_are_low_lem g h c p u ng closed shown));
}
