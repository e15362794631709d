use Rattle.std.proofs.Common.{◌≡◌, ◌++◌, ◌∷◌, [], ℕ, List, length, sym, ◌∙◌, ap, subst, arith, length-append}
use Rattle.xs_forest.specs.declared.row.Alt.{Alt}
use Rattle.xs_forest_laws.specs.Forest.{alts_of}
use Rattle.xs_forest_laws.specs.Number.{alts_count, AreCounts}
use Rattle.xs_forest_laws.proofs.Counts.{next_counted}
use Rattle.xs_listing.proofs.count.count_rows.Goals as goal

pub rows-preserved : goal.rows-preserved
rows-preserved c =
    let f = c.args.forest.now in
    let cap = c.args.cap in
    let cs = c.rows.counts.items in
    let count = c.all_count-count.result in
    let long = c.rows.invariant.long in
    let len = c.len-rows.ensures.len in
    let new : c.push.new.self.items ≡ cs ++ count ∷ [] = c.in_ok-push.ensures.items in
    let more = length-append cs (count ∷ []) in
    let same = ap length new in
    let alts : c.alts_at.result.now ≡ alts_of f (length cs) = c.alts_at.ensures ∙ ap (alts_of f) (sym long) in
    let counted : count ≡ alts_count cap cs (alts_of f (length cs)) =
    c.all_count-count.ensures ∙ ap (λ (l : List ℕ). alts_count cap l c.alts_at.result.now) c.deref.ensures.value ∙ ap (λ (l : List Alt). alts_count cap cs l) alts in
    let all : c.push.new.self.items ≡ cs ++ alts_count cap cs (alts_of f (length cs)) ∷ [] = new ∙ ap (λ n. cs ++ n ∷ []) counted in
    record {
      long = omega arith;
      counts = λ g w right. subst (λ (l : List ℕ). AreCounts f cap l) (sym all) (next_counted g w f right cap cs (c.rows.invariant.counts g w right) (omega arith));
    }
