-- An outline by one pair of grammars of a sheet is one of the same tree by each other.
use Rattle.std.proofs.Common.{◌≡◌, ◌∙◌, ℕ, suc, ◌<◌, List, [], ◌∷◌, ◌++◌, length, replicate, None, Some, refl, subst, ap}
use Rattle.std.specs.Prelude.{slice_index_or, slice_set}
use Rattle.std.specs.declared.option.Option.{Option}
use Rattle.xs_gram.specs.declared.parts.RulePart.{RulePart}
use Rattle.xs_gram.specs.Grammar.{no_rule, IsRuleOf}
use Rattle.xs_gram.specs.Common.{Common, made, Kind, of_term, of_non, kinds, lookup}
use Rattle.xs_sheet_laws.specs.Pairs as P
use Rattle.xs_pair.specs.Grammars.{Pair}
use Rattle.xs_outline.specs.Lines.{Line, line, production}
use Rattle.xs_outline.specs.Shapes.{Shape, leaf, node, Branches, none, branch, slot_name, kind_at, empty_cells, kids_in, meaning, filled, ShapeFits, BranchesFit, lines, branch_lines, root_name, root_kind}
use Rattle.xs_outline.specs.Outline.{AreLinesOf, IsOutline}

module _ (p q : Pair) (alike : P.AreAlike p q) where
  cells_same : (r : ℕ) → empty_cells p r ≡ empty_cells q r
  cells_same r = ap (λ (ss : List (List (List ℕ))). replicate (length (slice_index_or ss r [])) None) alike.slots

  kind_same : (r s : ℕ) → kind_at p r s ≡ kind_at q r s
  kind_same r s = ap (λ (rs : List RulePart). lookup s (kinds (slice_index_or rs r no_rule).items)) alike.text.rules

  name_same : (r s : ℕ) → slot_name p r s ≡ slot_name q r s
  name_same r s = ap (λ (ss : List (List (List ℕ))). slice_index_or (slice_index_or ss r []) s []) alike.slots

  root_same : root_kind p ≡ root_kind q
  root_same = ap (λ n. Some (of_non n)) alike.text.start

  rule_kept : (n r : ℕ) → IsRuleOf p.text n r → IsRuleOf q.text n r
  rule_kept n r is = subst (λ (rs : List RulePart). (r < length rs) × ((slice_index_or rs r no_rule).non ≡ n)) alike.text.rules is

  -- the tree that a shape is
  mutual
    meaning_same : (sh : Shape) → meaning p sh ≡ meaning q sh
    meaning_same (leaf w) = refl
    meaning_same (node r bs) = ap (λ cells. made r (kids_in cells)) (ap (λ cells. filled p cells bs) (cells_same r) ∙ filled_same (empty_cells q r) bs)

    filled_same : (cells : List (Option Common)) (bs : Branches) → filled p cells bs ≡ filled q cells bs
    filled_same cells none = refl
    filled_same cells (branch s sh bs) = filled_same (slice_set cells s (Some (meaning p sh))) bs ∙ ap (λ t. filled q (slice_set cells s (Some t)) bs) (meaning_same sh)

  -- and its lines
  mutual
    lines_same : (depth : ℕ) (name : List ℕ) (sh : Shape) → lines p depth name sh ≡ lines q depth name sh
    lines_same depth name (leaf w) = refl
    lines_same depth name (node r bs) = ap (λ ls. line depth name (production r) ∷ ls) (branches_same r (suc depth) bs)

    branches_same : (r depth : ℕ) (bs : Branches) → branch_lines p r depth bs ≡ branch_lines q r depth bs
    branches_same r depth none = refl
    branches_same r depth (branch s sh bs) =
        ap (λ name. lines p depth name sh ++ branch_lines p r depth bs) (name_same r s) ∙ ap (λ ls. ls ++ branch_lines p r depth bs) (lines_same depth (slot_name q r s) sh) ∙ ap (λ ls. lines q depth (slot_name q r s) sh ++ ls) (branches_same r depth bs)

  mutual
    shape_kept : (kind : Option Kind) (sh : Shape) → ShapeFits p kind sh → ShapeFits q kind sh
    shape_kept (Some (of_term t)) (leaf w) fit = ((alike.text.term_regexes t).words w).0 fit
    shape_kept (Some (of_non n)) (node r bs) fit = (rule_kept n r fit.0, subst (λ cells. BranchesFit q r cells bs) (cells_same r) (branches_kept r (empty_cells p r) bs fit.1))
    shape_kept (Some (of_term t)) (node r bs) fit = absurd fit
    shape_kept (Some (of_non n)) (leaf w) fit = absurd fit
    shape_kept None sh fit = absurd fit

    branches_kept : (r : ℕ) (cells : List (Option Common)) (bs : Branches) → BranchesFit p r cells bs → BranchesFit q r cells bs
    branches_kept r cells none fit = fit
    branches_kept r cells (branch s sh bs) fit = (
      fit.0,
      subst (λ kind. ShapeFits q kind sh) (kind_same r s) (shape_kept (kind_at p r s) sh fit.1),
      subst (λ (t : Common). BranchesFit q r (slice_set cells s (Some t)) bs) (meaning_same sh) (branches_kept r (slice_set cells s (Some (meaning p sh))) bs fit.2),
    )

  lines_kept : (ls : List Line) (t : Common) → AreLinesOf p ls t → AreLinesOf q ls t
  lines_kept ls t are = record {
    shape = are.shape;
    fits = subst (λ kind. ShapeFits q kind are.shape) root_same (shape_kept (root_kind p) are.shape are.fits);
    are = are.are ∙ lines_same 0 root_name are.shape;
    means = are.means ∙ meaning_same are.shape;
  }

  pub outline_kept : (w : List ℕ) (t : Common) → IsOutline p w t → IsOutline q w t
  outline_kept w t is = record { lines = is.lines; spelt = is.spelt; tree = lines_kept is.lines t is.tree }
