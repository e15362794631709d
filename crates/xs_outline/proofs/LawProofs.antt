-- The laws over outlines.
use Rattle.std.proofs.Common.{refl, sym, subst}
use Rattle.xs_outline.specs.Lines.{text_lines}
use Rattle.xs_outline.specs.Order.{shape_of}
use Rattle.xs_outline.specs.Shapes.{lines, root_name}
use Rattle.xs_outline.specs.Outline.{AreLinesOf}
use Rattle.xs_outline.specs.Laws.{HasOneTree, WrittenHasTree, WrittenIsOutline, LeadsToTree, BeginsTree}
use Rattle.xs_outline.proofs.Machine.{one_tree, lines_pass, passed_lines}
use Rattle.xs_outline.proofs.Viable.{may_begin, begun_may}
use Rattle.xs_outline.proofs.Fitting.{tree_shape_fits, tree_shape_means}
use Rattle.xs_outline.proofs.Filling.{sound_can_fill}
use Rattle.xs_outline.proofs.Pairs.{pair_has_slot_names, pair_has_distinct_slots}
use Rattle.xs_outline.proofs.Spelling.{same_lines}
use Rattle.xs_outline.proofs.SlotNames.{slots_lack}
use Rattle.xs_outline.proofs.Written.{root_lacks, shape_named, lines_spelt}

pub one_tree_lem : HasOneTree
one_tree_lem s p pair numbers w t u a b =
    let same = same_lines a.lines b.lines (text_lines w) a.spelt b.spelt in
    one_tree p (pair_has_distinct_slots s p pair numbers) b.lines t u (subst (λ ls. AreLinesOf p ls t) same a.tree) b.tree

pub written_lem : WrittenHasTree
written_lem s p pair t fits =
    let names = pair_has_slot_names s p pair in
    record { shape = shape_of p t; fits = tree_shape_fits p names t fits; are = refl; means = sym (tree_shape_means p names t fits) }

pub outline_lem : WrittenIsOutline
outline_lem bytes s p read pair t fits =
    let named = shape_named p (slots_lack bytes s p read pair) 0 root_name (shape_of p t) root_lacks in
    record { lines = lines p 0 root_name (shape_of p t); spelt = lines_spelt (lines p 0 root_name (shape_of p t)) named; tree = written_lem s p pair t fits }

pub leads_lem : LeadsToTree
leads_lem s p pair numbers ls t =
    let distinct = pair_has_distinct_slots s p pair numbers in
    (λ are. lines_pass p distinct ls t are, λ pass. passed_lines p distinct ls t pass)

pub begins_lem : BeginsTree
begins_lem s p pair sound ls =
    let names = pair_has_slot_names s p pair in
    let numbers = sound.built.slots in
    let distinct = pair_has_distinct_slots s p pair numbers in
    let fill = sound_can_fill p names numbers sound in
    (λ (more, t, are). begun_may p distinct fill ls more t are, λ may. may_begin p distinct fill ls may)
