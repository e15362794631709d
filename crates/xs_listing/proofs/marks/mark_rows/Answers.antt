use Rattle.std.proofs.Common.{◌≡◌, length, sym, ◌∙◌, ap, subst, arith, suc, List, Bool, true, false, ◌-◌, ◌++◌, take, drop, replicate}
use Rattle.std.specs.Prelude.{slice_set}
use Rattle.std.proofs.lemmas.List.{length-replicate}
use Rattle.xs_listing.specs.Marks.{IsMarked, AreMarked, pass}
use Rattle.xs_listing.proofs.Marking.{first_marked, set_there, length_set, length_pass, pass_keeps, pass_marked}
use Rattle.xs_listing.proofs.Filling.{written_back}
use Rattle.xs_listing.proofs.marks.mark_rows.Goals as goal

pub rows-init : goal.rows-init
rows-init c =
    let f = c.args.forest.now in
    let n = c.len-rows.result in
    let m = c.in_ok-marks.marks.items in
    let none : m ≡ replicate n false = c.in_ok-marks.ensures.items_if_clones_equal (λ y e. e) in
    let len = c.len-rows.ensures.len in
    let long : length m ≡ n = ap length none ∙ length-replicate n false in
    record {
      long = length_set m c.args.root ∙ long ∙ len;
      within = omega arith;
      root = set_there m c.args.root (omega arith);
      marked = λ g w right ready. subst (λ (x : List Bool). AreMarked w f (slice_set x c.args.root true) n) (sym none) (first_marked g w f right c.args.root n ready (omega arith));
    }

pub rows-preserved : goal.rows-preserved
rows-preserved c =
    let f = c.args.forest.now in
    let m = c.rows.marks.items in
    let row = c.rows.row - 1 in
    let long = c.rows.invariant.long in
    let is : c.mark_children.new.marks ≡ pass f row m = c.mark_children.ensures ∙ ap (pass f row) c.deref_mut.ensures.value in
    let same : length c.mark_children.new.marks ≡ length m = ap length is ∙ length_pass f row m in
    let back : take c.rows.marks.len (c.mark_children.new.marks ++ drop (length c.mark_children.new.marks) m) ≡ pass f row m = written_back c.mark_children.new.marks m c.rows.marks.len (omega arith) (omega arith) ∙ is in
    let next : suc row ≡ c.rows.row = omega arith in
    record {
      long = ap length back ∙ length_pass f row m ∙ long;
      within = omega arith;
      root = subst (λ (x : List Bool). IsMarked x c.args.root) (sym back) (pass_keeps f row m c.args.root c.rows.invariant.root);
      marked = λ g w right ready.
          subst (λ (x : List Bool). AreMarked w f x row) (sym back) (pass_marked g w f right m row (omega arith) (omega arith) (subst (λ x. AreMarked w f m x) (sym next) (c.rows.invariant.marked g w right ready)));
    }
