use Rattle.std.proofs.Common.{◌∷◌, [], ◌∙◌, ◌<◌, ℕ, List, length, refl, sym, subst, arith}
use Rattle.std.specs.Prelude.{slice_index_or}
use Rattle.std.proofs.lemmas.Option.{slice_get-get_or}
use Rattle.xs_outline.specs.Reader.{child_at}
use Rattle.xs_outline.proofs.Keeping.{given_child, one_below, one_child}
use Rattle.xs_outline.proofs.reader.Reader.close.Goals as goal

pub returns-then-count-eq1 : goal.returns-then-count-eq1
returns-then-count-eq1 c = record {
  kids = c.args.part ∷ [];
  long = sym c.if-count-eq1.true;
  each = one_child (child_at c.args.self.now.children c.args.top.node) c.args.last c.args.part c.args.count c.if-count-eq1.true c.requires.last;
  number = c.in_ok-number.ensures.number;
  parts = c.in_ok-number.ensures.added;
  means = c.in_ok-number.ensures.means;
  children = refl;
  open_ = refl;
  root = refl;
}

pub node-requires : goal.node-requires
node-requires c = one_below c.args.part (length c.args.self.now.parts) (c.requires.below c.args.last c.args.part (given_child (child_at c.args.self.now.children c.args.top.node) c.args.last c.args.part))

pub node-requires-2 : goal.node-requires-2
node-requires-2 c k d lt =
    let below : k < length c.gather.new.kids.items = subst (λ (z : List ℕ). k < length z) c.deref.ensures.value lt in
    let at = slice_get-get_or c.gather.new.kids.items k d below in
    subst (λ (z : List ℕ). slice_index_or z k d < length c.args.self.now.parts) (sym c.deref.ensures.value)
    (c.requires.below k (slice_index_or c.gather.new.kids.items k d) (sym (c.in_ok-gather.ensures.kids k (omega (arith, below, c.in_ok-gather.ensures.length))) ∙ at))
