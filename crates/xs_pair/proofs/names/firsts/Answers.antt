use Rattle.std.proofs.Common.{arith, length, ◌≡◌, ◌+◌, ◌∙◌, sym, refl, ap, take, List, [], ◌∷◌, ◌++◌, ℕ, Some}
use Rattle.std.proofs.Math.ListN.{drop_of_length-le}
use Rattle.xs_class.specs.Ordered.{place_of}
use Rattle.xs_class.proofs.Lists.{take_next}
use Rattle.xs_pair.proofs.Shorter.{firsts_short}
use Rattle.xs_pair.specs.Units as U
use Rattle.xs_pair.proofs.Places.{get_at, told, told_not, when_true, when_false, first_step, again_step, same_more, same_again, among_same, among_before}
use Rattle.xs_pair.proofs.names.firsts.Goals as goal
use Rattle.xs_pair.proofs.names.firsts.Goals.{then-is_first+in_ok-name+in_ok-push, else-is_first}

pub texts-preserved : goal.texts-preserved
texts-preserved c =
    let list = c.as_slice-texts.result.now in
    let n = c.index-texts-place.result in
    let i = c.texts.place in
    let next : take (i + 1) list ≡ take i list ++ n ∷ [] = take_next list i n c.texts-test.true c.index-texts-place.is in
    elim c.if-is_first.branch [
      | then-is_first+in_ok-name+in_ok-push w ↦
          let new : c.if-is_first.names.items ≡ c.texts.names.items ++ n ∷ [] = rw (w.names-is, w.in_ok-push.ensures.items, w.in_ok-name.ensures) refl in
          let first : place_of list n ≡ Some i = told list c.args.list.now c.as_str.result.now n i c.as_slice-texts.ensures.list c.as_str.ensures.read (when_true c.is_first.result c.is_first.ensures w.if-is_first.true) in
          record {
            rest = rw new (first_step c.texts.names.items list i n (U.firsts list) c.texts-test.true c.index-texts-place.is first c.texts.invariant.same c.texts.invariant.rest);
            same = rw (new, next) (same_more c.texts.names.items (take i list) n c.texts.invariant.same);
          }
      | else-is_first w ↦
          let old : c.if-is_first.names.items ≡ c.texts.names.items = rw w.names-is refl in
          let other = told_not list c.args.list.now c.as_str.result.now n i c.as_slice-texts.ensures.list c.as_str.ensures.read (when_false c.is_first.result c.is_first.ensures w.if-is_first.false) in
          let among = among_same c.texts.names.items (take i list) n c.texts.invariant.same (among_before list i n (get_at list i n c.texts-test.true c.index-texts-place.is) other) in
          record {
            rest = rw old (again_step c.texts.names.items list i n (U.firsts list) c.texts-test.true c.index-texts-place.is among c.texts.invariant.rest);
            same = rw (old, next) (same_again c.texts.names.items (take i list) n among c.texts.invariant.same);
          }
    ]

pub returns-clause-few : goal.returns-clause-few
returns-clause-few c =
    let texts = c.as_slice-texts.result.now in
    let same : c.texts.names.items ≡ U.firsts texts = ap (λ (l : List (List ℕ)). U.with_names c.texts.names.items l) (sym (drop_of_length-le texts c.texts-test.false)) ∙ c.texts.invariant.rest in
    omega (arith, ap length same, firsts_short texts, ap length c.as_slice-texts.ensures.list, c.as_slice-texts.ensures.few)
