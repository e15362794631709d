use Rattle.std.proofs.Common.{◌≡◌, ◌+◌, sym, subst, Some, ℕ, List, ◌<◌, slice_get}
use Rattle.xs_class.specs.Ordered.{place_of}
use Rattle.xs_pair.specs.Directories.{IsDistinct}
use Rattle.xs_pair.specs.Rules.{HasRepeat}
use Rattle.xs_pair.proofs.Places.{get_at, told, told_not, repeat_at, when_false, when_true, distinct_more, distinct_all}
use Rattle.xs_pair.proofs.directory.Directory.is_distinct.Goals as goal

pub returns-then-not-is_first : goal.returns-then-not-is_first
returns-then-not-is_first c =
    let list = c.as_slice-list.result.now in
    let name = c.index-list-place.result in
    let other = told_not list c.args.self.now c.as_str.result.now name c.texts.place c.as_slice-list.ensures.list c.as_str.ensures.read (when_false c.is_first.result c.is_first.ensures c.if-not-is_first.true) in
    subst (λ l. HasRepeat l) c.as_slice-list.ensures.list (repeat_at list c.texts.place name (get_at list c.texts.place name c.texts-test.true c.index-list-place.is) other)

pub texts-preserved : goal.texts-preserved
texts-preserved c =
    let list = c.as_slice-list.result.now in
    let name = c.index-list-place.result in
    let first : place_of list name ≡ Some c.texts.place = told list c.args.self.now c.as_str.result.now name c.texts.place c.as_slice-list.ensures.list c.as_str.ensures.read (when_true c.is_first.result c.is_first.ensures c.if-not-is_first.false) in
    subst (λ (l : List (List ℕ)). (k : ℕ) (n : List ℕ) → k < c.texts.place + 1 → slice_get list k ≡ Some n → place_of l n ≡ Some k) c.as_slice-list.ensures.list
    (distinct_more list c.texts.place name (get_at list c.texts.place name c.texts-test.true c.index-list-place.is) first
    (subst (λ (l : List (List ℕ)). (k : ℕ) (n : List ℕ) → k < c.texts.place → slice_get list k ≡ Some n → place_of l n ≡ Some k) (sym c.as_slice-list.ensures.list) c.texts.invariant))

pub returns : goal.returns
returns c =
    let list = c.as_slice-list.result.now in
    subst (λ l. IsDistinct l) c.as_slice-list.ensures.list
    (distinct_all list c.texts.place c.texts-test.false
    (subst (λ (l : List (List ℕ)). (k : ℕ) (n : List ℕ) → k < c.texts.place → slice_get list k ≡ Some n → place_of l n ≡ Some k) (sym c.as_slice-list.ensures.list) c.texts.invariant))
