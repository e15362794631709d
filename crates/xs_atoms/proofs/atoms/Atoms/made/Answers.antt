use Rattle.std.proofs.Common.{◌≡◌, ◌∙◌, ℕ, ◌<◌, List, length, Some, refl, ap, arith}
use Rattle.std.proofs.lemmas.Option.{slice_get_within}
use Rattle.std.specs.Prelude.{slice_get}
use Rattle.xs_class.proofs.Lists.{len_is}
use Rattle.xs_atoms.proofs.Alphabets.{turns_kept, alphabet, some_stretch, first_begins}
use Rattle.xs_atoms.proofs.Fixing.{rules_single}
use Rattle.xs_atoms.proofs.atoms.Atoms.made.Goals as goal

pub sweep-requires-clause-width : goal.sweep-requires-clause-width
sweep-requires-clause-width c =
    let classes = c.leaf_numbers.new.distinct in
    let class = c.in_ok-class.class in
    let there : slice_get classes 0 ≡ Some class = c.in_ok-leaves.ensures.stay 0 class (ap (λ (cs : List (List (ℕ × ℕ))). slice_get cs 0) c.in_ok-distinct.ensures) in
    omega (arith, slice_get_within classes 0 class there, c.len.ensures.length)

pub sweep-requires-clause-kept : goal.sweep-requires-clause-kept
sweep-requires-clause-kept c =
    let classes = c.leaf_numbers.new.distinct in
    let class = c.in_ok-class.class in
    let there : slice_get classes 0 ≡ Some class = c.in_ok-leaves.ensures.stay 0 class (ap (λ (cs : List (List (ℕ × ℕ))). slice_get cs 0) c.in_ok-distinct.ensures) in
    rw c.deref-3.ensures.value
    (turns_kept classes _ class c.in_ok-turns.turns.items (rules_single c.args.g.now.rules) (rw (c.deref-2.ensures.value, c.in_ok-fixed.ensures) at c.in_ok-turns.ensures.turns) there (rw (c.deref.ensures.value, c.in_ok-fixed.ensures) at c.in_ok-class.ensures))

pub pages_of-requires-clause-some : goal.pages_of-requires-clause-some
pages_of-requires-clause-some c = some_stretch c.deref-3.result.now c.len.result c.in-Some.draft c.deref-4.result.now c.deref-4.ensures.value (rw c.in-Some.is at c.in_ok-draft.ensures)

pub pages_of-requires-clause-begins : goal.pages_of-requires-clause-begins
pages_of-requires-clause-begins c = first_begins c.deref-3.result.now c.len.result c.in-Some.draft c.deref-4.result.now c.deref-4.ensures.value (rw c.in-Some.is at c.in_ok-draft.ensures)

pub overflow_cast-result : goal.overflow_cast-result
overflow_cast-result c =
    let swept = rw c.in-Some.is at c.in_ok-draft.ensures in
    let few : length c.in-Some.draft.firsts.items < 65535 = (swept 0).few in
    let is : c.len-4.result ≡ length c.in-Some.draft.firsts.items = c.len-4.ensures ∙ len_is c.in-Some.draft.firsts in
    omega arith

pub returns : goal.returns
returns c =
    let classes = c.leaf_numbers.new.distinct in
    let class = c.in_ok-class.class in
    let there : slice_get classes 0 ≡ Some class = c.in_ok-leaves.ensures.stay 0 class (ap (λ (cs : List (List (ℕ × ℕ))). slice_get cs 0) c.in_ok-distinct.ensures) in
    let wide : c.len.result ≡ length classes = c.len.ensures.length in
    let swept = rw (c.in-Some.is, c.deref-3.ensures.value, wide) at c.in_ok-draft.ensures in
    alphabet c.args.g.now _ c.in-Some.draft classes class c.in_ok-turns.turns.items (c.len-4.ensures ∙ len_is c.in-Some.draft.firsts) refl (c.in-Ok.ensures.1 ∙ c.len-2.ensures.length) swept (rw (c.deref-2.ensures.value, c.in_ok-fixed.ensures) at c.in_ok-turns.ensures.turns) (rw c.deref-4.ensures.value at c.in_ok-pages.ensures) c.in_ok-leaves.ensures.terms c.in_ok-leaves.ensures.skips there (rw (c.deref.ensures.value, c.in_ok-fixed.ensures) at c.in_ok-class.ensures)
