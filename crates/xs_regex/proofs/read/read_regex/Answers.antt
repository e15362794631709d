use Rattle.std.proofs.Common.{◌<◌, ◌≤◌, ℕ, List, subst, arith}
use Rattle.xs_regex.specs.Meaning.{IsPatternOf}
use Rattle.xs_regex.specs.Pattern.{Tree, IsReading}
use Rattle.xs_regex.specs.Size.{size}
use Rattle.xs_regex.proofs.Meanings.{pattern_read, pattern_bounded, pattern_none, pattern_large}
use Rattle.xs_regex.proofs.read.read_regex.Goals as goal

pub returns-then-size_up_to-le512-clause-read : goal.returns-then-size_up_to-le512-clause-read
returns-then-size_up_to-le512-clause-read c =
    let small : size c.in-Ok-whole.r ≤ 512 = omega (arith, c.size_up_to.ensures, c.if-size_up_to-le512.true) in
    subst (λ (p : List ℕ). IsPatternOf p c.in-Ok-whole.r) c.in-Ok.ensures.same (pattern_read c.in-Ok.cs.items c.in-Ok-whole.r c.in-Ok.ensures.short small (rw c.deref.ensures.value at c.in-Ok-whole.ensures.read))

pub returns-then-size_up_to-le512-clause-bounded : goal.returns-then-size_up_to-le512-clause-bounded
returns-then-size_up_to-le512-clause-bounded c = pattern_bounded c.deref.result.now c.in-Ok-whole.r c.in-Ok-whole.ensures.read

pub returns-in-Ok-whole-clause-bad : goal.returns-in-Ok-whole-clause-bad
returns-in-Ok-whole-clause-bad c = λ e.
    let large : 512 < size c.in-Ok-whole.r = omega (arith, c.size_up_to.ensures, c.if-size_up_to-le512.false) in
    subst (λ (p : List ℕ). (t : Tree) → IsReading p t → ⊥) c.in-Ok.ensures.same (pattern_large c.in-Ok.cs.items c.in-Ok-whole.r large (rw c.deref.ensures.value at c.in-Ok-whole.ensures.read))

pub returns-clause-bad : goal.returns-clause-bad
returns-clause-bad c = λ e. subst (λ (p : List ℕ). (t : Tree) → IsReading p t → ⊥) c.in-Ok.ensures.same (pattern_none c.in-Ok.cs.items (rw c.deref.ensures.value at (c.in-Err-whole.ensures.bad e)))
