-- The order of the rules on fences.
use Rattle.std.proofs.Common.{◌<◌, ◌+◌, refl, ℕ, List, arith}
use Rattle.xs_sheet.specs.declared.unit.Unit.{Unit}
use Rattle.xs_pair.specs.declared.ill.IllRule.{IllRule}
use Rattle.xs_pair.specs.declared.ill.IllRule.TheVariants.{Twice, Undefined, NoStart, NameOnce, Kind, AttrTwice, RootShape, EmptyClass, NotChar, Normal, Unproductive, Loop, FenceChar, FenceInside, FenceOpen}
use Rattle.xs_pair.specs.Fences.{FenceFails}
use Rattle.xs_pair.specs.Verdict.{order, NoneBefore, NoneFails}
use Rattle.xs_pair.proofs.Orders.{none_next}

-- none of the rules before those on fences is one of them
pub none_before : (us : List Unit) → NoneBefore (FenceFails us) 12
none_before us Twice line lt fails = fails
none_before us Undefined line lt fails = fails
none_before us NoStart line lt fails = fails
none_before us NameOnce line lt fails = fails
none_before us Kind line lt fails = fails
none_before us AttrTwice line lt fails = fails
none_before us RootShape line lt fails = fails
none_before us EmptyClass line lt fails = fails
none_before us NotChar line lt fails = fails
none_before us Normal line lt fails = fails
none_before us Unproductive line lt fails = fails
none_before us Loop line lt fails = fails
none_before us FenceChar line lt fails = omega (arith, lt)
none_before us FenceInside line lt fails = omega (arith, lt)
none_before us FenceOpen line lt fails = omega (arith, lt)

pub before_inside : (us : List Unit) → ((line : ℕ) → FenceFails us FenceChar line → ⊥) → NoneBefore (FenceFails us) 13
before_inside us one = none_next (FenceFails us) FenceChar 12 refl (none_before us) one

pub before_open : (us : List Unit) → ((line : ℕ) → FenceFails us FenceChar line → ⊥) → ((line : ℕ) → FenceFails us FenceInside line → ⊥) → NoneBefore (FenceFails us) 14
before_open us one two = none_next (FenceFails us) FenceInside 13 refl (before_inside us one) two

pub none_at_all : (us : List Unit) → ((line : ℕ) → FenceFails us FenceChar line → ⊥) → ((line : ℕ) → FenceFails us FenceInside line → ⊥) → ((line : ℕ) → FenceFails us FenceOpen line → ⊥) → NoneFails (FenceFails us)
none_at_all us one two three rule line fails = none_next (FenceFails us) FenceOpen 14 refl (before_open us one two) three rule line (low rule) fails
  where
    low : (rule : IllRule) → order rule < 14 + 1
    low Twice = omega arith
    low Undefined = omega arith
    low NoStart = omega arith
    low NameOnce = omega arith
    low Kind = omega arith
    low AttrTwice = omega arith
    low RootShape = omega arith
    low EmptyClass = omega arith
    low NotChar = omega arith
    low Normal = omega arith
    low Unproductive = omega arith
    low Loop = omega arith
    low FenceChar = omega arith
    low FenceInside = omega arith
    low FenceOpen = omega arith
