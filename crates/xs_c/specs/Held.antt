-- What C owns with a handle.
use Rattle.std.specs.declared.option.Option.{Option}
use Rattle.std.specs.declared.option.Option.TheVariants.{None, Some}
use Rattle.std.specs.Coded.{coded_option}
use base.Fml.{Fml, ftrue}
use base.Stored.{Coded}
use denote.RawPtr.{Ptr}
use Rattle.std.specs.Global.{Global}
use Rattle.std_heap.specs.contracts.GlobalAllocator.TheImpl.{ghosts}
use Rattle.std.specs.Box.Ownership.{box_owns}
use Rattle.xs_c.specs.contracts.kept.Kept.{the_row}

-- nothing; or the same as a box of what is kept
abbrev pub held_owns : Global → Ptr → Option the_row.Denot → Fml
held_owns alloc at None = ftrue
held_owns alloc at (Some kept) = box_owns (ghosts.dealloc_token alloc) the_row at kept

abbrev pub held_coded : Coded (Option the_row.Denot)
held_coded = coded_option the_row.coded
