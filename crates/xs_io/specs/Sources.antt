-- What the sources in memory hold.
use Rattle.std.specs.Prelude.{ℕ, List, drop}
use Rattle.xs_io.specs.declared.call_log.CallLog.{CallLog}
use Rattle.xs_io.specs.declared.sources.MemSource.{MemSource}
use Rattle.xs_io.specs.declared.sources.SureSource.{SureSource}

-- the bytes that are left
abbrev pub mem_rest : MemSource → List ℕ
mem_rest s = drop s.at s.bytes

-- how many bytes a call moves at most
abbrev pub mem_step : MemSource → ℕ
mem_step s = s.step

-- its calls so far, and those that fail
abbrev pub mem_calls : MemSource → CallLog
mem_calls s = s.calls

-- the bytes that are left
abbrev pub sure_rest : SureSource → List ℕ
sure_rest s = drop s.at s.bytes
