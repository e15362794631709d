-- What the sinks in memory hold.
use Rattle.std.specs.Prelude.{ℕ, List}
use Rattle.xs_io.specs.declared.call_log.CallLog.{CallLog}
use Rattle.xs_io.specs.declared.sinks.MemSink.{MemSink}
use Rattle.xs_io.specs.declared.sinks.SureSink.{SureSink}

-- the bytes that were taken
abbrev pub mem_bytes : MemSink → List ℕ
mem_bytes s = s.bytes

-- how many bytes a call takes at most
abbrev pub mem_step : MemSink → ℕ
mem_step s = s.step

-- its calls so far, and those that fail
abbrev pub mem_calls : MemSink → CallLog
mem_calls s = s.calls

-- the bytes that were taken
abbrev pub sure_bytes : SureSink → List ℕ
sure_bytes s = s.bytes.items

-- how many bytes it takes in all
abbrev pub sure_room : SureSink → ℕ
sure_room s = s.room

-- how many calls failed
abbrev pub sure_faults : SureSink → ℕ
sure_faults s = s.faults
