-- What a sink in memory means.
use Rattle.std.specs.Prelude.{Some}
use Rattle.kl_outside.specs.Sinks.{SinkState}
use Rattle.kl_outside.specs.Schedule.{Calls}
use Rattle.kl_outside.specs.declared.memory_sink.MemSink.{MemSink}

abbrev pub sink_state : MemSink → SinkState
sink_state m = record { taken = Some m.taken.items; faults = m.schedule.faults; wants = m.wants }

-- which calls are to fail, and how many were made
abbrev pub sink_calls : MemSink → Calls
sink_calls m = m.schedule
