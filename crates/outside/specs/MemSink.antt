-- What a sink in memory tells.
use Rattle.std.specs.Prelude.{Option, Some}
use Rattle.std.specs.declared.num.NonZeroUsize.{NonZeroUsize}
use Rattle.outside.specs.Failing.{fault_count, is_sure}
use Rattle.outside.specs.Sinks.{SinkTold}
use Rattle.outside.specs.declared.memory.failing.Failing.{Failing}
use Rattle.outside.specs.declared.memory.sink.MemSink.{MemSink}

-- what a sink tells
abbrev pub sink_told : MemSink → SinkTold
sink_told sink = record {
  written = Some sink.written.items;
  faults = fault_count sink.failing;
  never_fails = is_sure sink.failing;
}

-- its calls that fail
abbrev pub sink_failing : MemSink → Failing
sink_failing sink = sink.failing

-- the most bytes that it takes at a time, where there is a bound
abbrev pub sink_bound : MemSink → Option NonZeroUsize
sink_bound sink = sink.at_most
