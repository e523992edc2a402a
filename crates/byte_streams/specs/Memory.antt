-- What a source and a sink in memory show of themselves.
use Rattle.std.specs.Prelude.{◌≡◌, ◌<◌, ℕ, List, length, drop}
use Rattle.byte_streams.specs.Calls.{IsDue}
use Rattle.byte_streams.specs.declared.memory.MemSource.{MemSource}
use Rattle.byte_streams.specs.declared.memory.MemSink.{MemSink}

-- the bytes that a source has left
abbrev pub left_of : MemSource → List ℕ
left_of source = drop source.at source.bytes.items

-- the numbers of the calls that must fail, and how many were made
abbrev pub failing_of : MemSource → List ℕ
failing_of source = source.calls.failing.items

abbrev pub calls_of : MemSource → ℕ
calls_of source = source.calls.made

-- the next call of the source is one that must fail
abbrev pub FailsNext : MemSource → Type 0
FailsNext source = IsDue source.calls

abbrev pub faults_of : MemSource → ℕ
faults_of source = source.calls.faults

-- the bytes that a sink has taken, and how many of them were flushed
abbrev pub taken_by : MemSink → List ℕ
taken_by sink = sink.bytes.items

abbrev pub flushed_of : MemSink → ℕ
flushed_of sink = sink.flushed

-- how many bytes a sink can still take
abbrev pub room_of : MemSink → ℕ
room_of sink = sink.room

abbrev pub sink_failing_of : MemSink → List ℕ
sink_failing_of sink = sink.calls.failing.items

abbrev pub sink_calls_of : MemSink → ℕ
sink_calls_of sink = sink.calls.made

-- the next call of the sink is one that must fail
abbrev pub RefusesNext : MemSink → Type 0
RefusesNext sink = IsDue sink.calls

-- the sink has no room for any of these bytes
abbrev pub IsFullFor : List ℕ → MemSink → Type 0
IsFullFor bytes sink = (room_of sink ≡ 0) × (0 < length bytes)

abbrev pub sink_faults_of : MemSink → ℕ
sink_faults_of sink = sink.calls.faults
