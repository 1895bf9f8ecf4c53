-- What the shelf and the sink in memory answer, and how they stand after the call.
use Rattle.std.specs.Prelude.{◌≡◌, ℕ, ◌≤◌, ◌<◌, List, ◌++◌, length, Contains, Some, None, IsSomeAnd, Result, Ok, Err, ◌⊎◌}
use Rattle.std.specs.declared.alloc.Global.{Global}
use Rattle.std.specs.declared.vec.Vec.{Vec}
use Rattle.mono_io.specs.Faults.{next_count}
use Rattle.mono_io.specs.Fakes.{FakeShelf, FakeSink, bytes_under, half_of}
use Rattle.mono_io.specs.declared.shelf.ShelfFault.{ShelfFault}
use Rattle.mono_io.specs.declared.shelf.ShelfFault.TheVariants as shelf
use Rattle.mono_io.specs.declared.sink.SinkFault.{SinkFault}
use Rattle.mono_io.specs.declared.sink.SinkFault.TheVariants as sink

-- a call was made, well or not
abbrev pub called_shelf : FakeShelf → FakeShelf
called_shelf s = record s { calls = next_count s.calls }

abbrev pub called_sink : FakeSink → FakeSink
called_sink s = record s { calls = next_count s.calls }

-- what a fetch of a name answers, and the shelf after it
abbrev pub IsFetched : FakeShelf → List ℕ → ℕ → Result (Vec ℕ Global) ShelfFault → FakeShelf → Type 0
IsFetched old name limit (Ok bytes) new =
    (¬ Contains old.fails old.calls) × (bytes_under old.entries name ≡ Some bytes.items) × (length bytes.items ≤ limit)
    × (new ≡ called_shelf old)
IsFetched old name limit (Err shelf.TooLong) new =
    (¬ Contains old.fails old.calls) × IsSomeAnd (bytes_under old.entries name) (λ bytes. limit < length bytes)
    × (new ≡ called_shelf old)
IsFetched old name limit (Err shelf.Failed) new =
    (Contains old.fails old.calls ⊎ (bytes_under old.entries name ≡ None))
    × (new ≡ record (called_shelf old) { faults = next_count old.faults })
IsFetched old name limit (Err shelf.Memory) new =
    (¬ Contains old.fails old.calls) × IsSomeAnd (bytes_under old.entries name) (λ bytes. length bytes ≤ limit)
    × (new ≡ called_shelf old)

-- what a put of a piece answers, and the sink after it
abbrev pub IsPut : FakeSink → List ℕ → Result (Unit {0}) SinkFault → FakeSink → Type 0
IsPut old piece (Ok _) new =
    (¬ Contains old.fails old.calls) × (new ≡ record (called_sink old) { bytes = old.bytes ++ piece })
IsPut old piece (Err sink.Failed) new =
    Contains old.fails old.calls
    × (new ≡ record (called_sink old) { bytes = old.bytes ++ half_of piece; faults = next_count old.faults })
IsPut old piece (Err sink.Memory) new = new ≡ called_sink old
