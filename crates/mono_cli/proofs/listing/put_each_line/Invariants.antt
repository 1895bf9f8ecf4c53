use Rattle.std.proofs.Common.{◌≡◌, ◌≤◌, ◌-◌, length, take}
use Rattle.mono_io.specs.Faults.{appended}
use Rattle.mono_cli.proofs.listing.put_each_line.Given as goal

-- the text up to here is put
abbrev pub invariant-loop-at : goal.invariant-loop-at
invariant-loop-at g l = record {
  within : l.at ≤ length l.text;
  put : g.K.Sink.told l.out ≡ appended (g.K.Sink.told l.fn.out) (take l.at l.text);
  counts : g.K.Sink.faults l.fn.out ≤ g.K.Sink.faults l.out;
}

abbrev pub decreases-loop-at : goal.decreases-loop-at
decreases-loop-at g l = length l.text - l.at
