use Rattle.std.proofs.Common.{◌≡◌, ◌≤◌, take}
use Rattle.mono_io.specs.Faults.{appended}
use Rattle.mono_cli.specs.Texts.{rendered}
use Rattle.mono_cli.proofs.render.put_lines.Given as goal

abbrev pub invariant-loop-line : goal.invariant-loop-line
invariant-loop-line g l = record {
  put : g.K.Sink.told l.out ≡ appended (g.K.Sink.told l.fn.out) (rendered l.items (take l.line-index l.lines));
  counts : g.K.Sink.faults l.fn.out ≤ g.K.Sink.faults l.out;
}
