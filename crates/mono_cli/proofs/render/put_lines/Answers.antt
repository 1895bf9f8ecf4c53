use Rattle.std.proofs.Common.{◌+◌, drop, Err}
use Rattle.mono_io.proofs.PutLemmas.{puts_then, puts_stopped}
use Rattle.mono_cli.specs.Texts.{line_text, rendered}
use Rattle.mono_cli.proofs.Lines.{lines_at}
use Rattle.mono_cli.proofs.render.put_lines.Goals as goal

pub returns-in-Err : goal.returns-in-Err
returns-in-Err g c =
    let l = c.line-item.result in
    let here = lines_at c.args.items.now c.args.lines.now c.loop-line.line-index l c.loop-line-test.true c.line-item.is in
    let e = rw c.as_slice.ensures at c.in-Err.ensures in
    let j = c.loop-line.invariant in
    rw (← here)
    (puts_then (Err c.in-Err.fault) _ (g.K.Sink.told c.loop-line.out) _ _ (g.K.Sink.faults c.loop-line.out) _ _ _ j.put j.counts
    (puts_stopped c.in-Err.fault _ _ _ _ (line_text c.args.items.now l) (rendered c.args.items.now (drop (c.loop-line.line-index + 1) c.args.lines.now)) e))
