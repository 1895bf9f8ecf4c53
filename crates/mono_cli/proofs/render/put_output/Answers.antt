use Rattle.mono_io.proofs.PutLemmas.{puts_then}
use Rattle.mono_cli.proofs.render.put_output.Goals as goal

pub returns-in-Ok : goal.returns-in-Ok
returns-in-Ok g c =
    let q = rw c.as_bytes.ensures.value at c.in-Ok.ensures.puts in
    puts_then c.put_lines.result _ (g.K.Sink.told c.put_piece.new.out) _ _ (g.K.Sink.faults c.put_piece.new.out) _ _ _ q.0 q.1 c.put_lines.ensures
