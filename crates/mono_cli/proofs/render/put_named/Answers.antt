use Rattle.mono_io.proofs.PutLemmas.{puts_then}
use Rattle.mono_cli.proofs.render.put_named.Goals as goal

pub returns-in-Ok : goal.returns-in-Ok
returns-in-Ok g c =
    let a = rw c.as_bytes.ensures.value at c.in-Ok.ensures in
    let b = rw c.as_bytes-in-Ok.ensures.value at c.put_piece.ensures.puts in
    puts_then c.put_piece.result _ (g.K.Sink.told c.put_two.new.out) _ _ (g.K.Sink.faults c.put_two.new.out) _ _ _ a.0 a.1 b
