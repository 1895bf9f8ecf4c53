use Rattle.mono_io.proofs.PutLemmas.{puts_then}
use Rattle.mono_cli.proofs.render.put_two.Goals as goal

pub returns-in-Ok : goal.returns-in-Ok
returns-in-Ok g c =
    puts_then c.put_piece-in-Ok.result _ (g.K.Sink.told c.put_piece.new.out) _ _ (g.K.Sink.faults c.put_piece.new.out) _ _ _
    c.in-Ok.ensures.puts.0 c.in-Ok.ensures.puts.1 c.put_piece-in-Ok.ensures.puts
