use Rattle.mono_io.proofs.PutLemmas.{puts_then}
use Rattle.mono_cli.proofs.render.put_ended.Goals as goal

pub returns-in-Ok : goal.returns-in-Ok
returns-in-Ok g c =
    puts_then c.put_piece.result _ (g.K.Sink.told c.put_value.new.out) _ _ (g.K.Sink.faults c.put_value.new.out) _ _ _
    c.in-Ok.ensures.0 c.in-Ok.ensures.1 c.put_piece.ensures.puts
