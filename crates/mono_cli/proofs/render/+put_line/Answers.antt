use Rattle.std.proofs.Common.{length, arith, sym, ◌∙◌}
use Rattle.std.proofs.lemmas.Bool.{eqb-false}
use Rattle.mono_io.proofs.PutLemmas.{puts_then, puts_stopped}
use Rattle.mono_cli.specs.Texts.{line_text}
use Rattle.mono_cli.proofs.Lines.{line_more}
use Rattle.mono_cli.proofs.render.+put_line.Goals as goal

pub returns-in-Ok : goal.returns-in-Ok
returns-in-Ok g t c =
    let some = eqb-false (length c.in-Some.rest.now) 0 (sym c.is_empty.ensures ∙ c.if-is_empty.false) in
    let more = line_more c.args.items.now c.args.line.now c.in-Some.value.now c.in-Some.rest.now c.in-Some.ensures.cases.0 (omega (arith, some)) in
    let a = rw c.as_bytes-2.ensures.value at c.in-Ok.ensures in
    rw (← more) (puts_then c.put_line.result _ (g.K.Sink.told c.put_ended-2.new.out) _ _ (g.K.Sink.faults c.put_ended-2.new.out) _ _ _ a.0 a.1 c.put_line.ensures)

pub returns-in-Err : goal.returns-in-Err
returns-in-Err g t c =
    let some = eqb-false (length c.in-Some.rest.now) 0 (sym c.is_empty.ensures ∙ c.if-is_empty.false) in
    let more = line_more c.args.items.now c.args.line.now c.in-Some.value.now c.in-Some.rest.now c.in-Some.ensures.cases.0 (omega (arith, some)) in
    let a = rw c.as_bytes-2.ensures.value at c.in-Err.ensures in
    rw (← more) (puts_stopped c.in-Err.fault _ _ _ _ _ (line_text c.args.items.now c.in-Some.rest.now) a)
