use Rattle.std.proofs.Common.{refl}
use Rattle.mono_io.proofs.PutLemmas.{whole_is_part}
use Rattle.mono_cli.specs.Putting.{whole, out_failed, err_failed, no_memory}
use Rattle.mono_cli.proofs.putting.put_run.Goals as goal

pub returns-in-Err-Failed : goal.returns-in-Err-Failed
returns-in-Err-Failed g c = let p = rw c.in-Err-Failed.field-0-is at c.in-Err-Failed.ensures in out_failed p.0 p.2 refl

pub returns-in-Err-Memory : goal.returns-in-Err-Memory
returns-in-Err-Memory g c = let p = rw c.in-Err-Memory.field-0-is at c.in-Err-Memory.ensures in no_memory p.0 refl

pub returns-in-Ok-put_end_line : goal.returns-in-Ok-put_end_line
returns-in-Ok-put_end_line g c = whole c.in-Ok.ensures.0 c.in-Ok-put_end_line.ensures.puts.0

pub returns-in-Err-Failed-put_end_line : goal.returns-in-Err-Failed-put_end_line
returns-in-Err-Failed-put_end_line g c =
    let q = rw c.in-Err-Failed-put_end_line.field-0-is at c.in-Err-Failed-put_end_line.ensures.puts in
    err_failed c.in-Ok.ensures.0 q.0 q.2

pub returns-in-Err-Memory-put_end_line : goal.returns-in-Err-Memory-put_end_line
returns-in-Err-Memory-put_end_line g c =
    let q = rw c.in-Err-Memory-put_end_line.field-0-is at c.in-Err-Memory-put_end_line.ensures.memory in
    no_memory (whole_is_part _ _ _ c.in-Ok.ensures.0) (q refl)
