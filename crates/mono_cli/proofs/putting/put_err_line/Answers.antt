use Rattle.std.proofs.Common.{refl, sym}
use Rattle.mono_io.proofs.PutLemmas.{appended-nil, none_is_part}
use Rattle.mono_cli.specs.Putting.{whole, err_failed, no_memory}
use Rattle.mono_cli.proofs.putting.put_err_line.Goals as goal

pub returns-in-Ok : goal.returns-in-Ok
returns-in-Ok g c =
    let p = rw c.as_bytes.ensures.value at c.in-Ok.ensures.puts in
    whole (sym (appended-nil _)) p.0

pub returns-in-Err-Failed : goal.returns-in-Err-Failed
returns-in-Err-Failed g c =
    let p = rw (c.in-Err-Failed.field-0-is, c.as_bytes.ensures.value) at c.in-Err-Failed.ensures.puts in
    err_failed (sym (appended-nil _)) p.0 p.2

pub returns-in-Err-Memory : goal.returns-in-Err-Memory
returns-in-Err-Memory g c =
    let q = rw c.in-Err-Memory.field-0-is at c.in-Err-Memory.ensures.memory in
    no_memory (none_is_part _ _ _ refl) (q refl)
