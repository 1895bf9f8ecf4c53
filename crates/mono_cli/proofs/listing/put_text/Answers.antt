use Rattle.std.proofs.Common.{refl, sym}
use Rattle.mono_io.proofs.PutLemmas.{appended-nil}
use Rattle.mono_cli.specs.Putting.{whole, out_failed, no_memory}
use Rattle.mono_cli.proofs.listing.put_text.Goals as goal

pub returns-in-Ok : goal.returns-in-Ok
returns-in-Ok g c = λ x e. whole c.in-Ok.ensures.0 (sym (appended-nil x))

pub returns-in-Err-Failed : goal.returns-in-Err-Failed
returns-in-Err-Failed g c = λ x e. let p = rw c.in-Err-Failed.field-0-is at c.in-Err-Failed.ensures in out_failed p.0 p.2 refl

pub returns-in-Err-Memory : goal.returns-in-Err-Memory
returns-in-Err-Memory g c = λ x e. let p = rw c.in-Err-Memory.field-0-is at c.in-Err-Memory.ensures in no_memory p.0 refl
