-- Computed: what the code that runs a script in the order of a seed computes.
use Rattle.std.specs.Prelude.{ℕ, zero, suc, length, Option, Some, None, is_some, if◌then◌else◌, slice_get}
use Rattle.mono_syntax.specs.declared.cast.CastScript.{CastScript}
use Rattle.cast_machine.specs.Step.{Configuration, picked, next_seed, pick, runnable_threads}

-- the thread that a seed picks among the runnable ones
abbrev pub seeded_thread : CastScript → Configuration → ℕ → Option ℕ
seeded_thread p c s = slice_get (runnable_threads p c) (pick s (length (runnable_threads p c)))

abbrev pub picked_at : CastScript → Configuration → Option ℕ → Configuration
picked_at p c None = c
picked_at p c (Some t) = picked p c t

-- n picks by the seeds that follow s, or fewer where an end is recorded
unfoldable pub seeded : CastScript → ℕ → ℕ → Configuration → Configuration
seeded p zero s c = c
seeded p (suc n) s c = if is_some c.end then c else seeded p n (next_seed s) (picked_at p c (seeded_thread p c (next_seed s)))
