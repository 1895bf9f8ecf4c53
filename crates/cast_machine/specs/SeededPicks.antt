-- The picks of the seed's order, as a list of thread numbers.
use Rattle.std.specs.Prelude.{ℕ, zero, suc, List, [], ◌∷◌, Option, Some, None, is_some, if◌then◌else◌}
use Rattle.mono_syntax.specs.declared.cast.CastScript.{CastScript}
use Rattle.cast_machine.specs.Step.{Configuration, next_seed, picked}
use Rattle.cast_machine.specs.computed.Seeded.{seeded_thread}

-- a thread is picked where there is one, and then others
abbrev pub picks_then : CastScript → Configuration → (Configuration → List ℕ) → Option ℕ → List ℕ
picks_then p c rest None = rest c
picks_then p c rest (Some t) = t ∷ rest (picked p c t)

-- the first n picks by the seeds that follow s, or fewer where an end is recorded
unfoldable pub seeded_picks : CastScript → ℕ → ℕ → Configuration → List ℕ
seeded_picks p zero s c = []
seeded_picks p (suc n) s c = if is_some c.end then [] else picks_then p c (seeded_picks p n (next_seed s)) (seeded_thread p c (next_seed s))
