-- A pick of the calculus, and the run in the order of a seed, by words and by hosts.
use Rattle.std.specs.Prelude.{◌≡◌, ℕ, suc, ◌≤◌, List, None}
use Rattle.mono_syntax.specs.declared.cast.CastScript.{CastScript}
use Rattle.mono_tree.specs.TypedPrograms.{IsTypedProgram}
use Rattle.cast_machine.specs.RunLimits.{HasSmallBlocks}
use Rattle.cast_machine.specs.Step.{picked, start_of}
use Rattle.cast_machine.specs.computed.Seeded.{seeded}
use Rattle.cast_machine.specs.declared.data.Settings.{Settings}
use Rattle.word_machine.specs.Hosts.{hosts_start}
use Rattle.word_machine.specs.StandsFor.{StandsFor}
use Rattle.word_machine.specs.Ticks.{stands, core_start, after_ticks, Core}
use Rattle.word_machine.specs.computed.Ranks.{rank, solo}
use Rattle.word_machine.specs.computed.SeededHosts.{host_seeded}
use Rattle.word_machine.specs.computed.SeededTicks.{word_seeded}

-- A pick of t, while no end is recorded, is what t alone comes to, in any number of ticks above its rank. Where t has no
-- step, its ticks change nothing of what the words stand for.
abbrev pub PicksByWords : Type 0
PicksByWords =
    (p : CastScript) → IsTypedProgram p → HasSmallBlocks p → (s : Settings) (ticks : List ℕ)
    → ((after_ticks p s (core_start p) ticks).words).end ≡ None →
    (t n : ℕ) → rank p (after_ticks p s (core_start p) ticks) t ≤ n → stands s (solo p s (suc n) (after_ticks p s (core_start p) ticks) t)
    ≡ picked p (stands s (after_ticks p s (core_start p) ticks)) t

-- the words come to what the calculus comes to in the order of the seed
abbrev pub SeededByWords : Type 0
SeededByWords =
    (p : CastScript) → IsTypedProgram p → HasSmallBlocks p → (s : Settings) (n seed : ℕ) →
    stands s (word_seeded p s n seed (core_start p)) ≡ seeded p n seed (start_of p s)

-- what the hosts come to stands for what the calculus comes to in the order of the seed
abbrev pub HostsSeeded : Type 0
HostsSeeded =
    (p : CastScript) → IsTypedProgram p → HasSmallBlocks p → (s : Settings) (n seed : ℕ) →
    ((c : Core) × StandsFor p (host_seeded p s n seed hosts_start) c × (stands s c ≡ seeded p n seed (start_of p s)))
    × ((host_seeded p s n seed hosts_start).words.lines ≡ (seeded p n seed (start_of p s)).lines)
    × ((host_seeded p s n seed hosts_start).words.end ≡ (seeded p n seed (start_of p s)).end)
