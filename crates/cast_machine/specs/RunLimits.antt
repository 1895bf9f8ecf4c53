-- The limits of a run: how many threads, cells, print words, steps and items there are at most.
use Rattle.std.specs.Prelude.{◌≡◌, ◌⊎◌, ℕ, ◌≤◌, ◌<◌, length, Some, slice_get}
use Rattle.mono_syntax.specs.Limits.{most_threads, most_items, most_names}
use Rattle.mono_syntax.specs.declared.cast.CastBlock.{CastBlock}
use Rattle.mono_syntax.specs.declared.cast.CastFunction.{CastFunction}
use Rattle.mono_syntax.specs.declared.cast.CastScript.{CastScript}
use Rattle.cast_machine.specs.declared.data.State.{State}
use Rattle.cast_machine.specs.declared.data.State.TheVariants as state
use Rattle.cast_machine.specs.declared.data.Thread.{Thread}
use Rattle.cast_machine.specs.Heap.{heap_size}
use Rattle.cast_machine.specs.Calls.{words_of}
use Rattle.cast_machine.specs.Step.{Configuration, items_of}

-- a running thread has fuel left
abbrev pub IsFueledIn : ℕ → ℕ → State → Type 0
IsFueledIn fuel steps (state.Running f below) = steps < fuel
IsFueledIn fuel steps s = Unit {0}

-- a block names at most 4,096 values, and as many threads
abbrev pub IsSmallBlock : CastBlock → Type 0
IsSmallBlock b = (length b.names ≤ most_names) × (length b.threads ≤ most_names)

pub record HasSmallBlocks (p : CastScript) : Type 0 where
  pub functions : (g : ℕ) (d : CastFunction) → slice_get p.functions g ≡ Some d → IsSmallBlock d.block
  pub main : IsSmallBlock p.main

-- a thread has taken at most as many steps as the setting, fewer while it runs, and once it has taken one, or where the
-- script's blocks are small from its beginning, it has at most as many items as the limit
pub record IsThreadWithin (p : CastScript) (fuel : ℕ) (th : Thread) : Type 0 where
  pub steps : th.steps ≤ fuel
  pub fuel_left : IsFueledIn fuel th.steps th.state
  pub items : (1 ≤ th.steps) ⊎ HasSmallBlocks p → items_of th.state ≤ most_items

-- the threads made are at most 256, the cells drawn at most the setting, and the print words drawn too
pub record IsWithinLimits (p : CastScript) (c : Configuration) : Type 0 where
  pub threads : length c.threads ≤ most_threads
  pub heap : heap_size c.heap ≤ c.settings.heap
  pub print : words_of c.lines ≤ c.settings.print
  pub each : (t : ℕ) (th : Thread) → slice_get c.threads t ≡ Some th → IsThreadWithin p c.settings.fuel th
