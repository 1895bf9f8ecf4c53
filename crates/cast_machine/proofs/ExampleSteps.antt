-- The example steps are what the definitions compute.
use Rattle.std.proofs.Common.{◌≡◌, ℕ, suc, ◌+◌, true, false, length, nat_lt, refl, arith}
use Rattle.mono_syntax.specs.Limits.{most_items}
use Rattle.mono_syntax.specs.declared.cast.CastScript.{CastScript}
use Rattle.cast_machine.specs.Examples.{AreExampleSteps, CallSteps, EndSteps, LimitSteps, ThreadSteps}

calls : (given : CastScript) → CallSteps given
unfolding Rattle.cast_machine.specs.Step.step_of
calls given = record { call = refl; arity = refl; no_function = refl; arg = refl; arg_blamed = refl; enter = refl; give = refl; fall = refl; fall_without_site = refl; result = refl; result_blamed = refl; leave = refl }

threads : (given : CastScript) → ThreadSteps given
unfolding Rattle.cast_machine.specs.Step.step_of
threads given = record { start = refl; begin = refl; join_waits = refl; join = refl; leave_waits = refl; leave = refl; leave_main = refl; records = refl; records_first = refl }

-- the items of a frame with these values
many : (n : ℕ) → n ≡ 16379 → nat_lt most_items (1 + (2 + (1 + (1 + suc n))) + 0) ≡ true
many n e = grind arith

few : (n : ℕ) → n ≡ 16378 → nat_lt most_items (1 + (2 + (1 + (1 + suc n))) + 0) ≡ false
few n e = grind arith

limits : (given : CastScript) → LimitSteps given
unfolding Rattle.cast_machine.specs.Step.step_of
limits given = record {
  fuel = refl;
  fuel_left = refl;
  new = refl;
  heap = refl;
  print = refl;
  print_full = refl;
  last_thread = refl;
  threads = refl;
  depth_left = λ vs e. rw (few (length vs) e) refl;
  depth = λ vs e. rw (many (length vs) e) refl;
}

ends : (given : CastScript) → EndSteps given
unfolding Rattle.cast_machine.specs.Step.step_of
ends given = record { print = refl; new = refl; enter = refl; begin = refl; loop = refl; join = refl; join_unfinished = refl; leave = refl; forget = refl }

pub example_steps : (given : CastScript) → AreExampleSteps given
example_steps given = record { calls = calls given; threads = threads given; limits = limits given; ends = ends given }
