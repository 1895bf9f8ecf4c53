use Rattle.std.proofs.Common.{◌≡◌, ◌-◌}
use Rattle.cast_machine.specs.computed.Seeded.{seeded}
use Rattle.cast_machine.specs.Typing.{IsWellTyped}
use Rattle.cast_calculus.proofs.config.Config.run_by_seed.Given as goal

abbrev pub invariant-loop-turn : goal.invariant-loop-turn
invariant-loop-turn l = record {
  typed : IsWellTyped l.script l.config;
  same : seeded l.script (l.turns - l._turn) l.now l.config ≡ seeded l.script l.turns l.fn.seed l.fn.self;
}
