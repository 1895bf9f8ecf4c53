use Rattle.mono_syntax.specs.Limits.{most_threads}
use Rattle.std.proofs.Common.{◌≡◌, ℕ, ◌+◌, ◌-◌, ◌*◌, ◌∙◌, ap, sym, subst, arith, None}
use Rattle.cast_machine.specs.Step.{Configuration}
use Rattle.cast_machine.specs.computed.Seeded.{picked_at, seeded, seeded_thread}
use Rattle.cast_machine.specs.Typing.{IsWellTyped}
use Rattle.cast_machine.proofs.SeededRuns.{seeded-zero}
use Rattle.cast_calculus.proofs.Seeding.{start_typed, turn_typed, turn_same, ended_by, no_end}
use Rattle.cast_calculus.proofs.config.Config.run_by_seed.Goals as goal

pub loop-turn-init : goal.loop-turn-init
loop-turn-init c =
    let all : most_threads * (c.fuel.result + 2) - 0 ≡ most_threads * (c.fuel.result + 2) = omega arith in
    record {
      typed = start_typed c.args.script.now c.args.self c.requires.program c.requires.starts;
      same = ap (λ (k : ℕ). seeded c.args.script.now k c.args.seed c.args.self) all;
    }

pub loop-turn-preserved : goal.loop-turn-preserved
loop-turn-preserved c =
    let left = most_threads * (c.fuel.result + 2) - (c.loop-turn._turn + 1) in
    let none : c.loop-turn.config.end ≡ None = no_end c.loop-turn.config.end (sym c.has_end.ensures ∙ c.if-has_end.false) in
    record {
      typed = subst (IsWellTyped c.args.script.now) (sym c.in_ok-config.ensures)
          (turn_typed c.args.script.now c.loop-turn.config (seeded_thread c.args.script.now c.loop-turn.config c.next_seed-now.result) c.requires.program c.loop-turn.invariant.typed);
      same = ap (λ (d : Configuration). seeded c.args.script.now left c.next_seed-now.result d) c.in_ok-config.ensures
          ∙ ap (λ (s : ℕ). seeded c.args.script.now left s (picked_at c.args.script.now c.loop-turn.config (seeded_thread c.args.script.now c.loop-turn.config s))) c.next_seed-now.ensures
          ∙ sym (turn_same c.args.script.now (most_threads * (c.fuel.result + 2)) c.loop-turn._turn c.loop-turn.now c.loop-turn.config c.loop-turn-test.true none)
          ∙ c.loop-turn.invariant.same;
    }

pub returns : goal.returns
returns c =
    let over : most_threads * (c.fuel.result + 2) - c.loop-turn._turn ≡ 0 = omega arith in
    ended_by c.args.script.now c.args.self c.args.seed c.loop-turn.config c.requires.program c.requires.starts
    (ap (λ (f : ℕ). seeded c.args.script.now (most_threads * (f + 2)) c.args.seed c.args.self) (sym c.fuel.ensures.value)
    ∙ sym c.loop-turn.invariant.same
    ∙ ap (λ (k : ℕ). seeded c.args.script.now k c.loop-turn.now c.loop-turn.config) over
    ∙ seeded-zero c.args.script.now c.loop-turn.now c.loop-turn.config)
