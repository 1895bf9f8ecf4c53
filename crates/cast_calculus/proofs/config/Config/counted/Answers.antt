use Rattle.std.proofs.Common.{◌≡◌, ◌+◌, ◌∙◌, ap, subst, sym}
use Rattle.cast_machine.specs.declared.data.Settings.{Settings}
use Rattle.cast_machine.specs.Step.{fueled}
use Rattle.cast_machine.specs.declared.data.State.{State}
use Rattle.cast_machine.specs.RunLimits.{IsFueledIn}
use Rattle.cast_calculus.proofs.FueledLists.{changed_room, changed_fueled}
use Rattle.cast_calculus.proofs.config.Config.counted.Goals as goal

pub placed-requires-2-clause-within : goal.placed-requires-2-clause-within
placed-requires-2-clause-within c = changed_room c.args.change c.args.self c.in_ok-changed.changed c.args.t c.in_ok-changed.ensures c.requires.within

pub placed-requires-2-clause-fueled : goal.placed-requires-2-clause-fueled
placed-requires-2-clause-fueled c =
    let same : c.self.inside.settings ≡ c.args.self.settings = cc in
    let state : c.fueled-state.result ≡ fueled c.args.self.settings.fuel (c.args.steps + 1) c.args.state =
    c.fueled-state.ensures ∙ ap (λ (s : Settings). fueled s.fuel (c.args.steps + 1) c.args.state) same in
    subst (λ (q : State). IsFueledIn c.in_ok-changed.changed.settings.fuel (c.args.steps + 1) q) (sym state)
    (changed_fueled c.args.change c.args.self c.in_ok-changed.changed (c.args.steps + 1) c.args.state c.in_ok-changed.ensures)
