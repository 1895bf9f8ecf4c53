use Rattle.std.proofs.Common.{◌≡◌, ◌∷◌, take}
use Rattle.mono_syntax.specs.Ty.{dyn}
use Rattle.rule_choice.proofs.rules.parameters.Given as goal

abbrev pub invariant-loop-param : goal.invariant-loop-param
invariant-loop-param l = l.asks ≡ dyn ∷ take l.param-index l.params
