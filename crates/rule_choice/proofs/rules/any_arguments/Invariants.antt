use Rattle.std.proofs.Common.{◌≡◌, ◌∷◌, take}
use Rattle.mono_syntax.specs.Ty.{dyn}
use Rattle.static_types.specs.Members.{all_dyn}
use Rattle.rule_choice.proofs.rules.any_arguments.Given as goal

abbrev pub invariant-loop : goal.invariant-loop
invariant-loop l = l.asks ≡ dyn ∷ all_dyn (take l.index l.parts)
