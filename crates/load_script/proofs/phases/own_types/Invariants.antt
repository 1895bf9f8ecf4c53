use Rattle.std.proofs.Common.{◌≡◌, take}
use Rattle.load_script.proofs.phases.own_types.Given as goal

abbrev pub invariant-loop-ty : goal.invariant-loop-ty
invariant-loop-ty l = l.own ≡ take l.ty-index l.types
