use Rattle.std.proofs.Common.{◌≡◌, ◌++◌, map, drop}
use Rattle.load_script.proofs.numbers.class_types.Given as goal

abbrev pub invariant-loop-class : goal.invariant-loop-class
invariant-loop-class l = l.own ++ map (λ c. c.ty) (drop l.class-index l.classes) ≡ map (λ c. c.ty) l.classes
