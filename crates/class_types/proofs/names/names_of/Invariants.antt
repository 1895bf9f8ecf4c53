use Rattle.std.proofs.Common.{◌≡◌, ◌++◌, map, drop}
use Rattle.class_types.specs.computed.Made.{names_of_classes}
use Rattle.class_types.proofs.names.names_of.Given as goal

abbrev pub invariant-loop-class : goal.invariant-loop-class
invariant-loop-class l = l.names ++ names_of_classes (map (λ d. d.now) (drop l.class-index l.classes)) ≡ names_of_classes (map (λ d. d.now) l.classes)
