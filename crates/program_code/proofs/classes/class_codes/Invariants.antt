use Rattle.std.proofs.Common.{take}
use Rattle.node_code.specs.Places.{Each}
use Rattle.program_code.specs.SameScript.{IsClass}
use Rattle.program_code.proofs.classes.class_codes.Given as goal

abbrev pub invariant-loop-class : goal.invariant-loop-class
invariant-loop-class l = Each IsClass l.codes (take l.class-index l.classes)
