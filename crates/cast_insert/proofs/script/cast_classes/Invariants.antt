use Rattle.std.proofs.Common.{◌≡◌, take, map}
use Rattle.cast_insert.specs.computed.Scripted.{class_of}
use Rattle.cast_insert.proofs.script.cast_classes.Given as goal

abbrev pub invariant-loop-class : goal.invariant-loop-class
invariant-loop-class l = l.all ≡ map class_of (take l.class-index l.classes)
