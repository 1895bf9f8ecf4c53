use Rattle.std.proofs.Common.{take}
use Rattle.program_code.specs.SameScript.{AddsFunctions}
use Rattle.program_code.proofs.functions.number_functions.Given as goal

abbrev pub invariant-loop-function : goal.invariant-loop-function
invariant-loop-function l =
    AddsFunctions l.fn.pool (take l.function-index l.functions) (record { functions = l.codes; pool = l.pool })
