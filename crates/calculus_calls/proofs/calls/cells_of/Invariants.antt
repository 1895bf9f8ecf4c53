use Rattle.std.proofs.Common.{◌≡◌, ◌++◌, drop}
use Rattle.std.specs.Option.{option_map}
use Rattle.mono_syntax.specs.TyView.{fields}
use Rattle.cast_machine.specs.Calls.{cells_of}
use Rattle.calculus_calls.proofs.calls.cells_of.Given as goal

abbrev pub invariant-loop-field : goal.invariant-loop-field
invariant-loop-field l = option_map (λ rest. l.cells ++ rest) (cells_of (fields (drop l.field-index l.members)) l.given) ≡ cells_of (fields l.members) l.given
