use Rattle.std.proofs.Common.{◌≡◌, drop}
use Rattle.mono_cli.specs.Texts.{function_name}
use Rattle.mono_cli.proofs.render.function_name.Given as goal

abbrev pub invariant-loop-item : goal.invariant-loop-item
invariant-loop-item l = function_name (drop l.item-index l.items) l.left ≡ function_name l.items l.number
