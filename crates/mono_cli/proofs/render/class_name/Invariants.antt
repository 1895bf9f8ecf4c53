use Rattle.std.proofs.Common.{◌≡◌, drop}
use Rattle.mono_cli.specs.Texts.{class_name}
use Rattle.mono_cli.proofs.render.class_name.Given as goal

abbrev pub invariant-loop-item : goal.invariant-loop-item
invariant-loop-item l = class_name (drop l.item-index l.items) l.left ≡ class_name l.items l.number
