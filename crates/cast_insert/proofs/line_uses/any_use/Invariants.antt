use Rattle.std.proofs.Common.{◌≡◌, take}
use Rattle.static_types.specs.Members.{all_dyn}
use Rattle.cast_insert.proofs.line_uses.any_use.Given as goal

abbrev pub invariant-loop : goal.invariant-loop
invariant-loop l = l.asks ≡ all_dyn (take l.index l.parts)
