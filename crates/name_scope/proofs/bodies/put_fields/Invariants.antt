use Rattle.std.proofs.Common.{◌≡◌, ◌++◌, drop}
use Rattle.std.specs.Prelude.{flat_map}
use Rattle.script_rules.specs.Occurrences.{in_field}
use Rattle.name_scope.proofs.bodies.put_fields.Given as goal

-- what is put, and what is left behind it
abbrev pub invariant-loop-f : goal.invariant-loop-f
invariant-loop-f l = l.list ++ flat_map in_field (drop l.f-index l.fields) ≡ l.initial.list ++ flat_map in_field l.fields
