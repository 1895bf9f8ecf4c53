use Rattle.std.proofs.Common.{◌≡◌, drop}
use Rattle.mono_syntax.specs.TyView.{fields}
use Rattle.static_types.specs.Members.{field_type}
use Rattle.known_names.proofs.known.field_of.Given as goal

abbrev pub invariant-loop-member : goal.invariant-loop-member
invariant-loop-member l = field_type (fields (drop l.member-index l.members)) l.name ≡ field_type (fields l.members) l.name
