use Rattle.std.proofs.Common.{◌≡◌, take}
use Rattle.known_names.specs.computed.Annotations.{known_fields}
use Rattle.known_names.proofs.annotations.known_fields.Given as goal

abbrev pub invariant-loop-field : goal.invariant-loop-field
invariant-loop-field l = l.known ≡ known_fields l.classes (take l.field-index l.fields)
