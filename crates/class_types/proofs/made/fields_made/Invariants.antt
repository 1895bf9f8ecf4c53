use Rattle.std.proofs.Common.{◌≡◌, drop}
use Rattle.std.specs.Prelude.{None}
use Rattle.std.specs.Option.{option_map}
use Rattle.class_types.specs.computed.Made.{look, fields_by}
use Rattle.class_types.proofs.MadeTurns.{append_fields}
use Rattle.class_types.proofs.made.fields_made.Given as goal

-- what is made so far before what is left to make is all
abbrev pub invariant-loop-field : goal.invariant-loop-field
invariant-loop-field l =
    let named = look l.names l.own None in
    option_map (append_fields l.made) (fields_by named (drop l.field-index l.list)) ≡ fields_by named l.list
