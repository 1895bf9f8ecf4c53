use Rattle.std.proofs.Common.{◌≡◌, ◌+◌, ◌*◌, drop}
use Rattle.std.specs.Prelude.{None}
use Rattle.std.specs.Option.{option_map}
use Rattle.mono_syntax.specs.Ann.{ann_size, anns_size}
use Rattle.mono_syntax.specs.AnnView.{anns}
use Rattle.class_types.specs.computed.Made.{look, types_by}
use Rattle.class_types.proofs.MadeTurns.{append}
use Rattle.class_types.proofs.made.+made.Given as goal

abbrev pub decreases-type_made : goal.decreases-type_made
decreases-type_made l = 2 * ann_size l.ann.now

abbrev pub decreases-types_made : goal.decreases-types_made
decreases-types_made l = 2 * anns_size (anns l.list.now) + 1

-- what is made so far before what is left to make is all
abbrev pub invariant-types_made-loop-ann : goal.invariant-types_made-loop-ann
invariant-types_made-loop-ann l =
    let named = look l.names l.own None in
    option_map (append l.made) (types_by named (anns (drop l.ann-index l.list))) ≡ types_by named (anns l.list)
