use Rattle.std.proofs.Common.{◌≡◌, drop}
use Rattle.std.specs.Prelude.{None}
use Rattle.std.specs.Option.{option_map}
use Rattle.class_types.specs.computed.Made.{look, params_by}
use Rattle.class_types.proofs.MadeTurns.{append}
use Rattle.class_types.proofs.made.params_made.Given as goal

-- what is made so far before what is left to make is all
abbrev pub invariant-loop-param : goal.invariant-loop-param
invariant-loop-param l =
    let named = look l.names l.own None in
    option_map (append l.made) (params_by named (drop l.param-index l.params)) ≡ params_by named l.params
