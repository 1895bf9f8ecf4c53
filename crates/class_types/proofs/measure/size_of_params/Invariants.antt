use Rattle.std.proofs.Common.{◌≡◌, drop}
use Rattle.class_types.specs.computed.Made.{look}
use Rattle.mono_tree.specs.computed.CountedSizes.{nothing}
use Rattle.class_types.specs.computed.Measured.{params_onto}
use Rattle.class_types.proofs.measure.size_of_params.Given as goal

abbrev pub invariant-loop-param : goal.invariant-loop-param
invariant-loop-param l =
    let named = look l.names l.own l.stray in
    params_onto named l.parts (drop l.param-index l.params) ≡ params_onto named nothing l.params
