use Rattle.std.proofs.Common.{◌≡◌, ◌+◌, ◌*◌, drop}
use Rattle.mono_syntax.specs.Ann.{ann_size, anns_size}
use Rattle.mono_syntax.specs.AnnView.{anns}
use Rattle.class_types.specs.computed.Made.{look}
use Rattle.mono_tree.specs.computed.CountedSizes.{nothing}
use Rattle.class_types.specs.computed.Measured.{sizes_onto}
use Rattle.class_types.proofs.measure.+measure.Given as goal

abbrev pub decreases-size_of : goal.decreases-size_of
decreases-size_of l = 2 * ann_size l.ann.now

abbrev pub decreases-sizes_of : goal.decreases-sizes_of
decreases-sizes_of l = 2 * anns_size (anns l.list.now) + 1

abbrev pub invariant-sizes_of-loop-ann : goal.invariant-sizes_of-loop-ann
invariant-sizes_of-loop-ann l =
    let named = look l.names l.own l.stray in
    sizes_onto named l.parts (anns (drop l.ann-index l.list)) ≡ sizes_onto named nothing (anns l.list)
