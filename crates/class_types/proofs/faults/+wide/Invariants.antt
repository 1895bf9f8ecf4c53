use Rattle.std.proofs.Common.{◌≡◌, ◌+◌, ◌*◌, drop}
use Rattle.mono_syntax.specs.Ann.{ann_size, anns_size}
use Rattle.mono_syntax.specs.AnnView.{anns}
use Rattle.class_types.specs.computed.FoundFaults.{found, wide}
use Rattle.script_rules.specs.SourceParts.{callables_all}
use Rattle.class_types.proofs.faults.+wide.Given as goal

abbrev pub decreases-wide : goal.decreases-wide
decreases-wide l = 2 * ann_size l.ann.now

abbrev pub decreases-wide_all : goal.decreases-wide_all
decreases-wide_all l = 2 * anns_size (anns l.list.now) + 1

abbrev pub invariant-wide_all-loop-ann : goal.invariant-wide_all-loop-ann
invariant-wide_all-loop-ann l = found wide l.so_far (callables_all (anns (drop l.ann-index l.list))) ≡ found wide l.initial.so_far (callables_all (anns l.list))
