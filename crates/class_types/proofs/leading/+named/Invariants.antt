use Rattle.std.proofs.Common.{◌≡◌, ◌+◌, ◌*◌, drop}
use Rattle.mono_syntax.specs.Ann.{ann_size, anns_size}
use Rattle.mono_syntax.specs.AnnView.{anns}
use Rattle.class_types.specs.computed.FoundFaults.{found}
use Rattle.class_types.specs.computed.Leading.{word_fault}
use Rattle.script_rules.specs.Recursion.{names_in_all}
use Rattle.class_types.proofs.leading.+named.Given as goal

abbrev pub decreases-named : goal.decreases-named
decreases-named l = 2 * ann_size l.ann.now

abbrev pub decreases-named_all : goal.decreases-named_all
decreases-named_all l = 2 * anns_size (anns l.list.now) + 1

abbrev pub invariant-named_all-loop-ann : goal.invariant-named_all-loop-ann
invariant-named_all-loop-ann l = found (word_fault l.names l.marks) l.so_far (names_in_all (anns (drop l.ann-index l.list))) ≡ found (word_fault l.names l.marks) l.initial.so_far (names_in_all (anns l.list))
