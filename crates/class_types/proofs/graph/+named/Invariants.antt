use Rattle.std.proofs.Common.{◌≡◌, ◌+◌, ◌*◌, ◌++◌, map, drop}
use Rattle.mono_syntax.specs.Ann.{ann_size, anns_size}
use Rattle.mono_syntax.specs.AnnView.{anns}
use Rattle.script_rules.specs.Recursion.{names_in_all}
use Rattle.class_types.proofs.graph.+named.Given as goal

abbrev pub decreases-named : goal.decreases-named
decreases-named l = 2 * ann_size l.ann.now

abbrev pub decreases-named_all : goal.decreases-named_all
decreases-named_all l = 2 * anns_size (anns l.list.now) + 1

abbrev pub invariant-named_all-loop-ann : goal.invariant-named_all-loop-ann
invariant-named_all-loop-ann l = map (λ w. w.now) l.words.items ++ names_in_all (anns (drop l.ann-index l.list)) ≡ map (λ w. w.now) l.initial.words.items ++ names_in_all (anns l.list)
