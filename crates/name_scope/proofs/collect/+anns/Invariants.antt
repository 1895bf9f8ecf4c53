use Rattle.std.proofs.Common.{◌≡◌, ◌+◌, ◌*◌, ◌++◌, drop}
use Rattle.mono_syntax.specs.Ann.{ann_size, anns_size}
use Rattle.mono_syntax.specs.AnnView.{anns}
use Rattle.script_rules.specs.Occurrences.{in_anns}
use Rattle.name_scope.proofs.collect.+anns.Given as goal

abbrev pub decreases-put_ann : goal.decreases-put_ann
decreases-put_ann l = 2 * ann_size l.a.now

abbrev pub decreases-put_anns : goal.decreases-put_anns
decreases-put_anns l = 2 * anns_size (anns l.all.now) + 1

-- what is put, and what is left behind it
abbrev pub invariant-put_anns-loop-a : goal.invariant-put_anns-loop-a
invariant-put_anns-loop-a l = l.list ++ in_anns (anns (drop l.a-index l.all)) ≡ l.initial.list ++ in_anns (anns l.all)
