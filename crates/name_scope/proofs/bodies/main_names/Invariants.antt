use Rattle.std.proofs.Common.{◌≡◌, ◌++◌, drop}
use Rattle.mono_syntax.specs.StmtView.{block}
use Rattle.script_rules.specs.Definitions.{statements_of}
use Rattle.script_rules.specs.Occurrences.{in_block}
use Rattle.name_scope.proofs.bodies.main_names.Given as goal

-- what is put, and what is left behind it
abbrev pub invariant-loop-item : goal.invariant-loop-item
invariant-loop-item l = l.list ++ in_block (block (statements_of (drop l.item-index l.items))) ≡ in_block (block (statements_of l.items))
