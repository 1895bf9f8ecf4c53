use Rattle.std.proofs.Common.{◌≡◌, ◌+◌, ◌*◌, ◌++◌, drop}
use Rattle.std.specs.Prelude.{map}
use Rattle.mono_syntax.specs.Stmt.{stmt_size, block_size, branches_size, else_size}
use Rattle.mono_syntax.specs.StmtView.{block, branches, else_block}
use Rattle.script_rules.specs.BlockNames.{block_targets, branch_targets, block_starts, branch_starts}
use Rattle.name_scope.specs.computed.Bound.{target_of, text_of}
use Rattle.name_scope.proofs.bound.+bound.Given as goal

abbrev pub decreases-put_bound : goal.decreases-put_bound
decreases-put_bound l = 3 * stmt_size l.s.now

abbrev pub decreases-put_bound_block : goal.decreases-put_bound_block
decreases-put_bound_block l = 3 * block_size (block l.body.now) + 1

abbrev pub decreases-put_bound_branches : goal.decreases-put_bound_branches
decreases-put_bound_branches l = 3 * branches_size (branches l.all.now) + 2

abbrev pub decreases-put_bound_else : goal.decreases-put_bound_else
decreases-put_bound_else l = 3 * else_size (else_block l.last.now) + 2

-- what is put, and what is left behind it
abbrev pub invariant-put_bound_block-loop-s : goal.invariant-put_bound_block-loop-s
invariant-put_bound_block-loop-s l = record {
  targets : map target_of l.list.targets.items ++ block_targets (block (drop l.s-index l.body)) ≡ map target_of l.initial.list.targets.items ++ block_targets (block l.body);
  threads : l.list.threads ++ map text_of (block_starts (block (drop l.s-index l.body))) ≡ l.initial.list.threads ++ map text_of (block_starts (block l.body));
}

abbrev pub invariant-put_bound_branches-loop-branch : goal.invariant-put_bound_branches-loop-branch
invariant-put_bound_branches-loop-branch l = record {
  targets : map target_of l.list.targets.items ++ branch_targets (branches (drop l.branch-index l.all)) ≡ map target_of l.initial.list.targets.items ++ branch_targets (branches l.all);
  threads : l.list.threads ++ map text_of (branch_starts (branches (drop l.branch-index l.all))) ≡ l.initial.list.threads ++ map text_of (branch_starts (branches l.all));
}
