use Rattle.std.proofs.Common.{◌≡◌, ◌+◌, ◌*◌, ◌++◌, map, drop}
use Rattle.mono_syntax.specs.Stmt.{stmt_size, block_size, branches_size, else_size}
use Rattle.mono_syntax.specs.StmtView.{block, branches, else_block}
use Rattle.script_rules.specs.SourceParts.{block_bound, branch_bound}
use Rattle.class_types.proofs.block.+bound.Given as goal

abbrev pub decreases-bound : goal.decreases-bound
decreases-bound l = 3 * stmt_size l.s.now

abbrev pub decreases-bound_in_block : goal.decreases-bound_in_block
decreases-bound_in_block l = 3 * block_size (block l.list.now) + 1

abbrev pub decreases-bound_in_branches : goal.decreases-bound_in_branches
decreases-bound_in_branches l = 3 * branches_size (branches l.list.now) + 2

abbrev pub decreases-bound_in_else : goal.decreases-bound_in_else
decreases-bound_in_else l = 3 * else_size (else_block l.last.now) + 2

abbrev pub invariant-bound_in_block-loop-s : goal.invariant-bound_in_block-loop-s
invariant-bound_in_block-loop-s l = map (λ w. w.now) l.words.items ++ block_bound (block (drop l.s-index l.list)) ≡ map (λ w. w.now) l.initial.words.items ++ block_bound (block l.list)

abbrev pub invariant-bound_in_branches-loop-branch : goal.invariant-bound_in_branches-loop-branch
invariant-bound_in_branches-loop-branch l = map (λ w. w.now) l.words.items ++ branch_bound (branches (drop l.branch-index l.list)) ≡ map (λ w. w.now) l.initial.words.items ++ branch_bound (branches l.list)
