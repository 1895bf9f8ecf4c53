-- Each part has fewer nodes than the whole.
use Rattle.std.specs.Prelude.{◌+◌, ◌≤◌, max, List, [], ◌∷◌, Some, None}
use Rattle.std.proofs.Common.{arith}
use denote.Param.Weighed.{most}
use Rattle.mono_syntax.specs.declared.tree.Branch as rust_branch
use Rattle.mono_syntax.specs.declared.tree.StmtKind as rust_stmt
use Rattle.mono_syntax.specs.declared.tree.StmtKind.TheVariants as stmt_kind
use Rattle.mono_syntax.specs.declared.tree.Stmt.TheDeep.{deep-Branch, deep-StmtKind}
use Rattle.mono_syntax.specs.Stmt.{Stmt, block_size, branches_size, stmt_size}
use Rattle.mono_syntax.specs.StmtView.{block, branches, stmt_of}

most_le-block_size : (xs : List Stmt) → most (λ t. stmt_size t + 1) xs ≤ block_size (block xs) + 1
most_le-block_size [] = omega arith
most_le-block_size (x ∷ xs) = omega (arith, most_le-block_size xs)

most_le-branches_size : (xs : List rust_branch.Branch) → most deep-Branch xs ≤ branches_size (branches xs)
most_le-branches_size [] = omega arith
most_le-branches_size (x ∷ xs) = omega (arith, most_le-block_size x.body, most_le-branches_size xs)

pub deep_le-stmt : (k : rust_stmt.StmtKind) → max (deep-StmtKind k) 0 ≤ stmt_size (stmt_of k)
deep_le-stmt stmt_kind.Pass = omega arith
deep_le-stmt (stmt_kind.Return a b) = omega arith
deep_le-stmt (stmt_kind.Print a b) = omega arith
deep_le-stmt (stmt_kind.Assign a b c) = omega arith
deep_le-stmt (stmt_kind.Write a b c) = omega arith
deep_le-stmt (stmt_kind.Start a b c d) = omega arith
deep_le-stmt (stmt_kind.Plain a) = omega arith
deep_le-stmt (stmt_kind.If a None) = omega (arith, most_le-branches_size a)
deep_le-stmt (stmt_kind.If a (Some b)) = omega (arith, most_le-branches_size a, most_le-block_size b)
deep_le-stmt (stmt_kind.While a b) = omega (arith, most_le-block_size b)
