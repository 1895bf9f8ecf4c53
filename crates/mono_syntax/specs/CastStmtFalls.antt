-- Each part has fewer nodes than the whole.
use Rattle.std.specs.Prelude.{◌+◌, ◌≤◌, max, List, [], ◌∷◌, Some, None}
use Rattle.std.proofs.Common.{arith}
use denote.Param.Weighed.{most}
use Rattle.mono_syntax.specs.declared.cast.CastBranch as rust_cast_branch
use Rattle.mono_syntax.specs.declared.cast.CastStmtKind as rust_cast_stmt
use Rattle.mono_syntax.specs.declared.cast.CastStmtKind.TheVariants as cast_stmt_kind
use Rattle.mono_syntax.specs.declared.cast.CastStmt.TheDeep.{deep-CastBranch, deep-CastStmtKind}
use Rattle.mono_syntax.specs.CastStmt.{CastStmt, cast_block_size, cast_branches_size, cast_stmt_size}
use Rattle.mono_syntax.specs.CastStmtView.{cast_block, cast_branches, cast_stmt_of}

most_le-cast_block_size : (xs : List CastStmt) → most (λ t. cast_stmt_size t + 1) xs ≤ cast_block_size (cast_block xs) + 1
most_le-cast_block_size [] = omega arith
most_le-cast_block_size (x ∷ xs) = omega (arith, most_le-cast_block_size xs)

most_le-cast_branches_size : (xs : List rust_cast_branch.CastBranch) → most deep-CastBranch xs ≤ cast_branches_size (cast_branches xs)
most_le-cast_branches_size [] = omega arith
most_le-cast_branches_size (x ∷ xs) = omega (arith, most_le-cast_block_size x.body, most_le-cast_branches_size xs)

pub deep_le-cast_stmt : (k : rust_cast_stmt.CastStmtKind) → max (deep-CastStmtKind k) 0 ≤ cast_stmt_size (cast_stmt_of k)
deep_le-cast_stmt cast_stmt_kind.Pass = omega arith
deep_le-cast_stmt (cast_stmt_kind.Return a b) = omega arith
deep_le-cast_stmt (cast_stmt_kind.Print a) = omega arith
deep_le-cast_stmt (cast_stmt_kind.Assign a b) = omega arith
deep_le-cast_stmt (cast_stmt_kind.Write a b c d e f) = omega arith
deep_le-cast_stmt (cast_stmt_kind.Start a b c d) = omega arith
deep_le-cast_stmt (cast_stmt_kind.Plain a) = omega arith
deep_le-cast_stmt (cast_stmt_kind.If a None) = omega (arith, most_le-cast_branches_size a)
deep_le-cast_stmt (cast_stmt_kind.If a (Some b)) = omega (arith, most_le-cast_branches_size a, most_le-cast_block_size b)
deep_le-cast_stmt (cast_stmt_kind.While a b) = omega (arith, most_le-cast_block_size b)
