-- What a contract sees, from the variant, whose parts are seen so already.
use Rattle.std.specs.Prelude.{List, [], ◌∷◌, Option, Some, None}
use Rattle.mono_syntax.specs.declared.cast.CastBranch as rust_cast_branch
use Rattle.mono_syntax.specs.declared.cast.CastStmtKind as rust_cast_stmt
use Rattle.mono_syntax.specs.declared.cast.CastStmtKind.TheVariants as cast_stmt_kind
use Rattle.mono_syntax.specs.CastExprView.{args, cast_exprs}
use Rattle.mono_syntax.specs.CastStmt.{CastBlock, CastBranches, CastElse, CastStmt, assign, give, if_any, loop, more_branches, more_stmts, no_branches, no_else, no_stmts, otherwise, pass, plain, print, start, write}

abbrev pub cast_block : List CastStmt → CastBlock
cast_block [] = no_stmts
cast_block (x ∷ xs) = more_stmts x (cast_block xs)

abbrev pub cast_block_list : CastBlock → List CastStmt
cast_block_list no_stmts = []
cast_block_list (more_stmts x xs) = x ∷ cast_block_list xs

abbrev pub cast_branches : List rust_cast_branch.CastBranch → CastBranches
cast_branches [] = no_branches
cast_branches (x ∷ xs) = more_branches x.condition (cast_block x.body) (cast_branches xs)

abbrev pub cast_else_block : Option (List CastStmt) → CastElse
cast_else_block None = no_else
cast_else_block (Some x) = otherwise (cast_block x)

abbrev pub cast_stmt_of : rust_cast_stmt.CastStmtKind → CastStmt
cast_stmt_of cast_stmt_kind.Pass = pass
cast_stmt_of (cast_stmt_kind.Return a b) = give a b
cast_stmt_of (cast_stmt_kind.Print a) = print (cast_exprs a)
cast_stmt_of (cast_stmt_kind.Assign a b) = assign a b
cast_stmt_of (cast_stmt_kind.Write a b c d e f) = write a b c d e f
cast_stmt_of (cast_stmt_kind.Start a b c d) = start a b c (args d)
cast_stmt_of (cast_stmt_kind.Plain a) = plain a
cast_stmt_of (cast_stmt_kind.If a b) = if_any (cast_branches a) (cast_else_block b)
cast_stmt_of (cast_stmt_kind.While a b) = loop a (cast_block b)
