-- What a contract sees, from the variant, whose parts are seen so already.
use Rattle.std.specs.Prelude.{List, [], ◌∷◌, Option, Some, None}
use Rattle.mono_syntax.specs.declared.tree.Branch as rust_branch
use Rattle.mono_syntax.specs.declared.tree.StmtKind as rust_stmt
use Rattle.mono_syntax.specs.declared.tree.StmtKind.TheVariants as stmt_kind
use Rattle.mono_syntax.specs.ExprView.{exprs}
use Rattle.mono_syntax.specs.Stmt.{Block, Branches, Else, Stmt, assign, give, if_any, loop, more_branches, more_stmts, no_branches, no_else, no_stmts, otherwise, pass, plain, print, start, write}

abbrev pub block : List Stmt → Block
block [] = no_stmts
block (x ∷ xs) = more_stmts x (block xs)

abbrev pub block_list : Block → List Stmt
block_list no_stmts = []
block_list (more_stmts x xs) = x ∷ block_list xs

abbrev pub branches : List rust_branch.Branch → Branches
branches [] = no_branches
branches (x ∷ xs) = more_branches x.condition (block x.body) (branches xs)

abbrev pub else_block : Option (List Stmt) → Else
else_block None = no_else
else_block (Some x) = otherwise (block x)

abbrev pub stmt_of : rust_stmt.StmtKind → Stmt
stmt_of stmt_kind.Pass = pass
stmt_of (stmt_kind.Return a b) = give a b
stmt_of (stmt_kind.Print a b) = print a (exprs b)
stmt_of (stmt_kind.Assign a b c) = assign a b c
stmt_of (stmt_kind.Write a b c) = write a b c
stmt_of (stmt_kind.Start a b c d) = start a b c (exprs d)
stmt_of (stmt_kind.Plain a) = plain a
stmt_of (stmt_kind.If a b) = if_any (branches a) (else_block b)
stmt_of (stmt_kind.While a b) = loop a (block b)
