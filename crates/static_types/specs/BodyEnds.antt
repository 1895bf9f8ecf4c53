-- Whether a body may end without a return.
use Rattle.std.specs.Prelude.{Bool, true, false, ◌||◌}
use Rattle.mono_syntax.specs.Stmt.{Stmt, give, if_any, Block, no_stmts, more_stmts, Branches, no_branches, more_branches, Else, no_else, otherwise}

-- it may, unless its last statement is a return, or an `if` with an else whose blocks all can't
abbrev mutual
  pub may_end : Block → Bool
  may_end no_stmts = true
  may_end (more_stmts s no_stmts) = statement_may_end s
  may_end (more_stmts s (more_stmts t rest)) = may_end (more_stmts t rest)

  pub statement_may_end : Stmt → Bool
  statement_may_end (give p e) = false
  statement_may_end (if_any bs last) = branches_may_end bs || else_may_end last
  statement_may_end s = true

  pub branches_may_end : Branches → Bool
  branches_may_end no_branches = false
  branches_may_end (more_branches e body rest) = may_end body || branches_may_end rest

  pub else_may_end : Else → Bool
  else_may_end no_else = true
  else_may_end (otherwise body) = may_end body
