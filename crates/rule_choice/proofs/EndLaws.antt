-- Whether a body may end is decided by its last statement.
use Rattle.std.proofs.Common.{◌≡◌, true, refl}
use Rattle.mono_syntax.specs.Stmt.{Stmt, Block, no_stmts, more_stmts}
use Rattle.static_types.specs.BodyEnds.{may_end, statement_may_end}
use Rattle.rule_choice.specs.computed.Ends.{ends_behind}

ends_later : (s : Stmt) (rest : Block) → ends_behind (statement_may_end s) rest ≡ may_end (more_stmts s rest)
ends_later s no_stmts = refl
ends_later s (more_stmts t rest) = ends_later t rest

pub ends_may_end : (b : Block) → ends_behind true b ≡ may_end b
ends_may_end no_stmts = refl
ends_may_end (more_stmts s rest) = ends_later s rest

pub ruleset endings = (ends_may_end)
