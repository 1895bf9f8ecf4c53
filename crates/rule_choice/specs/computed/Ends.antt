-- Computed: how the code finds whether a body may end.
use Rattle.std.specs.Prelude.{Bool}
use Rattle.mono_syntax.specs.Stmt.{Block, no_stmts, more_stmts}
use Rattle.static_types.specs.BodyEnds.{statement_may_end}

-- whether a body may end behind its last statement; before, it may or not
abbrev pub ends_behind : Bool → Block → Bool
ends_behind before no_stmts = before
ends_behind before (more_stmts s rest) = ends_behind (statement_may_end s) rest
