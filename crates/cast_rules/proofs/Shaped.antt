-- The parts of a tree of the grammar are trees of the grammar.
use Rattle.std.proofs.Common.{List, [], ◌∷◌, Option, Some, None, Bool}
use Rattle.mono_syntax.specs.declared.tree.ClassDef.{ClassDef}
use Rattle.mono_syntax.specs.Expr as expr
use Rattle.mono_syntax.specs.Expr.{Expr, Exprs}
use Rattle.mono_syntax.specs.ExprView.{exprs_list}
use Rattle.mono_syntax.specs.Stmt as stmt
use Rattle.mono_syntax.specs.Stmt.{Stmt}
use Rattle.script_shape.specs.Shapes.{IsShapedExpr, AreShapedExprs, IsShapedStmt}
use Rattle.static_types.specs.Lines.{line_parts}
use Rattle.static_types.specs.Parts.{class_called, call_parts, parts}

abbrev pub AreShaped : List Expr → Type 0
AreShaped [] = Unit {0}
AreShaped (e ∷ es) = IsShapedExpr e × AreShaped es

list_shaped : (es : Exprs) → AreShapedExprs es → AreShaped (exprs_list es)
list_shaped expr.no_exprs h = tt
list_shaped (expr.more_exprs e es) h = (h.0, list_shaped es h.1)

call_shaped : (o : Option ClassDef) (f : Expr) (es : List Expr) → IsShapedExpr f → AreShaped es → AreShaped (call_parts o f es)
call_shaped None f es h k = (h, k)
call_shaped (Some d) f es h k = k

pub parts_shaped : (cs : List ClassDef) (e : Expr) → IsShapedExpr e → AreShaped (parts cs e)
parts_shaped cs (expr.local w) h = tt
parts_shaped cs (expr.number p n) h = tt
parts_shaped cs (expr.text p t) h = tt
parts_shaped cs (expr.truth p b) h = tt
parts_shaped cs (expr.nil p) h = tt
parts_shaped cs (expr.neg p a) h = (h, tt)
parts_shaped cs (expr.negation p a) h = (h, tt)
parts_shaped cs (expr.binary o p a b) h = (h.0, (h.1, tt))
parts_shaped cs (expr.both a b) h = (h.0, (h.1, tt))
parts_shaped cs (expr.either a b) h = (h.0, (h.1, tt))
parts_shaped cs (expr.read a w) h = (h, tt)
parts_shaped cs (expr.call p a es) h = call_shaped (class_called cs a) a (exprs_list es) h.0 (list_shaped es h.1)
parts_shaped cs (expr.cast p t a) h = (h, tt)
parts_shaped cs (expr.join p w) h = tt

pub line_shaped : (inside : Bool) (s : Stmt) → IsShapedStmt inside s → AreShaped (line_parts s)
line_shaped inside stmt.pass h = tt
line_shaped inside (stmt.give p None) h = (tt, tt)
line_shaped inside (stmt.give p (Some e)) h = (h.1, tt)
line_shaped inside (stmt.print p es) h = list_shaped es h
line_shaped inside (stmt.assign w a e) h = (h, tt)
line_shaped inside (stmt.write o w e) h = (h.0, (h.1, tt))
line_shaped inside (stmt.start w p f es) h = (h.0, list_shaped es h.1)
line_shaped inside (stmt.plain e) h = (h, tt)
line_shaped inside (stmt.if_any bs last) h = tt
line_shaped inside (stmt.loop e body) h = tt
