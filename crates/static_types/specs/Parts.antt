-- The parts of an expression, in source order.
use Rattle.std.specs.Prelude.{List, [], ◌∷◌, Option, Some, None}
use Rattle.mono_syntax.specs.declared.tree.ClassDef.{ClassDef}
use Rattle.mono_syntax.specs.Expr.{Expr, local, neg, negation, binary, both, either, read, call, cast}
use Rattle.mono_syntax.specs.ExprView.{exprs_list}
use Rattle.script_rules.specs.Definitions.{class_named}

-- the class whose name is called
abbrev pub class_called : List ClassDef → Expr → Option ClassDef
class_called cs (local w) = class_named cs w.text
class_called cs e = None

-- a class's name is no expression, and so no part of its call
abbrev pub call_parts : Option ClassDef → Expr → List Expr → List Expr
call_parts (Some d) f es = es
call_parts None f es = f ∷ es

abbrev pub parts : List ClassDef → Expr → List Expr
parts cs (neg p a) = a ∷ []
parts cs (negation p a) = a ∷ []
parts cs (binary o p a b) = a ∷ b ∷ []
parts cs (both a b) = a ∷ b ∷ []
parts cs (either a b) = a ∷ b ∷ []
parts cs (read a w) = a ∷ []
parts cs (call p f es) = call_parts (class_called cs f) f (exprs_list es)
parts cs (cast p t a) = a ∷ []
parts cs e = []
