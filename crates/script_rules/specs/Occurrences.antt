-- The names that stand in a part of a script, in source order, each with what it does there.
use Rattle.std.specs.Prelude.{List, [], ◌∷◌, ◌++◌, flat_map, Option, Some, None}
use Rattle.mono_syntax.specs.declared.leaf.Word.{Word}
use Rattle.mono_syntax.specs.declared.tree.ClassDef.{ClassDef}
use Rattle.mono_syntax.specs.declared.tree.FieldDef.{FieldDef}
use Rattle.mono_syntax.specs.declared.tree.FuncDef.{FuncDef}
use Rattle.mono_syntax.specs.declared.tree.Item.{Item}
use Rattle.mono_syntax.specs.declared.tree.Item.TheVariants as item
use Rattle.mono_syntax.specs.declared.tree.Param.{Param}
use Rattle.mono_syntax.specs.declared.tree.Script.{Script}
use Rattle.mono_syntax.specs.Ann.{Ann, ann, Form, Anns, no_anns, more_anns}
use Rattle.mono_syntax.specs.Ann as form
use Rattle.mono_syntax.specs.Expr.{Expr, Exprs, local, number, text, truth, nil, neg, negation, binary, both, either, read, call, cast, join, no_exprs, more_exprs}
use Rattle.mono_syntax.specs.Stmt.{Stmt, pass, give, print, assign, write, start, plain, if_any, loop, Block, no_stmts, more_stmts, Branches, no_branches, more_branches, Else, no_else, otherwise}
use Rattle.mono_syntax.specs.StmtView.{block}
use Rattle.script_rules.specs.Definitions.{statements_of}
use Rattle.script_rules.specs.declared.occurrence.Occurrence.{Occurrence}
use Rattle.script_rules.specs.declared.occurrence.Role.{Role}
use Rattle.script_rules.specs.declared.occurrence.Role.TheVariants as role

abbrev pub at : Role → Word → Occurrence
at r w = record { role = r; text = w.text; place = w.place }

-- the names in a type
abbrev mutual
  pub in_ann : Ann → List Occurrence
  in_ann (ann p f) = in_form f

  pub in_form : Form → List Occurrence
  in_form form.dyn = []
  in_form form.int = []
  in_form form.bool = []
  in_form form.str = []
  in_form form.nil = []
  in_form (form.class w) = at role.Typed w ∷ []
  in_form (form.fun as_ a) = in_anns as_ ++ in_ann a

  pub in_anns : Anns → List Occurrence
  in_anns no_anns = []
  in_anns (more_anns a as_) = in_ann a ++ in_anns as_

abbrev pub in_any_ann : Option Ann → List Occurrence
in_any_ann None = []
in_any_ann (Some a) = in_ann a

-- the names in an expression, where r is what it does if it is a name itself
abbrev mutual
  pub in_expr : Role → Expr → List Occurrence
  in_expr r (local w) = at r w ∷ []
  in_expr r (number p n) = []
  in_expr r (text p t) = []
  in_expr r (truth p b) = []
  in_expr r (nil p) = []
  in_expr r (neg p e) = in_expr role.Read e
  in_expr r (negation p e) = in_expr role.Read e
  in_expr r (binary o p a b) = in_expr role.Read a ++ in_expr role.Read b
  in_expr r (both a b) = in_expr role.Read a ++ in_expr role.Read b
  in_expr r (either a b) = in_expr role.Read a ++ in_expr role.Read b
  in_expr r (read e w) = in_expr role.Read e
  in_expr r (call p f es) = in_expr role.Called f ++ in_exprs es
  in_expr r (cast p a e) = in_ann a ++ in_expr role.Read e
  in_expr r (join p w) = at role.Joined w ∷ []

  pub in_exprs : Exprs → List Occurrence
  in_exprs no_exprs = []
  in_exprs (more_exprs e es) = in_expr role.Read e ++ in_exprs es

abbrev pub in_any_expr : Option Expr → List Occurrence
in_any_expr None = []
in_any_expr (Some e) = in_expr role.Read e

-- a name that is assigned, with its annotation
abbrev pub in_target : Word → Option Ann → List Occurrence
in_target w None = at role.Assigned w ∷ []
in_target w (Some a) = at role.Annotated w ∷ in_ann a

-- the names in a statement
abbrev mutual
  pub in_stmt : Stmt → List Occurrence
  in_stmt pass = []
  in_stmt (give p e) = in_any_expr e
  in_stmt (print p es) = in_exprs es
  in_stmt (assign w a e) = in_target w a ++ in_expr role.Read e
  in_stmt (write o w e) = in_expr role.Read o ++ in_expr role.Read e
  in_stmt (start w p f es) = at role.Started w ∷ in_expr role.Read f ++ in_exprs es ++ at role.Ended w ∷ []
  in_stmt (plain e) = in_expr role.Read e
  in_stmt (if_any bs last) = in_branches bs ++ in_else last
  in_stmt (loop e b) = in_expr role.Read e ++ in_block b

  pub in_block : Block → List Occurrence
  in_block no_stmts = []
  in_block (more_stmts s b) = in_stmt s ++ in_block b

  pub in_branches : Branches → List Occurrence
  in_branches no_branches = []
  in_branches (more_branches e b bs) = in_expr role.Read e ++ in_block b ++ in_branches bs

  pub in_else : Else → List Occurrence
  in_else no_else = []
  in_else (otherwise b) = in_block b

abbrev pub in_param : Param → List Occurrence
in_param p = at role.Parameter p.name ∷ in_any_ann p.ann

-- a function's parameters, result and body
abbrev pub in_function : FuncDef → List Occurrence
in_function d = flat_map in_param d.params ++ in_any_ann d.result ++ in_block (block d.body)

abbrev pub in_field : FieldDef → List Occurrence
in_field d = at role.Field d.name ∷ in_ann d.ann

-- a class's body
abbrev pub in_class : ClassDef → List Occurrence
in_class d = flat_map in_field d.fields

-- the name that an item defines
abbrev pub defined_by : Item → List Occurrence
defined_by (item.Class d) = at role.Class d.name ∷ []
defined_by (item.Def d) = at role.Function d.name ∷ []
defined_by (item.Stmt s) = []

-- the names of the classes and functions
abbrev pub definitions : Script → List Occurrence
definitions s = flat_map defined_by s.items

-- the main block
abbrev pub in_main : Script → List Occurrence
in_main s = in_block (block (statements_of s.items))

-- the body of a class or function
abbrev pub body_of : Item → List (List Occurrence)
body_of (item.Class d) = in_class d ∷ []
body_of (item.Def d) = in_function d ∷ []
body_of (item.Stmt s) = []

-- the parts of a script in which a name stands for one thing: the definitions, the body of each class and function, and
-- the main block
abbrev pub bodies : Script → List (List Occurrence)
bodies s = definitions s ∷ flat_map body_of s.items ++ in_main s ∷ []
