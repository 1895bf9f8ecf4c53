-- Trees with all their places taken out: two trees that are one tree but for places become equal.
use Rattle.std.specs.Prelude.{◌≡◌, List, [], ◌∷◌, Option, Some, None}
use Rattle.mono_syntax.specs.declared.leaf.Place.{Place}
use Rattle.mono_syntax.specs.declared.leaf.Word.{Word}
use Rattle.mono_syntax.specs.declared.tree.ClassDef.{ClassDef}
use Rattle.mono_syntax.specs.declared.tree.FieldDef.{FieldDef}
use Rattle.mono_syntax.specs.declared.tree.FuncDef.{FuncDef}
use Rattle.mono_syntax.specs.declared.tree.Item.{Item}
use Rattle.mono_syntax.specs.declared.tree.Item.TheVariants as item
use Rattle.mono_syntax.specs.declared.tree.Param.{Param}
use Rattle.mono_syntax.specs.declared.tree.Script.{Script}
use Rattle.mono_syntax.specs.Ann.{Ann, ann, Form, dyn, int, bool, str, nil, class, fun, Anns, no_anns, more_anns}
use Rattle.mono_syntax.specs.Expr as expr
use Rattle.mono_syntax.specs.Expr.{Expr, Exprs, no_exprs, more_exprs}
use Rattle.mono_syntax.specs.Stmt as stmt
use Rattle.mono_syntax.specs.Stmt.{Stmt, Block, no_stmts, more_stmts, Branches, no_branches, more_branches, Else, no_else, otherwise}

-- no place of a text
abbrev pub nowhere : Place
nowhere = record { line = 0; column = 0 }

abbrev pub bare_word : Word → Word
bare_word w = record { text = w.text; place = nowhere }

abbrev mutual
  pub bare_ann : Ann → Ann
  bare_ann (ann p f) = ann nowhere (bare_form f)

  pub bare_form : Form → Form
  bare_form dyn = dyn
  bare_form int = int
  bare_form bool = bool
  bare_form str = str
  bare_form nil = nil
  bare_form (class w) = class (bare_word w)
  bare_form (fun xs a) = fun (bare_anns xs) (bare_ann a)

  pub bare_anns : Anns → Anns
  bare_anns no_anns = no_anns
  bare_anns (more_anns a xs) = more_anns (bare_ann a) (bare_anns xs)

abbrev mutual
  pub bare_expr : Expr → Expr
  bare_expr (expr.local w) = expr.local (bare_word w)
  bare_expr (expr.number p n) = expr.number nowhere n
  bare_expr (expr.text p t) = expr.text nowhere t
  bare_expr (expr.truth p b) = expr.truth nowhere b
  bare_expr (expr.nil p) = expr.nil nowhere
  bare_expr (expr.neg p a) = expr.neg nowhere (bare_expr a)
  bare_expr (expr.negation p a) = expr.negation nowhere (bare_expr a)
  bare_expr (expr.binary o p a b) = expr.binary o nowhere (bare_expr a) (bare_expr b)
  bare_expr (expr.both a b) = expr.both (bare_expr a) (bare_expr b)
  bare_expr (expr.either a b) = expr.either (bare_expr a) (bare_expr b)
  bare_expr (expr.read a w) = expr.read (bare_expr a) (bare_word w)
  bare_expr (expr.call p a es) = expr.call nowhere (bare_expr a) (bare_exprs es)
  bare_expr (expr.cast p t a) = expr.cast nowhere (bare_ann t) (bare_expr a)
  bare_expr (expr.join p w) = expr.join nowhere (bare_word w)

  pub bare_exprs : Exprs → Exprs
  bare_exprs no_exprs = no_exprs
  bare_exprs (more_exprs e es) = more_exprs (bare_expr e) (bare_exprs es)

abbrev pub bare_type : Option Ann → Option Ann
bare_type None = None
bare_type (Some a) = Some (bare_ann a)

abbrev pub bare_value : Option Expr → Option Expr
bare_value None = None
bare_value (Some e) = Some (bare_expr e)

abbrev mutual
  pub bare_stmt : Stmt → Stmt
  bare_stmt stmt.pass = stmt.pass
  bare_stmt (stmt.give p o) = stmt.give nowhere (bare_value o)
  bare_stmt (stmt.print p es) = stmt.print nowhere (bare_exprs es)
  bare_stmt (stmt.assign w o e) = stmt.assign (bare_word w) (bare_type o) (bare_expr e)
  bare_stmt (stmt.write o w e) = stmt.write (bare_expr o) (bare_word w) (bare_expr e)
  bare_stmt (stmt.start w p f es) = stmt.start (bare_word w) nowhere (bare_expr f) (bare_exprs es)
  bare_stmt (stmt.plain e) = stmt.plain (bare_expr e)
  bare_stmt (stmt.if_any bs el) = stmt.if_any (bare_branches bs) (bare_else el)
  bare_stmt (stmt.loop e body) = stmt.loop (bare_expr e) (bare_block body)

  pub bare_block : Block → Block
  bare_block no_stmts = no_stmts
  bare_block (more_stmts s ss) = more_stmts (bare_stmt s) (bare_block ss)

  pub bare_branches : Branches → Branches
  bare_branches no_branches = no_branches
  bare_branches (more_branches e body bs) = more_branches (bare_expr e) (bare_block body) (bare_branches bs)

  pub bare_else : Else → Else
  bare_else no_else = no_else
  bare_else (otherwise body) = otherwise (bare_block body)

abbrev pub bare_stmts : List Stmt → List Stmt
bare_stmts [] = []
bare_stmts (s ∷ ss) = bare_stmt s ∷ bare_stmts ss

abbrev pub bare_fields : List FieldDef → List FieldDef
bare_fields [] = []
bare_fields (f ∷ fs) = record { name = bare_word f.name; ann = bare_ann f.ann } ∷ bare_fields fs

abbrev pub bare_params : List Param → List Param
bare_params [] = []
bare_params (x ∷ xs) = record { name = bare_word x.name; ann = bare_type x.ann } ∷ bare_params xs

abbrev pub bare_class : ClassDef → ClassDef
bare_class c = record { name = bare_word c.name; fields = bare_fields c.fields }

abbrev pub bare_def : FuncDef → FuncDef
bare_def f = record { name = bare_word f.name; params = bare_params f.params; result = bare_type f.result; body = bare_stmts f.body }

abbrev pub bare_item : Item → Item
bare_item (item.Class c) = item.Class (bare_class c)
bare_item (item.Def f) = item.Def (bare_def f)
bare_item (item.Stmt s) = item.Stmt (bare_stmt s)

abbrev pub bare_items : List Item → List Item
bare_items [] = []
bare_items (i ∷ is) = bare_item i ∷ bare_items is

abbrev pub bare_script : Script → Script
bare_script s = record { items = bare_items s.items }

-- one tree but for places
abbrev pub IsSameButPlaces : Script → Script → Type 0
IsSameButPlaces a b = bare_script a ≡ bare_script b
