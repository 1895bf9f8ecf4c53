-- The lines of statements, classes, functions and scripts.
use Rattle.std.specs.Prelude.{ℕ, suc, List, [], ◌∷◌, ◌++◌, Option, Some, None}
use Rattle.mono_syntax.specs.declared.leaf.Word.{Word}
use Rattle.mono_syntax.specs.declared.tree.ClassDef.{ClassDef}
use Rattle.mono_syntax.specs.declared.tree.FieldDef.{FieldDef}
use Rattle.mono_syntax.specs.declared.tree.FuncDef.{FuncDef}
use Rattle.mono_syntax.specs.declared.tree.Item.{Item}
use Rattle.mono_syntax.specs.declared.tree.Item.TheVariants as item
use Rattle.mono_syntax.specs.declared.tree.Param.{Param}
use Rattle.mono_syntax.specs.declared.tree.Script.{Script}
use Rattle.mono_syntax.specs.Ann.{Ann}
use Rattle.mono_syntax.specs.Expr.{Expr}
use Rattle.mono_syntax.specs.Stmt as stmt
use Rattle.mono_syntax.specs.Stmt.{Stmt, Block, no_stmts, more_stmts, Branches, no_branches, more_branches, Else, no_else, otherwise}
use Rattle.mono_syntax.specs.StmtView.{block}
use Rattle.spelled_tokens.specs.declared.token.Mark.{Mark}
use Rattle.spelled_tokens.specs.declared.token.Mark.TheVariants as mark
use Rattle.spelled_tokens.specs.declared.token.What.TheVariants as what
use Rattle.token_lines.specs.declared.printed.Printed.{Printed}
use Rattle.token_lines.specs.declared.printed.Printed.TheVariants.{Plain}
use Rattle.token_lines.specs.Lines.{Line, line}
use Rattle.tree_print.specs.Brackets.{sign, name, ann_tokens, expr_tokens, exprs_tokens, more_exprs_tokens, placed}

-- `: type`, or nothing
abbrev pub type_tokens : Option Ann → List Printed
type_tokens None = []
type_tokens (Some a) = sign mark.Colon ∷ ann_tokens a

abbrev pub give_tokens : Option Expr → List Printed
give_tokens None = sign mark.Return ∷ []
give_tokens (Some e) = sign mark.Return ∷ expr_tokens e

-- the head of a block: a word, a condition and a colon
abbrev pub head_tokens : Mark → Expr → List Printed
head_tokens m e = sign m ∷ (expr_tokens e ++ sign mark.Colon ∷ [])

-- the tokens of a statement on a line of its own; `if` and `while` have none
abbrev pub simple_tokens : Stmt → List Printed
simple_tokens stmt.pass = sign mark.Pass ∷ []
simple_tokens (stmt.give p o) = give_tokens o
simple_tokens (stmt.print p es) = sign mark.Print ∷ Plain what.Open ∷ (exprs_tokens es ++ Plain what.Close ∷ [])
simple_tokens (stmt.assign w o e) = name w ∷ (type_tokens o ++ (sign mark.Equals ∷ expr_tokens e))
simple_tokens (stmt.write o w e) = placed 8 o (expr_tokens o) ++ (Plain what.Dot ∷ name w ∷ sign mark.Equals ∷ expr_tokens e)
simple_tokens (stmt.start w p f es) =
    name w ∷ sign mark.Equals ∷ sign mark.Start ∷ Plain what.Open ∷ (expr_tokens f ++ (more_exprs_tokens es ++ Plain what.Close ∷ []))
simple_tokens (stmt.plain e) = expr_tokens e
simple_tokens (stmt.if_any bs el) = []
simple_tokens (stmt.loop e body) = []

abbrev mutual
  -- the lines of a statement that stands in so many blocks
  pub stmt_lines : ℕ → Stmt → List Line
  stmt_lines d (stmt.if_any bs el) = branches_lines d mark.If bs ++ else_lines d el
  stmt_lines d (stmt.loop e body) = line d (head_tokens mark.While e) ∷ block_lines (suc d) body
  stmt_lines d s = line d (simple_tokens s) ∷ []

  pub block_lines : ℕ → Block → List Line
  block_lines d no_stmts = []
  block_lines d (more_stmts s ss) = stmt_lines d s ++ block_lines d ss

  -- the first branch has this word, and the others `elif`
  pub branches_lines : ℕ → Mark → Branches → List Line
  branches_lines d m no_branches = []
  branches_lines d m (more_branches e body bs) = line d (head_tokens m e) ∷ (block_lines (suc d) body ++ branches_lines d mark.Elif bs)

  pub else_lines : ℕ → Else → List Line
  else_lines d no_else = []
  else_lines d (otherwise body) = line d (sign mark.Else ∷ sign mark.Colon ∷ []) ∷ block_lines (suc d) body

abbrev pub field_line : FieldDef → Line
field_line f = line 1 (name f.name ∷ sign mark.Colon ∷ ann_tokens f.ann)

abbrev pub fields_lines : List FieldDef → List Line
fields_lines [] = []
fields_lines (f ∷ fs) = field_line f ∷ fields_lines fs

-- a class without fields has `pass` in its block
abbrev pub body_lines : List FieldDef → List Line
body_lines [] = line 1 (sign mark.Pass ∷ []) ∷ []
body_lines (f ∷ fs) = fields_lines (f ∷ fs)

abbrev pub class_tokens : Word → List Printed
class_tokens w = sign mark.Class ∷ name w ∷ sign mark.Colon ∷ []

abbrev pub class_lines : ClassDef → List Line
class_lines c = line 0 (class_tokens c.name) ∷ body_lines c.fields

abbrev pub param_tokens : Param → List Printed
param_tokens x = name x.name ∷ type_tokens x.ann

abbrev pub more_params_tokens : List Param → List Printed
more_params_tokens [] = []
more_params_tokens (x ∷ xs) = Plain what.Comma ∷ (param_tokens x ++ more_params_tokens xs)

abbrev pub params_tokens : List Param → List Printed
params_tokens [] = []
params_tokens (x ∷ xs) = param_tokens x ++ more_params_tokens xs

abbrev pub result_tokens : Option Ann → List Printed
result_tokens None = []
result_tokens (Some a) = sign mark.Arrow ∷ ann_tokens a

abbrev pub def_tokens : FuncDef → List Printed
def_tokens f =
    sign mark.Def ∷ name f.name ∷ Plain what.Open
    ∷ (params_tokens f.params ++ (Plain what.Close ∷ (result_tokens f.result ++ sign mark.Colon ∷ [])))

abbrev pub def_lines : FuncDef → List Line
def_lines f = line 0 (def_tokens f) ∷ block_lines 1 (block f.body)

abbrev pub item_lines : Item → List Line
item_lines (item.Class c) = class_lines c
item_lines (item.Def f) = def_lines f
item_lines (item.Stmt s) = stmt_lines 0 s

abbrev pub items_lines : List Item → List Line
items_lines [] = []
items_lines (i ∷ is) = item_lines i ++ items_lines is

abbrev pub script_lines : Script → List Line
script_lines s = items_lines s.items
