-- The tokens of a printed script as the grammar nests them, and trees whose blocks all hold something.
use Rattle.std.specs.Prelude.{List, [], ◌∷◌, ◌++◌, map, Option, Some, None}
use Rattle.mono_syntax.specs.declared.tree.ClassDef.{ClassDef}
use Rattle.mono_syntax.specs.declared.tree.FieldDef.{FieldDef}
use Rattle.mono_syntax.specs.declared.tree.FuncDef.{FuncDef}
use Rattle.mono_syntax.specs.declared.tree.Item.{Item}
use Rattle.mono_syntax.specs.declared.tree.Item.TheVariants as item
use Rattle.mono_syntax.specs.declared.tree.Script.{Script}
use Rattle.mono_syntax.specs.Ann.{Ann}
use Rattle.mono_syntax.specs.Expr.{Expr}
use Rattle.mono_syntax.specs.Stmt as stmt
use Rattle.mono_syntax.specs.Stmt.{Stmt, Block, no_stmts, more_stmts, Branches, no_branches, more_branches, Else, no_else, otherwise}
use Rattle.mono_syntax.specs.StmtView.{block}
use Rattle.spelled_tokens.specs.declared.token.Mark.{Mark}
use Rattle.spelled_tokens.specs.declared.token.Mark.TheVariants as mark
use Rattle.spelled_tokens.specs.declared.token.What.{What}
use Rattle.spelled_tokens.specs.declared.token.What.TheVariants as what
use Rattle.token_lines.specs.Tokens.{what_of}
use Rattle.tree_print.specs.Brackets.{ann_tokens, expr_tokens, exprs_tokens, more_exprs_tokens, placed}
use Rattle.tree_print.specs.ScriptLines.{params_tokens, result_tokens}

abbrev pub newline : What
newline = what.Mark mark.Newline

-- `return`, with a value or without, and NEWLINE
abbrev pub give_whats : Option Expr → List What
give_whats None = what.Mark mark.Return ∷ newline ∷ []
give_whats (Some e) = what.Mark mark.Return ∷ (map what_of (expr_tokens e) ++ newline ∷ [])

-- an assignment behind its name
abbrev pub assign_whats : Option Ann → Expr → List What
assign_whats None e = what.Mark mark.Equals ∷ (map what_of (expr_tokens e) ++ newline ∷ [])
assign_whats (Some a) e = what.Mark mark.Colon ∷ (map what_of (ann_tokens a) ++ (what.Mark mark.Equals ∷ (map what_of (expr_tokens e) ++ newline ∷ [])))

-- a block, given what its statements are
abbrev pub inner_whats : List What → List What
inner_whats ws = newline ∷ what.Mark mark.Indent ∷ (ws ++ what.Mark mark.Dedent ∷ [])

-- a word, a condition, a colon and what is behind
abbrev pub head_whats : Mark → Expr → List What → List What
head_whats m e ws = what.Mark m ∷ (map what_of (expr_tokens e) ++ (what.Mark mark.Colon ∷ ws))

abbrev mutual
  pub stmt_whats : Stmt → List What
  stmt_whats stmt.pass = what.Mark mark.Pass ∷ newline ∷ []
  stmt_whats (stmt.give p o) = give_whats o
  stmt_whats (stmt.print p es) = what.Mark mark.Print ∷ what.Open ∷ (map what_of (exprs_tokens es) ++ (what.Close ∷ newline ∷ []))
  stmt_whats (stmt.assign w o e) = what.Name w.text ∷ assign_whats o e
  stmt_whats (stmt.write o w e) =
      map what_of (placed 8 o (expr_tokens o)) ++ (what.Dot ∷ what.Name w.text ∷ what.Mark mark.Equals ∷ (map what_of (expr_tokens e) ++ newline ∷ []))
  stmt_whats (stmt.start w p f es) =
      what.Name w.text ∷ what.Mark mark.Equals ∷ what.Mark mark.Start ∷ what.Open
      ∷ (map what_of (expr_tokens f ++ more_exprs_tokens es) ++ (what.Close ∷ newline ∷ []))
  stmt_whats (stmt.plain e) = map what_of (expr_tokens e) ++ newline ∷ []
  stmt_whats (stmt.if_any bs el) = branches_whats mark.If bs ++ else_whats el
  stmt_whats (stmt.loop e body) = head_whats mark.While e (inner_whats (block_whats body))

  pub block_whats : Block → List What
  block_whats no_stmts = []
  block_whats (more_stmts s ss) = stmt_whats s ++ block_whats ss

  pub branches_whats : Mark → Branches → List What
  branches_whats m no_branches = []
  branches_whats m (more_branches e body bs) = head_whats m e (inner_whats (block_whats body) ++ branches_whats mark.Elif bs)

  pub else_whats : Else → List What
  else_whats no_else = []
  else_whats (otherwise body) = what.Mark mark.Else ∷ what.Mark mark.Colon ∷ inner_whats (block_whats body)

abbrev pub field_whats : FieldDef → List What
field_whats f = what.Name f.name.text ∷ what.Mark mark.Colon ∷ (map what_of (ann_tokens f.ann) ++ newline ∷ [])

abbrev pub fields_whats : List FieldDef → List What
fields_whats [] = []
fields_whats (f ∷ fs) = field_whats f ++ fields_whats fs

abbrev pub body_whats : List FieldDef → List What
body_whats [] = what.Mark mark.Pass ∷ newline ∷ []
body_whats (f ∷ fs) = fields_whats (f ∷ fs)

abbrev pub class_whats : ClassDef → List What
class_whats c = what.Mark mark.Class ∷ what.Name c.name.text ∷ what.Mark mark.Colon ∷ inner_whats (body_whats c.fields)

abbrev pub def_whats : FuncDef → List What
def_whats f =
    what.Mark mark.Def ∷ what.Name f.name.text ∷ what.Open
    ∷ (map what_of (params_tokens f.params) ++ (what.Close ∷ (map what_of (result_tokens f.result) ++ (what.Mark mark.Colon ∷ inner_whats (block_whats (block f.body))))))

abbrev pub item_whats : Item → List What
item_whats (item.Class c) = class_whats c
item_whats (item.Def f) = def_whats f
item_whats (item.Stmt s) = stmt_whats s

abbrev pub items_whats : List Item → List What
items_whats [] = []
items_whats (i ∷ is) = item_whats i ++ items_whats is

abbrev pub script_whats : Script → List What
script_whats s = items_whats s.items ++ what.Mark mark.End ∷ []

-- ---- no block is empty, and each `if` has a branch

abbrev pub AnyBranch : Branches → Type 0
AnyBranch no_branches = ⊥
AnyBranch (more_branches e body bs) = Unit {0}

abbrev pub AnyStmt : Block → Type 0
AnyStmt no_stmts = ⊥
AnyStmt (more_stmts s ss) = Unit {0}

abbrev mutual
  pub FullStmt : Stmt → Type 0
  FullStmt stmt.pass = Unit {0}
  FullStmt (stmt.give p o) = Unit {0}
  FullStmt (stmt.print p es) = Unit {0}
  FullStmt (stmt.assign w o e) = Unit {0}
  FullStmt (stmt.write o w e) = Unit {0}
  FullStmt (stmt.start w p f es) = Unit {0}
  FullStmt (stmt.plain e) = Unit {0}
  FullStmt (stmt.if_any bs el) = AnyBranch bs × FullBranches bs × FullElse el
  FullStmt (stmt.loop e body) = AnyStmt body × FullStmts body

  pub FullStmts : Block → Type 0
  FullStmts no_stmts = Unit {0}
  FullStmts (more_stmts s ss) = FullStmt s × FullStmts ss

  pub FullBranches : Branches → Type 0
  FullBranches no_branches = Unit {0}
  FullBranches (more_branches e body bs) = AnyStmt body × FullStmts body × FullBranches bs

  pub FullElse : Else → Type 0
  FullElse no_else = Unit {0}
  FullElse (otherwise body) = AnyStmt body × FullStmts body

abbrev pub FullItem : Item → Type 0
FullItem (item.Class c) = Unit {0}
FullItem (item.Def f) = AnyStmt (block f.body) × FullStmts (block f.body)
FullItem (item.Stmt s) = FullStmt s

abbrev pub FullItems : List Item → Type 0
FullItems [] = Unit {0}
FullItems (i ∷ is) = FullItem i × FullItems is
