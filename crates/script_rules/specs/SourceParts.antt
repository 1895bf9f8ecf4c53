-- What can be too large in a script, and where it stands.
use Rattle.std.specs.Prelude.{ℕ, ◌+◌, List, [], ◌∷◌, ◌++◌, Option, Some, None, map, filter, not, bytes_eq}
use Rattle.mono_syntax.specs.declared.leaf.Place.{Place}
use Rattle.mono_syntax.specs.declared.leaf.Word.{Word}
use Rattle.mono_syntax.specs.declared.tree.FieldDef.{FieldDef}
use Rattle.mono_syntax.specs.declared.tree.Param.{Param}
use Rattle.mono_syntax.specs.declared.tree.Item.{Item}
use Rattle.mono_syntax.specs.declared.tree.Item.TheVariants as item
use Rattle.mono_syntax.specs.Ann.{Ann, ann, fun, Anns, no_anns, more_anns}
use Rattle.mono_syntax.specs.Expr.{Expr, Exprs, local, number, text, truth, nil, neg, negation, binary, both, either, read, call, cast, join, no_exprs, more_exprs}
use Rattle.mono_syntax.specs.Stmt.{Stmt, pass, give, print, assign, write, start, plain, if_any, loop, Block, no_stmts, more_stmts, Branches, no_branches, more_branches, Else, no_else, otherwise}

abbrev pub place_of : Ann → Place
place_of (ann p form) = p

abbrev pub count_of : Anns → ℕ
count_of no_anns = 0
count_of (more_anns a as_) = count_of as_ + 1

abbrev pub count_of_exprs : Exprs → ℕ
count_of_exprs no_exprs = 0
count_of_exprs (more_exprs e es) = count_of_exprs es + 1

-- a list that stands in the script: where, and how many it has
pub record Counted : Type 0 where
  pub place : Place
  pub count : ℕ

-- the parameters of each Callable in an annotation, at its word
abbrev mutual
  pub callables : Ann → List Counted
  callables (ann p (fun as_ a)) = record { place = p; count = count_of as_ } ∷ callables_all as_ ++ callables a
  callables (ann p form) = []

  pub callables_all : Anns → List Counted
  callables_all no_anns = []
  callables_all (more_anns a as_) = callables a ++ callables_all as_

-- what can be too large in a statement: an annotation, or the arguments of a call, a print or a start at its opening
-- bracket
pub data Part : Type 0 where
  annotation : Ann → Part
  arguments : Counted → Part

abbrev pub argument_list : Place → Exprs → Part
argument_list p es = arguments (record { place = p; count = count_of_exprs es })

-- in an expression: the types of its casts, and the arguments of its calls
abbrev mutual
  pub expr_parts : Expr → List Part
  expr_parts (local w) = []
  expr_parts (number p n) = []
  expr_parts (text p n) = []
  expr_parts (truth p b) = []
  expr_parts (nil p) = []
  expr_parts (neg p a) = expr_parts a
  expr_parts (negation p a) = expr_parts a
  expr_parts (binary op p a b) = expr_parts a ++ expr_parts b
  expr_parts (both a b) = expr_parts a ++ expr_parts b
  expr_parts (either a b) = expr_parts a ++ expr_parts b
  expr_parts (read a w) = expr_parts a
  expr_parts (call p f es) = argument_list p es ∷ expr_parts f ++ exprs_parts es
  expr_parts (cast p t a) = annotation t ∷ expr_parts a
  expr_parts (join p w) = []

  pub exprs_parts : Exprs → List Part
  exprs_parts no_exprs = []
  exprs_parts (more_exprs e es) = expr_parts e ++ exprs_parts es

abbrev pub any_ann : Option Ann → List Part
any_ann None = []
any_ann (Some a) = annotation a ∷ []

abbrev pub any_expr : Option Expr → List Part
any_expr None = []
any_expr (Some e) = expr_parts e

-- in a statement; the callee of a start isn't one of its arguments
abbrev mutual
  pub stmt_parts : Stmt → List Part
  stmt_parts pass = []
  stmt_parts (give p e) = any_expr e
  stmt_parts (print p es) = argument_list p es ∷ exprs_parts es
  stmt_parts (assign w a e) = any_ann a ++ expr_parts e
  stmt_parts (write o f e) = expr_parts o ++ expr_parts e
  stmt_parts (start w p f es) = argument_list p es ∷ expr_parts f ++ exprs_parts es
  stmt_parts (plain e) = expr_parts e
  stmt_parts (if_any bs last) = branch_parts bs ++ else_parts last
  stmt_parts (loop e b) = expr_parts e ++ block_parts b

  pub block_parts : Block → List Part
  block_parts no_stmts = []
  block_parts (more_stmts s b) = stmt_parts s ++ block_parts b

  pub branch_parts : Branches → List Part
  branch_parts no_branches = []
  branch_parts (more_branches e b bs) = expr_parts e ++ block_parts b ++ branch_parts bs

  pub else_parts : Else → List Part
  else_parts no_else = []
  else_parts (otherwise b) = block_parts b

abbrev pub param_parts : List Param → List Part
param_parts [] = []
param_parts (p ∷ ps) = any_ann p.ann ++ param_parts ps

abbrev pub field_parts : List FieldDef → List Part
field_parts [] = []
field_parts (f ∷ fs) = annotation f.ann ∷ field_parts fs

abbrev pub body_parts : List Stmt → List Part
body_parts [] = []
body_parts (s ∷ ss) = stmt_parts s ++ body_parts ss

-- in an item
abbrev pub item_parts : Item → List Part
item_parts (item.Class d) = field_parts d.fields
item_parts (item.Def d) = param_parts d.params ++ any_ann d.result ++ body_parts d.body
item_parts (item.Stmt s) = stmt_parts s

-- in a script's items
abbrev pub parts_of : List Item → List Part
parts_of [] = []
parts_of (i ∷ is) = item_parts i ++ parts_of is

-- the names that a statement assigns or starts, in source order
abbrev mutual
  pub bound : Stmt → List Word
  bound (assign w a e) = w ∷ []
  bound (start w p f es) = w ∷ []
  bound (if_any bs last) = branch_bound bs ++ else_bound last
  bound (loop e b) = block_bound b
  bound s = []

  pub block_bound : Block → List Word
  block_bound no_stmts = []
  block_bound (more_stmts s b) = bound s ++ block_bound b

  pub branch_bound : Branches → List Word
  branch_bound no_branches = []
  branch_bound (more_branches e b bs) = block_bound b ++ branch_bound bs

  pub else_bound : Else → List Word
  else_bound no_else = []
  else_bound (otherwise b) = block_bound b

-- where each name stands first
abbrev pub first_words : List Word → List Word
first_words [] = []
first_words (w ∷ ws) = w ∷ filter (λ v. not (bytes_eq w.text v.text)) (first_words ws)

abbrev pub body_bound : List Stmt → List Word
body_bound [] = []
body_bound (s ∷ ss) = bound s ++ body_bound ss

-- the names of a block with these parameters, each where it first stands
abbrev pub block_names : List Param → List Stmt → List Word
block_names ps ss = first_words (map (λ p. p.name) ps ++ body_bound ss)
