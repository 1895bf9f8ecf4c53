-- The tokens of printed lines are those that the grammar nests.
use Rattle.std.proofs.Common.{◌≡◌, ℕ, suc, List, [], ◌∷◌, ◌++◌, Option, Some, None, refl, sym, ◌∙◌, ap, arith, append_assoc}
use Rattle.std.specs.Prelude.{map}
use Rattle.std.proofs.lemmas.List.{map-append}
use Rattle.mono_syntax.specs.declared.tree.ClassDef.{ClassDef}
use Rattle.mono_syntax.specs.declared.tree.FieldDef.{FieldDef}
use Rattle.mono_syntax.specs.declared.tree.FuncDef.{FuncDef}
use Rattle.mono_syntax.specs.declared.tree.Item.{Item}
use Rattle.mono_syntax.specs.declared.tree.Item.TheVariants as item
use Rattle.mono_syntax.specs.declared.tree.Script.{Script}
use Rattle.mono_syntax.specs.declared.leaf.Place.{Place}
use Rattle.mono_syntax.specs.declared.leaf.Word.{Word}
use Rattle.mono_syntax.specs.Ann.{Ann}
use Rattle.mono_syntax.specs.Expr.{Expr}
use Rattle.mono_syntax.specs.Stmt as stmt
use Rattle.mono_syntax.specs.Stmt.{Stmt, Block, no_stmts, more_stmts, Branches, no_branches, more_branches, Else, no_else, otherwise}
use Rattle.mono_syntax.specs.StmtView.{block}
use Rattle.spelled_tokens.specs.declared.token.Mark.{Mark}
use Rattle.spelled_tokens.specs.declared.token.Mark.TheVariants as mark
use Rattle.spelled_tokens.specs.declared.token.What.{What}
use Rattle.spelled_tokens.specs.declared.token.What.TheVariants as what
use Rattle.token_lines.specs.declared.printed.Printed.{Printed}
use Rattle.token_lines.specs.declared.printed.Printed.TheVariants.{Plain}
use Rattle.token_lines.specs.Tokens.{what_of}
use Rattle.token_lines.specs.Lines.{Line, line, whats_of_lines}
use Rattle.tree_print.specs.Brackets.{sign, name, ann_tokens, expr_tokens, exprs_tokens, more_exprs_tokens, placed}
use Rattle.tree_print.specs.ScriptLines.{give_tokens, type_tokens, head_tokens, stmt_lines, block_lines, branches_lines, else_lines, fields_lines, body_lines, class_lines, def_tokens, def_lines, item_lines, items_lines, script_lines}
use Rattle.tree_print.proofs.Nested.{newline, give_whats, assign_whats, inner_whats, head_whats, stmt_whats, block_whats, branches_whats, else_whats, fields_whats, body_whats, class_whats, def_whats, item_whats, items_whats, script_whats, AnyBranch, AnyStmt, FullStmt, FullStmts, FullBranches, FullElse, FullItem, FullItems}
use Rattle.tree_print.proofs.Leaving.{StartsWithin, StartsAt, within, wider, level, inner}

-- ---- where lines start

branches_at : (d : ℕ) (m : Mark) (bs : Branches) (ls rest : List Line) → AnyBranch bs → StartsAt d ((branches_lines d m bs ++ ls) ++ rest)
branches_at d m no_branches ls rest h = absurd h
branches_at d m (more_branches e body bs) ls rest h = refl

stmt_at : (d : ℕ) (s : Stmt) (rest : List Line) → FullStmt s → StartsAt d (stmt_lines d s ++ rest)
stmt_at d stmt.pass rest h = refl
stmt_at d (stmt.give p o) rest h = refl
stmt_at d (stmt.print p es) rest h = refl
stmt_at d (stmt.assign w o e) rest h = refl
stmt_at d (stmt.write o w e) rest h = refl
stmt_at d (stmt.start w p f es) rest h = refl
stmt_at d (stmt.plain e) rest h = refl
stmt_at d (stmt.if_any bs el) rest h = branches_at d mark.If bs (else_lines d el) rest h.0
stmt_at d (stmt.loop e body) rest h = refl

block_at : (d : ℕ) (b : Block) (rest : List Line) → AnyStmt b → FullStmts b → StartsAt d (block_lines d b ++ rest)
block_at d no_stmts rest h k = absurd h
block_at d (more_stmts s ss) rest h k = rw append_assoc (stmt_at d s (block_lines d ss ++ rest) k.0)

block_within : (d : ℕ) (b : Block) (rest : List Line) → FullStmts b → StartsWithin d rest → StartsWithin d (block_lines d b ++ rest)
block_within d no_stmts rest k h = h
block_within d (more_stmts s ss) rest k h = within d (block_lines d (more_stmts s ss) ++ rest) (block_at d (more_stmts s ss) rest tt k)

branches_within : (d : ℕ) (m : Mark) (bs : Branches) (rest : List Line) → StartsWithin d rest → StartsWithin d (branches_lines d m bs ++ rest)
branches_within d m no_branches rest h = h
branches_within d m (more_branches e body bs) rest h = omega arith

else_within : (d : ℕ) (el : Else) (rest : List Line) → StartsWithin d rest → StartsWithin d (else_lines d el ++ rest)
else_within d no_else rest h = h
else_within d (otherwise body) rest h = omega arith

-- ---- statements

give_level : (d : ℕ) (p : Place) (o : Option Expr) (rest : List Line) → whats_of_lines d (stmt_lines d (stmt.give p o) ++ rest) ≡ give_whats o ++ whats_of_lines d rest
give_level d p None rest = level d (give_tokens None) rest
give_level d p (Some e) rest = level d (give_tokens (Some e)) rest ∙ simp append_assoc

two_parts : (xs : List Printed) (y : Printed) (zs : List Printed) (rest : List What)
    → map what_of (xs ++ (y ∷ zs)) ++ (newline ∷ rest) ≡ (map what_of xs ++ (what_of y ∷ (map what_of zs ++ newline ∷ []))) ++ rest
two_parts xs y zs rest = simp (map-append, append_assoc)

assign_level : (d : ℕ) (w : Word) (o : Option Ann) (e : Expr) (rest : List Line)
    → whats_of_lines d (stmt_lines d (stmt.assign w o e) ++ rest) ≡ (what.Name w.text ∷ assign_whats o e) ++ whats_of_lines d rest
assign_level d w None e rest = level d (name w ∷ (type_tokens None ++ (sign mark.Equals ∷ expr_tokens e))) rest ∙ simp append_assoc
assign_level d w (Some a) e rest = level d (name w ∷ (type_tokens (Some a) ++ (sign mark.Equals ∷ expr_tokens e))) rest
    ∙ ap (λ (ws : List What). what.Name w.text ∷ what.Mark mark.Colon ∷ ws) (two_parts (ann_tokens a) (sign mark.Equals) (expr_tokens e) (whats_of_lines d rest))

-- a head, and the block behind it
head_level : (d : ℕ) (m : Mark) (e : Expr) (b : Block) (rest : List Line) → AnyStmt b → FullStmts b → StartsWithin d rest
    → whats_of_lines (suc d) (block_lines (suc d) b ++ rest) ≡ block_whats b ++ whats_of_lines (suc d) rest
    → whats_of_lines d (line d (head_tokens m e) ∷ (block_lines (suc d) b ++ rest)) ≡ head_whats m e (inner_whats (block_whats b) ++ whats_of_lines d rest)
head_level d m e b rest any full h is =
    level d (head_tokens m e) (block_lines (suc d) b ++ rest)
    ∙ ap (λ (ws : List What). map what_of (head_tokens m e) ++ (newline ∷ ws)) (inner d (block_lines (suc d) b) rest (block_whats b) (block_at (suc d) b rest any full) h is)
    ∙ simp (map-append, append_assoc)

mutual
  -- the lines of a statement are its tokens, whatever comes behind, if that stands no deeper
  pub laid_stmt : (d : ℕ) (s : Stmt) (rest : List Line) → FullStmt s → StartsWithin d rest → whats_of_lines d (stmt_lines d s ++ rest) ≡ stmt_whats s ++ whats_of_lines d rest
  laid_stmt d stmt.pass rest k h = level d (sign mark.Pass ∷ []) rest
  laid_stmt d (stmt.give p o) rest k h = give_level d p o rest
  laid_stmt d (stmt.print p es) rest k h =
      level d (sign mark.Print ∷ Plain what.Open ∷ (exprs_tokens es ++ Plain what.Close ∷ [])) rest ∙ simp (map-append, append_assoc)
  laid_stmt d (stmt.assign w o e) rest k h = assign_level d w o e rest
  laid_stmt d (stmt.write o w e) rest k h =
      level d (placed 8 o (expr_tokens o) ++ (Plain what.Dot ∷ name w ∷ sign mark.Equals ∷ expr_tokens e)) rest ∙ simp (map-append, append_assoc)
  laid_stmt d (stmt.start w p f es) rest k h =
      level d (name w ∷ sign mark.Equals ∷ sign mark.Start ∷ Plain what.Open ∷ (expr_tokens f ++ (more_exprs_tokens es ++ Plain what.Close ∷ []))) rest
      ∙ simp (map-append, append_assoc)
  laid_stmt d (stmt.plain e) rest k h = level d (expr_tokens e) rest ∙ simp append_assoc
  laid_stmt d (stmt.if_any bs el) rest k h =
      ap (λ (ls : List Line). whats_of_lines d ls) (append_assoc (branches_lines d mark.If bs) (else_lines d el) rest)
      ∙ laid_branches d mark.If bs (else_lines d el ++ rest) k.1 (else_within d el rest h)
      ∙ ap (λ (ws : List What). branches_whats mark.If bs ++ ws) (laid_else d el rest k.2 h)
      ∙ sym (append_assoc (branches_whats mark.If bs) (else_whats el) (whats_of_lines d rest))
  laid_stmt d (stmt.loop e body) rest k h =
      head_level d mark.While e body rest k.0 k.1 h (laid_block (suc d) body rest k.1 (wider d rest h)) ∙ simp append_assoc

  pub laid_block : (d : ℕ) (b : Block) (rest : List Line) → FullStmts b → StartsWithin d rest → whats_of_lines d (block_lines d b ++ rest) ≡ block_whats b ++ whats_of_lines d rest
  laid_block d no_stmts rest k h = refl
  laid_block d (more_stmts s ss) rest k h =
      ap (λ (ls : List Line). whats_of_lines d ls) (append_assoc (stmt_lines d s) (block_lines d ss) rest)
      ∙ laid_stmt d s (block_lines d ss ++ rest) k.0 (block_within d ss rest k.1 h)
      ∙ ap (λ (ws : List What). stmt_whats s ++ ws) (laid_block d ss rest k.1 h)
      ∙ sym (append_assoc (stmt_whats s) (block_whats ss) (whats_of_lines d rest))

  pub laid_branches : (d : ℕ) (m : Mark) (bs : Branches) (rest : List Line) → FullBranches bs → StartsWithin d rest
      → whats_of_lines d (branches_lines d m bs ++ rest) ≡ branches_whats m bs ++ whats_of_lines d rest
  laid_branches d m no_branches rest k h = refl
  laid_branches d m (more_branches e body bs) rest k h =
      let on : List Line = branches_lines d mark.Elif bs ++ rest in
      let fits : StartsWithin d on = branches_within d mark.Elif bs rest h in
      ap (λ (ls : List Line). whats_of_lines d (line d (head_tokens m e) ∷ ls)) (append_assoc (block_lines (suc d) body) (branches_lines d mark.Elif bs) rest)
      ∙ head_level d m e body on k.0 k.1 fits (laid_block (suc d) body on k.1 (wider d on fits))
      ∙ ap (λ (ws : List What). head_whats m e (inner_whats (block_whats body) ++ ws)) (laid_branches d mark.Elif bs rest k.2 h)
      ∙ simp append_assoc

  pub laid_else : (d : ℕ) (el : Else) (rest : List Line) → FullElse el → StartsWithin d rest → whats_of_lines d (else_lines d el ++ rest) ≡ else_whats el ++ whats_of_lines d rest
  laid_else d no_else rest k h = refl
  laid_else d (otherwise body) rest k h =
      level d (sign mark.Else ∷ sign mark.Colon ∷ []) (block_lines (suc d) body ++ rest)
      ∙ ap (λ (ws : List What). what.Mark mark.Else ∷ what.Mark mark.Colon ∷ newline ∷ ws)
      (inner d (block_lines (suc d) body) rest (block_whats body) (block_at (suc d) body rest k.0 k.1) h (laid_block (suc d) body rest k.1 (wider d rest h)))
      ∙ simp append_assoc

-- ---- classes, functions and scripts

fields_at : (fs : List FieldDef) (rest : List Line) → StartsAt 1 (body_lines fs ++ rest)
fields_at [] rest = refl
fields_at (f ∷ fs) rest = refl

laid_fields : (fs : List FieldDef) (rest : List Line) → whats_of_lines 1 (fields_lines fs ++ rest) ≡ fields_whats fs ++ whats_of_lines 1 rest
laid_fields [] rest = refl
laid_fields (f ∷ fs) rest =
    level 1 (name f.name ∷ sign mark.Colon ∷ ann_tokens f.ann) (fields_lines fs ++ rest)
    ∙ ap (λ (ws : List What). what.Name f.name.text ∷ what.Mark mark.Colon ∷ (map what_of (ann_tokens f.ann) ++ (newline ∷ ws))) (laid_fields fs rest)
    ∙ simp append_assoc

laid_body : (fs : List FieldDef) (rest : List Line) → whats_of_lines 1 (body_lines fs ++ rest) ≡ body_whats fs ++ whats_of_lines 1 rest
laid_body [] rest = level 1 (sign mark.Pass ∷ []) rest
laid_body (f ∷ fs) rest = laid_fields (f ∷ fs) rest

laid_class : (c : ClassDef) (rest : List Line) → StartsWithin 0 rest → whats_of_lines 0 (class_lines c ++ rest) ≡ class_whats c ++ whats_of_lines 0 rest
laid_class c rest h =
    level 0 (sign mark.Class ∷ name c.name ∷ sign mark.Colon ∷ []) (body_lines c.fields ++ rest)
    ∙ ap (λ (ws : List What). what.Mark mark.Class ∷ what.Name c.name.text ∷ what.Mark mark.Colon ∷ newline ∷ ws)
    (inner 0 (body_lines c.fields) rest (body_whats c.fields) (fields_at c.fields rest) h (laid_body c.fields rest))
    ∙ simp append_assoc

laid_def : (f : FuncDef) (rest : List Line) → AnyStmt (block f.body) → FullStmts (block f.body) → StartsWithin 0 rest → whats_of_lines 0 (def_lines f ++ rest) ≡ def_whats f ++ whats_of_lines 0 rest
laid_def f rest any full h =
    level 0 (def_tokens f) (block_lines 1 (block f.body) ++ rest)
    ∙ ap (λ (ws : List What). map what_of (def_tokens f) ++ (newline ∷ ws))
    (inner 0 (block_lines 1 (block f.body)) rest (block_whats (block f.body)) (block_at 1 (block f.body) rest any full) h
    (laid_block 1 (block f.body) rest full (wider 0 rest h)))
    ∙ simp (map-append, append_assoc)

laid_item : (i : Item) (rest : List Line) → FullItem i → StartsWithin 0 rest → whats_of_lines 0 (item_lines i ++ rest) ≡ item_whats i ++ whats_of_lines 0 rest
laid_item (item.Class c) rest k h = laid_class c rest h
laid_item (item.Def f) rest k h = laid_def f rest k.0 k.1 h
laid_item (item.Stmt s) rest k h = laid_stmt 0 s rest k h

item_within : (i : Item) (rest : List Line) → FullItem i → StartsWithin 0 (item_lines i ++ rest)
item_within (item.Class c) rest k = omega arith
item_within (item.Def f) rest k = omega arith
item_within (item.Stmt s) rest k = within 0 (stmt_lines 0 s ++ rest) (stmt_at 0 s rest k)

items_within : (is : List Item) → FullItems is → StartsWithin 0 (items_lines is)
items_within [] k = tt
items_within (i ∷ is) k = item_within i (items_lines is) k.0

laid_items : (is : List Item) → FullItems is → whats_of_lines 0 (items_lines is) ≡ items_whats is ++ what.Mark mark.End ∷ []
laid_items [] k = refl
laid_items (i ∷ is) k =
    laid_item i (items_lines is) k.0 (items_within is k.1) ∙ ap (λ (ws : List What). item_whats i ++ ws) (laid_items is k.1)
    ∙ sym (append_assoc (item_whats i) (items_whats is) (what.Mark mark.End ∷ []))

-- the tokens of a script's lines, with their layout, are those that the grammar nests
pub laid_script : (s : Script) → FullItems s.items → whats_of_lines 0 (script_lines s) ≡ script_whats s
laid_script s k = laid_items s.items k
