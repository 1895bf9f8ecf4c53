-- The parts of what stands in a script stand in it too, and so do the annotations of the names that it gives.
use Rattle.std.proofs.Common.{◌≡◌, inl, inr, ℕ, List, [], ◌∷◌, ◌++◌, not, Option, Some, None, map, flat_map, refl, ap, bytes_eq, if◌then◌else◌}
use Rattle.mono_list.proofs.Cases.{split}
use Rattle.mono_syntax.specs.declared.tree.ClassDef.{ClassDef}
use Rattle.mono_syntax.specs.declared.tree.Item.{Item}
use Rattle.mono_syntax.specs.declared.tree.Item.TheVariants as item
use Rattle.mono_syntax.specs.declared.tree.Param.{Param}
use Rattle.mono_syntax.specs.declared.tree.Script.{Script}
use Rattle.mono_syntax.specs.Expr as expr
use Rattle.mono_syntax.specs.Expr.{Expr, Exprs}
use Rattle.mono_syntax.specs.ExprView.{exprs_list}
use Rattle.mono_syntax.specs.Stmt as stmt
use Rattle.mono_syntax.specs.Stmt.{Stmt, Block, Branches, Else}
use Rattle.mono_syntax.specs.StmtView.{block}
use Rattle.script_rules.specs.BlockNames.{Target, of_param, targets, block_targets, branch_targets, else_targets, all_targets, elsewhere, firsts}
use Rattle.script_rules.specs.Definitions.{statements_of}
use Rattle.script_rules.specs.SourceParts.{Part, any_ann, expr_parts, exprs_parts, stmt_parts, block_parts, branch_parts, else_parts, param_parts, body_parts, item_parts, parts_of}
use Rattle.static_types.specs.Lines.{line_parts}
use Rattle.static_types.specs.Parts.{class_called, call_parts, parts}
use Rattle.class_types.proofs.OrderLaws.{In, in-left, in-right, in-cases}
use Rattle.cast_rules.proofs.RightTypes.{Stand, stand_left, stand_right}

-- ---- expressions

abbrev pub AllStand : Script → List Expr → Type 0
AllStand s [] = Unit {0}
AllStand s (e ∷ es) = Stand s (expr_parts e) × AllStand s es

pub list_stand : (s : Script) (es : Exprs) → Stand s (exprs_parts es) → AllStand s (exprs_list es)
list_stand s expr.no_exprs h = tt
list_stand s (expr.more_exprs e es) h = (stand_left s (expr_parts e) (exprs_parts es) h, list_stand s es (stand_right s (expr_parts e) (exprs_parts es) h))

call_stand : (s : Script) (o : Option ClassDef) (f : Expr) (es : List Expr) → Stand s (expr_parts f) → AllStand s es → AllStand s (call_parts o f es)
call_stand s None f es h k = (h, k)
call_stand s (Some d) f es h k = k

pub parts_stand : (s : Script) (cs : List ClassDef) (e : Expr) → Stand s (expr_parts e) → AllStand s (parts cs e)
parts_stand s cs (expr.local w) h = tt
parts_stand s cs (expr.number p n) h = tt
parts_stand s cs (expr.text p t) h = tt
parts_stand s cs (expr.truth p b) h = tt
parts_stand s cs (expr.nil p) h = tt
parts_stand s cs (expr.neg p a) h = (h, tt)
parts_stand s cs (expr.negation p a) h = (h, tt)
parts_stand s cs (expr.binary o p a b) h = (stand_left s (expr_parts a) (expr_parts b) h, (stand_right s (expr_parts a) (expr_parts b) h, tt))
parts_stand s cs (expr.both a b) h = (stand_left s (expr_parts a) (expr_parts b) h, (stand_right s (expr_parts a) (expr_parts b) h, tt))
parts_stand s cs (expr.either a b) h = (stand_left s (expr_parts a) (expr_parts b) h, (stand_right s (expr_parts a) (expr_parts b) h, tt))
parts_stand s cs (expr.read a w) h = (h, tt)
parts_stand s cs (expr.call p f es) h =
    let rest : Stand s (expr_parts f ++ exprs_parts es) = λ x i. h x (inr i) in
    call_stand s (class_called cs f) f (exprs_list es) (stand_left s (expr_parts f) (exprs_parts es) rest) (list_stand s es (stand_right s (expr_parts f) (exprs_parts es) rest))
parts_stand s cs (expr.cast p t a) h = ((λ x i. h x (inr i)), tt)
parts_stand s cs (expr.join p w) h = tt

-- ---- statements

pub line_stands : (s : Script) (l : Stmt) → Stand s (stmt_parts l) → AllStand s (line_parts l)
line_stands s stmt.pass h = tt
line_stands s (stmt.give p None) h = ((λ x i. absurd i), tt)
line_stands s (stmt.give p (Some e)) h = (h, tt)
line_stands s (stmt.print p es) h = list_stand s es (λ x i. h x (inr i))
line_stands s (stmt.assign w a e) h = (stand_right s (any_ann a) (expr_parts e) h, tt)
line_stands s (stmt.write o w e) h = (stand_left s (expr_parts o) (expr_parts e) h, (stand_right s (expr_parts o) (expr_parts e) h, tt))
line_stands s (stmt.start w p f es) h =
    let rest : Stand s (expr_parts f ++ exprs_parts es) = λ x i. h x (inr i) in
    (stand_left s (expr_parts f) (exprs_parts es) rest, list_stand s es (stand_right s (expr_parts f) (exprs_parts es) rest))
line_stands s (stmt.plain e) h = (h, tt)
line_stands s (stmt.if_any bs last) h = tt
line_stands s (stmt.loop e body) h = tt

-- a block and the list of its statements have the same parts
pub block_part_list : (ss : List Stmt) → block_parts (block ss) ≡ body_parts ss
block_part_list [] = refl
block_part_list (x ∷ ss) = ap (λ l. stmt_parts x ++ l) (block_part_list ss)

-- ---- items

pub main_parts : (is : List Item) (x : Part) → In x (body_parts (statements_of is)) → In x (parts_of is)
main_parts [] x h = h
main_parts (item.Class d ∷ is) x h = in-right x (item_parts (item.Class d)) (parts_of is) (main_parts is x h)
main_parts (item.Def d ∷ is) x h = in-right x (item_parts (item.Def d)) (parts_of is) (main_parts is x h)
main_parts (item.Stmt l ∷ is) x h = elim (in-cases x (stmt_parts l) (body_parts (statements_of is)) h) [
  | inl i ↦ in-left x (stmt_parts l) (parts_of is) i
  | inr i ↦ in-right x (stmt_parts l) (parts_of is) (main_parts is x i)
]

-- ---- the annotations of targets

abbrev pub TargetsStand : Script → List Target → Type 0
TargetsStand s [] = Unit {0}
TargetsStand s (t ∷ ts) = Stand s (any_ann t.ann) × TargetsStand s ts

targets_append : (s : Script) (xs ys : List Target) → TargetsStand s xs → TargetsStand s ys → TargetsStand s (xs ++ ys)
targets_append s [] ys h k = k
targets_append s (x ∷ xs) ys h k = (h.0, targets_append s xs ys h.1 k)

mutual
  stmt_targets : (s : Script) (l : Stmt) → Stand s (stmt_parts l) → TargetsStand s (targets l)
  stmt_targets s stmt.pass h = tt
  stmt_targets s (stmt.give p e) h = tt
  stmt_targets s (stmt.print p es) h = tt
  stmt_targets s (stmt.assign w a e) h = (stand_left s (any_ann a) (expr_parts e) h, tt)
  stmt_targets s (stmt.write o w e) h = tt
  stmt_targets s (stmt.start w p f es) h = tt
  stmt_targets s (stmt.plain e) h = tt
  stmt_targets s (stmt.if_any bs last) h =
      targets_append s (branch_targets bs) (else_targets last) (branches_targets s bs (stand_left s (branch_parts bs) (else_parts last) h))
      (last_targets s last (stand_right s (branch_parts bs) (else_parts last) h))
  stmt_targets s (stmt.loop e b) h = inner_targets s b (stand_right s (expr_parts e) (block_parts b) h)

  inner_targets : (s : Script) (b : Block) → Stand s (block_parts b) → TargetsStand s (block_targets b)
  inner_targets s stmt.no_stmts h = tt
  inner_targets s (stmt.more_stmts l b) h =
      targets_append s (targets l) (block_targets b) (stmt_targets s l (stand_left s (stmt_parts l) (block_parts b) h))
      (inner_targets s b (stand_right s (stmt_parts l) (block_parts b) h))

  branches_targets : (s : Script) (bs : Branches) → Stand s (branch_parts bs) → TargetsStand s (branch_targets bs)
  branches_targets s stmt.no_branches h = tt
  branches_targets s (stmt.more_branches e b bs) h =
      let front = stand_left s (expr_parts e ++ block_parts b) (branch_parts bs) h in
      targets_append s (block_targets b) (branch_targets bs) (inner_targets s b (stand_right s (expr_parts e) (block_parts b) front))
      (branches_targets s bs (stand_right s (expr_parts e ++ block_parts b) (branch_parts bs) h))

  last_targets : (s : Script) (l : Else) → Stand s (else_parts l) → TargetsStand s (else_targets l)
  last_targets s stmt.no_else h = tt
  last_targets s (stmt.otherwise b) h = inner_targets s b h

body_targets : (s : Script) (ss : List Stmt) → Stand s (body_parts ss) → TargetsStand s (flat_map targets ss)
body_targets s [] h = tt
body_targets s (l ∷ ss) h =
    targets_append s (targets l) (flat_map targets ss) (stmt_targets s l (stand_left s (stmt_parts l) (body_parts ss) h))
    (body_targets s ss (stand_right s (stmt_parts l) (body_parts ss) h))

param_targets : (s : Script) (ps : List Param) → Stand s (param_parts ps) → TargetsStand s (map of_param ps)
param_targets s [] h = tt
param_targets s (p ∷ ps) h = (stand_left s (any_ann p.ann) (param_parts ps) h, param_targets s ps (stand_right s (any_ann p.ann) (param_parts ps) h))

kept : (s : Script) (x : List ℕ) (ts : List Target) → TargetsStand s ts → TargetsStand s (elsewhere x ts)
kept s x [] h = tt
kept s x (t ∷ ts) h =
    split (not (bytes_eq x t.word.text)) (λ b. TargetsStand s (if b then t ∷ elsewhere x ts else elsewhere x ts))
    (λ _. (h.0, kept s x ts h.1)) (λ _. kept s x ts h.1)

first_targets : (s : Script) (ts : List Target) → TargetsStand s ts → TargetsStand s (firsts ts)
first_targets s [] h = tt
first_targets s (t ∷ ts) h = (h.0, kept s t.word.text (firsts ts) (first_targets s ts h.1))

-- those of the names of a block
pub names_stand : (s : Script) (ps : List Param) (ss : List Stmt) → Stand s (param_parts ps) → Stand s (body_parts ss) → TargetsStand s (firsts (all_targets ps ss))
names_stand s ps ss h k = first_targets s (all_targets ps ss) (targets_append s (map of_param ps) (flat_map targets ss) (param_targets s ps h) (body_targets s ss k))
