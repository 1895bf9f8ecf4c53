-- The names of a part of a script that do one thing there, in their order: its values and what it starts, whatever its expressions have.
use Rattle.std.proofs.Common.{◌≡◌, inl, inr, ℕ, List, [], ◌∷◌, ◌++◌, Bool, true, false, map, flat_map, Option, Some, None, refl, sym, ◌∙◌, ap, subst, if◌then◌else◌}
use Rattle.std.proofs.lemmas.List.{append-nil}
use Rattle.mono_list.proofs.Cases.{split}
use Rattle.mono_syntax.specs.declared.leaf.Word.{Word}
use Rattle.mono_syntax.specs.declared.tree.FuncDef.{FuncDef}
use Rattle.mono_syntax.specs.declared.tree.Param.{Param}
use Rattle.mono_syntax.specs.Ann.{Ann, ann, Anns, no_anns, more_anns}
use Rattle.mono_syntax.specs.Ann as form
use Rattle.mono_syntax.specs.Expr as expr
use Rattle.mono_syntax.specs.Expr.{Expr, Exprs}
use Rattle.mono_syntax.specs.Stmt as stmt
use Rattle.mono_syntax.specs.Stmt.{Stmt, Block, Branches, Else}
use Rattle.mono_syntax.specs.StmtView.{block}
use Rattle.script_rules.specs.BlockNames.{Target, of_param, targets, block_targets, branch_targets, else_targets, all_targets, starts, block_starts, branch_starts, else_starts, all_starts}
use Rattle.script_rules.specs.NameRules.{is_start, is_start_end}
use Rattle.script_rules.specs.Occurrences.{at, in_ann, in_anns, in_any_ann, in_expr, in_exprs, in_any_expr, in_target, in_stmt, in_block, in_branches, in_else, in_param, in_function}
use Rattle.script_rules.specs.declared.occurrence.Occurrence.{Occurrence}
use Rattle.script_rules.specs.declared.occurrence.Role.{Role}
use Rattle.script_rules.specs.declared.occurrence.Role.TheVariants as role
use Rattle.class_types.proofs.OrderLaws.{In}
use Rattle.name_scope.proofs.BoundTurns.{targets_of_block, starts_of_block}
use Rattle.cast_rules.proofs.Starts.{texts, texts_append}

-- it is a value's name in its block: a parameter, or assigned
abbrev pub is_value : Role → Bool
is_value role.Parameter = true
is_value role.Assigned = true
is_value role.Annotated = true
is_value _ = false

-- the texts of those that do this
abbrev pub pick : (Role → Bool) → List Occurrence → List (List ℕ)
pick f [] = []
pick f (o ∷ os) = if f o.role then o.text ∷ pick f os else pick f os

pub pick_append : (f : Role → Bool) (xs ys : List Occurrence) → pick f (xs ++ ys) ≡ pick f xs ++ pick f ys
pick_append f [] ys = refl
pick_append f (x ∷ xs) ys =
    split (f x.role) (λ b. (if b then x.text ∷ pick f (xs ++ ys) else pick f (xs ++ ys)) ≡ (if b then x.text ∷ pick f xs else pick f xs) ++ pick f ys)
    (λ _. ap (λ l. x.text ∷ l) (pick_append f xs ys)) (λ _. pick_append f xs ys)

-- ---- what is picked stands there

-- it is among these, does this, and has this text
pub record Found (os : List Occurrence) (f : Role → Bool) (x : List ℕ) : Type 0 where
  pub occurrence : Occurrence
  pub among : In occurrence os
  pub role : f occurrence.role ≡ true
  pub text : occurrence.text ≡ x

further : (o : Occurrence) (os : List Occurrence) (f : Role → Bool) (x : List ℕ) → Found os f x → Found (o ∷ os) f x
further o os f x h = record { occurrence = h.occurrence; among = inr h.among; role = h.role; text = h.text }

pub picked_found : (f : Role → Bool) (os : List Occurrence) (x : List ℕ) → In x (pick f os) → Found os f x
picked_found f [] x h = absurd h
picked_found f (o ∷ os) x h =
    split (f o.role) (λ b. f o.role ≡ b → In x (if b then o.text ∷ pick f os else pick f os) → Found (o ∷ os) f x)
    (λ _ e i. elim i [ inl q ↦ record { occurrence = o; among = inl refl; role = e; text = q } | inr j ↦ further o os f x (picked_found f os x j) ])
    (λ _ e i. further o os f x (picked_found f os x i)) refl h

pub found_picked : (f : Role → Bool) (os : List Occurrence) (o : Occurrence) → In o os → f o.role ≡ true → In o.text (pick f os)
found_picked f [] o h e = absurd h
found_picked f (p ∷ os) o (inl q) e =
    let t : f p.role ≡ true = ap (λ (z : Occurrence). f z.role) q ∙ e in
    subst (λ (b : Bool). In o.text (if b then p.text ∷ pick f os else pick f os)) (sym t) (inl (ap (λ (z : Occurrence). z.text) q))
found_picked f (p ∷ os) o (inr h) e =
    split (f p.role) (λ b. In o.text (if b then p.text ∷ pick f os else pick f os)) (λ _. inr (found_picked f os o h e)) (λ _. found_picked f os o h e)

-- ---- expressions and types have none

pub record IsOfStatements (f : Role → Bool) : Type 0 where
  pub read : f role.Read ≡ false
  pub called : f role.Called ≡ false
  pub joined : f role.Joined ≡ false
  pub typed : f role.Typed ≡ false

none_first : (f : Role → Bool) (r : Role) (w : Word) → f r ≡ false → pick f (at r w ∷ []) ≡ []
none_first f r w e = ap (λ (b : Bool). if b then w.text ∷ [] else []) e

pub both_none : (f : Role → Bool) (xs ys : List Occurrence) → pick f xs ≡ [] → pick f ys ≡ [] → pick f (xs ++ ys) ≡ []
both_none f xs ys h k = pick_append f xs ys ∙ (λ j. h j ++ k j)

module _ (f : Role → Bool) (quiet : IsOfStatements f) where
  mutual
    pub ann_none : (a : Ann) → pick f (in_ann a) ≡ []
    ann_none (ann p form.dyn) = refl
    ann_none (ann p form.int) = refl
    ann_none (ann p form.bool) = refl
    ann_none (ann p form.str) = refl
    ann_none (ann p form.nil) = refl
    ann_none (ann p (form.class w)) = none_first f role.Typed w quiet.typed
    ann_none (ann p (form.fun as_ a)) = both_none f (in_anns as_) (in_ann a) (anns_none as_) (ann_none a)

    anns_none : (as_ : Anns) → pick f (in_anns as_) ≡ []
    anns_none no_anns = refl
    anns_none (more_anns a as_) = both_none f (in_ann a) (in_anns as_) (ann_none a) (anns_none as_)

  pub any_none : (a : Option Ann) → pick f (in_any_ann a) ≡ []
  any_none None = refl
  any_none (Some a) = ann_none a

  mutual
    pub expr_none : (r : Role) → f r ≡ false → (e : Expr) → pick f (in_expr r e) ≡ []
    expr_none r q (expr.local w) = none_first f r w q
    expr_none r q (expr.number p n) = refl
    expr_none r q (expr.text p t) = refl
    expr_none r q (expr.truth p b) = refl
    expr_none r q (expr.nil p) = refl
    expr_none r q (expr.neg p e) = expr_none role.Read quiet.read e
    expr_none r q (expr.negation p e) = expr_none role.Read quiet.read e
    expr_none r q (expr.binary o p a b) = both_none f (in_expr role.Read a) (in_expr role.Read b) (expr_none role.Read quiet.read a) (expr_none role.Read quiet.read b)
    expr_none r q (expr.both a b) = both_none f (in_expr role.Read a) (in_expr role.Read b) (expr_none role.Read quiet.read a) (expr_none role.Read quiet.read b)
    expr_none r q (expr.either a b) = both_none f (in_expr role.Read a) (in_expr role.Read b) (expr_none role.Read quiet.read a) (expr_none role.Read quiet.read b)
    expr_none r q (expr.read e w) = expr_none role.Read quiet.read e
    expr_none r q (expr.call p g es) = both_none f (in_expr role.Called g) (in_exprs es) (expr_none role.Called quiet.called g) (exprs_none es)
    expr_none r q (expr.cast p a e) = both_none f (in_ann a) (in_expr role.Read e) (ann_none a) (expr_none role.Read quiet.read e)
    expr_none r q (expr.join p w) = none_first f role.Joined w quiet.joined

    pub exprs_none : (es : Exprs) → pick f (in_exprs es) ≡ []
    exprs_none expr.no_exprs = refl
    exprs_none (expr.more_exprs e es) = both_none f (in_expr role.Read e) (in_exprs es) (expr_none role.Read quiet.read e) (exprs_none es)

  pub read_none : (e : Expr) → pick f (in_expr role.Read e) ≡ []
  read_none e = expr_none role.Read quiet.read e

  given_none : (e : Option Expr) → pick f (in_any_expr e) ≡ []
  given_none None = refl
  given_none (Some e) = read_none e

  -- what stands between the two words of a start
  started_none : (w : Word) (g : Expr) (es : Exprs) → pick f (in_expr role.Read g ++ in_exprs es ++ at role.Ended w ∷ []) ≡ pick f (at role.Ended w ∷ [])
  started_none w g es =
      let front = both_none f (in_expr role.Read g) (in_exprs es) (read_none g) (exprs_none es) in
      pick_append f (in_expr role.Read g ++ in_exprs es) (at role.Ended w ∷ []) ∙ ap (λ (l : List (List ℕ)). l ++ pick f (at role.Ended w ∷ [])) front

abbrev pub target_texts : List Target → List (List ℕ)
target_texts ts = map (λ t. t.word.text) ts

target_texts_append : (xs ys : List Target) → target_texts (xs ++ ys) ≡ target_texts xs ++ target_texts ys
target_texts_append [] ys = refl
target_texts_append (x ∷ xs) ys = ap (λ l. x.word.text ∷ l) (target_texts_append xs ys)

-- two parts, each with what is picked from it
pub joined : (f : Role → Bool) (xs ys : List Occurrence) (ws vs : List (List ℕ)) → pick f xs ≡ ws → pick f ys ≡ vs → pick f (xs ++ ys) ≡ ws ++ vs
joined f xs ys ws vs h k = pick_append f xs ys ∙ (λ j. h j ++ k j)

-- ---- what is started

pub no_start : IsOfStatements is_start
no_start = record { read = refl; called = refl; joined = refl; typed = refl }

start_texts_target : (w : Word) (a : Option Ann) → pick is_start (in_target w a) ≡ texts []
start_texts_target w None = refl
start_texts_target w (Some a) = ann_none is_start no_start a

mutual
  pub stmt_start_texts : (s : Stmt) → pick is_start (in_stmt s) ≡ texts (starts s)
  stmt_start_texts stmt.pass = refl
  stmt_start_texts (stmt.give p e) = given_none is_start no_start e
  stmt_start_texts (stmt.print p es) = exprs_none is_start no_start es
  stmt_start_texts (stmt.assign w a e) = joined is_start (in_target w a) (in_expr role.Read e) (texts []) [] (start_texts_target w a) (read_none is_start no_start e)
  stmt_start_texts (stmt.write o w e) = both_none is_start (in_expr role.Read o) (in_expr role.Read e) (read_none is_start no_start o) (read_none is_start no_start e)
  stmt_start_texts (stmt.start w p g es) = ap (λ (l : List (List ℕ)). w.text ∷ l) (started_none is_start no_start w g es)
  stmt_start_texts (stmt.plain e) = read_none is_start no_start e
  stmt_start_texts (stmt.if_any bs last) =
      joined is_start (in_branches bs) (in_else last) (texts (branch_starts bs)) (texts (else_starts last)) (branches_start_texts bs) (else_start_texts last) ∙ sym (texts_append (branch_starts bs) (else_starts last))
  stmt_start_texts (stmt.loop e b) = joined is_start (in_expr role.Read e) (in_block b) [] (texts (block_starts b)) (read_none is_start no_start e) (block_start_texts b)

  pub block_start_texts : (b : Block) → pick is_start (in_block b) ≡ texts (block_starts b)
  block_start_texts stmt.no_stmts = refl
  block_start_texts (stmt.more_stmts s b) = joined is_start (in_stmt s) (in_block b) (texts (starts s)) (texts (block_starts b)) (stmt_start_texts s) (block_start_texts b) ∙ sym (texts_append (starts s) (block_starts b))

  pub branches_start_texts : (bs : Branches) → pick is_start (in_branches bs) ≡ texts (branch_starts bs)
  branches_start_texts stmt.no_branches = refl
  branches_start_texts (stmt.more_branches e b bs) =
      let front = joined is_start (in_expr role.Read e) (in_block b) [] (texts (block_starts b)) (read_none is_start no_start e) (block_start_texts b) in
      joined is_start (in_expr role.Read e ++ in_block b) (in_branches bs) (texts (block_starts b)) (texts (branch_starts bs)) front (branches_start_texts bs) ∙ sym (texts_append (block_starts b) (branch_starts bs))

  else_start_texts : (l : Else) → pick is_start (in_else l) ≡ texts (else_starts l)
  else_start_texts stmt.no_else = refl
  else_start_texts (stmt.otherwise b) = block_start_texts b

-- a body's, by its statements
pub body_start_texts : (ss : List Stmt) → pick is_start (in_block (block ss)) ≡ texts (flat_map starts ss)
body_start_texts ss = block_start_texts (block ss) ∙ ap texts (starts_of_block ss)

-- ---- what has been started

pub no_end : IsOfStatements is_start_end
no_end = record { read = refl; called = refl; joined = refl; typed = refl }

pub end_texts_target : (w : Word) (a : Option Ann) → pick is_start_end (in_target w a) ≡ texts []
end_texts_target w None = refl
end_texts_target w (Some a) = ann_none is_start_end no_end a

mutual
  pub stmt_end_texts : (s : Stmt) → pick is_start_end (in_stmt s) ≡ texts (starts s)
  stmt_end_texts stmt.pass = refl
  stmt_end_texts (stmt.give p e) = given_none is_start_end no_end e
  stmt_end_texts (stmt.print p es) = exprs_none is_start_end no_end es
  stmt_end_texts (stmt.assign w a e) = joined is_start_end (in_target w a) (in_expr role.Read e) (texts []) [] (end_texts_target w a) (read_none is_start_end no_end e)
  stmt_end_texts (stmt.write o w e) = both_none is_start_end (in_expr role.Read o) (in_expr role.Read e) (read_none is_start_end no_end o) (read_none is_start_end no_end e)
  stmt_end_texts (stmt.start w p g es) = started_none is_start_end no_end w g es
  stmt_end_texts (stmt.plain e) = read_none is_start_end no_end e
  stmt_end_texts (stmt.if_any bs last) =
      joined is_start_end (in_branches bs) (in_else last) (texts (branch_starts bs)) (texts (else_starts last)) (branches_end_texts bs) (else_end_texts last) ∙ sym (texts_append (branch_starts bs) (else_starts last))
  stmt_end_texts (stmt.loop e b) = joined is_start_end (in_expr role.Read e) (in_block b) [] (texts (block_starts b)) (read_none is_start_end no_end e) (block_end_texts b)

  pub block_end_texts : (b : Block) → pick is_start_end (in_block b) ≡ texts (block_starts b)
  block_end_texts stmt.no_stmts = refl
  block_end_texts (stmt.more_stmts s b) = joined is_start_end (in_stmt s) (in_block b) (texts (starts s)) (texts (block_starts b)) (stmt_end_texts s) (block_end_texts b) ∙ sym (texts_append (starts s) (block_starts b))

  pub branches_end_texts : (bs : Branches) → pick is_start_end (in_branches bs) ≡ texts (branch_starts bs)
  branches_end_texts stmt.no_branches = refl
  branches_end_texts (stmt.more_branches e b bs) =
      let front = joined is_start_end (in_expr role.Read e) (in_block b) [] (texts (block_starts b)) (read_none is_start_end no_end e) (block_end_texts b) in
      joined is_start_end (in_expr role.Read e ++ in_block b) (in_branches bs) (texts (block_starts b)) (texts (branch_starts bs)) front (branches_end_texts bs) ∙ sym (texts_append (block_starts b) (branch_starts bs))

  else_end_texts : (l : Else) → pick is_start_end (in_else l) ≡ texts (else_starts l)
  else_end_texts stmt.no_else = refl
  else_end_texts (stmt.otherwise b) = block_end_texts b

-- ---- what is a value

no_value : IsOfStatements is_value
no_value = record { read = refl; called = refl; joined = refl; typed = refl }

value_texts_target : (w : Word) (a : Option Ann) → pick is_value (in_target w a) ≡ target_texts (record { word = w; ann = a } ∷ [])
value_texts_target w None = refl
value_texts_target w (Some a) = ap (λ (l : List (List ℕ)). w.text ∷ l) (ann_none is_value no_value a)

mutual
  pub stmt_value_texts : (s : Stmt) → pick is_value (in_stmt s) ≡ target_texts (targets s)
  stmt_value_texts stmt.pass = refl
  stmt_value_texts (stmt.give p e) = given_none is_value no_value e
  stmt_value_texts (stmt.print p es) = exprs_none is_value no_value es
  stmt_value_texts (stmt.assign w a e) = joined is_value (in_target w a) (in_expr role.Read e) (target_texts (record { word = w; ann = a } ∷ [])) [] (value_texts_target w a) (read_none is_value no_value e)
  stmt_value_texts (stmt.write o w e) = both_none is_value (in_expr role.Read o) (in_expr role.Read e) (read_none is_value no_value o) (read_none is_value no_value e)
  stmt_value_texts (stmt.start w p g es) = started_none is_value no_value w g es
  stmt_value_texts (stmt.plain e) = read_none is_value no_value e
  stmt_value_texts (stmt.if_any bs last) =
      joined is_value (in_branches bs) (in_else last) (target_texts (branch_targets bs)) (target_texts (else_targets last)) (branches_value_texts bs) (else_value_texts last) ∙ sym (target_texts_append (branch_targets bs) (else_targets last))
  stmt_value_texts (stmt.loop e b) = joined is_value (in_expr role.Read e) (in_block b) [] (target_texts (block_targets b)) (read_none is_value no_value e) (block_value_texts b)

  pub block_value_texts : (b : Block) → pick is_value (in_block b) ≡ target_texts (block_targets b)
  block_value_texts stmt.no_stmts = refl
  block_value_texts (stmt.more_stmts s b) = joined is_value (in_stmt s) (in_block b) (target_texts (targets s)) (target_texts (block_targets b)) (stmt_value_texts s) (block_value_texts b) ∙ sym (target_texts_append (targets s) (block_targets b))

  branches_value_texts : (bs : Branches) → pick is_value (in_branches bs) ≡ target_texts (branch_targets bs)
  branches_value_texts stmt.no_branches = refl
  branches_value_texts (stmt.more_branches e b bs) =
      let front = joined is_value (in_expr role.Read e) (in_block b) [] (target_texts (block_targets b)) (read_none is_value no_value e) (block_value_texts b) in
      joined is_value (in_expr role.Read e ++ in_block b) (in_branches bs) (target_texts (block_targets b)) (target_texts (branch_targets bs)) front (branches_value_texts bs) ∙ sym (target_texts_append (block_targets b) (branch_targets bs))

  else_value_texts : (l : Else) → pick is_value (in_else l) ≡ target_texts (else_targets l)
  else_value_texts stmt.no_else = refl
  else_value_texts (stmt.otherwise b) = block_value_texts b

-- a body's, by its statements
pub body_value_texts : (ss : List Stmt) → pick is_value (in_block (block ss)) ≡ target_texts (flat_map targets ss)
body_value_texts ss = block_value_texts (block ss) ∙ ap target_texts (targets_of_block ss)

-- ---- functions

pub params_start : (ps : List Param) → pick is_start (flat_map in_param ps) ≡ []
params_start [] = refl
params_start (p ∷ ps) = joined is_start (in_param p) (flat_map in_param ps) [] [] (any_none is_start no_start p.ann) (params_start ps)

pub params_end : (ps : List Param) → pick is_start_end (flat_map in_param ps) ≡ []
params_end [] = refl
params_end (p ∷ ps) = joined is_start_end (in_param p) (flat_map in_param ps) [] [] (any_none is_start_end no_end p.ann) (params_end ps)

params_values : (ps : List Param) → pick is_value (flat_map in_param ps) ≡ target_texts (map of_param ps)
params_values [] = refl
params_values (p ∷ ps) =
    joined is_value (in_param p) (flat_map in_param ps) (p.name.text ∷ []) (target_texts (map of_param ps)) (ap (λ (l : List (List ℕ)). p.name.text ∷ l) (any_none is_value no_value p.ann)) (params_values ps)

pub function_starts : (d : FuncDef) → pick is_start (in_function d) ≡ texts (all_starts d.body)
function_starts d =
    let head = joined is_start (flat_map in_param d.params) (in_any_ann d.result) [] [] (params_start d.params) (any_none is_start no_start d.result) in
    joined is_start (flat_map in_param d.params ++ in_any_ann d.result) (in_block (block d.body)) [] (texts (all_starts d.body)) head (body_start_texts d.body)

pub function_values : (d : FuncDef) → pick is_value (in_function d) ≡ target_texts (all_targets d.params d.body)
function_values d =
    let head = joined is_value (flat_map in_param d.params) (in_any_ann d.result) (target_texts (map of_param d.params)) [] (params_values d.params) (any_none is_value no_value d.result)
    ∙ append-nil (target_texts (map of_param d.params)) in
    joined is_value (flat_map in_param d.params ++ in_any_ann d.result) (in_block (block d.body)) (target_texts (map of_param d.params)) (target_texts (flat_map targets d.body)) head (body_value_texts d.body)
    ∙ sym (target_texts_append (map of_param d.params) (flat_map targets d.body))
