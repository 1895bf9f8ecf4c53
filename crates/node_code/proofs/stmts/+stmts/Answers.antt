use Rattle.std.proofs.Common.{◌≡◌, ◌∙◌, ◌++◌, ◌∷◌, [], ◌+◌, ap, sym, subst, take, ℕ, List, Option, Some, None, arith}
use Rattle.std.proofs.lemmas.List.{take_more, take_all}
use Rattle.mono_syntax.specs.declared.cast.Arg.{Arg}
use Rattle.mono_syntax.specs.declared.cast.CastBranch.{CastBranch}
use Rattle.mono_syntax.specs.declared.cast.CastStmtKind.{CastStmtKind}
use Rattle.mono_syntax.specs.CastExprView.{args, cast_exprs}
use Rattle.mono_syntax.specs.CastStmt.{CastStmt, if_any, loop, start}
use Rattle.mono_syntax.specs.CastStmtView.{cast_block, cast_branches, cast_else_block, cast_stmt_of}
use Rattle.mono_syntax.specs.Ty.{Ty}
use Rattle.mono_tree.specs.TypeNumbers.{Names}
use Rattle.type_numbers.specs.Tables.{Table}
use Rattle.node_code.specs.NodeMeaning.{Trees, IsMeant}
use Rattle.node_code.specs.Numbering.{Gives, GivesStmts, GivesBranches}
use Rattle.node_code.specs.Places.{At, Each}
use Rattle.node_code.specs.Slotted.{StmtSlotted, BlockSlotted, BranchesSlotted, ElseSlotted, ArgsSlotted}
use Rattle.node_code.specs.declared.data.BranchNode.{BranchNode}
use Rattle.node_code.specs.declared.data.Slots.{Slots}
use Rattle.node_code.proofs.Growing.{branches_kept, gives_on, grows_on, texted}
use Rattle.node_code.proofs.StmtGrowing.{branches_more, stmts_more}
use Rattle.node_code.proofs.Slotting.{branch_slotted, stmt_slotted}
use Rattle.node_code.proofs.stmts.+stmts.Goals as goal

-- what the names of a statement of this kind are
slotted : (types : List Ty) (s : Slots) (k l : CastStmtKind) → k ≡ l → StmtSlotted types s (cast_stmt_of k)
    → StmtSlotted types s (cast_stmt_of l)
slotted types s k l e u = subst (λ (z : CastStmtKind). StmtSlotted types s (cast_stmt_of z)) e u

pub body_stmts-loop-stmt-preserved : goal.body_stmts-loop-stmt-preserved
body_stmts-loop-stmt-preserved t c = λ m ok u.
    let s = c.args.slots.now in
    let i = c.loop-stmt.stmt-index in
    let xs = c.args.list.now in
    let x = c.stmt-item.result in
    let before = c.loop-stmt.invariant m ok u in
    let named = stmt_slotted c.args.tables.table.types s xs i x c.loop-stmt-test.true c.stmt-item.is u in
    let n = c.in_ok-n.ensures before.trees before.meant
    (subst (λ (z : Table). StmtSlotted z.types s x) (before.grows).table named) in
    let step : take (i + 1) xs ≡ take i xs ++ x ∷ [] = take_more xs i x c.loop-stmt-test.true
    ∙ ap (λ y. take i xs ++ y ∷ []) (sym c.stmt-item.is) in
    let more = stmts_more s c.args.tables c.loop-stmt.tables m c.loop-stmt.stmts (take i xs) x c.in_ok-n.n before n in
    subst (λ (l : List CastStmt). GivesStmts s c.args.tables m l (record { stmts = c.push.new.self; tables = c.in_ok-n.n.tables }))
    (sym step)
    (subst (λ (ns : List ℕ). GivesStmts s c.args.tables m (take i xs ++ x ∷ []) (record { stmts = ns; tables = c.in_ok-n.n.tables }))
    (sym (c.in_ok-push.ensures).ok) more)

pub body_stmts-returns : goal.body_stmts-returns
body_stmts-returns t c = λ m ok u.
    subst (λ (l : List CastStmt). GivesStmts c.args.slots.now c.args.tables m l
    (record { stmts = c.loop-stmt.stmts; tables = c.loop-stmt.tables }))
    (take_all c.loop-stmt.stmt-index c.args.list.now c.loop-stmt-test.false) (c.loop-stmt.invariant m ok u)

pub branch_nodes-loop-branch-preserved : goal.branch_nodes-loop-branch-preserved
branch_nodes-loop-branch-preserved t c = λ m ok u.
    let s = c.args.slots.now in
    let i = c.loop-branch.branch-index in
    let xs = c.args.list.now in
    let x = c.branch-item.result in
    let before = c.loop-branch.invariant m ok u in
    let named = branch_slotted c.args.tables.table.types s xs i x c.loop-branch-test.true c.branch-item.is u in
    let read : c.as_slice.result.now ≡ x.body = c.as_slice.ensures ∙ c.get.ensures in
    let n = c.in_ok-condition.ensures before.trees before.meant named.0 in
    let body = subst (λ (z : Table). BlockSlotted z.types s (cast_block x.body)) ((before.grows).table ∙ (n.grows).table) named.1 in
    let b = c.in_ok-body.ensures n.trees n.meant
    (subst (λ (l : List CastStmt). BlockSlotted c.in_ok-condition.condition.tables.table.types s (cast_block l)) (sym read) body) in
    let here = subst (λ (l : List CastStmt). Gives s c.in_ok-condition.condition.tables n.trees c.in_ok-body.body.tables
    (λ t. At t.bodies c.in_ok-body.body.at l)) read b in
    let step : take (i + 1) xs ≡ take i xs ++ x ∷ [] = take_more xs i x c.loop-branch-test.true
    ∙ ap (λ y. take i xs ++ y ∷ []) (sym c.branch-item.is) in
    let more = branches_more s c.args.tables c.loop-branch.tables m c.loop-branch.branches
    (take i xs) x c.in_ok-condition.condition c.in_ok-body.body before n here in
    subst (λ (l : List CastBranch). GivesBranches s c.args.tables m l
    (record { branches = c.push.new.self; tables = c.in_ok-body.body.tables })) (sym step)
    (subst (λ (ns : List BranchNode). GivesBranches s c.args.tables m (take i xs ++ x ∷ [])
    (record { branches = ns; tables = c.in_ok-body.body.tables })) (sym (c.in_ok-push.ensures).ok) more)

pub branch_nodes-returns : goal.branch_nodes-returns
branch_nodes-returns t c = λ m ok u.
    subst (λ (l : List CastBranch). GivesBranches c.args.slots.now c.args.tables m l
    (record { branches = c.loop-branch.branches; tables = c.loop-branch.tables }))
    (take_all c.loop-branch.branch-index c.args.list.now c.loop-branch-test.false) (c.loop-branch.invariant m ok u)

pub stmt_node-returns-in_ok-value-in-Write : goal.stmt_node-returns-in_ok-value-in-Write
stmt_node-returns-in_ok-value-in-Write t c = λ m ok u.
    let s = c.args.slots.now in
    let v = slotted c.args.tables.table.types s _ _ c.in-Write.is u in
    let a = c.in_ok-object-in-Write.ensures m ok v.1 in
    let x = texted s c.in_ok-object-in-Write.object.tables a.trees c.in-Write.field c.in_ok-field-in-Write.field a.meant
    c.in_ok-field-in-Write.ensures in
    let b = c.in_ok-value-in-Write.ensures x.trees x.meant v.2 in
    let behind = grows_on x.grows b.grows in
    let whole = grows_on a.grows behind in
    record {
      trees = b.trees;
      grows = whole;
      meant = b.meant;
      here = (
        c.in-Write.is',
        c.in-Write.object,
        c.in-Write.field,
        c.in-Write.value,
        subst (λ (z : Table). Names z.types c.type_at-is.result c.in-Write.is') whole.table (c.type_at-is.ensures v.0),
        behind.exprs c.in_ok-object-in-Write.object.at c.in-Write.object a.here,
        (b.grows).texts c.in_ok-field-in-Write.field.at c.in-Write.field x.here,
        b.here,
        ap cast_stmt_of c.in-Write.is,
      );
    }

pub stmt_node-returns-in_ok-list-in-Start : goal.stmt_node-returns-in_ok-list-in-Start
stmt_node-returns-in_ok-list-in-Start t c = λ m ok u.
    let s = c.args.slots.now in
    let v = slotted c.args.tables.table.types s _ _ c.in-Start.is u in
    let x = c.in_ok-slot-in-Start.ensures v.0 in
    let a = c.in_ok-callee-in-Start.ensures m ok v.1 in
    let same = c.as_slice-in-Start.ensures in
    let l = c.in_ok-list-in-Start.ensures a.trees a.meant (subst (λ (l : List Arg). ArgsSlotted s (args l)) (sym same) v.2) in
    gives_on _ _ _ _ _ _ _ _ a l (
      c.in-Start.name,
      c.in-Start.callee,
      l.here.0,
      c.as_slice-in-Start.result.now,
      x,
      (l.grows).exprs c.in_ok-callee-in-Start.callee.at c.in-Start.callee a.here,
      l.here.1,
      l.here.2,
      ap cast_stmt_of c.in-Start.is ∙ ap (λ (l : List Arg). start c.in-Start.name c.in-Start.site c.in-Start.callee (args l)) (sym same),
    )

pub stmt_node-returns-in_ok-last-in-If : goal.stmt_node-returns-in_ok-last-in-If
stmt_node-returns-in_ok-last-in-If t c = λ m ok u.
    let s = c.args.slots.now in
    let v = slotted c.args.tables.table.types s _ _ c.in-If.is u in
    let given = c.as_slice-in-If.result.now in
    let same : given ≡ c.in-If.branches = c.as_slice-in-If.ensures ∙ c.get.ensures in
    let l = c.in_ok-list-in-If.ensures m ok
    (subst (λ (l : List CastBranch). BranchesSlotted c.args.tables.table.types s (cast_branches l)) (sym same) v.0) in
    let b = c.in_ok-last-in-If.ensures l.trees l.meant
    (subst (λ (z : Table). ElseSlotted z.types s (cast_else_block c.in-If.last)) (l.grows).table v.1) in
    gives_on _ _ _ _ _ _ _ _ l b (
      l.here.0,
      given,
      c.in-If.last,
      (b.grows).branches c.in_ok-list-in-If.list.at l.here.0 l.here.1,
      branches_kept s c.in_ok-list-in-If.list.tables c.in_ok-last-in-If.last.tables l.trees b.trees b.grows l.here.0 given l.here.2,
      b.here,
      ap cast_stmt_of c.in-If.is ∙ ap (λ (l : List CastBranch). if_any (cast_branches l) (cast_else_block c.in-If.last)) (sym same),
    )

pub stmt_node-returns-in_ok-body-in-While : goal.stmt_node-returns-in_ok-body-in-While
stmt_node-returns-in_ok-body-in-While t c = λ m ok u.
    let s = c.args.slots.now in
    let v = slotted c.args.tables.table.types s _ _ c.in-While.is u in
    let given = c.as_slice-in-While.result.now in
    let same : given ≡ c.in-While.body = c.as_slice-in-While.ensures ∙ c.get-in-While.ensures in
    let a = c.in_ok-condition-in-While.ensures m ok v.0 in
    let body = subst (λ (z : Table). BlockSlotted z.types s (cast_block c.in-While.body)) (a.grows).table v.1 in
    let b = c.in_ok-body-in-While.ensures a.trees a.meant
    (subst (λ (l : List CastStmt). BlockSlotted c.in_ok-condition-in-While.condition.tables.table.types s (cast_block l))
    (sym same) body) in
    gives_on _ _ _ _ _ _ _ _ a b (
      c.in-While.condition,
      given,
      (b.grows).exprs c.in_ok-condition-in-While.condition.at c.in-While.condition a.here,
      b.here,
      ap cast_stmt_of c.in-While.is ∙ ap (λ (l : List CastStmt). loop c.in-While.condition (cast_block l)) (sym same),
    )
