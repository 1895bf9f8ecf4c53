-- In the grammar's trees no block is empty.
use Rattle.std.proofs.Common.{ℕ, Bool, List}
use Rattle.mono_syntax.specs.declared.tree.Branch.{Branch}
use Rattle.mono_syntax.specs.declared.tree.FuncDef.{FuncDef}
use Rattle.mono_syntax.specs.declared.tree.Item.{Item}
use Rattle.mono_syntax.specs.declared.tree.Script.{Script}
use Rattle.mono_syntax.specs.Stmt as stmt
use Rattle.mono_syntax.specs.StmtView.{block, branches}
use Rattle.spelled_tokens.specs.declared.token.Spelled.{Spelled}
use Rattle.parse_script.specs.Definitions as ds
use Rattle.parse_script.specs.Definitions.{DerivesDef}
use Rattle.parse_script.specs.Script as sc
use Rattle.parse_script.specs.Script.{DerivesItem, DerivesItems, DerivesWhole}
use Rattle.parse_script.specs.Statements as st
use Rattle.parse_script.specs.Statements.{DerivesStmt, DerivesTail, DerivesBlock, DerivesStmts}
use Rattle.tree_print.proofs.Nested.{AnyStmt, FullStmt, FullStmts, FullBranches, FullElse, FullItem, FullItems}

mutual
  full_stmt : {i : Bool} {d : ℕ} {ts : List Spelled} {s : stmt.Stmt} → DerivesStmt i d ts s → FullStmt s
  full_stmt (st.pass d p q) = tt
  full_stmt (st.give_none d p q i) = tt
  full_stmt (st.give d p q ts e i k) = tt
  full_stmt (st.print d p q r s ts w es k l) = tt
  full_stmt (st.assign d p q r x ts e k) = tt
  full_stmt (st.declare d p q r s x us a ts e t k) = tt
  full_stmt (st.write d p q r s x us w o ts e k l m) = tt
  full_stmt (st.start d p q r s t u x ts w e es k l) = tt
  full_stmt (st.plain d q ts e k) = tt
  full_stmt (st.if_any d p q ts e us ss vs bs el l k b t) =
      let body = full_block b in
      let tail = full_tail t in
      (tt, (body.0, body.1, tail.0), tail.1)
  full_stmt (st.while d p q ts e us ss l k b) = full_block b

  full_tail : {i : Bool} {d : ℕ} {ts : List Spelled} {bs : List Branch} {el : stmt.Else} → DerivesTail i d ts bs el → FullBranches (branches bs) × FullElse el
  full_tail (st.no_else d) = (tt, tt)
  full_tail (st.elif d p q ts e us ss vs bs el k b t) =
      let body = full_block b in
      let tail = full_tail t in
      ((body.0, body.1, tail.0), tail.1)
  full_tail (st.otherwise d p q us ss b) = (tt, full_block b)

  full_block : {i : Bool} {d : ℕ} {ts : List Spelled} {ss : List stmt.Stmt} → DerivesBlock i d ts ss → AnyStmt (block ss) × FullStmts (block ss)
  full_block (st.indented d p q r us ss k) = full_stmts k

  full_stmts : {i : Bool} {d : ℕ} {ts : List Spelled} {ss : List stmt.Stmt} → DerivesStmts i d ts ss → AnyStmt (block ss) × FullStmts (block ss)
  full_stmts (st.one_stmt d ts s k) = (tt, (full_stmt k, tt))
  full_stmts (st.more_stmts d ts us s ss k l) =
      let all = full_stmts l in
      (tt, (full_stmt k, all.1))

full_def : {ts : List Spelled} {f : FuncDef} → DerivesDef ts f → AnyStmt (block f.body) × FullStmts (block f.body)
full_def (ds.def p q r s t x us xs rs a bs ss k l b) = full_block b

full_item : {ts : List Spelled} {i : Item} → DerivesItem ts i → FullItem i
full_item (sc.class ts c d) = tt
full_item (sc.def ts f d) = full_def d
full_item (sc.statement ts s d) = full_stmt d

full_items : {ts : List Spelled} {is : List Item} → DerivesItems ts is → FullItems is
full_items sc.no_items = tt
full_items (sc.more_items ts us i is d k) = (full_item d, full_items k)

-- the grammar gives no empty block
pub full_script : (ts : List Spelled) (s : Script) → DerivesWhole ts s → FullItems s.items
full_script ts s (sc.script p us is d) = full_items d
