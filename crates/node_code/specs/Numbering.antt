-- A block that has got more nodes: what stood in it stands there still.
use Rattle.std.specs.Prelude.{◌≡◌, ℕ, List, Option}
use Rattle.mono_syntax.specs.declared.cast.Arg.{Arg}
use Rattle.mono_syntax.specs.declared.cast.CastBranch.{CastBranch}
use Rattle.mono_syntax.specs.CastExpr.{CastExpr}
use Rattle.mono_syntax.specs.CastStmt.{CastStmt}
use Rattle.node_code.specs.NodeMeaning.{Trees, IsMeant, IsArg, IsValue, IsBranch, IsElse, NodeIs, StmtIs, BodyIs}
use Rattle.node_code.specs.Places.{At, Each, Keeps}
use Rattle.node_code.specs.declared.data.ArgNode.{ArgNode}
use Rattle.node_code.specs.declared.data.BranchNode.{BranchNode}
use Rattle.node_code.specs.declared.data.Slots.{Slots}
use Rattle.node_code.specs.declared.data.Tables.{Tables}
use Rattle.node_code.specs.declared.put.Body.{Body}
use Rattle.node_code.specs.declared.put.Branches.{Branches}
use Rattle.node_code.specs.declared.put.Made.{Made}
use Rattle.node_code.specs.declared.put.MadeStmt.{MadeStmt}
use Rattle.node_code.specs.declared.put.Many.{Many}
use Rattle.node_code.specs.declared.put.Numbered.{Numbered}
use Rattle.node_code.specs.declared.stmts.Else.{Else}

-- the tables b with the trees n have all that a with the trees m have, at the same numbers, and the same table of types
pub record Grows (a : Tables) (m : Trees) (b : Tables) (n : Trees) : Type 0 where
  pub texts : Keeps a.texts b.texts
  pub table : a.table ≡ b.table
  pub lists : Keeps (a.code).lists (b.code).lists
  pub branches : Keeps (a.code).branches (b.code).branches
  pub exprs : Keeps m.exprs n.exprs
  pub stmts : Keeps m.stmts n.stmts
  pub bodies : Keeps m.bodies n.bodies

-- the tables b are a's with more in them, of which this holds, by the trees for which b stands
pub record Gives (s : Slots) (a : Tables) (m : Trees) (b : Tables) (Holds : Trees → Type 0) : Type 0 where
  pub trees : Trees
  pub grows : Grows a m b trees
  pub meant : IsMeant s b trees
  pub here : Holds trees

-- the expression stands at the number
abbrev pub GivesExpr : Slots → Tables → Trees → CastExpr → Numbered → Type 0
GivesExpr s a m e r = Gives s a m r.tables (λ t. At t.exprs r.at e)

-- the node is the expression's
abbrev pub GivesNode : Slots → Tables → Trees → CastExpr → Made → Type 0
GivesNode s a m e r = Gives s a m r.tables (λ t. NodeIs s r.tables t r.node e)

-- the nodes are the values'
abbrev pub GivesValues : Slots → Tables → Trees → List CastExpr → Many → Type 0
GivesValues s a m es r = Gives s a m r.tables (λ t. Each (IsValue t) r.nodes es)

-- the nodes are the arguments'
abbrev pub GivesArgs : Slots → Tables → Trees → List Arg → Many → Type 0
GivesArgs s a m given r = Gives s a m r.tables (λ t. Each (IsArg t) r.nodes given)

-- the list of this number is the values'
abbrev pub ListsValues : Slots → Tables → Trees → List CastExpr → Numbered → Type 0
ListsValues s a m es r = Gives s a m r.tables (λ t. (ns : List ArgNode) × At ((r.tables).code).lists r.at ns × Each (IsValue t) ns es)

-- the list of this number is the arguments'
abbrev pub ListsArgs : Slots → Tables → Trees → List Arg → Numbered → Type 0
ListsArgs s a m given r = Gives s a m r.tables (λ t. (ns : List ArgNode) × At ((r.tables).code).lists r.at ns × Each (IsArg t) ns given)

-- the statement stands at the number
abbrev pub GivesStmt : Slots → Tables → Trees → CastStmt → Numbered → Type 0
GivesStmt s a m e r = Gives s a m r.tables (λ t. At t.stmts r.at e)

-- the node is the statement's
abbrev pub GivesStmtNode : Slots → Tables → Trees → CastStmt → MadeStmt → Type 0
GivesStmtNode s a m e r = Gives s a m r.tables (λ t. StmtIs s r.tables t r.node e)

-- the statements are those of the body
abbrev pub GivesStmts : Slots → Tables → Trees → List CastStmt → Body → Type 0
GivesStmts s a m b r = Gives s a m r.tables (λ t. BodyIs t r.stmts b)

-- the body stands at the number
abbrev pub GivesBody : Slots → Tables → Trees → List CastStmt → Numbered → Type 0
GivesBody s a m b r = Gives s a m r.tables (λ t. At t.bodies r.at b)

-- what stands behind `else` stands at the number
abbrev pub GivesElse : Slots → Tables → Trees → Option (List CastStmt) → Else → Type 0
GivesElse s a m b r = Gives s a m r.tables (λ t. IsElse t r.at b)

-- the nodes are the branches'
abbrev pub GivesBranches : Slots → Tables → Trees → List CastBranch → Branches → Type 0
GivesBranches s a m bs r = Gives s a m r.tables (λ t. Each (IsBranch t) r.branches bs)

-- the list of this number is the branches'
abbrev pub ListsBranches : Slots → Tables → Trees → List CastBranch → Numbered → Type 0
ListsBranches s a m bs r = Gives s a m r.tables
    (λ t. (ns : List BranchNode) × At ((r.tables).code).branches r.at ns × Each (IsBranch t) ns bs)
