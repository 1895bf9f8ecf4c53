-- For which trees the nodes of a block stand. The trees are values of the logic alone: beside each list of the code there is one of
-- trees, and each node says of its own tree what the trees at its parts' numbers are.
use Rattle.std.specs.Prelude.{◌≡◌, ℕ, List, Option, Some, None}
use Rattle.mono_syntax.specs.declared.cast.Arg.{Arg}
use Rattle.mono_syntax.specs.declared.cast.CastBranch.{CastBranch}
use Rattle.mono_syntax.specs.Ty.{Ty}
use Rattle.mono_syntax.specs.CastExpr.{CastExpr}
use Rattle.mono_syntax.specs.CastExpr as expr
use Rattle.mono_syntax.specs.CastExprView.{args, cast_exprs}
use Rattle.mono_syntax.specs.CastStmt.{CastStmt}
use Rattle.mono_syntax.specs.CastStmt as stmt
use Rattle.mono_syntax.specs.CastStmtView.{cast_block, cast_branches, cast_else_block}
use Rattle.mono_tree.specs.TypeNumbers.{Names}
use Rattle.node_code.specs.Places.{At, Each}
use Rattle.node_code.specs.declared.data.ArgNode.{ArgNode}
use Rattle.node_code.specs.declared.data.BranchNode.{BranchNode}
use Rattle.node_code.specs.declared.data.Code.{Code}
use Rattle.node_code.specs.declared.data.Node.{Node}
use Rattle.node_code.specs.declared.data.Node.TheVariants as node
use Rattle.node_code.specs.declared.data.Slots.{Slots}
use Rattle.node_code.specs.declared.data.StmtNode.{StmtNode}
use Rattle.node_code.specs.declared.data.StmtNode.TheVariants as stmt_node
use Rattle.node_code.specs.declared.data.Tables.{Tables}

-- the trees of a block: of each expression's node, of each statement's, and the statements of each body
pub record Trees : Type 0 where
  pub exprs : List CastExpr
  pub stmts : List CastStmt
  pub bodies : List (List CastStmt)

-- ---- lists of parts

-- an argument, at its site
abbrev pub IsArg : Trees → ArgNode → Arg → Type 0
IsArg m n a = (n.site ≡ a.site) × At m.exprs n.node a.value

-- a value that has no site
abbrev pub IsValue : Trees → ArgNode → CastExpr → Type 0
IsValue m n e = (n.site ≡ None) × At m.exprs n.node e

-- a branch: its condition and its body
abbrev pub IsBranch : Trees → BranchNode → CastBranch → Type 0
IsBranch m n b = At m.exprs n.condition b.condition × At m.bodies n.body b.body

-- what stands behind `else`
abbrev pub IsElse : Trees → Option ℕ → Option (List CastStmt) → Type 0
IsElse m None None = Unit {0}
IsElse m (Some n) (Some b) = At m.bodies n b
IsElse m _ _ = ⊥

-- ---- expressions

-- the tree of a node, by those of its parts
abbrev pub NodeIs : Slots → Tables → Trees → Node → CastExpr → Type 0
NodeIs s t m (node.Int n) e = e ≡ expr.number n
NodeIs s t m (node.Text i) e = (x : List ℕ) × At t.texts i x × (e ≡ expr.text x)
NodeIs s t m (node.Bool b) e = e ≡ expr.truth b
NodeIs s t m node.Nil e = e ≡ expr.nil
NodeIs s t m (node.Local k i) e = (x : List ℕ) × At s.names i x × (e ≡ expr.local k x)
NodeIs s t m (node.Function g) e = e ≡ expr.function g
NodeIs s t m (node.Neg k a) e = (u : CastExpr) × At m.exprs a u × (e ≡ expr.neg k u)
NodeIs s t m (node.Not a) e = (u : CastExpr) × At m.exprs a u × (e ≡ expr.negation u)
NodeIs s t m (node.Binary o k l a b) e = (u : CastExpr) × (v : CastExpr) × At m.exprs a u × At m.exprs b v × (e ≡ expr.binary o k l u v)
NodeIs s t m (node.And a b) e = (u : CastExpr) × (v : CastExpr) × At m.exprs a u × At m.exprs b v × (e ≡ expr.both u v)
NodeIs s t m (node.Or a b) e = (u : CastExpr) × (v : CastExpr) × At m.exprs a u × At m.exprs b v × (e ≡ expr.either u v)
NodeIs s t m (node.Read k a i) e = (u : CastExpr) × (x : List ℕ) × At m.exprs a u × At t.texts i x × (e ≡ expr.read k u x)
NodeIs s t m (node.New c l) e =
    (ns : List ArgNode) × (given : List CastExpr) × At (t.code).lists l ns × Each (IsValue m) ns given
    × (e ≡ expr.make c (cast_exprs given))
NodeIs s t m (node.Call k a l) e =
    (u : CastExpr) × (ns : List ArgNode) × (given : List Arg) × At m.exprs a u × At (t.code).lists l ns × Each (IsArg m) ns given
    × (e ≡ expr.call k u (args given))
NodeIs s t m (node.Fit k a) e = (u : CastExpr) × At m.exprs a u × (e ≡ expr.fit k u)
NodeIs s t m (node.Join k i) e = (x : List ℕ) × At s.threads i x × (e ≡ expr.join k x)

-- ---- statements

-- the tree of a statement's node, by those of its parts
abbrev pub StmtIs : Slots → Tables → Trees → StmtNode → CastStmt → Type 0
StmtIs s t m stmt_node.Pass e = e ≡ stmt.pass
StmtIs s t m (stmt_node.Return k a) e = (u : CastExpr) × At m.exprs a u × (e ≡ stmt.give k u)
StmtIs s t m (stmt_node.Print l) e =
    (ns : List ArgNode) × (given : List CastExpr) × At (t.code).lists l ns × Each (IsValue m) ns given × (e ≡ stmt.print (cast_exprs given))
StmtIs s t m (stmt_node.Assign i a) e = (x : List ℕ) × (u : CastExpr) × At s.names i x × At m.exprs a u × (e ≡ stmt.assign x u)
StmtIs s t m (stmt_node.Write k l y a i b) e =
    (is : Ty) × (u : CastExpr) × (x : List ℕ) × (v : CastExpr) × Names (t.table).types y is × At m.exprs a u × At t.texts i x
    × At m.exprs b v
    × (e ≡ stmt.write k l is u x v)
StmtIs s t m (stmt_node.Start i k a l) e =
    (x : List ℕ) × (u : CastExpr) × (ns : List ArgNode) × (given : List Arg) × At s.threads i x × At m.exprs a u × At (t.code).lists l ns
    × Each (IsArg m) ns given × (e ≡ stmt.start x k u (args given))
StmtIs s t m (stmt_node.Plain a) e = (u : CastExpr) × At m.exprs a u × (e ≡ stmt.plain u)
StmtIs s t m (stmt_node.If l last) e =
    (ns : List BranchNode) × (bs : List CastBranch) × (b : Option (List CastStmt)) × At (t.code).branches l ns × Each (IsBranch m) ns bs
    × IsElse m last b × (e ≡ stmt.if_any (cast_branches bs) (cast_else_block b))
StmtIs s t m (stmt_node.While a l) e =
    (u : CastExpr) × (b : List CastStmt) × At m.exprs a u × At m.bodies l b × (e ≡ stmt.loop u (cast_block b))

-- ---- the code of a block

-- a body: the statements at these numbers
abbrev pub BodyIs : Trees → List ℕ → List CastStmt → Type 0
BodyIs m ns b = Each (λ n e. At m.stmts n e) ns b

-- each node stands for the tree beside it
pub record IsMeant (s : Slots) (t : Tables) (m : Trees) : Type 0 where
  pub exprs : Each (NodeIs s t m) (t.code).nodes m.exprs
  pub stmts : Each (StmtIs s t m) (t.code).stmts m.stmts
  pub bodies : Each (BodyIs m) (t.code).bodies m.bodies
