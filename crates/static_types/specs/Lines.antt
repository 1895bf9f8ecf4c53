-- Typing of statements.
use Rattle.std.specs.Prelude.{◌≡◌, ℕ, List, [], ◌∷◌, ◌++◌, Option, Some, None}
use Rattle.mono_syntax.specs.declared.leaf.Place.{Place}
use Rattle.mono_syntax.specs.Expr.{Expr}
use Rattle.mono_syntax.specs.ExprView.{exprs_list}
use Rattle.mono_syntax.specs.Stmt as stmt
use Rattle.mono_syntax.specs.Stmt.{Stmt, Block, no_stmts, more_stmts, Branches, no_branches, more_branches, Else, no_else, otherwise}
use Rattle.mono_syntax.specs.Ty.{Ty, dyn, bool}
use Rattle.mono_tree.specs.TypedPrograms.{type_of_name}
use Rattle.script_rules.specs.SourceCasts.{returned}
use Rattle.static_types.specs.Members.{all_dyn}
use Rattle.static_types.specs.Names.{Names, with_thread}
use Rattle.static_types.specs.declared.rule.Rule.{Rule}
use Rattle.static_types.specs.Rules.{member_of, CalleeRule}
use Rattle.static_types.specs.Types.{AllConsistent, Types, TypeAll}
use Rattle.mono_tree.specs.Meet.{Consistent}

-- the expressions of a statement without blocks, in source order
abbrev pub line_parts : Stmt → List Expr
line_parts (stmt.give p e) = returned p e ∷ []
line_parts (stmt.print p es) = exprs_list es
line_parts (stmt.assign w a e) = e ∷ []
line_parts (stmt.write o w e) = o ∷ e ∷ []
line_parts (stmt.start w p f es) = f ∷ exprs_list es
line_parts (stmt.plain e) = e ∷ []
line_parts s = []

-- the value of an assignment is used at the type of its name
abbrev pub AssignRule : Option Ty → List Ty → Type 0
AssignRule None asks = ⊥
AssignRule (Some t) asks = asks ≡ t ∷ []

-- the value of a write at the type of the field
abbrev pub WriteRule : Option Ty → List Ty → Type 0
WriteRule None asks = ⊥
WriteRule (Some t) asks = asks ≡ dyn ∷ t ∷ []

-- the value of a return at the declared result, and there is one in a function alone
abbrev pub ReturnRule : Option Ty → List Ty → Type 0
ReturnRule None asks = ⊥
ReturnRule (Some t) asks = asks ≡ t ∷ []

-- a name is started once, and its thread gives what a call would
pub record StartRule (ns : Names) (x : List ℕ) (ts asks : List Ty) (ms : Names) : Type 0 where
  pub fresh : type_of_name ns.threads x ≡ None
  pub rule : Rule
  pub called : CalleeRule ts rule
  pub asked : asks ≡ rule.asks
  pub named : ms ≡ with_thread ns x rule.gives

-- The types at which a statement uses its expressions, where their types are known, and what may be named behind it.
abbrev pub LineRule : Names → Stmt → List Ty → List Ty → Names → Type 0
LineRule ns stmt.pass ts asks ms = (asks ≡ []) × (ms ≡ ns)
LineRule ns (stmt.give p e) ts asks ms = ReturnRule ns.result asks × (ms ≡ ns)
LineRule ns (stmt.print p es) ts asks ms = (asks ≡ all_dyn ts) × (ms ≡ ns)
LineRule ns (stmt.assign w a e) ts asks ms = AssignRule (type_of_name ns.values w.text) asks × (ms ≡ ns)
LineRule ns (stmt.write o w e) ts asks ms = WriteRule (member_of ts w.text) asks × (ms ≡ ns)
LineRule ns (stmt.start w p f es) ts asks ms = StartRule ns w.text ts asks ms
LineRule ns (stmt.plain e) ts asks ms = (asks ≡ dyn ∷ []) × (ms ≡ ns)
LineRule ns s ts asks ms = ⊥

mutual
  -- a statement, what may be named behind it, and the types of its expressions in source order
  pub data TypedLine : Names → Stmt → Names → List Ty → Type 0 where
    line : {ns ms : Names} {s : Stmt} {ts all : List Ty} (asks : List Ty) → TypeAll ns (line_parts s) ts all → LineRule ns s ts asks ms → AllConsistent ts asks → TypedLine ns s ms all
    -- the branches in order, and then the else
    branches : {ns ks ms : Names} {bs : Branches} {last : Else} {us vs all : List Ty}
        → TypedBranches ns bs ks us → TypedElse ks last ms vs → all ≡ us ++ vs → TypedLine ns (stmt.if_any bs last) ms all
    loops : {ns ms : Names} {e : Expr} {body : Block} {all : List Ty} → TypedGuarded ns e body ms all → TypedLine ns (stmt.loop e body) ms all

  -- a condition, which is used at `bool`, and the block behind it
  pub data TypedGuarded : Names → Expr → Block → Names → List Ty → Type 0 where
    guards : {ns ms : Names} {e : Expr} {body : Block} {t : Ty} {us vs all : List Ty}
        → Types ns e t us → Consistent t bool → TypedBlock ns body ms vs → all ≡ us ++ vs → TypedGuarded ns e body ms all

  pub data TypedBranches : Names → Branches → Names → List Ty → Type 0 where
    no_branch : {ns : Names} → TypedBranches ns no_branches ns []
    next_branch : {ns ks ms : Names} {e : Expr} {body : Block} {bs : Branches} {us vs all : List Ty}
        → TypedGuarded ns e body ks us → TypedBranches ks bs ms vs → all ≡ us ++ vs → TypedBranches ns (more_branches e body bs) ms all

  pub data TypedElse : Names → Else → Names → List Ty → Type 0 where
    no_last : {ns : Names} → TypedElse ns no_else ns []
    at_last : {ns ms : Names} {body : Block} {all : List Ty} → TypedBlock ns body ms all → TypedElse ns (otherwise body) ms all

  -- the statements of a block in order
  pub data TypedBlock : Names → Block → Names → List Ty → Type 0 where
    ends : {ns : Names} → TypedBlock ns no_stmts ns []
    goes_on : {ns ks ms : Names} {s : Stmt} {rest : Block} {us vs all : List Ty}
        → TypedLine ns s ks us → TypedBlock ks rest ms vs → all ≡ us ++ vs → TypedBlock ns (more_stmts s rest) ms all
