-- What stands behind the typing of a statement, or its fault.
use Rattle.std.proofs.Common.{◌≡◌, List, [], ◌++◌, ◌⊎◌, inl, inr, refl}
use Rattle.mono_syntax.specs.declared.refusal.Reason.TheVariants.{Inconsistent}
use Rattle.mono_syntax.specs.declared.refusal.Refusal.{Refusal}
use Rattle.mono_syntax.specs.Expr.{Expr}
use Rattle.mono_syntax.specs.Stmt as stmt
use Rattle.mono_syntax.specs.Stmt.{Stmt, Block, no_stmts, more_stmts, Branches, no_branches, more_branches, Else, no_else, otherwise}
use Rattle.mono_syntax.specs.Ty.{Ty, bool}
use Rattle.mono_tree.specs.Meet.{AreApart, Consistent}
use Rattle.static_types.specs.Faults.{Fault, PartFault, UseFault}
use Rattle.static_types.specs.Lines.{line_parts, LineRule, TypedLine, line, branches, loops, TypedGuarded, guards, TypedBranches, no_branch, next_branch, TypedElse, no_last, at_last, TypedBlock, ends, goes_on}
use Rattle.static_types.specs.LineFaults.{LineRuleFault, LineFault, in_part, no_rule, at_use, in_branches, in_else, in_loop, GuardedFault, in_condition, at_condition, in_guarded, BranchFault, in_branch, in_later_branch, BlockFault, in_this, in_rest}
use Rattle.static_types.specs.Names.{Names}
use Rattle.static_types.specs.Rules.{at}
use Rattle.script_rules.specs.SourcePlaces.{place_of}
use Rattle.static_types.specs.Types.{AllConsistent, Types, TypeAll}
use Rattle.static_types.proofs.TypeLaws.{part_row}

-- ---- typing

pub record PlainRow (ns : Names) (s : Stmt) (ms : Names) (all : List Ty) : Type 0 where
  pub ts : List Ty
  pub asks : List Ty
  pub typed : TypeAll ns (line_parts s) ts all
  pub rule : LineRule ns s ts asks ms
  pub used : AllConsistent ts asks

pub record IfRow (ns : Names) (bs : Branches) (last : Else) (ms : Names) (all : List Ty) : Type 0 where
  pub ks : Names
  pub us : List Ty
  pub vs : List Ty
  pub first : TypedBranches ns bs ks us
  pub second : TypedElse ks last ms vs
  pub together : all ≡ us ++ vs

pub if_row : (ns : Names) (bs : Branches) (last : Else) (ms : Names) (all : List Ty) → TypedLine ns (stmt.if_any bs last) ms all → IfRow ns bs last ms all
if_row ns bs last ms all (line asks t r c) = absurd r
if_row ns bs last ms all (branches h k q) = record { ks = _; us = _; vs = _; first = h; second = k; together = q }

pub loop_row : (ns : Names) (e : Expr) (body : Block) (ms : Names) (all : List Ty) → TypedLine ns (stmt.loop e body) ms all → TypedGuarded ns e body ms all
loop_row ns e body ms all (line asks t r c) = absurd r
loop_row ns e body ms all (loops h) = h

-- a statement that has a rule has no blocks
pub plain_row : (ns : Names) (s : Stmt) (ts asks : List Ty) (ks ms : Names) (all : List Ty) → LineRule ns s ts asks ks → TypedLine ns s ms all → PlainRow ns s ms all
plain_row ns s ts asks ks ms all w (line {ts = us} bs t r c) = record { ts = us; asks = bs; typed = t; rule = r; used = c }
plain_row ns s ts asks ks ms all w (branches h k q) = absurd w
plain_row ns s ts asks ks ms all w (loops h) = absurd w

pub record GuardedRow (ns : Names) (e : Expr) (body : Block) (ms : Names) (all : List Ty) : Type 0 where
  pub type : Ty
  pub us : List Ty
  pub vs : List Ty
  pub condition : Types ns e type us
  pub used : Consistent type bool
  pub rest : TypedBlock ns body ms vs
  pub together : all ≡ us ++ vs

pub guarded_row : (ns : Names) (e : Expr) (body : Block) (ms : Names) (all : List Ty) → TypedGuarded ns e body ms all → GuardedRow ns e body ms all
guarded_row ns e body ms all (guards h c k q) = record { type = _; us = _; vs = _; condition = h; used = c; rest = k; together = q }

pub record BranchRow (ns : Names) (e : Expr) (body : Block) (bs : Branches) (ms : Names) (all : List Ty) : Type 0 where
  pub ks : Names
  pub us : List Ty
  pub vs : List Ty
  pub first : TypedGuarded ns e body ks us
  pub rest : TypedBranches ks bs ms vs
  pub together : all ≡ us ++ vs

abbrev pub BranchesRow : Names → Branches → Names → List Ty → Type 0
BranchesRow ns no_branches ms all = (ms ≡ ns) × (all ≡ [])
BranchesRow ns (more_branches e body bs) ms all = BranchRow ns e body bs ms all

pub branches_row : (ns : Names) (bs : Branches) (ms : Names) (all : List Ty) → TypedBranches ns bs ms all → BranchesRow ns bs ms all
branches_row ns bs ms all no_branch = (refl, refl)
branches_row ns bs ms all (next_branch h k q) = record { ks = _; us = _; vs = _; first = h; rest = k; together = q }

abbrev pub ElseRow : Names → Else → Names → List Ty → Type 0
ElseRow ns no_else ms all = (ms ≡ ns) × (all ≡ [])
ElseRow ns (otherwise body) ms all = TypedBlock ns body ms all

pub else_row : (ns : Names) (last : Else) (ms : Names) (all : List Ty) → TypedElse ns last ms all → ElseRow ns last ms all
else_row ns last ms all no_last = (refl, refl)
else_row ns last ms all (at_last h) = h

pub record StmtRow (ns : Names) (s : Stmt) (rest : Block) (ms : Names) (all : List Ty) : Type 0 where
  pub ks : Names
  pub us : List Ty
  pub vs : List Ty
  pub first : TypedLine ns s ks us
  pub others : TypedBlock ks rest ms vs
  pub together : all ≡ us ++ vs

abbrev pub BlockRow : Names → Block → Names → List Ty → Type 0
BlockRow ns no_stmts ms all = (ms ≡ ns) × (all ≡ [])
BlockRow ns (more_stmts s rest) ms all = StmtRow ns s rest ms all

pub block_row : (ns : Names) (body : Block) (ms : Names) (all : List Ty) → TypedBlock ns body ms all → BlockRow ns body ms all
block_row ns body ms all ends = (refl, refl)
block_row ns body ms all (goes_on h k q) = record { ks = _; us = _; vs = _; first = h; others = k; together = q }

-- ---- faults

pub record NoRuleRow (ns : Names) (s : Stmt) (f : Refusal) : Type 0 where
  pub ts : List Ty
  pub us : List Ty
  pub typed : TypeAll ns (line_parts s) ts us
  pub fault : LineRuleFault ns s ts f

pub record AtUseRow (ns : Names) (s : Stmt) (f : Refusal) : Type 0 where
  pub ts : List Ty
  pub us : List Ty
  pub asks : List Ty
  pub ms : Names
  pub typed : TypeAll ns (line_parts s) ts us
  pub rule : LineRule ns s ts asks ms
  pub fault : UseFault (line_parts s) ts asks f

pub record ElseFaultRow (ns : Names) (bs : Branches) (body : Block) (f : Refusal) : Type 0 where
  pub ks : Names
  pub us : List Ty
  pub first : TypedBranches ns bs ks us
  pub fault : BlockFault ks body f

abbrev pub LastFaultRow : Names → Branches → Else → Refusal → Type 0
LastFaultRow ns bs no_else f = ⊥
LastFaultRow ns bs (otherwise body) f = ElseFaultRow ns bs body f

pub record AtConditionRow (ns : Names) (e : Expr) (f : Refusal) : Type 0 where
  pub type : Ty
  pub us : List Ty
  pub typed : Types ns e type us
  pub apart : AreApart type bool
  pub fault : f ≡ at (place_of e) Inconsistent

pub record InGuardedRow (ns : Names) (e : Expr) (body : Block) (f : Refusal) : Type 0 where
  pub type : Ty
  pub us : List Ty
  pub typed : Types ns e type us
  pub used : Consistent type bool
  pub fault : BlockFault ns body f

abbrev pub GuardedFaultRow : Names → Expr → Block → Refusal → Type 0
GuardedFaultRow ns e body f = Fault ns e f ⊎ (AtConditionRow ns e f ⊎ InGuardedRow ns e body f)

pub guarded_fault_row : (ns : Names) (e : Expr) (body : Block) (f : Refusal) → GuardedFault ns e body f → GuardedFaultRow ns e body f
guarded_fault_row ns e body f (in_condition h) = inl h
guarded_fault_row ns e body f (at_condition h a q) = inr (inl (record { type = _; us = _; typed = h; apart = a; fault = q }))
guarded_fault_row ns e body f (in_guarded h c k) = inr (inr (record { type = _; us = _; typed = h; used = c; fault = k }))

pub record LaterBranchRow (ns : Names) (e : Expr) (body : Block) (bs : Branches) (f : Refusal) : Type 0 where
  pub ks : Names
  pub us : List Ty
  pub first : TypedGuarded ns e body ks us
  pub fault : BranchFault ks bs f

abbrev pub BranchFaultRow : Names → Branches → Refusal → Type 0
BranchFaultRow ns no_branches f = ⊥
BranchFaultRow ns (more_branches e body bs) f = GuardedFault ns e body f ⊎ LaterBranchRow ns e body bs f

pub branch_fault_row : (ns : Names) (bs : Branches) (f : Refusal) → BranchFault ns bs f → BranchFaultRow ns bs f
branch_fault_row ns bs f (in_branch h) = inl h
branch_fault_row ns bs f (in_later_branch h k) = inr (record { ks = _; us = _; first = h; fault = k })

pub record RestFaultRow (ns : Names) (s : Stmt) (rest : Block) (f : Refusal) : Type 0 where
  pub ks : Names
  pub us : List Ty
  pub first : TypedLine ns s ks us
  pub fault : BlockFault ks rest f

abbrev pub BlockFaultRow : Names → Block → Refusal → Type 0
BlockFaultRow ns no_stmts f = ⊥
BlockFaultRow ns (more_stmts s rest) f = LineFault ns s f ⊎ RestFaultRow ns s rest f

pub block_fault_row : (ns : Names) (body : Block) (f : Refusal) → BlockFault ns body f → BlockFaultRow ns body f
block_fault_row ns body f (in_this h) = inl h
block_fault_row ns body f (in_rest h k) = inr (record { ks = _; us = _; first = h; fault = k })

abbrev pub PlainFaultRow : Names → Stmt → Refusal → Type 0
PlainFaultRow ns s f = PartFault ns (line_parts s) f ⊎ (NoRuleRow ns s f ⊎ AtUseRow ns s f)

pub plain_fault_row : (ns : Names) (s : Stmt) (ts asks : List Ty) (ks : Names) (f : Refusal) → LineRule ns s ts asks ks → LineFault ns s f → PlainFaultRow ns s f
plain_fault_row ns s ts asks ks f w (in_part h) = inl h
plain_fault_row ns s ts asks ks f w (no_rule t h) = inr (inl (record { ts = _; us = _; typed = t; fault = h }))
plain_fault_row ns s ts asks ks f w (at_use bs ms t r h) = inr (inr (record { ts = _; us = _; asks = bs; ms = ms; typed = t; rule = r; fault = h }))
plain_fault_row ns s ts asks ks f w (in_branches h) = absurd w
plain_fault_row ns s ts asks ks f w (in_else h k) = absurd w
plain_fault_row ns s ts asks ks f w (in_loop h) = absurd w

pub if_fault_row : (ns : Names) (bs : Branches) (last : Else) (f : Refusal) → LineFault ns (stmt.if_any bs last) f → BranchFault ns bs f ⊎ LastFaultRow ns bs last f
if_fault_row ns bs last f (in_part h) = absurd (part_row ns [] f h)
if_fault_row ns bs last f (no_rule t h) = absurd h
if_fault_row ns bs last f (at_use as_ ms t r h) = absurd r
if_fault_row ns bs last f (in_branches h) = inl h
if_fault_row ns bs last f (in_else h k) = inr (record { ks = _; us = _; first = h; fault = k })

pub loop_fault_row : (ns : Names) (e : Expr) (body : Block) (f : Refusal) → LineFault ns (stmt.loop e body) f → GuardedFault ns e body f
loop_fault_row ns e body f (in_part h) = absurd (part_row ns [] f h)
loop_fault_row ns e body f (no_rule t h) = absurd h
loop_fault_row ns e body f (at_use as_ ms t r h) = absurd r
loop_fault_row ns e body f (in_loop h) = h
