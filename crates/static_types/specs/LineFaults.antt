-- The first fault of typing in statements, in source order.
use Rattle.std.specs.Prelude.{◌≡◌, List, Option, Some, None}
use Rattle.mono_syntax.specs.declared.refusal.Reason.TheVariants.{Inconsistent, NoField, Syntax, Twice, UnknownName}
use Rattle.mono_syntax.specs.declared.refusal.Refusal.{Refusal}
use Rattle.mono_syntax.specs.Expr.{Expr}
use Rattle.mono_syntax.specs.Stmt as stmt
use Rattle.mono_syntax.specs.Stmt.{Stmt, Block, more_stmts, Branches, more_branches, Else, otherwise}
use Rattle.mono_syntax.specs.Ty.{Ty, bool}
use Rattle.mono_tree.specs.Meet.{AreApart, Consistent}
use Rattle.mono_tree.specs.TypedPrograms.{type_of_name}
use Rattle.static_types.specs.Faults.{Fault, PartFault, UseFault}
use Rattle.static_types.specs.Lines.{line_parts, LineRule, TypedLine, TypedGuarded, TypedBranches}
use Rattle.static_types.specs.Names.{Names}
use Rattle.static_types.specs.Rules.{member_of, CalleeFault, at}
use Rattle.script_rules.specs.SourcePlaces.{place_of}
use Rattle.static_types.specs.Types.{Types, TypeAll}

-- a name that is started before, or a callee that can't be called so
abbrev pub StartFault : Option Ty → Stmt → List Ty → Refusal → Type 0
StartFault (Some t) (stmt.start w p g es) ts f = f ≡ at w.place Twice
StartFault None (stmt.start w p g es) ts f = CalleeFault p ts f
StartFault o s ts f = ⊥

-- Where there is no rule. The grammar and the names of a script are looked at before its types, so of these no script that comes
-- here has more than a field that isn't there, and a callee that can't be called so.
abbrev pub LineRuleFault : Names → Stmt → List Ty → Refusal → Type 0
LineRuleFault ns (stmt.give p e) ts f = (ns.result ≡ None) × (f ≡ at p Syntax)
LineRuleFault ns (stmt.assign w a e) ts f = (type_of_name ns.values w.text ≡ None) × (f ≡ at w.place UnknownName)
LineRuleFault ns (stmt.write o w e) ts f = (member_of ts w.text ≡ None) × (f ≡ at w.place NoField)
LineRuleFault ns (stmt.start w p g es) ts f = StartFault (type_of_name ns.threads w.text) (stmt.start w p g es) ts f
LineRuleFault ns s ts f = ⊥

mutual
  pub data LineFault : Names → Stmt → Refusal → Type 0 where
    in_part : {ns : Names} {s : Stmt} {f : Refusal} → PartFault ns (line_parts s) f → LineFault ns s f
    no_rule : {ns : Names} {s : Stmt} {ts us : List Ty} {f : Refusal} → TypeAll ns (line_parts s) ts us → LineRuleFault ns s ts f → LineFault ns s f
    at_use : {ns : Names} {s : Stmt} {ts us : List Ty} {f : Refusal} (asks : List Ty) (ms : Names)
        → TypeAll ns (line_parts s) ts us → LineRule ns s ts asks ms → UseFault (line_parts s) ts asks f → LineFault ns s f
    -- the branches come before the else
    in_branches : {ns : Names} {bs : Branches} {last : Else} {f : Refusal} → BranchFault ns bs f → LineFault ns (stmt.if_any bs last) f
    in_else : {ns ks : Names} {bs : Branches} {body : Block} {us : List Ty} {f : Refusal}
        → TypedBranches ns bs ks us → BlockFault ks body f → LineFault ns (stmt.if_any bs (otherwise body)) f
    in_loop : {ns : Names} {e : Expr} {body : Block} {f : Refusal} → GuardedFault ns e body f → LineFault ns (stmt.loop e body) f

  -- A condition is a whole of its own, so that the fault of its use comes before those of the block behind it.
  pub data GuardedFault : Names → Expr → Block → Refusal → Type 0 where
    in_condition : {ns : Names} {e : Expr} {body : Block} {f : Refusal} → Fault ns e f → GuardedFault ns e body f
    at_condition : {ns : Names} {e : Expr} {body : Block} {t : Ty} {us : List Ty} {f : Refusal}
        → Types ns e t us → AreApart t bool → f ≡ at (place_of e) Inconsistent → GuardedFault ns e body f
    in_guarded : {ns : Names} {e : Expr} {body : Block} {t : Ty} {us : List Ty} {f : Refusal}
        → Types ns e t us → Consistent t bool → BlockFault ns body f → GuardedFault ns e body f

  pub data BranchFault : Names → Branches → Refusal → Type 0 where
    in_branch : {ns : Names} {e : Expr} {body : Block} {bs : Branches} {f : Refusal} → GuardedFault ns e body f → BranchFault ns (more_branches e body bs) f
    in_later_branch : {ns ks : Names} {e : Expr} {body : Block} {bs : Branches} {us : List Ty} {f : Refusal}
        → TypedGuarded ns e body ks us → BranchFault ks bs f → BranchFault ns (more_branches e body bs) f

  pub data BlockFault : Names → Block → Refusal → Type 0 where
    in_this : {ns : Names} {s : Stmt} {rest : Block} {f : Refusal} → LineFault ns s f → BlockFault ns (more_stmts s rest) f
    in_rest : {ns ks : Names} {s : Stmt} {rest : Block} {us : List Ty} {f : Refusal} → TypedLine ns s ks us → BlockFault ks rest f → BlockFault ns (more_stmts s rest) f
