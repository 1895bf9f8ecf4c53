-- In a well-typed script each name that is used is one of its block's, and each type of a write stands in the list of types.
use Rattle.std.proofs.Common.{◌≡◌, ◌∙◌, sym, ap, subst, refl, ℕ, zero, suc, Bool, true, false, List, [], ◌∷◌, map, ◌<◌, get_or, length, arith}
use Rattle.std.specs.Prelude.{Option, Some, None, bytes_eq, slice_get, if◌then◌else◌, Contains}
use Rattle.std.proofs.lemmas.Slice.Eq.{bytes_eq-Decides}
use Rattle.std.proofs.lemmas.Option.{slice_get-get_or}
use Rattle.mono_list.proofs.Cases.{none_some}
use Rattle.mono_syntax.specs.declared.cast.CastFunction.{CastFunction}
use Rattle.mono_syntax.specs.declared.cast.CastScript.{CastScript}
use Rattle.mono_syntax.specs.declared.cast.CastBlock as rust_block
use Rattle.mono_syntax.specs.declared.cast.NamedType.{NamedType}
use Rattle.mono_syntax.specs.CastExpr.{Args, CastExpr, CastExprs, binary, both, call, either, fit, function, join, local, make, more_args, more_exprs, neg, negation, nil, no_args, no_exprs, number, read, text, truth}
use Rattle.mono_syntax.specs.CastStmt.{CastBlock, CastBranches, CastElse, CastStmt, assign, give, if_any, loop, more_branches, more_stmts, no_branches, no_else, no_stmts, otherwise, pass, plain, print, start, write}
use Rattle.mono_syntax.specs.CastStmtView.{cast_block}
use Rattle.mono_syntax.specs.Ty.{Ty, Tys, no_tys, more_tys}
use Rattle.mono_tree.specs.ClosedList.{IsClosedList}
use Rattle.mono_tree.specs.TypedPrograms.{type_of_name, Scope, scope_of, HasStaticType, HaveStaticTypes, HaveArgumentTypes, IsWellTypedStatement, IsWellTypedBlock, AreWellTypedBranches, IsWellTypedElse, AreNamed, IsWellTypedFunction, IsTypedProgram}
use Rattle.node_code.specs.Blocks.{names_in, slots_of}
use Rattle.node_code.specs.Places.{At}
use Rattle.node_code.specs.Slotted.{HasSlot, HaveSlots, IsSlotted, AreSlotted, ArgsSlotted, StmtSlotted, BlockSlotted, BranchesSlotted, ElseSlotted}
use Rattle.node_code.specs.declared.data.Slots.{Slots}
use Rattle.program_code.specs.SameScript.{IsSlottedFunction, IsSlottedScript}
use Rattle.program_code.specs.TypesIn.{AreTypesIn, BlockTypesIn}
use Rattle.program_code.proofs.StaticTypes.{IsRich, closed_rich, field_use, static_type}

-- ---- names

-- a name that has a type has a slot
has_slot : (ns : List NamedType) (x : List ℕ) (t : Ty) → type_of_name ns x ≡ Some t → HasSlot (names_in ns) x
has_slot [] x t e = absurd cc
has_slot (n ∷ ns) x t e = go (bytes_eq n.name x) refl e (has_slot ns x t)
  where
    go : (b : Bool) → bytes_eq n.name x ≡ b → (if b then Some n.ty else type_of_name ns x) ≡ Some t
        → (type_of_name ns x ≡ Some t → HasSlot (names_in ns) x) → HasSlot (names_in (n ∷ ns)) x
    go true f i h = (0, ap (λ (z : List ℕ). Some z) ((bytes_eq-Decides n.name x).0 f))
    go false f i h = let (k, a) = h i in (suc k, a)

params_slotted : (ns : List NamedType) (xs : List (List ℕ)) (ts : Tys) → AreNamed ns xs ts → HaveSlots (names_in ns) xs
params_slotted ns [] no_tys h = tt
params_slotted ns [] (more_tys t ts) h = absurd h
params_slotted ns (x ∷ xs) no_tys h = absurd h
params_slotted ns (x ∷ xs) (more_tys t ts) h = (has_slot ns x t h.0, params_slotted ns xs ts h.1)

-- ---- expressions and statements

module _ (p : CastScript) (s : Scope) where
  abbrev slots : Slots
  slots = record { names = names_in s.names; threads = names_in s.threads }

  mutual
    expr_slotted : (e : CastExpr) (t : Ty) → HasStaticType p s e t → IsSlotted slots e
    expr_slotted (number n) t h = tt
    expr_slotted (text x) t h = tt
    expr_slotted (truth b) t h = tt
    expr_slotted nil t h = tt
    expr_slotted (local k x) t h = has_slot s.names x t h.1
    expr_slotted (function g) t h = tt
    expr_slotted (neg a e) t h = expr_slotted e h.1.0 h.1.1
    expr_slotted (negation e) t h = expr_slotted e h.0.0 h.0.1
    expr_slotted (binary o k a x y) t h = (expr_slotted x h.0 h.2, expr_slotted y h.1 h.3)
    expr_slotted (both x y) t h = (expr_slotted x h.0.0 h.0.1, expr_slotted y h.1.0 h.1.1)
    expr_slotted (either x y) t h = (expr_slotted x h.0.0 h.0.1, expr_slotted y h.1.0 h.1.1)
    expr_slotted (read m e x) t h = expr_slotted e h.0 h.1
    expr_slotted (make c es) t h = exprs_slotted es h.0 h.1
    expr_slotted (call k e given) t h = (expr_slotted e h.0 h.2, args_slotted given h.1 h.3)
    expr_slotted (fit k e) t h = expr_slotted e h.0 h.1
    expr_slotted (join k x) t h = has_slot s.threads x t h.1

    exprs_slotted : (es : CastExprs) (ts : List Ty) → HaveStaticTypes p s es ts → AreSlotted slots es
    exprs_slotted no_exprs ts h = tt
    exprs_slotted (more_exprs e es) ts h = (expr_slotted e h.0 h.2, exprs_slotted es h.1 h.3)

    args_slotted : (given : Args) (ts : List Ty) → HaveArgumentTypes p s given ts → ArgsSlotted slots given
    args_slotted no_args ts h = tt
    args_slotted (more_args k e rest) ts h = (expr_slotted e h.0 h.2, args_slotted rest h.1 h.3)

  -- each static type stands in the list
  module _ (types : List Ty) (rich : IsRich types) (there : (e : CastExpr) (t : Ty) → HasStaticType p s e t → Contains types t) where
    mutual
      stmt_slotted : (e : CastStmt) → IsWellTypedStatement p s e → StmtSlotted types slots e
      stmt_slotted pass h = tt
      stmt_slotted (give k e) h = expr_slotted e h.0 h.1
      stmt_slotted (print es) h = exprs_slotted es h.0 h.1
      stmt_slotted (assign x e) h = (has_slot s.names x h.2.0 h.2.1, expr_slotted e h.0 h.1)
      stmt_slotted (write m k t o x e) h =
          (field_use p types rich m h.0 x t (h.4).field (there o h.0 h.2), expr_slotted o h.0 h.2, expr_slotted e h.1 h.3)
      stmt_slotted (start x k e given) h = (has_slot s.threads x h.2 h.6, expr_slotted e h.0 h.3, args_slotted given h.1 h.4)
      stmt_slotted (plain e) h = expr_slotted e h.0 h.1
      stmt_slotted (if_any bs last) h = (branches_slotted bs h.1, else_slotted last h.2)
      stmt_slotted (loop e b) h = (expr_slotted e h.0.0 h.0.1, block_slotted b h.1)

      block_slotted : (b : CastBlock) → IsWellTypedBlock p s b → BlockSlotted types slots b
      block_slotted no_stmts h = tt
      block_slotted (more_stmts t ts) h = (stmt_slotted t h.0, block_slotted ts h.1)

      branches_slotted : (bs : CastBranches) → AreWellTypedBranches p s bs → BranchesSlotted types slots bs
      branches_slotted no_branches h = tt
      branches_slotted (more_branches e b rest) h = (expr_slotted e h.0.0 h.0.1, block_slotted b h.1, branches_slotted rest h.2)

      else_slotted : (l : CastElse) → IsWellTypedElse p s l → ElseSlotted types slots l
      else_slotted no_else h = tt
      else_slotted (otherwise b) h = block_slotted b h

-- ---- a script

module _ (p : CastScript) (types : List Ty) (rich : IsRich types) (has : AreTypesIn types p) where
  body_slotted : (b : rust_block.CastBlock) (r : Option Ty) → BlockTypesIn types b → IsWellTypedBlock p (scope_of b r) (cast_block b.body)
      → BlockSlotted types (slots_of b) (cast_block b.body)
  body_slotted b r names h =
      block_slotted p (scope_of b r) types rich (static_type p types rich has (scope_of b r) names.names names.threads) (cast_block b.body) h

  function_slotted : (f : CastFunction) → Contains p.functions f → IsWellTypedFunction p f → IsSlottedFunction types f
  function_slotted f c h = record {
    params = params_slotted f.block.names f.params h.parameters h.named;
    declared = has.functions f c;
    body = body_slotted f.block (Some h.result) (has.bodies f c) h.body;
  }

at_place : (fs : List CastFunction) (k : ℕ) (f : CastFunction) → k < length fs → get_or fs k f ≡ f → slice_get fs k ≡ Some f
at_place fs k f l e = slice_get-get_or fs k f l ∙ ap (λ (z : CastFunction). Some z) e

pub script_slotted : (p : CastScript) (types : List Ty) → ((given : List Ty) × IsClosedList given types) → AreTypesIn types p
    → IsTypedProgram p → IsSlottedScript types p
script_slotted p types closed has h =
    let rich = closed_rich types closed in
    record {
      sites = has.sites;
      functions = λ f c. let (k, l, e) = c in function_slotted p types rich has f c (h.functions k f (at_place p.functions k f l e));
      main = body_slotted p types rich has p.main None has.main h.main;
    }
