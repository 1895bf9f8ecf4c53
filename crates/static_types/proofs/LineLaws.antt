-- A statement has its types in one way, or it has one first fault.
use Rattle.std.proofs.Common.{◌≡◌, List, ◌++◌, inl, inr, sym, ◌∙◌, subst}
use Rattle.mono_syntax.specs.declared.refusal.Refusal.{Refusal}
use Rattle.mono_syntax.specs.Expr.{Expr}
use Rattle.mono_syntax.specs.Stmt.{Stmt, Block, no_stmts, more_stmts, Branches, no_branches, more_branches, Else, no_else, otherwise}
use Rattle.mono_syntax.specs.Ty.{Ty, bool}
use Rattle.mono_tree.specs.Meet.{AreApart}
use Rattle.static_types.specs.Faults.{UseFault}
use Rattle.static_types.specs.Lines.{line_parts, LineRule, TypedLine, line, branches, loops, TypedGuarded, guards, TypedBranches, no_branch, next_branch, TypedElse, no_last, at_last, TypedBlock, ends, goes_on}
use Rattle.static_types.specs.LineFaults.{LineRuleFault, LineFault, GuardedFault, BranchFault, BlockFault}
use Rattle.static_types.specs.Names.{Names}
use Rattle.static_types.specs.Types.{AllConsistent, TypeAll}
use Rattle.static_types.proofs.LineRows.{PlainRow, plain_row, if_row, loop_row, guarded_row, branches_row, else_row, block_row, NoRuleRow, AtUseRow, LastFaultRow, plain_fault_row, if_fault_row, loop_fault_row, guarded_fault_row, branch_fault_row, block_fault_row}
use Rattle.static_types.proofs.LineRuleLaws.{line_rule_once, line_rule_or_fault}
use Rattle.static_types.proofs.TypeLaws.{type_once, types_once, typed_or_fault, all_or_fault}
use Rattle.static_types.proofs.UseLaws.{apart_or_consistent, used_or_fault}

pub record SameNames (ms ks : Names) (us vs : List Ty) : Type 0 where
  pub names : ms ≡ ks
  pub all : us ≡ vs

plain_once : (ns ms ks : Names) (s : Stmt) (ts us vs asks : List Ty) → TypeAll ns (line_parts s) ts us → LineRule ns s ts asks ms → PlainRow ns s ks vs → SameNames ms ks us vs
plain_once ns ms ks s ts us vs asks t r k =
    let same = types_once ns (line_parts s) ts k.ts us vs t k.typed in
    let rule = line_rule_once ns s ts asks k.asks ms ks r (subst (λ (z : List Ty). LineRule ns s z k.asks ks) (sym same.types) k.rule) in
    record { names = rule.names; all = same.all }

mutual
  pub line_once : (ns : Names) (s : Stmt) (ms ks : Names) (us vs : List Ty) → TypedLine ns s ms us → TypedLine ns s ks vs → SameNames ms ks us vs
  line_once ns s ms ks us vs (line {ts = ts} asks t r c) k = plain_once ns ms ks s ts us vs asks t r (plain_row ns s ts asks ms ks vs r k)
  line_once ns s ms ks us vs (branches {ks = ns2} {bs = bs} {last = last} {us = xs} {vs = ys} h h2 q) k =
      let r = if_row ns bs last ks vs k in
      let first = branches_once ns bs ns2 r.ks xs r.us h r.first in
      let moved = subst (λ (z : Names). TypedElse z last ks r.vs) (sym first.names) r.second in
      let second = else_once ns2 last ms ks ys r.vs h2 moved in
      record { names = second.names; all = q ∙ (λ j. first.all j ++ second.all j) ∙ sym r.together }
  line_once ns s ms ks us vs (loops {e = e} {body = body} h) k = guarded_once ns e body ms ks us vs h (loop_row ns e body ks vs k)

  pub guarded_once : (ns : Names) (e : Expr) (body : Block) (ms ks : Names) (us vs : List Ty) → TypedGuarded ns e body ms us → TypedGuarded ns e body ks vs → SameNames ms ks us vs
  guarded_once ns e body ms ks us vs (guards {t = t} {us = xs} {vs = ys} h c b q) k =
      let r = guarded_row ns e body ks vs k in
      let first = type_once ns e t r.type xs r.us h r.condition in
      let second = block_once ns body ms ks ys r.vs b r.rest in
      record { names = second.names; all = q ∙ (λ j. first.all j ++ second.all j) ∙ sym r.together }

  pub branches_once : (ns : Names) (bs : Branches) (ms ks : Names) (us vs : List Ty) → TypedBranches ns bs ms us → TypedBranches ns bs ks vs → SameNames ms ks us vs
  branches_once ns bs ms ks us vs no_branch k = let r = branches_row ns no_branches ks vs k in record { names = sym r.0; all = sym r.1 }
  branches_once ns bs ms ks us vs (next_branch {ks = ns2} {e = e} {body = body} {bs = bs2} {us = xs} {vs = ys} h h2 q) k =
      let r = branches_row ns (more_branches e body bs2) ks vs k in
      let first = guarded_once ns e body ns2 r.ks xs r.us h r.first in
      let moved = subst (λ (z : Names). TypedBranches z bs2 ks r.vs) (sym first.names) r.rest in
      let second = branches_once ns2 bs2 ms ks ys r.vs h2 moved in
      record { names = second.names; all = q ∙ (λ j. first.all j ++ second.all j) ∙ sym r.together }

  pub else_once : (ns : Names) (last : Else) (ms ks : Names) (us vs : List Ty) → TypedElse ns last ms us → TypedElse ns last ks vs → SameNames ms ks us vs
  else_once ns last ms ks us vs no_last k = let r = else_row ns no_else ks vs k in record { names = sym r.0; all = sym r.1 }
  else_once ns last ms ks us vs (at_last {body = body} h) k = block_once ns body ms ks us vs h (else_row ns (otherwise body) ks vs k)

  pub block_once : (ns : Names) (body : Block) (ms ks : Names) (us vs : List Ty) → TypedBlock ns body ms us → TypedBlock ns body ks vs → SameNames ms ks us vs
  block_once ns body ms ks us vs ends k = let r = block_row ns no_stmts ks vs k in record { names = sym r.0; all = sym r.1 }
  block_once ns body ms ks us vs (goes_on {ks = ns2} {s = s} {rest = rest} {us = xs} {vs = ys} h h2 q) k =
      let r = block_row ns (more_stmts s rest) ks vs k in
      let first = line_once ns s ns2 r.ks xs r.us h r.first in
      let moved = subst (λ (z : Names). TypedBlock z rest ks r.vs) (sym first.names) r.others in
      let second = block_once ns2 rest ms ks ys r.vs h2 moved in
      record { names = second.names; all = q ∙ (λ j. first.all j ++ second.all j) ∙ sym r.together }

-- ---- no fault where there are types

no_rule_typed : (ns ms : Names) (s : Stmt) (ts us asks : List Ty) (f : Refusal) → TypeAll ns (line_parts s) ts us → LineRule ns s ts asks ms → NoRuleRow ns s f → ⊥
no_rule_typed ns ms s ts us asks f t r k =
    let same = types_once ns (line_parts s) ts k.ts us k.us t k.typed in
    line_rule_or_fault ns s ts asks ms f r (subst (λ (z : List Ty). LineRuleFault ns s z f) (sym same.types) k.fault)

at_use_typed : (ns ms : Names) (s : Stmt) (ts us asks : List Ty) (f : Refusal) → TypeAll ns (line_parts s) ts us → LineRule ns s ts asks ms → AllConsistent ts asks → AtUseRow ns s f → ⊥
at_use_typed ns ms s ts us asks f t r c k =
    let same = types_once ns (line_parts s) ts k.ts us k.us t k.typed in
    let rule = line_rule_once ns s ts asks k.asks ms k.ms r (subst (λ (z : List Ty). LineRule ns s z k.asks k.ms) (sym same.types) k.rule) in
    let moved = subst (λ (z : List Ty). UseFault (line_parts s) z k.asks f) (sym same.types) k.fault in
    used_or_fault (line_parts s) ts asks f c (subst (λ (z : List Ty). UseFault (line_parts s) ts z f) (sym rule.asks) moved)

plain_typed : (ns ms : Names) (s : Stmt) (ts us asks : List Ty) (f : Refusal) → TypeAll ns (line_parts s) ts us → LineRule ns s ts asks ms → AllConsistent ts asks → LineFault ns s f → ⊥
plain_typed ns ms s ts us asks f t r c k =
    elim (plain_fault_row ns s ts asks ms f r k) [
      | inl x ↦ all_or_fault ns (line_parts s) ts us f t x
      | inr y ↦ elim y [ inl x ↦ no_rule_typed ns ms s ts us asks f t r x | inr x ↦ at_use_typed ns ms s ts us asks f t r c x ]
    ]

mutual
  pub line_or_fault : (ns : Names) (s : Stmt) (ms : Names) (us : List Ty) (f : Refusal) → TypedLine ns s ms us → LineFault ns s f → ⊥
  line_or_fault ns s ms us f (line {ts = ts} asks t r c) k = plain_typed ns ms s ts us asks f t r c k
  line_or_fault ns s ms us f (branches {ks = ks} {bs = bs} {last = last} {us = xs} {vs = ys} h h2 q) k =
      elim (if_fault_row ns bs last f k) [ inl x ↦ branches_or_fault ns bs ks xs f h x | inr x ↦ last_or_fault ns ks bs last ms xs ys f h h2 x ]
  line_or_fault ns s ms us f (loops {e = e} {body = body} h) k = guarded_or_fault ns e body ms us f h (loop_fault_row ns e body f k)

  last_or_fault : (ns ks : Names) (bs : Branches) (last : Else) (ms : Names) (us vs : List Ty) (f : Refusal) → TypedBranches ns bs ks us → TypedElse ks last ms vs → LastFaultRow ns bs last f → ⊥
  last_or_fault ns ks bs last ms us vs f h no_last k = k
  last_or_fault ns ks bs last ms us vs f h (at_last {body = body} b) k =
      let same = branches_once ns bs ks k.ks us k.us h k.first in
      block_or_fault ks body ms vs f b (subst (λ (z : Names). BlockFault z body f) (sym same.names) k.fault)

  pub guarded_or_fault : (ns : Names) (e : Expr) (body : Block) (ms : Names) (us : List Ty) (f : Refusal) → TypedGuarded ns e body ms us → GuardedFault ns e body f → ⊥
  guarded_or_fault ns e body ms us f (guards {t = t} {us = xs} {vs = ys} h c b q) k =
      elim (guarded_fault_row ns e body f k) [
        | inl x ↦ typed_or_fault ns e t xs f h x
        | inr y ↦ elim y [
          | inl x ↦ (let same = type_once ns e t x.type xs x.us h x.typed in apart_or_consistent t bool c (subst (λ (z : Ty). AreApart z bool) (sym same.type) x.apart))
          | inr x ↦ block_or_fault ns body ms ys f b x.fault
        ]
      ]

  pub branches_or_fault : (ns : Names) (bs : Branches) (ms : Names) (us : List Ty) (f : Refusal) → TypedBranches ns bs ms us → BranchFault ns bs f → ⊥
  branches_or_fault ns bs ms us f no_branch k = branch_fault_row ns no_branches f k
  branches_or_fault ns bs ms us f (next_branch {ks = ks} {e = e} {body = body} {bs = bs2} {us = xs} {vs = ys} h h2 q) k =
      elim (branch_fault_row ns (more_branches e body bs2) f k) [
        | inl x ↦ guarded_or_fault ns e body ks xs f h x
        | inr x ↦ (
            let same = guarded_once ns e body ks x.ks xs x.us h x.first in
            branches_or_fault ks bs2 ms ys f h2 (subst (λ (z : Names). BranchFault z bs2 f) (sym same.names) x.fault)
            )
      ]

  pub block_or_fault : (ns : Names) (body : Block) (ms : Names) (us : List Ty) (f : Refusal) → TypedBlock ns body ms us → BlockFault ns body f → ⊥
  block_or_fault ns body ms us f ends k = block_fault_row ns no_stmts f k
  block_or_fault ns body ms us f (goes_on {ks = ks} {s = s} {rest = rest} {us = xs} {vs = ys} h h2 q) k =
      elim (block_fault_row ns (more_stmts s rest) f k) [
        | inl x ↦ line_or_fault ns s ks xs f h x
        | inr x ↦ (let same = line_once ns s ks x.ks xs x.us h x.first in block_or_fault ks rest ms ys f h2 (subst (λ (z : Names). BlockFault z rest f) (sym same.names) x.fault))
      ]
