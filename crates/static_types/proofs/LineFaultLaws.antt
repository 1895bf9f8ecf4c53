-- A statement has one first fault.
use Rattle.std.proofs.Common.{◌≡◌, List, [], inl, inr, sym, ◌∙◌, subst}
use Rattle.mono_syntax.specs.declared.refusal.Refusal.{Refusal}
use Rattle.mono_syntax.specs.Expr.{Expr}
use Rattle.mono_syntax.specs.Stmt.{Stmt, Block, more_stmts, Branches, more_branches, Else, no_else, otherwise}
use Rattle.mono_syntax.specs.Ty.{Ty, bool}
use Rattle.mono_tree.specs.Meet.{AreApart}
use Rattle.static_types.specs.Faults.{UseFault}
use Rattle.static_types.specs.Lines.{line_parts, LineRule}
use Rattle.static_types.specs.LineFaults.{LineRuleFault, LineFault, in_part, no_rule, at_use, in_branches, in_else, in_loop, GuardedFault, in_condition, at_condition, in_guarded, BranchFault, in_branch, in_later_branch, BlockFault, in_this, in_rest}
use Rattle.static_types.specs.Names.{Names}
use Rattle.static_types.specs.Types.{TypeAll}
use Rattle.static_types.proofs.LineRows.{LastFaultRow, if_fault_row, loop_fault_row, guarded_fault_row, branch_fault_row, block_fault_row}
use Rattle.static_types.proofs.LineLaws.{line_once, guarded_once, branches_once, line_or_fault, guarded_or_fault, branches_or_fault}
use Rattle.static_types.proofs.LineRuleLaws.{line_rule_once, line_rule_or_fault, line_fault_rule_once}
use Rattle.static_types.proofs.TypeLaws.{type_once, types_once, typed_or_fault, all_or_fault, fault_once, part_once, part_row}
use Rattle.static_types.proofs.UseLaws.{apart_or_consistent, use_fault_once}

-- ---- statements without blocks

two_no_rules : (ns : Names) (s : Stmt) (ts us ts2 us2 : List Ty) (f g : Refusal) → TypeAll ns (line_parts s) ts us → TypeAll ns (line_parts s) ts2 us2
    → LineRuleFault ns s ts f → LineRuleFault ns s ts2 g → f ≡ g
two_no_rules ns s ts us ts2 us2 f g t t2 h k =
    let same = types_once ns (line_parts s) ts ts2 us us2 t t2 in
    line_fault_rule_once ns s ts f g h (subst (λ (z : List Ty). LineRuleFault ns s z g) (sym same.types) k)

rule_and_fault : (ns ms : Names) (s : Stmt) (ts us ts2 us2 asks : List Ty) (f : Refusal) → TypeAll ns (line_parts s) ts us → TypeAll ns (line_parts s) ts2 us2
    → LineRuleFault ns s ts f → LineRule ns s ts2 asks ms → ⊥
rule_and_fault ns ms s ts us ts2 us2 asks f t t2 h r =
    let same = types_once ns (line_parts s) ts ts2 us us2 t t2 in
    line_rule_or_fault ns s ts asks ms f (subst (λ (z : List Ty). LineRule ns s z asks ms) (sym same.types) r) h

two_uses : (ns ms ks : Names) (s : Stmt) (ts us ts2 us2 as_ bs : List Ty) (f g : Refusal) → TypeAll ns (line_parts s) ts us → TypeAll ns (line_parts s) ts2 us2
    → LineRule ns s ts as_ ms → LineRule ns s ts2 bs ks → UseFault (line_parts s) ts as_ f → UseFault (line_parts s) ts2 bs g → f ≡ g
two_uses ns ms ks s ts us ts2 us2 as_ bs f g t t2 r r2 h k =
    let same = types_once ns (line_parts s) ts ts2 us us2 t t2 in
    let rule = line_rule_once ns s ts as_ bs ms ks r (subst (λ (z : List Ty). LineRule ns s z bs ks) (sym same.types) r2) in
    let moved = subst (λ (z : List Ty). UseFault (line_parts s) z bs g) (sym same.types) k in
    use_fault_once (line_parts s) ts as_ f g h (subst (λ (z : List Ty). UseFault (line_parts s) ts z g) (sym rule.asks) moved)

-- a fault of a branch and one behind the branches
last_apart : (ns : Names) (bs : Branches) (last : Else) (f g : Refusal) → BranchFault ns bs f → LastFaultRow ns bs last g → ⊥
last_apart ns bs no_else f g h k = k
last_apart ns bs (otherwise body) f g h k = branches_or_fault ns bs k.ks k.us f k.first h

mutual
  pub line_fault_once : (ns : Names) (s : Stmt) (f g : Refusal) → LineFault ns s f → LineFault ns s g → f ≡ g
  line_fault_once ns s f g (in_part h) (in_part k) = part_once ns (line_parts s) f g h k
  line_fault_once ns s f g (in_part h) (no_rule {ts = ts} {us = us} t k) = absurd (all_or_fault ns (line_parts s) ts us f t h)
  line_fault_once ns s f g (in_part h) (at_use {ts = ts} {us = us} as_ ms t r k) = absurd (all_or_fault ns (line_parts s) ts us f t h)
  line_fault_once ns s f g (in_part h) (in_branches k) = absurd (part_row ns [] f h)
  line_fault_once ns s f g (in_part h) (in_else j k) = absurd (part_row ns [] f h)
  line_fault_once ns s f g (in_part h) (in_loop k) = absurd (part_row ns [] f h)
  line_fault_once ns s f g (no_rule {ts = ts} {us = us} t h) (in_part k) = absurd (all_or_fault ns (line_parts s) ts us g t k)
  line_fault_once ns s f g (no_rule {ts = ts} {us = us} t h) (no_rule {ts = ts2} {us = us2} t2 k) = two_no_rules ns s ts us ts2 us2 f g t t2 h k
  line_fault_once ns s f g (no_rule {ts = ts} {us = us} t h) (at_use {ts = ts2} {us = us2} as_ ms t2 r k) = absurd (rule_and_fault ns ms s ts us ts2 us2 as_ f t t2 h r)
  line_fault_once ns s f g (no_rule t h) (in_branches k) = absurd h
  line_fault_once ns s f g (no_rule t h) (in_else j k) = absurd h
  line_fault_once ns s f g (no_rule t h) (in_loop k) = absurd h
  line_fault_once ns s f g (at_use {ts = ts} {us = us} as_ ms t r h) (in_part k) = absurd (all_or_fault ns (line_parts s) ts us g t k)
  line_fault_once ns s f g (at_use {ts = ts} {us = us} as_ ms t r h) (no_rule {ts = ts2} {us = us2} t2 k) = absurd (rule_and_fault ns ms s ts2 us2 ts us as_ g t2 t k r)
  line_fault_once ns s f g (at_use {ts = ts} {us = us} as_ ms t r h) (at_use {ts = ts2} {us = us2} bs ks t2 r2 k) = two_uses ns ms ks s ts us ts2 us2 as_ bs f g t t2 r r2 h k
  line_fault_once ns s f g (at_use as_ ms t r h) (in_branches k) = absurd r
  line_fault_once ns s f g (at_use as_ ms t r h) (in_else j k) = absurd r
  line_fault_once ns s f g (at_use as_ ms t r h) (in_loop k) = absurd r
  line_fault_once ns s f g (in_branches {bs = bs} {last = last} h) k =
      elim (if_fault_row ns bs last g k) [ inl x ↦ branch_fault_once ns bs f g h x | inr x ↦ absurd (last_apart ns bs last f g h x) ]
  line_fault_once ns s f g (in_else {ks = ks} {bs = bs} {body = body} {us = us} j h) k =
      elim (if_fault_row ns bs (otherwise body) g k) [
        | inl x ↦ absurd (branches_or_fault ns bs ks us g j x)
        | inr x ↦ (let same = branches_once ns bs ks x.ks us x.us j x.first in block_fault_once ks body f g h (subst (λ (z : Names). BlockFault z body g) (sym same.names) x.fault))
      ]
  line_fault_once ns s f g (in_loop {e = e} {body = body} h) k = guarded_fault_once ns e body f g h (loop_fault_row ns e body g k)

  pub guarded_fault_once : (ns : Names) (e : Expr) (body : Block) (f g : Refusal) → GuardedFault ns e body f → GuardedFault ns e body g → f ≡ g
  guarded_fault_once ns e body f g (in_condition h) k =
      elim (guarded_fault_row ns e body g k) [
        | inl x ↦ fault_once ns e f g h x
        | inr y ↦ elim y [ inl x ↦ absurd (typed_or_fault ns e x.type x.us f x.typed h) | inr x ↦ absurd (typed_or_fault ns e x.type x.us f x.typed h) ]
      ]
  guarded_fault_once ns e body f g (at_condition {t = t} {us = us} h a q) k =
      elim (guarded_fault_row ns e body g k) [
        | inl x ↦ absurd (typed_or_fault ns e t us g h x)
        | inr y ↦ elim y [
          | inl x ↦ q ∙ sym x.fault
          | inr x ↦ (let same = type_once ns e t x.type us x.us h x.typed in absurd (apart_or_consistent x.type bool x.used (subst (λ (z : Ty). AreApart z bool) same.type a)))
        ]
      ]
  guarded_fault_once ns e body f g (in_guarded {t = t} {us = us} h c b) k =
      elim (guarded_fault_row ns e body g k) [
        | inl x ↦ absurd (typed_or_fault ns e t us g h x)
        | inr y ↦ elim y [
          | inl x ↦ (let same = type_once ns e t x.type us x.us h x.typed in absurd (apart_or_consistent t bool c (subst (λ (z : Ty). AreApart z bool) (sym same.type) x.apart)))
          | inr x ↦ block_fault_once ns body f g b x.fault
        ]
      ]

  pub branch_fault_once : (ns : Names) (bs : Branches) (f g : Refusal) → BranchFault ns bs f → BranchFault ns bs g → f ≡ g
  branch_fault_once ns bs f g (in_branch {e = e} {body = body} {bs = bs2} h) k =
      elim (branch_fault_row ns (more_branches e body bs2) g k) [ inl x ↦ guarded_fault_once ns e body f g h x | inr x ↦ absurd (guarded_or_fault ns e body x.ks x.us f x.first h) ]
  branch_fault_once ns bs f g (in_later_branch {ks = ks} {e = e} {body = body} {bs = bs2} {us = us} h b) k =
      elim (branch_fault_row ns (more_branches e body bs2) g k) [
        | inl x ↦ absurd (guarded_or_fault ns e body ks us g h x)
        | inr x ↦ (let same = guarded_once ns e body ks x.ks us x.us h x.first in branch_fault_once ks bs2 f g b (subst (λ (z : Names). BranchFault z bs2 g) (sym same.names) x.fault))
      ]

  pub block_fault_once : (ns : Names) (body : Block) (f g : Refusal) → BlockFault ns body f → BlockFault ns body g → f ≡ g
  block_fault_once ns body f g (in_this {s = s} {rest = rest} h) k =
      elim (block_fault_row ns (more_stmts s rest) g k) [ inl x ↦ line_fault_once ns s f g h x | inr x ↦ absurd (line_or_fault ns s x.ks x.us f x.first h) ]
  block_fault_once ns body f g (in_rest {ks = ks} {s = s} {rest = rest} {us = us} h b) k =
      elim (block_fault_row ns (more_stmts s rest) g k) [
        | inl x ↦ absurd (line_or_fault ns s ks us g h x)
        | inr x ↦ (let same = line_once ns s ks x.ks us x.us h x.first in block_fault_once ks rest f g b (subst (λ (z : Names). BlockFault z rest g) (sym same.names) x.fault))
      ]
