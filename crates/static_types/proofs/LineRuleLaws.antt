-- A statement whose expressions have their types has one rule or one fault.
use Rattle.std.proofs.Common.{◌≡◌, ℕ, List, Option, Some, None, sym, ◌∙◌, ap}
use Rattle.mono_list.proofs.Cases.{none_some}
use Rattle.mono_syntax.specs.declared.leaf.Place.{Place}
use Rattle.mono_syntax.specs.declared.leaf.Word.{Word}
use Rattle.mono_syntax.specs.declared.refusal.Refusal.{Refusal}
use Rattle.mono_syntax.specs.Expr.{Expr, Exprs}
use Rattle.mono_syntax.specs.Stmt as stmt
use Rattle.mono_syntax.specs.Stmt.{Stmt}
use Rattle.mono_syntax.specs.Ty.{Ty}
use Rattle.mono_tree.specs.TypedPrograms.{type_of_name}
use Rattle.static_types.specs.Lines.{AssignRule, WriteRule, ReturnRule, StartRule, LineRule}
use Rattle.static_types.specs.LineFaults.{StartFault, LineRuleFault}
use Rattle.static_types.specs.Names.{Names, with_thread}
use Rattle.static_types.specs.declared.rule.Rule.{Rule}
use Rattle.static_types.specs.Rules.{member_of, CalleeFault}
use Rattle.static_types.proofs.RuleLaws.{callee_once, callee_or_fault, callee_fault_once}

pub record SameLine (as_ bs : List Ty) (ms ks : Names) : Type 0 where
  pub asks : as_ ≡ bs
  pub names : ms ≡ ks

assign_once : (o : Option Ty) (as_ bs : List Ty) → AssignRule o as_ → AssignRule o bs → as_ ≡ bs
assign_once None as_ bs h k = absurd h
assign_once (Some t) as_ bs h k = h ∙ sym k

write_once : (o : Option Ty) (as_ bs : List Ty) → WriteRule o as_ → WriteRule o bs → as_ ≡ bs
write_once None as_ bs h k = absurd h
write_once (Some t) as_ bs h k = h ∙ sym k

return_once : (o : Option Ty) (as_ bs : List Ty) → ReturnRule o as_ → ReturnRule o bs → as_ ≡ bs
return_once None as_ bs h k = absurd h
return_once (Some t) as_ bs h k = h ∙ sym k

start_once : (ns : Names) (x : List ℕ) (ts as_ bs : List Ty) (ms ks : Names) → StartRule ns x ts as_ ms → StartRule ns x ts bs ks → SameLine as_ bs ms ks
start_once ns x ts as_ bs ms ks h k =
    let rule = callee_once ts h.rule k.rule h.called k.called in
    record { asks = h.asked ∙ ap (λ (r : Rule). r.asks) rule ∙ sym k.asked; names = h.named ∙ ap (λ (r : Rule). with_thread ns x r.gives) rule ∙ sym k.named }

pub line_rule_once : (ns : Names) (s : Stmt) (ts as_ bs : List Ty) (ms ks : Names) → LineRule ns s ts as_ ms → LineRule ns s ts bs ks → SameLine as_ bs ms ks
line_rule_once ns stmt.pass ts as_ bs ms ks h k = record { asks = h.0 ∙ sym k.0; names = h.1 ∙ sym k.1 }
line_rule_once ns (stmt.give p e) ts as_ bs ms ks h k = record { asks = return_once ns.result as_ bs h.0 k.0; names = h.1 ∙ sym k.1 }
line_rule_once ns (stmt.print p es) ts as_ bs ms ks h k = record { asks = h.0 ∙ sym k.0; names = h.1 ∙ sym k.1 }
line_rule_once ns (stmt.assign w a e) ts as_ bs ms ks h k = record { asks = assign_once (type_of_name ns.values w.text) as_ bs h.0 k.0; names = h.1 ∙ sym k.1 }
line_rule_once ns (stmt.write o w e) ts as_ bs ms ks h k = record { asks = write_once (member_of ts w.text) as_ bs h.0 k.0; names = h.1 ∙ sym k.1 }
line_rule_once ns (stmt.start w p g es) ts as_ bs ms ks h k = start_once ns w.text ts as_ bs ms ks h k
line_rule_once ns (stmt.plain e) ts as_ bs ms ks h k = record { asks = h.0 ∙ sym k.0; names = h.1 ∙ sym k.1 }
line_rule_once ns (stmt.if_any b l) ts as_ bs ms ks h k = absurd h
line_rule_once ns (stmt.loop e b) ts as_ bs ms ks h k = absurd h

-- ---- or a fault

assign_or_fault : (o : Option Ty) (as_ : List Ty) → AssignRule o as_ → o ≡ None → ⊥
assign_or_fault None as_ h e = h
assign_or_fault (Some t) as_ h e = none_some ⊥ (sym e)

write_or_fault : (o : Option Ty) (as_ : List Ty) → WriteRule o as_ → o ≡ None → ⊥
write_or_fault None as_ h e = h
write_or_fault (Some t) as_ h e = none_some ⊥ (sym e)

return_or_fault : (o : Option Ty) (as_ : List Ty) → ReturnRule o as_ → o ≡ None → ⊥
return_or_fault None as_ h e = h
return_or_fault (Some t) as_ h e = none_some ⊥ (sym e)

start_or_fault : (o : Option Ty) (w : Word) (p : Place) (g : Expr) (es : Exprs) (ts : List Ty) (r : Rule) (f : Refusal)
    → o ≡ None → StartFault o (stmt.start w p g es) ts f → (CalleeFault p ts f → ⊥) → ⊥
start_or_fault None w p g es ts r f e k n = n k
start_or_fault (Some t) w p g es ts r f e k n = none_some ⊥ (sym e)

start_fault_once : (o : Option Ty) (w : Word) (p : Place) (g : Expr) (es : Exprs) (ts : List Ty) (f h : Refusal)
    → StartFault o (stmt.start w p g es) ts f → StartFault o (stmt.start w p g es) ts h → f ≡ h
start_fault_once None w p g es ts f h a b = callee_fault_once p ts f h a b
start_fault_once (Some t) w p g es ts f h a b = a ∙ sym b

pub line_rule_or_fault : (ns : Names) (s : Stmt) (ts as_ : List Ty) (ms : Names) (f : Refusal) → LineRule ns s ts as_ ms → LineRuleFault ns s ts f → ⊥
line_rule_or_fault ns stmt.pass ts as_ ms f h k = k
line_rule_or_fault ns (stmt.give p e) ts as_ ms f h k = return_or_fault ns.result as_ h.0 k.0
line_rule_or_fault ns (stmt.print p es) ts as_ ms f h k = k
line_rule_or_fault ns (stmt.assign w a e) ts as_ ms f h k = assign_or_fault (type_of_name ns.values w.text) as_ h.0 k.0
line_rule_or_fault ns (stmt.write o w e) ts as_ ms f h k = write_or_fault (member_of ts w.text) as_ h.0 k.0
line_rule_or_fault ns (stmt.start w p g es) ts as_ ms f h k =
    start_or_fault (type_of_name ns.threads w.text) w p g es ts h.rule f h.fresh k (λ c. callee_or_fault p ts h.rule f h.called c)
line_rule_or_fault ns (stmt.plain e) ts as_ ms f h k = k
line_rule_or_fault ns (stmt.if_any b l) ts as_ ms f h k = k
line_rule_or_fault ns (stmt.loop e b) ts as_ ms f h k = k

pub line_fault_rule_once : (ns : Names) (s : Stmt) (ts : List Ty) (f g : Refusal) → LineRuleFault ns s ts f → LineRuleFault ns s ts g → f ≡ g
line_fault_rule_once ns stmt.pass ts f g h k = absurd h
line_fault_rule_once ns (stmt.give p e) ts f g h k = h.1 ∙ sym k.1
line_fault_rule_once ns (stmt.print p es) ts f g h k = absurd h
line_fault_rule_once ns (stmt.assign w a e) ts f g h k = h.1 ∙ sym k.1
line_fault_rule_once ns (stmt.write o w e) ts f g h k = h.1 ∙ sym k.1
line_fault_rule_once ns (stmt.start w p c es) ts f g h k = start_fault_once (type_of_name ns.threads w.text) w p c es ts f g h k
line_fault_rule_once ns (stmt.plain e) ts f g h k = absurd h
line_fault_rule_once ns (stmt.if_any b l) ts f g h k = absurd h
line_fault_rule_once ns (stmt.loop e b) ts f g h k = absurd h
