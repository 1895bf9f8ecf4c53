-- An expression whose parts have their types has one rule or one fault.
use Rattle.std.proofs.Common.{◌≡◌, ℕ, List, [], ◌∷◌, length, Option, Some, None, sym, ◌∙◌, ap}
use Rattle.mono_list.proofs.Cases.{some_is, none_some}
use Rattle.mono_syntax.specs.declared.leaf.Place.{Place}
use Rattle.mono_syntax.specs.declared.refusal.Refusal.{Refusal}
use Rattle.mono_syntax.specs.declared.tree.ClassDef.{ClassDef}
use Rattle.mono_syntax.specs.declared.tree.FuncDef.{FuncDef}
use Rattle.mono_syntax.specs.Expr as expr
use Rattle.mono_syntax.specs.Expr.{Expr}
use Rattle.mono_syntax.specs.Ty.{Ty, dyn, int, bool, str, nil, fun, obj, Fields}
use Rattle.mono_tree.specs.TypedPrograms.{type_of_name}
use Rattle.script_rules.specs.Definitions.{function_named}
use Rattle.script_rules.specs.Writes.{in_order}
use Rattle.static_types.specs.Members.{field_types}
use Rattle.static_types.specs.Names.{Names, IsNamed, IsFunctionNamed}
use Rattle.static_types.specs.Parts.{class_called}
use Rattle.static_types.specs.declared.rule.Rule.{Rule}
use Rattle.static_types.specs.Rules.{takes, CalleeRule, NewRule, CallRule, RuleOf, CalleeFault, NewFault, CallFault, RuleFault}
use Rattle.static_types.proofs.Writing.{one_type, one_declared, function_type_once}

function_named_once : (cs : List ClassDef) (o : Option FuncDef) (t u : Ty) → IsFunctionNamed cs o t → IsFunctionNamed cs o u → t ≡ u
function_named_once cs None t u h k = absurd h
function_named_once cs (Some d) t u h k = function_type_once cs d t u h k

pub name_once : (ns : Names) (o : Option Ty) (x : List ℕ) (t u : Ty) → IsNamed ns o x t → IsNamed ns o x u → t ≡ u
name_once ns (Some s) x t u h k = h ∙ sym k
name_once ns None x t u h k = function_named_once ns.classes (function_named ns.functions x) t u h k

same_rule : (r q : Rule) → r.asks ≡ q.asks → r.gives ≡ q.gives → r ≡ q
same_rule r q a b = λ j. record { asks = a j; gives = b j }

-- ---- calls

pub callee_once : (ts : List Ty) (r q : Rule) → CalleeRule ts r → CalleeRule ts q → r ≡ q
callee_once [] r q h k = absurd h
callee_once (dyn ∷ ts) r q h k = h ∙ sym k
callee_once (fun ps t ∷ ts) r q h k = h.1 ∙ sym k.1
callee_once (int ∷ ts) r q h k = absurd h
callee_once (bool ∷ ts) r q h k = absurd h
callee_once (str ∷ ts) r q h k = absurd h
callee_once (nil ∷ ts) r q h k = absurd h
callee_once (obj fs ∷ ts) r q h k = absurd h

pub callee_or_fault : (p : Place) (ts : List Ty) (r : Rule) (f : Refusal) → CalleeRule ts r → CalleeFault p ts f → ⊥
callee_or_fault p [] r f h k = h
callee_or_fault p (dyn ∷ ts) r f h k = k
callee_or_fault p (fun ps t ∷ ts) r f h k = k.0 h.0
callee_or_fault p (int ∷ ts) r f h k = h
callee_or_fault p (bool ∷ ts) r f h k = h
callee_or_fault p (str ∷ ts) r f h k = h
callee_or_fault p (nil ∷ ts) r f h k = h
callee_or_fault p (obj fs ∷ ts) r f h k = h

pub callee_fault_once : (p : Place) (ts : List Ty) (f g : Refusal) → CalleeFault p ts f → CalleeFault p ts g → f ≡ g
callee_fault_once p [] f g h k = h ∙ sym k
callee_fault_once p (dyn ∷ ts) f g h k = absurd h
callee_fault_once p (fun ps t ∷ ts) f g h k = h.1 ∙ sym k.1
callee_fault_once p (int ∷ ts) f g h k = h ∙ sym k
callee_fault_once p (bool ∷ ts) f g h k = h ∙ sym k
callee_fault_once p (str ∷ ts) f g h k = h ∙ sym k
callee_fault_once p (nil ∷ ts) f g h k = h ∙ sym k
callee_fault_once p (obj fs ∷ ts) f g h k = h ∙ sym k

new_once : (cs : List ClassDef) (d : ClassDef) (ts : List Ty) (r q : Rule) → NewRule cs d ts r → NewRule cs d ts q → r ≡ q
new_once cs d ts r q h k =
    let fields = one_declared cs d.fields h.fields k.fields h.declared k.declared in
    h.rule ∙ ap (λ (fs : Fields). takes (field_types fs) (obj (in_order fs))) fields ∙ sym k.rule

new_or_fault : (cs : List ClassDef) (d : ClassDef) (p : Place) (ts : List Ty) (r : Rule) (f : Refusal) → NewRule cs d ts r → NewFault cs d p ts f → ⊥
new_or_fault cs d p ts r f h k =
    let fields = one_declared cs d.fields h.fields k.fields h.declared k.declared in
    k.count (h.count ∙ ap (λ (fs : Fields). length (field_types fs)) fields)

call_once : (cs : List ClassDef) (o : Option ClassDef) (ts : List Ty) (r q : Rule) → CallRule cs o ts r → CallRule cs o ts q → r ≡ q
call_once cs (Some d) ts r q h k = new_once cs d ts r q h k
call_once cs None ts r q h k = callee_once ts r q h k

call_or_fault : (cs : List ClassDef) (o : Option ClassDef) (p : Place) (ts : List Ty) (r : Rule) (f : Refusal) → CallRule cs o ts r → CallFault cs o p ts f → ⊥
call_or_fault cs (Some d) p ts r f h k = new_or_fault cs d p ts r f h k
call_or_fault cs None p ts r f h k = callee_or_fault p ts r f h k

call_fault_once : (cs : List ClassDef) (o : Option ClassDef) (p : Place) (ts : List Ty) (f g : Refusal) → CallFault cs o p ts f → CallFault cs o p ts g → f ≡ g
call_fault_once cs (Some d) p ts f g h k = h.fault ∙ sym k.fault
call_fault_once cs None p ts f g h k = callee_fault_once p ts f g h k

-- ---- expressions

pub rule_once : (ns : Names) (e : Expr) (ts : List Ty) (r q : Rule) → RuleOf ns e ts r → RuleOf ns e ts q → r ≡ q
rule_once ns (expr.local w) ts r q h k = same_rule r q (h.1 ∙ sym k.1) (name_once ns (type_of_name ns.values w.text) w.text r.gives q.gives h.0 k.0)
rule_once ns (expr.number p n) ts r q h k = h ∙ sym k
rule_once ns (expr.text p x) ts r q h k = h ∙ sym k
rule_once ns (expr.truth p b) ts r q h k = h ∙ sym k
rule_once ns (expr.nil p) ts r q h k = h ∙ sym k
rule_once ns (expr.neg p a) ts r q h k = h ∙ sym k
rule_once ns (expr.negation p a) ts r q h k = h ∙ sym k
rule_once ns (expr.binary o p a b) ts r q h k = h ∙ sym k
rule_once ns (expr.both a b) ts r q h k = h ∙ sym k
rule_once ns (expr.either a b) ts r q h k = h ∙ sym k
rule_once ns (expr.read a w) ts r q h k = same_rule r q (h.1 ∙ sym k.1) (some_is (sym h.0 ∙ k.0))
rule_once ns (expr.cast p a e) ts r q h k =
    let type = one_type ns.classes a r.gives q.gives h.0 k.0 in
    same_rule r q (h.1 ∙ ap (λ (t : Ty). t ∷ []) type ∙ sym k.1) type
rule_once ns (expr.call p g es) ts r q h k = call_once ns.classes (class_called ns.classes g) ts r q h k
rule_once ns (expr.join p w) ts r q h k = same_rule r q (h.1 ∙ sym k.1) (some_is (sym h.0 ∙ k.0))

pub rule_or_fault : (ns : Names) (e : Expr) (ts : List Ty) (r : Rule) (f : Refusal) → RuleOf ns e ts r → RuleFault ns e ts f → ⊥
rule_or_fault ns (expr.local w) ts r f h k = k.0 r.gives h.0
rule_or_fault ns (expr.number p n) ts r f h k = k
rule_or_fault ns (expr.text p x) ts r f h k = k
rule_or_fault ns (expr.truth p b) ts r f h k = k
rule_or_fault ns (expr.nil p) ts r f h k = k
rule_or_fault ns (expr.neg p a) ts r f h k = k
rule_or_fault ns (expr.negation p a) ts r f h k = k
rule_or_fault ns (expr.binary o p a b) ts r f h k = k
rule_or_fault ns (expr.both a b) ts r f h k = k
rule_or_fault ns (expr.either a b) ts r f h k = k
rule_or_fault ns (expr.read a w) ts r f h k = none_some ⊥ (sym k.0 ∙ h.0)
rule_or_fault ns (expr.cast p a e) ts r f h k = k.0 r.gives h.0
rule_or_fault ns (expr.call p g es) ts r f h k = call_or_fault ns.classes (class_called ns.classes g) p ts r f h k
rule_or_fault ns (expr.join p w) ts r f h k = none_some ⊥ (sym k.0 ∙ h.0)

pub rule_fault_once : (ns : Names) (e : Expr) (ts : List Ty) (f g : Refusal) → RuleFault ns e ts f → RuleFault ns e ts g → f ≡ g
rule_fault_once ns (expr.local w) ts f g h k = h.1 ∙ sym k.1
rule_fault_once ns (expr.number p n) ts f g h k = absurd h
rule_fault_once ns (expr.text p x) ts f g h k = absurd h
rule_fault_once ns (expr.truth p b) ts f g h k = absurd h
rule_fault_once ns (expr.nil p) ts f g h k = absurd h
rule_fault_once ns (expr.neg p a) ts f g h k = absurd h
rule_fault_once ns (expr.negation p a) ts f g h k = absurd h
rule_fault_once ns (expr.binary o p a b) ts f g h k = absurd h
rule_fault_once ns (expr.both a b) ts f g h k = absurd h
rule_fault_once ns (expr.either a b) ts f g h k = absurd h
rule_fault_once ns (expr.read a w) ts f g h k = h.1 ∙ sym k.1
rule_fault_once ns (expr.cast p a e) ts f g h k = h.1 ∙ sym k.1
rule_fault_once ns (expr.call p c es) ts f g h k = call_fault_once ns.classes (class_called ns.classes c) p ts f g h k
rule_fault_once ns (expr.join p w) ts f g h k = h.1 ∙ sym k.1
