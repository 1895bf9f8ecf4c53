-- Where what may be named has types of the language, so has what the rules ask and give.
use Rattle.std.proofs.Common.{◌≡◌, inl, inr, ℕ, List, [], ◌∷◌, ◌++◌, Bool, true, false, Option, Some, None, refl, sym, ap, subst, bytes_eq, if◌then◌else◌}
use Rattle.mono_list.proofs.Cases.{split, some_is, none_some}
use Rattle.mono_syntax.specs.declared.cast.NamedType.{NamedType}
use Rattle.mono_syntax.specs.declared.tree.ClassDef.{ClassDef}
use Rattle.mono_syntax.specs.declared.tree.FuncDef.{FuncDef}
use Rattle.mono_syntax.specs.declared.tree.Script.{Script}
use Rattle.mono_syntax.specs.Expr as expr
use Rattle.mono_syntax.specs.Expr.{Expr}
use Rattle.mono_syntax.specs.Stmt as stmt
use Rattle.mono_syntax.specs.Stmt.{Stmt}
use Rattle.mono_syntax.specs.Ty.{Ty, dyn, int, bool, str, nil, fun, obj, Tys, no_tys, more_tys, Fields, no_fields, more_fields}
use Rattle.mono_syntax.specs.TyView.{tys_list}
use Rattle.mono_tree.specs.IsType.{IsType, AreTypes, HaveTypes}
use Rattle.mono_tree.specs.TypedPrograms.{type_of_name}
use Rattle.script_rules.specs.Definitions.{class_named, function_named}
use Rattle.script_rules.specs.ScopeFaults.{IsRight}
use Rattle.script_rules.specs.Scoping.{class_list, function_list}
use Rattle.script_rules.specs.SourceParts.{annotation, expr_parts}
use Rattle.script_rules.specs.Writes.{in_order, Writes}
use Rattle.static_types.specs.Lines.{AssignRule, WriteRule, ReturnRule, LineRule}
use Rattle.static_types.specs.Members.{field_type, member_type, field_types, all_dyn}
use Rattle.static_types.specs.Names.{Names, with_thread, IsNamed, IsFunctionNamed}
use Rattle.static_types.specs.Operators.{Sort, arithmetic, comparison, equality, sort_of, is_dyn_sum, operand_types, operator_type}
use Rattle.static_types.specs.Parts.{class_called}
use Rattle.static_types.specs.declared.rule.Rule.{Rule}
use Rattle.static_types.specs.Rules.{member_of, CalleeRule, NewRule, CallRule, RuleOf}
use Rattle.class_types.proofs.OrderLaws.{In}
use Rattle.cast_rules.proofs.RightTypes.{Stand, annotation_type, declared_types, class_type, function_type}

-- ---- types in a row

abbrev pub AllTypes : List Ty → Type 0
AllTypes [] = Unit {0}
AllTypes (t ∷ ts) = IsType t × AllTypes ts

dyns_types : (ts : List Ty) → AllTypes (all_dyn ts)
dyns_types [] = tt
dyns_types (t ∷ ts) = (tt, dyns_types ts)

tys_types : (ps : Tys) → AreTypes ps → AllTypes (tys_list ps)
tys_types no_tys h = tt
tys_types (more_tys t ts) h = (h.0, tys_types ts h.1)

fields_types : (fs : Fields) → HaveTypes fs → AllTypes (field_types fs)
fields_types no_fields h = tt
fields_types (more_fields n t fs) h = (h.0, fields_types fs h.1)

field_is_type : (fs : Fields) (x : List ℕ) (t : Ty) → HaveTypes fs → field_type fs x ≡ Some t → IsType t
field_is_type no_fields x t h e = none_some (IsType t) e
field_is_type (more_fields n u fs) x t h e =
    split (bytes_eq n x) (λ b. (if b then Some u else field_type fs x) ≡ Some t → IsType t)
    (λ _ f. subst IsType (some_is f) h.0) (λ _ f. field_is_type fs x t h.1 f) e

member_is_type : (u : Ty) (x : List ℕ) (t : Ty) → IsType u → member_type u x ≡ Some t → IsType t
member_is_type dyn x t h e = subst IsType (some_is e) tt
member_is_type int x t h e = none_some (IsType t) e
member_is_type bool x t h e = none_some (IsType t) e
member_is_type str x t h e = none_some (IsType t) e
member_is_type nil x t h e = none_some (IsType t) e
member_is_type (fun ps r) x t h e = none_some (IsType t) e
member_is_type (obj fs) x t h e = field_is_type fs x t h.1 e

pub member_of_is_type : (ts : List Ty) (x : List ℕ) (t : Ty) → AllTypes ts → member_of ts x ≡ Some t → IsType t
member_of_is_type [] x t h e = none_some (IsType t) e
member_of_is_type (u ∷ ts) x t h e = member_is_type u x t h.0 e

operand_is_type : (o : Sort) (b : Bool) → AllTypes (operand_types o b)
operand_is_type equality b = (tt, (tt, tt))
operand_is_type comparison b = (tt, (tt, tt))
operand_is_type arithmetic true = (tt, (tt, tt))
operand_is_type arithmetic false = (tt, (tt, tt))

operator_is_type : (o : Sort) (b : Bool) → IsType (operator_type o b)
operator_is_type equality b = tt
operator_is_type comparison b = tt
operator_is_type arithmetic true = tt
operator_is_type arithmetic false = tt

-- ---- names

abbrev pub NamesHaveTypes : List NamedType → Type 0
NamesHaveTypes [] = Unit {0}
NamesHaveTypes (n ∷ ns) = IsType n.ty × NamesHaveTypes ns

pub names_append : (ns ms : List NamedType) → NamesHaveTypes ns → NamesHaveTypes ms → NamesHaveTypes (ns ++ ms)
names_append [] ms h k = k
names_append (n ∷ ns) ms h k = (h.0, names_append ns ms h.1 k)

name_is_type : (ns : List NamedType) (x : List ℕ) (t : Ty) → NamesHaveTypes ns → type_of_name ns x ≡ Some t → IsType t
name_is_type [] x t h e = none_some (IsType t) e
name_is_type (n ∷ ns) x t h e =
    split (bytes_eq n.name x) (λ b. (if b then Some n.ty else type_of_name ns x) ≡ Some t → IsType t)
    (λ _ f. subst IsType (some_is f) h.0) (λ _ f. name_is_type ns x t h.1 f) e

pub class_among : (cs : List ClassDef) (x : List ℕ) (d : ClassDef) → class_named cs x ≡ Some d → In d cs
class_among [] x d e = none_some (In d []) e
class_among (c ∷ cs) x d e =
    split (bytes_eq c.name.text x) (λ b. (if b then Some c else class_named cs x) ≡ Some d → In d (c ∷ cs))
    (λ _ f. inl (some_is f)) (λ _ f. inr (class_among cs x d f)) e

pub function_among : (fs : List FuncDef) (x : List ℕ) (d : FuncDef) → function_named fs x ≡ Some d → In d fs
function_among [] x d e = none_some (In d []) e
function_among (c ∷ fs) x d e =
    split (bytes_eq c.name.text x) (λ b. (if b then Some c else function_named fs x) ≡ Some d → In d (c ∷ fs))
    (λ _ f. inl (some_is f)) (λ _ f. inr (function_among fs x d f)) e

pub called_among : (cs : List ClassDef) (f : Expr) (d : ClassDef) → class_called cs f ≡ Some d → In d cs
called_among cs (expr.local w) d e = class_among cs w.text d e
called_among cs _ d e = none_some (In d cs) e

-- what may be named has types of the language
pub record IsNamesOfTypes (s : Script) (ns : Names) : Type 0 where
  pub classes : ns.classes ≡ class_list s
  pub functions : ns.functions ≡ function_list s
  pub values : NamesHaveTypes ns.values
  pub threads : NamesHaveTypes ns.threads
  pub result : (t : Ty) → ns.result ≡ Some t → IsType t

-- ---- what rules ask and give

abbrev pub IsRuleOfTypes : Rule → Type 0
IsRuleOfTypes r = AllTypes r.asks × IsType r.gives

callee_types : (ts : List Ty) (r : Rule) → AllTypes ts → CalleeRule ts r → IsRuleOfTypes r
callee_types [] r h k = absurd k
callee_types (dyn ∷ ts) r h k = subst IsRuleOfTypes (sym k) ((tt, dyns_types ts), tt)
callee_types (fun ps t ∷ ts) r h k = subst IsRuleOfTypes (sym k.1) ((tt, tys_types ps (h.0).1), (h.0).2)
callee_types (int ∷ ts) r h k = absurd k
callee_types (bool ∷ ts) r h k = absurd k
callee_types (str ∷ ts) r h k = absurd k
callee_types (nil ∷ ts) r h k = absurd k
callee_types (obj fs ∷ ts) r h k = absurd k

module _ (s : Script) (right : IsRight s) where
  new_types : (d : ClassDef) (ts : List Ty) (r : Rule) → In d (class_list s) → NewRule (class_list s) d ts r → IsRuleOfTypes r
  new_types d ts r h k =
      let whole : IsType (obj (in_order k.fields)) = class_type s right d (obj (in_order k.fields)) h (record { declared = k.fields; fields = k.declared; type = refl }) in
      subst IsRuleOfTypes (sym k.rule) (fields_types k.fields (declared_types s right d k.fields h k.declared), whole)

  call_types : (f : Expr) (o : Option ClassDef) (ts : List Ty) (r : Rule) → class_called (class_list s) f ≡ o → AllTypes ts → CallRule (class_list s) o ts r → IsRuleOfTypes r
  call_types f None ts r e h k = callee_types ts r h k
  call_types f (Some d) ts r e h k = new_types d ts r (called_among (class_list s) f d e) k

  function_named_type : (x : List ℕ) (o : Option FuncDef) (t : Ty) → function_named (function_list s) x ≡ o → IsFunctionNamed (class_list s) o t → IsType t
  function_named_type x None t e h = absurd h
  function_named_type x (Some d) t e h = function_type s right d t (function_among (function_list s) x d e) h

  named_type : (ns : Names) (o : Option Ty) (x : List ℕ) (t : Ty) → IsNamesOfTypes s ns → type_of_name ns.values x ≡ o → IsNamed ns o x t → IsType t
  named_type ns (Some u) x t names e h = subst IsType (sym h) (name_is_type ns.values x u names.values e)
  named_type ns None x t names e h =
      let at : IsFunctionNamed (class_list s) (function_named ns.functions x) t = subst (λ (cs : List ClassDef). IsFunctionNamed cs (function_named ns.functions x) t) names.classes h in
      function_named_type x (function_named ns.functions x) t (ap (λ (fs : List FuncDef). function_named fs x) (sym names.functions)) at

  pub rule_types : (ns : Names) (e : Expr) (ts : List Ty) (r : Rule) → IsNamesOfTypes s ns → Stand s (expr_parts e) → AllTypes ts → RuleOf ns e ts r → IsRuleOfTypes r
  rule_types ns (expr.local w) ts r names st h k = (subst AllTypes (sym k.1) tt, named_type ns (type_of_name ns.values w.text) w.text r.gives names refl k.0)
  rule_types ns (expr.number p n) ts r names st h k = subst IsRuleOfTypes (sym k) (tt, tt)
  rule_types ns (expr.text p x) ts r names st h k = subst IsRuleOfTypes (sym k) (tt, tt)
  rule_types ns (expr.truth p b) ts r names st h k = subst IsRuleOfTypes (sym k) (tt, tt)
  rule_types ns (expr.nil p) ts r names st h k = subst IsRuleOfTypes (sym k) (tt, tt)
  rule_types ns (expr.neg p a) ts r names st h k = subst IsRuleOfTypes (sym k) ((tt, tt), tt)
  rule_types ns (expr.negation p a) ts r names st h k = subst IsRuleOfTypes (sym k) ((tt, tt), tt)
  rule_types ns (expr.binary o p a b) ts r names st h k =
      subst IsRuleOfTypes (sym k) (operand_is_type (sort_of o) (is_dyn_sum o ts), operator_is_type (sort_of o) (is_dyn_sum o ts))
  rule_types ns (expr.both a b) ts r names st h k = subst IsRuleOfTypes (sym k) ((tt, (tt, tt)), tt)
  rule_types ns (expr.either a b) ts r names st h k = subst IsRuleOfTypes (sym k) ((tt, (tt, tt)), tt)
  rule_types ns (expr.read a w) ts r names st h k = (subst AllTypes (sym k.1) (tt, tt), member_of_is_type ts w.text r.gives h k.0)
  rule_types ns (expr.cast p a e) ts r names st h k =
      let type = annotation_type s right a r.gives (st (annotation a) (inl refl)) (subst (λ (cs : List ClassDef). Writes cs a r.gives) names.classes k.0) in
      (subst AllTypes (sym k.1) (type, tt), type)
  rule_types ns (expr.call p f es) ts r names st h k =
      let at : CallRule (class_list s) (class_called ns.classes f) ts r = subst (λ (cs : List ClassDef). CallRule cs (class_called ns.classes f) ts r) names.classes k in
      call_types f (class_called ns.classes f) ts r (ap (λ (cs : List ClassDef). class_called cs f) (sym names.classes)) h at
  rule_types ns (expr.join p w) ts r names st h k = (subst AllTypes (sym k.1) tt, name_is_type ns.threads w.text r.gives names.threads k.0)

  -- ---- statements

  -- what a statement asks, and what may be named behind it
  abbrev pub IsLineOfTypes : List Ty → Names → Type 0
  IsLineOfTypes asks ms = AllTypes asks × IsNamesOfTypes s ms

  return_types : (o : Option Ty) (asks : List Ty) → ((t : Ty) → o ≡ Some t → IsType t) → ReturnRule o asks → AllTypes asks
  return_types None asks h k = absurd k
  return_types (Some t) asks h k = subst AllTypes (sym k) (h t refl, tt)

  assign_types : (o : Option Ty) (asks : List Ty) → ((t : Ty) → o ≡ Some t → IsType t) → AssignRule o asks → AllTypes asks
  assign_types None asks h k = absurd k
  assign_types (Some t) asks h k = subst AllTypes (sym k) (h t refl, tt)

  write_types : (o : Option Ty) (asks : List Ty) → ((t : Ty) → o ≡ Some t → IsType t) → WriteRule o asks → AllTypes asks
  write_types None asks h k = absurd k
  write_types (Some t) asks h k = subst AllTypes (sym k) (tt, (h t refl, tt))

  more_threads : (ns ms : Names) (x : List ℕ) (t : Ty) → IsNamesOfTypes s ns → IsType t → ms ≡ with_thread ns x t → IsNamesOfTypes s ms
  more_threads ns ms x t names type e = subst (IsNamesOfTypes s) (sym e) (record {
    classes = names.classes;
    functions = names.functions;
    values = names.values;
    threads = names_append ns.threads (record { name = x; ty = t } ∷ []) names.threads (type, tt);
    result = names.result;
  })

  pub line_types : (ns ms : Names) (l : Stmt) (ts asks : List Ty) → IsNamesOfTypes s ns → AllTypes ts → LineRule ns l ts asks ms → IsLineOfTypes asks ms
  line_types ns ms stmt.pass ts asks names h k = (subst AllTypes (sym k.0) tt, subst (IsNamesOfTypes s) (sym k.1) names)
  line_types ns ms (stmt.give p e) ts asks names h k = (return_types ns.result asks names.result k.0, subst (IsNamesOfTypes s) (sym k.1) names)
  line_types ns ms (stmt.print p es) ts asks names h k = (subst AllTypes (sym k.0) (dyns_types ts), subst (IsNamesOfTypes s) (sym k.1) names)
  line_types ns ms (stmt.assign w a e) ts asks names h k =
      (assign_types (type_of_name ns.values w.text) asks (λ t q. name_is_type ns.values w.text t names.values q) k.0, subst (IsNamesOfTypes s) (sym k.1) names)
  line_types ns ms (stmt.write o w e) ts asks names h k =
      (write_types (member_of ts w.text) asks (λ t q. member_of_is_type ts w.text t h q) k.0, subst (IsNamesOfTypes s) (sym k.1) names)
  line_types ns ms (stmt.start w p f es) ts asks names h k =
      let rule = callee_types ts k.rule h k.called in
      (subst AllTypes (sym k.asked) rule.0, more_threads ns ms w.text (k.rule).gives names rule.1 k.named)
  line_types ns ms (stmt.plain e) ts asks names h k = (subst AllTypes (sym k.0) (tt, tt), subst (IsNamesOfTypes s) (sym k.1) names)
  line_types ns ms (stmt.if_any bs last) ts asks names h k = absurd k
  line_types ns ms (stmt.loop e body) ts asks names h k = absurd k
