-- What the rules ask and give is there, where the types of what may be named and of the parts are.
use Rattle.std.proofs.Common.{◌≡◌, refl, sym, ap, subst, inl, inr, ℕ, List, [], ◌∷◌, ◌++◌}
use Rattle.std.proofs.Common.{Bool, true, false, Option, Some, None, bytes_eq, if◌then◌else◌}
use Rattle.mono_list.proofs.Cases.{split, some_is, none_some}
use Rattle.mono_syntax.specs.declared.cast.NamedType.{NamedType}
use Rattle.mono_syntax.specs.declared.tree.ClassDef.{ClassDef}
use Rattle.mono_syntax.specs.declared.tree.FuncDef.{FuncDef}
use Rattle.mono_syntax.specs.declared.tree.Script.{Script}
use Rattle.mono_syntax.specs.Expr as expr
use Rattle.mono_syntax.specs.Expr.{Expr}
use Rattle.mono_syntax.specs.Stmt as stmt
use Rattle.mono_syntax.specs.Stmt.{Stmt}
use Rattle.mono_syntax.specs.Ty.{Ty, dyn, int, bool, str, nil, fun, obj}
use Rattle.mono_tree.specs.TypedPrograms.{type_of_name}
use Rattle.script_rules.specs.Definitions.{function_named}
use Rattle.script_rules.specs.Scoping.{class_list, function_list}
use Rattle.script_rules.specs.SourceParts.{annotation, expr_parts}
use Rattle.script_rules.specs.Writes.{in_order, Writes}
use Rattle.static_types.specs.Lines.{AssignRule, WriteRule, ReturnRule, LineRule}
use Rattle.static_types.specs.Members.{member_type, all_dyn}
use Rattle.static_types.specs.Names.{Names, with_thread, IsNamed, IsFunctionNamed}
use Rattle.static_types.specs.Operators.{Sort, arithmetic, comparison, equality, sort_of, is_dyn_sum, operand_types, operator_type}
use Rattle.static_types.specs.Parts.{class_called}
use Rattle.static_types.specs.declared.rule.Rule.{Rule}
use Rattle.static_types.specs.Rules.{member_of, CalleeRule, NewRule, CallRule, RuleOf}
use Rattle.class_types.proofs.OrderLaws.{In}
use Rattle.cast_rules.proofs.RightTypes.{Stand}
use Rattle.cast_rules.proofs.RuleTypes.{function_among, called_among}
use Rattle.program_types.proofs.HasWritten.{HasWritten, HasAll, ordered_has, field_is_part, tys_all, fields_all}

-- ---- names

module _ (Has : Ty → Type 0) where
  abbrev pub HasNames : List NamedType → Type 0
  HasNames [] = Unit {0}
  HasNames (n ∷ ns) = Has n.ty × HasNames ns

  names_append : (ns ms : List NamedType) → HasNames ns → HasNames ms → HasNames (ns ++ ms)
  names_append [] ms h k = k
  names_append (n ∷ ns) ms h k = (h.0, names_append ns ms h.1 k)

  name_has : (ns : List NamedType) (x : List ℕ) (t : Ty) → HasNames ns → type_of_name ns x ≡ Some t → Has t
  name_has [] x t h e = none_some (Has t) e
  name_has (n ∷ ns) x t h e =
      split (bytes_eq n.name x) (λ b. (if b then Some n.ty else type_of_name ns x) ≡ Some t → Has t)
      (λ _ f. subst Has (some_is f) h.0) (λ _ f. name_has ns x t h.1 f) e

  -- all that a rule asks is there, and what it gives
  abbrev pub HasRule : Rule → Type 0
  HasRule r = HasAll Has r.asks × Has r.gives

-- the types of what may be named in a block of the script are there
pub record HasScope (s : Script) (Has : Ty → Type 0) (ns : Names) : Type 0 where
  pub classes : ns.classes ≡ class_list s
  pub functions : ns.functions ≡ function_list s
  pub values : HasNames Has ns.values
  pub threads : HasNames Has ns.threads
  pub result : (t : Ty) → ns.result ≡ Some t → Has t

module _ (s : Script) (Has : Ty → Type 0) (has : HasWritten s Has) where
  -- ---- parts and base types

  dyns_have : (ts : List Ty) → HasAll Has (all_dyn ts)
  dyns_have [] = tt
  dyns_have (t ∷ ts) = (has.of_dyn, dyns_have ts)

  member_has : (u : Ty) (x : List ℕ) (t : Ty) → Has u → member_type u x ≡ Some t → Has t
  member_has dyn x t h e = subst Has (some_is e) has.of_dyn
  member_has int x t h e = none_some (Has t) e
  member_has bool x t h e = none_some (Has t) e
  member_has str x t h e = none_some (Has t) e
  member_has nil x t h e = none_some (Has t) e
  member_has (fun ps r) x t h e = none_some (Has t) e
  member_has (obj fs) x t h e = has.part (obj fs) t h (field_is_part fs x t e)

  member_of_has : (ts : List Ty) (x : List ℕ) (t : Ty) → HasAll Has ts → member_of ts x ≡ Some t → Has t
  member_of_has [] x t h e = none_some (Has t) e
  member_of_has (u ∷ ts) x t h e = member_has u x t h.0 e

  operands_have : (o : Sort) (b : Bool) → HasAll Has (operand_types o b)
  operands_have equality b = (has.of_dyn, (has.of_dyn, tt))
  operands_have comparison b = (has.of_int, (has.of_int, tt))
  operands_have arithmetic true = (has.of_dyn, (has.of_dyn, tt))
  operands_have arithmetic false = (has.of_int, (has.of_int, tt))

  operator_has : (o : Sort) (b : Bool) → Has (operator_type o b)
  operator_has equality b = has.of_bool
  operator_has comparison b = has.of_bool
  operator_has arithmetic true = has.of_dyn
  operator_has arithmetic false = has.of_int

  -- ---- calls

  callee_has : (ts : List Ty) (r : Rule) → HasAll Has ts → CalleeRule ts r → HasRule Has r
  callee_has [] r h k = absurd k
  callee_has (dyn ∷ ts) r h k = subst (HasRule Has) (sym k) ((has.of_dyn, dyns_have ts), has.of_dyn)
  callee_has (fun ps t ∷ ts) r h k =
      subst (HasRule Has) (sym k.1)
      ((has.of_dyn, tys_all Has ps (λ p i. has.part (fun ps t) p h.0 (inl i))), has.part (fun ps t) t h.0 (inr refl))
  callee_has (int ∷ ts) r h k = absurd k
  callee_has (bool ∷ ts) r h k = absurd k
  callee_has (str ∷ ts) r h k = absurd k
  callee_has (nil ∷ ts) r h k = absurd k
  callee_has (obj fs ∷ ts) r h k = absurd k

  new_has : (d : ClassDef) (ts : List Ty) (r : Rule) → In d (class_list s) → NewRule (class_list s) d ts r → HasRule Has r
  new_has d ts r h k =
      let object : Ty = obj (in_order k.fields) in
      let whole : Has object = has.class d object h (record { declared = k.fields; fields = k.declared; type = refl }) in
      subst (HasRule Has) (sym k.rule) (fields_all Has k.fields (λ p i. has.part object p whole (ordered_has p k.fields i)), whole)

  call_has : (f : Expr) (o : Option ClassDef) (ts : List Ty) (r : Rule) → class_called (class_list s) f ≡ o → HasAll Has ts
      → CallRule (class_list s) o ts r → HasRule Has r
  call_has f None ts r e h k = callee_has ts r h k
  call_has f (Some d) ts r e h k = new_has d ts r (called_among (class_list s) f d e) k

  -- ---- names

  function_named_has : (x : List ℕ) (o : Option FuncDef) (t : Ty) → function_named (function_list s) x ≡ o
      → IsFunctionNamed (class_list s) o t → Has t
  function_named_has x None t e h = absurd h
  function_named_has x (Some d) t e h = has.function d t (function_among (function_list s) x d e) h

  named_has : (ns : Names) (o : Option Ty) (x : List ℕ) (t : Ty) → HasScope s Has ns → type_of_name ns.values x ≡ o
      → IsNamed ns o x t → Has t
  named_has ns (Some u) x t names e h = subst Has (sym h) (name_has Has ns.values x u names.values e)
  named_has ns None x t names e h =
      let at : IsFunctionNamed (class_list s) (function_named ns.functions x) t =
      subst (λ (cs : List ClassDef). IsFunctionNamed cs (function_named ns.functions x) t) names.classes h in
      function_named_has x (function_named ns.functions x) t (ap (λ (fs : List FuncDef). function_named fs x) (sym names.functions)) at

  -- ---- expressions

  pub rule_has : (ns : Names) (e : Expr) (ts : List Ty) (r : Rule) → HasScope s Has ns → Stand s (expr_parts e) → HasAll Has ts
      → RuleOf ns e ts r → HasRule Has r
  rule_has ns (expr.local w) ts r names st h k =
      (subst (HasAll Has) (sym k.1) tt, named_has ns (type_of_name ns.values w.text) w.text r.gives names refl k.0)
  rule_has ns (expr.number p n) ts r names st h k = subst (HasRule Has) (sym k) (tt, has.of_int)
  rule_has ns (expr.text p x) ts r names st h k = subst (HasRule Has) (sym k) (tt, has.of_str)
  rule_has ns (expr.truth p b) ts r names st h k = subst (HasRule Has) (sym k) (tt, has.of_bool)
  rule_has ns (expr.nil p) ts r names st h k = subst (HasRule Has) (sym k) (tt, has.of_nil)
  rule_has ns (expr.neg p a) ts r names st h k = subst (HasRule Has) (sym k) ((has.of_int, tt), has.of_int)
  rule_has ns (expr.negation p a) ts r names st h k = subst (HasRule Has) (sym k) ((has.of_bool, tt), has.of_bool)
  rule_has ns (expr.binary o p a b) ts r names st h k =
      subst (HasRule Has) (sym k) (operands_have (sort_of o) (is_dyn_sum o ts), operator_has (sort_of o) (is_dyn_sum o ts))
  rule_has ns (expr.both a b) ts r names st h k = subst (HasRule Has) (sym k) ((has.of_bool, (has.of_bool, tt)), has.of_bool)
  rule_has ns (expr.either a b) ts r names st h k = subst (HasRule Has) (sym k) ((has.of_bool, (has.of_bool, tt)), has.of_bool)
  rule_has ns (expr.read a w) ts r names st h k = (subst (HasAll Has) (sym k.1) (has.of_dyn, tt), member_of_has ts w.text r.gives h k.0)
  rule_has ns (expr.cast p a e) ts r names st h k =
      let writes : Writes (class_list s) a r.gives = subst (λ (cs : List ClassDef). Writes cs a r.gives) names.classes k.0 in
      let type : Has r.gives = has.annotation a r.gives (st (annotation a) (inl refl)) writes in
      (subst (HasAll Has) (sym k.1) (type, tt), type)
  rule_has ns (expr.call p f es) ts r names st h k =
      let at : CallRule (class_list s) (class_called ns.classes f) ts r =
      subst (λ (cs : List ClassDef). CallRule cs (class_called ns.classes f) ts r) names.classes k in
      call_has f (class_called ns.classes f) ts r (ap (λ (cs : List ClassDef). class_called cs f) (sym names.classes)) h at
  rule_has ns (expr.join p w) ts r names st h k =
      (subst (HasAll Has) (sym k.1) tt, name_has Has ns.threads w.text r.gives names.threads k.0)

  -- ---- statements

  -- what a statement asks, and the types of what may be named behind it
  abbrev pub HasLine : List Ty → Names → Type 0
  HasLine asks ms = HasAll Has asks × HasScope s Has ms

  return_has : (o : Option Ty) (asks : List Ty) → ((t : Ty) → o ≡ Some t → Has t) → ReturnRule o asks → HasAll Has asks
  return_has None asks h k = absurd k
  return_has (Some t) asks h k = subst (HasAll Has) (sym k) (h t refl, tt)

  assign_has : (o : Option Ty) (asks : List Ty) → ((t : Ty) → o ≡ Some t → Has t) → AssignRule o asks → HasAll Has asks
  assign_has None asks h k = absurd k
  assign_has (Some t) asks h k = subst (HasAll Has) (sym k) (h t refl, tt)

  write_has : (o : Option Ty) (asks : List Ty) → ((t : Ty) → o ≡ Some t → Has t) → WriteRule o asks → HasAll Has asks
  write_has None asks h k = absurd k
  write_has (Some t) asks h k = subst (HasAll Has) (sym k) (has.of_dyn, (h t refl, tt))

  more_threads : (ns ms : Names) (x : List ℕ) (t : Ty) → HasScope s Has ns → Has t → ms ≡ with_thread ns x t → HasScope s Has ms
  more_threads ns ms x t names type e = subst (HasScope s Has) (sym e) (record {
    classes = names.classes;
    functions = names.functions;
    values = names.values;
    threads = names_append Has ns.threads (record { name = x; ty = t } ∷ []) names.threads (type, tt);
    result = names.result;
  })

  pub line_has : (ns ms : Names) (l : Stmt) (ts asks : List Ty) → HasScope s Has ns → HasAll Has ts
      → LineRule ns l ts asks ms → HasLine asks ms
  line_has ns ms stmt.pass ts asks names h k = (subst (HasAll Has) (sym k.0) tt, subst (HasScope s Has) (sym k.1) names)
  line_has ns ms (stmt.give p e) ts asks names h k = (return_has ns.result asks names.result k.0, subst (HasScope s Has) (sym k.1) names)
  line_has ns ms (stmt.print p es) ts asks names h k = (subst (HasAll Has) (sym k.0) (dyns_have ts), subst (HasScope s Has) (sym k.1) names)
  line_has ns ms (stmt.assign w a e) ts asks names h k = (
    assign_has (type_of_name ns.values w.text) asks (λ t q. name_has Has ns.values w.text t names.values q) k.0,
    subst (HasScope s Has) (sym k.1) names,
  )
  line_has ns ms (stmt.write o w e) ts asks names h k =
      (write_has (member_of ts w.text) asks (λ t q. member_of_has ts w.text t h q) k.0, subst (HasScope s Has) (sym k.1) names)
  line_has ns ms (stmt.start w p f es) ts asks names h k =
      let rule = callee_has ts k.rule h k.called in
      (subst (HasAll Has) (sym k.asked) rule.0, more_threads ns ms w.text (k.rule).gives names rule.1 k.named)
  line_has ns ms (stmt.plain e) ts asks names h k = (subst (HasAll Has) (sym k.0) (has.of_dyn, tt), subst (HasScope s Has) (sym k.1) names)
  line_has ns ms (stmt.if_any bs last) ts asks names h k = absurd k
  line_has ns ms (stmt.loop e body) ts asks names h k = absurd k
