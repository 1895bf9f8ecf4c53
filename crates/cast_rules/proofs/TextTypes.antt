-- Where the fields of classes have names that are text, so have all types that the rules ask and give.
use Rattle.std.proofs.Common.{◌≡◌, ℕ, List, [], ◌∷◌, ◌++◌, Bool, true, false, Option, Some, None, refl, sym, ap, subst, bytes_eq, if◌then◌else◌}
use Rattle.std.specs.Ordering.{nat_cmp, is_gt}
use Rattle.std.specs.Cmp.Lexicographic.{slice_cmp}
use Rattle.std.specs.Str.{IsUtf8}
use Rattle.mono_list.proofs.Cases.{split, some_is, none_some}
use Rattle.mono_syntax.specs.declared.cast.NamedType.{NamedType}
use Rattle.mono_syntax.specs.declared.tree.ClassDef.{ClassDef}
use Rattle.mono_syntax.specs.declared.tree.FieldDef.{FieldDef}
use Rattle.mono_syntax.specs.declared.tree.FuncDef.{FuncDef}
use Rattle.mono_syntax.specs.declared.tree.Param.{Param}
use Rattle.mono_syntax.specs.Ann.{Ann, Anns}
use Rattle.mono_syntax.specs.Expr as expr
use Rattle.mono_syntax.specs.Expr.{Expr}
use Rattle.mono_syntax.specs.Stmt as stmt
use Rattle.mono_syntax.specs.Stmt.{Stmt}
use Rattle.mono_syntax.specs.Ty.{Ty, dyn, int, bool, str, nil, fun, obj, Tys, no_tys, more_tys, Fields, no_fields, more_fields}
use Rattle.mono_syntax.specs.TyView.{tys_list}
use Rattle.mono_tree.specs.TypedPrograms.{type_of_name}
use Rattle.mono_tree.specs.TypeText.{HasTextNames, HaveTextNames, AreTextNames}
use Rattle.script_rules.specs.BlockNames.{Target}
use Rattle.script_rules.specs.Definitions.{class_named, function_named}
use Rattle.script_rules.specs.Writes.{put_field, in_order, Writes, writes_dyn, writes_int, writes_bool, writes_str, writes_nil, writes_class, writes_fun, WriteAll, write_none, write_more, Declares, declares_none, declares_more, WritesAny, ParamTypes, IsFunctionType}
use Rattle.static_types.specs.Lines.{AssignRule, WriteRule, ReturnRule, LineRule}
use Rattle.static_types.specs.Members.{field_type, member_type, field_types, all_dyn}
use Rattle.static_types.specs.Names.{Names, with_thread, IsNamed, IsFunctionNamed}
use Rattle.static_types.specs.Operators.{Sort, arithmetic, comparison, equality, sort_of, is_dyn_sum, operand_types, operator_type}
use Rattle.static_types.specs.Parts.{class_called}
use Rattle.static_types.specs.declared.rule.Rule.{Rule}
use Rattle.static_types.specs.Rules.{member_of, CalleeRule, NewRule, CallRule, RuleOf}
use Rattle.script_rules.specs.SourceCasts.{AreNames}
use Rattle.cast_rules.specs.TextNames.{AreTextFields, HaveTextFields}

-- ---- types that are written

put_text : (n : List ℕ) (t : Ty) (fs : Fields) → IsUtf8 n → HasTextNames t → AreTextNames fs → AreTextNames (put_field n t fs)
put_text n t no_fields u h k = (u, h, tt)
put_text n t (more_fields m s fs) u h k =
    split (is_gt (slice_cmp nat_cmp n m)) (λ b. AreTextNames (if b then more_fields m s (put_field n t fs) else more_fields n t (more_fields m s fs)))
    (λ _. (k.0, k.1, put_text n t fs u h k.2)) (λ _. (u, h, k))

order_text : (fs : Fields) → AreTextNames fs → AreTextNames (in_order fs)
order_text no_fields h = tt
order_text (more_fields n t fs) h = put_text n t (in_order fs) h.0 h.1 (order_text fs h.2)

named_text : (cs : List ClassDef) (x : List ℕ) (d : ClassDef) → HaveTextFields cs → class_named cs x ≡ Some d → AreTextFields d.fields
named_text [] x d h e = none_some (AreTextFields d.fields) e
named_text (c ∷ cs) x d h e =
    split (bytes_eq c.name.text x) (λ b. (if b then Some c else class_named cs x) ≡ Some d → AreTextFields d.fields)
    (λ _ f. subst (λ (k : ClassDef). AreTextFields k.fields) (some_is f) h.0) (λ _ f. named_text cs x d h.1 f) e

mutual
  pub written_text : (cs : List ClassDef) → HaveTextFields cs → {a : Ann} {t : Ty} → Writes cs a t → HasTextNames t
  written_text cs h writes_dyn = tt
  written_text cs h writes_int = tt
  written_text cs h writes_bool = tt
  written_text cs h writes_str = tt
  written_text cs h writes_nil = tt
  written_text cs h (writes_class {w = w} {d = d} {fs = fs} e k same) = subst HasTextNames (sym same) (order_text fs (declared_text cs h (named_text cs w.text d h e) k))
  written_text cs h (writes_fun ps r) = (all_text cs h ps, written_text cs h r)

  all_text : (cs : List ClassDef) → HaveTextFields cs → {as_ : Anns} {ts : Tys} → WriteAll cs as_ ts → HaveTextNames ts
  all_text cs h write_none = tt
  all_text cs h (write_more w ws) = (written_text cs h w, all_text cs h ws)

  declared_text : (cs : List ClassDef) → HaveTextFields cs → {ds : List FieldDef} {fs : Fields} → AreTextFields ds → Declares cs ds fs → AreTextNames fs
  declared_text cs h k declares_none = tt
  declared_text cs h k (declares_more w ws) = (k.0, written_text cs h w, declared_text cs h k.1 ws)

pub any_text : (cs : List ClassDef) → HaveTextFields cs → (o : Option Ann) (t : Ty) → WritesAny cs o t → HasTextNames t
any_text cs h None t w = subst HasTextNames (sym w) tt
any_text cs h (Some a) t w = written_text cs h w

params_text : (cs : List ClassDef) → HaveTextFields cs → (ps : List Param) (ts : Tys) → ParamTypes cs ps ts → HaveTextNames ts
params_text cs h [] no_tys k = tt
params_text cs h [] (more_tys t ts) k = absurd k
params_text cs h (p ∷ ps) no_tys k = absurd k
params_text cs h (p ∷ ps) (more_tys t ts) k = (any_text cs h p.ann t k.0, params_text cs h ps ts k.1)

pub function_text : (cs : List ClassDef) → HaveTextFields cs → (d : FuncDef) (t : Ty) → IsFunctionType cs d t → HasTextNames t
function_text cs h d t k = subst HasTextNames (sym k.type) (params_text cs h d.params k.parameters k.takes, any_text cs h d.result k.result k.gives)

-- ---- types in a row

abbrev pub AllText : List Ty → Type 0
AllText [] = Unit {0}
AllText (t ∷ ts) = HasTextNames t × AllText ts

dyns_text : (ts : List Ty) → AllText (all_dyn ts)
dyns_text [] = tt
dyns_text (t ∷ ts) = (tt, dyns_text ts)

tys_text : (ps : Tys) → HaveTextNames ps → AllText (tys_list ps)
tys_text no_tys h = tt
tys_text (more_tys t ts) h = (h.0, tys_text ts h.1)

fields_text : (fs : Fields) → AreTextNames fs → AllText (field_types fs)
fields_text no_fields h = tt
fields_text (more_fields n t fs) h = (h.1, fields_text fs h.2)

field_text : (fs : Fields) (x : List ℕ) (t : Ty) → AreTextNames fs → field_type fs x ≡ Some t → HasTextNames t
field_text no_fields x t h e = none_some (HasTextNames t) e
field_text (more_fields n u fs) x t h e =
    split (bytes_eq n x) (λ b. (if b then Some u else field_type fs x) ≡ Some t → HasTextNames t)
    (λ _ f. subst HasTextNames (some_is f) h.1) (λ _ f. field_text fs x t h.2 f) e

member_text : (u : Ty) (x : List ℕ) (t : Ty) → HasTextNames u → member_type u x ≡ Some t → HasTextNames t
member_text dyn x t h e = subst HasTextNames (some_is e) tt
member_text int x t h e = none_some (HasTextNames t) e
member_text bool x t h e = none_some (HasTextNames t) e
member_text str x t h e = none_some (HasTextNames t) e
member_text nil x t h e = none_some (HasTextNames t) e
member_text (fun ps r) x t h e = none_some (HasTextNames t) e
member_text (obj fs) x t h e = field_text fs x t h e

member_of_text : (ts : List Ty) (x : List ℕ) (t : Ty) → AllText ts → member_of ts x ≡ Some t → HasTextNames t
member_of_text [] x t h e = none_some (HasTextNames t) e
member_of_text (u ∷ ts) x t h e = member_text u x t h.0 e

operand_text : (o : Sort) (b : Bool) → AllText (operand_types o b)
operand_text equality b = (tt, (tt, tt))
operand_text comparison b = (tt, (tt, tt))
operand_text arithmetic true = (tt, (tt, tt))
operand_text arithmetic false = (tt, (tt, tt))

operator_text : (o : Sort) (b : Bool) → HasTextNames (operator_type o b)
operator_text equality b = tt
operator_text comparison b = tt
operator_text arithmetic true = tt
operator_text arithmetic false = tt

-- ---- names

abbrev pub NamesText : List NamedType → Type 0
NamesText [] = Unit {0}
NamesText (n ∷ ns) = HasTextNames n.ty × NamesText ns

names_append : (ns ms : List NamedType) → NamesText ns → NamesText ms → NamesText (ns ++ ms)
names_append [] ms h k = k
names_append (n ∷ ns) ms h k = (h.0, names_append ns ms h.1 k)

name_text : (ns : List NamedType) (x : List ℕ) (t : Ty) → NamesText ns → type_of_name ns x ≡ Some t → HasTextNames t
name_text [] x t h e = none_some (HasTextNames t) e
name_text (n ∷ ns) x t h e =
    split (bytes_eq n.name x) (λ b. (if b then Some n.ty else type_of_name ns x) ≡ Some t → HasTextNames t)
    (λ _ f. subst HasTextNames (some_is f) h.0) (λ _ f. name_text ns x t h.1 f) e

pub names_text : (cs : List ClassDef) → HaveTextFields cs → (ts : List Target) (ns : List NamedType) → AreNames cs ts ns → NamesText ns
names_text cs h [] [] k = tt
names_text cs h [] (n ∷ ns) k = absurd k
names_text cs h (t ∷ ts) [] k = absurd k
names_text cs h (t ∷ ts) (n ∷ ns) k = (any_text cs h t.ann n.ty k.1, names_text cs h ts ns k.2)

pub record IsTextScope (ns : Names) : Type 0 where
  pub classes : HaveTextFields ns.classes
  pub values : NamesText ns.values
  pub threads : NamesText ns.threads
  pub result : (t : Ty) → ns.result ≡ Some t → HasTextNames t

-- ---- what rules ask and give

abbrev pub IsTextRule : Rule → Type 0
IsTextRule r = AllText r.asks × HasTextNames r.gives

callee_text : (ts : List Ty) (r : Rule) → AllText ts → CalleeRule ts r → IsTextRule r
callee_text [] r h k = absurd k
callee_text (dyn ∷ ts) r h k = subst IsTextRule (sym k) ((tt, dyns_text ts), tt)
callee_text (fun ps t ∷ ts) r h k = subst IsTextRule (sym k.1) ((tt, tys_text ps (h.0).0), (h.0).1)
callee_text (int ∷ ts) r h k = absurd k
callee_text (bool ∷ ts) r h k = absurd k
callee_text (str ∷ ts) r h k = absurd k
callee_text (nil ∷ ts) r h k = absurd k
callee_text (obj fs ∷ ts) r h k = absurd k

called_text : (cs : List ClassDef) (f : Expr) (d : ClassDef) → HaveTextFields cs → class_called cs f ≡ Some d → AreTextFields d.fields
called_text cs (expr.local w) d h e = named_text cs w.text d h e
called_text cs _ d h e = none_some (AreTextFields d.fields) e

call_text : (cs : List ClassDef) (f : Expr) (o : Option ClassDef) (ts : List Ty) (r : Rule) → HaveTextFields cs → class_called cs f ≡ o → AllText ts → CallRule cs o ts r → IsTextRule r
call_text cs f None ts r h e ks k = callee_text ts r ks k
call_text cs f (Some d) ts r h e ks k =
    let fs : AreTextNames k.fields = declared_text cs h (called_text cs f d h e) k.declared in
    subst IsTextRule (sym k.rule) (fields_text k.fields fs, order_text k.fields fs)

function_named_text : (cs : List ClassDef) → HaveTextFields cs → (o : Option FuncDef) (t : Ty) → IsFunctionNamed cs o t → HasTextNames t
function_named_text cs h None t k = absurd k
function_named_text cs h (Some d) t k = function_text cs h d t k

is_named_text : (ns : Names) (o : Option Ty) (x : List ℕ) (t : Ty) → IsTextScope ns → type_of_name ns.values x ≡ o → IsNamed ns o x t → HasTextNames t
is_named_text ns (Some u) x t h e k = subst HasTextNames (sym k) (name_text ns.values x u h.values e)
is_named_text ns None x t h e k = function_named_text ns.classes h.classes (function_named ns.functions x) t k

pub rule_text : (ns : Names) (e : Expr) (ts : List Ty) (r : Rule) → IsTextScope ns → AllText ts → RuleOf ns e ts r → IsTextRule r
rule_text ns (expr.local w) ts r h ks k = (subst AllText (sym k.1) tt, is_named_text ns (type_of_name ns.values w.text) w.text r.gives h refl k.0)
rule_text ns (expr.number p n) ts r h ks k = subst IsTextRule (sym k) (tt, tt)
rule_text ns (expr.text p x) ts r h ks k = subst IsTextRule (sym k) (tt, tt)
rule_text ns (expr.truth p b) ts r h ks k = subst IsTextRule (sym k) (tt, tt)
rule_text ns (expr.nil p) ts r h ks k = subst IsTextRule (sym k) (tt, tt)
rule_text ns (expr.neg p a) ts r h ks k = subst IsTextRule (sym k) ((tt, tt), tt)
rule_text ns (expr.negation p a) ts r h ks k = subst IsTextRule (sym k) ((tt, tt), tt)
rule_text ns (expr.binary o p a b) ts r h ks k = subst IsTextRule (sym k) (operand_text (sort_of o) (is_dyn_sum o ts), operator_text (sort_of o) (is_dyn_sum o ts))
rule_text ns (expr.both a b) ts r h ks k = subst IsTextRule (sym k) ((tt, (tt, tt)), tt)
rule_text ns (expr.either a b) ts r h ks k = subst IsTextRule (sym k) ((tt, (tt, tt)), tt)
rule_text ns (expr.read a w) ts r h ks k = (subst AllText (sym k.1) (tt, tt), member_of_text ts w.text r.gives ks k.0)
rule_text ns (expr.cast p a e) ts r h ks k = let t = written_text ns.classes h.classes k.0 in (subst AllText (sym k.1) (t, tt), t)
rule_text ns (expr.call p f es) ts r h ks k = call_text ns.classes f (class_called ns.classes f) ts r h.classes refl ks k
rule_text ns (expr.join p w) ts r h ks k = (subst AllText (sym k.1) tt, name_text ns.threads w.text r.gives h.threads k.0)

-- ---- statements

return_text : (o : Option Ty) (asks : List Ty) → ((t : Ty) → o ≡ Some t → HasTextNames t) → ReturnRule o asks → AllText asks
return_text None asks h k = absurd k
return_text (Some t) asks h k = subst AllText (sym k) (h t refl, tt)

assign_text : (o : Option Ty) (asks : List Ty) → ((t : Ty) → o ≡ Some t → HasTextNames t) → AssignRule o asks → AllText asks
assign_text None asks h k = absurd k
assign_text (Some t) asks h k = subst AllText (sym k) (h t refl, tt)

write_text : (o : Option Ty) (asks : List Ty) → ((t : Ty) → o ≡ Some t → HasTextNames t) → WriteRule o asks → AllText asks
write_text None asks h k = absurd k
write_text (Some t) asks h k = subst AllText (sym k) (tt, (h t refl, tt))

more_threads : (ns ms : Names) (x : List ℕ) (t : Ty) → IsTextScope ns → HasTextNames t → ms ≡ with_thread ns x t → IsTextScope ms
more_threads ns ms x t h k e = subst IsTextScope (sym e) (record {
  classes = h.classes;
  values = h.values;
  threads = names_append ns.threads (record { name = x; ty = t } ∷ []) h.threads (k, tt);
  result = h.result;
})

-- what a statement asks, and what may be named behind it
abbrev pub IsTextLine : List Ty → Names → Type 0
IsTextLine asks ms = AllText asks × IsTextScope ms

pub line_text : (ns ms : Names) (l : Stmt) (ts asks : List Ty) → IsTextScope ns → AllText ts → LineRule ns l ts asks ms → IsTextLine asks ms
line_text ns ms stmt.pass ts asks h ks k = (subst AllText (sym k.0) tt, subst IsTextScope (sym k.1) h)
line_text ns ms (stmt.give p e) ts asks h ks k = (return_text ns.result asks h.result k.0, subst IsTextScope (sym k.1) h)
line_text ns ms (stmt.print p es) ts asks h ks k = (subst AllText (sym k.0) (dyns_text ts), subst IsTextScope (sym k.1) h)
line_text ns ms (stmt.assign w a e) ts asks h ks k = (assign_text (type_of_name ns.values w.text) asks (λ t q. name_text ns.values w.text t h.values q) k.0, subst IsTextScope (sym k.1) h)
line_text ns ms (stmt.write o w e) ts asks h ks k = (write_text (member_of ts w.text) asks (λ t q. member_of_text ts w.text t ks q) k.0, subst IsTextScope (sym k.1) h)
line_text ns ms (stmt.start w p f es) ts asks h ks k =
    let rule = callee_text ts k.rule ks k.called in
    (subst AllText (sym k.asked) rule.0, more_threads ns ms w.text (k.rule).gives h rule.1 k.named)
line_text ns ms (stmt.plain e) ts asks h ks k = (subst AllText (sym k.0) (tt, tt), subst IsTextScope (sym k.1) h)
line_text ns ms (stmt.if_any bs last) ts asks h ks k = absurd k
line_text ns ms (stmt.loop e body) ts asks h ks k = absurd k
