-- A rule asks as many types as there are parts.
use Rattle.std.proofs.Common.{◌≡◌, suc, Bool, true, false, List, [], ◌∷◌, length, refl, sym, ◌∙◌, ap}
use Rattle.std.specs.Prelude.{Option, Some, None}
use Rattle.mono_syntax.specs.declared.tree.ClassDef.{ClassDef}
use Rattle.mono_syntax.specs.Expr as expr
use Rattle.mono_syntax.specs.Expr.{Expr}
use Rattle.mono_syntax.specs.Ty.{Ty, dyn, int, bool, str, nil, fun, obj}
use Rattle.static_types.specs.declared.rule.Rule.{Rule}
use Rattle.static_types.specs.Members.{all_dyn}
use Rattle.static_types.specs.Names.{Names}
use Rattle.static_types.specs.Operators.{Sort, arithmetic, comparison, equality, sort_of, is_dyn_sum, operand_types}
use Rattle.static_types.specs.Parts.{class_called, parts}
use Rattle.static_types.specs.Rules.{CalleeRule, CallRule, RuleOf}
use Rattle.static_types.specs.Types.{TypeAll, of_none, of_more}
use Rattle.rule_choice.specs.declared.parts.Part.{Part}
use Rattle.rule_choice.specs.GivenParts.{types_of}

pub types_count : (xs : List Part) → length (types_of xs) ≡ length xs
types_count [] = refl
types_count (x ∷ xs) = ap suc (types_count xs)

pub types_count_of : (ns : Names) (es : List Expr) (ts all : List Ty) → TypeAll ns es ts all → length ts ≡ length es
types_count_of ns es ts all of_none = refl
types_count_of ns es ts all (of_more {es = es2} {ts = ts2} {vs = vs} h k q) = ap suc (types_count_of ns es2 ts2 vs k)

two_operands : (s : Sort) (z : Bool) → length (operand_types s z) ≡ 2
two_operands equality z = refl
two_operands comparison z = refl
two_operands arithmetic true = refl
two_operands arithmetic false = refl

pub dyn_count : {A : Type 0} (xs : List A) → length (all_dyn xs) ≡ length xs
dyn_count [] = refl
dyn_count (x ∷ xs) = ap suc (dyn_count xs)

pub callee_count : (ts : List Ty) (r : Rule) → CalleeRule ts r → length ts ≡ length r.asks
callee_count [] r h = absurd h
callee_count (dyn ∷ ts) r h = ap suc (sym (dyn_count ts)) ∙ ap (λ (z : Rule). length z.asks) (sym h)
callee_count (fun ps t ∷ ts) r h = ap suc h.0 ∙ ap (λ (z : Rule). length z.asks) (sym h.1)
callee_count (int ∷ ts) r h = absurd h
callee_count (bool ∷ ts) r h = absurd h
callee_count (str ∷ ts) r h = absurd h
callee_count (nil ∷ ts) r h = absurd h
callee_count (obj fs ∷ ts) r h = absurd h

call_count : (cs : List ClassDef) (o : Option ClassDef) (ts : List Ty) (r : Rule) → CallRule cs o ts r → length ts ≡ length r.asks
call_count cs (Some d) ts r h = h.count ∙ ap (λ (z : Rule). length z.asks) (sym h.rule)
call_count cs None ts r h = callee_count ts r h

pub asks_count : (ns : Names) (e : Expr) (ts : List Ty) (r : Rule) → length ts ≡ length (parts ns.classes e) → RuleOf ns e ts r → length ts ≡ length r.asks
asks_count ns (expr.local w) ts r c h = c ∙ ap (λ (z : List Ty). length z) (sym h.1)
asks_count ns (expr.number p n) ts r c h = c ∙ ap (λ (z : Rule). length z.asks) (sym h)
asks_count ns (expr.text p x) ts r c h = c ∙ ap (λ (z : Rule). length z.asks) (sym h)
asks_count ns (expr.truth p b) ts r c h = c ∙ ap (λ (z : Rule). length z.asks) (sym h)
asks_count ns (expr.nil p) ts r c h = c ∙ ap (λ (z : Rule). length z.asks) (sym h)
asks_count ns (expr.neg p a) ts r c h = c ∙ ap (λ (z : Rule). length z.asks) (sym h)
asks_count ns (expr.negation p a) ts r c h = c ∙ ap (λ (z : Rule). length z.asks) (sym h)
asks_count ns (expr.binary o p a b) ts r c h = c ∙ sym (two_operands (sort_of o) (is_dyn_sum o ts)) ∙ ap (λ (z : Rule). length z.asks) (sym h)
asks_count ns (expr.both a b) ts r c h = c ∙ ap (λ (z : Rule). length z.asks) (sym h)
asks_count ns (expr.either a b) ts r c h = c ∙ ap (λ (z : Rule). length z.asks) (sym h)
asks_count ns (expr.read a w) ts r c h = c ∙ ap (λ (z : List Ty). length z) (sym h.1)
asks_count ns (expr.cast p a e) ts r c h = c ∙ ap (λ (z : List Ty). length z) (sym h.1)
asks_count ns (expr.call p g es) ts r c h = call_count ns.classes (class_called ns.classes g) ts r h
asks_count ns (expr.join p w) ts r c h = c ∙ ap (λ (z : List Ty). length z) (sym h.1)
