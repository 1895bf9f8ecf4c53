-- The rules of typing: at which type an expression uses each of its parts, where their types are known, and which type it has
-- itself. A part of which any type will do is used at `Dyn`.
use Rattle.std.specs.Prelude.{◌≡◌, ℕ, List, [], ◌∷◌, length, Option, Some, None}
use Rattle.mono_syntax.specs.declared.leaf.Place.{Place}
use Rattle.mono_syntax.specs.declared.refusal.Reason.{Reason}
use Rattle.mono_syntax.specs.declared.refusal.Reason.TheVariants.{UnknownName, Misused, NoField, Arity, NotCallable}
use Rattle.mono_syntax.specs.declared.refusal.Refusal.{Refusal}
use Rattle.mono_syntax.specs.declared.tree.ClassDef.{ClassDef}
use Rattle.mono_syntax.specs.Ann.{Ann, ann}
use Rattle.mono_syntax.specs.Expr as expr
use Rattle.mono_syntax.specs.Expr.{Expr}
use Rattle.mono_syntax.specs.Ty.{Ty, dyn, int, bool, str, nil, fun, obj, Fields}
use Rattle.mono_syntax.specs.TyView.{tys_list}
use Rattle.mono_tree.specs.TypedPrograms.{type_of_name}
use Rattle.script_rules.specs.Writes.{Writes, Declares, in_order}
use Rattle.static_types.specs.declared.rule.Rule.{Rule}
use Rattle.static_types.specs.Members.{member_type, field_types, all_dyn}
use Rattle.static_types.specs.Names.{Names, NameType}
use Rattle.static_types.specs.Operators.{sort_of, is_dyn_sum, operand_types, operator_type}
use Rattle.static_types.specs.Parts.{class_called}

abbrev pub takes : List Ty → Ty → Rule
takes asks t = record { asks = asks; gives = t }

-- what a value of the first of these types has in its field x
abbrev pub member_of : List Ty → List ℕ → Option Ty
member_of [] x = None
member_of (t ∷ ts) x = member_type t x

-- a call of a callee of the first of these types with arguments of the others
abbrev pub CalleeRule : List Ty → Rule → Type 0
-- of a callee of type `Dyn` nothing is known, so that any arguments will do
CalleeRule (dyn ∷ ts) r = r ≡ takes (dyn ∷ all_dyn ts) dyn
CalleeRule (fun ps t ∷ ts) r = (length ts ≡ length (tys_list ps)) × (r ≡ takes (dyn ∷ tys_list ps) t)
CalleeRule ts r = ⊥

-- an object of a class takes a value for each field, in declared order
pub record NewRule (cs : List ClassDef) (d : ClassDef) (ts : List Ty) (r : Rule) : Type 0 where
  pub fields : Fields
  pub declared : Declares cs d.fields fields
  pub count : length ts ≡ length (field_types fields)
  pub rule : r ≡ takes (field_types fields) (obj (in_order fields))

abbrev pub CallRule : List ClassDef → Option ClassDef → List Ty → Rule → Type 0
CallRule cs (Some d) ts r = NewRule cs d ts r
CallRule cs None ts r = CalleeRule ts r

abbrev pub RuleOf : Names → Expr → List Ty → Rule → Type 0
-- a name has its type, and no parts
RuleOf ns (expr.local w) ts r = NameType ns w.text r.gives × (r.asks ≡ [])
RuleOf ns (expr.number p k) ts r = r ≡ takes [] int
RuleOf ns (expr.text p x) ts r = r ≡ takes [] str
RuleOf ns (expr.truth p b) ts r = r ≡ takes [] bool
RuleOf ns (expr.nil p) ts r = r ≡ takes [] nil
RuleOf ns (expr.neg p a) ts r = r ≡ takes (int ∷ []) int
RuleOf ns (expr.negation p a) ts r = r ≡ takes (bool ∷ []) bool
-- an operator is used by its sort; a sum of two parts of type `Dyn` is one of anything
RuleOf ns (expr.binary o p a b) ts r = r ≡ takes (operand_types (sort_of o) (is_dyn_sum o ts)) (operator_type (sort_of o) (is_dyn_sum o ts))
RuleOf ns (expr.both a b) ts r = r ≡ takes (bool ∷ bool ∷ []) bool
RuleOf ns (expr.either a b) ts r = r ≡ takes (bool ∷ bool ∷ []) bool
-- a read has the type of the field, and asks nothing more of its owner
RuleOf ns (expr.read a w) ts r = (member_of ts w.text ≡ Some r.gives) × (r.asks ≡ dyn ∷ [])
-- a written cast uses its part at the type that it writes, and has this type
RuleOf ns (expr.cast p a e) ts r = Writes ns.classes a r.gives × (r.asks ≡ r.gives ∷ [])
-- a call of a class makes an object of it, and any other calls its callee
RuleOf ns (expr.call p f es) ts r = CallRule ns.classes (class_called ns.classes f) ts r
-- a join has the type of what its thread gives, and no parts
RuleOf ns (expr.join p w) ts r = (type_of_name ns.threads w.text ≡ Some r.gives) × (r.asks ≡ [])

-- ---- where there is no rule

abbrev pub at : Place → Reason → Refusal
at p r = record { place = p; reason = r }

-- a callee that takes more or fewer arguments, or is no function
abbrev pub CalleeFault : Place → List Ty → Refusal → Type 0
CalleeFault p (dyn ∷ ts) f = ⊥
CalleeFault p (fun ps t ∷ ts) f = (length ts ≡ length (tys_list ps) → ⊥) × (f ≡ at p Arity)
CalleeFault p ts f = f ≡ at p NotCallable

-- a class that has more or fewer fields
pub record NewFault (cs : List ClassDef) (d : ClassDef) (p : Place) (ts : List Ty) (f : Refusal) : Type 0 where
  pub fields : Fields
  pub declared : Declares cs d.fields fields
  pub count : length ts ≡ length (field_types fields) → ⊥
  pub fault : f ≡ at p Arity

abbrev pub CallFault : List ClassDef → Option ClassDef → Place → List Ty → Refusal → Type 0
CallFault cs (Some d) p ts f = NewFault cs d p ts f
CallFault cs None p ts f = CalleeFault p ts f

abbrev pub ann_place : Ann → Place
ann_place (ann p form) = p

-- A name that stands for nothing, and a join of nothing, have no type either. The names of a script are looked at before its types,
-- so no script that comes here has one.
abbrev pub RuleFault : Names → Expr → List Ty → Refusal → Type 0
-- a name that stands for nothing
RuleFault ns (expr.local w) ts f = ((t : Ty) → NameType ns w.text t → ⊥) × (f ≡ at w.place UnknownName)
-- a field that no value of the owner's type has
RuleFault ns (expr.read a w) ts f = (member_of ts w.text ≡ None) × (f ≡ at w.place NoField)
-- an annotation that writes no type
RuleFault ns (expr.cast p a e) ts f = ((t : Ty) → Writes ns.classes a t → ⊥) × (f ≡ at (ann_place a) UnknownName)
-- too many or too few arguments, or a callee that is no function
RuleFault ns (expr.call p g es) ts f = CallFault ns.classes (class_called ns.classes g) p ts f
-- a join of what isn't started
RuleFault ns (expr.join p w) ts f = (type_of_name ns.threads w.text ≡ None) × (f ≡ at w.place Misused)
-- all others have a rule
RuleFault ns e ts f = ⊥
