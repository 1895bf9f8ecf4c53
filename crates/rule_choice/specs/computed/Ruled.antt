-- Computed: the rule of an expression whose parts have their types, as the code finds it.
use Rattle.std.specs.Prelude.{List, [], ◌∷◌, length, map, Option, Some, None, Result, Ok, Err, nat_eq, if◌then◌else◌}
use Rattle.mono_syntax.specs.declared.leaf.Op.{Op}
use Rattle.mono_syntax.specs.declared.leaf.Place.{Place}
use Rattle.mono_syntax.specs.declared.leaf.Word.{Word}
use Rattle.mono_syntax.specs.declared.refusal.Reason.TheVariants.{UnknownName, Misused, NoField, Arity, NotCallable}
use Rattle.mono_syntax.specs.declared.refusal.Refusal.{Refusal}
use Rattle.mono_syntax.specs.Ann.{Ann}
use Rattle.mono_syntax.specs.Expr as expr
use Rattle.mono_syntax.specs.Expr.{Expr}
use Rattle.mono_syntax.specs.Ty.{Ty, dyn, int, bool, str, nil, fun}
use Rattle.mono_syntax.specs.TyView.{tys_list}
use Rattle.mono_tree.specs.TypedPrograms.{type_of_name}
use Rattle.static_types.specs.declared.rule.Rule.{Rule}
use Rattle.static_types.specs.Members.{all_dyn}
use Rattle.static_types.specs.Operators.{sort_of, is_dyn_sum, operand_types, operator_type}
use Rattle.static_types.specs.Rules.{takes, at, ann_place, member_of}
use Rattle.known_names.specs.declared.known.Known.{Known}
use Rattle.known_names.specs.declared.known.KnownClass.{KnownClass}
use Rattle.known_names.specs.declared.known.Local.{Local}
use Rattle.known_names.specs.computed.Annotations.{written}
use Rattle.known_names.specs.computed.KnownNames.{known_class}
use Rattle.rule_choice.specs.declared.parts.Part.{Part}
use Rattle.rule_choice.specs.GivenParts.{types_of}

-- ---- names

abbrev pub name_rule : Option Ty → Option Ty → Word → Result Rule Refusal
name_rule (Some t) g w = Ok (takes [] t)
name_rule None (Some t) w = Ok (takes [] t)
name_rule None None w = Err (at w.place UnknownName)

abbrev pub join_rule : Option Ty → Word → Result Rule Refusal
join_rule (Some t) w = Ok (takes [] t)
join_rule None w = Err (at w.place Misused)

-- ---- operators

abbrev pub operator_rule : Op → List Part → Rule
operator_rule o xs = let z = is_dyn_sum o (types_of xs) in takes (operand_types (sort_of o) z) (operator_type (sort_of o) z)

-- ---- fields

abbrev pub read_rule : Option Ty → Word → Result Rule Refusal
read_rule (Some t) w = Ok (takes (dyn ∷ []) t)
read_rule None w = Err (at w.place NoField)

-- ---- casts

abbrev pub cast_rule : Option Ty → Ann → Result Rule Refusal
cast_rule (Some t) a = Ok (takes (t ∷ []) t)
cast_rule None a = Err (at (ann_place a) UnknownName)

-- ---- calls

-- the class whose name is called
abbrev pub called_class : List KnownClass → Expr → Option KnownClass
called_class ks (expr.local w) = known_class ks w.text
called_class ks e = None

abbrev pub new_rule : KnownClass → Place → List Part → Result Rule Refusal
new_rule k p xs = if nat_eq (length xs) (length k.fields) then Ok (takes (map (λ f. f.ty) k.fields) k.ty) else Err (at p Arity)

-- a call of a callee of this type
abbrev pub callee_rule : Ty → Place → List Part → Result Rule Refusal
callee_rule dyn p xs = Ok (takes (dyn ∷ all_dyn xs) dyn)
callee_rule (fun ps t) p xs = if nat_eq (length xs) (length (tys_list ps)) then Ok (takes (dyn ∷ tys_list ps) t) else Err (at p Arity)
callee_rule t p xs = Err (at p NotCallable)

abbrev pub first_rule : Place → List Part → Result Rule Refusal
first_rule p [] = Err (at p NotCallable)
first_rule p (x ∷ xs) = callee_rule x.ty p xs

abbrev pub call_rule : Option KnownClass → Place → List Part → Result Rule Refusal
call_rule (Some k) p xs = new_rule k p xs
call_rule None p xs = first_rule p xs

-- ---- expressions

abbrev pub ruled : Known → Local → Expr → List Part → Result Rule Refusal
ruled ks l (expr.local w) xs = name_rule (type_of_name l.values w.text) (type_of_name ks.functions w.text) w
ruled ks l (expr.number p k) xs = Ok (takes [] int)
ruled ks l (expr.text p x) xs = Ok (takes [] str)
ruled ks l (expr.truth p b) xs = Ok (takes [] bool)
ruled ks l (expr.nil p) xs = Ok (takes [] nil)
ruled ks l (expr.neg p a) xs = Ok (takes (int ∷ []) int)
ruled ks l (expr.negation p a) xs = Ok (takes (bool ∷ []) bool)
ruled ks l (expr.binary o p a b) xs = Ok (operator_rule o xs)
ruled ks l (expr.both a b) xs = Ok (takes (bool ∷ bool ∷ []) bool)
ruled ks l (expr.either a b) xs = Ok (takes (bool ∷ bool ∷ []) bool)
ruled ks l (expr.read a w) xs = read_rule (member_of (types_of xs) w.text) w
ruled ks l (expr.cast p a e) xs = cast_rule (written ks.annotations a) a
ruled ks l (expr.call p f es) xs = call_rule (called_class ks.classes f) p xs
ruled ks l (expr.join p w) xs = join_rule (type_of_name l.threads w.text) w
