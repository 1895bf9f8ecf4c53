-- The rule that the code finds is the one that there is, and where it finds none there is none.
use Rattle.std.proofs.Common.{◌≡◌, suc, cond, List, [], ◌∷◌, length, Result, Ok, Err, refl, sym, ◌∙◌, ap, subst}
use Rattle.std.specs.Prelude.{Option, Some, None, map, nat_eq}
use Rattle.std.proofs.lemmas.Bool.{eqb-true, eqb-false}
use Rattle.mono_list.proofs.Cases.{split, none_some}
use Rattle.mono_syntax.specs.declared.leaf.Place.{Place}
use Rattle.mono_syntax.specs.declared.leaf.Word.{Word}
use Rattle.mono_syntax.specs.declared.refusal.Reason.TheVariants.{Arity}
use Rattle.mono_syntax.specs.declared.refusal.Refusal.{Refusal}
use Rattle.mono_syntax.specs.declared.tree.ClassDef.{ClassDef}
use Rattle.mono_syntax.specs.declared.tree.Field.{Field}
use Rattle.mono_syntax.specs.declared.tree.FuncDef.{FuncDef}
use Rattle.mono_syntax.specs.Ann.{Ann}
use Rattle.mono_syntax.specs.Expr as expr
use Rattle.mono_syntax.specs.Expr.{Expr, Exprs}
use Rattle.mono_syntax.specs.Ty.{Ty, dyn, int, bool, str, nil, fun, obj}
use Rattle.mono_syntax.specs.TyView.{tys_list, fields}
use Rattle.mono_tree.specs.TypedPrograms.{type_of_name}
use Rattle.script_rules.specs.Definitions.{function_named}
use Rattle.static_types.specs.declared.rule.Rule.{Rule}
use Rattle.static_types.specs.Members.{field_types, all_dyn}
use Rattle.static_types.specs.Names.{Names, IsNamed, IsFunctionNamed}
use Rattle.static_types.specs.Parts.{class_called}
use Rattle.static_types.specs.Rules.{takes, at, member_of, CalleeRule, NewRule, CallRule, RuleOf, CalleeFault, NewFault, CallFault, RuleFault}
use Rattle.known_names.specs.declared.known.Known.{Known}
use Rattle.known_names.specs.declared.known.KnownClass.{KnownClass}
use Rattle.known_names.specs.declared.known.Local.{Local}
use Rattle.known_names.specs.computed.Annotations.{written}
use Rattle.known_names.specs.IsKnown.{IsKnown, IsKnownClass, IsSameClass, names_in}
use Rattle.known_names.proofs.AnnotationLaws.{found_writes, written_found}
use Rattle.known_names.proofs.Classes.{same_class, SameFunction, same_function}
use Rattle.rule_choice.specs.declared.parts.Part.{Part}
use Rattle.rule_choice.specs.GivenParts.{types_of}
use Rattle.rule_choice.proofs.CountLaws.{types_count}
use Rattle.rule_choice.proofs.Given.{Answers}
use Rattle.rule_choice.specs.computed.Ruled.{name_rule, join_rule, read_rule, cast_rule, called_class, new_rule, callee_rule, first_rule, call_rule, ruled}

-- the rule, or the fault where there is none
abbrev pub IsRuled : Names → Expr → List Part → Result Rule Refusal → Type 0
IsRuled ns e xs m = Answers (RuleOf ns e (types_of xs)) (RuleFault ns e (types_of xs)) m

-- ---- calls

dyn_types : (xs : List Part) → all_dyn (types_of xs) ≡ all_dyn xs
dyn_types [] = refl
dyn_types (x ∷ xs) = ap (λ (z : List Ty). dyn ∷ z) (dyn_types xs)

pub fields_types : (fs : List Field) → field_types (fields fs) ≡ map (λ f. f.ty) fs
fields_types [] = refl
fields_types (f ∷ fs) = ap (λ (z : List Ty). f.ty ∷ z) (fields_types fs)

fields_count : (fs : List Field) → length (field_types (fields fs)) ≡ length fs
fields_count [] = refl
fields_count (f ∷ fs) = ap suc (fields_count fs)

-- a call of a callee with arguments of these types
abbrev IsCalled : Place → Ty → List Part → Result Rule Refusal → Type 0
IsCalled p t xs (Ok r) = CalleeRule (t ∷ types_of xs) r
IsCalled p t xs (Err f) = CalleeFault p (t ∷ types_of xs) f

function_so : (p : Place) (ps : _) (u : Ty) (xs : List Part) → IsCalled p (fun ps u) xs (callee_rule (fun ps u) p xs)
function_so p ps u xs =
    split (nat_eq (length xs) (length (tys_list ps))) (λ z. IsCalled p (fun ps u) xs (cond z (Ok (takes (dyn ∷ tys_list ps) u)) (Err (at p Arity))))
    (λ y. (types_count xs ∙ eqb-true (length xs) (length (tys_list ps)) y, refl))
    (λ n. ((λ e. eqb-false (length xs) (length (tys_list ps)) n (sym (types_count xs) ∙ e)), refl))

callee_so : (p : Place) (t : Ty) (xs : List Part) → IsCalled p t xs (callee_rule t p xs)
callee_so p dyn xs = ap (λ (z : List Ty). takes (dyn ∷ z) dyn) (sym (dyn_types xs))
callee_so p (fun ps u) xs = function_so p ps u xs
callee_so p int xs = refl
callee_so p bool xs = refl
callee_so p str xs = refl
callee_so p nil xs = refl
callee_so p (obj fs) xs = refl

abbrev pub IsFirstCalled : Place → List Part → Result Rule Refusal → Type 0
IsFirstCalled p xs m = Answers (CalleeRule (types_of xs)) (CalleeFault p (types_of xs)) m

-- the callee's outcome, as that of the whole row
first_of_called : (p : Place) (x : Part) (xs : List Part) (r : Result Rule Refusal) → IsCalled p x.ty xs r → IsFirstCalled p (x ∷ xs) r
first_of_called p x xs (Ok r) h = h
first_of_called p x xs (Err f) h = h

pub first_so : (p : Place) (xs : List Part) → IsFirstCalled p xs (first_rule p xs)
first_so p [] = refl
first_so p (x ∷ xs) = first_of_called p x xs (callee_rule x.ty p xs) (callee_so p x.ty xs)

-- ---- the class that is called

module _ (cs : List ClassDef) (fs : List FuncDef) (ks : Known) (known : IsKnown cs fs ks) where
  pub same_called : (f : Expr) → IsSameClass cs (class_called cs f) (called_class ks.classes f)
  same_called (expr.local w) = same_class cs fs ks w.text known
  same_called (expr.number p n) = tt
  same_called (expr.text p x) = tt
  same_called (expr.truth p b) = tt
  same_called (expr.nil p) = tt
  same_called (expr.neg p a) = tt
  same_called (expr.negation p a) = tt
  same_called (expr.binary o p a b) = tt
  same_called (expr.both a b) = tt
  same_called (expr.either a b) = tt
  same_called (expr.read a w) = tt
  same_called (expr.call p g es) = tt
  same_called (expr.cast p a e) = tt
  same_called (expr.join p w) = tt

-- ---- names

module _ (cs : List ClassDef) (fs : List FuncDef) (ks : Known) (l : Local) (known : IsKnown cs fs ks) where
  abbrev Ns : Names
  Ns = names_in cs fs l

  named_so : (w : Word) (xs : List Part) (o u : Option Ty) (g : Option FuncDef) → type_of_name l.values w.text ≡ o → type_of_name ks.functions w.text ≡ u → function_named fs w.text ≡ g → SameFunction cs g u
      → IsRuled Ns (expr.local w) xs (name_rule o u w)
  named_so w xs (Some t) u g e i j h = (subst (λ (z : Option Ty). IsNamed Ns z w.text t) (sym e) refl, refl)
  named_so w xs None (Some t) (Some d) e i j h =
      (subst (λ (z : Option Ty). IsNamed Ns z w.text t) (sym e) (subst (λ (z : Option FuncDef). IsFunctionNamed cs z t) (sym j) h), refl)
  named_so w xs None None None e i j h =
      ((λ t k. subst (λ (z : Option FuncDef). IsFunctionNamed cs z t) j (subst (λ (z : Option Ty). IsNamed Ns z w.text t) e k)), refl)
  named_so w xs None (Some t) None e i j h = absurd h
  named_so w xs None None (Some d) e i j h = absurd h

  joined_so : (p : Place) (w : Word) (xs : List Part) (o : Option Ty) → type_of_name l.threads w.text ≡ o → IsRuled Ns (expr.join p w) xs (join_rule o w)
  joined_so p w xs (Some t) e = (e, refl)
  joined_so p w xs None e = (e, refl)

  member_so : (a : Expr) (w : Word) (xs : List Part) (o : Option Ty) → member_of (types_of xs) w.text ≡ o → IsRuled Ns (expr.read a w) xs (read_rule o w)
  member_so a w xs (Some t) e = (e, refl)
  member_so a w xs None e = (e, refl)

  cast_so : (p : Place) (a : Ann) (e : Expr) (xs : List Part) (o : Option Ty) → written ks.annotations a ≡ o → IsRuled Ns (expr.cast p a e) xs (cast_rule o a)
  cast_so p a e xs (Some t) i = (found_writes cs fs ks known a t i, refl)
  cast_so p a e xs None i = ((λ t h. none_some ⊥ (sym i ∙ written_found cs fs ks known h)), refl)

  -- ---- calls

  -- an object of the class from arguments of these types
  abbrev IsNew : ClassDef → Place → List Part → Result Rule Refusal → Type 0
  IsNew d p xs (Ok r) = NewRule cs d (types_of xs) r
  IsNew d p xs (Err f) = NewFault cs d p (types_of xs) f

  new_so : (k : KnownClass) (d : ClassDef) (p : Place) (xs : List Part) → IsKnownClass cs d k → IsNew d p xs (new_rule k p xs)
  new_so k d p xs h =
      split (nat_eq (length xs) (length k.fields)) (λ z. IsNew d p xs (cond z (Ok (takes (map (λ f. f.ty) k.fields) k.ty)) (Err (at p Arity))))
      (λ y.
      record {
        fields = fields k.fields;
        declared = h.declared;
        count = types_count xs ∙ eqb-true (length xs) (length k.fields) y ∙ sym (fields_count k.fields);
        rule = ap (λ (z : List Ty). takes z k.ty) (sym (fields_types k.fields)) ∙ ap (λ (z : Ty). takes (field_types (fields k.fields)) z) h.type;
      })
      (λ n.
      record {
        fields = fields k.fields;
        declared = h.declared;
        count = λ i. eqb-false (length xs) (length k.fields) n (sym (types_count xs) ∙ i ∙ fields_count k.fields);
        fault = refl;
      })

  -- a call of the class, if there is one, or of the first part
  abbrev IsCall : Option ClassDef → Place → List Part → Result Rule Refusal → Type 0
  IsCall o p xs (Ok r) = CallRule cs o (types_of xs) r
  IsCall o p xs (Err f) = CallFault cs o p (types_of xs) f

  class_called_so : (d : ClassDef) (p : Place) (xs : List Part) (r : Result Rule Refusal) → IsNew d p xs r → IsCall (Some d) p xs r
  class_called_so d p xs (Ok r) h = h
  class_called_so d p xs (Err f) h = h

  first_called_so : (p : Place) (xs : List Part) (r : Result Rule Refusal) → IsFirstCalled p xs r → IsCall None p xs r
  first_called_so p xs (Ok r) h = h
  first_called_so p xs (Err f) h = h

  call_so : (p : Place) (xs : List Part) (o : Option ClassDef) (k : Option KnownClass) → IsSameClass cs o k → IsCall o p xs (call_rule k p xs)
  call_so p xs (Some d) (Some k) h = class_called_so d p xs (new_rule k p xs) (new_so k d p xs h)
  call_so p xs None None h = first_called_so p xs (first_rule p xs) (first_so p xs)
  call_so p xs (Some d) None h = absurd h
  call_so p xs None (Some k) h = absurd h

  call_ruled : (p : Place) (g : Expr) (es : Exprs) (xs : List Part) (r : Result Rule Refusal) → IsCall (class_called cs g) p xs r → IsRuled Ns (expr.call p g es) xs r
  call_ruled p g es xs (Ok r) h = h
  call_ruled p g es xs (Err f) h = h

  -- ---- expressions

  pub ruled_so : (e : Expr) (xs : List Part) → IsRuled Ns e xs (ruled ks l e xs)
  ruled_so (expr.local w) xs =
      named_so w xs (type_of_name l.values w.text) (type_of_name ks.functions w.text) (function_named fs w.text) refl refl refl (same_function cs fs ks w.text known)
  ruled_so (expr.number p n) xs = refl
  ruled_so (expr.text p x) xs = refl
  ruled_so (expr.truth p b) xs = refl
  ruled_so (expr.nil p) xs = refl
  ruled_so (expr.neg p a) xs = refl
  ruled_so (expr.negation p a) xs = refl
  ruled_so (expr.binary o p a b) xs = refl
  ruled_so (expr.both a b) xs = refl
  ruled_so (expr.either a b) xs = refl
  ruled_so (expr.read a w) xs = member_so a w xs (member_of (types_of xs) w.text) refl
  ruled_so (expr.cast p a e) xs = cast_so p a e xs (written ks.annotations a) refl
  ruled_so (expr.call p g es) xs = call_ruled p g es xs (call_rule (called_class ks.classes g) p xs) (call_so p xs (class_called cs g) (called_class ks.classes g) (same_called cs fs ks known g))
  ruled_so (expr.join p w) xs = joined_so p w xs (type_of_name l.threads w.text) refl
