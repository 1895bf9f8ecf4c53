-- The types of functions, made where annotations write them.
use Rattle.std.proofs.Common.{◌≡◌, ◌∙◌, sym, ap, subst, refl, ℕ, List, [], ◌∷◌}
use Rattle.std.specs.Prelude.{Option, Some, None}
use Rattle.mono_syntax.specs.declared.tree.ClassDef.{ClassDef}
use Rattle.mono_syntax.specs.declared.tree.FuncDef.{FuncDef}
use Rattle.mono_syntax.specs.declared.tree.Param.{Param}
use Rattle.mono_syntax.specs.Ann.{Ann}
use Rattle.mono_syntax.specs.Ty.{Ty, fun, Tys, no_tys, more_tys}
use Rattle.mono_tree.specs.Meet.{both}
use Rattle.script_rules.specs.Writes.{WritesAny, ParamTypes, IsFunctionType}
use Rattle.class_types.specs.computed.Made.{look, any_by, params_by, function_by, names_of_classes, AreOwnTypes}
use Rattle.class_types.proofs.Gets.{some_is}
use Rattle.class_types.proofs.MadeLaws.{both-parts}
use Rattle.class_types.proofs.WritesLaws.{made-writes, writes-made}

module _ (cs : List ClassDef) (own : List (Option Ty)) (settled : AreOwnTypes cs own) where
  abbrev named : List ℕ → Option Ty
  named = look (names_of_classes cs) own None

  pub any-is : (a : Option Ann) (t : Ty) → any_by named a ≡ Some t → WritesAny cs a t
  any-is None t e = sym (some_is e)
  any-is (Some a) t e = made-writes cs own settled a t e

  pub is-any : (a : Option Ann) (t : Ty) → WritesAny cs a t → any_by named a ≡ Some t
  is-any None t w = ap Some (sym w)
  is-any (Some a) t w = writes-made cs own settled w

  params-are : (ps : List Param) (ts : Tys) → params_by named ps ≡ Some ts → ParamTypes cs ps ts
  params-are [] ts e = subst (ParamTypes cs []) (some_is e) tt
  params-are (p ∷ ps) ts e = both-parts more_tys (any_by named p.ann) (params_by named ps) ts e (λ t rest ex ey ez.
      subst (ParamTypes cs (p ∷ ps)) ez (any-is p.ann t ex, params-are ps rest ey))

  are-params : (ps : List Param) (ts : Tys) → ParamTypes cs ps ts → params_by named ps ≡ Some ts
  are-params [] no_tys w = refl
  are-params [] (more_tys t ts) w = absurd w
  are-params (p ∷ ps) no_tys w = absurd w
  are-params (p ∷ ps) (more_tys t ts) w = let x = is-any p.ann t w.0 in let y = are-params ps ts w.1 in λ i. both more_tys (x i) (y i)

  pub function-is : (d : FuncDef) (t : Ty) → function_by named d ≡ Some t → IsFunctionType cs d t
  function-is d t e = both-parts fun (params_by named d.params) (any_by named d.result) t e (λ ts r ex ey ez. record {
    parameters = ts;
    result = r;
    takes = params-are d.params ts ex;
    gives = any-is d.result r ey;
    type = sym ez;
  })

  pub is-function : (d : FuncDef) (t : Ty) → IsFunctionType cs d t → function_by named d ≡ Some t
  is-function d t w =
      let x = are-params d.params w.parameters w.takes in let y = is-any d.result w.result w.gives in
      (λ i. both fun (x i) (y i)) ∙ ap Some (sym w.type)
