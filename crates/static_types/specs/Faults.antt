-- The first fault of typing in an expression: parts are looked at in source order, and before their whole; of the faults of one
-- whole the first by place.
use Rattle.std.specs.Prelude.{◌≡◌, List, ◌∷◌}
use Rattle.mono_syntax.specs.declared.refusal.Reason.TheVariants.{Inconsistent}
use Rattle.mono_syntax.specs.declared.refusal.Refusal.{Refusal}
use Rattle.mono_syntax.specs.Expr.{Expr}
use Rattle.mono_syntax.specs.Ty.{Ty}
use Rattle.mono_tree.specs.Meet.{AreApart, Consistent}
use Rattle.static_types.specs.Names.{Names}
use Rattle.static_types.specs.Parts.{parts}
use Rattle.static_types.specs.declared.rule.Rule.{Rule}
use Rattle.static_types.specs.Rules.{RuleOf, RuleFault, at}
use Rattle.script_rules.specs.SourcePlaces.{place_of}
use Rattle.static_types.specs.Types.{Types, TypeAll}

-- of expressions of these types, each used at a type, the first that can't be is refused where it stands
pub data UseFault : List Expr → List Ty → List Ty → Refusal → Type 0 where
  here : {e : Expr} {es : List Expr} {s t : Ty} {ss ts : List Ty} {f : Refusal} → AreApart s t → f ≡ at (place_of e) Inconsistent → UseFault (e ∷ es) (s ∷ ss) (t ∷ ts) f
  later : {e : Expr} {es : List Expr} {s t : Ty} {ss ts : List Ty} {f : Refusal} → Consistent s t → UseFault es ss ts f → UseFault (e ∷ es) (s ∷ ss) (t ∷ ts) f

mutual
  pub data Fault (ns : Names) : Expr → Refusal → Type 0 where
    in_part : {e : Expr} {f : Refusal} → PartFault ns (parts ns.classes e) f → Fault ns e f
    -- there is no rule for parts of these types
    no_rule : {e : Expr} {ts us : List Ty} {f : Refusal} → TypeAll ns (parts ns.classes e) ts us → RuleFault ns e ts f → Fault ns e f
    -- a part can't be used where the rule uses it
    at_use : {e : Expr} {ts us : List Ty} {f : Refusal} (r : Rule) → TypeAll ns (parts ns.classes e) ts us → RuleOf ns e ts r → UseFault (parts ns.classes e) ts r.asks f → Fault ns e f

  -- the first fault of expressions in a row
  pub data PartFault (ns : Names) : List Expr → Refusal → Type 0 where
    in_first : {e : Expr} {es : List Expr} {f : Refusal} → Fault ns e f → PartFault ns (e ∷ es) f
    in_later : {e : Expr} {es : List Expr} {t : Ty} {us : List Ty} {f : Refusal} → Types ns e t us → PartFault ns es f → PartFault ns (e ∷ es) f
