-- The static type of an expression, and the types of all its parts.
use Rattle.std.specs.Prelude.{◌≡◌, List, [], ◌∷◌, ◌++◌}
use Rattle.mono_syntax.specs.Expr.{Expr}
use Rattle.mono_syntax.specs.Ty.{Ty}
use Rattle.mono_tree.specs.Meet.{Consistent}
use Rattle.static_types.specs.Names.{Names}
use Rattle.static_types.specs.Parts.{parts}
use Rattle.static_types.specs.declared.rule.Rule.{Rule}
use Rattle.static_types.specs.Rules.{RuleOf}

-- each of these may be used at its type
abbrev pub AllConsistent : List Ty → List Ty → Type 0
AllConsistent [] [] = Unit {0}
AllConsistent (s ∷ ss) (t ∷ ts) = Consistent s t × AllConsistent ss ts
AllConsistent ss ts = ⊥

mutual
  -- e has the type t; all are the types of the expressions in it, in source order, each behind those of its parts
  pub data Types (ns : Names) : Expr → Ty → List Ty → Type 0 where
    has_type : {e : Expr} {ts us all : List Ty} {t : Ty} (r : Rule) → TypeAll ns (parts ns.classes e) ts us → RuleOf ns e ts r → AllConsistent ts r.asks
        → t ≡ r.gives → all ≡ us ++ t ∷ [] → Types ns e t all

  -- the expressions have these types
  pub data TypeAll (ns : Names) : List Expr → List Ty → List Ty → Type 0 where
    of_none : TypeAll ns [] [] []
    of_more : {e : Expr} {es : List Expr} {t : Ty} {ts us vs all : List Ty} → Types ns e t us → TypeAll ns es ts vs → all ≡ us ++ vs → TypeAll ns (e ∷ es) (t ∷ ts) all
