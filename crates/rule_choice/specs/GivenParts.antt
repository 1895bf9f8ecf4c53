-- The parts of a construct whose types are known, and their uses.
use Rattle.std.specs.Prelude.{◌≡◌, List, [], ◌∷◌, map, Option, Some, None}
use Rattle.mono_syntax.specs.declared.leaf.Place.{Place}
use Rattle.mono_syntax.specs.declared.refusal.Reason.TheVariants.{Inconsistent}
use Rattle.mono_syntax.specs.Expr.{Expr}
use Rattle.mono_syntax.specs.Ty.{Ty}
use Rattle.script_rules.specs.SourcePlaces.{place_of}
use Rattle.static_types.specs.Faults.{UseFault}
use Rattle.static_types.specs.Rules.{at}
use Rattle.static_types.specs.Types.{AllConsistent}
use Rattle.rule_choice.specs.declared.parts.Part.{Part}

-- the types of parts
abbrev pub types_of : List Part → List Ty
types_of xs = map (λ x. x.ty) xs

-- the parts stand where these expressions do
abbrev pub AreAt : List Expr → List Part → Type 0
AreAt [] [] = Unit {0}
AreAt (e ∷ es) (x ∷ xs) = (x.place ≡ place_of e) × AreAt es xs
AreAt _ _ = ⊥

-- all parts can be used at these types, or the first that can't is refused at this place
abbrev pub IsUsed : List Expr → List Part → List Ty → Option Place → Type 0
IsUsed es xs ts None = AllConsistent (types_of xs) ts
IsUsed es xs ts (Some p) = UseFault es (types_of xs) ts (at p Inconsistent)
