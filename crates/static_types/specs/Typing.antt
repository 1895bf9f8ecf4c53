-- A script whose expressions have their types.
use Rattle.std.specs.Prelude.{◌≡◌, List, [], ◌∷◌, Some, slice_get}
use Rattle.mono_syntax.specs.declared.leaf.TyAt.{TyAt}
use Rattle.mono_syntax.specs.declared.script.Scoped.{Scoped}
use Rattle.mono_syntax.specs.declared.script.Typed.{Typed}
use Rattle.mono_syntax.specs.Ty.{Ty}
use Rattle.mono_tree.specs.ClosedList.{AreDistinct}
use Rattle.static_types.specs.Scripts.{HasTypes}

-- at these positions of a list stand these types
abbrev pub AllStand : List Ty → List TyAt → List Ty → Type 0
AllStand types [] [] = Unit {0}
AllStand types (a ∷ as_) (t ∷ ts) = (slice_get types a.0 ≡ Some t) × AllStand types as_ ts
AllStand types as_ ts = ⊥

-- p is the script d with the type of each expression, in source order, the parts of an expression before it
pub record IsTyping (d : Scoped) (p : Typed) : Type 0 where
  pub scoped : p.scoped ≡ d
  pub distinct : AreDistinct p.types
  pub all : List Ty
  pub stand : AllStand p.types p.exprs all
  pub types : HasTypes d.script all
