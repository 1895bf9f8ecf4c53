-- The types of a script's classes, and the types that are written so far.
use Rattle.std.specs.Prelude.{◌≡◌, List, [], ◌∷◌, ◌++◌}
use Rattle.mono_syntax.specs.declared.leaf.TyAt.{TyAt}
use Rattle.mono_syntax.specs.declared.tree.ClassDef.{ClassDef}
use Rattle.mono_syntax.specs.Ty.{Ty}
use Rattle.mono_tree.specs.ClosedList.{base_types, AreDistinct}
use Rattle.script_rules.specs.Scoping.{ClassesStand}
use Rattle.script_rules.specs.Writes.{IsClassType}

-- each class has a type
abbrev pub HaveTypes : List ClassDef → List ClassDef → Type 0
HaveTypes cs [] = Unit {0}
HaveTypes cs (d ∷ ds) = ((t : Ty) × IsClassType cs d t) × HaveTypes cs ds

-- the first list is the beginning of the second
abbrev pub Begins : {A : Type 0} → List A → List A → Type 0
Begins {A} xs ys = (more : List A) × (ys ≡ xs ++ more)

-- the types are distinct and begin with the base types, and the classes have theirs among them
pub record StandTypes (cs : List ClassDef) (types : List Ty) (classes : List TyAt) : Type 0 where
  pub distinct : AreDistinct types
  pub bases : Begins base_types types
  pub stand : ClassesStand cs types cs classes
