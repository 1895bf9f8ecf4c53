-- Classes whose fields lead back to them. Of several classes of one name the first counts.
use Rattle.std.specs.Prelude.{◌≡◌, ℕ, List, [], ◌∷◌, ◌++◌, Some, Contains}
use Rattle.mono_syntax.specs.declared.leaf.Place.{Place}
use Rattle.mono_syntax.specs.declared.leaf.Word.{Word}
use Rattle.mono_syntax.specs.declared.tree.ClassDef.{ClassDef}
use Rattle.mono_syntax.specs.declared.tree.FieldDef.{FieldDef}
use Rattle.mono_syntax.specs.declared.refusal.Reason.{Reason}
use Rattle.mono_syntax.specs.declared.refusal.Reason.TheVariants.{RecursiveClass}
use Rattle.mono_syntax.specs.Ann.{Ann, ann, class, fun, Anns, no_anns, more_anns}
use Rattle.script_rules.specs.Definitions.{class_named}

-- the names that stand in an annotation, those inside Callable too
abbrev mutual
  pub names_in : Ann → List Word
  names_in (ann p (class w)) = w ∷ []
  names_in (ann p (fun as_ a)) = names_in_all as_ ++ names_in a
  names_in (ann p form) = []

  pub names_in_all : Anns → List Word
  names_in_all no_anns = []
  names_in_all (more_anns a as_) = names_in a ++ names_in_all as_

-- the names that the annotations of a class's fields have
abbrev pub field_names : List FieldDef → List Word
field_names [] = []
field_names (f ∷ fs) = names_in f.ann ++ field_names fs

-- field annotations lead from the class of the first name to that of the second
pub data Leads (cs : List ClassDef) : List ℕ → List ℕ → Type 0 where
  here : {x y : List ℕ} → x ≡ y → Leads cs x y
  through : {x y : List ℕ} {d : ClassDef} {w : Word}
      → class_named cs x ≡ Some d → Contains (field_names d.fields) w → Leads cs w.text y → Leads cs x y

-- here a class's field names that class, or a class that leads to it
pub record RecursionFault (cs : List ClassDef) (p : Place) : Type 0 where
  pub class : ClassDef
  pub name : Word
  pub counts : class_named cs class.name.text ≡ Some class
  pub stands : Contains (field_names class.fields) name
  pub leads : Leads cs name.text class.name.text
  pub place : p ≡ name.place

-- the same as a fault with its reason
abbrev pub IsRecursive : List ClassDef → Place → Reason → Type 0
IsRecursive cs p r = RecursionFault cs p × (r ≡ RecursiveClass)
