-- What the code knows of names is what the rules say of them.
use Rattle.std.specs.Prelude.{◌≡◌, List, [], ◌∷◌, map, Option, Some, None}
use Rattle.mono_syntax.specs.declared.cast.NamedType.{NamedType}
use Rattle.mono_syntax.specs.declared.tree.ClassDef.{ClassDef}
use Rattle.mono_syntax.specs.declared.tree.FuncDef.{FuncDef}
use Rattle.mono_syntax.specs.declared.tree.Script.{Script}
use Rattle.mono_syntax.specs.Ty.{Ty, obj}
use Rattle.mono_syntax.specs.TyView.{fields}
use Rattle.script_rules.specs.Scoping.{class_list, function_list}
use Rattle.script_rules.specs.Writes.{in_order, Declares, IsClassType, IsFunctionType}
use Rattle.static_types.specs.Names.{Names}
use Rattle.static_types.specs.Scripts.{IsFunctionScope, IsMainScope}
use Rattle.known_names.specs.declared.known.Known.{Known}
use Rattle.known_names.specs.declared.known.KnownClass.{KnownClass}
use Rattle.known_names.specs.declared.known.KnownScript.{KnownScript}
use Rattle.known_names.specs.declared.known.Local.{Local}

-- these are the types of the classes, by name
abbrev pub TypesKnown : List ClassDef → List ClassDef → List NamedType → Type 0
TypesKnown cs [] [] = Unit {0}
TypesKnown cs (d ∷ ds) (n ∷ ns) = (n.name ≡ d.name.text) × IsClassType cs d n.ty × TypesKnown cs ds ns
TypesKnown cs _ _ = ⊥

-- k is the class d
pub record IsKnownClass (cs : List ClassDef) (d : ClassDef) (k : KnownClass) : Type 0 where
  pub name : k.name ≡ d.name.text
  pub declared : Declares cs d.fields (fields k.fields)
  pub type : k.ty ≡ obj (in_order (fields k.fields))
  pub names : map (λ f. f.name) k.fields ≡ map (λ f. f.name.text) d.fields

-- k is the class d, if there is one, and nothing where there is none
abbrev pub IsSameClass : List ClassDef → Option ClassDef → Option KnownClass → Type 0
IsSameClass cs None None = Unit {0}
IsSameClass cs (Some d) (Some k) = IsKnownClass cs d k
IsSameClass cs _ _ = ⊥

-- these are the classes
abbrev pub ClassesKnown : List ClassDef → List ClassDef → List KnownClass → Type 0
ClassesKnown cs [] [] = Unit {0}
ClassesKnown cs (d ∷ ds) (k ∷ ks) = IsKnownClass cs d k × ClassesKnown cs ds ks
ClassesKnown cs _ _ = ⊥

-- these are the functions with their declared types
abbrev pub FunctionsKnown : List ClassDef → List FuncDef → List NamedType → Type 0
FunctionsKnown cs [] [] = Unit {0}
FunctionsKnown cs (d ∷ ds) (n ∷ ns) = (n.name ≡ d.name.text) × IsFunctionType cs d n.ty × FunctionsKnown cs ds ns
FunctionsKnown cs _ _ = ⊥

-- ks is what the code knows of these classes and functions
pub record IsKnown (cs : List ClassDef) (fs : List FuncDef) (ks : Known) : Type 0 where
  pub annotations : TypesKnown cs cs ks.annotations
  pub classes : ClassesKnown cs cs ks.classes
  pub functions : FunctionsKnown cs fs ks.functions

-- what may be named in a block
abbrev pub names_in : List ClassDef → List FuncDef → Local → Names
names_in cs fs l = record { classes = cs; functions = fs; values = l.values; threads = l.threads; result = l.result }

-- this holds of what may be named in a block, where the script has any classes and functions of which ks is known
abbrev pub WhereKnown : Known → Local → (Names → Type 0) → Type 0
WhereKnown ks l P = (cs : List ClassDef) (fs : List FuncDef) → IsKnown cs fs ks → P (names_in cs fs l)

-- l is what the body of the function d may name at its start
abbrev pub IsFunctionLocal : Script → FuncDef → Local → Type 0
IsFunctionLocal s d l = (t : Ty) × IsFunctionScope (class_list s) (function_list s) d t (names_in (class_list s) (function_list s) l)

-- l is what the main block may
abbrev pub IsMainLocal : Script → Local → Type 0
IsMainLocal s l = IsMainScope s (names_in (class_list s) (function_list s) l)

-- these are what the bodies of the functions may
abbrev pub BodiesKnown : Script → List FuncDef → List Local → Type 0
BodiesKnown s [] [] = Unit {0}
BodiesKnown s (d ∷ ds) (l ∷ ls) = IsFunctionLocal s d l × BodiesKnown s ds ls
BodiesKnown s _ _ = ⊥

-- ks is what the code knows of all names of the script
pub record IsKnownScript (s : Script) (ks : KnownScript) : Type 0 where
  pub names : IsKnown (class_list s) (function_list s) ks.names
  pub bodies : BodiesKnown s (function_list s) ks.bodies
  pub main : IsMainLocal s ks.main
