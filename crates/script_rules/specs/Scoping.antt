-- A script whose names have their types. The type of a name in its block is that of its annotation, and `Dyn` where it
-- has none.
use Rattle.std.specs.Prelude.{◌≡◌, List, [], ◌∷◌, Some, map, slice_get}
use Rattle.mono_syntax.specs.declared.leaf.TyAt.{TyAt}
use Rattle.mono_syntax.specs.declared.script.BlockNames.{BlockNames}
use Rattle.mono_syntax.specs.declared.script.Scoped.{Scoped}
use Rattle.mono_syntax.specs.declared.script.TypedName.{TypedName}
use Rattle.mono_syntax.specs.declared.tree.ClassDef.{ClassDef}
use Rattle.mono_syntax.specs.declared.tree.FuncDef.{FuncDef}
use Rattle.mono_syntax.specs.declared.tree.Param.{Param}
use Rattle.mono_syntax.specs.declared.tree.Script.{Script}
use Rattle.mono_syntax.specs.Stmt.{Stmt}
use Rattle.mono_syntax.specs.Ty.{Ty}
use Rattle.mono_tree.specs.ClosedList.{AreDistinct}
use Rattle.script_rules.specs.Definitions.{classes_of, functions_of, statements_of}
use Rattle.script_rules.specs.Writes.{WritesAny, IsClassType, IsFunctionType}
use Rattle.script_rules.specs.BlockNames.{Target, firsts, all_targets, all_starts}

-- a type of this kind stands at a position of the list
pub record StandsAt (types : List Ty) (a : TyAt) (Is : Ty → Type 0) : Type 0 where
  pub type : Ty
  pub at : slice_get types a.0 ≡ Some type
  pub is : Is type

-- the types of the classes, one for each in order
abbrev pub ClassesStand : List ClassDef → List Ty → List ClassDef → List TyAt → Type 0
ClassesStand cs types [] [] = Unit {0}
ClassesStand cs types (d ∷ ds) (a ∷ as_) = StandsAt types a (IsClassType cs d) × ClassesStand cs types ds as_
ClassesStand cs types _ _ = ⊥

-- the types of the functions, one for each in order
abbrev pub FunctionsStand : List ClassDef → List Ty → List FuncDef → List TyAt → Type 0
FunctionsStand cs types [] [] = Unit {0}
FunctionsStand cs types (d ∷ ds) (a ∷ as_) = StandsAt types a (IsFunctionType cs d) × FunctionsStand cs types ds as_
FunctionsStand cs types _ _ = ⊥

-- these are the names of the targets in order, each with its type
abbrev pub NamesStand : List ClassDef → List Ty → List Target → List TypedName → Type 0
NamesStand cs types [] [] = Unit {0}
NamesStand cs types (t ∷ ts) (k ∷ ks) = (k.name ≡ t.word.text) × StandsAt types k.ty (WritesAny cs t.ann) × NamesStand cs types ts ks
NamesStand cs types _ _ = ⊥

-- the names of a block with these parameters and statements
pub record IsBlockScope (cs : List ClassDef) (types : List Ty) (ps : List Param) (ss : List Stmt) (b : BlockNames) : Type 0 where
  pub values : NamesStand cs types (firsts (all_targets ps ss)) b.values
  pub threads : b.threads ≡ map (λ w. w.text) (all_starts ss)

-- the names of the functions' blocks in order, and then those of the main block
abbrev pub BlocksStand : List ClassDef → List Ty → List FuncDef → List Stmt → List BlockNames → Type 0
BlocksStand cs types [] main (b ∷ []) = IsBlockScope cs types [] main b
BlocksStand cs types (d ∷ ds) main (b ∷ bs) = IsBlockScope cs types d.params d.body b × BlocksStand cs types ds main bs
BlocksStand cs types _ _ _ = ⊥

abbrev pub class_list : Script → List ClassDef
class_list s = classes_of s.items

abbrev pub function_list : Script → List FuncDef
function_list s = functions_of s.items

-- the statements of the main block
abbrev pub main_block : Script → List Stmt
main_block s = statements_of s.items

-- d is the script with the types of its classes and functions, and the names of its blocks with theirs
pub record IsScope (s : Script) (d : Scoped) : Type 0 where
  pub script : d.script ≡ s
  pub types : AreDistinct d.types
  pub classes : ClassesStand (class_list s) d.types (class_list s) d.classes
  pub functions : FunctionsStand (class_list s) d.types (function_list s) d.functions
  pub blocks : BlocksStand (class_list s) d.types (function_list s) (main_block s) d.blocks
