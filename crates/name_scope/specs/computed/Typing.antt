-- Computed: what the code keeps while it gives names their types.
use Rattle.std.specs.Prelude.{◌≡◌, ℕ, List, [], ◌∷◌, bytes_eq}
use Rattle.std.specs.List.{list_any}
use Rattle.mono_syntax.specs.declared.script.BlockNames.{BlockNames}
use Rattle.mono_syntax.specs.declared.tree.ClassDef.{ClassDef}
use Rattle.mono_syntax.specs.declared.tree.FuncDef.{FuncDef}
use Rattle.mono_syntax.specs.declared.tree.Script.{Script}
use Rattle.mono_syntax.specs.Ty.{Ty}
use Rattle.script_rules.specs.BlockNames.{Target, firsts, all_targets}
use Rattle.script_rules.specs.Scoping.{class_list, function_list, main_block, FunctionsStand, NamesStand, IsBlockScope}
use Rattle.script_rules.specs.Writes.{WritesAny, IsFunctionType}
use Rattle.class_types.specs.declared.table.ClassTypes.{ClassTypes}
use Rattle.class_types.specs.Holds.{Extends}
use Rattle.name_scope.specs.declared.blocks.TypedFunctions.{TypedFunctions}
use Rattle.name_scope.specs.declared.typing.TypedNames.{TypedNames}
use Rattle.name_scope.specs.computed.Table.{roles_in}

-- the annotation of each target writes a type
abbrev pub EachWrites : List ClassDef → List Target → Type 0
EachWrites cs [] = Unit {0}
EachWrites cs (t ∷ ts) = ((x : Ty) × WritesAny cs t.ann x) × EachWrites cs ts

-- a function has a type, and so have its names
pub record IsTypable (cs : List ClassDef) (d : FuncDef) : Type 0 where
  pub type : (x : Ty) × IsFunctionType cs d x
  pub names : EachWrites cs (all_targets d.params d.body)

abbrev pub AreTypable : List ClassDef → List FuncDef → Type 0
AreTypable cs [] = Unit {0}
AreTypable cs (d ∷ ds) = IsTypable cs d × AreTypable cs ds

-- the functions have types, and so have the names of all blocks
pub record HasTypes (s : Script) : Type 0 where
  pub functions : AreTypable (class_list s) (function_list s)
  pub main : EachWrites (class_list s) (all_targets [] (main_block s))

-- the names of the targets have their types; `first` is what was known before them
pub record NamesTyped (first : ClassTypes) (ts : List Target) (s : TypedNames) : Type 0 where
  pub stand : NamesStand (class_list first.script) s.known.types (firsts ts) s.names
  pub seen : (x : List ℕ) → (roles_in s.seen.roles x).name ≡ list_any (λ t. bytes_eq t.word.text x) ts
  pub keeps : Extends first s.known

-- the names of the functions' blocks, in order
abbrev pub FunctionBlocksStand : List ClassDef → List Ty → List FuncDef → List BlockNames → Type 0
FunctionBlocksStand cs types [] [] = Unit {0}
FunctionBlocksStand cs types (d ∷ ds) (b ∷ bs) = IsBlockScope cs types d.params d.body b × FunctionBlocksStand cs types ds bs
FunctionBlocksStand cs types _ _ = ⊥

-- these functions have their types and the names of their blocks
pub record FunctionsTyped (first : ClassTypes) (ds : List FuncDef) (s : TypedFunctions) : Type 0 where
  pub functions : FunctionsStand (class_list first.script) s.known.types ds s.types
  pub names : FunctionBlocksStand (class_list first.script) s.known.types ds s.blocks
  pub keeps : Extends first s.known
