-- The types that a script writes, in source order: a class's object type and a function's declared type at its definition, and behind a
-- function's those of the annotations and cast targets of its body; those of the main block at their place. A type may come more than
-- once. Annotations of fields, parameters and results aren't listed by themselves: they are parts of the class's or function's type.
use Rattle.std.specs.Prelude.{◌≡◌, List, [], ◌∷◌, ◌++◌}
use Rattle.mono_syntax.specs.declared.tree.ClassDef.{ClassDef}
use Rattle.mono_syntax.specs.declared.tree.FuncDef.{FuncDef}
use Rattle.mono_syntax.specs.declared.tree.Item.{Item}
use Rattle.mono_syntax.specs.declared.tree.Item.TheVariants as item
use Rattle.mono_syntax.specs.declared.tree.Script.{Script}
use Rattle.mono_syntax.specs.Ann.{Ann}
use Rattle.mono_syntax.specs.Stmt.{Stmt}
use Rattle.mono_syntax.specs.Ty.{Ty}
use Rattle.script_rules.specs.Scoping.{class_list}
use Rattle.script_rules.specs.SourceParts.{Part, annotation, arguments, body_parts, stmt_parts}
use Rattle.script_rules.specs.Writes.{Writes, IsClassType, IsFunctionType}

-- the annotations and cast targets among the parts of a construct
abbrev pub annotations_in : List Part → List Ann
annotations_in [] = []
annotations_in (annotation a ∷ ps) = a ∷ annotations_in ps
annotations_in (arguments c ∷ ps) = annotations_in ps

-- the annotations write these types, one each
abbrev pub WriteEach : List ClassDef → List Ann → List Ty → Type 0
WriteEach cs [] [] = Unit {0}
WriteEach cs (a ∷ as_) (t ∷ ts) = Writes cs a t × WriteEach cs as_ ts
WriteEach cs _ _ = ⊥

-- the items write these types
pub data WriteItems (cs : List ClassDef) : List Item → List Ty → Type 0 where
  no_item : WriteItems cs [] []
  class_item : {d : ClassDef} {is : List Item} {t : Ty} {ts : List Ty}
      → IsClassType cs d t → WriteItems cs is ts → WriteItems cs (item.Class d ∷ is) (t ∷ ts)
  function_item : {d : FuncDef} {is : List Item} {t : Ty} {ts all : List Ty} (us : List Ty)
      → IsFunctionType cs d t → WriteEach cs (annotations_in (body_parts d.body)) us → WriteItems cs is ts → all ≡ us ++ ts
      → WriteItems cs (item.Def d ∷ is) (t ∷ all)
  line_item : {s : Stmt} {is : List Item} {ts all : List Ty} (us : List Ty)
      → WriteEach cs (annotations_in (stmt_parts s)) us → WriteItems cs is ts → all ≡ us ++ ts → WriteItems cs (item.Stmt s ∷ is) all

-- these are the types that the script writes
abbrev pub AreScriptTypes : Script → List Ty → Type 0
AreScriptTypes s ts = WriteItems (class_list s) s.items ts
