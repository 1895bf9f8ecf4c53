-- Computed: how what is known of a script's names is gathered from its scope.
use Rattle.std.specs.Prelude.{ℕ, List, [], ◌∷◌, ◌++◌, length, map, Option, Some, None, slice_get}
use Rattle.mono_syntax.specs.declared.cast.NamedType.{NamedType}
use Rattle.mono_syntax.specs.declared.leaf.TyAt.{TyAt}
use Rattle.mono_syntax.specs.declared.script.BlockNames.{BlockNames}
use Rattle.mono_syntax.specs.declared.script.Scoped.{Scoped}
use Rattle.mono_syntax.specs.declared.script.TypedName.{TypedName}
use Rattle.mono_syntax.specs.declared.tree.Item.{Item}
use Rattle.mono_syntax.specs.declared.tree.Item.TheVariants as item
use Rattle.mono_syntax.specs.Ty.{Ty, dyn, fun}
use Rattle.known_names.specs.declared.known.Known.{Known}
use Rattle.known_names.specs.declared.known.KnownClass.{KnownClass}
use Rattle.known_names.specs.declared.known.KnownScript.{KnownScript}
use Rattle.known_names.specs.declared.known.Local.{Local}
use Rattle.known_names.specs.computed.Annotations.{known_fields}
use Rattle.known_names.specs.computed.TypeTests.{type_at}

-- ---- classes and functions

-- the type at the next place behind those that are done
abbrev pub next_type : {A : Type 0} → List Ty → List TyAt → List A → Ty
next_type types places done = type_at types (slice_get places (length done))

-- one more name, whose type stands at the next place
abbrev pub with_name : List Ty → List TyAt → List NamedType → List ℕ → List NamedType
with_name types places done x = done ++ record { name = x; ty = next_type types places done } ∷ []

abbrev pub with_class_type : List Ty → List TyAt → List NamedType → Item → List NamedType
with_class_type types places done (item.Class d) = with_name types places done d.name.text
with_class_type types places done i = done

-- the classes' types, which stand at these places, behind those that are done
abbrev pub class_types : List Ty → List TyAt → List NamedType → List Item → List NamedType
class_types types places done [] = done
class_types types places done (i ∷ is) = class_types types places (with_class_type types places done i) is

abbrev pub with_function_type : List Ty → List TyAt → List NamedType → Item → List NamedType
with_function_type types places done (item.Def d) = with_name types places done d.name.text
with_function_type types places done i = done

-- the functions' types, which stand at these places, behind those that are done
abbrev pub function_types : List Ty → List TyAt → List NamedType → List Item → List NamedType
function_types types places done [] = done
function_types types places done (i ∷ is) = function_types types places (with_function_type types places done i) is

abbrev pub with_class : List NamedType → List Ty → List TyAt → List KnownClass → Item → List KnownClass
with_class cs types places done (item.Class d) =
    done ++ record { name = d.name.text; fields = known_fields cs d.fields; ty = next_type types places done } ∷ []
with_class cs types places done i = done

-- the classes, whose types stand at these places, behind those that are done
abbrev pub classes_from : List NamedType → List Ty → List TyAt → List KnownClass → List Item → List KnownClass
classes_from cs types places done [] = done
classes_from cs types places done (i ∷ is) = classes_from cs types places (with_class cs types places done i) is

-- all of them, where the classes have these types
abbrev pub known_with : Scoped → List NamedType → Known
known_with d cs = record {
  annotations = cs;
  classes = classes_from cs d.types d.classes [] d.script.items;
  functions = function_types d.types d.functions [] d.script.items;
}

abbrev pub script_names : Scoped → Known
script_names d = known_with d (class_types d.types d.classes [] d.script.items)

-- ---- blocks

-- a name with its type
abbrev pub named : List Ty → TypedName → NamedType
named types k = record { name = k.name; ty = type_at types (Some k.ty) }

abbrev pub values_of : List Ty → List TypedName → List NamedType
values_of types ks = map (named types) ks

abbrev pub block_values : List Ty → Option BlockNames → List NamedType
block_values types None = []
block_values types (Some b) = values_of types b.values

-- what a call of this type gives
abbrev pub result_type : Ty → Ty
result_type (fun ps t) = t
result_type _ = dyn

-- the declared result of a function
abbrev pub declared_result : Scoped → ℕ → Ty
declared_result d n = result_type (type_at d.types (slice_get d.functions n))

-- what this block may name at its start, where its function has this result
abbrev pub local_at : Scoped → ℕ → Option Ty → Local
local_at d n result = record { values = block_values d.types (slice_get d.blocks n); threads = []; result = result }

-- what the body of a function may name at its start
abbrev pub function_names : Scoped → ℕ → Local
function_names d n = local_at d n (Some (declared_result d n))

-- what the main block may name at its start
abbrev pub main_names : Scoped → Local
main_names d = local_at d (length d.functions) None

-- what the bodies of the functions may, whose types stand at these places, behind those that are done
abbrev pub bodies_from : Scoped → List Local → List TyAt → List Local
bodies_from d done [] = done
bodies_from d done (a ∷ places) = bodies_from d (done ++ function_names d (length done) ∷ []) places

-- all that is known
abbrev pub gathered : Scoped → KnownScript
gathered d = record { names = script_names d; bodies = bodies_from d [] d.functions; main = main_names d }
