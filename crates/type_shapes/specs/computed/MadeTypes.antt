-- Computed: the type of a shape, of parts that stand in a list.
use Rattle.std.specs.Prelude.{ℕ, List, [], ◌∷◌, Option, Some, None, slice_get}
use Rattle.mono_syntax.specs.Ty.{Ty, dyn, int, bool, str, nil, fun, obj, Fields, no_fields, more_fields}
use Rattle.mono_syntax.specs.TyView.{tys}
use Rattle.type_shapes.specs.declared.shape.Head.{Head}
use Rattle.type_shapes.specs.declared.shape.Head.TheVariants.{Dyn, Int, Bool as Boolean, Str, Nil, Fun, Obj}
use Rattle.type_shapes.specs.declared.shape.Shape.{Shape}

-- one more type before those that were found
abbrev pub listed_onto : List Ty → Option Ty → Option (List Ty) → Option (List Ty)
listed_onto ts (Some t) (Some us) = Some (t ∷ us)
listed_onto ts _ _ = None

-- the types at some places
abbrev pub types_at : List Ty → List ℕ → Option (List Ty)
types_at ts [] = Some []
types_at ts (n ∷ ns) = listed_onto ts (slice_get ts n) (types_at ts ns)

-- fields of these names and types
abbrev pub retyped : List (List ℕ) → List Ty → Fields
retyped [] ts = no_fields
retyped (n ∷ ns) [] = no_fields
retyped (n ∷ ns) (t ∷ ts) = more_fields n t (retyped ns ts)

-- the function of a result and parameters
abbrev pub fun_of : Option (List Ty) → Option Ty
fun_of None = None
fun_of (Some []) = None
fun_of (Some (r ∷ ps)) = Some (fun (tys ps) r)

-- the object of these field names and types
abbrev pub obj_of : Option (List (List ℕ)) → Option (List Ty) → Option Ty
obj_of (Some ns) (Some ts) = Some (obj (retyped ns ts))
obj_of _ _ = None

-- the type of a head and its parts
abbrev pub typed_by : List (List (List ℕ)) → Head → Option (List Ty) → Option Ty
typed_by names Dyn ts = Some dyn
typed_by names Int ts = Some int
typed_by names Boolean ts = Some bool
typed_by names Str ts = Some str
typed_by names Nil ts = Some nil
typed_by names Fun ts = fun_of ts
typed_by names (Obj g) ts = obj_of (slice_get names g) ts

-- the type of a shape
abbrev pub typed : List (List (List ℕ)) → List Ty → Shape → Option Ty
typed names ts s = typed_by names s.head (types_at ts s.parts)
