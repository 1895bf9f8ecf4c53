-- A fit of a value by number to a type, and the cell of a field. Neither looks at the heap: an object has the names of its class.
use Rattle.std.specs.Prelude.{◌≡◌, ◌≤◌, ◌+◌, ◌^◌, ℕ, List, Option, Some, None, length, slice_get}
use Rattle.mono_syntax.specs.Ty.{Ty, dyn, int, bool, str, nil, fun, obj}
use Rattle.mono_syntax.specs.declared.value.FnValue.{FnValue}
use Rattle.mono_syntax.specs.declared.value.Value.{Value}
use Rattle.mono_syntax.specs.declared.value.Value.TheVariants as value
use Rattle.mono_tree.specs.TypeNumbers.{IsInRange, Names}
use Rattle.type_numbers.specs.Tables.{Table, IsClass, IsClassType, IsPlaceOf, HaveSameNames, field_names}
use Rattle.function_wrap.specs.Narrowed.{Narrows}
use Rattle.step_expr.specs.declared.data.Fit.{Fit}
use Rattle.step_expr.specs.declared.data.Fit.TheVariants as fits

-- the numbers in a value are in the table's ranges: of an object its class, of a function its merged type
abbrev pub IsOfTable : Table → Value → Type 0
IsOfTable t (value.Obj c base) = IsClass t c
IsOfTable t (value.Fun f) = IsInRange t.types f.merged
IsOfTable t v = Unit {0}

-- a function fits where it has a merged type more: the meet of its own and the type
abbrev pub FunctionFits : Table → FnValue → Ty → Ty → Fit → Type 0
FunctionFits t f a b (fits.Holds (value.Fun g)) = Narrows t.types f a b (Some g)
FunctionFits t f a b fits.Unfit = Narrows t.types f a b None
FunctionFits t f a b _ = ⊥

-- an object opens where the type has exactly its names, and fits no other type
abbrev pub ObjectFits : Ty → Ty → Fit → Type 0
ObjectFits own b fits.Opens = HaveSameNames own b
ObjectFits own b fits.Unfit = HaveSameNames own b → ⊥
ObjectFits own b _ = ⊥

-- Any value fits `Dyn`, a base value a base type of its kind, a function a type with which its merged type has a meet, and an object opens
-- where the type has its names; nothing else fits.
abbrev pub IsFit : Table → Value → Ty → Fit → Type 0
IsFit t v dyn r = r ≡ fits.Holds v
IsFit t (value.Int n) int r = r ≡ fits.Holds (value.Int n)
IsFit t (value.Bool b) bool r = r ≡ fits.Holds (value.Bool b)
IsFit t (value.Text x) str r = r ≡ fits.Holds (value.Text x)
IsFit t value.Nil nil r = r ≡ fits.Holds value.Nil
IsFit t (value.Fun f) (fun ps q) r = (a : Ty) → Names t.types f.merged a → FunctionFits t f a (fun ps q) r
IsFit t (value.Obj c base) (obj fs) r = (own : Ty) → IsClassType t c own → ObjectFits own (obj fs) r
IsFit t v b r = r ≡ fits.Unfit

-- the cell is that of the named field, in name order from the object's first cell
abbrev pub IsCellOf : Ty → ℕ → List ℕ → Option ℕ → Type 0
IsCellOf own base name (Some cell) = (k : ℕ) × (slice_get (field_names own) k ≡ Some name) × (cell ≡ base + k)
IsCellOf own base name None = IsPlaceOf (field_names own) name None

-- a value that is no object has no cells
abbrev pub IsMember : Table → Value → List ℕ → Option ℕ → Type 0
IsMember t (value.Obj c base) name cell = (own : Ty) → IsClassType t c own → IsCellOf own base name cell
IsMember t v name cell = cell ≡ None

-- the cells of an object of this type end in a heap of 2^32 words
abbrev pub EndsBelow : Ty → ℕ → Type 0
EndsBelow own base = base + length (field_names own) ≤ 2 ^ 32

-- and so do those of the value, where it is an object
abbrev pub EndsInMemory : Table → Value → Type 0
EndsInMemory t (value.Obj c base) = (own : Ty) → IsClassType t c own → EndsBelow own base
EndsInMemory t v = Unit {0}
