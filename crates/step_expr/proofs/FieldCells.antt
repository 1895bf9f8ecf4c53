-- The cells of an object's fields.
use Rattle.std.proofs.Common.{◌<◌, ◌≤◌, ◌+◌, ◌^◌, ℕ, List, length, get_or, arith}
use Rattle.std.specs.Prelude.{Some}
use Rattle.std.proofs.lemmas.Option.{slice_get_within, slice_get-get_or}
use Rattle.mono_syntax.specs.Ty.{Ty, dyn}
use Rattle.mono_syntax.specs.declared.value.ClassNo.{ClassNo}
use Rattle.type_numbers.specs.Tables.{Table, IsClass, IsClassType, IsPlaceOf, field_names}
use Rattle.step_expr.specs.Fits.{EndsBelow}

-- a field's cell lies in memory, where the cells of its object do
pub cell_below : (t : Table) (c : ClassNo) (base place : ℕ) (name : List ℕ) → IsClass t c
    → ((own : Ty) → IsClassType t c own → EndsBelow own base)
    → ((own : Ty) → IsClassType t c own → IsPlaceOf (field_names own) name (Some place))
    → base + place < 2 ^ 32
cell_below t c base place name h ends there =
    let own = get_or t.classes c.0 dyn in
    let named = slice_get-get_or t.classes c.0 dyn h in
    let last : base + length (field_names own) ≤ 2 ^ 32 = ends own named in
    let within : place < length (field_names own) = slice_get_within (field_names own) place name (there own named) in
    omega arith
