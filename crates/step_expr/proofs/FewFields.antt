-- A class without a part at some place has no field there or behind.
use Rattle.std.proofs.Common.{◌≡◌, ◌≤◌, ℕ, zero, suc, List, length, refl, arith}
use Rattle.std.specs.Prelude.{Option, Some, None, slice_get}
use Rattle.mono_syntax.specs.Ty.{Ty, dyn, int, bool, str, nil, fun, obj, Fields, no_fields, more_fields}
use Rattle.mono_tree.specs.FieldNames.{names_of}
use Rattle.type_shapes.specs.Shows.{types_of}
use Rattle.type_numbers.specs.Tables.{IsNumberOf, parts_of, field_names}

past_end : (fs : Fields) (i : ℕ) → slice_get (types_of fs) i ≡ None → length (names_of fs) ≤ i
past_end no_fields i e = omega arith
past_end (more_fields n t fs) zero e = absurd cc
past_end (more_fields n t fs) (suc i) e = let rest = past_end fs i e in omega (arith, rest)

no_part : (ts : List Ty) (o : Option Ty) → IsNumberOf ts None o → o ≡ None
no_part ts None h = refl
no_part ts (Some t) h = absurd h

fields_before : (a : Ty) (i : ℕ) → slice_get (parts_of a) i ≡ None → length (field_names a) ≤ i
fields_before (obj fs) i e = past_end fs i e
fields_before dyn i e = omega arith
fields_before int i e = omega arith
fields_before bool i e = omega arith
fields_before str i e = omega arith
fields_before nil i e = omega arith
fields_before (fun ps r) i e = omega arith

pub few_fields : (ts : List Ty) (a : Ty) (i : ℕ) → IsNumberOf ts None (slice_get (parts_of a) i) → length (field_names a) ≤ i
few_fields ts a i h = fields_before a i (no_part ts (slice_get (parts_of a) i) h)
