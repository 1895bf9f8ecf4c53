-- Each part has fewer nodes than the whole.
use Rattle.std.specs.Prelude.{◌+◌, ◌≤◌, max, List, [], ◌∷◌}
use Rattle.std.proofs.Common.{arith}
use denote.Param.Weighed.{most}
use Rattle.mono_syntax.specs.declared.tree.Field as rust_field
use Rattle.mono_syntax.specs.declared.tree.TyKind as rust_ty
use Rattle.mono_syntax.specs.declared.tree.TyKind.TheVariants as ty_kind
use Rattle.mono_syntax.specs.declared.tree.Ty.TheDeep.{deep-Field, deep-TyKind}
use Rattle.mono_syntax.specs.Ty.{Ty, fields_size, ty_size, tys_size}
use Rattle.mono_syntax.specs.TyView.{fields, ty_of, tys}

most_le-tys_size : (xs : List Ty) → most (λ t. ty_size t + 1) xs ≤ tys_size (tys xs) + 1
most_le-tys_size [] = omega arith
most_le-tys_size (x ∷ xs) = omega (arith, most_le-tys_size xs)

most_le-fields_size : (xs : List rust_field.Field) → most deep-Field xs ≤ fields_size (fields xs)
most_le-fields_size [] = omega arith
most_le-fields_size (x ∷ xs) = omega (arith, most_le-fields_size xs)

pub deep_le-ty : (k : rust_ty.TyKind) → max (deep-TyKind k) 0 ≤ ty_size (ty_of k)
deep_le-ty ty_kind.Dyn = omega arith
deep_le-ty ty_kind.Int = omega arith
deep_le-ty ty_kind.Bool = omega arith
deep_le-ty ty_kind.Str = omega arith
deep_le-ty ty_kind.Nil = omega arith
deep_le-ty (ty_kind.Fun a b) = omega (arith, most_le-tys_size a)
deep_le-ty (ty_kind.Obj a) = omega (arith, most_le-fields_size a)
