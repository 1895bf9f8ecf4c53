-- What a contract sees, from the variant, whose parts are seen so already.
use Rattle.std.specs.Prelude.{List, [], ◌∷◌}
use Rattle.mono_syntax.specs.declared.tree.Field as rust_field
use Rattle.mono_syntax.specs.declared.tree.TyKind as rust_ty
use Rattle.mono_syntax.specs.declared.tree.TyKind.TheVariants as ty_kind
use Rattle.mono_syntax.specs.Ty.{Fields, Ty, Tys, bool, dyn, fun, int, more_fields, more_tys, nil, no_fields, no_tys, obj, str}

abbrev pub tys : List Ty → Tys
tys [] = no_tys
tys (x ∷ xs) = more_tys x (tys xs)

abbrev pub tys_list : Tys → List Ty
tys_list no_tys = []
tys_list (more_tys x xs) = x ∷ tys_list xs

abbrev pub fields : List rust_field.Field → Fields
fields [] = no_fields
fields (x ∷ xs) = more_fields x.name x.ty (fields xs)

abbrev pub ty_of : rust_ty.TyKind → Ty
ty_of ty_kind.Dyn = dyn
ty_of ty_kind.Int = int
ty_of ty_kind.Bool = bool
ty_of ty_kind.Str = str
ty_of ty_kind.Nil = nil
ty_of (ty_kind.Fun a b) = fun (tys a) b
ty_of (ty_kind.Obj a) = obj (fields a)
