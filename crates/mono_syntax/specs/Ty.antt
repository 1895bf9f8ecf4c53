-- Ty, Tys, Fields: trees, as contracts see them.
use Rattle.std.specs.Prelude.{◌≡◌, ℕ, ◌+◌, List, refl, Option, Some, None}
use Rattle.std.proofs.Common.{zero, suc}
use Rattle.std.specs.Coded.{Coded, code_by}
use base.Stored.{Gv, gnil, gnum, gcons}
use Rattle.mono_syntax.specs.Leaf.{gv_code, text_back, text_from, text_to}

mutual
  pub data Ty : Type 0 where
    dyn : Ty
    int : Ty
    bool : Ty
    str : Ty
    nil : Ty
    fun : Tys → Ty → Ty
    obj : Fields → Ty

  pub data Tys : Type 0 where
    no_tys : Tys
    more_tys : Ty → Tys → Tys

  pub data Fields : Type 0 where
    no_fields : Fields
    more_fields : List ℕ → Ty → Fields → Fields

-- how many nodes there are
abbrev mutual
  pub ty_size : Ty → ℕ
  ty_size dyn = 1
  ty_size int = 1
  ty_size bool = 1
  ty_size str = 1
  ty_size nil = 1
  ty_size (fun a b) = tys_size a + ty_size b + 1
  ty_size (obj a) = fields_size a + 1

  pub tys_size : Tys → ℕ
  tys_size no_tys = 0
  tys_size (more_tys a b) = ty_size a + tys_size b

  pub fields_size : Fields → ℕ
  fields_size no_fields = 0
  fields_size (more_fields a b c) = ty_size b + fields_size c + 1

-- ---- how the logic stores them
abbrev mutual
  pub ty_to : Ty → Gv
  ty_to dyn = gcons (gnum 0) gnil
  ty_to int = gcons (gnum 1) gnil
  ty_to bool = gcons (gnum 2) gnil
  ty_to str = gcons (gnum 3) gnil
  ty_to nil = gcons (gnum 4) gnil
  ty_to (fun a b) = gcons (gnum 5) (gcons (tys_to a) (ty_to b))
  ty_to (obj a) = gcons (gnum 6) (fields_to a)

  pub tys_to : Tys → Gv
  tys_to no_tys = gcons (gnum 0) gnil
  tys_to (more_tys a b) = gcons (gnum 1) (gcons (ty_to a) (tys_to b))

  pub fields_to : Fields → Gv
  fields_to no_fields = gcons (gnum 0) gnil
  fields_to (more_fields a b c) = gcons (gnum 1) (gcons (text_to a) (gcons (ty_to b) (fields_to c)))

abbrev mutual
  pub ty_from : Gv → Ty
  ty_from (gcons (gnum zero) g) = dyn
  ty_from (gcons (gnum (suc zero)) g) = int
  ty_from (gcons (gnum (suc (suc zero))) g) = bool
  ty_from (gcons (gnum (suc (suc (suc zero)))) g) = str
  ty_from (gcons (gnum (suc (suc (suc (suc zero))))) g) = nil
  ty_from (gcons (gnum (suc (suc (suc (suc (suc zero)))))) (gcons a b)) = fun (tys_from a) (ty_from b)
  ty_from (gcons (gnum (suc (suc (suc (suc (suc (suc zero))))))) a) = obj (fields_from a)
  ty_from _ = dyn

  pub tys_from : Gv → Tys
  tys_from (gcons (gnum zero) g) = no_tys
  tys_from (gcons (gnum (suc zero)) (gcons a b)) = more_tys (ty_from a) (tys_from b)
  tys_from _ = no_tys

  pub fields_from : Gv → Fields
  fields_from (gcons (gnum zero) g) = no_fields
  fields_from (gcons (gnum (suc zero)) (gcons a (gcons b c))) = more_fields (text_from a) (ty_from b) (fields_from c)
  fields_from _ = no_fields

mutual
  pub ty_back : (x : Ty) → ty_from (ty_to x) ≡ x
  ty_back dyn = refl
  ty_back int = refl
  ty_back bool = refl
  ty_back str = refl
  ty_back nil = refl
  ty_back (fun a b) = λ i. fun (tys_back a i) (ty_back b i)
  ty_back (obj a) = λ i. obj (fields_back a i)

  pub tys_back : (x : Tys) → tys_from (tys_to x) ≡ x
  tys_back no_tys = refl
  tys_back (more_tys a b) = λ i. more_tys (ty_back a i) (tys_back b i)

  pub fields_back : (x : Fields) → fields_from (fields_to x) ≡ x
  fields_back no_fields = refl
  fields_back (more_fields a b c) = λ i. more_fields (text_back a i) (ty_back b i) (fields_back c i)

abbrev pub ty_code : Coded Ty
ty_code = code_by Gv gv_code ty_to ty_from ty_back

abbrev pub ty_option_to : Option Ty → Gv
ty_option_to None = gnil
ty_option_to (Some a) = gcons gnil (ty_to a)

abbrev pub ty_option_from : Gv → Option Ty
ty_option_from (gcons gnil a) = Some (ty_from a)
ty_option_from _ = None

pub ty_option_back : (x : Option Ty) → ty_option_from (ty_option_to x) ≡ x
ty_option_back None = refl
ty_option_back (Some a) = λ i. Some (ty_back a i)
