-- Computed: the types that annotations write, as the code finds them.
use Rattle.std.specs.Prelude.{List, [], ◌∷◌, ◌++◌, map, Option, Some, option_and_then}
use Rattle.std.specs.Option.{option_map}
use Rattle.mono_syntax.specs.declared.cast.NamedType.{NamedType}
use Rattle.mono_syntax.specs.declared.tree.Field.{Field}
use Rattle.mono_syntax.specs.declared.tree.FieldDef.{FieldDef}
use Rattle.mono_syntax.specs.Ann.{Ann, ann, Anns, no_anns, more_anns}
use Rattle.mono_syntax.specs.Ann as form
use Rattle.mono_syntax.specs.Ty.{Ty, dyn, int, bool, str, nil, fun}
use Rattle.mono_syntax.specs.TyView.{tys}
use Rattle.mono_tree.specs.TypedPrograms.{type_of_name}
use Rattle.known_names.specs.computed.TypeTests.{type_or_dyn}

abbrev mutual
  -- the type that the annotation writes, where the classes have these types
  pub written : List NamedType → Ann → Option Ty
  written cs (ann p f) = written_form cs f

  pub written_form : List NamedType → form.Form → Option Ty
  written_form cs form.dyn = Some dyn
  written_form cs form.int = Some int
  written_form cs form.bool = Some bool
  written_form cs form.str = Some str
  written_form cs form.nil = Some nil
  written_form cs (form.class w) = type_of_name cs w.text
  written_form cs (form.fun ps r) = option_and_then (λ ts. option_map (λ t. fun (tys ts) t) (written cs r)) (written_all cs [] ps)

  -- the types of annotations behind those that are done
  pub written_all : List NamedType → List Ty → Anns → Option (List Ty)
  written_all cs done no_anns = Some done
  written_all cs done (more_anns a ps) = option_and_then (λ t. written_all cs (done ++ t ∷ []) ps) (written cs a)

-- a field with its type
abbrev pub known_field : List NamedType → FieldDef → Field
known_field cs d = record { name = d.name.text; ty = type_or_dyn (written cs d.ann) }

-- the fields of a class with their types
abbrev pub known_fields : List NamedType → List FieldDef → List Field
known_fields cs ds = map (known_field cs) ds
