-- Computed: sizes of types, counted up to just over the greatest that is allowed, so that no type is made.
use Rattle.std.specs.Prelude.{◌≡◌, ℕ, List, [], ◌∷◌, Option, Some, None, map, option_and_then}
use Rattle.std.specs.Option.{option_map}
use Rattle.mono_syntax.specs.declared.tree.ClassDef.{ClassDef}
use Rattle.mono_syntax.specs.declared.tree.FieldDef.{FieldDef}
use Rattle.mono_syntax.specs.declared.tree.FuncDef.{FuncDef}
use Rattle.mono_syntax.specs.declared.tree.Param.{Param}
use Rattle.mono_syntax.specs.Ann.{Ann, ann, Anns, no_anns, more_anns}
use Rattle.mono_syntax.specs.Ann as form
use Rattle.mono_syntax.specs.Ty.{Ty, dyn}
use Rattle.mono_tree.specs.declared.size.Size.{Size}
use Rattle.class_types.specs.computed.Made.{AreSettled}
use Rattle.mono_tree.specs.computed.CountedSizes.{measured, nothing, joined, grown, leaf}

abbrev mutual
  pub size_by : (List ℕ → Option Size) → Ann → Option Size
  size_by named (ann p (form.class w)) = named w.text
  size_by named (ann p (form.fun as_ a)) = option_map grown (option_and_then (λ s. option_map (joined s) (size_by named a)) (sizes_onto named nothing as_))
  size_by named (ann p f) = Some leaf

  -- the parts so far, and those that these annotations write
  pub sizes_onto : (List ℕ → Option Size) → Size → Anns → Option Size
  sizes_onto named parts no_anns = Some parts
  sizes_onto named parts (more_anns a as_) = option_and_then (λ s. sizes_onto named (joined parts s) as_) (size_by named a)

abbrev pub fields_onto : (List ℕ → Option Size) → Size → List FieldDef → Option Size
fields_onto named parts [] = Some parts
fields_onto named parts (f ∷ fs) = option_and_then (λ s. fields_onto named (joined parts s) fs) (size_by named f.ann)

abbrev pub class_size_by : (List ℕ → Option Size) → ClassDef → Option Size
class_size_by named d = option_map grown (fields_onto named nothing d.fields)

abbrev pub any_size_by : (List ℕ → Option Size) → Option Ann → Option Size
any_size_by named None = Some leaf
any_size_by named (Some a) = size_by named a

abbrev pub params_onto : (List ℕ → Option Size) → Size → List Param → Option Size
params_onto named parts [] = Some parts
params_onto named parts (p ∷ ps) = option_and_then (λ s. params_onto named (joined parts s) ps) (any_size_by named p.ann)

abbrev pub function_size_by : (List ℕ → Option Size) → FuncDef → Option Size
function_size_by named d = option_map grown (option_and_then (λ s. option_map (joined s) (any_size_by named d.result)) (params_onto named nothing d.params))

-- what a name of no class counts as: nothing, or a leaf
abbrev pub stray_type : Option Size → Option Ty
stray_type None = None
stray_type (Some s) = Some dyn

-- these are the sizes of the classes' types, where each class has the type that its fields give, or none
pub record AreMeasured (cs : List ClassDef) (stray : Option Size) (sizes : List (Option Size)) : Type 0 where
  pub own : List (Option Ty)
  pub measured : sizes ≡ map (option_map measured) own
  pub settled : AreSettled cs (stray_type stray) own
