-- What is too large in a script: a type, a class, a list of parameters or arguments, or a block.
use Rattle.std.specs.Prelude.{◌≡◌, ◌<◌, Some, Contains, length, slice_get, []}
use Rattle.mono_syntax.specs.Limits.{most_fields, most_parameters, most_arguments, most_names}
use Rattle.mono_syntax.specs.declared.leaf.Place.{Place}
use Rattle.mono_syntax.specs.declared.leaf.Word.{Word}
use Rattle.mono_syntax.specs.declared.refusal.Reason.{Reason}
use Rattle.mono_syntax.specs.declared.refusal.Reason.TheVariants.{TypeTooLarge, TooManyFields, TooManyParameters, TooManyArguments, TooManyNames}
use Rattle.mono_syntax.specs.declared.tree.ClassDef.{ClassDef}
use Rattle.mono_syntax.specs.declared.tree.FuncDef.{FuncDef}
use Rattle.mono_syntax.specs.declared.tree.Script.{Script}
use Rattle.mono_syntax.specs.Ann.{Ann}
use Rattle.mono_syntax.specs.Ty.{Ty}
use Rattle.script_rules.specs.Scoping.{class_list, function_list, main_block}
use Rattle.script_rules.specs.Writes.{Writes, IsClassType, IsFunctionType}
use Rattle.mono_tree.specs.Sizes.{IsTooLarge}
use Rattle.script_rules.specs.SourceParts.{Counted, place_of, callables, annotation, arguments, parts_of, block_names}

-- a fault of size: where it stands, and what is over its limit
pub data SizeFault (s : Script) : Place → Reason → Type 0 where
  -- the type of a class, at its name
  large_class : {p : Place} (d : ClassDef) (t : Ty) → Contains (class_list s) d → IsClassType (class_list s) d t → IsTooLarge t
      → p ≡ d.name.place → SizeFault s p TypeTooLarge
  -- the declared type of a function, at its name
  large_function : {p : Place} (d : FuncDef) (t : Ty) → Contains (function_list s) d → IsFunctionType (class_list s) d t → IsTooLarge t
      → p ≡ d.name.place → SizeFault s p TypeTooLarge
  -- the type that an annotation writes, at its first token
  large_type : {p : Place} (a : Ann) (t : Ty) → Contains (parts_of s.items) (annotation a) → Writes (class_list s) a t → IsTooLarge t
      → p ≡ place_of a → SizeFault s p TypeTooLarge
  -- the fields of a class, at its name
  many_fields : {p : Place} (d : ClassDef) → Contains (class_list s) d → most_fields < length d.fields → p ≡ d.name.place
      → SizeFault s p TooManyFields
  -- the parameters of a function, at its name
  many_parameters : {p : Place} (d : FuncDef) → Contains (function_list s) d → most_parameters < length d.params → p ≡ d.name.place
      → SizeFault s p TooManyParameters
  -- those of a Callable, at its word
  wide_callable : {p : Place} (a : Ann) (c : Counted) → Contains (parts_of s.items) (annotation a) → Contains (callables a) c
      → most_parameters < c.count → p ≡ c.place → SizeFault s p TooManyParameters
  -- the arguments of a call, a print or a start, at the opening bracket
  many_arguments : {p : Place} (c : Counted) → Contains (parts_of s.items) (arguments c) → most_arguments < c.count → p ≡ c.place
      → SizeFault s p TooManyArguments
  -- the names of a function's block, at the first over the limit
  crowded_function : {p : Place} (d : FuncDef) (w : Word) → Contains (function_list s) d
      → slice_get (block_names d.params d.body) most_names ≡ Some w → p ≡ w.place → SizeFault s p TooManyNames
  -- those of the main block
  crowded_main : {p : Place} (w : Word) → slice_get (block_names [] (main_block s)) most_names ≡ Some w → p ≡ w.place
      → SizeFault s p TooManyNames
