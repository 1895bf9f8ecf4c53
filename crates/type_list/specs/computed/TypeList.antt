-- Computed: the list of types in which each stands once, as the code keeps it.
use Rattle.std.specs.Prelude.{List}
use Rattle.std.specs.List.{position_or_len}
use Rattle.indexmap.specs.IndexSet.{insert_key}
use Rattle.mono_syntax.specs.Ty.{Ty}
use Rattle.mono_syntax.specs.computed.TyEq.{ty_eq}
use Rattle.type_list.specs.declared.list.Placed.{Placed}

-- the position of a type in the list, which gets it at its end where it isn't there yet
abbrev pub with_type : List Ty → Ty → Placed
with_type ts t = record { at = record { 0 = position_or_len (ty_eq t) ts }; types = insert_key ty_eq ts t }
