-- Computed: the types of all expressions so far, as the code keeps them.
use Rattle.std.specs.Prelude.{[], ◌∷◌, ◌++◌}
use Rattle.mono_syntax.specs.Ty.{Ty}
use Rattle.type_list.specs.computed.TypeList.{with_type}
use Rattle.consistency.specs.declared.trace.Trace.{Trace}

-- one more expression, which has this type
abbrev pub with_expr : Trace → Ty → Trace
with_expr b t = let x = with_type b.types t in record { types = x.types; exprs = b.exprs ++ x.at ∷ [] }
