-- Computed: sizes of types, counted up to just over the greatest that is allowed, so that a size is found without making its type.
use Rattle.std.specs.Prelude.{◌+◌, Bool, ◌||◌, nat_lt, min, max}
use Rattle.mono_syntax.specs.Limits.{most_nodes, greatest_depth}
use Rattle.mono_syntax.specs.Ty.{Ty}
use Rattle.mono_tree.specs.declared.size.Size.{Size}
use Rattle.mono_tree.specs.Sizes.{nodes_of, depth_of}

-- the size of a type
abbrev pub measured : Ty → Size
measured t = record { nodes = min (nodes_of t) (most_nodes + 1); depth = min (depth_of t) (greatest_depth + 1) }

-- no part yet
abbrev pub nothing : Size
nothing = record { nodes = 0; depth = 0 }

-- some parts and one more
abbrev pub joined : Size → Size → Size
joined a b = record { nodes = min (a.nodes + b.nodes) (most_nodes + 1); depth = max a.depth b.depth }

-- the whole of these parts
abbrev pub grown : Size → Size
grown s = record { nodes = min (s.nodes + 1) (most_nodes + 1); depth = min (s.depth + 1) (greatest_depth + 1) }

-- a type without parts
abbrev pub leaf : Size
leaf = record { nodes = 1; depth = 1 }

-- over the limits
abbrev pub is_too_large : Size → Bool
is_too_large s = nat_lt most_nodes s.nodes || nat_lt greatest_depth s.depth
