-- How large a type is.
use Rattle.std.specs.Prelude.{ℕ, ◌+◌, ◌<◌, ◌⊎◌, max}
use Rattle.mono_syntax.specs.Limits.{most_nodes, greatest_depth}
use Rattle.mono_syntax.specs.Ty.{Ty, fun, obj, Tys, no_tys, more_tys, Fields, no_fields, more_fields}

-- a leaf is one node, every other type one and the sum of its parts
abbrev mutual
  pub nodes_of : Ty → ℕ
  nodes_of (fun ts t) = nodes_of_all ts + nodes_of t + 1
  nodes_of (obj fs) = nodes_of_fields fs + 1
  nodes_of _ = 1

  pub nodes_of_all : Tys → ℕ
  nodes_of_all no_tys = 0
  nodes_of_all (more_tys t ts) = nodes_of t + nodes_of_all ts

  pub nodes_of_fields : Fields → ℕ
  nodes_of_fields no_fields = 0
  nodes_of_fields (more_fields n t fs) = nodes_of t + nodes_of_fields fs

-- a leaf is 1 deep, every other type 1 more than its deepest part; an object without fields is a leaf
abbrev mutual
  pub depth_of : Ty → ℕ
  depth_of (fun ts t) = max (depth_of_all ts) (depth_of t) + 1
  depth_of (obj fs) = depth_of_fields fs + 1
  depth_of _ = 1

  pub depth_of_all : Tys → ℕ
  depth_of_all no_tys = 0
  depth_of_all (more_tys t ts) = max (depth_of t) (depth_of_all ts)

  pub depth_of_fields : Fields → ℕ
  depth_of_fields no_fields = 0
  depth_of_fields (more_fields n t fs) = max (depth_of t) (depth_of_fields fs)

-- over the limits
abbrev pub IsTooLarge : Ty → Type 0
IsTooLarge t = (most_nodes < nodes_of t) ⊎ (greatest_depth < depth_of t)
