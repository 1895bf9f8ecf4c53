use Rattle.std.proofs.Common.{◌≡◌, ◌++◌, drop}
use Rattle.mono_syntax.specs.TyView.{fields}
use Rattle.mono_tree.specs.FieldNames.{names_of}
use Rattle.type_shapes.proofs.numbering.names_list.Given as goal

abbrev pub invariant-loop-member : goal.invariant-loop-member
invariant-loop-member l = l.list ++ names_of (fields (drop l.member-index l.members)) ≡ names_of (fields l.members)
