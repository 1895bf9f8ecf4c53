use Rattle.std.proofs.Common.{◌≡◌, ◌<◌, ℕ}
use Rattle.std.specs.Prelude.{slice_get, Some}
use Rattle.mono_syntax.specs.TyView.{fields}
use Rattle.mono_tree.specs.FieldNames.{names_of}
use Rattle.type_shapes.proofs.numbering.group_in.Given as goal

abbrev pub invariant-loop-i : goal.invariant-loop-i
invariant-loop-i l = (k : ℕ) → k < l.i → slice_get l.names k ≡ Some (names_of (fields l.members)) → ⊥
