use Rattle.std.proofs.Common.{◌≡◌, ◌↔◌, length}
use Rattle.std.specs.Slice.Iter.{iter_rest}
use Rattle.std.specs.Iterator.Adapters.{zip_first, zip_second}
use Rattle.mono_syntax.specs.TyView.{fields}
use Rattle.mono_tree.specs.FieldNames.{names_of}
use Rattle.type_shapes.proofs.numbering.same_names.Given as goal

abbrev pub invariant-loop-name : goal.invariant-loop-name
invariant-loop-name l =
    let left = iter_rest (zip_first l.name-iterator) in
    let right = iter_rest (zip_second l.name-iterator) in
    record {
      same : (left ≡ names_of (fields right)) ↔ (l.list ≡ names_of (fields l.members));
      even : length left ≡ length right;
    }
