use Rattle.std.proofs.Common.{◌≡◌, length}
use Rattle.std.specs.Slice.Iter.{iter_rest}
use Rattle.std.specs.Iterator.Adapters.{zip_first, zip_second}
use Rattle.mono_syntax.specs.TyView.{fields}
use Rattle.mono_tree.specs.FieldNames.{names_of}
use Rattle.cast_machine.specs.Fits.{names_same}
use Rattle.calculus_cells.proofs.fits.same_names.Given as goal

abbrev pub invariant-loop-a : goal.invariant-loop-a
invariant-loop-a l =
    let left = iter_rest (zip_first l.a-iterator) in
    let right = iter_rest (zip_second l.a-iterator) in
    record {
      same : names_same (names_of (fields left)) (names_of (fields right)) ≡ names_same (names_of (fields l.members)) (names_of (fields l.others));
      even : length left ≡ length right;
    }
