use Rattle.std.proofs.Common.{◌≡◌, ◌↔◌, ◌+◌, ◌*◌, ◌≤◌, length}
use Rattle.std.specs.Slice.Iter.{iter_rest}
use Rattle.std.specs.Iterator.Adapters.{zip_first, zip_second}
use Rattle.mono_syntax.specs.Ty.{ty_size, tys_size, fields_size}
use Rattle.mono_syntax.specs.TyView.{tys, fields}
use Rattle.mono_tree.specs.Precise.{ArePrecise, HavePrecise}
use Rattle.mono_tree.proofs.precision.+precise.Given as goal

abbrev pub decreases-precise : goal.decreases-precise
decreases-precise l = 2 * ty_size l.a.now

abbrev pub decreases-are_precise : goal.decreases-are_precise
decreases-are_precise l = 2 * tys_size (tys l.types.now) + 1

abbrev pub decreases-have_precise : goal.decreases-have_precise
decreases-have_precise l = 2 * fields_size (fields l.members.now) + 1

-- what is left decides, and is no larger than all
abbrev pub invariant-are_precise-loop-a : goal.invariant-are_precise-loop-a
invariant-are_precise-loop-a l =
    let left = iter_rest (zip_first l.a-iterator) in
    let right = iter_rest (zip_second l.a-iterator) in
    record {
      same : ArePrecise (tys left) (tys right) ↔ ArePrecise (tys l.types) (tys l.others);
      even : length left ≡ length right;
      small : tys_size (tys left) ≤ tys_size (tys l.types);
    }

abbrev pub invariant-have_precise-loop-a : goal.invariant-have_precise-loop-a
invariant-have_precise-loop-a l =
    let left = iter_rest (zip_first l.a-iterator) in
    let right = iter_rest (zip_second l.a-iterator) in
    record {
      same : HavePrecise (fields left) (fields right) ↔ HavePrecise (fields l.members) (fields l.others);
      even : length left ≡ length right;
      small : fields_size (fields left) ≤ fields_size (fields l.members);
    }
