use Rattle.std.proofs.Common.{◌≡◌, ◌+◌, ◌*◌, ◌≤◌, length}
use Rattle.std.specs.Slice.Iter.{iter_rest}
use Rattle.std.specs.Iterator.Adapters.{zip_first, zip_second}
use Rattle.mono_syntax.specs.Ty.{ty_size, tys_size, fields_size}
use Rattle.mono_syntax.specs.TyView.{tys, fields}
use Rattle.mono_syntax.specs.computed.TyEq.{tys_eq, fields_eq}
use Rattle.mono_syntax.proofs.same.+same.Given as goal

abbrev pub decreases-same_node : goal.decreases-same_node
decreases-same_node l = 2 * ty_size l.a.now

abbrev pub decreases-are_same : goal.decreases-are_same
decreases-are_same l = 2 * tys_size (tys l.types.now) + 1

abbrev pub decreases-have_same : goal.decreases-have_same
decreases-have_same l = 2 * fields_size (fields l.members.now) + 1

abbrev pub invariant-are_same-loop-a : goal.invariant-are_same-loop-a
invariant-are_same-loop-a l =
    let left = iter_rest (zip_first l.a-iterator) in
    let right = iter_rest (zip_second l.a-iterator) in
    record {
      same : tys_eq (tys left) (tys right) ≡ tys_eq (tys l.types) (tys l.others);
      even : length left ≡ length right;
      small : tys_size (tys left) ≤ tys_size (tys l.types);
    }

abbrev pub invariant-have_same-loop-a : goal.invariant-have_same-loop-a
invariant-have_same-loop-a l =
    let left = iter_rest (zip_first l.a-iterator) in
    let right = iter_rest (zip_second l.a-iterator) in
    record {
      same : fields_eq (fields left) (fields right) ≡ fields_eq (fields l.members) (fields l.others);
      even : length left ≡ length right;
      small : fields_size (fields left) ≤ fields_size (fields l.members);
    }
