use Rattle.std.proofs.Common.{◌≡◌, ◌+◌, ◌*◌, drop}
use Rattle.mono_syntax.specs.Ty.{ty_size, tys_size, fields_size}
use Rattle.mono_syntax.specs.TyView.{tys, fields}
use Rattle.mono_tree.specs.ClosedList.{put_all, all_parts_first, field_parts_first}
use Rattle.type_shapes.specs.Limits.{IsWithinLimits}
use Rattle.type_shapes.specs.Numbered.{IsNumbered}
use Rattle.meet_closure.proofs.adding.+adding.Given as goal

abbrev pub decreases-add : goal.decreases-add
decreases-add l = 3 * ty_size l.ty.now + 1

abbrev pub decreases-add_parts : goal.decreases-add_parts
decreases-add_parts l = 3 * ty_size l.ty.now

abbrev pub decreases-add_all : goal.decreases-add_all
decreases-add_all l = 3 * tys_size (tys l.types.now) + 2

abbrev pub decreases-add_fields : goal.decreases-add_fields
decreases-add_fields l = 3 * fields_size (fields l.members.now) + 2

abbrev pub invariant-add_all-loop-ty : goal.invariant-add_all-loop-ty
invariant-add_all-loop-ty l = record {
  same : put_all l.set.keys (all_parts_first (tys (drop l.ty-index l.types))) ≡ put_all l.initial.set.keys (all_parts_first (tys l.types));
  numbered : IsNumbered l.names.items l.set.keys l.shapes.keys;
  fine : IsWithinLimits l.set.keys;
}

abbrev pub invariant-add_fields-loop-member : goal.invariant-add_fields-loop-member
invariant-add_fields-loop-member l = record {
  same : put_all l.set.keys (field_parts_first (fields (drop l.member-index l.members))) ≡ put_all l.initial.set.keys (field_parts_first (fields l.members));
  numbered : IsNumbered l.names.items l.set.keys l.shapes.keys;
  fine : IsWithinLimits l.set.keys;
}
