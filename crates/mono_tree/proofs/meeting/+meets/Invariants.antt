use Rattle.std.proofs.Common.{◌≡◌, ◌+◌, ◌*◌, ◌≤◌, length}
use Rattle.std.specs.Option.{option_map}
use Rattle.std.specs.Slice.Iter.{iter_rest}
use Rattle.std.specs.Iterator.Adapters.{zip_first, zip_second}
use Rattle.mono_syntax.specs.Ty.{ty_size, tys_size, fields_size}
use Rattle.mono_syntax.specs.TyView.{tys, fields}
use Rattle.mono_tree.specs.Meet.{meet_all, meet_fields}
use Rattle.mono_tree.proofs.MeetTurns.{append, append_fields}
use Rattle.mono_tree.proofs.meeting.+meets.Given as goal

abbrev pub decreases-met : goal.decreases-met
decreases-met l = 3 * ty_size l.a.now

abbrev pub decreases-met_part : goal.decreases-met_part
decreases-met_part l = 3 * ty_size l.a.now + 1

abbrev pub decreases-met_all : goal.decreases-met_all
decreases-met_all l = 3 * tys_size (tys l.types.now) + 2

abbrev pub decreases-met_fields : goal.decreases-met_fields
decreases-met_fields l = 3 * fields_size (fields l.members.now) + 2

-- what is made so far before the meet of what is left is the meet of all
abbrev pub invariant-met_all-loop-a : goal.invariant-met_all-loop-a
invariant-met_all-loop-a l =
    let left = iter_rest (zip_first l.a-iterator) in
    let right = iter_rest (zip_second l.a-iterator) in
    record {
      same : option_map (append l.made) (meet_all (tys left) (tys right)) ≡ meet_all (tys l.types) (tys l.others);
      even : length left ≡ length right;
      small : tys_size (tys left) ≤ tys_size (tys l.types);
    }

abbrev pub invariant-met_fields-loop-a : goal.invariant-met_fields-loop-a
invariant-met_fields-loop-a l =
    let left = iter_rest (zip_first l.a-iterator) in
    let right = iter_rest (zip_second l.a-iterator) in
    record {
      same : option_map (append_fields l.made) (meet_fields (fields left) (fields right)) ≡ meet_fields (fields l.members) (fields l.others);
      even : length left ≡ length right;
      small : fields_size (fields left) ≤ fields_size (fields l.members);
    }
