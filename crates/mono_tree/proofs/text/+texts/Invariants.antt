use Rattle.std.proofs.Common.{◌≡◌, ◌+◌, ◌*◌, ◌++◌, drop}
use Rattle.mono_syntax.specs.Ty.{ty_size, tys_size, fields_size}
use Rattle.mono_syntax.specs.TyView.{tys, fields}
use Rattle.mono_tree.specs.TypeText.{texts_of, field_texts, joined_on}
use Rattle.mono_tree.proofs.text.+texts.Given as goal

abbrev pub decreases-put_type : goal.decreases-put_type
decreases-put_type l = 3 * ty_size l.a.now

abbrev pub decreases-put_types : goal.decreases-put_types
decreases-put_types l = 3 * tys_size (tys l.types.now) + 2

abbrev pub decreases-put_more_types : goal.decreases-put_more_types
decreases-put_more_types l = 3 * tys_size (tys l.types.now) + 1

abbrev pub decreases-put_fields : goal.decreases-put_fields
decreases-put_fields l = 3 * fields_size (fields l.members.now) + 2

abbrev pub decreases-put_more_fields : goal.decreases-put_more_fields
decreases-put_more_fields l = 3 * fields_size (fields l.members.now) + 1

abbrev pub decreases-put_field : goal.decreases-put_field
decreases-put_field l = 3 * ty_size l.member.now.ty + 1

-- the text so far, and the pieces that are left behind it
abbrev pub invariant-put_more_types-loop-t : goal.invariant-put_more_types-loop-t
invariant-put_more_types-loop-t l = l.text.items ++ joined_on (texts_of (tys (drop l.t-index l.types))) ≡ l.initial.text.items ++ joined_on (texts_of (tys l.types))

abbrev pub invariant-put_more_fields-loop-member : goal.invariant-put_more_fields-loop-member
invariant-put_more_fields-loop-member l = l.text.items ++ joined_on (field_texts (fields (drop l.member-index l.members))) ≡ l.initial.text.items ++ joined_on (field_texts (fields l.members))
