use Rattle.std.proofs.Common.{◌↔◌, ◌+◌, ◌*◌, drop}
use Rattle.mono_syntax.specs.Ty.{ty_size, tys_size, fields_size}
use Rattle.mono_syntax.specs.TyView.{tys, fields}
use Rattle.mono_tree.specs.Static.{AreStatic, HaveStatic}
use Rattle.mono_tree.proofs.statics.+statics.Given as goal

abbrev pub decreases-is_static : goal.decreases-is_static
decreases-is_static l = 2 * ty_size l.a.now

abbrev pub decreases-are_static : goal.decreases-are_static
decreases-are_static l = 2 * tys_size (tys l.types.now) + 1

abbrev pub decreases-have_static : goal.decreases-have_static
decreases-have_static l = 2 * fields_size (fields l.members.now) + 1

-- those so far are static
abbrev pub invariant-are_static-loop-t : goal.invariant-are_static-loop-t
invariant-are_static-loop-t l = AreStatic (tys (drop l.t-index l.types)) ↔ AreStatic (tys l.types)

abbrev pub invariant-have_static-loop-member : goal.invariant-have_static-loop-member
invariant-have_static-loop-member l = HaveStatic (fields (drop l.member-index l.members)) ↔ HaveStatic (fields l.members)
