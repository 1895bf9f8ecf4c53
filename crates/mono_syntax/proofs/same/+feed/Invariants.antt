use Rattle.std.proofs.Common.{◌≡◌, ◌+◌, ◌*◌, drop}
use Rattle.std.specs.Prelude.{fold}
use Rattle.mono_syntax.specs.Ty.{ty_size, tys_size, fields_size}
use Rattle.mono_syntax.specs.TyView.{tys, fields}
use Rattle.mono_syntax.specs.computed.TyEq.{tys_fed, fields_fed}
use Rattle.mono_syntax.proofs.same.+feed.Given as goal

abbrev pub decreases-feed_node : goal.decreases-feed_node
decreases-feed_node g l = 2 * ty_size l.a.now

abbrev pub decreases-feed_all : goal.decreases-feed_all
decreases-feed_all g l = 2 * tys_size (tys l.types.now) + 1

abbrev pub decreases-feed_fields : goal.decreases-feed_fields
decreases-feed_fields g l = 2 * fields_size (fields l.members.now) + 1

abbrev pub invariant-feed_all-loop-ty : goal.invariant-feed_all-loop-ty
invariant-feed_all-loop-ty g l = fold g.H.Hasher.write l.state (tys_fed (tys (drop l.ty-index l.types))) ≡ fold g.H.Hasher.write l.initial.state (tys_fed (tys l.types))

abbrev pub invariant-feed_fields-loop-member : goal.invariant-feed_fields-loop-member
invariant-feed_fields-loop-member g l = fold g.H.Hasher.write l.state (fields_fed (fields (drop l.member-index l.members))) ≡ fold g.H.Hasher.write l.initial.state (fields_fed (fields l.members))
